-- What the judgement of fields says about them.
use Rattle.std.proofs.Common.{◌≡◌, ◌∙◌, sym, ℕ, ◌≤◌, ◌==◌, ◌||◌, not, nat_lt, ltb-true, lt-ltb}
use Rattle.std.proofs.Common.{Bool, true, false, length, Option, Some, None, is_some, List, Result}
use Rattle.std.proofs.Common.{Ok, Err, refl, ap, arith, if◌then◌else◌}
use Rattle.std.proofs.lemmas.Bool.Decides.{nat_tests}
use Rattle.urb_names.specs.CarriedPackets.{Carried}
use Rattle.urb_names.specs.declared.flags.Flags.{Flags}
use Rattle.urb_names.specs.declared.limits.TheConstants.{MAX_PAYLOAD}
use Rattle.urb_names.specs.declared.refusal.PacketFault.{PacketFault}
use Rattle.urb_names.specs.declared.refusal.PacketFault.TheVariants as fault
use Rattle.urb_names.proofs.FlagNumbers.{number_again, number_below, said_again}
use Rattle.urb_names.specs.PacketGrammar.{Fields, FitsVersion, IsFields, IsPacket, are_flags, carried_of}
use Rattle.urb_names.specs.PacketGrammar.{fields_of, flags_byte, flags_number, flags_of, has_flags}
use Rattle.urb_names.specs.PacketGrammar.{is_in_range, judged, longest_payload, version_of}

-- the test passed, because the result is not its fault
passed : {X E : Type 0} (b : Bool) (e : E) (y : Result X E) (p : X)
    → (if b then Err e else y) ≡ Ok p → (b ≡ false) × (y ≡ Ok p)
passed true e y p h = absurd (cc)
passed false e y p h = (refl, h)

last_passed : {X E : Type 0} (b : Bool) (x : X) (e : E) (p : X) → (if b then Ok x else Err e) ≡ Ok p
    → (b ≡ true) × (x ≡ p)
last_passed true x e p h = (refl, cc)
last_passed false x e p h = absurd (cc)

-- no payload limit exceeds the greatest one
longest_below : (flags : Option ℕ) → longest_payload flags ≤ MAX_PAYLOAD
longest_below None = omega arith
longest_below (Some byte) = omega arith

-- a payload within the limit of its flags fits its version
fits_version : (flags : Option ℕ) (payload : List ℕ) → length payload ≤ longest_payload flags
    → FitsVersion (flags_of flags) payload
fits_version None payload h = h
fits_version (Some byte) payload h = tt

-- a payload that fits its version is within the limit of its flags
within_version : (flags : Option Flags) (payload : List ℕ) → FitsVersion flags payload
    → length payload ≤ MAX_PAYLOAD → length payload ≤ longest_payload (flags_byte flags)
within_version None payload fits h = fits
within_version (Some flags) payload fits h = h

-- what holds for fields that pass every test
pub record Sound (f : Fields) : Type 0 where
  -- the magic bytes are those of a packet
  pub magic : f.magic ≡ 0x5542
  -- the version is one or two
  pub version : ((f.version == 1) || (f.version == 2)) ≡ true
  -- the size is the payload's length
  pub size : f.size ≡ length f.payload
  -- the size is within the limit for its flags
  pub short : f.size ≤ longest_payload f.flags
  -- the fields are in their ranges
  pub range : is_in_range f ≡ true

-- the judgement that remains after the earlier tests
abbrev in_range : Fields → Result Carried PacketFault
in_range f = if is_in_range f then Ok (carried_of f) else Err fault.Range

abbrev sized : Fields → Result Carried PacketFault
sized f =
    if nat_lt (longest_payload f.flags) f.size
    || not (f.size == length f.payload) then Err fault.Length else in_range f

abbrev versioned : Fields → Result Carried PacketFault
versioned f = if not ((f.version == 1) || (f.version == 2)) then Err fault.Version else sized f

-- accepted fields pass every test, and the accepted packet is the one that they describe
pub sound : (f : Fields) (p : Carried) → judged f ≡ Ok p → Sound f × (carried_of f ≡ p)
unfolding judged
sound f p h =
    let magic = passed (not (f.magic == 0x5542)) fault.Magic (versioned f) p h in
    let version =
    passed (not ((f.version == 1) || (f.version == 2))) fault.Version (sized f) p magic.1 in
    let size =
    passed (nat_lt (longest_payload f.flags) f.size || not (f.size == length f.payload))
    fault.Length (in_range f) p version.1 in
    let range = last_passed (is_in_range f) (carried_of f) fault.Range p size.1 in (
      record {
        magic = grind (arith, nat_tests, magic.0);
        version = grind (arith, nat_tests, version.0);
        size = grind (arith, nat_tests, size.0);
        short = grind (arith, nat_tests, size.0);
        range = range.0;
      },
      range.1,
    )

-- the version is determined by the flags
version_again : (flags : Option ℕ) (magic version : ℕ) → magic ≡ 0x5542
    → ((version == 1) || (version == 2)) ≡ true → is_some flags ≡ has_flags magic version →
    version ≡ version_of (flags_of flags)
version_again None magic version is one_of as_flags = grind (arith, nat_tests, is, one_of, as_flags)
version_again (Some byte) magic version is one_of as_flags =
    grind (arith, nat_tests, is, one_of, as_flags)

-- a byte of at most three is the byte of the flags that it encodes
byte_again : (flags : Option ℕ) → are_flags flags ≡ true → flags ≡ flags_byte (flags_of flags)
byte_again None h = refl
byte_again (Some byte) h = ap (λ (n : ℕ). Some n) (number_again byte (ltb-true byte 4 h))

-- sound fields are the fields of a packet
pub fields_again : (f : Fields) → IsFields f → Sound f → f ≡ fields_of (carried_of f)
fields_again f fit s =
    let version = version_again f.flags f.magic f.version s.magic s.version fit.has_flags in
    let flags = byte_again f.flags (grind (arith, nat_tests, s.range)) in
    λ i. record {
      magic = s.magic i;
      version = version i;
      source = f.source;
      target =
          f.target;
      flags = flags i;
      sender = f.sender;
      seq = f.seq;
      client = f.client;
      number =
          f.number;
      size = s.size i;
      payload = f.payload;
    }

-- fields that fit their bytes and pass every test describe a packet
pub is_packet : (f : Fields) → IsFields f → Sound f → IsPacket (carried_of f)
is_packet f fit s =
    record {
      source = grind (arith, nat_tests, s.range);
      target = grind (arith, nat_tests, s.range);
      apart = λ e. absurd (grind (arith, nat_tests, s.range, e));
      name = record {
        sender = grind (arith, nat_tests, s.range);
        seq =
            (grind (arith, nat_tests, s.range), fit.seq);
      };
      message = record {
        client = (grind (arith, nat_tests, s.range), fit.client);
        number =
            (grind (arith, nat_tests, s.range), fit.number);
        payload =
            omega (arith, s.size, s.short, longest_below f.flags);
      };
      version = fits_version f.flags f.payload (omega (arith, s.size, s.short));
    }

-- the version and the flags of a packet pass, and give its flags back
version_passes : (flags : Option Flags)
    → ((version_of flags == 1) || (version_of flags == 2)) ≡ true
version_passes None = refl
version_passes (Some flags) = refl

-- the byte of a packet's flags is at most three
pub flags_pass : (flags : Option Flags) → are_flags (flags_byte flags) ≡ true
flags_pass None = refl
flags_pass (Some flags) = lt-ltb (flags_number flags) 4 (number_below flags)

flags_say : (flags : Option Flags) → flags_of (flags_byte flags) ≡ flags
flags_say None = refl
flags_say (Some flags) = ap (λ (f : Flags). Some f) (said_again flags)

-- the fields of a packet pass
pub accepted : (p : Carried) → IsPacket p → judged (fields_of p) ≡ Ok p
unfolding judged
accepted p h =
    let flags : are_flags (flags_byte p.flags) ≡ true = flags_pass p.flags in
    let range : is_in_range (fields_of p) ≡ true =
    grind (
      arith,
      nat_tests,
      flags,
      h.source.0,
      h.source.1,
      h.target.0,
      h.target.1,
      h.apart,
      h.name.sender.0,
      h.name.sender.1,
      h.name.seq.0,
      h.message.client.0,
      h.message.number.0,
    ) in
    let version : ((version_of p.flags == 1) || (version_of p.flags == 2)) ≡ true =
    version_passes p.flags in
    let short : nat_lt (longest_payload (flags_byte p.flags)) (length p.message.payload) ≡ false =
    grind (
      arith,
      nat_tests,
      within_version p.flags p.message.payload h.version
          h.message.payload,
    ) in
    let same : (length p.message.payload == length p.message.payload) ≡ true =
    grind (arith, nat_tests) in
    let said : carried_of (fields_of p) ≡ p =
    λ i. record {
      source = p.source;
      target = p.target;
      name = p.name;
      message =
          p.message;
      flags = flags_say p.flags i;
    } in
    rw (version, short, same, range) (ap (λ (q : Carried). Ok q) said)

-- whether a fault is Short
abbrev is_short : PacketFault → Bool
is_short fault.Short = true
is_short _ = false

abbrev tells_short : Result Carried PacketFault → Bool
tells_short (Ok p) = false
tells_short (Err e) = is_short e

others : (b : Bool) (e : PacketFault) (y : Result Carried PacketFault) → is_short e ≡ false
    → tells_short y ≡ false → tells_short (if b then Err e else y) ≡ false
others true e y other h = other
others false e y other h = h

last : (b : Bool) (x : Carried) → tells_short (if b then Ok x else Err fault.Range) ≡ false
last true x = refl
last false x = refl

-- no judgement of fields is Short
pub never_short : (f : Fields) → judged f ≡ Err fault.Short → ⊥
unfolding judged
never_short f h =
    let told =
    others (not (f.magic == 0x5542)) fault.Magic (versioned f) refl
    (others (not ((f.version == 1) || (f.version == 2))) fault.Version (sized f) refl
    (others (nat_lt (longest_payload f.flags) f.size || not (f.size == length f.payload))
    fault.Length (in_range f) refl (last (is_in_range f) (carried_of f)))) in
    let is : true ≡ false = ap tells_short (sym h) ∙ told in
    absurd cc
