-- Bytes and the fields that they encode, both ways.
use Rattle.std.proofs.Common.{◌≡◌, ◌∙◌, sym, Bool, true, false, ℕ, ◌<◌, ◌≤◌, ◌^◌, List, ◌∷◌, ◌++◌}
use Rattle.std.proofs.Common.{length, drop, slice_index, Option, Some, None, is_some, refl, ap}
use Rattle.std.proofs.Common.{arith, drop-cons, length-drop, if◌then◌else◌}
use Rattle.std.specs.Prelude.{IfSome}
use Rattle.byteorder.specs.Endian.{big_bytes, big_number}
use Rattle.byteorder.specs.Numbers.{big_number-reads_back, big_from-lt}
use Rattle.urb_names.specs.PacketGrammar.{Fields, IsFields, begins_with_flags, fields_at, fields_with}
use Rattle.urb_names.specs.PacketGrammar.{flags_spelled, has_flags, header_length, spelled}
use Rattle.urb_names.proofs.NumberBytes.{AreBytes, left_are_bytes, two_at, four_at}

-- ---- bytes are encoded again

-- the first five bytes, and the rest after them
front_again : (bytes : List ℕ) → 5 ≤ length bytes → AreBytes bytes →
    bytes ≡ big_bytes 2 (big_number 2 bytes)
    ++ slice_index bytes 2 ∷ slice_index bytes 3 ∷ slice_index bytes 4 ∷ drop 5 bytes
front_again bytes long fit =
    let magic = two_at 0 bytes (omega (arith, long)) fit in
    let version = drop-cons bytes 2 0 (omega (arith, long)) in
    let source = drop-cons bytes 3 0 (omega (arith, long)) in
    let target = drop-cons bytes 4 0 (omega (arith, long)) in
    magic
    ∙ ap (λ (rest : List ℕ). big_bytes 2 (big_number 2 bytes) ++ rest)
    (version ∙ ap (λ (rest : List ℕ). slice_index bytes 2 ∷ rest)
    (source ∙ ap (λ (rest : List ℕ). slice_index bytes 3 ∷ rest) target))

-- the thirteen bytes after the flags, and the rest after them
back_again : (rest : List ℕ) → 13 ≤ length rest → AreBytes rest →
    rest
    ≡ slice_index rest 0 ∷ big_bytes 4 (big_number 4 (drop 1 rest)) ++ big_bytes 2
    (big_number 2 (drop 5 rest)) ++ big_bytes 4 (big_number 4 (drop 7 rest))
    ++ big_bytes 2 (big_number 2 (drop 11 rest)) ++ drop 13 rest
back_again rest long fit =
    let sender = drop-cons rest 0 0 (omega (arith, long)) in
    let seq = four_at 1 rest (omega (arith, long)) fit in
    let client = two_at 5 rest (omega (arith, long)) fit in
    let number = four_at 7 rest (omega (arith, long)) fit in
    let size = two_at 11 rest (omega (arith, long)) fit in
    sender
    ∙ ap (λ (more : List ℕ). slice_index rest 0 ∷ more)
    (seq ∙ ap (λ (more : List ℕ). big_bytes 4 (big_number 4 (drop 1 rest)) ++ more)
    (client ∙ ap (λ (more : List ℕ). big_bytes 2 (big_number 2 (drop 5 rest)) ++ more)
    (number ∙ ap (λ (more : List ℕ). big_bytes 4 (big_number 4 (drop 7 rest)) ++ more) size)))

-- the fields of bytes, depending on whether they begin with flags
abbrev fields_where : Bool → List ℕ → Fields
fields_where b bytes =
    if b then fields_with (Some (slice_index bytes 5)) bytes
    (drop 6 bytes) else fields_with None bytes (drop 5 bytes)

-- the fields of bytes encode to these bytes
pub spelled_again : (bytes : List ℕ) → header_length bytes ≤ length bytes → AreBytes bytes
    → bytes ≡ spelled (fields_at bytes)
spelled_again bytes long fit = at (begins_with_flags bytes) long
  where
    front : (rest : List ℕ) → 5 ≤ length bytes → drop 5 bytes ≡ rest →
        bytes ≡ big_bytes 2 (big_number 2 bytes)
        ++ slice_index bytes 2 ∷ slice_index bytes 3 ∷ slice_index bytes 4 ∷ rest
    front rest long is =
        front_again bytes long fit
        ∙ ap (λ (more : List ℕ). big_bytes 2 (big_number 2 bytes)
        ++ slice_index bytes 2 ∷ slice_index bytes 3 ∷ slice_index bytes 4 ∷ more) is

    at : (b : Bool) → (if b then 19 else 18) ≤ length bytes → bytes ≡ spelled (fields_where b bytes)
    at true long =
        front _ (omega (arith, long))
        (drop-cons bytes 5 0 (omega (arith, long))
        ∙ ap (λ (more : List ℕ). slice_index bytes 5 ∷ more)
        (back_again (drop 6 bytes) (omega (arith, long, length-drop 6 bytes))
        (left_are_bytes 6 bytes fit)))
    at false long =
        front _ (omega (arith, long))
        (back_again (drop 5 bytes) (omega (arith, long, length-drop 5 bytes))
        (left_are_bytes 5 bytes fit))

-- each field of bytes fits
pub fields_fit : (bytes : List ℕ) → AreBytes bytes → IsFields (fields_at bytes)
fields_fit bytes fit = at (begins_with_flags bytes) refl
  where
    behind : (flags : Option ℕ) (k : ℕ) → is_some flags ≡ begins_with_flags bytes
        → IfSome flags (λ byte. byte < 2 ^ 8) → IsFields (fields_with flags bytes (drop k bytes))
    behind flags k as_flags fits =
        let left = left_are_bytes k bytes fit in
        record {
          magic = big_from-lt 0 2 bytes fit;
          version = fit 2;
          source = fit 3;
          target = fit 4;
          has_flags = as_flags;
          flags = fits;
          sender = left 0;
          seq = big_from-lt 0 4 (drop 1 (drop k bytes)) (left_are_bytes 1 (drop k bytes) left);
          client = big_from-lt 0 2 (drop 5 (drop k bytes)) (left_are_bytes 5 (drop k bytes) left);
          number = big_from-lt 0 4 (drop 7 (drop k bytes)) (left_are_bytes 7 (drop k bytes) left);
          size = big_from-lt 0 2 (drop 11 (drop k bytes)) (left_are_bytes 11 (drop k bytes) left);
        }

    at : (b : Bool) → begins_with_flags bytes ≡ b → IsFields (fields_where b bytes)
    at true is = behind (Some (slice_index bytes 5)) 6 (sym is) (fit 5)
    at false is = behind None 5 (sym is) tt

-- ---- what fields encode is decoded again

-- what fields encode after the flags
abbrev behind : Fields → List ℕ
behind f =
    f.sender ∷ big_bytes 4 f.seq ++ big_bytes 2 f.client ++ big_bytes 4 f.number
    ++ big_bytes 2 f.size ++ f.payload

-- the encoding shows whether the fields have flags
pub begins_as : (f : Fields) → IsFields f → begins_with_flags (spelled f) ≡ is_some f.flags
begins_as f fit =
    let after_magic =
    f.version ∷ f.source ∷ f.target
    ∷ (flags_spelled f.flags ++ (f.sender ∷ big_bytes 4 f.seq ++ big_bytes 2 f.client
    ++ big_bytes 4 f.number ++ big_bytes 2 f.size) ++ f.payload) in
    let magic = big_number-reads_back 2 f.magic after_magic fit.magic in
    ap (λ (m : ℕ). has_flags m f.version) magic ∙ sym fit.has_flags

-- the numbers are decoded again
read_with : (f : Fields) (flags : Option ℕ) → IsFields f
    → fields_with flags (spelled f) (behind f) ≡ record f { flags = flags }
read_with f flags fit =
    let after_number = big_bytes 2 f.size ++ f.payload in
    let after_client = big_bytes 4 f.number ++ after_number in
    let after_seq = big_bytes 2 f.client ++ after_client in
    let after_magic =
    f.version ∷ f.source ∷ f.target
    ∷ (flags_spelled f.flags ++ (f.sender ∷ big_bytes 4 f.seq ++ big_bytes 2 f.client
    ++ big_bytes 4 f.number ++ big_bytes 2 f.size) ++ f.payload) in
    let magic = big_number-reads_back 2 f.magic after_magic fit.magic in
    let seq = big_number-reads_back 4 f.seq after_seq fit.seq in
    let client = big_number-reads_back 2 f.client after_client fit.client in
    let number = big_number-reads_back 4 f.number after_number fit.number in
    let size = big_number-reads_back 2 f.size f.payload fit.size in
    λ i. record {
      magic = magic i;
      version = f.version;
      source = f.source;
      target =
          f.target;
      flags = flags;
      sender = f.sender;
      seq = seq i;
      client = client i;
      number =
          number i;
      size = size i;
      payload = f.payload;
    }

-- what fields encode is decoded again
pub read_again : (f : Fields) → IsFields f → fields_at (spelled f) ≡ f
read_again f fit = at f.flags fit
  where
    at : (flags : Option ℕ) → IsFields (record f { flags = flags })
        → fields_at (spelled (record f { flags = flags })) ≡ record f { flags = flags }
    at None fit =
        let g = record f { flags = None } in
        ap (λ (b : Bool). fields_where b (spelled g)) (begins_as g fit) ∙ read_with g None fit
    at (Some byte) fit =
        let g = record f { flags = Some byte } in
        ap (λ (b : Bool). fields_where b (spelled g)) (begins_as g fit)
        ∙ read_with g (Some byte) fit

-- what fields encode is at least as long as its header
pub spelled_long : (f : Fields) → IsFields f → header_length (spelled f) ≤ length (spelled f)
spelled_long f fit = rw (begins_as f fit) (at f.flags)
  where
    at : (flags : Option ℕ) → (if is_some flags then 19 else 18) ≤ length
        (spelled (record f { flags = flags }))
    at None = omega arith
    at (Some byte) = omega arith
