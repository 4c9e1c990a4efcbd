-- What the judgement of the fields of bytes says about the bytes.
use Rattle.std.proofs.Common.{Bool, if◌then◌else◌, ◌≡◌, ◌∙◌, sym, ◌<◌, ◌≤◌, ◌^◌, false, nat_lt}
use Rattle.std.proofs.Common.{ltb-true, ℕ, List, length, Option, Some, None, is_some, Result, Ok}
use Rattle.std.proofs.Common.{Err, refl, ap, arith, lit<}
use Rattle.std.proofs.lemmas.Bool.Decides.{nat_tests}
use Rattle.std.specs.Prelude.{IfErr, IfOk, IfSome}
use Rattle.urb_names.specs.CarriedPackets.{Carried}
use Rattle.urb_names.specs.declared.flags.Flags.{Flags}
use Rattle.urb_names.specs.declared.refusal.PacketFault.{PacketFault}
use Rattle.urb_names.specs.declared.refusal.PacketFault.TheVariants as fault
use Rattle.urb_names.specs.PacketGrammar.{IsFields, IsFirstFault, IsPacket, fields_at, fields_of}
use Rattle.urb_names.specs.PacketGrammar.{flags_byte, flags_number, has_flags, header_length, judged}
use Rattle.urb_names.specs.PacketGrammar.{packet_of, spelled, spelling, version_of}
use Rattle.urb_names.proofs.NumberBytes.{AreBytes}
use Rattle.urb_names.proofs.FieldJudgements.{accepted, fields_again, flags_pass, is_packet, never_short}
use Rattle.urb_names.proofs.FieldJudgements.{sound}
use Rattle.urb_names.proofs.FieldSpellings.{fields_fit, read_again, spelled_again, spelled_long}

-- what is parsed encodes to these bytes
pub found : (bytes : List ℕ) → header_length bytes ≤ length bytes → AreBytes bytes
    → (r : Result Carried PacketFault) → r ≡ judged (fields_at bytes)
    → IfOk r (λ p. IsPacket p × (bytes ≡ spelling p))
found bytes long fit (Err e) is = tt
found bytes long fit (Ok p) is =
    let s = sound (fields_at bytes) p (sym is) in
    let again : fields_at bytes ≡ fields_of p =
    fields_again (fields_at bytes) (fields_fit bytes fit) s.0 ∙ ap fields_of s.1 in (
      rw (← s.1) (is_packet (fields_at bytes) (fields_fit bytes fit) s.0),
      spelled_again bytes long fit ∙ ap spelled again,
    )

-- the fields of a packet fit
packet_fits : (p : Carried) → IsPacket p → IsFields (fields_of p)
packet_fits p h = record {
  magic = lit< tt;
  version = version_fits p.flags;
  source = omega (arith, h.source.1);
  target = omega (arith, h.target.1);
  has_flags = flags_stand p.flags;
  flags = flags_fit p.flags;
  sender = omega (arith, h.name.sender.1);
  seq = h.name.seq.1;
  client = h.message.client.1;
  number = h.message.number.1;
  size = omega (arith, h.message.payload);
}
  where
    version_fits : (flags : Option Flags) → version_of flags < 2 ^ 8
    version_fits None = lit< tt
    version_fits (Some flags) = lit< tt

    flags_stand : (flags : Option Flags)
        → is_some (flags_byte flags) ≡ has_flags 0x5542 (version_of flags)
    flags_stand None = refl
    flags_stand (Some flags) = refl

    flags_fit : (flags : Option Flags) → IfSome (flags_byte flags) (λ byte. byte < 2 ^ 8)
    flags_fit None = tt
    flags_fit (Some flags) =
        let low = ltb-true (flags_number flags) 4 (flags_pass (Some flags)) in omega (arith, low)

-- every encoding is parsed
pub only : (bytes : List ℕ) (p : Carried) → IsPacket p → bytes ≡ spelling p
    → judged (fields_at bytes) ≡ Ok p
only bytes p h is =
    ap (λ b. judged (fields_at b)) is ∙ ap judged (read_again (fields_of p) (packet_fits p h))
    ∙ accepted p h

-- the encoding of a packet is read as that packet
pub packet_spelled : (bytes : List ℕ) (p : Carried) → IsPacket p → bytes ≡ spelling p
    → packet_of bytes ≡ Ok p
packet_spelled bytes p h is =
    let s = spelling p in
    let long : nat_lt (length s) (header_length s) ≡ false =
    grind (arith, nat_tests, spelled_long (fields_of p) (packet_fits p h)) in
    ap packet_of is ∙ ap (λ (b : Bool). if b then Err fault.Short else judged (fields_at s)) long
    ∙ only s p h refl

-- an error is the first fault
pub first_fault : (bytes : List ℕ) → header_length bytes ≤ length bytes → AreBytes bytes
    → (r : Result Carried PacketFault) → r ≡ judged (fields_at bytes) → IfErr r (IsFirstFault bytes)
first_fault bytes long fit (Ok p) is = tt
first_fault bytes long fit (Err fault.Short) is = absurd (never_short (fields_at bytes) (sym is))
first_fault bytes long fit (Err fault.Magic) is =
    (fields_at bytes, fields_fit bytes fit, spelled_again bytes long fit, sym is)
first_fault bytes long fit (Err fault.Version) is =
    (fields_at bytes, fields_fit bytes fit, spelled_again bytes long fit, sym is)
first_fault bytes long fit (Err fault.Length) is =
    (fields_at bytes, fields_fit bytes fit, spelled_again bytes long fit, sym is)
first_fault bytes long fit (Err fault.Range) is =
    (fields_at bytes, fields_fit bytes fit, spelled_again bytes long fit, sym is)
