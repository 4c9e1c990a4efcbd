-- Windows, as contracts see them.
use Rattle.std.specs.Prelude.{◌≡◌, true, IsTrue, List, Option, None, refl}
use Rattle.std.specs.Coded.{Coded, code_by, coded×, coded_ℕ, coded_list, coded_option}
use Rattle.urb_names.specs.LabelsAndContents.{Label, IsLabel}
use Rattle.urb_names.specs.Names.{has_name}
use Rattle.urb_names.specs.RisingLists.{is_rising, placed}
use Rattle.urb_window.specs.Entries.{entry_lt, names_of}

-- the entries in order of name, and the name for which space is reserved
pub record WindowSet (V : Type 0) : Type 0 where
  pub entries : List (Label × V)
  pub reserved : Option Label

-- a name, encoded as the pair of its numbers, so that proofs can tell names apart
abbrev pub label_code : Coded Label
label_code =
    code_by _ (coded× coded_ℕ coded_ℕ) (λ x. (x.sender, x.seq))
    (λ p. record { sender = p.0; seq = p.1 }) (λ _. refl)

-- such a set, encoded as the pair of its fields
abbrev pub set_code : {V : Type 0} → Coded V → Coded (WindowSet V)
set_code {V} code =
    code_by
    (List (Label × V) × Option Label)
    (coded× (coded_list (coded× label_code code)) (coded_option label_code))
    (λ s. (s.entries, s.reserved))
    (λ p. record { entries = p.0; reserved = p.1 })
    (λ _. refl)

-- the set with a value under one more name, which goes to its place; the reservation is used up
abbrev pub with_entry : {V : Type 0} → Label → V → WindowSet V → WindowSet V
with_entry x v set = record { entries = placed entry_lt set.entries (x, v); reserved = None }

-- names are in strictly rising order, and each is within the limits of names
pub record IsWindowSet {V : Type 0} (set : WindowSet V) : Type 0 where
  pub rising : IsTrue (is_rising entry_lt set.entries)
  pub labels : (x : Label) → has_name (names_of set.entries) x ≡ true → IsLabel x
