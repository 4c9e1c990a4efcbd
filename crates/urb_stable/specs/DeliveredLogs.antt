-- The delivered log of a list of records: its certificates, released by number.
use Rattle.std.specs.Prelude.{IsTrue, List, Option, map, reverse, ℕ, ◌↔◌, ◌≤◌}
use Rattle.urb_names.specs.Names.{has_name, name}
use Rattle.urb_names.specs.LabelsAndContents.{Label, Content}
use Rattle.urb_names.specs.Pairs.{message_of}
use Rattle.urb_names.specs.Release.{released, part_of}
use Rattle.urb_stable.specs.Entries.{Entry}
use Rattle.urb_stable.specs.Records.{pend, cert}

-- the log of these records
abbrev pub log : List Entry → List Label
log records = released (reverse (cert records))

-- the log, each name with its message
abbrev pub entries : List Entry → List (Label × Option Content)
entries records = map (λ x. (x, message_of (pend records) x)) (log records)

-- the log's entries of one sender
abbrev pub entries_of : ℕ → List Entry → List (Label × Option Content)
entries_of sender records =
    map (λ x. (x, message_of (pend records) x)) (part_of sender (log records))

-- a name is delivered exactly if it and all earlier names of its sender are certified
abbrev pub DeliversExactly : List Entry → Type 0
DeliversExactly records =
    (s j : ℕ) → IsTrue (has_name (log records) (name s j)) ↔
    ((1 ≤ j) × ((i : ℕ) → 1 ≤ i → i ≤ j → IsTrue (has_name (cert records) (name s i))))
