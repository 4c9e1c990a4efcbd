-- Journals of nodes that a group doesn't have: whether they hold records.
use Rattle.std.specs.Prelude.{Bool, List, length, nat_lt, ℕ, ◌≡◌}
use Rattle.urb_stable.specs.Entries.{Entry}
use Rattle.urb_sqlite.specs.FoundJournals.{IsFoundIn}

-- The answer says whether an opening finds records in files with these bytes. It does so in each
-- case in which it is known what an opening finds.
abbrev pub TellsRecords : (log db : List ℕ) → Bool → Type 0
TellsRecords log db answer =
    (records : List Entry)
    × IsFoundIn (record { log = log; db = db }) (Unit {0}) (answer ≡ nat_lt 0 (length records))
    records
