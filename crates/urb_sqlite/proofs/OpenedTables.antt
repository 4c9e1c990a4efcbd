-- What an opening finds: both tables are there, and they stand for the records that were there
-- before.
use Rattle.urb_sqlite.proofs.Common.{AddsTable, Database, Entry, First, HasTable, Lacks, List, Ok}
use Rattle.urb_sqlite.proofs.Common.{Row, Second, StandsFor, [], ap, by_pos, journal_name, length}
use Rattle.urb_sqlite.proofs.Common.{limit_of, map, read_from, records_of, second_name, shown}
use Rattle.urb_sqlite.proofs.Common.{sort_by, sym, table_rows, ℕ, ◌++◌, ◌+◌, ◌∙◌, ◌≡◌}
use Rattle.urb_sqlite.proofs.StoredRows.{records_are, rows_absent, rows_there, stands_by}
use Rattle.urb_sqlite.proofs.StoredRows.{stands_same}

-- the table of a name keeps its rows if another table is added after it
pub rows_kept : (old new : Database) (name added : List ℕ) → AddsTable old new added
    → HasTable old.schema name → table_rows new name ≡ table_rows old name
rows_kept old new name added adds has =
    let kept = adds.keeps name has in
    rows_there new name kept.0 ∙ ap (λ (rows : List Row). sort_by by_pos (map shown rows)) kept.1
    ∙ sym (rows_there old name has)

-- a table that was added has no row
pub rows_none : (old new : Database) (name : List ℕ) → AddsTable old new name
    → table_rows new name ≡ []
rows_none old new name adds =
    rows_there new name adds.has ∙ ap
    (λ (rows : List Row). sort_by by_pos (map shown rows)) adds.empty

-- The second table is made after the first: a journal of one table then stands for the same
-- records.
pub stands_made : (old new : Database) (records : List Entry) → HasTable old.schema journal_name
    → Lacks old.schema second_name → AddsTable old new second_name → StandsFor new records
    → StandsFor old records
stands_made old new records first none adds stands =
    stands_same new old records (sym (rows_kept old new journal_name second_name adds first))
    (rows_absent old second_name none ∙ sym (rows_none old new second_name adds)) stands

-- the records that were read from the two tables
pub stands_read : (d : Database) (first second : List Entry)
    → read_from (limit_of First) 1 (table_rows d journal_name) ≡ Ok first
    → read_from (limit_of Second) (1 + length first) (table_rows d second_name) ≡ Ok second
    → (records_of d ≡ first ++ second) × StandsFor d (first ++ second)
stands_read d first second one two =
    let stands = stands_by d first second one two in
    (records_are d (first ++ second) stands, stands)
