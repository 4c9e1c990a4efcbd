-- A journal is two tables of an SQLite database. Proved here: what its statements do to the
-- records, what an opening finds in a node's files, and what a stop leaves there. All rests on the
-- clauses of the database's calls.
-- ResolvedSelects and StatementTexts come first: they compute what the texts of the statements mean
-- if the table is known. AnySchema says it if the table is not known. InsertStatement,
-- SelectStatement and CreateStatement say what each statement does to its table. SpelledRows and
-- StoredRows read rows as records, and CursorReads does so one by one.
-- KeptRecords joins these: a store adds its record (`appended`), and a stop at a store leaves the
-- records with it or without it (`stops_at_insert`). TransactionRecords says both of several records
-- that one transaction adds (`added_all`, `stops_at_inserts`). ResolvedDeletes, DeleteStatement,
-- FewerRows and TakenRecords say it of the last records, which one transaction takes out again
-- (`taken_out`, `stops_at_delete`). The openings of the tables are built on KeptRecords.
-- The database is taken over (`taken_over`), or it is given back with its rows
-- (`second_given_back`). JournalSchemas, NodeJournals and JournalStops come last: what an opening
-- finds in the files (`found_there`), and after a stop (`found_again`). FoundRecords says that it
-- finds the records that the files hold (`found_as_held`).
mod Common
pub mod ResolvedSelects
pub mod ResolvedDeletes
pub mod StatementTexts
pub mod InsertStatement
pub mod DeleteStatement
pub mod SortOrder
pub mod SelectStatement
pub mod CursorReads
pub mod AddedTables
pub mod AnySchema
pub mod SpelledRows
pub mod StoredRows
pub mod FewerRows
pub mod KeptRecords
pub mod TransactionRecords
pub mod TakenRecords
pub mod TableReadings
pub mod OpenedTables
pub mod TableOpenings
pub mod AcceptedOpenings
pub mod RefusedOpenings
pub mod CreateStatement
pub mod JournalSchemas
pub mod JournalStops
pub mod NodeJournals
pub mod FoundRecords
pub mod BlankFiles
