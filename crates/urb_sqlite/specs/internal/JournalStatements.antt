-- The statements that a journal runs.
use Rattle.std.specs.Prelude.{ℕ, List, [], codes}
use Rattle.urb_sqlite.specs.declared.sql.Part.{Part}
use Rattle.urb_sqlite.specs.declared.sql.Part.TheVariants.{First, Second}
use Rattle.sqlite.specs.Schema.{Schema}
use Rattle.urb_sqlite.specs.JournalTables.{create_text, journal_name, second_name}

-- the name of each table
abbrev pub name_of : Part → List ℕ
name_of First = journal_name
name_of Second = second_name

-- the text that makes the second table if it is absent
abbrev pub second_text : List ℕ
second_text =
    codes "CREATE TABLE IF NOT EXISTS journal2(pos INTEGER PRIMARY KEY, kind INTEGER NOT NULL, sender INTEGER NOT NULL, seq INTEGER NOT NULL, client INTEGER NOT NULL, number INTEGER NOT NULL, payload BLOB NOT NULL) STRICT"

-- the text that makes each table
abbrev pub create_of : Part → List ℕ
create_of First = create_text
create_of Second = second_text

-- the text that stores a record
abbrev pub insert_text : List ℕ
insert_text = codes "INSERT INTO journal2 VALUES (?1, ?2, ?3, ?4, ?5, ?6, ?7)"

-- the text that takes out the records from a position on
abbrev pub delete_text : List ℕ
delete_text = codes "DELETE FROM journal2 WHERE pos >= ?1"

-- the text that reads all records of each table
abbrev pub select_of : Part → List ℕ
select_of First =
    codes "SELECT pos, kind, sender, seq, client, number, payload FROM journal ORDER BY pos"
select_of Second =
    codes "SELECT pos, kind, sender, seq, client, number, payload FROM journal2 ORDER BY pos"

-- a database with no table
abbrev pub no_schema : Schema
no_schema = record { tables = []; indexes = []; views = [] }
