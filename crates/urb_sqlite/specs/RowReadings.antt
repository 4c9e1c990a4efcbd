-- How rows are read one by one: the record of a row, and the place of the first row that is no
-- record.
use Rattle.std.specs.Prelude.{ℕ, ◌+◌, ◌^◌, ◌==◌, ◌&&◌, Bool, nat_lt, nat_le, if◌then◌else◌, ℤ, pos}
use Rattle.std.specs.Prelude.{negsuc, List, [], ◌∷◌, ◌++◌, length, Option, Some, None, option_map}
use Rattle.std.specs.Prelude.{option_and_then, Result, Ok, Err}
use Rattle.urb_names.specs.declared.limits.TheConstants.{MAX_NODES}
use Rattle.sqlite.specs.declared.types.Value.{Value}
use Rattle.sqlite.specs.declared.types.Value.TheVariants.{Null, Int, Real, Text, Blob}
use Rattle.sqlite.specs.Order.{Row, column}
use Rattle.sqlite.specs.Effect.{Database}
use Rattle.urb_names.specs.LabelsAndContents.{Label, Content}
use Rattle.urb_names.specs.Nodes.{is_node}
use Rattle.urb_stable.specs.Entries.{Entry}
use Rattle.urb_stable.specs.declared.record.Record.TheVariants.{Pend, PendCert, Cert}
use Rattle.urb_sqlite.specs.declared.rows.Columns.{Columns}
use Rattle.urb_sqlite.specs.JournalTables.{journal_name, second_name, limit_of}
use Rattle.urb_sqlite.specs.declared.sql.Part.TheVariants.{First, Second}
use Rattle.urb_sqlite.specs.RecordRows.{table_rows}

-- the integer as a number of 32 bits, if it is one
abbrev pub word_in : ℤ → Option ℕ
word_in (pos n) = if nat_lt n (2 ^ 32) then Some n else None
word_in (negsuc n) = None

-- the number in a column, if it is a number of 32 bits
abbrev pub number_in : Value → Option ℕ
number_in Null = None
number_in (Int n) = word_in n
number_in (Real x) = None
number_in (Text t) = None
number_in (Blob b) = None

-- the bytes in a column
abbrev pub bytes_in : Value → Option (List ℕ)
bytes_in Null = None
bytes_in (Int n) = None
bytes_in (Real x) = None
bytes_in (Text t) = None
bytes_in (Blob b) = Some b

-- the six numbers of a row
abbrev pub numbers_in : Row → Option Columns
numbers_in row =
    option_and_then (λ place. option_and_then
    (λ kind. option_and_then (λ sender.
    option_and_then (λ seq. option_and_then (λ client. option_map (λ number.
    record {
      pos = place;
      kind = kind;
      sender = sender;
      seq = seq;
      client = client;
      number =
          number;
    })
    (number_in (column row 5))) (number_in
    (column row 4))) (number_in (column row
    3))) (number_in (column row 2))) (number_in (column row 1))) (number_in (column row 0))

-- whether these are the sender and the number of a name
abbrev pub is_name : ℕ → ℕ → Bool
is_name sender seq = is_node MAX_NODES sender && nat_lt 0 seq

-- whether these are the parts of a message with at most `limit` bytes
abbrev pub is_message : ℕ → ℕ → ℕ → List ℕ → Bool
is_message limit client number payload =
    nat_lt 0 client && nat_lt client 65536 && nat_lt 0 number && nat_le (length payload) limit

-- whether there is no message
abbrev pub is_bare : Columns → List ℕ → Bool
is_bare c payload = c.client == 0 && c.number == 0 && length payload == 0

-- the name in these columns
abbrev pub name_in : Columns → Label
name_in c = record { sender = c.sender; seq = c.seq }

-- the message in these columns, with this payload
abbrev pub message_in : Columns → List ℕ → Content
message_in c payload = record { client = c.client; number = c.number; payload = payload }

-- the record in these columns, by its kind, if there is one
abbrev pub record_by : ℕ → Columns → List ℕ → Option Entry
record_by limit c payload =
    if c.kind == 1 then (if is_message limit c.client c.number payload then Some
    (Pend (name_in c) (message_in c payload)) else None)
    else (if c.kind == 2 then (if is_message limit c.client c.number payload then Some
    (PendCert (name_in c) (message_in c payload)) else None)
    else (if c.kind == 3 && is_bare c payload then Some (Cert (name_in c)) else None))

-- the record of these columns at this place
abbrev pub record_in : ℕ → ℕ → Columns → List ℕ → Option Entry
record_in limit place c payload =
    if c.pos == place && nat_lt place 4294967295
    && is_name c.sender c.seq then record_by limit c payload else None

-- the record of the row at this place
abbrev pub record_at : ℕ → ℕ → Row → Option Entry
record_at limit place row =
    option_and_then (λ c. option_and_then (record_in limit place c) (bytes_in (column row 6)))
    (numbers_in row)

-- A record, put before others that were read; or the place of the first row that is no record.
abbrev pub joined : ℕ → Option Entry → Result (List Entry) ℕ → Result (List Entry) ℕ
joined place None rest = Err place
joined place (Some r) (Ok rs) = Ok (r ∷ rs)
joined place (Some r) (Err bad) = Err bad

-- The records of these rows, the first one at this place; or the place of the first row that is no
-- record.
unfoldable pub read_from : ℕ → ℕ → List Row → Result (List Entry) ℕ
read_from limit place [] = Ok []
read_from limit place (row ∷ rows) =
    joined place (record_at limit place row) (read_from limit (place + 1) rows)

-- the same, after records that were read before
abbrev pub extended : List Entry → Result (List Entry) ℕ → Result (List Entry) ℕ
extended done (Ok rs) = Ok (done ++ rs)
extended done (Err bad) = Err bad

-- the records that were read; none after a bad row
abbrev pub ok_or_none : Result (List Entry) ℕ → List Entry
ok_or_none (Ok rs) = rs
ok_or_none (Err bad) = []

-- what is read after the records that were read; the reading may use their number
abbrev pub followed : Result (List Entry) ℕ → (List Entry → Result (List Entry) ℕ)
    → Result (List Entry) ℕ
followed (Ok rs) next = extended rs (next rs)
followed (Err bad) next = Err bad

-- the rows of both tables; the places of the second table continue those of the first
abbrev pub read_both : List Row → List Row → Result (List Entry) ℕ
read_both first second =
    followed (read_from (limit_of First) 1 first)
    (λ rs. read_from (limit_of Second) (1 + length rs) second)

-- the records that a journal stands for, which contracts call its certain list; none if some row is
-- no record
abbrev pub records_of : Database → List Entry
records_of d = ok_or_none (read_both (table_rows d journal_name) (table_rows d second_name))
