-- A row as a table's tree keeps it.
use Rattle.std.specs.Prelude.{ℕ, pos, List, [], ◌∷◌}
use Rattle.sqlite.specs.declared.types.Value.TheVariants.{Null, Int, Blob}
use Rattle.sqlite.specs.Order.{Row}
use Rattle.urb_stable.specs.Entries.{Entry}
use Rattle.urb_stable.specs.declared.record.Record.TheVariants.{Pend, PendCert, Cert}

-- the entry of a table's tree for a row: the row's number, no value for the key's own column, and
-- the other columns
abbrev pub kept_row : ℕ → ℕ → ℕ → ℕ → ℕ → ℕ → List ℕ → Row
kept_row place kind sender seq client number payload =
    Int (pos place) ∷ Null ∷ Int (pos kind) ∷ Int (pos sender) ∷ Int (pos seq) ∷ Int
    (pos client) ∷ Int (pos number) ∷ Blob payload ∷ []

-- the same for the row of a record
abbrev pub kept_of : ℕ → Entry → Row
kept_of place (Pend name m) = kept_row place 1 name.sender name.seq m.client m.number m.payload
kept_of place (PendCert name m) = kept_row place 2 name.sender name.seq m.client m.number m.payload
kept_of place (Cert name) = kept_row place 3 name.sender name.seq 0 0 []
