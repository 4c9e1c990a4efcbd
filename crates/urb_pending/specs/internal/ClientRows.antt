-- A client's row, as contracts see it.
use Rattle.std.specs.Prelude.{ℕ, Bool, List, ◌==◌, nat_lt, Option, find}
use Rattle.urb_names.specs.RisingLists.{is_rising}

-- a client, the numbers of the names that the node gave to its messages, and whether there is space
-- for one more
pub record Row : Type 0 where
  pub client : ℕ
  pub given : List ℕ
  pub room : Bool

-- whether the row's client comes before the other's
abbrev pub row_lt : Row → Row → Bool
row_lt row other = nat_lt row.client other.client

-- whether the rows are in strictly rising order of client
abbrev pub are_in_order : List Row → Bool
are_in_order rows = is_rising row_lt rows

-- the client's row, if it has one
abbrev pub row_of : ℕ → List Row → Option Row
row_of client rows = find (λ row. row.client == client) rows
