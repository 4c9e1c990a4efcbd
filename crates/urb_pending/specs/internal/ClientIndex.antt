-- When the rows of clients are the index of a node's own messages.
use Rattle.std.specs.Prelude.{◌≡◌, ℕ, zero, suc, ◌==◌, Bool, false, List, [], length, count_by}
use Rattle.std.specs.Prelude.{find, Option, Some, None, option_map, slice_get}
use Rattle.std.specs.List.{position_or_len}
use Rattle.urb_names.specs.LabelsAndContents.{Content}
use Rattle.urb_names.specs.Pairs.{is_numbered}
use Rattle.urb_pending.specs.internal.ClientRows.{Row, row_of}

-- the numbers in a row; empty if there is no row
abbrev pub numbers_in : Option Row → List ℕ
numbers_in None = []
numbers_in (Some row) = row.given

-- whether there is a row with space for one more number
abbrev pub is_roomy : Option Row → Bool
is_roomy None = false
is_roomy (Some row) = row.room

-- the numbers of the names given to the client's messages
abbrev pub given_to : ℕ → List Row → List ℕ
given_to client rows = numbers_in (row_of client rows)

-- whether there is space for one more message of the client
abbrev pub has_room : ℕ → List Row → Bool
has_room client rows = is_roomy (row_of client rows)

-- the element at this place, from 1
abbrev pub nth : List ℕ → ℕ → Option ℕ
nth numbers zero = None
nth numbers (suc before) = slice_get numbers before

-- the place, from 1, of the first message with this client and number
abbrev pub place_given : ℕ → ℕ → List Content → Option ℕ
place_given client number messages =
    option_map (λ m. suc (position_or_len (is_numbered client number) messages))
    (find (is_numbered client number) messages)

-- Each client has as many numbers as messages. The number at place k belongs to the message that
-- the client numbered k.
pub record IsIndexOf (messages : List Content) (rows : List Row) : Type 0 where
  pub counts : (client : ℕ) → length (given_to client rows) ≡ count_by
      (λ m. m.client == client) messages
  pub finds : (client number : ℕ)
      → place_given client number messages ≡ nth (given_to client rows) number
