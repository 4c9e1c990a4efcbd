-- Pairs of a name and its message, as a pending set holds them.
use Rattle.std.specs.Prelude.{ℕ, suc, Bool, ◌&&◌, ◌==◌, if◌then◌else◌, List, [], ◌∷◌, count_by}
use Rattle.std.specs.Prelude.{Option, Some, None}
use Rattle.std.specs.List.{list_any}
use Rattle.urb_names.specs.LabelsAndContents.{Label, Content}
use Rattle.urb_names.specs.Names.{same_name, same_message}

-- whether the pair of this name and message is in the list
abbrev pub has_pair : List (Label × Content) → Label → Content → Bool
has_pair pairs x m = list_any (λ pair. same_name pair.0 x && same_message pair.1 m) pairs

-- the message of the first pair with this name
abbrev pub message_of : List (Label × Content) → Label → Option Content
message_of [] x = None
message_of (pair ∷ pairs) x = if same_name pair.0 x then Some pair.1 else message_of pairs x

-- the messages of this sender's pairs, in order
abbrev pub own : ℕ → List (Label × Content) → List Content
own sender [] = []
own sender (pair ∷ pairs) =
    if pair.0.sender == sender then pair.1 ∷ own sender pairs else own sender pairs

-- whether the message has this client and number
abbrev pub is_numbered : ℕ → ℕ → Content → Bool
is_numbered client number m = (m.client == client) && (m.number == number)

-- the number that the client must use next, after these messages
abbrev pub next_number : ℕ → List Content → ℕ
next_number client messages = suc (count_by (λ m. m.client == client) messages)
