-- Acknowledgements: pairs of a name and a node that counts as having stored it.
use Rattle.std.specs.Prelude.{ℕ, Bool, ◌&&◌, ◌||◌, ◌==◌, nat_lt, if◌then◌else◌, List, ◌∷◌}
use Rattle.std.specs.List.{list_any}
use Rattle.urb_names.specs.LabelsAndContents.{Label}
use Rattle.urb_names.specs.Names.{name_lt, same_name}

-- acknowledgements are ordered by name, then by node
abbrev pub ack_lt : Label × ℕ → Label × ℕ → Bool
ack_lt a b = name_lt a.0 b.0 || (same_name a.0 b.0 && nat_lt a.1 b.1)

-- whether the node is counted for the name
abbrev pub acked : List (Label × ℕ) → Label → ℕ → Bool
acked acks x q = list_any (λ ack. same_name ack.0 x && (ack.1 == q)) acks

-- the acknowledgements once this node is counted for the name
abbrev pub with_ack : List (Label × ℕ) → Label → ℕ → List (Label × ℕ)
with_ack acks x q = if acked acks x q then acks else (x, q) ∷ acks
