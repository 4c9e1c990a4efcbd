-- The nodes marked for a name, as the bits of one number.
use Rattle.std.specs.Prelude.{ℕ, Bool, ◌-◌, ◌/◌, ◌%◌, ◌^◌, ◌==◌, List, [], ◌∷◌, ◌++◌, map, filter}
use Rattle.urb_names.specs.declared.limits.TheConstants.{MAX_NODES}
use Rattle.urb_names.specs.LabelsAndContents.{Label}
use Rattle.urb_names.specs.Nodes.{nodes}

-- whether the node's bit is set; node 1 has the lowest bit
abbrev pub has_bit : ℕ → ℕ → Bool
has_bit mask q = (mask / 2 ^ (q - 1)) % 2 == 1

-- the nodes whose bits are set, in order
abbrev pub nodes_in : ℕ → List ℕ
nodes_in mask = filter (has_bit mask) (nodes MAX_NODES)

-- the pairs of a name and a node that masks under names describe, in order
abbrev pub marks_in : List (Label × ℕ) → List (Label × ℕ)
marks_in [] = []
marks_in (entry ∷ entries) = map (λ q. (entry.0, q)) (nodes_in entry.1) ++ marks_in entries
