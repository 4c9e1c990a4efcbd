-- A node's pending set, as contracts see it.
use Rattle.std.specs.Prelude.{◌≡◌, ◌≤◌, ℕ, suc, Bool, ◌&&◌, nat_le, IsTrue, List, [], ◌∷◌, length}
use Rattle.std.specs.Prelude.{map, find, Option, Some, None, option_map}
use Rattle.std.specs.List.{list_all, position_or_len}
use Rattle.urb_names.specs.LabelsAndContents.{Limits, Label, Content, IsLimits}
use Rattle.urb_names.specs.Nodes.{is_node}
use Rattle.urb_names.specs.Names.{name, names}
use Rattle.urb_names.specs.Release.{part_of}
use Rattle.urb_names.specs.Pairs.{own, is_numbered}
use Rattle.urb_names.specs.CyclicOrder.{are_rising, inserted}

-- the pending pairs of a node, in order of name, and the name and client for which space is
-- reserved
pub record PendingSet : Type 0 where
  pub limits : Limits  -- of its group
  pub node : ℕ
  pub pairs : List (Label × Content)
  pub reserved : Option (Label × ℕ)

-- the set with one more pair; a reservation is used up
abbrev pub added : Label → Content → PendingSet → PendingSet
added x m set = record set { pairs = inserted (x, m) set.pairs; reserved = None }

-- the name that the node gave to the message with this client and number, if it is among the node's
-- messages
abbrev pub name_given : ℕ → ℕ → ℕ → List Content → Option Label
name_given node client number messages =
    option_map (λ m. name node (suc (position_or_len (is_numbered client number) messages)))
    (find (is_numbered client number) messages)

-- the name of the first pair, if there is one
abbrev pub first_name : List (Label × Content) → Option Label
first_name [] = None
first_name (pair ∷ pairs) = Some pair.0

-- whether a group with these limits may use the name
abbrev pub is_within : Limits → Label → Bool
is_within limits x = is_node limits.n x.sender && (nat_le 1 x.seq && nat_le x.seq limits.cap)

-- The invariant of every pending set. Names are in strictly rising order and within the limits. The
-- node's own names are numbered 1, 2, 3, .., up to how many there are.
pub record IsPendingSet (set : PendingSet) : Type 0 where
  pub limits : IsLimits set.limits
  pub rising : IsTrue (are_rising set.pairs)
  pub within : IsTrue (list_all (λ pair. is_within set.limits pair.0) set.pairs)
  pub numbered : part_of set.node (map (λ pair. pair.0) set.pairs) ≡ names set.node
      (length (own set.node set.pairs))
  pub capped : length (own set.node set.pairs) ≤ set.limits.cap
