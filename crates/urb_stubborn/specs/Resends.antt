-- A node's position in its resends, and whose certificates it has heard, as contracts see them.
use Rattle.std.specs.Prelude.{ℕ, List, Option, flat_map, if◌then◌else◌}
use Rattle.urb_names.specs.Acknowledgements.{ack_lt, acked}
use Rattle.urb_names.specs.LabelsAndContents.{Limits, Label, Content}
use Rattle.urb_names.specs.CarriedPackets.{Carried, due_of, to_unheard}
use Rattle.urb_names.specs.CyclicOrder.{resent, last_name}
use Rattle.urb_names.specs.RisingLists.{placed}

-- A node of a group, and the last name that it resent, if any. Also the nodes whose certificates of
-- names it has heard, and the names that have space to record one.
pub record Resending : Type 0 where
  pub limits : Limits
  pub node : ℕ
  pub cursor : Option Label
  pub heard : List (Label × ℕ)
  pub roomy : List Label

-- The resends once this node's certificate of the name was heard. The pair goes to its place, and
-- nothing changes if it is there already.
abbrev pub hearing : Resending → Label → ℕ → Resending
hearing r x q = record r {
  heard =
      if acked r.heard x q then r.heard else placed ack_lt r.heard (x, q);
}

-- The packets that a tick sends of these pending pairs, of which these names are certified. They
-- are the packets of each pair that is due, to each other node whose certificate was not heard,
-- name by name.
abbrev pub tick_packets : Resending → List (Label × Content) → List Label → List Carried
tick_packets r pairs certified =
    flat_map (to_unheard r.limits.n r.node certified r.heard)
    (resent r.cursor (due_of r.limits.n r.node r.heard pairs))

-- the resends after a tick: the cursor is the last name that it resent
abbrev pub ticked : Resending → List (Label × Content) → Resending
ticked r pairs = record r {
  cursor =
      last_name r.cursor (resent r.cursor (due_of r.limits.n r.node r.heard pairs));
}
