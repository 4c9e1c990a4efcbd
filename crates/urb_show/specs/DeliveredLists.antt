-- What the nodes have delivered at a place of a house's history.
use Rattle.std.specs.Prelude.{List, Option, Some, map, suc, ℕ}
use Rattle.urb_group.specs.GroupViews.{GroupView, Shows}
use Rattle.urb_world.specs.RecoveryPlans.{after}
use Rattle.urb_world.specs.Step.{Event}
use Rattle.urb_world.specs.World.{World, stored}
use Rattle.urb_names.specs.LabelsAndContents.{Content, Label}
use Rattle.urb_names.specs.ListPrefixes.{Begins as IsBeginning}
use Rattle.urb_stable.specs.DeliveredLogs.{entries}
use Rattle.urb_show.specs.Lists.{Lists, list_at}
use Rattle.urb_show.specs.declared.entry.Entry.{Entry}

-- an entry, in the form that the log of a node in a world has: its name with the message
abbrev pub in_log : Entry → Label × Option Content
in_log e = (e.name, Some e.message)

-- In this world the list of each node is a prefix of what the node has delivered.
abbrev pub HaveDelivered : World → Lists → Type 0
HaveDelivered w lists =
    (place : ℕ) → IsBeginning (map in_log (list_at lists place)) (entries (stored w (suc place)))

-- These events lead from each world that the group showed at the opening to another world. There
-- the list of each node is a prefix of what the node has delivered.
abbrev pub AreDeliveredBy : GroupView → List Event → Lists → Type 0
AreDeliveredBy opened past lists =
    (w : World) → Shows opened w → HaveDelivered (after w past) lists
