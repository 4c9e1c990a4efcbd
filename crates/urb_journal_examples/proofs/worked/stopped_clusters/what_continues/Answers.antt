-- A group that shows no world continues from none.
use Rattle.std.proofs.Common.{List, [], length, ◌∷◌, ◌≡◌, ℕ}
use Rattle.urb_names.specs.Names.{name}
use Rattle.urb_group.specs.GroupViews.{Shows}
use Rattle.urb_stable.specs.DeliveredLogs.{log}
use Rattle.urb_stable.specs.Entries.{Entry}
use Rattle.urb_world.specs.World.{World}
use Rattle.urb_journal_examples.specs.internal.GroupValues.{of_no_world}
use Rattle.urb_journal_examples.proofs.worked.stopped_clusters.what_continues.Goals as goal

-- no node has delivered a name and stored no record
none : (records : List Entry) → 0 ≡ length records → name 1 1 ∷ [] ≡ log records → ⊥
none [] count delivered = absurd (cc)
none (r ∷ rs) count delivered = absurd (cc)

no-world : (n : ℕ) (w : World) → Shows (of_no_world n) w → ⊥
no-world n w shows = none (w.node 1).records (shows.nodes 1).count (shows.nodes 1).log

pub returns-clause-a_group_of_four : goal.returns-clause-a_group_of_four
returns-clause-a_group_of_four c goes_on = ([], goes_on)

pub returns-clause-no_group_of_no_world : goal.returns-clause-no_group_of_no_world
returns-clause-no_group_of_no_world c h = no-world 3 _ h.1.opens

pub returns-clause-no_group_of_four_of_no_world : goal.returns-clause-no_group_of_four_of_no_world
returns-clause-no_group_of_four_of_no_world c h = no-world 4 _ h.1.opens
