-- A group that shows no world is not sound.
use Rattle.std.proofs.Common.{List, [], arith, length, ◌∷◌, ◌≡◌}
use Rattle.urb_names.specs.Names.{name}
use Rattle.urb_stable.specs.DeliveredLogs.{log}
use Rattle.urb_stable.specs.Entries.{Entry}
use Rattle.urb_group.specs.GroupViews.{IsSound, Shows}
use Rattle.urb_show.specs.internal.ReaderExamples.{shows_none}
use Rattle.urb_world.specs.World.{World, stored}
use Rattle.urb_life_examples.proofs.worked.desk_claims.what_no_response_tells.Goals as goal

no-name : (records : List Entry) → 0 ≡ length records → name 1 1 ∷ [] ≡ log records → ⊥
no-name [] count logged = cc
no-name (r ∷ records) count logged = omega (arith, count)

-- the group shows no world
no-world : (w : World) → Shows shows_none w → ⊥
no-world w shows = let node = shows.nodes 1 in no-name (stored w 1) node.count node.log

unsound : IsSound shows_none → ⊥
unsound sound = no-world sound.world sound.shows

pub returns-clause-accepted : goal.returns-clause-accepted
returns-clause-accepted c h = unsound h.sound

pub returns-clause-a_status : goal.returns-clause-a_status
returns-clause-a_status c h = unsound h.sound

pub returns-clause-a_crash : goal.returns-clause-a_crash
returns-clause-a_crash c h = unsound h.sound

pub returns-clause-a_restart : goal.returns-clause-a_restart
returns-clause-a_restart c h = unsound h.sound
