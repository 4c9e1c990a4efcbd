-- A restart asks for the state, which is ready in a new group.
use Rattle.urb_turn.proofs.Common.{Entry, Global, List, Option, Shows, ShowsNode, Some, World, []}
use Rattle.urb_turn.proofs.Common.{arith, four, length, limits, log, name, new_four, no_view}
use Rattle.urb_turn.proofs.Common.{opened_node, refl, restart_stage, shows_none, subst, suc}
use Rattle.urb_turn.proofs.Common.{view_of, zero, ℕ, ◌∷◌, ◌≡◌}
use Rattle.urb_world.specs.World.{stored}
use Rattle.urb_group.specs.declared.reply.Reply.{Reply}
use Rattle.urb_group.specs.declared.state.State.{State}
use Rattle.urb_group.specs.declared.state.State.TheVariants as state
use Rattle.urb_turn.specs.declared.turn_stages.Stage.TheVariants as stage
use Rattle.urb_turn.proofs.worked.turns.questions_that_begin.Goals as goal

new_node : (p : ℕ) → ShowsNode (limits 4 10) p no_view (opened_node p [])
new_node p = record {
  pairs = λ x m. refl;
  certified = λ x. refl;
  log = refl;
  count = refl;
  state = refl;
  cursor = refl;
  acks = λ x q e. refl;
  heard = λ x q. refl;
  rules = tt;
  broadcast = refl;
}

-- a new group shows a new world
shows_new : Shows new_four four
shows_new = record { size = refl; nodes = at }
  where
    at : (p : ℕ) → ShowsNode (limits 4 10) p (view_of new_four p) (opened_node p [])
    at zero = new_node zero
    at (suc before) = new_node (suc before)

no_name : (records : List Entry) → 0 ≡ length records → name 1 1 ∷ [] ≡ log records → ⊥
no_name [] count logged = cc
no_name (r ∷ records) count logged = omega (arith, count)

-- the group shows no world
no_world : (w : World) → Shows shows_none w → ⊥
no_world w shows = let node = shows.nodes 1 in no_name (stored w 1) node.count node.log

answered : (said : Reply Global) → stage.Retrieving ≡ stage.Answered said → ⊥
answered said e = cc

not-ready : (it : Option State) → it ≡ Some state.Ready → stage.Retrieving ≡ restart_stage it → ⊥
not-ready it ready e = answered _ (subst (λ it. stage.Retrieving ≡ restart_stage it) ready e)

pub returns-clause-a_restart : goal.returns-clause-a_restart
returns-clause-a_restart c =
    (Some state.Down, λ w shows. absurd (no_world w shows), refl, refl, refl)

pub returns-clause-a_restart_of_a_ready_node : goal.returns-clause-a_restart_of_a_ready_node
returns-clause-a_restart_of_a_ready_node c b = not-ready b.0 (b.1 four shows_new) b.3
