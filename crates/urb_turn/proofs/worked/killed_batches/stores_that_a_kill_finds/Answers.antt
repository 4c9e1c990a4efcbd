-- Stores that a kill finds: an idle one, one in a turn, and one that is asked to hold a batch.
use Rattle.urb_turn.proofs.Common.{IsSound, Shows, ShowsNode, List, Tick, [], four, holding, limits}
use Rattle.urb_turn.proofs.Common.{memory, new-kept, new_four, no_view, opened_node, pending, refl}
use Rattle.urb_turn.proofs.Common.{run, suc, view_of, zero, ℕ, ◌∷◌, ◌≡◌}
use Rattle.urb_turn.proofs.KilledBatches.{killed-leaves}
use Rattle.urb_turn.proofs.OtherNodes.{rests-none}
use Rattle.urb_turn.specs.KilledBatches.{Holding, Idle, IsKilledAt, Working}
use Rattle.urb_turn.specs.declared.job.Job.TheVariants as job
use Rattle.urb_turn.proofs.worked.killed_batches.stores_that_a_kill_finds.Goals as goal

new_node : (p : ℕ) → ShowsNode (limits 4 10) p no_view (opened_node p [])
new_node p = record {
  pairs = λ x m. refl;
  certified = λ x. refl;
  log = refl;
  count = refl;
  state = refl;
  cursor = refl;
  acks = λ x q e. refl;
  heard = λ x q. refl;
  rules = tt;
  broadcast = refl;
}

-- a new group shows a new world
shows_new : Shows new_four four
shows_new = record { size = refl; nodes = at }
  where
    at : (p : ℕ) → ShowsNode (limits 4 10) p (view_of new_four p) (opened_node p [])
    at zero = new_node zero
    at (suc before) = new_node (suc before)

-- so it is sound
sound : IsSound new_four
sound = record { world = four; shows = shows_new; kept = new-kept (limits 4 10) }

some-none : {A : Type 0} (x : A) (xs : List A) → x ∷ xs ≡ [] → ⊥
some-none x xs e = cc

not-killed : IsKilledAt memory new_four four [] 1 holding → ⊥
unfolding run
not-killed h =
    let leaves = killed-leaves memory new_four four [] sound shows_new 1 holding h in
    some-none (pending 1 1) []
    ((leaves tt).may (pending 1 1 ∷ []) ((leaves tt).only (pending 1 1 ∷ []) refl))

pub returns-clause-an_idle_one : goal.returns-clause-an_idle_one
returns-clause-an_idle_one c store matched =
    Idle [] matched
    (record { between = Tick 2 ∷ []; later_is = refl; elsewhere = (refl, tt) })

pub returns-clause-in_a_turn : goal.returns-clause-in_a_turn
returns-clause-in_a_turn c before store came at matched =
    Working (job.Tick 1) before came at refl matched (rests-none 1 at.turn.given_back.past)

pub returns-clause-with_a_batch : goal.returns-clause-with_a_batch
returns-clause-with_a_batch c before store holding =
    Holding (pending 1 1 ∷ []) before holding

pub returns-clause-not_one_with_a_pair : goal.returns-clause-not_one_with_a_pair
returns-clause-not_one_with_a_pair c h = not-killed h

pub returns-clause-the_first_as_it_is : goal.returns-clause-the_first_as_it_is
returns-clause-the_first_as_it_is c h = h 0 holding refl

pub returns-clause-not_the_first_with_a_pair : goal.returns-clause-not_the_first_with_a_pair
returns-clause-not_the_first_with_a_pair c h = not-killed (h 0 holding refl)
