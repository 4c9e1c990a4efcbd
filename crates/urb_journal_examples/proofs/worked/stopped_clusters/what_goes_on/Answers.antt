-- A group that shows no world isn't secured, and goes on from none.
use Rattle.std.proofs.Common.{List, [], arith, length, refl, ℕ, ◌∷◌, ◌≡◌}
use Rattle.std.specs.List.{All}
use Rattle.urb_names.specs.Names.{name}
use Rattle.urb_group.specs.GroupViews.{Shows}
use Rattle.urb_stable.specs.DeliveredLogs.{log}
use Rattle.urb_stable.specs.Entries.{Entry}
use Rattle.urb_stable.specs.MemoryStores.{Memory, empty_memory}
use Rattle.urb_world.specs.Step.{step}
use Rattle.urb_world.specs.World.{World, started}
use Rattle.urb_world.specs.internal.Examples.{limits}
use Rattle.urb_journal_examples.specs.internal.GroupValues.{clustered, of_no_world}
use Rattle.urb_journal_examples.proofs.worked.stopped_clusters.what_goes_on.Goals as goal

-- no node has delivered a name and stored no record
none : (records : List Entry) → 0 ≡ length records → name 1 1 ∷ [] ≡ log records → ⊥
none [] count delivered = absurd (cc)
none (r ∷ rs) count delivered = absurd (cc)

no-world : (n : ℕ) (w : World) → Shows (of_no_world n) w → ⊥
no-world n w shows = none (w.node 1).records (shows.nodes 1).count (shows.nodes 1).log

-- no store is unclean
all-none : (P : Memory → Type 0) → All P []
all-none P k store less = absurd (omega (arith, less))

pub returns-clause-anything_over_unclean_stores : goal.returns-clause-anything_over_unclean_stores
returns-clause-anything_over_unclean_stores c secured clean =
    absurd (clean 0 empty_memory (omega arith))

pub returns-clause-anything_behind_no_world : goal.returns-clause-anything_behind_no_world
returns-clause-anything_behind_no_world c = record {
  between = clustered (of_no_world 3) [];
  done = ((λ w shows. absurd (no-world 3 w shows), refl), refl);
  secured = λ secured. secured;
  goes_on = λ secured clean. absurd (no-world 3 secured.stocked.world secured.stocked.shows);
}

pub returns-clause-not_behind_another_reply : goal.returns-clause-not_behind_another_reply
unfolding step
returns-clause-not_behind_another_reply c shows h =
    let told = h.done.0.0 (started (limits 3 10)) shows in absurd (cc)

pub returns-clause-no_group_of_no_world : goal.returns-clause-no_group_of_no_world
returns-clause-no_group_of_no_world c secured h =
    let goes = h.goes_on (h.secured secured) (all-none _) in no-world 3 _ goes.1.opens
