-- A run loses no record, so a payload that is too long stays.
use Rattle.std.proofs.Common.{List, [], arith, length, refl, subst, suc, sym, true, zero, ℕ, ◌<◌}
use Rattle.std.proofs.Common.{◌∙◌, ◌∷◌, ◌≡◌}
use Rattle.urb_names.proofs.OrderedPairs.{has_pair-head}
use Rattle.urb_names.specs.ListPrefixes.{Begins}
use Rattle.urb_names.specs.Names.{name}
use Rattle.urb_names.specs.Pairs.{has_pair}
use Rattle.urb_names.specs.declared.limits.TheConstants.{MAX_PAYLOAD}
use Rattle.urb_node.specs.NodeViews.{ShowsNode}
use Rattle.urb_stable.specs.Entries.{Entry}
use Rattle.urb_stable.specs.Records.{pend}
use Rattle.urb_world.proofs.steps.Growth.{run-goes_on}
use Rattle.urb_world.proofs.steps.Runs.{new-kept}
use Rattle.urb_world.specs.RecoveryPlans.{after}
use Rattle.urb_world.specs.Step.{run}
use Rattle.urb_world.specs.World.{World, started, stored}
use Rattle.urb_world.specs.internal.Examples.{limits}
use Rattle.urb_group.proofs.shown.ShownWorlds.{shows-new}
use Rattle.urb_group.specs.GroupViews.{GroupView, IsSound, Shows, view_of}
use Rattle.urb_turn.specs.internal.TurnExamples.{four_views}
use Rattle.urb_life_examples.specs.internal.RunExamples.{four_with, holding_payload, with_payload}
use Rattle.urb_life_examples.specs.internal.RunExamples.{world_with}
use Rattle.urb_life_examples.proofs.worked.worker_jobs.groups_that_runs_lead_to.Goals as goal

-- no sound group shows a world whose node 1 has such a payload
too-long : (payload : List ℕ) → MAX_PAYLOAD < length payload → (group : GroupView) (w : World)
    → Begins (with_payload payload ∷ []) (stored w 1) → Shows group w → IsSound group → ⊥
too-long payload long group w begins shows sound =
    let pair : has_pair (pend (stored w 1)) (name 1 1) (holding_payload payload) ≡ true =
    subst (λ (rs : List Entry). has_pair (pend rs) (name 1 1) (holding_payload payload) ≡ true)
    begins.1 (has_pair-head (name 1 1, holding_payload payload) (pend begins.0)) in
    let here = (shows.nodes 1).pairs (name 1 1) (holding_payload payload) in
    let there = (sound.shows.nodes 1).pairs (name 1 1) (holding_payload payload) in
    let short = (sound.kept.short 1).stored (name 1 1) (holding_payload payload)
    (sym there ∙ here ∙ pair) in
    absurd (omega (arith, long, short))

-- the group shows its world
shows-with : (payload : List ℕ) → Shows (four_with payload) (world_with payload)
shows-with payload = record { size = refl; nodes = at }
  where
    at : (p : ℕ) → ShowsNode (limits 4 10) p (view_of (four_with payload) p)
        ((world_with payload).node p)
    at zero = (shows-new (limits 4 10)).nodes 0
    at (suc zero) = record {
      pairs = λ x m. refl;
      certified = λ x. refl;
      log = refl;
      count = refl;
      state = refl;
      cursor = refl;
      acks = λ x q e. refl;
      heard = λ x q. refl;
      rules = (refl, refl, tt);
      broadcast = refl;
    }
    at (suc (suc p)) = (shows-new (limits 4 10)).nodes (suc (suc p))

pub returns-clause-four_new_nodes : goal.returns-clause-four_new_nodes
unfolding run
returns-clause-four_new_nodes c = record {
  history = [];
  group = four_views;
  sound = record {
    world = started (limits 4 10);
    shows = shows-new (limits 4 10);
    kept = new-kept (limits 4 10);
  };
  nodes = refl;
  size = refl;
  leads = λ w shows. shows;
  stores = λ start shows firsts. tt;
}

pub returns-clause-not_with_a_long_payload : goal.returns-clause-not_with_a_long_payload
returns-clause-not_with_a_long_payload c payload long h =
    let start = world_with payload in
    too-long payload long h.group (after start h.history)
    ((run-goes_on start (after start h.history) h.history (run start h.history).0 refl).records 1)
    (h.leads start (shows-with payload)) h.sound
