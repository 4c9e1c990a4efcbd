-- A run changes no limits, and its stores hold no more than a stop may leave.
use Rattle.std.proofs.Common.{List, None, Option, Some, [], ap, arith, inl, inr, length, refl}
use Rattle.std.proofs.Common.{length-append, slice_get, suc, zero, ℕ, ◌+◌, ◌∙◌, ◌∷◌, ◌≡◌, ◌≤◌}
use Rattle.std.proofs.Common.{◌⊎◌}
use Rattle.urb_names.specs.LabelsAndContents.{Limits}
use Rattle.urb_stable.specs.Entries.{Entry}
use Rattle.urb_stable.specs.MemoryStores.{Memory, empty_memory}
use Rattle.urb_stable.specs.StableStorage.{IsContents}
use Rattle.urb_world.proofs.steps.DraftsInSteps.{step-size}
use Rattle.urb_world.proofs.steps.Runs.{new-kept}
use Rattle.urb_world.specs.RecoveryPlans.{after}
use Rattle.urb_world.specs.Step.{Event, run, step}
use Rattle.urb_world.specs.World.{World, started}
use Rattle.urb_world.specs.internal.Examples.{limits, pending}
use Rattle.urb_group.proofs.shown.ShownWorlds.{shows-new}
use Rattle.urb_group.specs.GroupViews.{GroupView, Shows}
use Rattle.urb_turn.specs.NodeStores.{MayHaveTail}
use Rattle.urb_turn.specs.internal.TurnExamples.{four, four_views, memory}
use Rattle.urb_daemon.specs.Runs.{StopsAfter}
use Rattle.urb_life_examples.specs.internal.RunExamples.{ahead_of_another}
use Rattle.urb_life_examples.proofs.worked.stopped_runs.what_a_run_leaves.Goals as goal

some-none : {A : Type 0} (x : A) (xs : List A) → x ∷ xs ≡ [] → ⊥
some-none x xs e = cc

none-at : (i : ℕ) (store : Memory) → slice_get [] i ≡ Some store → ⊥
none-at zero store e = cc
none-at (suc i) store e = cc

-- a run changes no limits
run-size : (w : World) (events : List Event) → (after w events).size.n ≡ w.size.n
unfolding run
run-size w [] = refl
run-size w (event ∷ events) =
    run-size (step w event).1 events ∙ ap (λ (s : Limits). s.n) (step-size w event)

-- a group to which a run of a new group of four led has four nodes
of-four : (later : GroupView) (history : List Event) → Shows later (after four history)
    → later.size.n ≡ 4
of-four later history shows = ap (λ (s : Limits). s.n) shows.size ∙ run-size four history

-- no run of a new group of four leads from a world of three to what it shows
three : StopsAfter memory (limits 4 10) four_views (started (limits 3 10)) [] → ⊥
three h =
    let four-of : h.later.size.n ≡ 4 =
    of-four h.later h.history (h.leads four (shows-new (limits 4 10))) in
    let shown : h.later.size.n ≡ h.stopped.shown.size.n =
    ap (λ (s : Limits). s.n) h.stopped.shows.size in
    let stands : (after (started (limits 3 10)) h.history).size.n ≡ h.stopped.shown.size.n =
    ap (λ (s : Limits). s.n) h.stopped.stands.size in
    absurd (omega (arith, four-of, shown, stands, run-size (started (limits 3 10)) h.history))

-- a store may turn out to hold two lists at most, one with a record more than the other
sizes : (certain : List Entry) (doubtful : Option Entry) (records : List Entry)
    → IsContents certain doubtful records
    → (length records ≡ length certain) ⊎ (length records ≡ length certain + 1)
sizes certain None records is = inl (ap length is)
sizes certain (Some entry) records (inl is) = inl (ap length is)
sizes certain (Some entry) records (inr is) = inr (ap length is ∙ length-append certain (entry ∷ []))

not-any : (n : ℕ) → (0 ≡ n) ⊎ (0 ≡ n + 1) → (2 ≡ n) ⊎ (2 ≡ n + 1) → ⊥
not-any n (inl e) (inl f) = omega (arith, e, f)
not-any n (inl e) (inr f) = omega (arith, e, f)
not-any n (inr e) k = omega (arith, e)

pub returns-clause-of_four_new_nodes : goal.returns-clause-of_four_new_nodes
unfolding run
returns-clause-of_four_new_nodes c = record {
  history = [];
  later = four_views;
  leads = λ w shows. shows;
  stopped = record {
    sound = record { world = four; shows = shows-new (limits 4 10); kept = new-kept (limits 4 10) };
    counted = refl;
    nodes = omega (arith);
    shown = four;
    shows = shows-new (limits 4 10);
    stands = record { size = refl; nodes = λ p. inl refl };
    holds = λ i store at. absurd (none-at i store at);
  };
  left = λ i store at. absurd (none-at i store at);
  tails = λ i store at. absurd (none-at i store at);
}

pub returns-clause-nothing_of_three_nodes : goal.returns-clause-nothing_of_three_nodes
returns-clause-nothing_of_three_nodes c h = three h

pub returns-clause-not_where_it_did_not_lead : goal.returns-clause-not_where_it_did_not_lead
returns-clause-not_where_it_did_not_lead c h = three h

pub returns-clause-not_for_a_node_less : goal.returns-clause-not_for_a_node_less
returns-clause-not_for_a_node_less c h =
    let four-of : h.later.size.n ≡ 4 =
    of-four h.later h.history (h.leads four (shows-new (limits 4 10))) in
    let fewer : h.later.size.n ≤ 3 = h.stopped.nodes in
    absurd (omega (arith, four-of, fewer))

pub returns-clause-not_any_records : goal.returns-clause-not_any_records
returns-clause-not_any_records c h =
    let leaves = h.left 0 empty_memory refl tt in
    not-any (length leaves.certain)
    (sizes leaves.certain leaves.doubtful [] (leaves.only []))
    (sizes leaves.certain leaves.doubtful (pending 1 1 ∷ pending 1 2 ∷ [])
    (leaves.only (pending 1 1 ∷ pending 1 2 ∷ [])))

no-tail : (w : World) → MayHaveTail ahead_of_another w 1 empty_memory → ⊥
no-tail w (inl none) = some-none (pending 1 2) [] none
no-tail w (inr tail) = some-none (pending 1 1) [] (tail.based tt)

pub returns-clause-not_a_record_ahead_of_another : goal.returns-clause-not_a_record_ahead_of_another
returns-clause-not_a_record_ahead_of_another c h =
    no-tail (after four h.history) (h.tails 0 empty_memory refl tt)
