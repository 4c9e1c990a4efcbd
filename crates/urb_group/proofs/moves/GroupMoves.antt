-- What each call of a group says, once one of its nodes has moved.
use Rattle.urb_group.proofs.Common.{CallResult, Carried, Commit, Commits, CommitsAt, Content, Crash}
use Rattle.urb_group.proofs.Common.{CrashesAt, Done, Entry, Err, Event, Fail, FailsAt, GoesDown}
use Rattle.urb_group.proofs.Common.{HoldsAt, HoldsDraft, IsGroup, Leads, LeadsAt, Limits, List}
use Rattle.urb_group.proofs.Common.{Node, Ok, Outcomes, Placed, Refusal, Restart, RestartsAt}
use Rattle.urb_group.proofs.Common.{Result, Same, Sent, Shows, ShowsAt, Some, Stored, Submit}
use Rattle.urb_group.proofs.Common.{SubmitsAt, Taken, Takes, Tick, TicksAt, Up, WentDown, World, ap}
use Rattle.urb_group.proofs.Common.{at_node, memory_in, set, shown, slice_get, step-outcome}
use Rattle.urb_group.proofs.Common.{submits, subst, suc, sym, told_taken, ℕ, ◌∙◌, ◌≡◌}
use Rattle.urb_group.specs.GroupCalls.{ComesUp, Ticks}
use Rattle.urb_group.specs.internal.PlaceCalls.{HandsBack, commits_as, crashes_as, fails_as}
use Rattle.urb_group.specs.internal.PlaceCalls.{restarts_as, ticks_as, told_down, told_sent}
use Rattle.urb_group.specs.internal.PlaceCalls.{told_stored, told_up}
use Rattle.urb_world.specs.Step.{step}
use Rattle.urb_group.specs.declared.node_moves.Node.{Node as Place}
use Rattle.urb_group.proofs.shown.NodeMoves.{StepsTo, holds_draft, lifted, place_shows, still_group}
use Rattle.urb_group.specs.declared.taken.Taken.TheVariants as taken

-- A node moved, and is in its place again.
module _ {A : Type 0} {size : Limits} {places new : List (Place A)}
    (group : IsGroup size places) {i p : ℕ} (own : p ≡ suc i) {node : Place A} (moved : Place A)
    (was : slice_get places i ≡ Some node) (back : new ≡ set places i moved) where
  module _ (event : Event) (outcome : Outcomes)
      (is : (w : World) → Shows (shown size places) w
      → step w event ≡ at_node w p (outcome w.size p (w.node p))) where
    here : (w : World) → Shows (shown size places) w
        → step w event ≡ at_node w (suc i) (outcome w.size (suc i) (w.node (suc i)))
    here w s = is w s ∙ ap (λ (q : ℕ). at_node w q (outcome w.size q (w.node q))) own

    -- the number of the node that the place shows
    own_number : (memory_in node).node ≡ p
    own_number = (group.placed.each i node was).number ∙ sym own

    -- the step in each world that the group showed, and the group after it
    steps : (told : CallResult) → LeadsAt outcome node told moved
        → StepsTo (shown size places) event told (shown size new) × IsGroup size new
    steps told leads =
        subst (λ (ps : List (Place A)). StepsTo (shown size places) event told (shown size ps)
        × IsGroup size ps) (sym back) (
          lifted size places group i node moved was event outcome here told leads,
          still_group size places group i node moved was event outcome here told
              leads,
        )

    -- a submit or an arrival that moves the node in one place moves the group by the same event
    pub takes : (r : Result (Taken A) Refusal)
        → ((n : Node) → ShowsAt node n
        → Leads (outcome (memory_in node).limits (memory_in node).node n) node
        (told_taken r) moved × HoldsAt moved r)
        → Takes (shown size places) p event r (shown size new) × IsGroup size new
    takes (Ok (taken.Same answer)) h = steps (Ok (Same answer)) (λ n s. (h n s).0)
    takes (Ok (taken.Store draft)) h =
        let all = steps (told_taken {A = A} (Ok (taken.Store draft))) (λ n s. (h n s).0) in
        let led =
        h (group.sound.world.node (suc i))
        (place_shows size places group i node moved was group.sound.world
        group.sound.shows) in
        let held =
        subst (λ (ps : List (Place A)). (draft.node ≡ suc i) × HoldsDraft (shown size ps) draft)
        (sym back) (holds_draft size places group i node moved was draft
        led.0.same led.1) in ((all.0, held.0 ∙ sym own, held.1), all.1)
    takes (Err r) h = steps (Err r) (λ n s. (h n s).0)

    goes_down : (r : Result (Unit {0}) Refusal)
        → LeadsAt outcome node (told_down (memory_in node).node r) moved
        → GoesDown (shown size places) p event r (shown size new) × IsGroup size new
    goes_down (Ok done) leads =
        steps (Ok (WentDown p)) (subst (λ (q : ℕ). LeadsAt outcome node (Ok (WentDown q))
        moved) own_number leads)
    goes_down (Err r) leads = steps (Err r) leads

    comes_up : (r : Result (Unit {0}) Refusal)
        → LeadsAt outcome node (told_up (memory_in node).node r) moved
        → ComesUp (shown size places) p event r (shown size new) × IsGroup size new
    comes_up (Ok done) leads =
        steps (Ok (Up p)) (subst (λ (q : ℕ). LeadsAt outcome node (Ok (Up q)) moved)
        own_number leads)
    comes_up (Err r) leads = steps (Err r) leads

    ticks : (r : Result (List Carried) Refusal)
        → LeadsAt outcome node (told_sent r) moved
        → Ticks (shown size places) event r (shown size new) × IsGroup size new
    ticks (Ok packets) leads = steps (Ok (Sent packets)) leads
    ticks (Err r) leads = steps (Err r) leads

  -- ---- the calls

  -- a submit that moves the node in one place moves the group, which stays sound
  pub submit-moved : (m : Content) (result : Result (Taken A) Refusal)
      → SubmitsAt node m (moved, result)
      → Takes (shown size places) p (Submit p m) result (shown size new) × IsGroup size new
  submit-moved m =
      takes (Submit p m) (λ l q n. submits l q m n) (λ w s. step-outcome w (Submit p m) tt)

  -- a failed store that moves the node in one place moves the group, which stays sound
  pub fail-moved : (result : Result (Unit {0}) Refusal) → FailsAt node (moved, result)
      → GoesDown (shown size places) p (Fail p) result (shown size new) × IsGroup size new
  fail-moved = goes_down (Fail p) fails_as (λ w s. step-outcome w (Fail p) tt)

  -- a crash that moves the node in one place moves the group, which stays sound
  pub crash-moved : (result : Result (Unit {0}) Refusal) → CrashesAt node (moved, result)
      → GoesDown (shown size places) p (Crash p) result (shown size new) × IsGroup size new
  crash-moved = goes_down (Crash p) crashes_as (λ w s. step-outcome w (Crash p) tt)

  -- a tick that moves the node in one place moves the group, which stays sound
  pub tick-moved : (result : Result (List Carried) Refusal) → TicksAt node (moved, result)
      → Ticks (shown size places) (Tick p) result (shown size new) × IsGroup size new
  tick-moved = ticks (Tick p) ticks_as (λ w s. step-outcome w (Tick p) tt)

  -- a restart that moves the node in one place moves the group, which stays sound
  pub restart-moved : (image : List Entry) (result : Result (Unit {0}) Refusal)
      → RestartsAt node image (moved, result)
      → ComesUp (shown size places) p (Restart p image) result (shown size new) × IsGroup size new
  restart-moved image =
      comes_up (Restart p image) (restarts_as image) (λ w s. step-outcome w (Restart p image) tt)

  -- a receipt that moves the node in one place moves the group, which stays sound
  pub commit-moved : (receipt : Placed) → receipt.node ≡ p
      → (result : Result Done (Placed × Refusal))
      → CommitsAt node receipt (moved, result)
      → Commits (shown size places) receipt result (shown size new) × IsGroup size new
  commit-moved receipt same result h =
      at result (h.0 (same ∙ sym (own_number event (commits_as receipt) is))) h.1
    where
      event : Event
      event = Commit receipt.node receipt.pos receipt.entry

      is : (w : World) → Shows (shown size places) w
          → step w event ≡ at_node w p (commits_as receipt w.size p (w.node p))
      is w s =
          step-outcome w event tt
          ∙ ap (λ (q : ℕ). at_node w q (commits_as receipt w.size q (w.node q))) same

      at : (r : Result Done (Placed × Refusal))
          → LeadsAt (commits_as receipt) node (told_stored r) moved → HandsBack receipt r
          → Commits (shown size places) receipt r (shown size new) × IsGroup size new
      at (Ok done) leads handed = steps event (commits_as receipt) is (Ok (Stored done)) leads
      at (Err e) leads handed =
          let all = steps event (commits_as receipt) is (Err e.1) leads in
          ((all.0, handed), all.1)
