-- A crash of a new group is a step, and a delivery without its message is none.
use Rattle.urb_show.proofs.Common.{Bool, Commit, Content, Crash, Does, Join, Label, List, Node}
use Rattle.urb_show.proofs.Common.{Service, ShowsStep, Tick, World, [], ap, arith, false}
use Rattle.urb_show.proofs.Common.{false≢true, if◌then◌else◌, length, limits, name, ne_eqb, refl}
use Rattle.urb_show.proofs.Common.{shown_node, started, subst, sym, true, zero, ℕ, ◌++◌, ◌∙◌, ◌∷◌}
use Rattle.urb_show.proofs.Common.{◌≡◌, ◌≤◌}
use Rattle.urb_world.specs.Step.{step}
use Rattle.urb_world.specs.World.{updated}
use Rattle.urb_show.specs.ShownServices.{ShowsEvent, shown}
use Rattle.urb_show.specs.internal.ReaderExamples.{certified_of_two, unaccepted}
use Rattle.urb_node.specs.Part.{Node as Part}
use Rattle.urb_show.specs.Service as seen
use Rattle.urb_names.specs.declared.refusal.Refusal.TheVariants as refusal
use Rattle.urb_show.proofs.worked.shown_events.which_events_are_steps.Goals as goal

-- a name of node 2 joins no log, if node 2 has accepted nothing
no_list : (s : Service) (joined : List Label) → (s.node 2).list ≡ []
    → name 2 1 ∷ [] ≡ joined → Join s [] joined → ⊥
no_list s joined none is join =
    let there = subst (λ (l : List Label). Join s [] l) (sym is) join in
    let low : 1 ≤ length (s.node 2).list = there.1 in
    let zero : length (s.node 2).list ≡ 0 = ap (λ (l : List Content). length l) none in
    omega (arith, low, zero)

true-false : true ≡ false → ⊥
true-false e = cc

-- another node than node 1 stays
stays : (node : Part) (q : ℕ) → (q ≡ 1 → ⊥)
    → shown_node q (updated (started (limits 4 10)).node 1 node q)
    ≡ shown_node q ((started (limits 4 10)).node q)
stays node q other =
    subst
    (λ (b : Bool). shown_node q (if b then node else (started (limits 4 10)).node q)
    ≡ shown_node q ((started (limits 4 10)).node q)) (sym (ne_eqb q 1 other)) refl

crash : ShowsStep (started (limits 4 10)) (Crash 1)
unfolding step
crash = record { size = refl; here = (refl, refl); others = λ q other. stays _ q other }

crash_at : ShowsEvent (started (limits 4 10)) (Crash 1)
unfolding step
crash_at = record { at_node = λ is. crash; at_none = λ no. absurd (true-false no) }

-- a node whose log gets the name of node 2 finishes nothing, if node 2 has accepted nothing
no_finish : (s : Service) (told : List ℕ) (a b : Node) → a.log ≡ [] → b.log ≡ name 2 1 ∷ []
    → (s.node 2).list ≡ [] → Does s (seen.Finish told) a b → ⊥
no_finish s told a b empty one none (was, is, (joined, join, came)) =
    let logs : name 2 1 ∷ [] ≡ a.log ++ joined = sym one ∙ ap (λ (n : Node). n.log) came in
    no_list s joined none (subst (λ (l : List Label). name 2 1 ∷ [] ≡ l ++ joined) empty logs)
    (subst (λ (l : List Label). Join s l joined) empty join)

-- the service after node 1's store took the record, in this world
abbrev stored_in : World → Service
stored_in w = shown (step w (Commit 1 1 certified_of_two)).1

no_step : ShowsStep unaccepted (Commit 1 1 certified_of_two) → ⊥
unfolding step
no_step steps =
    no_finish (stored_in unaccepted) [] ((shown unaccepted).node 1) ((stored_in unaccepted).node 1)
    refl refl refl steps.here

-- the same after a tick of node 2
abbrev ticked : World
ticked = (step unaccepted (Tick 2)).1

no_step_after : ShowsStep ticked (Commit 1 1 certified_of_two) → ⊥
unfolding step
no_step_after steps =
    no_finish (stored_in ticked) [] ((shown ticked).node 1) ((stored_in ticked).node 1) refl refl refl
    steps.here

pub returns-clause-a_crash : goal.returns-clause-a_crash
returns-clause-a_crash c = crash

pub returns-clause-a_crash_at_a_node : goal.returns-clause-a_crash_at_a_node
returns-clause-a_crash_at_a_node c = crash_at

pub returns-clause-a_submit_at_no_node : goal.returns-clause-a_submit_at_no_node
unfolding step
returns-clause-a_submit_at_no_node c = record {
  at_node = λ is. absurd (false≢true is);
  at_none = λ no. ((refusal.BadNode, refl), refl);
}

pub returns-clause-no_events : goal.returns-clause-no_events
returns-clause-no_events c = tt

pub returns-clause-a_crash_alone : goal.returns-clause-a_crash_alone
returns-clause-a_crash_alone c = (crash_at, tt)

pub returns-clause-no_step : goal.returns-clause-no_step
returns-clause-no_step c steps = no_step steps

pub returns-clause-no_event : goal.returns-clause-no_event
returns-clause-no_event c shows = no_step (shows.at_node refl)

pub returns-clause-not_the_first : goal.returns-clause-not_the_first
returns-clause-not_the_first c (shows, rest) = no_step (shows.at_node refl)

pub returns-clause-not_the_second : goal.returns-clause-not_the_second
unfolding step
returns-clause-not_the_second c (first, (shows, rest)) = no_step_after (shows.at_node refl)
