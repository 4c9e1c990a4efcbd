-- A group that is not stranded never becomes stranded: a node that is alone stores no pair without
-- its certificate.
use Rattle.urb_world.proofs.Common.{AlwaysLeaves, Down, Entry, Event, IsEither, IsNotStranded}
use Rattle.urb_world.proofs.Common.{IsReached, Limits, List, Node, Of_new, Option, Reply, Run, Some}
use Rattle.urb_world.proofs.Common.{State, Storing, World, [], arith, contents-either, doubt}
use Rattle.urb_world.proofs.Common.{false≢true, inl, inr, opened, refl, run, started, step, subst}
use Rattle.urb_world.proofs.Common.{sym, ℕ, ◌<◌, ◌∷◌, ◌≡◌, ◌≤◌}
use Rattle.urb_world.proofs.recovery.ReturningNodes.{Whole, whole-joined}
use Rattle.urb_world.proofs.hearing.LiveWorlds.{WorldLive, reached-live, start-live, step-live}
use Rattle.urb_world.proofs.hearing.LiveNodes.{IsWhole}
use Rattle.urb_world.specs.World.{stored}
use Rattle.urb_world.proofs.steps.StepCases.{OutcomeCases, node_of, outcome-cases, step-nodes}
use Rattle.urb_world.proofs.steps.ArrivalCases.{arrive-cases}
use Rattle.urb_world.proofs.steps.DraftsInSteps.{step-size}
use Rattle.urb_world.specs.EventEffects.{event_node}

-- ---- any run

step-free : (w : World) (event : Event) → WorldLive w → IsNotStranded w
    → IsNotStranded (step w event).1
step-free w event live free one =
    step-nodes (λ q n. 1 ≡ q → Whole n.records) w event
    (λ q e. subst (λ (i : ℕ). Whole (stored w i)) e (free alone))
    (λ e. outcome-cases (λ o. Whole o.1.records) w event
    (cases (subst (λ (i : ℕ). Whole (stored w i)) e (free alone)))) 1 refl
  where
    alone : w.size.n ≡ 1
    alone = subst (λ (size : Limits). size.n ≡ 1) (step-size w event) one

    node : Node
    node = node_of w event

    -- a held or doubtful record is a certificate too
    whole : (s : State) → node.state ≡ s → IsWhole (doubt s)
    whole s e =
        subst (λ (t : State). IsWhole (doubt t)) e ((live.nodes (event_node event)).whole alone)

    cases : Whole node.records → OutcomeCases (λ o. Whole o.1.records) w event
    cases h =
        record {
          refused = λ r. h;
          again = λ x ready. h;
          alone = λ m new e. h;
          among = λ m new e. h;
          arrived = λ packet e ready t.
              arrive-cases (λ o. Whole o.1.records) w.size
              (event_node event) packet.source packet.name packet.message packet.flags node
              (λ cause. h) (λ cause. h) (λ acks heard cause. h) (λ acks heard told. h);
          ticked = λ e ready. h;
          stored =
              λ position entry held cause e f.
              whole-joined node.records held (whole (Storing held cause) f) h;
          down = λ e up. h;
          up = λ image doubtful e f. h;
          joined = λ image r e f. whole-joined node.records r (whole (Down (Some r)) f) h;
        }

-- a live world that isn't stranded isn't stranded after any events
pub run-free : (w : World) (events : List Event) → WorldLive w → IsNotStranded w
    → IsNotStranded (run w events).1
unfolding run
run-free w [] live free = free
run-free w (event ∷ events) live free =
    run-free (step w event).1 events (step-live w event live) (step-free w event live free)

-- if a world of a run isn't stranded, no later world of the run is
pub stays-free : (old new : World) (events : List Event) (replies : List Reply) → IsReached old
    → IsNotStranded old → Run old events replies new → IsNotStranded new
stays-free old new events replies r free ran =
    subst (λ (v : List Reply × World). IsNotStranded v.1) ran
    (run-free old events (reached-live old r) free)

-- no run of a new group leads to a stranded world
pub new-free : (size : Limits) (events : List Event) (replies : List Reply) (w : World)
    → Run (started size) events replies w → IsNotStranded w
new-free size events replies w ran =
    subst (λ (v : List Reply × World). IsNotStranded v.1) ran
    (run-free (started size) events (start-live (started size) (Of_new size))
    (λ one x m h. absurd (false≢true h)))

-- ---- a stop

-- whatever a stop leaves of a lone node, each pair in it has its certificate
pub opens-free : (w : World) (size : Limits) → IsReached w → IsNotStranded w → 0 < w.size.n
    → w.size.n ≤ size.n → AlwaysLeaves w (λ images. IsNotStranded (opened size images))
opens-free w size reached free some more images left one =
    whole (contents-either (stored w 1) (doubt (w.node 1).state) (images 1) (left 1))
  where
    alone : w.size.n ≡ 1
    alone = omega (arith, some, more, one)

    whole : IsEither (stored w 1) (doubt (w.node 1).state) (images 1) → Whole (images 1)
    whole (inl e) = subst Whole (sym e) (free alone)
    whole (inr e) =
        subst Whole (sym e.2) (whole-joined (stored w 1) e.0
        (subst (λ (o : Option Entry). IsWhole o) e.1 (((reached-live w reached).nodes 1).whole alone))
        (free alone))
