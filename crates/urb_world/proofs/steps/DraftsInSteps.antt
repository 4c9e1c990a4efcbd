-- What one step does to the drafts that the nodes of a world hold.
use Rattle.urb_world.proofs.Common.{Bool, Drafted, Event, Node, Refusal, Refused, Reply, Same, Sent}
use Rattle.urb_world.proofs.Common.{World, ap, cond-false, eqb-true, false, inl, inr, is_node}
use Rattle.urb_world.proofs.Common.{is_storing, refl, step, subst, sym, true, ℕ, ◌==◌, ◌≡◌, ◌⊎◌}
use Rattle.urb_world.proofs.steps.ArrivalCases.{arrive-cases}
use Rattle.urb_world.proofs.steps.StepCases.{OutcomeCases, node_of, outcome-cases, outcome_of}
use Rattle.urb_world.proofs.steps.StepCases.{step-cases, step-here}
pub use Rattle.urb_world.specs.EventEffects.{event_node}

-- ---- the other nodes, and the limits

-- an event changes no other node than its own
pub step-elsewhere : (w : World) (event : Event) (q : ℕ) → (q == event_node event) ≡ false
    → (step w event).1.node q ≡ w.node q
step-elsewhere w event q e =
    step-cases (λ (o : Reply × World). o.1.node q ≡ w.node q) w event (λ _. refl)
    (λ _. cond-false (q == event_node event) (outcome_of w event).1 (w.node q) e)

-- so what holds for the event's node after the event, and for a node that stays, holds for each
-- node
pub step-each : (P : ℕ → Node → Type 0) (w : World) (event : Event) (p : ℕ)
    → (p ≡ event_node event → P (event_node event) ((step w event).1.node (event_node event)))
    → P p (w.node p) → P p ((step w event).1.node p)
step-each P w event p here stays = at (p == event_node event) refl
  where
    at : (b : Bool) → (p == event_node event) ≡ b → P p ((step w event).1.node p)
    at true e =
        let same : p ≡ event_node event = eqb-true p (event_node event) e in
        subst (λ (i : ℕ). P i ((step w event).1.node i)) (sym same) (here same)
    at false e = subst (P p) (sym (step-elsewhere w event p e)) stays

-- a step doesn't change the limits
pub step-size : (w : World) (event : Event) → (step w event).1.size ≡ w.size
step-size w event =
    step-cases (λ (o : Reply × World). o.1.size ≡ w.size) w event (λ _. refl) (λ _. refl)

-- an event that is not refused is at a node of the group
pub step-at : (w : World) (event : Event)
    → (is_node w.size.n (event_node event) ≡ true)
    ⊎ ((r : Refusal) × ((step w event).0 ≡ Refused r))
step-at w event =
    step-cases (λ (o : Reply × World). (is_node w.size.n (event_node event) ≡ true)
    ⊎ ((r : Refusal) × (o.0 ≡ Refused r))) w event (λ r. inr (r, refl)) (λ is. inl is)

-- ---- the node itself

-- By the reply: whether a node held a draft before, and holds one after. If it answers at once or
-- sends, it held no draft and holds none. If its draft is stored, or it goes down or comes up, it
-- holds none.
abbrev pub CalmAs : Reply → Bool → Bool → Type 0
CalmAs (Drafted x position) before after = Unit {0}
CalmAs (Same answer) before after = (before ≡ false) × (after ≡ false)
CalmAs (Sent packets) before after = (before ≡ false) × (after ≡ false)
CalmAs (Refused r) before after = Unit {0}
CalmAs reply before after = after ≡ false

abbrev Calm : Node → Reply × Node → Type 0
Calm node outcome = CalmAs outcome.0 (is_storing node.state) (is_storing outcome.1.state)

-- what the reply says about the drafts of the event's node
pub step-calm : (w : World) (event : Event)
    → CalmAs (step w event).0 (is_storing (w.node (event_node event)).state)
    (is_storing ((step w event).1.node (event_node event)).state)
step-calm w event =
    step-here (Calm (node_of w event)) w event (λ _. tt)
    (outcome-cases (Calm (node_of w event)) w event cases)
  where
    cases : OutcomeCases (Calm (node_of w event)) w event
    cases =
        record {
          refused = λ r. tt;
          again = λ x ready. (ap is_storing ready, ap is_storing ready);
          alone = λ m new e. tt;
          among = λ m new e. tt;
          arrived = λ packet e ready t.
              arrive-cases (Calm (node_of w event)) w.size
              (event_node event) packet.source packet.name packet.message packet.flags
              (node_of w event) (λ cause. tt) (λ cause. tt) (λ acks heard cause. tt)
              (λ acks heard told. (ap is_storing ready, ap is_storing ready));
          ticked = λ e ready. (ap is_storing ready, ap is_storing ready);
          stored = λ position entry held cause e f. refl;
          down = λ e up. refl;
          up = λ image doubtful e f. refl;
          joined = λ image r e f. refl;
        }
