-- A refused event leaves the world as it is.
use Rattle.urb_world.proofs.Common.{Bool, Carried, Event, List, Node, Refusal, Refused, Reply}
use Rattle.urb_world.proofs.Common.{World, ap, append-nil, ap₂, cond, eqb-true, false, fun_ext}
use Rattle.urb_world.proofs.Common.{packets_in, refl, step, sym, true, updated, ℕ, ◌++◌, ◌==◌, ◌∙◌}
use Rattle.urb_world.proofs.Common.{◌≡◌}
use Rattle.urb_world.proofs.steps.ArrivalCases.{arrive-cases}
use Rattle.urb_world.proofs.steps.StepCases.{OutcomeCases, node_of, outcome-cases, outcome_of}
use Rattle.urb_world.proofs.steps.StepCases.{step-cases}
use Rattle.urb_world.specs.EventEffects.{event_node}

-- if it refuses, the node stays
abbrev Quiet : Node → Reply × Node → Type 0
Quiet node outcome = (r : Refusal) → outcome.0 ≡ Refused r → outcome.1 ≡ node

-- if it refuses, the world stays
abbrev QuietWorld : World → Reply × World → Type 0
QuietWorld w outcome = (r : Refusal) → outcome.0 ≡ Refused r → outcome.1 ≡ w

-- writing the value that a place has already changes nothing
pub same_nodes : (f : ℕ → Node) (p : ℕ) (v : Node) → v ≡ f p → updated f p v ≡ f
same_nodes f p v h = fun_ext (λ q. at q (q == p) refl)
  where
    at : (q : ℕ) (b : Bool) → (q == p) ≡ b → cond b v (f q) ≡ f q
    at q true e = h ∙ ap f (sym (eqb-true q p e))
    at q false e = refl

-- if the reply is a refusal, the world after is the world before
pub refused-stays : (w : World) (event : Event) (r : Refusal) → (step w event).0 ≡ Refused r
    → (step w event).1 ≡ w
refused-stays w event =
    step-cases (QuietWorld w) w event (λ _ r e. refl)
    (λ _ r e. ap₂ (λ (f : ℕ → Node) (packets : List Carried).
    record { size = w.size; node = f; sent = packets })
    (same_nodes w.node (event_node event) (outcome_of w event).1
    (outcome-cases (Quiet node) w event cases r e))
    (ap (λ (reply : Reply). w.sent ++ packets_in reply) e ∙ append-nil w.sent))
  where
    node : Node
    node = node_of w event

    cases : OutcomeCases (Quiet node) w event
    cases =
        record {
          refused = λ s r e. refl;
          again = λ x ready r e. refl;
          alone = λ m new one r e. cc;
          among = λ m new one r e. cc;
          arrived = λ packet same ready t.
              arrive-cases (Quiet node) w.size
              (event_node event) packet.source packet.name packet.message packet.flags node
              (λ cause r e. cc) (λ cause r e. cc) (λ acks heard cause r e. cc)
              (λ acks heard told r e. cc);
          ticked = λ same ready r e. cc;
          stored = λ position entry held cause same f r e. cc;
          down = λ same up r e. cc;
          up = λ image doubtful same f r e. cc;
          joined = λ image d same f r e. cc;
        }
