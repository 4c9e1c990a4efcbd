-- No event is one of node 0, so node 0 stays as it was at the start.
use Rattle.urb_world.proofs.Common.{Arrive, Bool, Carried, Commit, Crash, Down, Err, Event, Fail}
use Rattle.urb_world.proofs.Common.{IsStart, List, Node, None, Of_images, Of_new, Ok, PacketFault}
use Rattle.urb_world.proofs.Common.{Ready, Reply, Restart, Result, State, Submit, Tick, World, []}
use Rattle.urb_world.proofs.Common.{ap, arith, at_node, false, if◌then◌else◌, is_for, is_node}
use Rattle.urb_world.proofs.Common.{limits, ne_eqb, packet_arrives, refl, run, started, step, subst}
use Rattle.urb_world.proofs.Common.{suc, sym, true, world_after, zero, ℕ, ◌==◌, ◌∙◌, ◌∷◌, ◌≡◌}
use Rattle.urb_world.specs.Step.{bytes_arrive}
use Rattle.urb_world.proofs.worked.prospects.what_no_run_reaches.Goals as goal

-- of two worlds with the same node 0, either has it
either : (b : Bool) (w : World) (one other : Reply × World) → one.1.node 0 ≡ w.node 0
    → other.1.node 0 ≡ w.node 0 → (if b then one else other).1.node 0 ≡ w.node 0
either true w one other first second = first
either false w one other first second = second

at-zero : (w : World) (p : ℕ) (outcome : Reply × Node) → (at_node w p outcome).1.node 0 ≡ w.node 0
at-zero w zero outcome = refl
at-zero w (suc p) outcome =
    either (is_node w.size.n (suc p)) w (world_after w (suc p) outcome) _
    (subst (λ (is : Bool). (if is then outcome.1 else w.node 0) ≡ w.node 0)
    (sym (ne_eqb 0 (suc p) (λ e. omega (arith, e)))) refl) refl

arrive-zero : (w : World) (p : ℕ) (bytes : Result Carried PacketFault)
    → (bytes_arrive w p bytes).1.node 0 ≡ w.node 0
arrive-zero w p (Err fault) = refl
arrive-zero w p (Ok packet) =
    either (is_for w p packet) w (at_node w p (packet_arrives w p packet)) _
    (at-zero w p (packet_arrives w p packet)) refl

step-zero : (w : World) (event : Event) → (step w event).1.node 0 ≡ w.node 0
unfolding step
step-zero w (Submit p m) = at-zero w p _
step-zero w (Arrive p bytes) = arrive-zero w p bytes
step-zero w (Tick p) = at-zero w p _
step-zero w (Commit p position entry) = at-zero w p _
step-zero w (Fail p) = at-zero w p _
step-zero w (Crash p) = at-zero w p _
step-zero w (Restart p image) = at-zero w p _

run-zero : (w : World) (events : List Event) → (run w events).1.node 0 ≡ w.node 0
unfolding run
run-zero w [] = refl
run-zero w (event ∷ events) = run-zero (step w event).1 events ∙ step-zero w event

start-zero : (w : World) → IsStart w → (w.node 0).state ≡ Ready
start-zero w (Of_new size) = refl
start-zero w (Of_images size images are fits) = refl

down-ready : Down None ≡ Ready → ⊥
down-ready e = cc

pub returns-clause-a_node_zero_that_is_down : goal.returns-clause-a_node_zero_that_is_down
returns-clause-a_node_zero_that_is_down c reached =
    let same = ap (λ (r : List Reply × World). (r.1.node 0).state) reached.ran in
    let kept = ap (λ (node : Node). node.state) (run-zero reached.start reached.events) in
    down-ready (sym same ∙ (kept ∙ start-zero reached.start reached.is_start))

pub returns-clause-where_a_run_begins : goal.returns-clause-where_a_run_begins
unfolding run
returns-clause-where_a_run_begins c = record {
  start = started (limits 4 10);
  is_start = Of_new (limits 4 10);
  events = [];
  replies = [];
  ran = refl;
}
