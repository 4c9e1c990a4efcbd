-- A ready node's ticks: each pair that is due is sent to each node whose certificate of it was not
-- heard.
use Rattle.urb_world.proofs.Common.{Carried, Content, Event, IsDone, Label, List, Node, Ready}
use Rattle.urb_world.proofs.Common.{Reply, Tick, World, after, ap, append-nil, append_assoc, cert}
use Rattle.urb_world.proofs.Common.{cond-false, cond-true, due_of, flat_map, is_down, is_node}
use Rattle.urb_world.proofs.Common.{is_storing, packets_in, pend, refl, replicate, resends, resent}
use Rattle.urb_world.proofs.Common.{rising, run, step, subst, suc, sym, to_unheard, true}
use Rattle.urb_world.proofs.Common.{world_after, zero, ℕ, ◌++◌, ◌∙◌, ◌≡◌}
use Rattle.std.proofs.lemmas.Grind.{flat_map-append}
use Rattle.urb_world.proofs.recovery.CarriedPackets.{Moved, moved-after, moved-twice}
use Rattle.urb_world.proofs.steps.Growth.{begins-itself}
use Rattle.urb_world.proofs.steps.OneNodeStep.{updated-at}
use Rattle.urb_world.proofs.ticks.TickCoverage.{cursor_after, turns}
use Rattle.urb_world.specs.RecoveredWorlds.{Goes}
use Rattle.urb_world.specs.RecoveryPlans.{packets_of}
use Rattle.urb_node.specs.Steps.{ticks}

-- the pairs of node p that are due
abbrev pub due_pairs : ℕ → ℕ → Node → List (Label × Content)
due_pairs n p node = due_of n p node.heard (rising (pend node.records))

-- the packets of these pairs to nodes whose certificates were not heard
abbrev pub resent_packets : ℕ → ℕ → Node → List (Label × Content) → List Carried
resent_packets n p node pairs = flat_map (to_unheard n p (cert node.records) node.heard) pairs

abbrev pub tick_events : ℕ → ℕ → List Event
tick_events p k = replicate k (Tick p)

-- k ticks of p, which is this node in the world
pub record Ticks (p k : ℕ) (node : Node) (w : World) : Type 0 where
  -- the ticks succeed
  pub goes : Goes w (tick_events p k)
  -- they send the due pairs in their turn
  pub packets : packets_of w (tick_events p k) ≡ resent_packets w.size.n p node
      (turns k node.cursor (due_pairs w.size.n p node))
  -- only the node's cursor moves
  pub moved : Moved w p (record node
      { cursor = cursor_after k node.cursor (due_pairs w.size.n p node) })
      (after w (tick_events p k))
  -- their packets are added to those that were sent
  pub sent : (after w (tick_events p k)).sent ≡ w.sent ++ packets_of w (tick_events p k)

tick-is : (w : World) (p : ℕ) (node : Node) → w.node p ≡ node → node.state ≡ Ready
    → is_node w.size.n p ≡ true → step w (Tick p) ≡ world_after w p (resends w.size.n p node)
unfolding step
tick-is w p node e ready is =
    cond-true (is_node w.size.n p) _ _ is
    ∙ ap (world_after w p)
    (ap (ticks w.size.n p) e
    ∙ (cond-false (is_down node.state) _ _ (ap is_down ready)
    ∙ cond-false (is_storing node.state) _ _ (ap is_storing ready)))

-- a ready node can tick k times, and sends the pairs that are due in their turn
pub ticks-go : (p k : ℕ) (node : Node) (w : World) → w.node p ≡ node → node.state ≡ Ready
    → is_node w.size.n p ≡ true → Ticks p k node w
unfolding run
ticks-go p zero node w e ready is =
    record {
      goes = tt;
      packets = refl;
      moved =
          record { size = refl; here = e; there = λ q h. refl; sent = begins-itself w.sent };
      sent =
          sym (append-nil w.sent);
    }
ticks-go p (suc k) node w e ready is =
    once (ticks-go p k first next (updated-at w.node p first) ready is)
  where
    outcome : Reply × Node
    outcome = resends w.size.n p node

    first : Node
    first = (resends w.size.n p node).1

    next : World
    next = (world_after w p (resends w.size.n p node)).1

    last : Node
    last = record node { cursor = cursor_after (suc k) node.cursor (due_pairs w.size.n p node) }

    same : step w (Tick p) ≡ world_after w p (resends w.size.n p node)
    same = tick-is w p node e ready is

    once : Ticks p k first next → Ticks p (suc k) node w
    once rest =
        record {
          goes = (
            tt,
            subst (λ (o : Reply × World). IsDone o.0) (sym same) tt,
            subst (λ (o : Reply × World). Goes o.1 (tick_events p k)) (sym same) rest.goes,
          );
          packets =
              subst (λ (o : Reply × World).
              packets_in o.0 ++ packets_of o.1 (tick_events p k) ≡ resent_packets w.size.n p node
              (turns (suc k) node.cursor (due_pairs w.size.n p node))) (sym same)
              (ap (λ ps. packets_in outcome.0 ++ ps) rest.packets
              ∙ sym (flat_map-append (to_unheard w.size.n p (cert node.records) node.heard)
              (resent node.cursor (due_pairs w.size.n p node))
              (turns k first.cursor (due_pairs w.size.n p node))));
          moved =
              subst (λ (o : Reply × World). Moved w p last (after o.1 (tick_events p k))) (sym same)
              (moved-twice w next (after next (tick_events p k)) p first last
              (moved-after w p (resends w.size.n p node)) rest.moved);
          sent =
              subst (λ (o : Reply × World).
              (after o.1 (tick_events p k)).sent ≡ w.sent
              ++ (packets_in o.0 ++ packets_of o.1 (tick_events p k))) (sym same)
              (rest.sent ∙ append_assoc w.sent (packets_in outcome.0)
              (packets_of next (tick_events p k)));
        }
