-- In every world of a run, what nodes have heard is true, and each node that is up counts itself.
-- No records belong to a node 0.
use Rattle.urb_world.proofs.Common.{Bool, Event, IsReached, IsStart, List, Node, None, Of_images}
use Rattle.urb_world.proofs.Common.{Of_new, Reply, World, [], and_parts, ap, arith, broadcast_after}
use Rattle.urb_world.proofs.Common.{cond, eq-eqb, eqb-true, false, false≢true, is_down, is_node}
use Rattle.urb_world.proofs.Common.{ltb-true, majority_passes, nat_lt, refl, run, step, subst, suc}
use Rattle.urb_world.proofs.Common.{sym, true, ℕ, ◌++◌, ◌==◌, ◌||◌, ◌∙◌, ◌∷◌, ◌≡◌, ◌≤◌}
use Rattle.urb_world.proofs.steps.Growth.{certificate-begins, step-goes_on}
use Rattle.urb_world.proofs.hearing.LiveNodes.{DraftTrue, LeadsLive, NodeLive, live-arrives}
use Rattle.urb_world.proofs.hearing.LiveNodes.{live-down, live-drafts, live-grows, live-opened}
use Rattle.urb_world.proofs.hearing.LiveNodes.{live-stored, live-up}
use Rattle.urb_world.proofs.steps.ConfirmedPackets.{borne-certificate}
use Rattle.urb_world.specs.World.{stored}
use Rattle.urb_world.proofs.steps.StepCases.{OutcomeCases, node_of, outcome-cases, outcome_of}
use Rattle.urb_world.proofs.steps.StepCases.{step-cases}
use Rattle.urb_world.specs.EventEffects.{event_node}

-- each node of the world is live, and there is no node 0
pub record WorldLive (w : World) : Type 0 where
  -- each node is live
  pub nodes : (p : ℕ) → NodeLive w.size.n (stored w) p (w.node p)
  -- no records belong to a node 0
  pub none : stored w 0 ≡ []

-- ---- one step

-- A step only adds to storage. So a node that is live, given what was stored before the step, is
-- live, given what is stored after it.
module _ (w : World) (live : WorldLive w) where
  abbrev NodesLive : Reply × World → Type 0
  NodesLive outcome =
      ((q : ℕ) → NodeLive outcome.1.size.n (stored w) q (outcome.1.node q))
      × (stored outcome.1 0 ≡ [])

  live-old : (event : Event) → NodesLive (step w event)
  live-old event =
      step-cases NodesLive w event (λ _. (live.nodes, live.none))
      (λ is. (
        λ q. at q (q == p) refl
            (outcome-cases (LeadsLive w.size.n (stored w) p) w event (cases is)),
        zero (0 == p) refl (ltb-true 0 p (and_parts (nat_lt 0 p) _ is).0),
      ))
    where
      p : ℕ
      p = event_node event

      node : Node
      node = node_of w event

      at : (q : ℕ) (b : Bool) → (q == p) ≡ b → LeadsLive w.size.n (stored w) p (outcome_of w event)
          → NodeLive w.size.n (stored w) q (cond b (outcome_of w event).1 (w.node q))
      at q true e k =
          subst (λ (i : ℕ). NodeLive w.size.n (stored w) i (outcome_of w event).1)
          (sym (eqb-true q p e)) k
      at q false e k = live.nodes q

      zero : (b : Bool) → (0 == p) ≡ b → 1 ≤ p
          → (cond b (outcome_of w event).1 (w.node 0)).records ≡ []
      zero true e l = absurd (let f = eqb-true 0 p e in omega arith)
      zero false e l = live.none

      -- the one node of a group is a majority
      first : is_node w.size.n p ≡ true → (source : ℕ) → w.size.n ≡ 1
          → majority_passes w.size.n (λ z. (z == p) || (z == source)) ≡ true
      first is source e =
          subst (λ (n : ℕ). majority_passes n (λ z. (z == p) || (z == source)) ≡ true) (sym e)
          (subst (λ (i : ℕ). majority_passes 1 (λ z. (z == i) || (z == source)) ≡ true)
          (sym one) refl)
        where
          one : p ≡ 1
          one =
              let parts = and_parts (nat_lt 0 p) (nat_lt p (suc w.size.n)) is in
              omega (arith, e, ltb-true 0 p parts.0, ltb-true p (suc w.size.n) parts.1)

      cases : is_node w.size.n p ≡ true → OutcomeCases (LeadsLive w.size.n (stored w) p) w event
      cases is =
          record {
            refused = λ r. live.nodes p;
            again = λ x ready. live.nodes p;
            alone =
                λ m new one. live-drafts w.size (stored w) p node _ None (live.nodes p)
                (ap is_down new.ready) tt (λ _. tt);
            among =
                λ m new others. live-drafts w.size (stored w) p node _ None (live.nodes p)
                (ap is_down new.ready) tt (λ f.
                absurd (false≢true (sym others ∙ eq-eqb w.size.n 1 f)));
            arrived = λ packet e ready t.
                live-arrives w.size (stored w) p packet.source packet.name packet.flags
                (λ c. borne-certificate (stored w packet.source) packet t c) packet.message node
                (live.nodes p) (ap is_down ready)
                (first is packet.source);
            ticked =
                λ e ready. let h = live.nodes p in
                record { heard = h.heard; draft = h.draft; counts = h.counts; whole = h.whole };
            stored =
                λ position entry held cause e f.
                live-stored w.size (stored w) p held cause node (live.nodes p) (ap is_down f)
                (subst (DraftTrue (stored w)) f (live.nodes p).draft);
            down = λ e up. live-down w.size (stored w) p node (live.nodes p);
            up = λ image doubtful e f. live-up w.size (stored w) p node.records node.broadcast;
            joined =
                λ image r e f. live-up w.size (stored w) p (node.records ++ r ∷ [])
                (broadcast_after p r node.broadcast);
          }

-- a live world is live after any event
pub step-live : (w : World) (event : Event) → WorldLive w → WorldLive (step w event).1
step-live w event live =
    let old = live-old w live event in
    record {
      nodes =
          λ p. live-grows (step w event).1.size.n (stored w) (stored (step w event).1) p
          ((step w event).1.node p)
          (λ q x h. certificate-begins (stored w q) (stored (step w event).1 q)
          ((step-goes_on w event).records q) x h) (old.0 p);
      none = old.1;
    }

-- ---- any run

-- a live world is live after any run
pub run-live : (w : World) (events : List Event) → WorldLive w → WorldLive (run w events).1
unfolding run
run-live w [] live = live
run-live w (event ∷ events) live = run-live (step w event).1 events (step-live w event live)

-- each world in which a run may begin is live
pub start-live : (w : World) → IsStart w → WorldLive w
start-live w (Of_new size) = record { nodes = λ p. live-opened size.n (λ q. []) p []; none = refl }
start-live w (Of_images size images are fits) =
    record { nodes = λ p. live-opened size.n _ p _; none = refl }

-- every world of a run is live
pub reached-live : (w : World) → IsReached w → WorldLive w
reached-live w r =
    subst (λ (v : List Reply × World). WorldLive v.1) r.ran
    (run-live r.start r.events (start-live r.start r.is_start))
