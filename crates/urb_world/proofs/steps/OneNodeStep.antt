-- How one node's step preserves what holds for all nodes.
use Rattle.urb_world.proofs.Common.{AcksKept, AllByRecursion, AreFrom, Bool, Carried, Cause, Cert}
use Rattle.urb_world.proofs.Common.{Content, DoubtKept, Down, Entry, Grows, IsCaused, IsFrom, Label}
use Rattle.urb_world.proofs.Common.{Limits, List, MayJoin, Node, NodeKept, NodesKept, None, Option}
use Rattle.urb_world.proofs.Common.{Pend, PendCert, Ready, Reply, Some, State, StateKept, Storing}
use Rattle.urb_world.proofs.Common.{World, [], all_weaker, ap, cert, cond, cond-true, eq-eqb}
use Rattle.urb_world.proofs.Common.{eqb-true, false, has_name, has_pair, packets_in, pend, refl}
use Rattle.urb_world.proofs.Common.{rules-grow, subst, sym, true, truthful, updated, world_after, ℕ}
use Rattle.urb_world.proofs.Common.{◌++◌, ◌==◌, ◌∙◌, ◌∷◌, ◌≡◌}
use Rattle.urb_world.proofs.steps.ConfirmedPackets.{to_borne}
use Rattle.urb_world.specs.World.{stored}
use Rattle.urb_stable.proofs.KeptRules.{kept-grow}

-- the nodes after a step, and the packets that it hands out
pub record StepKept (outcome : Reply × World) : Type 0 where
  -- all nodes meet the rules after the step
  pub nodes : NodesKept outcome.1
  -- each packet of the reply is truthful after the step
  pub told : AllByRecursion (λ packet. truthful outcome.1 packet ≡ true) (packets_in outcome.0)

-- ---- growing images

-- an updated function has the new value at the updated place
pub updated-at : {A : Type 0} (f : ℕ → A) (p : ℕ) (v : A) → updated f p v p ≡ v
updated-at f p v = cond-true (p == p) _ _ (eq-eqb p p refl)

updated-grows : (old new : ℕ → List Entry) (p : ℕ) (records : List Entry) → Grows old new
    → Grows (updated old p records) (updated new p records)
updated-grows old new p records g q x m = at (q == p)
  where
    at : (b : Bool) → has_pair (pend (cond b records (old q))) x m ≡ true
        → has_pair (pend (cond b records (new q))) x m ≡ true
    at true h = h
    at false h = g q x m h

may_join-grows : (size : Limits) (old new : ℕ → List Entry) (p : ℕ) (records : List Entry)
    (r : Entry) → Grows old new → MayJoin size old p records r → MayJoin size new p records r
may_join-grows size old new p records r g h =
    rules-grow size (updated old p (records ++ r ∷ []))
    (updated new p (records ++ r ∷ [])) p records r
    (updated-grows old new p (records ++ r ∷ []) g) h

-- if the node that caused a record holds its pair, it still does once nodes have stored more
pub caused-grows : (old new : ℕ → List Entry) (r : Entry) (cause : Option Cause) → Grows old new
    → IsCaused old r cause → IsCaused new r cause
caused-grows old new r None g h = tt
caused-grows old new (Pend x m) (Some cause) g h = g cause.source x m h
caused-grows old new (PendCert x m) (Some cause) g h = g cause.source x m h
caused-grows old new (Cert x) (Some cause) g h = tt

doubt-grows : (size : Limits) (old new : ℕ → List Entry) (p : ℕ) (records : List Entry)
    (o : Option Entry) → Grows old new → DoubtKept size old p records o
    → DoubtKept size new p records o
doubt-grows size old new p records None g h = tt
doubt-grows size old new p records (Some r) g h = may_join-grows size old new p records r g h

state-grows : (size : Limits) (old new : ℕ → List Entry) (p : ℕ) (records : List Entry) (s : State)
    → Grows old new → StateKept size old p records s → StateKept size new p records s
state-grows size old new p records Ready g h = tt
state-grows size old new p records (Storing r cause) g h =
    (may_join-grows size old new p records r g h.0, caused-grows old new r cause g h.1)
state-grows size old new p records (Down o) g h = doubt-grows size old new p records o g h

acks-grow : (old new : ℕ → List Entry) (records : List Entry) (acks : List (Label × ℕ))
    → Grows old new → AcksKept old records acks → AcksKept new records acks
acks-grow old new records acks g h x q c e = let k = h x q c e in (k.0, k.1, g q x k.0 k.2)

-- a node that meets the rules still meets them once nodes have stored more
pub node-grows : (size : Limits) (old new : ℕ → List Entry) (p : ℕ) (node : Node) → Grows old new
    → NodeKept size old p node → NodeKept size new p node
node-grows size old new p node g h =
    record {
      kept = kept-grow size old new p [] node.records g h.kept;
      state = state-grows size old new p node.records node.state g h.state;
      acks = acks-grow old new node.records node.acks g h.acks;
      broadcast = h.broadcast;
    }

-- ---- one node's step

-- the outcome keeps all pairs and certificates and what holds for a node, and sends only packets of
-- stored pairs
pub record Leads (size : Limits) (images : ℕ → List Entry) (p : ℕ)
    (outcome : Reply × Node) : Type 0 where
  -- no stored pair is lost
  pub grows : (x : Label) (m : Content) → has_pair (pend (images p)) x m ≡ true
      → has_pair (pend outcome.1.records) x m ≡ true
  -- no stored certificate is lost
  pub certified : (x : Label) → has_name (cert (images p)) x ≡ true
      → has_name (cert outcome.1.records) x ≡ true
  -- the node meets the rules after the outcome
  pub kept : NodeKept size (updated images p outcome.1.records) p outcome.1
  -- each packet of the reply carries what the node has stored by then
  pub sent : AreFrom p (pend outcome.1.records) (cert outcome.1.records) (packets_in outcome.0)

-- an outcome that leaves the records preserves the rules, if the node then meets them
pub leads-same : (size : Limits) (images : ℕ → List Entry) (p : ℕ) (outcome : Reply × Node)
    → images p ≡ outcome.1.records → NodeKept size images p outcome.1
    → AreFrom p (pend outcome.1.records) (cert outcome.1.records) (packets_in outcome.0)
    → Leads size images p outcome
leads-same size images p outcome e k s =
    record {
      grows = λ x m h. subst (λ (rs : List Entry). has_pair (pend rs) x m ≡ true) e h;
      certified = λ x h. subst (λ (rs : List Entry). has_name (cert rs) x ≡ true) e h;
      kept = node-grows size images (updated images p outcome.1.records) p outcome.1 stays k;
      sent = s;
    }
  where
    stays : Grows images (updated images p outcome.1.records)
    stays q x m = at (q == p) refl
      where
        at : (b : Bool) → (q == p) ≡ b → has_pair (pend (images q)) x m ≡ true
            → has_pair (pend (cond b outcome.1.records (images q))) x m ≡ true
        at true f h =
            subst (λ (rs : List Entry). has_pair (pend rs) x m ≡ true)
            (ap images (eqb-true q p f) ∙ e) h
        at false f h = h

-- what one node's outcome preserves, the world's step preserves
pub nodes-step : (w : World) (p : ℕ) (outcome : Reply × Node) → NodesKept w
    → Leads w.size (stored w) p outcome → StepKept (world_after w p outcome)
nodes-step w p outcome inv leads =
    record {
      nodes = λ q. at_node q (q == p) refl;
      told = all_weaker _ _ (packets_in outcome.0) (λ packet h. is_true packet h) leads.sent;
    }
  where
    after : ℕ → List Entry
    after = stored (world_after w p outcome).1

    -- the records after the step, in two ways
    to_after : Grows (updated (stored w) p outcome.1.records) after
    to_after q x m = go (q == p)
      where
        go : (b : Bool) → has_pair (pend (cond b outcome.1.records (stored w q))) x m ≡ true
            → has_pair (pend (cond b outcome.1 (w.node q)).records) x m ≡ true
        go true h = h
        go false h = h

    grow : Grows (stored w) after
    grow q x m = go (q == p) refl
      where
        go : (b : Bool) → (q == p) ≡ b → has_pair (pend (stored w q)) x m ≡ true
            → has_pair (pend (cond b outcome.1 (w.node q)).records) x m ≡ true
        go true e h =
            leads.grows x m (subst (λ (i : ℕ). has_pair (pend (stored w i)) x m ≡ true)
            (eqb-true q p e) h)
        go false e h = h

    at_node : (q : ℕ) (b : Bool) → (q == p) ≡ b
        → NodeKept w.size after q (cond b outcome.1 (w.node q))
    at_node q true e =
        subst (λ (i : ℕ). NodeKept w.size after i outcome.1) (sym (eqb-true q p e))
        (node-grows w.size (updated (stored w) p outcome.1.records)
        after p outcome.1 to_after leads.kept)
    at_node q false e = node-grows w.size (stored w) after q (w.node q) grow (inv q)

    here : after p ≡ outcome.1.records
    here = ap (λ (node : Node). node.records) (updated-at w.node p outcome.1)

    is_true : (packet : Carried) → IsFrom p (pend outcome.1.records) (cert outcome.1.records) packet
        → truthful (world_after w p outcome).1 packet ≡ true
    is_true packet h =
        to_borne (after packet.source) packet
        (subst (λ (rs : List Entry). has_pair (pend rs) packet.name packet.message ≡ true)
        from h.pair)
        (λ e. subst (λ (rs : List Entry). has_name (cert rs) packet.name ≡ true) from
        (h.certificate e))
      where
        from : outcome.1.records ≡ after packet.source
        from = sym (ap after h.source ∙ here)
