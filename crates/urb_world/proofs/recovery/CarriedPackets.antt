-- A packet that was sent arrives at its ready target, and the record that it may draft is stored.
-- The target then knows the name, and has counted the packet's source or certified the name.
use Rattle.urb_world.proofs.Common.{AllByRecursion, Arrive, Begins, Carried, Cause, Commit, Down}
use Rattle.urb_world.proofs.Common.{Entry, IsDone, Label, Limits, List, Node, Ok, Option, Ready}
use Rattle.urb_world.proofs.Common.{Reply, State, Stored, Storing, WasSent, World, [], after}
use Rattle.urb_world.proofs.Common.{and_from, ap, arrives, carries, cases_Bool, commits, cond-false}
use Rattle.urb_world.proofs.Common.{cond-true, done, each, eq-eqb, eqb-true, false, false≢true}
use Rattle.urb_world.proofs.Common.{is_down, is_for, is_node, is_storing, keeps_record}
use Rattle.urb_world.proofs.Common.{next_position, not, packets_in, receipt_of, refl, run}
use Rattle.urb_world.proofs.Common.{same_record, same_record-same, step, stores, subst, sym, true}
use Rattle.urb_world.proofs.Common.{truthful, world_after, ℕ, ⊎_elim, ◌&&◌, ◌==◌, ◌∙◌, ◌∷◌, ◌≡◌}
use Rattle.std.proofs.lemmas.Bool.{not_from_true}
use Rattle.urb_world.proofs.steps.Growth.{begins-itself, begins-trans, run-goes_on}
use Rattle.urb_world.proofs.steps.OneNodeStep.{updated-at}
use Rattle.urb_world.proofs.recovery.ContinuedWorlds.{Calm, CountsAt, Onward, known-sender}
use Rattle.urb_world.proofs.recovery.ContinuedWorlds.{known-stays, knows-pair, node-stays}
use Rattle.urb_world.proofs.recovery.ContinuedWorlds.{onward-further, onward-still, run-sound}
use Rattle.urb_world.proofs.recovery.ContinuedWorlds.{sent-stays, truth-stays}
use Rattle.urb_world.proofs.recovery.EventPlans.{Course, Reaches, reaches-append, reaches-each}
use Rattle.urb_world.proofs.recovery.EventPlans.{reaches-none, reaches-one, reaches-weaker}
use Rattle.urb_world.proofs.recovery.CountedArrivals.{Counts, Took, arrives-settles, knows, settled}
use Rattle.urb_world.proofs.steps.ConfirmedPackets.{borne-pair}
use Rattle.urb_world.specs.World.{stored}

-- ---- one node moved

-- from one world to the other node q becomes this one; the others stay, and more may be sent
pub record Moved (w : World) (q : ℕ) (node : Node) (v : World) : Type 0 where
  -- the limits stay
  pub size : v.size ≡ w.size
  -- node q is this one now
  pub here : v.node q ≡ node
  -- each other node stays
  pub there : (p : ℕ) → (p == q) ≡ false → v.node p ≡ w.node p
  -- each packet that was sent stays among those sent
  pub sent : Begins w.sent v.sent

-- the outcome of an event at a node changes that node alone
pub moved-after : (w : World) (q : ℕ) (outcome : Reply × Node)
    → Moved w q outcome.1 (world_after w q outcome).1
moved-after w q outcome =
    record {
      size = refl;
      here = updated-at w.node q outcome.1;
      there =
          λ p e. cond-false (p == q) outcome.1 (w.node p) e;
      sent = (packets_in outcome.0, refl);
    }

-- one move of a node after another is a move
pub moved-twice : (u v w : World) (q : ℕ) (a b : Node) → Moved u q a v → Moved v q b w
    → Moved u q b w
moved-twice u v w q a b h k =
    record {
      size = k.size ∙ h.size;
      here = k.here;
      there = λ p e. k.there p e ∙ h.there p e;
      sent =
          begins-trans u.sent v.sent w.sent h.sent k.sent;
    }

-- what holds for the node as it is then, and for all others as they were, holds for each node
pub moved-each : (w : World) (q : ℕ) (node : Node) (v : World) → Moved w q node v
    → (P : ℕ → Node → Type 0) → P q node → ((p : ℕ) → P p (w.node p)) → (p : ℕ) → P p (v.node p)
moved-each w q node v moved P h k p = ⊎_elim at_q elsewhere (cases_Bool (p == q))
  where
    at_q : (p == q) ≡ true → P p (v.node p)
    at_q e =
        subst (λ (i : ℕ). P i (v.node i)) (sym (eqb-true p q e)) (subst (P q) (sym moved.here) h)

    elsewhere : (p == q) ≡ false → P p (v.node p)
    elsewhere e = subst (P p) (sym (moved.there p e)) (k p)

-- ---- a held record is stored

commit-is : (u : World) (q : ℕ) (node : Node) (entry : Entry) (cause : Option Cause)
    → u.node q ≡ node → node.state ≡ Storing entry cause → is_node u.size.n q ≡ true
    → step u (Commit q (next_position node) entry) ≡ world_after u q
    (Stored (done u.size.n q entry cause node), keeps_record q entry cause node)
unfolding step
commit-is u q node entry cause e s is =
    cond-true (is_node u.size.n q) _ _ is
    ∙ ap (world_after u q)
    (ap (λ (n : Node). commits u.size.n q (next_position node) entry n n.state) e
    ∙ (ap (commits u.size.n q (next_position node) entry node) s
    ∙ cond-true ((next_position node == next_position node) && same_record entry entry) _ _
    (and_from (next_position node == next_position node) _
    (eq-eqb (next_position node) (next_position node) refl) (same_record-same entry))))

-- what the node in this state holds is stored
pub stores-reaches : (u : World) (q : ℕ) (node : Node) (s : State) → u.node q ≡ node
    → node.state ≡ s → is_down s ≡ false → is_node u.size.n q ≡ true
    → Reaches (Moved u q (settled q node s)) u (receipt_of q node s)
stores-reaches u q node Ready e f up is =
    reaches-none _ u (record {
      size = refl;
      here = e;
      there = λ p h. refl;
      sent =
          begins-itself u.sent;
    })
stores-reaches u q node (Down doubtful) e f up is = absurd (false≢true (sym up))
stores-reaches u q node (Storing entry cause) e f up is =
    let same = commit-is u q node entry cause e f is in
    reaches-one _ u (Commit q (next_position node) entry) tt
    (subst (λ (o : Reply × World). IsDone o.0) (sym same) tt)
    (subst (λ (o : Reply × World). Moved u q (keeps_record q entry cause node) o.1) (sym same)
    (moved-after u q (
      Stored (done u.size.n q entry cause node),
      keeps_record q entry cause node,
    )))

-- ---- a packet arrives

-- a packet that may be carried: it was sent and is truthful, goes between nodes, and has a node's
-- name
pub record Carriable (w : World) (packet : Carried) : Type 0 where
  -- its source is a node of the group
  pub source : is_node w.size.n packet.source ≡ true
  -- its target is a node of the group
  pub target : is_node w.size.n packet.target ≡ true
  -- its name's sender is a node of the group
  pub sender : is_node w.size.n packet.name.sender ≡ true
  -- it is truthful
  pub truth : truthful w packet ≡ true
  -- it was sent
  pub sent : WasSent w packet

-- its target knows its name, and has counted its source or certified the name
pub record IsToldBy (packet : Carried) (v : World) : Type 0 where
  -- the target knows the packet's name
  pub known : knows (stored v packet.target) packet.name ≡ true
  -- the target has counted the packet's source, or certified the name
  pub counted : CountsAt v packet.target packet.name packet.source

module _ (w : World) (calm : Calm w) (packet : Carried) (may : Carriable w packet) where
  abbrev q : ℕ
  q = packet.target

  abbrev outcome : Reply × Node
  outcome = arrives w.size q packet.source packet.name packet.message packet.flags (w.node q)

  -- a packet that may be carried has its outcome at its target, for it isn't refused
  pub arrive-is : step w (Arrive q (Ok packet)) ≡ world_after w q outcome
  unfolding step
  arrive-is =
      cond-true (is_for w q packet) _ _
      (and_from (is_node w.size.n packet.source && is_node w.size.n packet.name.sender) (q == q)
      (and_from (is_node w.size.n packet.source) _ may.source may.sender) (eq-eqb q q refl))
      ∙ (cond-true (is_node w.size.n q) _ _ may.target
      ∙ ap (world_after w q)
      (cond-false (is_down (w.node q).state) _ _ (ap is_down (calm.ready q may.target))
      ∙ (cond-false (is_storing (w.node q).state) _ _ (ap is_storing (calm.ready q may.target))
      ∙ cond-false (not (truthful w packet)) _ _ (not_from_true (truthful w packet) may.truth))))

  took : Took w.size.n q packet.name packet.source (stored w q) (w.node q).acks outcome
  took =
      arrives-settles w.size (stored w) q packet.source packet.name packet.message packet.flags
      (w.node q) (calm.ready q may.target) (calm.sound.kept.nodes q).acks

  abbrev end : Node
  end = settled q outcome.1 outcome.1.state

  moves : Reaches (Moved w q end) w (carries packet w)
  moves =
      reaches-append (Moved w q outcome.1) _ w (Arrive q (Ok packet) ∷ [])
      (stores q (after w (Arrive q (Ok packet) ∷ [])))
      (reaches-one _ w (Arrive q (Ok packet)) (refl, may.sent)
      (subst (λ (o : Reply × World). IsDone o.0) (sym arrive-is) took.done)
      (subst (λ (o : Reply × World). Moved w q outcome.1 o.1) (sym arrive-is)
      (moved-after w q outcome)))
      (λ h. stored-then (after w (Arrive q (Ok packet) ∷ [])) h)
    where
      stored-then : (u : World) → Moved w q outcome.1 u → Reaches (Moved w q end) u (stores q u)
      stored-then u h =
          subst (λ (node : Node). Reaches (Moved w q end) u (receipt_of q node node.state))
          (sym h.here)
          (reaches-weaker (Moved u q end) (Moved w q end) u (receipt_of q outcome.1 outcome.1.state)
          (λ v k. moved-twice w u v q outcome.1 end h k)
          (stores-reaches u q outcome.1 outcome.1.state h.here refl took.up
          (subst (λ (size : Limits). is_node size.n q ≡ true) (sym h.size) may.target)))

  -- the world after it
  abbrev v : World
  v = after w (carries packet w)

  abbrev here : v.node q ≡ end
  here = moves.leads.here

  at_each : (P : ℕ → Node → Type 0) → P q end → ((p : ℕ) → P p (w.node p)) → (p : ℕ)
      → P p (v.node p)
  at_each = moved-each w q end v moves.leads

  source_known : knows (stored w packet.source) packet.name ≡ true
  source_known =
      knows-pair (stored w packet.source) packet.name packet.message
      (borne-pair (stored w packet.source) packet may.truth)

  onward : Onward w v
  onward =
      record {
        size = moves.leads.size;
        records = (run-goes_on w v (carries packet w) (run w (carries packet w)).0 refl).records;
        counts =
            λ p x z h. subst (λ (size : Limits).
            Counts size.n (v.node p).records (v.node p).acks x z) (sym moves.leads.size)
            (counts p x z h);
        sent = moves.leads.sent;
        only = only;
      }
    where
      counts : (p : ℕ) (x : Label) (z : ℕ) → CountsAt w p x z
          → Counts w.size.n (v.node p).records (v.node p).acks x z
      counts p x z =
          at_each (λ i node. CountsAt w i x z → Counts w.size.n node.records node.acks x z)
          (λ h. took.settles.others x z h) (λ i h. h) p

      only : (p : ℕ) (x : Label) → knows (stored v p) x ≡ true → knows (stored w x.sender) x ≡ true
      only p x =
          at_each (λ i node. knows node.records x ≡ true → knows (stored w x.sender) x ≡ true)
          (λ h. ⊎_elim (λ e. known-sender w calm.sound q x e)
          (λ e. subst (λ (y : Label). knows (stored w y.sender) y ≡ true) e
          (known-sender w calm.sound packet.source packet.name source_known))
          (took.settles.only x h))
          (λ i h. known-sender w calm.sound i x h) p

  calm-after : Calm v
  calm-after =
      record {
        sound = run-sound w (carries packet w) calm.sound;
        ready =
            λ p is. at_each (λ i node. is_node w.size.n i ≡ true → node.state ≡ Ready)
            (λ _. took.settles.ready) (λ i. calm.ready i) p
            (subst (λ (size : Limits). is_node size.n p ≡ true) moves.leads.size is);
      }

  told : IsToldBy packet v
  told =
      record {
        known =
            subst (λ (node : Node). knows node.records packet.name ≡ true)
            (sym here) took.settles.known;
        counted =
            subst (λ (size : Limits). Counts size.n (v.node q).records
            (v.node q).acks packet.name packet.source) (sym moves.leads.size)
            (subst (λ (node : Node). Counts w.size.n node.records node.acks packet.name
            packet.source) (sym here) took.settles.told);
      }

  -- a packet can be carried: its target then knows the name, and has counted the source or
  -- certified the name
  pub carries-reaches : Reaches (λ u. Calm u × Onward w u × IsToldBy packet u) w (carries packet w)
  carries-reaches = record { goes = moves.goes; leads = (calm-after, onward, told) }

-- ---- many packets

-- a packet that may be carried may be carried later too
pub carriable-stays : (packet : Carried) (v w : World) → Onward v w → Carriable v packet
    → Carriable w packet
carriable-stays packet v w o h =
    record {
      source = node-stays v w o packet.source h.source;
      target = node-stays v w o packet.target h.target;
      sender = node-stays v w o packet.name.sender h.sender;
      truth = truth-stays v w o packet h.truth;
      sent = sent-stays v w o packet h.sent;
    }

told-stays : (packet : Carried) (v w : World) → Onward v w → IsToldBy packet v → IsToldBy packet w
told-stays packet v w o h = record {
  known = known-stays v w o packet.target packet.name h.known;
  counted =
      o.counts packet.target packet.name packet.source h.counted;
}

carrying : Course carries Calm Onward (λ packet w. Carriable w packet)
    (λ packet w. IsToldBy packet w)
carrying =
    record {
      one = λ packet w calm may. carries-reaches w calm packet may;
      still = onward-still;
      further = onward-further;
      before = carriable-stays;
      after = told-stays;
    }

-- packets that may be carried are carried one after the other, and each target hears of its packet
pub all-carried : (packets : List Carried) (w : World) → Calm w
    → AllByRecursion (Carriable w) packets
    → Reaches (λ v. Calm v × Onward w v × AllByRecursion (λ packet. IsToldBy packet v) packets) w
    (each carries packets w)
all-carried packets w calm h =
    reaches-each carries Calm Onward (λ packet v. Carriable v packet)
    (λ packet v. IsToldBy packet v) carrying packets w calm h
