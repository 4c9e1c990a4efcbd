-- What a node has counted, through events that are no failure and not refused. The record that it
-- holds is taken as stored. A packet that arrives is counted.
use Rattle.urb_world.proofs.Common.{Arrive, Carried, Commit, Down, Entry, Err, Event, IsDone, Label}
use Rattle.urb_world.proofs.Common.{Limits, List, Node, Ok, Option, Ready, Refused, Reply, Restart}
use Rattle.urb_world.proofs.Common.{State, Stored, Storing, Submit, Tick, World, [], after}
use Rattle.urb_world.proofs.Common.{and_parts, ap, arrives, at_node, commits, cond_both, done}
use Rattle.urb_world.proofs.Common.{eqb-true, false, false≢true, is_down, is_for, is_node}
use Rattle.urb_world.proofs.Common.{keeps_record, next_position, packet_arrives, refl, refuses}
use Rattle.urb_world.proofs.Common.{resends, restarts, run, same_record, step, submits, subst, sym}
use Rattle.urb_world.proofs.Common.{true, truthful, world_after, ℕ, ◌&&◌, ◌++◌, ◌==◌, ◌∙◌, ◌∷◌, ◌≡◌}
use Rattle.urb_world.proofs.steps.DraftsInSteps.{event_node, step-each, step-size}
use Rattle.urb_world.proofs.steps.Growth.{begins-itself, begins-trans, step-goes_on}
use Rattle.urb_world.proofs.steps.OneNodeStep.{updated-at}
use Rattle.urb_world.proofs.recovery.ContinuedWorlds.{Sound, run-sound}
use Rattle.urb_world.proofs.recovery.CountedArrivals.{Counts, Took, arrives-settles, knows, settled}
use Rattle.urb_world.proofs.rounds.UpNodes.{step-hears, tick-node}
use Rattle.urb_world.proofs.rounds.SubmitCounts.{submit-further}
use Rattle.urb_world.proofs.rounds.WholeNodes.{Further, begins-whole, further-itself, further-trans}
use Rattle.urb_world.proofs.rounds.WholeNodes.{knows-begins, whole}
use Rattle.urb_world.proofs.rounds.ProceedingEvents.{IsNoFailure, Proceeds}
use Rattle.urb_world.specs.World.{stored}
use Rattle.urb_world.proofs.steps.StepCases.{packet-cases}
use Rattle.urb_names.specs.declared.refusal.Refusal.TheVariants as refusal

-- ---- an arrival

pub record Arrived (w : World) (p : ℕ) (packet : Carried) (o : Reply × World) : Type 0 where
  -- node p is ready
  pub ready : (w.node p).state ≡ Ready
  -- the packet's source is a node of the group
  pub source : is_node w.size.n packet.source ≡ true
  -- the packet is truthful
  pub truth : truthful w packet ≡ true
  -- the packet is for p
  pub target : packet.target ≡ p
  -- the arrival has the definition's outcome at p
  pub is : o ≡ world_after w p (arrives w.size p packet.source packet.name packet.message
      packet.flags (w.node p))

-- a packet that isn't refused is truthful, comes from a node of the group, and reaches a ready
-- target
pub arrive-done : (w : World) (p : ℕ) (packet : Carried) → IsDone (step w (Arrive p (Ok packet))).0
    → Arrived w p packet (step w (Arrive p (Ok packet)))
unfolding step
arrive-done w p packet =
    cond_both (is_for w p packet) (at_node w p (packet_arrives w p packet))
    (Refused refusal.BadNode, w) ArrivedIfDone
    (λ fits. let ends = and_parts
    (is_node w.size.n packet.source && is_node w.size.n packet.name.sender)
    (packet.target == p) fits in
    cond_both (is_node w.size.n p) (world_after w p (packet_arrives w p packet))
    (Refused refusal.BadNode, w) ArrivedIfDone
    (λ _. packet-cases (λ o. ArrivedIfDone (world_after w p o)) w p packet (λ r h. absurd h)
    (λ ready truth h. record {
      ready = ready;
      source =
          (and_parts (is_node w.size.n packet.source)
          (is_node w.size.n packet.name.sender) ends.0).0;
      truth = truth;
      target = eqb-true packet.target p ends.1;
      is = refl;
    })) (λ _ h. absurd h)) (λ _ h. absurd h)
  where
    ArrivedIfDone : Reply × World → Type 0
    ArrivedIfDone o = IsDone o.0 → Arrived w p packet o

module _ (w : World) (sound : Sound w) (p : ℕ) (packet : Carried)
    (fine : IsDone (step w (Arrive p (Ok packet))).0) where
  arrived : Arrived w p packet (step w (Arrive p (Ok packet)))
  arrived = arrive-done w p packet fine

  abbrev pub outcome : Reply × Node
  outcome = arrives w.size p packet.source packet.name packet.message packet.flags (w.node p)

  -- the node after the arrival is that of the outcome
  pub node-is : (step w (Arrive p (Ok packet))).1.node p ≡ outcome.1
  node-is = ap (λ (o : Reply × World). o.1.node p) arrived.is ∙ updated-at w.node p outcome.1

  -- the node takes the packet
  pub took : Took w.size.n p packet.name packet.source (stored w p) (w.node p).acks outcome
  took =
      arrives-settles w.size (stored w) p packet.source packet.name packet.message packet.flags
      (w.node p) arrived.ready (sound.kept.nodes p).acks

  whole-ready : whole p (w.node p) ≡ w.node p
  whole-ready = ap (settled p (w.node p)) arrived.ready

  arrive-further : Further w.size.n (whole p (w.node p))
      (whole p ((step w (Arrive p (Ok packet))).1.node p))
  arrive-further =
      subst (λ (old : Node). Further w.size.n old
      (whole p ((step w (Arrive p (Ok packet))).1.node p))) (sym whole-ready)
      (record {
        counts =
            λ x z h. subst (λ (new : Node).
            Counts w.size.n (whole p new).records (whole p new).acks x z) (sym node-is)
            (took.settles.others x z h);
        records =
            begins-trans (stored w p) (stored v p) (whole p (v.node p)).records
            ((step-goes_on w (Arrive p (Ok packet))).records p)
            (begins-whole p (v.node p) (v.node p).state);
      })
    where
      v : World
      v = (step w (Arrive p (Ok packet))).1

  -- the packet's source is counted
  arrive-told : Counts w.size.n (whole p ((step w (Arrive p (Ok packet))).1.node p)).records
      (whole p ((step w (Arrive p (Ok packet))).1.node p)).acks packet.name packet.source
  arrive-told =
      subst (λ (new : Node). Counts w.size.n (whole p new).records
      (whole p new).acks packet.name packet.source) (sym node-is) took.settles.told

  arrive-known : knows (whole p ((step w (Arrive p (Ok packet))).1.node p)).records packet.name
      ≡ true
  arrive-known =
      subst (λ (new : Node). knows (whole p new).records packet.name ≡ true)
      (sym node-is) took.settles.known

-- ---- a receipt

commit-done : (n p position : ℕ) (entry : Entry) (node : Node) (s : State)
    → IsDone (commits n p position entry node s).0
    → ((commits n p position entry node s).1 ≡ settled p node s)
    × ((commits n p position entry node s).1.state ≡ Ready)
commit-done n p position entry node Ready h = absurd h
commit-done n p position entry node (Down doubtful) h = absurd h
commit-done n p position entry node (Storing held cause) h =
    cond_both ((position == next_position node) && same_record entry held)
    (Stored (done n p held cause node), keeps_record p held cause node)
    (refuses node refusal.Stale)
    (λ (o : Reply × Node). IsDone o.0
    → (o.1 ≡ keeps_record p held cause node) × (o.1.state ≡ Ready)) (λ _ _. (refl, refl))
    (λ _ k. absurd k) h

-- an outcome at p that is done, if there is such a node
node-done : (w : World) (p : ℕ) (outcome : Reply × Node) (P : Node → Type 0)
    → (is_node w.size.n p ≡ true → IsDone outcome.0 → P outcome.1)
    → IsDone (at_node w p outcome).0 → P ((at_node w p outcome).1.node p)
node-done w p outcome P h =
    cond_both (is_node w.size.n p) (world_after w p outcome) (Refused refusal.BadNode, w)
    (λ (o : Reply × World). IsDone o.0 → P (o.1.node p))
    (λ is d. subst P (sym (updated-at w.node p outcome.1)) (h is d)) (λ _ d. absurd d)

-- an outcome at p that is done
pub at-node-done : (w : World) (p : ℕ) (outcome : Reply × Node) (P : Node → Type 0)
    → (IsDone outcome.0 → P outcome.1) → IsDone (at_node w p outcome).0
    → P ((at_node w p outcome).1.node p)
at-node-done w p outcome P h d = node-done w p outcome P (λ _ k. h k) d

commit-further : (n p position : ℕ) (entry : Entry) (node : Node)
    → IsDone (commits n p position entry node node.state).0
    → Further n (whole p node) (whole p (commits n p position entry node node.state).1)
commit-further n p position entry node h =
    let at = commit-done n p position entry node node.state h in
    subst (λ (new : Node). Further n (whole p node) new)
    (sym (ap (settled p (commits n p position entry node node.state).1) at.1 ∙ at.0))
    (further-itself n (whole p node))

-- ---- a tick, and a restart

cursor-further : (n p : ℕ) (node : Node) (c : Option Label) (s : State)
    → Further n (settled p node s) (settled p (record node { cursor = c }) s)
cursor-further n p node c Ready =
    record { counts = λ x z h. h; records = begins-itself node.records }
cursor-further n p node c (Storing entry cause) =
    record { counts = λ x z h. h; records = begins-itself (node.records ++ entry ∷ []) }
cursor-further n p node c (Down doubtful) =
    record { counts = λ x z h. h; records = begins-itself node.records }

-- a node that is up refuses a restart
pub restart-not : (p : ℕ) (image : List Entry) (node : Node) (s : State) → is_down s ≡ false
    → IsDone (restarts p image node s).0 → ⊥
restart-not p image node Ready e h = h
restart-not p image node (Storing entry cause) e h = h
restart-not p image node (Down doubtful) e h = false≢true (sym e)

-- ---- any event

here-further : (w : World) → Sound w → (event : Event) → IsNoFailure event → IsDone (step w event).0
    → is_down (w.node (event_node event)).state ≡ false
    → Further w.size.n (whole (event_node event) (w.node (event_node event)))
    (whole (event_node event) ((step w event).1.node (event_node event)))
unfolding step
here-further w sound (Submit p m) h d up =
    node-done w p (submits w.size p m (w.node p))
    (λ (new : Node). Further w.size.n (whole p (w.node p)) (whole p new))
    (λ is k. submit-further w.size (stored w) p m (w.node p) (sound.kept.nodes p) is k) d
here-further w sound (Arrive p (Err fault)) h d up = absurd d
here-further w sound (Arrive p (Ok packet)) h d up = arrive-further w sound p packet d
here-further w sound (Tick p) h d up =
    subst (λ (new : Node). Further w.size.n (whole p (w.node p)) (whole p new))
    (sym (tick-node w p d)) (cursor-further w.size.n p (w.node p)
    (resends w.size.n p (w.node p)).1.cursor (w.node p).state)
here-further w sound (Commit p position entry) h d up =
    at-node-done w p (commits w.size.n p position entry (w.node p) (w.node p).state)
    (λ (new : Node). Further w.size.n (whole p (w.node p)) (whole p new))
    (λ k. commit-further w.size.n p position entry (w.node p) k) d
here-further w sound (Restart p image) h d up =
    at-node-done w p (restarts p image (w.node p) (w.node p).state)
    (λ (new : Node). Further w.size.n (whole p (w.node p)) (whole p new))
    (λ k. absurd (restart-not p image (w.node p) (w.node p).state up k)) d
here-further w sound event h d up = absurd h

-- a node that is up keeps what it knows and has counted in an event that is done and no failure
pub step-further : (w : World) → Sound w → (event : Event) (p : ℕ) → IsNoFailure event
    → IsDone (step w event).0 → is_down (w.node p).state ≡ false
    → Further w.size.n (whole p (w.node p)) (whole p ((step w event).1.node p))
step-further w sound event p h d up =
    step-each (λ q n. Further w.size.n (whole q (w.node q)) (whole q n)) w event p
    (λ same. here-further w sound event h d
    (subst (λ (i : ℕ). is_down (w.node i).state ≡ false) same up))
    (further-itself w.size.n (whole p (w.node p)))

-- a node that is up keeps what it knows and has counted while events proceed
pub run-further : (events : List Event) (w : World) → Sound w → (p : ℕ) → Proceeds w events
    → is_down (w.node p).state ≡ false
    → Further w.size.n (whole p (w.node p)) (whole p ((after w events).node p))
unfolding run
run-further [] w sound p goes up = further-itself w.size.n (whole p (w.node p))
run-further (event ∷ events) w sound p goes up =
    further-trans w.size.n (whole p (w.node p)) (whole p ((step w event).1.node p))
    (whole p ((after w (event ∷ events)).node p))
    (step-further w sound event p goes.0 goes.1 up)
    (subst (λ (size : Limits). Further size.n (whole p ((step w event).1.node p))
    (whole p ((after (step w event).1 events).node p))) (step-size w event)
    (run-further events (step w event).1 (run-sound w (event ∷ []) sound) p goes.2
    (step-hears w event p goes.0 goes.1 up).up))

-- a receipt that isn't refused leaves the node as it was with its held record taken as stored
pub commit-whole : (n p position : ℕ) (entry : Entry) (node : Node)
    → IsDone (commits n p position entry node node.state).0
    → whole p (commits n p position entry node node.state).1 ≡ whole p node
commit-whole n p position entry node h =
    let at = commit-done n p position entry node node.state h in
    ap (settled p (commits n p position entry node node.state).1) at.1 ∙ at.0

-- ---- any world of a run

-- events leave the limits of the group
pub run-size : (events : List Event) (w : World) → (after w events).size ≡ w.size
unfolding run
run-size [] w = refl
run-size (event ∷ events) w = run-size events (step w event).1 ∙ step-size w event

-- Node p knows the name, with the record that it holds. It has certified it, or it has counted z
-- for it, and all that it has counted are no majority yet.
pub record IsCountedAt (w : World) (p : ℕ) (x : Label) (z : ℕ) : Type 0 where
  -- the node knows the name, perhaps by the record that it holds
  pub known : knows (whole p (w.node p)).records x ≡ true
  -- it has counted z for the name, or certified the name
  pub counts : Counts w.size.n (whole p (w.node p)).records (whole p (w.node p)).acks x z

-- if a packet arrives and events proceed, its target has counted its source or certified the name
-- at the end
pub sound-counted : (w : World) (p : ℕ) (packet : Carried) (events : List Event) → Sound w
    → Proceeds w (Arrive p (Ok packet) ∷ events)
    → IsCountedAt (after w (Arrive p (Ok packet) ∷ events)) p packet.name packet.source
unfolding run
sound-counted w p packet events sound goes = record { known = known; counts = counts }
  where
    event : Event
    event = Arrive p (Ok packet)

    v : World
    v = (step w event).1

    z : World
    z = after v events

    was-up : is_down (w.node p).state ≡ false
    was-up = ap is_down (arrive-done w p packet goes.1).ready

    later : Further v.size.n (whole p (v.node p)) (whole p (z.node p))
    later =
        run-further events v (run-sound w (event ∷ []) sound) p goes.2
        (step-hears w event p goes.0 goes.1 was-up).up

    known : knows (whole p (z.node p)).records packet.name ≡ true
    known =
        knows-begins (whole p (v.node p)).records
        (whole p (z.node p)).records later.records packet.name
        (arrive-known w sound p packet goes.1)

    counts : Counts z.size.n (whole p (z.node p)).records (whole p (z.node p)).acks packet.name
        packet.source
    counts =
        subst (λ (size : Limits). Counts size.n (whole p (z.node p)).records
        (whole p (z.node p)).acks packet.name packet.source) (sym (run-size events v))
        (later.counts packet.name packet.source
        (subst (λ (size : Limits). Counts size.n (whole p (v.node p)).records
        (whole p (v.node p)).acks packet.name packet.source) (sym (step-size w event))
        (arrive-told w sound p packet goes.1)))
