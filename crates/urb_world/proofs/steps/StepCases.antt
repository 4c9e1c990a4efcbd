-- The cases of a step: the event is refused, or its node has one of a few outcomes. What each of
-- these preserves, the step preserves.
use Rattle.urb_world.proofs.Common.{Accepted, Arrive, Bool, Carried, Cause, Commit, Content, Crash}
use Rattle.urb_world.proofs.Common.{Down, Entry, Err, Event, Fail, IsNew, Label, List, Node, None}
use Rattle.urb_world.proofs.Common.{Ok, Option, Pend, PendCert, Ready, Refusal, Refused, Reply}
use Rattle.urb_world.proofs.Common.{Restart, Same, Some, State, Stored, Storing, Submit, Tick}
use Rattle.urb_world.proofs.Common.{World, [], arrives, at_node, broadcast_after, comes_up, commits}
use Rattle.urb_world.proofs.Common.{cond, cond_both, crashes, done, drafts, eqb-true, fails, false}
use Rattle.urb_world.proofs.Common.{first_name, goes_down, inl, inr, is_down, is_for, is_node}
use Rattle.urb_world.proofs.Common.{is_storing, keeps_record, next_name, next_position, not}
use Rattle.urb_world.proofs.Common.{not-false, packet_arrives, refl, refuses, resends, restarts}
use Rattle.urb_world.proofs.Common.{same_record, says, step, submits, submits-cases, subst, sym}
use Rattle.urb_world.proofs.Common.{true, truthful, world_after, ℕ, ◌&&◌, ◌++◌, ◌==◌, ◌∷◌, ◌≡◌, ◌⊎◌}
use Rattle.urb_world.proofs.steps.OneNodeStep.{updated-at}
use Rattle.urb_world.specs.EventEffects.{event_node}
use Rattle.urb_node.proofs.SubmitCases.{is-ready}
use Rattle.urb_node.specs.Steps.{ticks}
use Rattle.urb_names.specs.declared.refusal.Refusal.TheVariants as refusal

-- the node that the event is of
abbrev pub node_of : World → Event → Node
node_of w event = w.node (event_node event)

-- the outcome of the event at that node
abbrev pub outcome_of : World → Event → Reply × Node
outcome_of w (Submit p m) = submits w.size p m (w.node p)
outcome_of w (Arrive p (Err fault)) = refuses (w.node p) (refusal.Packet fault)
outcome_of w (Arrive p (Ok packet)) = packet_arrives w p packet
outcome_of w (Tick p) = ticks w.size.n p (w.node p)
outcome_of w (Commit p position entry) =
    commits w.size.n p position entry (w.node p) (w.node p).state
outcome_of w (Fail p) = fails p (w.node p) (w.node p).state
outcome_of w (Crash p) = crashes p (w.node p)
outcome_of w (Restart p image) = restarts p image (w.node p) (w.node p).state

-- ---- the world

-- the event isn't an arrival
abbrev pub IsNoArrival : Event → Type 0
IsNoArrival (Arrive p bytes) = ⊥
IsNoArrival event = Unit {0}

-- any other event than an arrival has its outcome, if there is such a node
pub step-outcome : (w : World) (event : Event) → IsNoArrival event
    → step w event ≡ at_node w (event_node event) (outcome_of w event)
unfolding step
step-outcome w (Arrive p bytes) other = absurd other
step-outcome w event other = refl

-- the event is refused, or its node has its outcome
pub step-cases : (P : Reply × World → Type 0) (w : World) (event : Event)
    → ((r : Refusal) → P (Refused r, w))
    → (is_node w.size.n (event_node event) ≡ true
    → P (world_after w (event_node event) (outcome_of w event))) → P (step w event)
unfolding step
step-cases P w (Arrive p (Err fault)) refused here = refused (refusal.Packet fault)
step-cases P w (Arrive p (Ok packet)) refused here =
    cond_both (is_for w p packet) _ _ P
    (λ _. cond_both (is_node w.size.n p) _ _ P here (λ _. refused refusal.BadNode))
    (λ _. refused refusal.BadNode)
step-cases P w event refused here =
    cond_both (is_node w.size.n (event_node event)) _ _ P here (λ _. refused refusal.BadNode)

-- each node stays, and the event's node becomes the node of its outcome
pub step-nodes : (P : ℕ → Node → Type 0) (w : World) (event : Event) → ((q : ℕ) → P q (w.node q))
    → P (event_node event) (outcome_of w event).1
    → (q : ℕ) → P q ((step w event).1.node q)
step-nodes P w event before here q =
    step-cases (λ (o : Reply × World). P q (o.1.node q)) w event (λ _. before q)
    (λ _. at (q == event_node event) refl)
  where
    at : (b : Bool) → (q == event_node event) ≡ b → P q (cond b (outcome_of w event).1 (w.node q))
    at true e =
        subst (λ (i : ℕ). P i (outcome_of w event).1) (sym (eqb-true q (event_node event) e)) here
    at false e = before q

-- what holds for refusals and for the event's outcome holds for the reply and the event's node
-- after it
pub step-here : (P : Reply × Node → Type 0) (w : World) (event : Event)
    → ((r : Refusal) → P (refuses (node_of w event) r)) → P (outcome_of w event)
    → P ((step w event).0, (step w event).1.node (event_node event))
step-here P w event refused here =
    step-cases (λ (o : Reply × World). P (o.0, o.1.node (event_node event))) w event refused
    (λ _. subst (λ (n : Node). P ((outcome_of w event).0, n))
    (sym (updated-at w.node (event_node event) (outcome_of w event).1)) here)

-- ---- the event's node

-- a packet is refused, or it is truthful and arrives at a ready node
pub packet-cases : (P : Reply × Node → Type 0) (w : World) (p : ℕ) (packet : Carried)
    → ((r : Refusal) → P (refuses (w.node p) r))
    → ((w.node p).state ≡ Ready → truthful w packet ≡ true
    → P (arrives w.size p packet.source packet.name packet.message packet.flags (w.node p)))
    → P (packet_arrives w p packet)
packet-cases P w p packet refused arrived =
    cond_both (is_down (w.node p).state) _ _ P (λ _. refused refusal.Down)
    (λ up. cond_both (is_storing (w.node p).state) _ _ P (λ _. refused refusal.Busy)
    (λ free. cond_both (not (truthful w packet)) _ _ P (λ _. refused refusal.Forged)
    (λ t. arrived (is-ready (w.node p).state up free) (not-false (truthful w packet) t))))

-- a tick is refused, or a ready node resends
pub ticks-cases : (P : Reply × Node → Type 0) (n p : ℕ) (node : Node)
    → ((r : Refusal) → P (refuses node r)) → (node.state ≡ Ready → P (resends n p node))
    → P (ticks n p node)
ticks-cases P n p node refused ticked =
    cond_both (is_down node.state) _ _ P (λ _. refused refusal.Down)
    (λ up. cond_both (is_storing node.state) _ _ P (λ _. refused refusal.Busy)
    (λ free. ticked (is-ready node.state up free)))

-- The property holds for each outcome that the event may have.
pub record OutcomeCases (P : Reply × Node → Type 0) (w : World) (event : Event) : Type 0 where
  -- the event is refused, and the node stays as it was
  pub refused : (r : Refusal) → P (refuses (node_of w event) r)
  -- a ready node accepted the submitted message before, and says so again
  pub again : (x : Label) → (node_of w event).state ≡ Ready → P (Same (Accepted x), node_of w event)
  -- a node that is alone drafts a new message together with its certificate
  pub alone : (m : Content) → IsNew w.size m (node_of w event) → (w.size.n == 1) ≡ true
      → P (drafts (node_of w event)
      (PendCert (next_name (event_node event) (node_of w event)) m) None)
  -- one of several nodes drafts a new message as pending
  pub among : (m : Content) → IsNew w.size m (node_of w event) → (w.size.n == 1) ≡ false
      → P (drafts (node_of w event) (Pend (next_name (event_node event) (node_of w event)) m) None)
  -- a truthful packet arrives at a ready node
  pub arrived : (packet : Carried) → event ≡ Arrive (event_node event) (Ok packet)
      → (node_of w event).state ≡ Ready → truthful w packet ≡ true
      → P (arrives w.size (event_node event) packet.source packet.name packet.message packet.flags
      (node_of w event))
  -- a ready node ticks and resends
  pub ticked : event ≡ Tick (event_node event) → (node_of w event).state ≡ Ready
      → P (resends w.size.n (event_node event) (node_of w event))
  -- the record that the node holds is stored
  pub stored : (position : ℕ) (entry held : Entry) (cause : Option Cause)
      → event ≡ Commit (event_node event) position entry
      → (node_of w event).state ≡ Storing held cause
      → P (
        Stored (done w.size.n (event_node event) held cause (node_of w event)),
        keeps_record (event_node event) held cause (node_of w event),
      )
  -- a node that is up goes down, because of a failed store or a crash
  pub down : (event ≡ Fail (event_node event)) ⊎ (event ≡ Crash (event_node event))
      → is_down (node_of w event).state ≡ false → P (goes_down (event_node event) (node_of w event))
  -- a node that is down restarts with its records
  pub up : (image : List Entry) (doubtful : Option Entry) → event ≡ Restart (event_node event) image
      → (node_of w event).state ≡ Down doubtful
      → P (comes_up (event_node event) (node_of w event).records (node_of w event).broadcast)
  -- a node that is down restarts, and its doubtful record counts as stored
  pub joined : (image : List Entry) (r : Entry) → event ≡ Restart (event_node event) image
      → (node_of w event).state ≡ Down (Some r)
      → P (comes_up (event_node event) ((node_of w event).records ++ r ∷ [])
      (broadcast_after (event_node event) r (node_of w event).broadcast))

-- what holds in each of these cases holds for the outcome of the event
pub outcome-cases : (P : Reply × Node → Type 0) (w : World) (event : Event) → OutcomeCases P w event
    → P (outcome_of w event)
outcome-cases P w (Submit p m) c =
    submits-cases P w.size p m (w.node p) c.refused
    (λ first a. c.again (first_name p m (w.node p)) a.ready) (c.alone m) (c.among m)
outcome-cases P w (Arrive p (Err fault)) c = c.refused (refusal.Packet fault)
outcome-cases P w (Arrive p (Ok packet)) c =
    packet-cases P w p packet c.refused (c.arrived packet refl)
outcome-cases P w (Tick p) c = ticks-cases P w.size.n p (w.node p) c.refused (c.ticked refl)
outcome-cases P w (Commit p position entry) c = at (w.node p).state refl
  where
    at : (s : State) → (w.node p).state ≡ s → P (commits w.size.n p position entry (w.node p) s)
    at Ready e = c.refused refusal.Stale
    at (Storing held cause) e =
        cond_both ((position == next_position (w.node p)) && same_record entry held) _ _ P
        (λ _. c.stored position entry held cause refl e) (λ _. c.refused refusal.Stale)
    at (Down doubtful) e = c.refused refusal.Down
outcome-cases P w (Fail p) c = at (w.node p).state (λ e. c.down (inl refl) e)
  where
    at : (s : State) → (is_down s ≡ false → P (goes_down p (w.node p))) → P (fails p (w.node p) s)
    at Ready falls = c.refused refusal.Stale
    at (Storing held cause) falls = falls refl
    at (Down doubtful) falls = c.refused refusal.Down
outcome-cases P w (Crash p) c =
    cond_both (is_down (w.node p).state) _ _ P (λ _. c.refused refusal.Down) (c.down (inr refl))
outcome-cases P w (Restart p image) c = at (w.node p).state refl
  where
    at : (s : State) → (w.node p).state ≡ s → P (restarts p image (w.node p) s)
    at Ready e = c.refused refusal.NotDown
    at (Storing held cause) e = c.refused refusal.NotDown
    at (Down None) e =
        cond_both (says image (w.node p).records) _ _ P (λ _. c.up image None refl e)
        (λ _. c.refused refusal.BadImage)
    at (Down (Some r)) e =
        cond_both (says image (w.node p).records) _ _ P (λ _. c.up image (Some r) refl e)
        (λ _. cond_both (says image ((w.node p).records ++ r ∷ [])) _ _ P
        (λ _. c.joined image r refl e) (λ _. c.refused refusal.BadImage))
