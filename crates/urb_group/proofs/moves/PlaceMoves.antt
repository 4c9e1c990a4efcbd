-- What a node's own clauses say of its calls, stated for the node in its place.
use Rattle.urb_group.proofs.Common.{ArrivesAt, Bool, Carried, CommitsAt, Content, CrashesAt, Done}
use Rattle.urb_group.proofs.Common.{Entry, Err, FailsAt, HoldsAt, IsRefusedAs, Leads, Limits, List}
use Rattle.urb_group.proofs.Common.{NoMemory, Node, Ok, Placed, Ready, Refusal, Refused, RestartsAt}
use Rattle.urb_group.proofs.Common.{Result, ShowsReady, SubmitsAt, TicksAt, and_parts, ap}
use Rattle.urb_group.proofs.Common.{arrives_as, commits, cond-false, eqb-true, false, is_down}
use Rattle.urb_group.proofs.Common.{is_storing, next_position, not, refl, same_record, submits}
use Rattle.urb_group.proofs.Common.{subst, suc, sym, told_taken, true, ℕ, ◌&&◌, ◌==◌, ◌∙◌, ◌≡◌}
use Rattle.urb_node.specs.CallEffects.{Arrives, Confirms, Crashes, Fails, LeadsTo, Restarts}
use Rattle.urb_node.specs.CallEffects.{Submits, Ticks}
use Rattle.urb_node.specs.Part.{State}
use Rattle.urb_node.specs.Replies.{Reply}
use Rattle.urb_node.specs.Steps.{arrives, ticks}
use Rattle.urb_node.specs.NodeMemories.{Fallen, Holding, Memory, ShowsStoring, draft_of}
use Rattle.urb_node.specs.declared.step.Step.{Step}
use Rattle.urb_group.specs.internal.PlaceCalls.{after_step}
use Rattle.urb_group.specs.declared.node_moves.Node.{Node as Place}
use Rattle.urb_node.proofs.RestartReplies.{same_record-true}
use Rattle.urb_names.specs.declared.refusal.Refusal.TheVariants as refusal
use Rattle.urb_node.specs.declared.step.Step.TheVariants as step
use Rattle.urb_group.specs.declared.node_moves.Node.TheVariants as place

-- a client's message, by its parts
abbrev pub content : ℕ → ℕ → List ℕ → Content
content client number payload =
    record { client = client; number = number; payload = payload }

-- the place of a node in each of its states
abbrev at_ready : (A : Type 0) → Memory → Place A
at_ready A a = place.Ready a

abbrev at_storing : (A : Type 0) → Holding → Place A
at_storing A h = place.Storing h

abbrev at_down : (A : Type 0) → Fallen → Place A
at_down A f = place.Down f

step-leads : (A : Type 0) (outcome : Reply × Node) (a : Memory)
    (r : Result (Step A) (Memory × Refusal)) → LeadsTo outcome a r
    → Leads outcome (at_ready A a) (told_taken (after_step r).1) (after_step r).0
    × HoldsAt (after_step r).0 (after_step r).1
step-leads A outcome a (Ok (step.Same ready answer)) h =
    (record { told = h.0; shows = h.1; same = h.2 }, tt)
step-leads A outcome a (Ok (step.Store storing draft)) h =
    (record { told = h.0; shows = h.1; same = h.2 }, h.3)
step-leads A outcome a (Err e) h = ((h.0, ap place.Ready h.1), tt)

-- a ready node in its place takes a submit as the definition says
pub submit_at : {A : Type 0} (node : Place A) (a : Memory) (m : Content)
    (r : Result (Step A) (Memory × Refusal)) → node ≡ place.Ready a → Submits a m r
    → SubmitsAt node m (after_step r)
submit_at {A = A} node a m r e h =
    subst (λ (p : Place A). SubmitsAt p m (after_step r)) (sym e)
    (λ n s. step-leads A (submits a.limits a.node m n) a r (h n s))

-- a truthful packet at a ready node arrives
ready-arrives : (packet : Carried) (b : Bool) (size : Limits) (p : ℕ) (node : Node)
    → Ready ≡ node.state → b ≡ true
    → arrives_as packet b size p node
    ≡ arrives size p packet.source packet.name packet.message packet.flags node
ready-arrives packet b size p node e t =
    cond-false (is_down node.state) _ _ (ap is_down (sym e))
    ∙ (cond-false (is_storing node.state) _ _ (ap is_storing (sym e))
    ∙ cond-false (not b) _ _ (ap not t))

-- a ready node in its place takes a truthful packet as the definition says
pub arrive_at : {A : Type 0} (node : Place A) (a : Memory) (packet : Carried) (b : Bool)
    (r : Result (Step A) (Memory × Refusal)) → node ≡ place.Ready a → b ≡ true
    → Arrives a packet.source packet.name packet.message packet.flags r
    → ArrivesAt node packet b (after_step r)
arrive_at {A = A} node a packet b r e t h =
    subst (λ (p : Place A). ArrivesAt p packet b (after_step r)) (sym e)
    (λ n s. subst (λ (outcome : Reply × Node).
    Leads outcome (at_ready A a) (told_taken (after_step r).1) (after_step r).0
    × HoldsAt (after_step r).0 (after_step r).1)
    (sym (ready-arrives packet b a.limits a.node n s.state t))
    (step-leads A (arrives a.limits a.node packet.source packet.name packet.message packet.flags
    n) a r (h n s)))

-- ---- receipts

-- a receipt of the node at the next position and of the held record is the held draft's
is_draft : (h : Holding) (receipt : Placed) (node : Node) → ShowsStoring h node
    → receipt.node ≡ h.memory.node
    → ((receipt.pos == next_position node) && same_record receipt.entry h.entry) ≡ true
    → receipt ≡ draft_of h
is_draft h receipt node s e t =
    let parts =
    and_parts (receipt.pos == next_position node) (same_record receipt.entry h.entry) t in
    let pos : receipt.pos ≡ suc h.memory.count =
    eqb-true receipt.pos (next_position node) parts.0 ∙ ap suc (sym s.count) in
    let entry : receipt.entry ≡ h.entry = same_record-true receipt.entry h.entry parts.1 in
    λ i. record { node = e i; pos = pos i; entry = entry i }

stale : (h : Holding) (receipt : Placed) (node : Node) → ShowsStoring h node
    → receipt.node ≡ h.memory.node → ¬ (receipt ≡ draft_of h)
    → (commits h.memory.limits.n h.memory.node receipt.pos receipt.entry node node.state).0
    ≡ Refused refusal.Stale
stale h receipt node s e other =
    subst (λ (state : State). (commits h.memory.limits.n h.memory.node receipt.pos receipt.entry
    node state).0 ≡ Refused refusal.Stale) s.state
    (ap (λ (o : Reply × Node). o.0)
    (cond-false ((receipt.pos == next_position node) && same_record receipt.entry h.entry) _ _
    (is_false _ (λ t. other (is_draft h receipt node s e t)))))
  where
    is_false : (b : Bool) → ¬ (b ≡ true) → b ≡ false
    is_false true n = absurd (n refl)
    is_false false n = refl

-- the place of a storing node after a receipt
abbrev pub after_confirm : {A : Type 0} → Result (Memory × Done) (Holding × Placed)
    → Place A × Result Done (Placed × Refusal)
after_confirm (Ok r) = (place.Ready r.0, Ok r.1)
after_confirm (Err e) = (place.Storing e.0, Err (e.1, refusal.Stale))

-- a node that holds a draft takes a receipt in its place as the definition says
pub confirm_at : (A : Type 0) (node : Place A) (h : Holding) (receipt : Placed)
    (r : Result (Memory × Done) (Holding × Placed)) → node ≡ place.Storing h → Confirms h receipt r
    → CommitsAt node receipt (after_confirm {A = A} r)
confirm_at A node h receipt r e c =
    subst (λ (p : Place A). CommitsAt p receipt (after_confirm {A = A} r)) (sym e) (at r c)
  where
    at : (r : Result (Memory × Done) (Holding × Placed)) → Confirms h receipt r
        → CommitsAt (at_storing A h) receipt (after_confirm {A = A} r)
    at (Ok r) c = (λ own n s. record { told = (c.2 n s).0; shows = (c.2 n s).1; same = c.1 }, tt)
    at (Err e) c = (λ own n s. (stale h receipt n s own c.0, ap place.Storing c.1), c.2)

-- ---- failures, crashes, ticks

-- a node that holds a draft goes down in its place when its store fails, as the definition says
pub fail_at : (A : Type 0) (node : Place A) (h : Holding) (f : Fallen) → node ≡ place.Storing h
    → Fails h f → FailsAt node (place.Down f, Ok tt)
fail_at A node h f e c =
    subst (λ (p : Place A). FailsAt p (at_down A f, Ok tt)) (sym e)
    (λ n s. record { told = (c.1 n s).0; shows = (c.1 n s).1; same = c.0 })

-- a ready node goes down in its place when it crashes, as the definition says
pub crash_ready_at : (A : Type 0) (node : Place A) (a : Memory) (f : Fallen) → node ≡ place.Ready a
    → Crashes (ShowsReady a) a f → CrashesAt node (place.Down f, Ok tt)
crash_ready_at A node a f e c =
    subst (λ (p : Place A). CrashesAt p (at_down A f, Ok tt)) (sym e)
    (λ n s. record { told = (c.1 n s).0; shows = (c.1 n s).1; same = c.0 })

-- a node that holds a draft goes down in its place when it crashes, as the definition says
pub crash_storing_at : (A : Type 0) (node : Place A) (h : Holding) (f : Fallen)
    → node ≡ place.Storing h → Crashes (ShowsStoring h) h.memory f
    → CrashesAt node (place.Down f, Ok tt)
crash_storing_at A node h f e c =
    subst (λ (p : Place A). CrashesAt p (at_down A f, Ok tt)) (sym e)
    (λ n s. record { told = (c.1 n s).0; shows = (c.1 n s).1; same = c.0 })

-- the place of a ready node after a tick
abbrev pub after_tick : {A : Type 0} → Memory × Result (List Carried) NoMemory
    → Place A × Result (List Carried) Refusal
after_tick (a, Ok packets) = (place.Ready a, Ok packets)
after_tick (a, Err e) = (place.Ready a, Err refusal.NoMemory)

-- a ready node in its place ticks as the definition says
pub tick_at : (A : Type 0) (node : Place A) (a : Memory)
    (r : Memory × Result (List Carried) NoMemory) → node ≡ place.Ready a → Ticks a r
    → TicksAt node (after_tick {A = A} r)
tick_at A node a r e t = subst (λ (p : Place A). TicksAt p (after_tick {A = A} r)) (sym e) (at r t)
  where
    sends : (n p : ℕ) (node : Node) → Ready ≡ node.state
        → IsRefusedAs (ticks n p node).0 refusal.NoMemory
    sends n p node e =
        subst (λ (o : Reply × Node). IsRefusedAs o.0 refusal.NoMemory)
        (sym (cond-false (is_down node.state) _ _ (ap is_down (sym e))
        ∙ cond-false (is_storing node.state) _ _ (ap is_storing (sym e)))) tt

    at : (r : Memory × Result (List Carried) NoMemory) → Ticks a r
        → TicksAt (at_ready A a) (after_tick {A = A} r)
    at (new, Ok packets) t = λ n s. record { told = (t.1 n s).0; shows = (t.1 n s).1; same = t.0 }
    at (new, Err e) t = λ n s. (sends a.limits.n a.node n s.state, ap place.Ready t)

-- the place of a node that is down after a restart
abbrev pub after_restart : {A : Type 0} → Result Memory (Fallen × Refusal)
    → Place A × Result (Unit {0}) Refusal
after_restart (Ok a) = (place.Ready a, Ok tt)
after_restart (Err e) = (place.Down e.0, Err e.1)

-- a node that is down restarts in its place as the definition says
pub restart_at : (A : Type 0) (node : Place A) (f : Fallen) (image : List Entry)
    (r : Result Memory (Fallen × Refusal)) → node ≡ place.Down f → Restarts f image r
    → RestartsAt node image (after_restart {A = A} r)
restart_at A node f image r e c =
    subst (λ (p : Place A). RestartsAt p image (after_restart {A = A} r)) (sym e) (at r c)
  where
    at : (r : Result Memory (Fallen × Refusal)) → Restarts f image r
        → RestartsAt (at_down A f) image (after_restart {A = A} r)
    at (Ok a) c = λ n s. record { told = (c.1 n s).0; shows = (c.1 n s).1; same = c.0 }
    at (Err e) c = λ n s. (c.0 n s, ap place.Down c.1)
