-- What a node that is up keeps through an event that is no failure and not refused. It stays up,
-- and still has heard what it heard. Its cursor stays, except at its own ticks.
use Rattle.urb_world.proofs.Common.{Cause, Cert, Content, Down, Entry, Event, Flags, IsDone, Label}
use Rattle.urb_world.proofs.Common.{Limits, List, Node, None, Option, Pend, PendCert, Ready, Reply}
use Rattle.urb_world.proofs.Common.{Some, Tick, World, [], acked, after, answers, ap, arrives}
use Rattle.urb_world.proofs.Common.{cases_Bool, cert, cond_both, counts, eq-eqb, eqb-true, false}
use Rattle.urb_world.proofs.Common.{false≢true, has_name, heard_after, heard_of, hears, is_down}
use Rattle.urb_world.proofs.Common.{is_none, majority_passes, message_of, not, pend, refl, resends}
use Rattle.urb_world.proofs.Common.{run, says_certified, step, subst, sym, true, with_ack}
use Rattle.urb_world.proofs.Common.{with_heard, world_after, ℕ, ⊎_elim, ◌==◌, ◌||◌, ◌∙◌, ◌∷◌, ◌≡◌}
use Rattle.urb_world.proofs.steps.DraftsInSteps.{event_node, step-each}
use Rattle.urb_world.proofs.rounds.EventTicks.{is_tick_of}
use Rattle.urb_world.proofs.rounds.ProceedingEvents.{IsNoFailure, Proceeds}
use Rattle.urb_world.proofs.steps.OneNodeStep.{updated-at}
use Rattle.urb_world.proofs.steps.StepCases.{OutcomeCases, node_of, outcome-cases, step-cases}
use Rattle.urb_world.proofs.steps.StepCases.{step-here, ticks-cases}
use Rattle.urb_world.proofs.hearing.CountedNodes.{acked-stays}

-- what is kept
pub record Stays (old new : Node) : Type 0 where
  -- the cursor stays
  pub cursor : new.cursor ≡ old.cursor
  -- the node is up
  pub up : is_down new.state ≡ false
  -- each certificate that it had heard it still has heard
  pub heard : (x : Label) (q : ℕ) → acked old.heard x q ≡ true → acked new.heard x q ≡ true

still : (node : Node) → is_down node.state ≡ false → Stays node node
still node e = record { cursor = refl; up = e; heard = λ x q h. h }

-- ---- an arrival

module _ (node : Node) (e : is_down node.state ≡ false) where
  abbrev Keeps : Reply × Node → Type 0
  Keeps outcome = Stays node outcome.1

  hears-stays : (q : ℕ) (x : Label) (flags : Option Flags) → Stays node (hears q x flags node)
  hears-stays q x flags =
      cond_both (says_certified flags) _ _ (Stays node)
      (λ _. record { cursor = refl; up = e; heard = λ y z h. acked-stays node.heard x q y z h })
      (λ _. still node e)

  counts-stays : (size : Limits) (q : ℕ) (x : Label) (flags : Option Flags) (told : Node)
      → Stays node told → Keeps (counts size q x flags told)
  counts-stays size q x flags told s =
      cond_both (majority_passes size.n (acked (with_ack told.acks x q) x)) _ _ Keeps
      (λ _. record { cursor = s.cursor; up = refl; heard = s.heard })
      (λ _. cond_both (acked told.acks x q) _ _ Keeps
      (λ _. record { cursor = s.cursor; up = s.up; heard = s.heard })
      (λ _. record { cursor = s.cursor; up = s.up; heard = s.heard }))

  answers-stays : (p q : ℕ) (x : Label) (m : Content) (flags : Option Flags) (told : Node)
      → Stays node told → Keeps (answers p q x m flags told)
  answers-stays p q x m None told s = s
  answers-stays p q x m (Some flags) told s = cond_both flags.heard _ _ Keeps (λ _. s) (λ _. s)

  arrives-stays : (size : Limits) (p q : ℕ) (x : Label) (m : Content) (flags : Option Flags)
      → Keeps (arrives size p q x m flags node)
  arrives-stays size p q x m flags =
      cond_both (is_none (message_of (pend node.records) x)) _ _ Keeps
      (λ _. cond_both (majority_passes size.n (λ z. (z == p) || (z == q))) _ _ Keeps
      (λ _. record { cursor = refl; up = refl; heard = λ y z h. h })
      (λ _. record { cursor = refl; up = refl; heard = λ y z h. h }))
      (λ _. cond_both (not (has_name (cert node.records) x)) _ _ Keeps
      (λ _. counts-stays size q x flags (hears q x flags node) (hears-stays q x flags))
      (λ _. answers-stays p q x m flags (hears q x flags node) (hears-stays q x flags)))

  -- ---- a receipt

  heard_more : (x : Label) (o : Option ℕ) (y : Label) (z : ℕ) → acked node.heard y z ≡ true
      → acked (with_heard node.heard x o) y z ≡ true
  heard_more x None y z h = h
  heard_more x (Some q) y z h = acked-stays node.heard x q y z h

  record_more : (entry : Entry) (cause : Option Cause) (y : Label) (z : ℕ)
      → acked node.heard y z ≡ true → acked (heard_after entry cause node.heard) y z ≡ true
  record_more (Pend x m) cause y z h = heard_more x (heard_of cause) y z h
  record_more (PendCert x m) cause y z h = heard_more x (heard_of cause) y z h
  record_more (Cert x) cause y z h = h

-- ---- the world

-- at the node that the event is of
here-stays : (w : World) (event : Event) → IsNoFailure event
    → is_tick_of (event_node event) event ≡ false
    → is_down (w.node (event_node event)).state ≡ false
    → Stays (w.node (event_node event)) ((step w event).1.node (event_node event))
here-stays w event h t e =
    step-here (Keeps node e) w event (λ _. still node e)
    (outcome-cases (Keeps node e) w event cases)
  where
    node : Node
    node = node_of w event

    not-down : (doubtful : Option Entry) → node.state ≡ Down doubtful → ⊥
    not-down doubtful f = false≢true (sym e ∙ ap is_down f)

    cases : OutcomeCases (Keeps node e) w event
    cases =
        record {
          refused = λ r. still node e;
          again = λ x ready. still node e;
          alone = λ m new one. record { cursor = refl; up = refl; heard = λ y z k. k };
          among = λ m new one. record { cursor = refl; up = refl; heard = λ y z k. k };
          arrived =
              λ packet f ready true_to. arrives-stays node e w.size
              (event_node event) packet.source packet.name packet.message packet.flags;
          ticked =
              λ f ready. absurd (false≢true
              (sym t ∙ (ap (is_tick_of (event_node event)) f
              ∙ eq-eqb (event_node event) (event_node event) refl)));
          stored =
              λ position entry held cause f g.
              record {
                cursor = refl;
                up = refl;
                heard =
                    λ y z k. record_more node e held cause y z k;
              };
          down = λ f up. absurd (⊎_elim (λ g. subst IsNoFailure g h) (λ g. subst IsNoFailure g h) f);
          up = λ image doubtful f g. absurd (not-down doubtful g);
          joined = λ image r f g. absurd (not-down (Some r) g);
        }

-- at any node that is up, if the event isn't its tick
pub step-stays : (w : World) (event : Event) (p : ℕ) → IsNoFailure event → is_tick_of p event ≡ false
    → is_down (w.node p).state ≡ false → Stays (w.node p) ((step w event).1.node p)
step-stays w event p h t e =
    step-each (λ q n. Stays (w.node q) n) w event p
    (λ same. here-stays w event h (subst (λ (i : ℕ). is_tick_of i event ≡ false) same t)
    (subst (λ (i : ℕ). is_down (w.node i).state ≡ false) same e)) (still (w.node p) e)

-- ---- ticks

-- a tick that is not refused resends
pub tick-done : (w : World) (p : ℕ) → IsDone (step w (Tick p)).0
    → step w (Tick p) ≡ world_after w p (resends w.size.n p (w.node p))
tick-done w p =
    step-cases (λ (o : Reply × World). IsDone o.0
    → o ≡ world_after w p (resends w.size.n p (w.node p))) w (Tick p) (λ r h. absurd h)
    (λ _. ticks-cases (λ o. IsDone o.0
    → world_after w p o ≡ world_after w p (resends w.size.n p (w.node p))) w.size.n p (w.node p)
    (λ r h. absurd h) (λ ready h. refl))

-- a node whose tick is not refused is ready
pub tick-ready : (w : World) (p : ℕ) → IsDone (step w (Tick p)).0 → (w.node p).state ≡ Ready
tick-ready w p =
    step-cases (λ (o : Reply × World). IsDone o.0 → (w.node p).state ≡ Ready) w (Tick p)
    (λ r h. absurd h)
    (λ _. ticks-cases (λ o. IsDone o.0 → (w.node p).state ≡ Ready) w.size.n p (w.node p)
    (λ r h. absurd h) (λ ready h. ready))

-- a tick that isn't refused makes its node resend
pub tick-node : (w : World) (p : ℕ) → IsDone (step w (Tick p)).0
    → (step w (Tick p)).1.node p ≡ (resends w.size.n p (w.node p)).1
tick-node w p h =
    ap (λ (o : Reply × World). o.1.node p) (tick-done w p h)
    ∙ updated-at w.node p (resends w.size.n p (w.node p)).1

-- an event that passes the test for a tick of p is one
pub tick-of : (p : ℕ) (event : Event) → is_tick_of p event ≡ true → event ≡ Tick p
tick-of p (Tick q) h = ap Tick (eqb-true q p h)
tick-of p event h = absurd (false≢true h)

-- ---- whole lists of events

-- a node that is up stays so, and what it heard it has heard
pub record Hears (old new : Node) : Type 0 where
  -- the node is up
  pub up : is_down new.state ≡ false
  -- each certificate that it had heard it still has heard
  pub heard : (x : Label) (q : ℕ) → acked old.heard x q ≡ true → acked new.heard x q ≡ true

-- a node that is up stays up and forgets no certificate in an event that is done and no failure
pub step-hears : (w : World) (event : Event) (p : ℕ) → IsNoFailure event → IsDone (step w event).0
    → is_down (w.node p).state ≡ false → Hears (w.node p) ((step w event).1.node p)
step-hears w event p h done e = ⊎_elim ticking other (cases_Bool (is_tick_of p event))
  where
    other : is_tick_of p event ≡ false → Hears (w.node p) ((step w event).1.node p)
    other t = let s = step-stays w event p h t e in record { up = s.up; heard = s.heard }

    ticking : is_tick_of p event ≡ true → Hears (w.node p) ((step w event).1.node p)
    ticking t =
        let same = tick-of p event t in
        subst (λ (v : Event). Hears (w.node p) ((step w v).1.node p)) (sym same)
        (subst (λ (n : Node). Hears (w.node p) n)
        (sym (tick-node w p (subst (λ (v : Event). IsDone (step w v).0) same done)))
        (record { up = e; heard = λ x q k. k }))

-- a node that is up stays up and forgets no certificate while events proceed
pub run-hears : (w : World) (events : List Event) (p : ℕ) → Proceeds w events
    → is_down (w.node p).state ≡ false → Hears (w.node p) ((after w events).node p)
unfolding run
run-hears w [] p goes e = record { up = e; heard = λ x q k. k }
run-hears w (event ∷ events) p goes e =
    let one = step-hears w event p goes.0 goes.1 e in
    let rest = run-hears (step w event).1 events p goes.2 one.up in
    record { up = rest.up; heard = λ x q k. rest.heard x q (one.heard x q k) }
