-- What events that proceed count as in a round, event by event.
use Rattle.urb_world.proofs.Common.{Act, AllByRecursion, Arrive, Bool, Carried, DoArrive}
use Rattle.urb_world.proofs.Common.{DoesArrive, Event, IsDone, List, Ok, PacketFault, Reply, Result}
use Rattle.urb_world.proofs.Common.{Tick, TicksArrive, World, [], act_of, acts_of, ap, arrival_by}
use Rattle.urb_world.proofs.Common.{disturbance, if◌then◌else◌, inl, inr, refl, step, subst, suc}
use Rattle.urb_world.proofs.Common.{sym, tick_by, true, ℕ, ⊎_elim, ◌&&◌, ◌++◌, ◌∙◌, ◌∷◌, ◌≡◌, ◌⊎◌}
use Rattle.urb_world.proofs.rounds.LastingCounts.{arrive-done}
use Rattle.urb_world.proofs.rounds.ProceedingEvents.{Proceeds, acts-more, acts-none}
use Rattle.urb_world.proofs.rounds.UpNodes.{tick-done}
use Rattle.urb_world.proofs.rounds.EventTicks.{IsAmong, is_tick_of, resent_by, ticks_among}
use Rattle.urb_world.specs.Rounds.{ticks_of}
use Rattle.urb_world.proofs.rounds.ActCases.{act-cases, disturbance-cases}
use Rattle.urb_world.specs.EventEffects.{event_node}

-- ---- ticks

ticks-disturbance : (p : ℕ) (reply : Reply) (rest : List Act)
    → ticks_of p (disturbance reply ++ rest) ≡ ticks_of p rest
ticks-disturbance p reply rest =
    disturbance-cases (λ acts. ticks_of p (acts ++ rest) ≡ ticks_of p rest) reply refl refl refl

ticks-arrival : (p q : ℕ) (bytes : Result Carried PacketFault) (reply : Reply) (rest : List Act)
    → ticks_of p (arrival_by bytes reply ++ rest) ≡ ticks_of p rest
ticks-arrival p q bytes reply rest =
    act-cases (λ acts. ticks_of p (acts ++ rest) ≡ ticks_of p rest) (Arrive q bytes) reply
    (λ _. refl) (λ _. refl) (λ _. refl) (λ _ _ _ _. refl) (λ packets e s. cc)

-- this count, plus one if the event is a tick of p
abbrev plus_tick : ℕ → Event → ℕ → ℕ
plus_tick p event count = if is_tick_of p event then suc count else count

ticks-first : (p : ℕ) (w : World) (event : Event) (rest : List Act) → IsDone (step w event).0
    → ticks_of p (act_of event (step w event).0 ++ rest) ≡ plus_tick p event (ticks_of p rest)
ticks-first p w (Arrive q bytes) rest d = ticks-arrival p q bytes (step w (Arrive q bytes)).0 rest
ticks-first p w (Tick q) rest d =
    subst (λ (o : Reply × World).
    ticks_of p (tick_by q o.0 ++ rest) ≡ plus_tick p (Tick q) (ticks_of p rest))
    (sym (tick-done w q d)) refl
ticks-first p w event rest d = ticks-disturbance p (step w event).0 rest

-- the ticks of p that count are those among the events
pub ticks-counted : (p : ℕ) (events : List Event) (w : World) → Proceeds w events
    → ticks_of p (acts_of w events) ≡ ticks_among p events
ticks-counted p [] w h = ap (ticks_of p) (acts-none w)
ticks-counted p (event ∷ events) w h =
    ap (ticks_of p) (acts-more w event events)
    ∙ (ticks-first p w event (acts_of (step w event).1 events) h.1
    ∙ ap (plus_tick p event) (ticks-counted p events (step w event).1 h.2))

-- ---- arrivals

module _ (packet : Carried) where
  -- the event is the packet's arrival at its target, or the packet arrives later
  first-or-later : (w : World) (event : Event) (rest : List Act) → IsDone (step w event).0
      → DoesArrive packet (act_of event (step w event).0 ++ rest)
      → (event ≡ Arrive packet.target (Ok packet)) ⊎ DoesArrive packet rest
  first-or-later w event rest d =
      act-cases (λ acts. DoesArrive packet (acts ++ rest)
      → (event ≡ Arrive packet.target (Ok packet)) ⊎ DoesArrive packet rest) event
      (step w event).0 (λ _ k. inr k) (λ _ k. inr k) (λ _ k. inr k)
      (λ other answers e _ k. ⊎_elim
      (λ same. inl (arrives (e ∙ ap
      (λ (one : Carried). Arrive (event_node event) (Ok one)) same))) (λ later. inr later) k)
      (λ packets _ _ k. inr k)
    where
      arrives : event ≡ Arrive (event_node event) (Ok packet)
          → event ≡ Arrive packet.target (Ok packet)
      arrives e =
          e ∙ ap (λ (i : ℕ). Arrive i (Ok packet))
          (sym (arrive-done w (event_node event) packet
          (subst (λ (v : Event). IsDone (step w v).0) e d)).target)

  -- a packet whose arrival counts arrives among the events
  pub does-arrive : (events : List Event) (w : World) → Proceeds w events
      → DoesArrive packet (acts_of w events) → IsAmong (Arrive packet.target (Ok packet)) events
  does-arrive [] w g h = subst (DoesArrive packet) (acts-none w) h
  does-arrive (event ∷ events) w g h =
      ⊎_elim (λ e. inl e) (λ k. inr (does-arrive events (step w event).1 g.2 k))
      (first-or-later w event (acts_of (step w event).1 events) g.1
      (subst (DoesArrive packet) (acts-more w event events) h))

-- ---- what ticks send

module _ (among : ℕ → Bool) where
  -- the packets that a tick of one of these nodes sends to another of them arrive among the later
  -- events
  abbrev pub SentArrive : List Carried → List Event → Type 0
  SentArrive packets events =
      AllByRecursion (λ packet. (among packet.source && among packet.target) ≡ true
      → IsAmong (Arrive packet.target (Ok packet)) events) packets

  abbrev pub AllArrive : World → List Event → Type 0
  AllArrive w [] = Unit {0}
  AllArrive w (event ∷ events) =
      SentArrive (resent_by event (step w event).0) events × AllArrive (step w event).1 events

  by-event : (event : Event) (reply : Reply) (rest : List Act)
      → TicksArrive among (act_of event reply ++ rest)
      → DoArrive among (resent_by event reply) rest × TicksArrive among rest
  by-event event reply rest =
      act-cases (λ acts. TicksArrive among (acts ++ rest)
      → DoArrive among (resent_by event reply) rest × TicksArrive among rest) event reply
      (λ e k. (none e, k)) (λ o k. (none o.0, k)) (λ o k. (none o.0, k))
      (λ _ _ _ e k. (none e, k)) (λ packets _ e k.
      (subst (λ (ps : List Carried). DoArrive among ps rest) (sym e) k.0, k.1))
    where
      none : resent_by event reply ≡ [] → DoArrive among (resent_by event reply) rest
      none e = subst (λ (ps : List Carried). DoArrive among ps rest) (sym e) tt

  all-sent : (packets : List Carried) (events : List Event) (w : World) → Proceeds w events
      → DoArrive among packets (acts_of w events) → SentArrive packets events
  all-sent [] events w g h = tt
  all-sent (packet ∷ packets) events w g h =
      (λ e. does-arrive packet events w g (h.0 e), all-sent packets events w g h.1)

  -- if all that ticks of these nodes send each other arrives later, the later events have these
  -- arrivals
  pub all-arrive : (events : List Event) (w : World) → Proceeds w events
      → TicksArrive among (acts_of w events) → AllArrive w events
  all-arrive [] w g h = tt
  all-arrive (event ∷ events) w g h =
      let s =
      by-event event (step w event).0 (acts_of (step w event).1 events)
      (subst (TicksArrive among) (acts-more w event events) h) in (
        all-sent (resent_by event (step w event).0) events (step w event).1 g.2 s.0,
        all-arrive events (step w event).1 g.2 s.1,
      )
