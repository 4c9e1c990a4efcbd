-- Words for lists of events in which a node ticks among other events.
use Rattle.urb_world.proofs.Common.{AllByRecursion, Bool, Carried, Content, Event, Label, List}
use Rattle.urb_world.proofs.Common.{Reply, Sent, Tick, World, [], due_of, false, has_pair}
use Rattle.urb_world.proofs.Common.{if◌then◌else◌, pend, rising, step, suc, true, ℕ, ◌==◌, ◌∷◌, ◌≡◌}
use Rattle.urb_world.proofs.Common.{◌⊎◌}
use Rattle.urb_world.specs.World.{stored}

-- whether the event is a tick of node p
abbrev pub is_tick_of : ℕ → Event → Bool
is_tick_of p (Tick q) = q == p
is_tick_of p event = false

-- how often node p ticks among these events
abbrev pub ticks_among : ℕ → List Event → ℕ
ticks_among p [] = 0
ticks_among p (event ∷ events) =
    if is_tick_of p event then suc (ticks_among p events) else ticks_among p events

-- the pairs that are due at each of these ticks, those of the first one first
abbrev pub dues_among : ℕ → World → List Event → List (List (Label × Content))
dues_among p w [] = []
dues_among p w (event ∷ events) =
    if is_tick_of p event then due_of w.size.n p (w.node p).heard
    (rising (pend (stored w p))) ∷ dues_among p (step w event).1 events
    else dues_among p (step w event).1 events

-- each of these pairs is one of all
abbrev pub AreAmong : List (Label × Content) → List (Label × Content) → Type 0
AreAmong all pairs = AllByRecursion (λ pair. has_pair all pair.0 pair.1 ≡ true) pairs

-- the event is one of these
abbrev pub IsAmong : Event → List Event → Type 0
IsAmong event [] = ⊥
IsAmong event (other ∷ events) = (other ≡ event) ⊎ IsAmong event events

-- the packets that a tick hands out, by its reply
abbrev pub resent_in : Reply → List Carried
resent_in (Sent packets) = packets
resent_in reply = []

-- the same, if the event is a tick
abbrev pub resent_by : Event → Reply → List Carried
resent_by (Tick q) reply = resent_in reply
resent_by event reply = []
