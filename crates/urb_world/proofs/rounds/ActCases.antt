-- The cases of what an event counts as in a round: nothing, a new message, a failure, an arrival,
-- or a tick.
use Rattle.urb_world.proofs.Common.{Act, Adds, Arrive, Arrives, Breaks, Carried, Drafted, Err}
use Rattle.urb_world.proofs.Common.{Event, List, Ok, PacketFault, Reply, Result, Same, Sent, Tick}
use Rattle.urb_world.proofs.Common.{WentDown, [], act_of, disturbance, refl, ℕ, ◌∷◌, ◌≡◌}
use Rattle.urb_world.proofs.rounds.EventTicks.{resent_by}
use Rattle.urb_world.specs.EventEffects.{event_node}
use Rattle.urb_world.specs.Rounds.{Ticks}

-- a reply counts as a new message, as a failure or as nothing
pub disturbance-cases : (P : List Act → Type 0) (reply : Reply) → P [] → P (Adds ∷ [])
    → P (Breaks ∷ []) → P (disturbance reply)
disturbance-cases P (Drafted x position) none adds breaks = adds
disturbance-cases P (WentDown q) none adds breaks = breaks
disturbance-cases P reply none adds breaks = none

module _ (P : List Act → Type 0) where
  arrival-cases : (q : ℕ) (packet : Carried) (reply : Reply) → P []
      → ((answers : List Carried) → P (Arrives packet answers ∷ []))
      → P (act_of (Arrive q (Ok packet)) reply)
  arrival-cases q packet (Drafted x position) none arrives = arrives []
  arrival-cases q packet (Same told) none arrives = arrives _
  arrival-cases q packet reply none arrives = none

  tick-cases : (q : ℕ) (reply : Reply) → (resent_by (Tick q) reply ≡ [] → P [])
      → ((packets : List Carried) → resent_by (Tick q) reply ≡ packets → P (Ticks q packets ∷ []))
      → P (act_of (Tick q) reply)
  tick-cases q (Sent packets) none ticks = ticks packets refl
  tick-cases q reply none ticks = none refl

  -- The event is no arrival and no tick, and resends nothing.
  abbrev IsOther : Event → Reply → Type 0
  IsOther event reply =
      (resent_by event reply ≡ [])
      × ((bytes : Result Carried PacketFault) → event ≡ Arrive (event_node event) bytes → ⊥)
      × (event ≡ Tick (event_node event) → ⊥)

  -- Only a tick resends packets. An arrival and a tick neither add nor break.
  pub act-cases : (event : Event) (reply : Reply) → (resent_by event reply ≡ [] → P [])
      → (IsOther event reply → P (Adds ∷ [])) → (IsOther event reply → P (Breaks ∷ []))
      → ((packet : Carried) (answers : List Carried) → event ≡ Arrive (event_node event) (Ok packet)
      → resent_by event reply ≡ [] → P (Arrives packet answers ∷ []))
      → ((packets : List Carried) → event ≡ Tick (event_node event)
      → resent_by event reply ≡ packets → P (Ticks (event_node event) packets ∷ []))
      → P (act_of event reply)
  act-cases (Arrive p (Err fault)) reply none adds breaks arrives ticks = none refl
  act-cases (Arrive p (Ok packet)) reply none adds breaks arrives ticks =
      arrival-cases p packet reply (none refl) (λ answers. arrives packet answers refl refl)
  act-cases (Tick p) reply none adds breaks arrives ticks =
      tick-cases p reply none (λ packets e. ticks packets refl e)
  act-cases event reply none adds breaks arrives ticks =
      disturbance-cases P reply (none refl) (adds (refl, λ bytes e. cc, λ e. cc))
      (breaks (refl, λ bytes e. cc, λ e. cc))
