-- A round in which the packets of ticks arrive: each other node hears what a node had pending.
use Rattle.urb_world.proofs.Common.{Arrive, Bool, Carried, Content, Event, Label, List, Ok, Tick}
use Rattle.urb_world.proofs.Common.{World, [], acked, after, and_from, ap, false, has_pair, is_down}
use Rattle.urb_world.proofs.Common.{is_node, is_some, kept-held, pend, run, step, subst, sym, true}
use Rattle.urb_world.proofs.Common.{ℕ, ⊎_elim, ◌&&◌, ◌==◌, ◌∷◌, ◌≡◌}
use Rattle.urb_world.proofs.rounds.RoundActs.{AllArrive}
use Rattle.urb_world.proofs.rounds.LastingCounts.{IsCountedAt, sound-counted}
use Rattle.urb_world.proofs.rounds.WholeNodes.{whole, whole-certified, whole-knows}
use Rattle.urb_world.proofs.recovery.NodeLists.{packet_to}
use Rattle.urb_world.proofs.rounds.SentPairs.{Comes, Sends, TicksEnough, comes-about}
use Rattle.urb_world.proofs.rounds.EventTicks.{IsAmong, resent_in}
use Rattle.urb_world.proofs.recovery.ContinuedWorlds.{Sound, run-sound}
use Rattle.urb_world.proofs.rounds.ProceedingEvents.{Proceeds}
use Rattle.urb_world.proofs.recovery.CountedArrivals.{certified-counts}
use Rattle.urb_world.proofs.ticks.Membership.{in-all}
use Rattle.urb_world.specs.World.{stored}

-- a packet that arrives among these events is counted in the end
arrive-among : (events : List Event) (u : World) (packet : Carried) → Sound u → Proceeds u events
    → IsAmong (Arrive packet.target (Ok packet)) events
    → IsCountedAt (after u events) packet.target packet.name packet.source
unfolding run
arrive-among [] u packet sound goes h = absurd h
arrive-among (event ∷ events) u packet sound goes h =
    ⊎_elim
    (λ e. subst (λ (v : Event). Proceeds u (v ∷ events)
    → IsCountedAt (after u (v ∷ events)) packet.target packet.name packet.source) (sym e)
    (λ g. sound-counted u packet.target packet events sound g) goes)
    (λ later. arrive-among events (step u event).1 packet
    (run-sound u (event ∷ []) sound) goes.2 later) h

module _ (among : ℕ → Bool) (p q : ℕ) (x : Label) (m : Content) (from : among p ≡ true)
    (to : among q ≡ true) where
  -- if what ticks send arrives, q has counted p
  abbrev Claim : World → List Event → Type 0
  Claim w events = AllArrive among w events → IsCountedAt (after w events) q x p

  sends : (w : World) (events : List Event) → Sends p q x m w events → Claim w (Tick p ∷ events)
  unfolding run
  sends w events s arrive =
      arrive-among events (step w (Tick p)).1 (packet_to w p q x m)
      (run-sound w (Tick p ∷ []) s.sound) s.goes.2
      (in-all (λ (one : Carried). (among one.source && among one.target) ≡ true
      → IsAmong (Arrive one.target (Ok one)) events) (packet_to w p q x m)
      (resent_in (step w (Tick p)).0) arrive.0 s.sent
      (and_from (among p) (among q) from to))

  later : (w : World) (event : Event) (events : List Event) → Claim (step w event).1 events
      → Claim w (event ∷ events)
  unfolding run
  later w event events c arrive = c arrive.1

  comes : Comes p q x m Claim
  comes = record { sends = sends; later = later }

-- a busy round of p and q; at its beginning, p knows the pair, or holds its record
pub sound-tells : (among : ℕ → Bool) (w : World) (p q : ℕ) (x : Label) (m : Content)
    (events : List Event) → among p ≡ true → among q ≡ true
    → Sound w → is_node w.size.n q ≡ true → (q == p) ≡ false → is_down (w.node p).state ≡ false
    → has_pair (pend (whole p (w.node p)).records) x m ≡ true → Proceeds w events
    → AllArrive among w events → TicksEnough p w events → IsCountedAt (after w events) q x p
sound-tells among w p q x m events from to was there other up held goes arrive enough =
    ⊎_elim heard (λ claim. claim arrive)
    (comes-about p q x m (Claim among p q x m from to)
    (comes among p q x m from to) w events was there other up held goes enough)
  where
    z : World
    z = after w events

    sound : Sound z
    sound = run-sound w events was

    heard : acked (z.node p).heard x q ≡ true → IsCountedAt z q x p
    heard e =
        let certified = (sound.live.nodes p).heard x q e in
        record {
          known = whole-knows q (z.node q) (z.node q).state x
              (ap is_some (kept-held z.size (stored z) q (stored z q)
              (sound.kept.nodes q).kept x certified).1);
          counts = certified-counts z.size.n (whole q (z.node q)).records
              (whole q (z.node q)).acks x p (whole-certified q (z.node q) x certified);
        }
