-- What is stored, broadcast and delivered, at two moments of a run.
use Rattle.std.specs.Prelude.{IsTrue, ℕ}
use Rattle.urb_world.specs.World.{World, stored, truthful}
use Rattle.urb_names.specs.ListPrefixes.{Begins, OneBegins}
use Rattle.urb_names.specs.CarriedPackets.{Carried}
use Rattle.urb_stable.specs.DeliveredLogs.{entries, entries_of, log}

-- In the new world each node has what it had in the old one, perhaps with more after it. What was
-- truthful stays truthful.
pub record GoesOn (old new : World) : Type 0 where
  pub records : (p : ℕ) → Begins (stored old p) (stored new p)
  pub broadcast : (p : ℕ) → Begins (old.node p).broadcast (new.node p).broadcast
  pub delivered : (p : ℕ) → Begins (log (stored old p)) (log (stored new p))
  pub truth : (packet : Carried) → IsTrue (truthful old packet) → IsTrue (truthful new packet)

-- each node's log, its names with their messages, only grows at its end
abbrev pub EntriesGrow : World → World → Type 0
EntriesGrow old new = (p : ℕ) → Begins (entries (stored old p)) (entries (stored new p))

-- Compare what any node delivers from a sender in the old world with what any node delivers from it
-- in the new world. One list is a prefix of the other.
abbrev pub AgreeInTime : World → World → Type 0
AgreeInTime old new =
    (p q s : ℕ) → OneBegins (entries_of s (stored old p)) (entries_of s (stored new q))
