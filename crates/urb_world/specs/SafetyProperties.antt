-- What makes a world safe: FIFO order, no creation, no duplication, uniform agreement, and one
-- message per name.
use Rattle.std.specs.Prelude.{AllPairs, IsTrue, Some, length, map, take, ℕ, ◌≡◌, ◌≢◌}
use Rattle.urb_world.specs.World.{World, stored}
use Rattle.urb_names.specs.Names.{has_name, names}
use Rattle.urb_names.specs.LabelsAndContents.{Content, Label}
use Rattle.urb_names.specs.Nodes.{majority_passes}
use Rattle.urb_names.specs.Pairs.{has_pair, message_of}
use Rattle.urb_names.specs.Release.{part_of}
use Rattle.urb_stable.specs.DeliveredLogs.{log}
use Rattle.urb_stable.specs.Records.{pend}

-- FIFO order and no creation. For each sender, a log has the names 1, 2, 3, ... Their messages are
-- the first that the sender broadcast.
pub record IsInOrder (w : World) (p s : ℕ) : Type 0 where
  pub numbers : part_of s (log (stored w p)) ≡ names s (length (part_of s (log (stored w p))))
  pub messages : map (message_of (pend (stored w p))) (part_of s (log (stored w p))) ≡ map Some
      (take (length (part_of s (log (stored w p)))) (w.node s).broadcast)

-- a delivered name, with its message here, is pending in the storages of a majority
abbrev pub IsHeldByMajority : World → ℕ → Label → Type 0
IsHeldByMajority w p x =
    (m : Content) × (message_of (pend (stored w p)) x ≡ Some m)
    × IsTrue (majority_passes w.size.n (λ q. has_pair (pend (stored w q)) x m))

-- every log is in order, has no name twice, and has only names that a majority holds
pub record Safe (w : World) : Type 0 where
  pub in_order : (p s : ℕ) → IsInOrder w p s
  pub no_twice : (p : ℕ) → AllPairs (λ x y. x ≢ y) (log (stored w p))
  pub uniform : (p : ℕ) (x : Label) → IsTrue (has_name (log (stored w p)) x)
      → IsHeldByMajority w p x

-- no two nodes hold different messages under one name
abbrev pub OneMessage : World → Type 0
OneMessage w =
    (p q : ℕ) (x : Label) (m o : Content) → IsTrue (has_pair (pend (stored w p)) x m)
    → IsTrue (has_pair (pend (stored w q)) x o) → m ≡ o
