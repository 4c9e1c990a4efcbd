-- With which limits a group may start again.
use Rattle.std.specs.Prelude.{IsTrue, List, [], false, length, ℕ, ◌≡◌, ◌≤◌, ◌⊎◌}
use Rattle.urb_world.specs.ProcessStops.{AlwaysLeaves}
use Rattle.urb_world.specs.World.{World}
use Rattle.urb_names.specs.Names.{has_name}
use Rattle.urb_names.specs.LabelsAndContents.{Content, Label, Limits}
use Rattle.urb_names.specs.Nodes.{is_node}
use Rattle.urb_names.specs.Pairs.{has_pair, own}
use Rattle.urb_stable.specs.Entries.{Entry}
use Rattle.urb_stable.specs.Fitting.{held_by_majority}
use Rattle.urb_stable.specs.Records.{cert, pend}

-- only the nodes 1 to n have records
abbrev pub AreOfGroup : ℕ → (ℕ → List Entry) → Type 0
AreOfGroup n images = (p : ℕ) → is_node n p ≡ false → images p ≡ []

-- no node has more messages of its own than the cap allows
abbrev pub AreWithinCap : ℕ → (ℕ → List Entry) → Type 0
AreWithinCap cap images = (p : ℕ) → length (own p (pend (images p))) ≤ cap

-- each message that a node has certified is in the images of more than half of n nodes
abbrev pub HaveMajorities : ℕ → (ℕ → List Entry) → Type 0
HaveMajorities n images =
    (p : ℕ) (x : Label) (m : Content) → IsTrue (has_pair (pend (images p)) x m)
    → IsTrue (has_name (cert (images p)) x) → IsTrue (held_by_majority n images x m)

-- The group of this world may start again with these limits, whatever a stop leaves of it. There
-- are as many nodes as before, or more. The cap is at least the old one, or at least the number of
-- messages that each node has accepted. If there are more nodes, more than half of the new number
-- hold each certified message.
pub record MayStartWith (size : Limits) (w : World) : Type 0 where
  pub nodes : w.size.n ≤ size.n
  pub cap : (w.size.cap ≤ size.cap) ⊎ AlwaysLeaves w (AreWithinCap size.cap)
  pub majorities : (w.size.n ≡ size.n) ⊎ AlwaysLeaves w (HaveMajorities size.n)
