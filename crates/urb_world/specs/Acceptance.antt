-- What it means that a submit is accepted.
use Rattle.std.specs.Prelude.{IsTrue, [], ℕ, ◌∷◌, ◌≡◌}
use Rattle.urb_world.specs.World.{World, stored}
use Rattle.urb_names.specs.LabelsAndContents.{Content, Label}
use Rattle.urb_names.specs.Pairs.{has_pair}
use Rattle.urb_node.specs.Replies.{Done}
use Rattle.urb_stable.specs.Entries.{Entry}
use Rattle.urb_stable.specs.Records.{pend}

-- the node has stored this message as its own, under this name
abbrev pub HasStored : World → ℕ → Label → Content → Type 0
HasStored w p x m = (x.sender ≡ p) × IsTrue (has_pair (pend (stored w p)) x m)

-- a stored record's message is the node's own, under the name in the reply, and stays stored
abbrev pub StoresOwn : World → ℕ → Entry → Done → Type 0
StoresOwn w p entry done =
    (m : Content) × IsTrue (has_pair (pend (entry ∷ [])) done.name m) × HasStored w p done.name m
