-- Packets that are truthful: their source has stored the message that they carry, and the
-- certificate that they report.
use Rattle.std.specs.List.{AllByRecursion}
use Rattle.std.specs.Prelude.{IsTrue, List}
use Rattle.urb_world.specs.World.{World, truthful}
use Rattle.urb_names.specs.CarriedPackets.{Carried}
use Rattle.urb_node.specs.Replies.{Reply, packets_in}

-- each of these packets is truthful
abbrev pub AreTruthful : World → List Carried → Type 0
AreTruthful w packets = AllByRecursion (λ packet. IsTrue (truthful w packet)) packets

-- each packet that was ever sent is truthful
abbrev pub AllTruthful : World → Type 0
AllTruthful w = AreTruthful w w.sent

-- each packet of these replies is truthful
abbrev pub ToldTruth : World → List Reply → Type 0
ToldTruth w replies = AllByRecursion (λ reply. AreTruthful w (packets_in reply)) replies
