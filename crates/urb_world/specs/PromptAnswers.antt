-- What answers a packet at once.
use Rattle.std.specs.Prelude.{List, Ok, ℕ}
use Rattle.urb_world.specs.Step.{Arrive, step}
use Rattle.urb_world.specs.World.{World}
use Rattle.urb_names.specs.CarriedPackets.{Carried}
use Rattle.urb_node.specs.Replies.{packets_in}

-- the packets with which p answers this packet at once
abbrev pub answers_to : World → ℕ → Carried → List Carried
answers_to w p packet = packets_in (step w (Arrive p (Ok packet))).0
