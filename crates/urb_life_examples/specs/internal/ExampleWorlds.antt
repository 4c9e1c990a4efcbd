-- Words of the worked examples: worlds that a life reaches.
use Rattle.std.specs.Prelude.{[], ℕ, ◌∷◌}
use Rattle.urb_world.specs.World.{World, image_of, opened}
use Rattle.urb_world.specs.internal.Examples.{limits, pending}

-- the same world, without the packets that were sent
abbrev pub without_packets : World → World
without_packets w = record w { sent = [] }

-- a group of n nodes that opens after node 1 has stored its first message, which is pending
abbrev pub holding_one : ℕ → World
holding_one n = opened (limits n 10) (image_of ((pending 1 1 ∷ []) ∷ []))
