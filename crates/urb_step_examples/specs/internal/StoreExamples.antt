-- Words of the worked examples: stores in memory, and what contracts see of them.
use Rattle.std.specs.Prelude.{false, true, ◌≡◌}
use Rattle.urb_stable.specs.MemoryStores.{Memory, empty_memory}
use Rattle.urb_stable.specs.declared.stable.Stable.{Ghosts}
use Rattle.urb_stable.specs.internal.MemoryCalls.{with_record}
use Rattle.urb_world.specs.MemoryStores.{in_memory}
use Rattle.urb_world.specs.internal.Examples.{pending}

-- a store that holds the first message of node 1, which is pending
abbrev pub one_stored : Memory
one_stored = with_record (pending 1 1) empty_memory

-- the ghost values of a store in memory of which a stop may leave anything
abbrev pub unwatched : Ghosts Memory (Unit {0})
unwatched = record (in_memory (Unit {0})) { leaves_only = λ s P. Unit {0} }

-- the ghost values of a store in memory that may have returned something other than what was stored
abbrev pub dishonest : Ghosts Memory (Unit {0})
dishonest = record (in_memory (Unit {0})) { is_honest = λ s. ⊥ }
