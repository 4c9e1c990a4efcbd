-- Words of the worked examples: records ahead of their events, and stores in memory that hold them
-- or are storing them.
use Rattle.std.specs.Prelude.{List, [], ◌++◌, ◌∷◌}
use Rattle.urb_stable.specs.Entries.{Entry}
use Rattle.urb_stable.specs.MemoryStores.{Memory, empty_memory}
use Rattle.urb_stable.specs.declared.stable.Stable.{Ghosts}
use Rattle.urb_stable.specs.internal.MemoryCalls.{with_records}
use Rattle.urb_world.specs.MemoryStores.{in_memory}
use Rattle.urb_world.specs.StoresAhead.{IsAhead}
use Rattle.urb_world.specs.internal.Examples.{pending}

-- the first two messages of node 1, pending
abbrev pub two_pending : List Entry
two_pending = pending 1 1 ∷ pending 1 2 ∷ []

-- the ghost values of a store in memory between two calls
abbrev pub resting : Ghosts Memory (Unit {0})
resting = in_memory (Unit {0})

-- the ghost values of a store in memory that may have returned something other than what was stored
abbrev pub dishonest : Ghosts Memory (Unit {0})
dishonest = record (in_memory (Unit {0})) { is_honest = λ s. ⊥ }

-- a store that holds these records for certain
abbrev pub holding : List Entry → Memory
holding records = with_records records empty_memory

-- the ghost values of a store in memory that is storing these records by one call: a stop leaves all
-- of them or none
abbrev pub storing_together : List Entry → Ghosts Memory (Unit {0})
storing_together tail = record (in_memory (Unit {0}))
    { leaves_only = λ s P. P s.certain × P (s.certain ++ tail) }

-- the same, by one call for each record: a stop leaves any beginning of them
abbrev pub storing_apart : List Entry → Ghosts Memory (Unit {0})
storing_apart tail = record (in_memory (Unit {0})) {
  leaves_only = λ s P. (image : List Entry) → IsAhead s.certain tail image → P image;
}
