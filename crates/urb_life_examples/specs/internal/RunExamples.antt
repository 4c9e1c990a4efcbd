-- Words of the worked examples: groups, and stores in memory that keep less than they should.
use Rattle.std.specs.Prelude.{List, [], ℕ, ◌∷◌}
use Rattle.urb_group.specs.GroupViews.{GroupView}
use Rattle.urb_names.specs.LabelsAndContents.{Content}
use Rattle.urb_names.specs.Names.{name}
use Rattle.urb_node.specs.NodeViews.{no_view}
use Rattle.urb_stable.specs.Entries.{Entry}
use Rattle.urb_stable.specs.MemoryStores.{Memory, empty_memory}
use Rattle.urb_stable.specs.declared.record.Record.TheVariants.{Pend}
use Rattle.urb_stable.specs.declared.stable.Stable.{Ghosts}
use Rattle.urb_turn.specs.internal.TurnExamples.{ahead_of, lying}
use Rattle.urb_world.specs.World.{World, image_of, opened}
use Rattle.urb_world.specs.internal.Examples.{certified, limits, pending}

-- a new group of three nodes, with what each holds
abbrev pub three_views : GroupView
three_views = record { size = limits 3 10; nodes = no_view ∷ no_view ∷ no_view ∷ [] }

-- a world of four nodes, in which node 1 has delivered its first message
abbrev pub one_has_delivered : World
one_has_delivered = opened (limits 4 10) (image_of ((certified 1 1 ∷ []) ∷ []))

-- client 7's first message, with this payload
abbrev pub holding_payload : List ℕ → Content
holding_payload payload = record { client = 7; number = 1; payload = payload }

-- the record of it as node 1's first message
abbrev pub with_payload : List ℕ → Entry
with_payload payload = Pend (name 1 1) (holding_payload payload)

-- a store with this record
abbrev pub store_with : List ℕ → Memory
store_with payload = record empty_memory { certain = with_payload payload ∷ [] }

-- a group of four nodes whose node 1 has stored it
abbrev pub four_with : List ℕ → GroupView
four_with payload = record {
  size = limits 4 10;
  nodes = record no_view {
    pairs = (name 1 1, holding_payload payload) ∷ [];
    count = 1;
    acks = (name 1 1, 1) ∷ [];
  } ∷ no_view ∷ no_view ∷ no_view ∷ [];
}

-- a world that this group shows
abbrev pub world_with : List ℕ → World
world_with payload = opened (limits 4 10) (image_of ((with_payload payload ∷ []) ∷ []))

-- the ghost values of a store in memory that isn't honest, and in which a stop may leave any records
abbrev pub forgetful : Ghosts Memory (Unit {0})
forgetful = record lying { leaves_only = λ s P. (records : List Entry) → P records }

-- the same, of a store that isn't honest, and has returned something else than was written
abbrev pub broken : Ghosts Memory (Unit {0})
broken = record lying { is_clean = λ s. ⊥ }

-- the same, of an honest store that has given out another record than it has, and holds one ahead
abbrev pub ahead_of_another : Ghosts Memory (Unit {0})
ahead_of_another = ahead_of (pending 1 1 ∷ []) (pending 1 2 ∷ [])
