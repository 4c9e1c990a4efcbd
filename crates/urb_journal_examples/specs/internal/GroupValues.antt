-- Words of the worked examples: groups and clusters of some size, over stores in memory.
use Rattle.std.specs.Prelude.{List, replicate, [], ℕ, ◌∷◌}
use Rattle.urb_names.specs.Names.{name}
use Rattle.urb_node.specs.NodeViews.{NodeView, no_view}
use Rattle.urb_stable.specs.MemoryStores.{Memory}
use Rattle.urb_stable.specs.declared.stable.Stable.{Ghosts}
use Rattle.urb_group.specs.GroupStores.{Clustered}
use Rattle.urb_group.specs.GroupViews.{GroupView}
use Rattle.urb_world.specs.MemoryStores.{in_memory}
use Rattle.urb_world.specs.internal.Examples.{limits}

-- a new group of n nodes
abbrev pub new_group : ℕ → GroupView
new_group n = record { size = limits n 10; nodes = [] }

-- a group of n nodes, each with a place in memory; none holds anything
abbrev pub counted_group : ℕ → GroupView
counted_group n = record { size = limits n 10; nodes = replicate n no_view }

-- a group of n nodes, of which node 1 holds this in memory and the others nothing
abbrev pub group_with : ℕ → NodeView → GroupView
group_with n view = record { size = limits n 10; nodes = view ∷ [] }

-- a group of n nodes that shows no world: its node 1 has stored no record, and has delivered a name
abbrev pub of_no_world : ℕ → GroupView
of_no_world n = group_with n (record no_view { log = name 1 1 ∷ [] })

-- this group, over these stores
abbrev pub clustered : {S : Type 0} → GroupView → List S → Clustered S
clustered group stores = record { group = group; stores = stores }

-- the ghost values of a store in memory that may not have returned what was stored
abbrev pub unclean : Ghosts Memory (Unit {0})
unclean = record (in_memory (Unit {0})) { is_clean = λ s. ⊥ }
