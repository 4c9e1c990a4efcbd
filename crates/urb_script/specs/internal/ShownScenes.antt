-- What the stores of a cluster, in memory, show of a scene.
use Rattle.std.specs.Prelude.{[], length, ◌≡◌, ◌++◌, ◌-◌, ℕ, false, true, List, None, Some}
use Rattle.std.specs.Prelude.{slice_get}
use Rattle.urb_names.specs.LabelsAndContents.{Limits}
use Rattle.urb_names.specs.Nodes.{is_node}
use Rattle.urb_stable.specs.Entries.{Entry}
use Rattle.urb_stable.specs.MemoryStores.{Memory, with_doubt}
use Rattle.urb_stable.specs.StableStorage.{IsContents}
use Rattle.urb_node.specs.Part.{Node}
use Rattle.urb_node.specs.Steps.{doubt, is_down}
use Rattle.urb_world.specs.Scenes.{Scene}
use Rattle.urb_group.specs.GroupViews.{GroupView, Shows}
use Rattle.urb_world.specs.World.{World}
use Rattle.urb_group.specs.GroupStores.{Clustered, held_draft}
use Rattle.urb_group.specs.ClusterCalls.{FailsHeld, StoresHeld}
use Rattle.urb_world.specs.MemoryStores.{in_memory}
use Rattle.urb_node.specs.Replies.{Reply}
use Rattle.urb_script.specs.Commands.{Command, Fail, Stored}
use Rattle.urb_script.specs.declared.mem_cluster.MemCluster.{MemCluster}

-- The store has what the scene's storage holds: the node's records, or these with the doubtful one.
-- While the node is up, the store has the node's records, and no record is in doubt.
pub record IsHeldBy (node : Node) (storage : List Entry) (m : Memory) : Type 0 where
  pub holds : storage ≡ with_doubt m.certain m.doubt
  pub contents : IsContents node.records (doubt node.state) storage
  pub certain : is_down node.state ≡ false → (m.certain ≡ node.records) × (m.doubt ≡ None)

-- this is so for each node's store
abbrev pub AreHeldBy : ℕ → (ℕ → Node) → (ℕ → List Entry) → List Memory → Type 0
AreHeldBy n nodes storage stores =
    (p : ℕ) (m : Memory) → is_node n p ≡ true → slice_get stores (p - 1) ≡ Some m
    → IsHeldBy (nodes p) (storage p) m

-- The cluster shows the scene: its group shows the world, and its stores show the storage, one for
-- each node.
pub record ShowsScene (limits : Limits) (cluster : Clustered Memory) (scene : Scene) : Type 0 where
  pub size : scene.world.size ≡ limits
  pub group : Shows cluster.group scene.world
  pub stores : AreHeldBy limits.n scene.world.node scene.storage cluster.stores
  pub counted : length cluster.stores ≡ limits.n
  pub beyond : (p : ℕ) → is_node limits.n p ≡ false → scene.storage p ≡ []

-- The stores do what the cluster asks of them. A store that is to fail fails in the requested way,
-- and keeps nothing instead of a record only if memory was refused. A store that is to keep a
-- record answers as it was armed. This doesn't speak of other commands.
abbrev pub StoresAsAsked : Type 0 → Command → Clustered Memory → Clustered Memory → Type 0
StoresAsAsked A (Stored p) old new =
    (said : Reply) × StoresHeld (in_memory A) old p (held_draft old.group p) said new
StoresAsAsked A (Fail p failure) old new =
    (said : Reply) × FailsHeld old p (held_draft old.group p) failure said new
StoresAsAsked A asked old new = Unit {0}

-- what a cluster of stores in memory shows
abbrev pub Shown : {A : Type 0} → MemCluster A → Scene → Type 0
Shown held scene = ShowsScene held.config held.cluster scene

-- the answer that is the same in every world that the group shows
abbrev pub TellsOf : (World → List ℕ) → GroupView → List ℕ → List ℕ → Type 0
TellsOf of group old new = (w : World) → Shows group w → new ≡ old ++ of w

-- the same, for a node of the group
abbrev pub TellsAt : ℕ → (World → List ℕ) → GroupView → List ℕ → List ℕ → Type 0
TellsAt p of group old new =
    (w : World) → Shows group w → is_node w.size.n p ≡ true → new ≡ old ++ of w
