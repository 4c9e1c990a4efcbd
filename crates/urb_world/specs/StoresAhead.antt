-- Records that a node's storage may hold behind those that the group has counted as stored: a
-- worker stores several at once, before their events.
use Rattle.std.specs.Prelude.{IsTrue, List, None, [], false, ℕ, ◌++◌, ◌∷◌, ◌≡◌, ◌⊎◌}
use Rattle.urb_world.specs.RunInvariant.{AreShort, MayJoin}
use Rattle.urb_world.specs.ProcessStops.{GoesOnIn, MayLeave}
use Rattle.urb_world.specs.World.{World, stored}
use Rattle.urb_names.specs.LabelsAndContents.{Limits}
use Rattle.urb_names.specs.Nodes.{is_node}
use Rattle.urb_node.specs.Part.{Node, Ready, opened_node}
use Rattle.urb_stable.specs.Entries.{Entry}
use Rattle.urb_stable.specs.Records.{pend}
use Rattle.urb_stable.specs.StableStorage.{IsContents}
use Rattle.urb_stable.specs.declared.stable.Stable.{Ghosts}

-- each record of the tail would meet the rules if it were stored after the ones before it
abbrev pub MayFollow : Limits → (ℕ → List Entry) → ℕ → List Entry → List Entry → Type 0
MayFollow size images p records [] = Unit {0}
MayFollow size images p records (r ∷ tail) =
    MayJoin size images p records r × MayFollow size images p (records ++ r ∷ []) tail

-- the image is the records, followed by a beginning of the tail
abbrev pub IsAhead : List Entry → List Entry → List Entry → Type 0
IsAhead records [] image = image ≡ records
IsAhead records (r ∷ tail) image = (image ≡ records) ⊎ IsAhead (records ++ r ∷ []) tail image

-- Node p as its store has it: it is opened from its records, followed by a tail that may follow
-- them.
pub record StandsFor (w : World) (p : ℕ) (node : Node) : Type 0 where
  pub is : IsTrue (is_node w.size.n p)
  pub tail : List Entry
  pub may : MayFollow w.size (stored w) p (stored w p) tail
  pub short : AreShort (pend (stored w p ++ tail))
  pub opened : node ≡ opened_node p (stored w p ++ tail)

-- the node is as in this world, or it is node p as its store has it
abbrev pub IsOrStandsFor : World → ℕ → Node → Type 0
IsOrStandsFor w p node = (node ≡ w.node p) ⊎ StandsFor w p node

-- The second world is the first one as the stores have it: each node is the same, or it is as its
-- store has it.
pub record IsAsStored (w v : World) : Type 0 where
  pub size : v.size ≡ w.size
  pub nodes : (p : ℕ) → IsOrStandsFor w p (v.node p)

-- What a stop may leave of node p: what it may leave of its part of the world, or the node's
-- records followed by a beginning of a tail that may follow them.
abbrev pub MayLeaveAhead : World → ℕ → List Entry → Type 0
MayLeaveAhead w p image =
    MayLeave (w.node p) image
    ⊎ ((tail : List Entry) × MayFollow w.size (stored w) p (stored w p) tail
    × IsAhead (stored w p) tail image)

-- whatever such a stop leaves of each node, the group that opens from it goes on from this world
abbrev pub SurvivesAhead : World → Type 0
SurvivesAhead w =
    (images : ℕ → List Entry) → ((p : ℕ) → MayLeaveAhead w p (images p)) → GoesOnIn w images

module _ {S A : Type 0} (g : Ghosts S A) where
  -- The store holds this tail behind the records of node p, which is ready: the node has yet to
  -- draft it.
  pub record IsAheadOf (w : World) (p : ℕ) (tail : List Entry) (store : S) : Type 0 where
    pub ready : (w.node p).state ≡ Ready
    pub may : MayFollow w.size (stored w) p (stored w p) tail
    pub certain : g.is_honest store → g.certain store ≡ stored w p ++ tail
    pub sure : (g.is_doubtful store ≡ false) × (g.doubt store ≡ None)
    pub rest : g.is_honest store
        → g.leaves_only store (IsContents (g.certain store) (g.doubt store))
