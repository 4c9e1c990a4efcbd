-- What a stop leaves of a store that is inside one with records ahead.
use Rattle.std.specs.Prelude.{List, None, ℕ, ◌++◌, ◌⊎◌}
use Rattle.urb_group.specs.StoreContents.{LeavesOf}
use Rattle.urb_stable.specs.Entries.{Entry}
use Rattle.urb_stable.specs.Records.{pend}
use Rattle.urb_stable.specs.StableStorage.{IsContents}
use Rattle.urb_stable.specs.StoredTogether.{IsContentsOrAll}
use Rattle.urb_stable.specs.declared.stable.Stable.{Ghosts}
use Rattle.urb_world.specs.RunInvariant.{AreShort}
use Rattle.urb_world.specs.StoresAhead.{MayFollow}
use Rattle.urb_world.specs.World.{World, stored}

module _ {S A : Type 0} (g : Ghosts S A) where
  -- A stop leaves the records of node p, those given out after them, and a tail. Or the tail may
  -- also be missing. All that comes after the node's records may follow them.
  pub record LeavesTail (w : World) (p : ℕ) (store : S) : Type 0 where
    pub given : List Entry
    pub tail : List Entry
    pub may : MayFollow w.size (stored w) p (stored w p) (given ++ tail)
    pub short : AreShort (pend (stored w p ++ (given ++ tail)))
    pub only : g.leaves_only store (IsContents ((stored w p ++ given) ++ tail) None)
        ⊎ g.leaves_only store (IsContentsOrAll tail (stored w p ++ given) None)

  -- what a stop leaves of node p's store: what it may leave of the node, or such records
  abbrev pub LeavesInsideNode : World → ℕ → S → Type 0
  LeavesInsideNode w p store = LeavesOf g (w.node p) store ⊎ LeavesTail w p store
