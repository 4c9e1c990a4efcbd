-- The draft that a node holds is in place for its store, if the store is honest. That means that
-- the store doesn't return Place for it.
use Rattle.std.specs.Prelude.{IfErr, None, Option, Result, Some, false, ◌≡◌, ◌⊎◌}
use Rattle.urb_stable.specs.MemoryStores.{Memory, armed_with}
use Rattle.urb_stable.specs.PlacedRecords.{Placed}
use Rattle.urb_stable.specs.declared.memory.Failure.{Failure}
use Rattle.urb_stable.specs.declared.stable.Stable.{Ghosts}
use Rattle.urb_stable.specs.declared.stable.StoreFault.{StoreFault}
use Rattle.urb_stable.specs.declared.stable.StoreFault.TheVariants as fault
use Rattle.urb_node.specs.Replies.{Reply}
use Rattle.urb_group.specs.GroupStores.{Clustered, held_draft}
use Rattle.urb_group.specs.ClusterCalls.{Breaks, FailsDraft, StoresDraft}
use Rattle.urb_group.specs.declared.command.Command.{Command}
use Rattle.urb_group.specs.declared.command.Command.TheVariants as command

-- The record was in place for the store. So the store took it, or failed because memory was refused
-- or its device failed. It didn't return Place.
abbrev pub IsInPlace : {T : Type 0} → Result T StoreFault → Type 0
IsInPlace answer = IfErr answer (λ e. (e ≡ fault.NoMemory) ⊎ (e ≡ fault.Device))

module _ {S A : Type 0} (g : Ghosts S A) where
  -- The draft that the node holds, if there is one, went to the node's store. If the store was
  -- honest, the draft was in place.
  abbrev pub StoresInPlace : Clustered S → Option Placed → Reply → Clustered S → Type 0
  StoresInPlace old None reply new = Unit {0}
  StoresInPlace old (Some draft) reply new =
      (stores : StoresDraft g old draft reply new)
      × (g.is_honest stores.before → IsInPlace stores.stored.answer)

  -- if the command asks a store to store a draft, the draft went to the store in this way
  abbrev pub AppliesInPlace : Clustered S → Command A → Reply → Clustered S → Type 0
  AppliesInPlace old (command.Store p) reply new =
      StoresInPlace old (held_draft old.group p) reply new
  AppliesInPlace old what reply new = Unit {0}

-- The store of the draft that the node holds, if there is one, failed in this way. The draft was in
-- place, so the store holds what the failure left.
abbrev pub FailsInPlace : Clustered Memory → Option Placed → Failure → Reply → Clustered Memory
    → Type 0
FailsInPlace old None failure reply new = Unit {0}
FailsInPlace old (Some draft) failure reply new =
    (fails : FailsDraft old draft failure reply new)
    × Breaks false failure (armed_with failure fails.before) draft.entry fails.after
