-- When a store may hold records ahead, and what a worker has its store do about them.
use Rattle.std.specs.Prelude.{List, Option, Result, [], length, ℕ, ◌<◌, ◌≡◌, ◌≤◌}
use Rattle.urb_foresight.specs.ForeseenDrafts.{ForeseesCalls}
use Rattle.urb_names.specs.declared.refusal.NoMemory.{NoMemory}
use Rattle.urb_stable.specs.Entries.{Entry}
use Rattle.urb_stable.specs.KeptTails.{KeepsTail}
use Rattle.urb_stable.specs.Records.{pend}
use Rattle.urb_stable.specs.declared.stable.Stable.{Ghosts}
use Rattle.urb_stable.specs.declared.stable.StoreFault.{StoreFault}
use Rattle.urb_node.specs.Part.{Ready}
use Rattle.urb_group.specs.GroupViews.{GroupView, Shows}
use Rattle.urb_world.specs.RunInvariant.{AreShort}
use Rattle.urb_world.specs.Step.{Event}
use Rattle.urb_world.specs.StoresAhead.{MayFollow}
use Rattle.urb_world.specs.World.{World, stored}
use Rattle.urb_show.specs.Pasts.{IsLedTo}
use Rattle.urb_turn.specs.declared.hub.TheConstants.{LEAST_AHEAD}

-- in each world that the group shows, node n is ready
abbrev pub IsReadyIn : GroupView → ℕ → Type 0
IsReadyIn group n = (w : World) → Shows group w → (w.node n).state ≡ Ready

-- Node n is ready. In each world that the group shows, these records may follow those that the node
-- has stored. Their payloads are within the limit.
pub record MayHold (group : GroupView) (n : ℕ) (records : List Entry) : Type 0 where
  pub ready : IsReadyIn group n
  pub may : (w : World) → Shows group w
      → MayFollow w.size (stored w) n (stored w n) records
  pub short : AreShort (pend records)

-- A store of node n was asked once to hold these records ahead, and gave this answer. The records
-- may follow what the node has stored.
pub record AsksToHold {S A : Type 0} (g : Ghosts S A) (group : GroupView) (n : ℕ)
    (records : List Entry) (before after : S) : Type 0 where
  pub may : MayHold group n records
  pub answer : Result (Unit {0}) StoreFault
  pub keeps : KeepsTail g before records answer after

-- What a store of node n was asked to do for these events, which wait there. These records were
-- foreseen of them. If there are at least LEAST_AHEAD of them, the store was asked once to hold just
-- these ahead. Otherwise it stayed as it was.
pub record HoldsForeseen {S A : Type 0} (g : Ghosts S A) (group : GroupView) (n : ℕ)
    (events : List Event) (refused : Option NoMemory) (before after : S) : Type 0 where
  pub records : List Entry
  pub foreseen : ForeseesCalls group n events [] records refused
  pub few : length records < LEAST_AHEAD → after ≡ before
  pub enough : LEAST_AHEAD ≤ length records → AsksToHold g group n records before after

-- a history led from the opened group to one of which a store of node n was asked to do just that
pub record Prepares {S A : Type 0} (g : Ghosts S A) (opened : GroupView) (n : ℕ)
    (events : List Event) (refused : Option NoMemory) (before after : S) : Type 0 where
  pub past : List Event
  pub group : GroupView
  pub leads : IsLedTo opened past group
  pub holds : HoldsForeseen g group n events refused before after
