-- The reply to a call of the group, and the places for the drafts after it.
use Rattle.std.specs.Prelude.{Err, List, None, Ok, Option, Result, Some, slice_set, ℕ, ◌-◌, ◌<◌}
use Rattle.std.specs.Prelude.{◌≡◌, ◌≤◌, false, true}
use Rattle.urb_names.specs.declared.refusal.Refusal.{Refusal}
use Rattle.urb_names.specs.declared.refusal.Refusal.TheVariants as refusal
use Rattle.urb_stable.specs.Entries.{Entry, name_of}
use Rattle.urb_stable.specs.PlacedRecords.{Placed}
use Rattle.urb_node.specs.Replies.{Drafted, Refused, Reply, Same}
use Rattle.urb_group.specs.GroupCalls.{IsRefused}
use Rattle.urb_group.specs.GroupStores.{held_draft}
use Rattle.urb_group.specs.ClusterCalls.{is_fallen}
use Rattle.urb_group.specs.GroupViews.{GroupView}
use Rattle.urb_world.specs.Step.{Fail, Restart}
use Rattle.urb_group.specs.declared.state.State.{State}
use Rattle.urb_group.specs.declared.state.State.TheVariants as state
use Rattle.urb_group.specs.declared.taken.Taken.{Taken}
use Rattle.urb_group.specs.declared.taken.Taken.TheVariants as taken

-- the reply to a submit or an arrival
abbrev pub told_of : {A : Type 0} → Result (Taken A) Refusal → Reply
told_of (Ok (taken.Same answer)) = Same answer
told_of (Ok (taken.Store draft)) = Drafted (name_of draft.entry) draft.pos
told_of (Err r) = Refused r

-- the places after the call: a draft goes into the place of its node
abbrev pub noted_in : {A : Type 0} → List (Option Placed) → Result (Taken A) Refusal
    → List (Option Placed)
noted_in drafts (Ok (taken.Same answer)) = drafts
noted_in drafts (Ok (taken.Store draft)) = slice_set drafts (draft.node - 1) (Some draft)
noted_in drafts (Err r) = drafts

-- the draft's node is one of `count` nodes
abbrev pub IsWithin : {A : Type 0} → ℕ → Result (Taken A) Refusal → Type 0
IsWithin count (Ok (taken.Same answer)) = Unit {0}
IsWithin count (Ok (taken.Store draft)) = (0 < draft.node) × (draft.node ≤ count)
IsWithin count (Err r) = Unit {0}

-- why a node in this state has nothing for its store; None as a state means that there is no such
-- node
abbrev pub unstored_in : Option State → Option Refusal
unstored_in None = Some refusal.BadNode
unstored_in (Some state.Down) = Some refusal.Down
unstored_in (Some state.Ready) = Some refusal.Stale
unstored_in (Some state.Storing) = None

-- either p holds a draft; or it holds none, and a failed store of it is refused for this reason
abbrev pub IsUnstored : GroupView → ℕ → Option Refusal → Type 0
IsUnstored group p None = (draft : Placed) × (held_draft group p ≡ Some draft)
IsUnstored group p (Some r) = (held_draft group p ≡ None) × IsRefused group (Fail p) r group

-- why a node in this state can't be restarted; None as a state means that there is no such node
abbrev pub unfallen_in : Option State → Option Refusal
unfallen_in None = Some refusal.BadNode
unfallen_in (Some state.Down) = None
unfallen_in (Some state.Ready) = Some refusal.NotDown
unfallen_in (Some state.Storing) = Some refusal.NotDown

-- Either p is down, and holds no draft; or it isn't down, and a restart of it is refused for this
-- reason, with whatever image.
abbrev pub IsUnfallen : GroupView → ℕ → Option Refusal → Type 0
IsUnfallen group p None = (is_fallen group p ≡ true) × (held_draft group p ≡ None)
IsUnfallen group p (Some r) =
    (is_fallen group p ≡ false) × ((image : List Entry) → IsRefused group (Restart p image) r group)
