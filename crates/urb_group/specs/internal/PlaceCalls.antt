-- What each call does with the node in one place, by the definition's outcome for every node that
-- the place shows.
use Rattle.std.specs.Prelude.{Bool, Err, List, Ok, Result, Some, if◌then◌else◌, not, set, slice_get}
use Rattle.std.specs.Prelude.{true, ℕ, ◌≡◌}
use Rattle.urb_names.specs.CarriedPackets.{Carried}
use Rattle.urb_names.specs.LabelsAndContents.{Content, Limits}
use Rattle.urb_names.specs.declared.refusal.Refusal.{Refusal}
use Rattle.urb_names.specs.declared.refusal.Refusal.TheVariants as refusal
use Rattle.urb_stable.specs.Entries.{Entry, name_of}
use Rattle.urb_stable.specs.PlacedRecords.{Placed}
use Rattle.urb_node.specs.CallEffects.{IsForNode, IsRefusedAs}
use Rattle.urb_node.specs.Part.{Node}
use Rattle.urb_node.specs.Replies.{Done, Drafted, Reply, Same, Sent, Stored, Up, WentDown}
use Rattle.urb_node.specs.Steps.{arrives, commits, crashes, fails, is_down, is_storing, refuses}
use Rattle.urb_node.specs.Steps.{restarts, submits, ticks}
use Rattle.urb_node.specs.NodeMemories.{IsSameNode, Memory, draft_of}
use Rattle.urb_node.specs.declared.step.Step.{Step}
use Rattle.urb_node.specs.declared.step.Step.TheVariants as step
use Rattle.urb_group.specs.PlaceViews.{memory_in}
use Rattle.urb_group.specs.internal.PlaceInvariant.{ShowsAt}
use Rattle.urb_group.specs.declared.node_moves.Node.{Node as Place}
use Rattle.urb_group.specs.declared.node_moves.Node.TheVariants as place
use Rattle.urb_group.specs.declared.taken.Taken.{Taken}
use Rattle.urb_group.specs.declared.taken.Taken.TheVariants as taken

-- the result of a call that took an event: its reply, or a refusal
abbrev pub CallResult : Type 0
CallResult = Result Reply Refusal

-- the node moved, by its outcome and with its reply
pub record Moves {A : Type 0} (outcome : Reply × Node) (reply : Reply)
    (old new : Place A) : Type 0 where
  pub told : outcome.0 ≡ reply
  pub shows : ShowsAt new outcome.1
  pub same : IsSameNode (memory_in old) (memory_in new)

-- The node moved by its outcome; or it is refused as the outcome is, and stays as it was.
abbrev pub Leads : {A : Type 0} → Reply × Node → Place A → CallResult → Place A → Type 0
Leads outcome old (Ok reply) new = Moves outcome reply old new
Leads outcome old (Err r) new = IsRefusedAs outcome.0 r × (new ≡ old)

-- a defined outcome for a node, depending on the limits of its group and on its number
abbrev pub Outcomes : Type 0
Outcomes = Limits → ℕ → Node → Reply × Node

-- this is so for every node that the place shows
abbrev pub LeadsAt : {A : Type 0} → Outcomes → Place A → CallResult → Place A → Type 0
LeadsAt outcome old told new =
    (node : Node) → ShowsAt old node
    → Leads (outcome (memory_in old).limits (memory_in old).node node) old told new

-- The node in place i moved by a step, which gave this result. The step took the node as it was,
-- and what the step left is in its place.
pub record MovesNode {N T : Type 0} (IsStep : N → N × T → Type 0) (i : ℕ) (old : List N)
    (result : T) (new : List N) : Type 0 where
  pub node : N
  pub moved : N
  pub was : slice_get old i ≡ Some node
  pub step : IsStep node (moved, result)
  pub back : new ≡ set old i moved

-- ---- the result of each call

-- the result of a submit or an arrival
abbrev pub told_taken : {A : Type 0} → Result (Taken A) Refusal → CallResult
told_taken (Ok (taken.Same answer)) = Ok (Same answer)
told_taken (Ok (taken.Store draft)) = Ok (Drafted (name_of draft.entry) draft.pos)
told_taken (Err r) = Err r

-- the result of a receipt
abbrev pub told_stored : Result Done (Placed × Refusal) → CallResult
told_stored (Ok done) = Ok (Stored done)
told_stored (Err e) = Err e.1

-- the result of a failed store or a crash
abbrev pub told_down : ℕ → Result (Unit {0}) Refusal → CallResult
told_down p (Ok done) = Ok (WentDown p)
told_down p (Err r) = Err r

-- the result of a restart
abbrev pub told_up : ℕ → Result (Unit {0}) Refusal → CallResult
told_up p (Ok done) = Ok (Up p)
told_up p (Err r) = Err r

-- the result of a tick
abbrev pub told_sent : Result (List Carried) Refusal → CallResult
told_sent (Ok packets) = Ok (Sent packets)
told_sent (Err r) = Err r

-- ---- each call at one place

-- the place of a ready node after its step
abbrev pub after_step : {A : Type 0} → Result (Step A) (Memory × Refusal)
    → Place A × Result (Taken A) Refusal
after_step (Ok (step.Same ready answer)) = (place.Ready ready, Ok (taken.Same answer))
after_step (Ok (step.Store storing draft)) = (place.Storing storing, Ok (taken.Store draft))
after_step (Err e) = (place.Ready e.0, Err e.1)

-- the draft that was returned is the one that the node holds
abbrev pub IsHeldAt : {A : Type 0} → Place A → Placed → Type 0
IsHeldAt (place.Ready a) draft = ⊥
IsHeldAt (place.Storing h) draft = draft ≡ draft_of h
IsHeldAt (place.Down f) draft = ⊥

-- if a draft was returned, the node holds it
abbrev pub HoldsAt : {A : Type 0} → Place A → Result (Taken A) Refusal → Type 0
HoldsAt new (Ok (taken.Same answer)) = Unit {0}
HoldsAt new (Ok (taken.Store draft)) = IsHeldAt new draft
HoldsAt new (Err r) = Unit {0}

-- a client's message
abbrev pub SubmitsAt : {A : Type 0} → Place A → Content → Place A × Result (Taken A) Refusal
    → Type 0
SubmitsAt old m r = (node : Node) → ShowsAt old node
    → Leads (submits (memory_in old).limits (memory_in old).node m node) old (told_taken r.1) r.0
    × HoldsAt r.0 r.1

-- a packet comes to p, which is truthful or not
abbrev pub arrives_as : Carried → Bool → Limits → ℕ → Node → Reply × Node
arrives_as packet is_truthful size p node =
    if is_down node.state then refuses node refusal.Down
    else (if is_storing node.state then refuses node refusal.Busy
    else (if not is_truthful then refuses node refusal.Forged
    else arrives size p packet.source packet.name packet.message packet.flags node))

-- a packet
abbrev pub ArrivesAt : {A : Type 0} → Place A → Carried → Bool → Place A × Result (Taken A) Refusal
    → Type 0
ArrivesAt old packet is_truthful r = (node : Node) → ShowsAt old node
    → Leads (arrives_as packet is_truthful (memory_in old).limits (memory_in old).node node) old
    (told_taken r.1) r.0 × HoldsAt r.0 r.1

-- a truthful packet may reach the node, if the node is ready
abbrev pub MayReach : {A : Type 0} → Place A → Carried → Bool → Type 0
MayReach (place.Ready a) packet is_truthful = is_truthful ≡ true → IsForNode a packet
MayReach (place.Storing h) packet is_truthful = Unit {0}
MayReach (place.Down f) packet is_truthful = Unit {0}

-- a receipt comes to p
abbrev pub commits_as : Placed → Limits → ℕ → Node → Reply × Node
commits_as receipt size p node = commits size.n p receipt.pos receipt.entry node node.state

-- if a receipt is refused, it is returned
abbrev pub HandsBack : Placed → Result Done (Placed × Refusal) → Type 0
HandsBack receipt (Ok done) = Unit {0}
HandsBack receipt (Err e) = e.0 ≡ receipt

-- a receipt of a draft of the node
abbrev pub CommitsAt : {A : Type 0} → Place A → Placed → Place A × Result Done (Placed × Refusal)
    → Type 0
CommitsAt old receipt r =
    (receipt.node ≡ (memory_in old).node → LeadsAt (commits_as receipt) old (told_stored r.1) r.0)
    × HandsBack receipt r.1

-- the store of p failed
abbrev pub fails_as : Limits → ℕ → Node → Reply × Node
fails_as size p node = fails p node node.state

-- a failed store
abbrev pub FailsAt : {A : Type 0} → Place A → Place A × Result (Unit {0}) Refusal → Type 0
FailsAt old r = LeadsAt fails_as old (told_down (memory_in old).node r.1) r.0

-- p crashes
abbrev pub crashes_as : Limits → ℕ → Node → Reply × Node
crashes_as size p node = crashes p node

-- a crash
abbrev pub CrashesAt : {A : Type 0} → Place A → Place A × Result (Unit {0}) Refusal → Type 0
CrashesAt old r = LeadsAt crashes_as old (told_down (memory_in old).node r.1) r.0

-- a tick at p
abbrev pub ticks_as : Limits → ℕ → Node → Reply × Node
ticks_as size p node = ticks size.n p node

-- a tick
abbrev pub TicksAt : {A : Type 0} → Place A → Place A × Result (List Carried) Refusal → Type 0
TicksAt old r = LeadsAt ticks_as old (told_sent r.1) r.0

-- p is restarted with this image
abbrev pub restarts_as : List Entry → Limits → ℕ → Node → Reply × Node
restarts_as image size p node = restarts p image node node.state

-- a restart with this image
abbrev pub RestartsAt : {A : Type 0} → Place A → List Entry → Place A × Result (Unit {0}) Refusal
    → Type 0
RestartsAt old image r = LeadsAt (restarts_as image) old (told_up (memory_in old).node r.1) r.0
