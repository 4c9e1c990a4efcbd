-- The stages of a turn.
use Rattle.std.specs.Prelude.{Bool, List, Result, Ok, Err, Option, Some, None, Vec, true, false, ℕ}
use Rattle.std.specs.declared.alloc.Global.{Global}
use Rattle.urb_names.specs.CarriedPackets.{Carried}
use Rattle.urb_names.specs.declared.refusal.Refusal.{Refusal}
use Rattle.urb_names.specs.declared.refusal.Refusal.TheVariants as refusal
use Rattle.urb_stable.specs.Doubts.{Doubted}
use Rattle.urb_stable.specs.Entries.{Entry}
use Rattle.urb_stable.specs.PlacedRecords.{Placed}
use Rattle.urb_stable.specs.StableStorage.{refusal_of}
use Rattle.urb_stable.specs.declared.stable.StoreFault.{StoreFault}
use Rattle.urb_node.specs.Replies.{Done}
use Rattle.urb_group.specs.declared.reply.Reply.{Reply}
use Rattle.urb_group.specs.declared.reply.Reply.TheVariants as reply
use Rattle.urb_group.specs.declared.state.State.{State}
use Rattle.urb_group.specs.declared.state.State.TheVariants as state
use Rattle.urb_group.specs.declared.taken.Taken.{Taken}
use Rattle.urb_group.specs.declared.taken.Taken.TheVariants as taken
use Rattle.urb_show.specs.declared.status.Status.{Status}
use Rattle.urb_turn.specs.declared.turn_stages.Stage.{Stage}
use Rattle.urb_turn.specs.declared.turn_stages.Stage.TheVariants as stage

-- whether the store has done its part: it has no draft to keep, and no image to retrieve
abbrev pub is_stored : Stage → Bool
is_stored (stage.Drafted draft) = false
is_stored stage.Retrieving = false
is_stored _ = true

-- ---- the stage after the turn's first call, by its answer

-- a submit or an arrival: the store has to keep a draft, or the job is answered
abbrev pub taken_stage : Result (Taken Global) Refusal → Stage
taken_stage (Ok (taken.Same answer)) = stage.Answered (reply.Same answer)
taken_stage (Ok (taken.Store draft)) = stage.Drafted draft
taken_stage (Err r) = stage.Answered (reply.Refused r)

-- a tick: its packets are the reply, or it is refused
abbrev pub tick_stage : Result (List Carried) Refusal → Stage
tick_stage (Ok packets) = stage.Answered (reply.Sent packets)
tick_stage (Err r) = stage.Answered (reply.Refused r)

-- a crash of p: the reply says that p went down, or the crash is refused
abbrev pub crash_stage : ℕ → Result (Unit {0}) Refusal → Stage
crash_stage p (Ok done) = stage.Answered (reply.WentDown p)
crash_stage p (Err r) = stage.Answered (reply.Refused r)

-- a restart: the store is asked only if the node is down
abbrev pub restart_stage : Option State → Stage
restart_stage (Some state.Down) = stage.Retrieving
restart_stage (Some state.Ready) = stage.Answered (reply.Refused refusal.NotDown)
restart_stage (Some state.Storing) = stage.Answered (reply.Refused refusal.NotDown)
restart_stage None = stage.Answered (reply.Refused refusal.BadNode)

-- ---- the stage after the store's part, by its answer

-- a draft was given to the store: the store took it, or answered a fault
abbrev pub kept_stage : Result Placed Doubted → Stage
kept_stage (Ok receipt) = stage.Kept receipt
kept_stage (Err doubt) = stage.Doubtful doubt

-- the store was asked for its records: it gave them, or answered a fault
abbrev pub image_stage : Result (Vec Entry Global) StoreFault → Stage
image_stage (Ok image) = stage.Retrieved image
image_stage (Err fault) = stage.Unread fault

-- ---- the reply of a turn, by the answer of its last call

-- the record of the draft was stored; or the receipt is refused as stale, because the draft is no
-- longer held
abbrev pub commit_reply : Result Done (Placed × Refusal) → Reply Global
commit_reply (Ok done) = reply.Stored done
commit_reply (Err refused) = reply.Refused refusal.Stale

-- the refusal for the store's fault; or a refusal as stale, because the draft is no longer held
abbrev pub fail_reply : StoreFault → Result (Unit {0}) Refusal → Reply Global
fail_reply fault (Ok done) = reply.Refused (refusal_of fault)
fail_reply fault (Err r) = reply.Refused refusal.Stale

-- a restart of p: p is up, or the restart is refused
abbrev pub restart_reply : ℕ → Result (Unit {0}) Refusal → Reply Global
restart_reply p (Ok done) = reply.Up p
restart_reply p (Err r) = reply.Refused r

-- the reply that p is down, or up
abbrev pub state_reply : ℕ → State → Reply Global
state_reply p state.Down = reply.WentDown p
state_reply p state.Ready = reply.Up p
state_reply p state.Storing = reply.Up p

-- the reply about p's state; or there is no such node
abbrev pub status_reply : ℕ → Option Status → Reply Global
status_reply p (Some status) = state_reply p status.state
status_reply p None = reply.Refused refusal.BadNode
