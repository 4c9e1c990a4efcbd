-- The past of the House only grows in a turn.
use Rattle.urb_turn.proofs.Common.{Begins, Bool, Counts, Ends, Err, Event, Global, HouseView}
use Rattle.urb_turn.proofs.Common.{IsPrefix, Job, NothingNew, Ok, Option, OutOfMemory, Published}
use Rattle.urb_turn.proofs.Common.{Result, Settles, Stage, Status, [], ap, false, sym, true, ℕ, ◌∙◌}
use Rattle.urb_turn.proofs.Common.{◌∷◌, ◌≡◌}
use Rattle.urb_group.specs.declared.reply.Reply.{Reply}
use Rattle.urb_show.proofs.PastPrefixes.{prefix_same}
use Rattle.urb_turn.specs.Settlings.{Told}
use Rattle.urb_turn.specs.declared.job.Job.TheVariants as job
use Rattle.urb_turn.specs.declared.turn_stages.Stage.TheVariants as stage

same_past : (old new : HouseView) → new ≡ old → new.past ≡ old.past
same_past old new e = ap (λ (h : HouseView). h.past) e

stays : (old new : HouseView) → new ≡ old → IsPrefix old.past new.past
stays old new e = prefix_same old.past new.past (sym (same_past old new e))

-- a settling is no event
pub settled_past : (b : Bool) (p : ℕ) (before after : HouseView) (settling : Published)
    → Settles b p before after settling → after.past ≡ before.past
settled_past true p before after NothingNew h = absurd h
settled_past true p before after (Told lists) h = h.past
settled_past true p before after OutOfMemory h = h.past
settled_past false p before after settling h = same_past before after h.0

call_grows : {T E : Type 0} (event : Event) (r : Result T E) (old new : HouseView)
    → Counts event r old new → IsPrefix old.past new.past
call_grows event (Ok done) old new h = (event ∷ [], sym h.past)
call_grows event (Err refused) old new h = stays old new h

-- the past only grows by a turn's first call
pub begins_grow : (old : HouseView) (j : Job) (new : HouseView) (at : Stage) (events : ℕ)
    → Begins old j new at events → IsPrefix old.past new.past
begins_grow old (job.Submit p client number payload) new at events (r, takes, counts, to, is) =
    call_grows _ r old new counts
begins_grow old (job.Arrive p bytes) new at events (r, takes, counts, to, is) =
    call_grows _ r old new counts
begins_grow old (job.Tick p) new at events (r, ticks, counts, to, is) =
    call_grows _ r old new counts
begins_grow old (job.Crash p) new at events (r, crashes, counts, to, is) =
    call_grows _ r old new counts
begins_grow old (job.Restart p) new at events (state, answers, same, to, is) = stays old new same
begins_grow old (job.Status p) new at events (same, to, is) = stays old new same

settled_on : {T E : Type 0} (event : Event) (r : Result T E) (old between new : HouseView)
    → Counts event r old between → new.past ≡ between.past → IsPrefix old.past new.past
settled_on event r old between new counts same =
    let grown = call_grows event r old between counts in (grown.0, grown.1 ∙ sym same)

-- the past only grows by a turn's last calls
pub ends_grow : (old : HouseView) (j : Job) (at : Stage) (new : HouseView) (said : Reply Global)
    (status : Option Status) (settling : Published) (events : ℕ)
    → Ends old j at new said status settling events → IsPrefix old.past new.past
ends_grow old j (stage.Kept receipt) new said status settling events
    (r, between, step, counts, settles, is_said, is_status, is) =
    settled_on _ r old between new counts (settled_past _ _ between new settling settles)
ends_grow old j (stage.Doubtful doubt) new said status settling events
    (r, step, counts, is_said, is_status, is_told, is) = call_grows _ r old new counts
ends_grow old j (stage.Retrieved image) new said status settling events
    (r, between, step, counts, settles, is_said, is_status, is) =
    settled_on _ r old between new counts (settled_past _ _ between new settling settles)
ends_grow old j (stage.Unread fault) new said status settling events
    (same, is_said, is_status, is_told, is) = stays old new same
ends_grow old j stage.Asking new said status settling events
    (same, tells, is_said, is_told, is) = stays old new same
ends_grow old j (stage.Answered answer) new said status settling events
    (same, is_said, is_status, is_told, is) = stays old new same
ends_grow old j (stage.Drafted draft) new said status settling events h = absurd h
ends_grow old j stage.Retrieving new said status settling events h = absurd h
