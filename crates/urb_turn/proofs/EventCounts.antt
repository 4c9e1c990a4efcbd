-- The number of events that a House counts in a turn, and in turns one after the other.
use Rattle.urb_turn.proofs.Common.{Begins, Bool, Counts, Ends, Err, Event, Global, HouseView, Job}
use Rattle.urb_turn.proofs.Common.{NothingNew, Ok, Option, OutOfMemory, Published, Result, Settles}
use Rattle.urb_turn.proofs.Common.{Stage, Status, add-zero, ap, arith, count_of, eqb-true, false}
use Rattle.urb_turn.proofs.Common.{if◌then◌else◌, refl, suc, sym, true, zero, ℕ, ◌+◌, ◌-◌, ◌<◌}
use Rattle.urb_turn.proofs.Common.{◌==◌, ◌^◌, ◌∙◌, ◌≡◌, ◌≤◌}
use Rattle.urb_group.specs.declared.reply.Reply.{Reply}
use Rattle.urb_show.specs.Houses.{next_count}
use Rattle.urb_turn.specs.Counting.{count_after}
use Rattle.urb_turn.specs.Settlings.{Told}
use Rattle.urb_turn.specs.declared.job.Job.TheVariants as job
use Rattle.urb_turn.specs.declared.turn_stages.Stage.TheVariants as stage

same_events : (old new : HouseView) → new ≡ old → new.events ≡ old.events
same_events old new e = ap (λ (h : HouseView). h.events) e

-- a settling counts nothing
settled_events : (b : Bool) (p : ℕ) (before after : HouseView) (settling : Published)
    → Settles b p before after settling → after.events ≡ before.events
settled_events true p before after NothingNew h = absurd h
settled_events true p before after (Told lists) h = h.events
settled_events true p before after OutOfMemory h = h.events
settled_events false p before after settling h = same_events before after h.0

call_events : {T E : Type 0} (event : Event) (r : Result T E) (old new : HouseView)
    → Counts event r old new → new.events ≡ count_after (count_of r) old.events
call_events event (Ok done) old new h = h.events
call_events event (Err refused) old new h = same_events old new h

-- a call has at most one event
pub few : {T E : Type 0} (r : Result T E) → count_of r ≤ 1
few (Ok done) = omega (arith)
few (Err refused) = omega (arith)

-- the beginning of a turn has at most one event
pub begins_few : (old : HouseView) (j : Job) (new : HouseView) (at : Stage) (events : ℕ)
    → Begins old j new at events → events ≤ 1
begins_few old (job.Submit p client number payload) new at events (r, takes, counts, to, is) =
    rw is (few r)
begins_few old (job.Arrive p bytes) new at events (r, takes, counts, to, is) = rw is (few r)
begins_few old (job.Tick p) new at events (r, ticks, counts, to, is) = rw is (few r)
begins_few old (job.Crash p) new at events (r, crashes, counts, to, is) = rw is (few r)
begins_few old (job.Restart p) new at events (state, answers, same, to, is) = rw is (omega (arith))
begins_few old (job.Status p) new at events (same, to, is) = rw is (omega (arith))

-- the end of a turn adds its number of events to the House's count
pub ends_count : (old : HouseView) (job : Job) (at : Stage) (new : HouseView) (said : Reply Global)
    (status : Option Status) (settling : Published) (events : ℕ)
    → Ends old job at new said status settling events → new.events ≡ count_after events old.events
ends_count old job (stage.Kept receipt) new said status settling events
    (r, between, step, counts, settles, is_said, is_status, is) =
    rw is (settled_events _ _ between new settling settles ∙ call_events _ r old between counts)
ends_count old job (stage.Doubtful doubt) new said status settling events
    (r, step, counts, is_said, is_status, is_told, is) = rw is (call_events _ r old new counts)
ends_count old job (stage.Retrieved image) new said status settling events
    (r, between, step, counts, settles, is_said, is_status, is) =
    rw is (settled_events _ _ between new settling settles ∙ call_events _ r old between counts)
ends_count old job (stage.Unread fault) new said status settling events
    (same, is_said, is_status, is_told, is) = rw is (same_events old new same)
ends_count old job stage.Asking new said status settling events
    (same, tells, is_said, is_told, is) = rw is (same_events old new same)
ends_count old job (stage.Answered answer) new said status settling events
    (same, is_said, is_status, is_told, is) = rw is (same_events old new same)
ends_count old job (stage.Drafted draft) new said status settling events h = absurd h
ends_count old job stage.Retrieving new said status settling events h = absurd h

-- the same, if the House was marked before and after the call
pub marked_end_counts : (first old new last : HouseView) (j : Job) (at : Stage)
    (said : Reply Global) (status : Option Status) (settling : Published) (events count : ℕ)
    → old ≡ first → last ≡ new → Ends old j at new said status settling events → count ≡ events
    → last.events ≡ count_after count first.events
marked_end_counts first old new last j at said status settling events count before behind ends is =
    same_events new last behind ∙ ends_count old j at new said status settling events ends
    ∙ ap (λ (h : HouseView). count_after events h.events) before
    ∙ ap (λ (k : ℕ). count_after k first.events) (sym is)

-- the count after some events and then others
pub count_sum : (k t e : ℕ) → count_after k (count_after t e) ≡ count_after (t + k) e
count_sum zero t e = rw add-zero refl
count_sum (suc k) t e =
    let longer : t + suc k ≡ suc (t + k) = omega arith in
    rw longer (ap next_count (count_sum k t e))

-- one more event adds one, below the greatest count
next_adds : (n : ℕ) → n + 1 < 2 ^ 64 → next_count n ≡ n + 1
next_adds n low = at (n == 2 ^ 64 - 1) refl
  where
    at : (b : Bool) → (n == 2 ^ 64 - 1) ≡ b → (if b then n else n + 1) ≡ n + 1
    at true e = let greatest : n ≡ 2 ^ 64 - 1 = eqb-true n (2 ^ 64 - 1) e in absurd (omega arith)
    at false e = refl

-- below the greatest count, events add up
pub count_adds : (k e : ℕ) → e + k < 2 ^ 64 → count_after k e ≡ e + k
count_adds zero e low = omega arith
count_adds (suc k) e low =
    let before : count_after k e ≡ e + k = count_adds k e (omega arith) in
    let longer : e + suc k ≡ e + k + 1 = omega arith in
    rw (before, longer) (next_adds (e + k) (omega arith))
