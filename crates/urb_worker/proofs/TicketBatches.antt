-- The tickets of a batch, as a loop takes them, and their calls.
use Rattle.std.proofs.Common.{Bool, List, None, Some, [], ap, append_assoc, arith, drop, false}
use Rattle.std.proofs.Common.{if◌then◌else◌, length, map, refl, slice_index_or, subst, suc}
use Rattle.std.proofs.Common.{sym, true, ℕ, ◌+◌, ◌++◌, ◌<◌, ◌==◌, ◌≡◌, ◌≤◌, ◌∙◌, ◌∷◌}
use Rattle.std.proofs.lemmas.List.{append-nil, drop_all, drop_more, length_push, map_push}
use Rattle.urb_foresight.specs.ForeseenDrafts.{event_of}
use Rattle.urb_names.specs.PacketGrammar.{packet_of}
use Rattle.urb_names.specs.declared.refusal.NoMemory.{NoMemory}
use Rattle.urb_world.specs.Step.{Arrive, Event, Submit}
use Rattle.urb_foresight.specs.declared.foresight.TheConstants.{MAX_BATCH}
use Rattle.urb_foresight.specs.declared.waiting_call.WaitingCall.{WaitingCall}
use Rattle.urb_turn.specs.Jobs.{CallsAt, IsCall, turns_over}
use Rattle.urb_turn.specs.declared.job.Job.{Job}
use Rattle.urb_turn.specs.declared.job.Job.TheVariants as job
use Rattle.urb_worker.specs.TicketBatches.{call_of, calls_ahead}
use Rattle.urb_worker.specs.internal.ServedStores.{each}
use Rattle.urb_worker.specs.internal.TicketBatches.{AreCalls, IsBatchOf}

-- a batch with its first ticket
pub begins_batch : {T : Type 0} (job : T → Job) (first : T) (tickets : List T)
    → tickets ≡ [] ++ first ∷ [] → IsBatchOf (job first) (each tickets job)
begins_batch job first tickets is = rw is ([], refl, omega arith)

-- each ticket has a job
pub one-each : {T : Type 0} (job : T → Job) (tickets : List T)
    → length (each tickets job) ≡ length tickets
one-each job [] = refl
one-each job (t ∷ tickets) = ap suc (one-each job tickets)

-- one more ticket
pub goes_on : {T : Type 0} (job : T → Job) (first : Job) (tickets new : List T) (next : T)
    → IsBatchOf first (each tickets job) → length tickets < MAX_BATCH
    → new ≡ tickets ++ next ∷ [] → IsBatchOf first (each new job)
goes_on job first tickets new next batch room is = rw is (
  batch.0 ++ job next ∷ [],
  rw (map_push job tickets next, batch.1) refl,
  few,
)
  where
    few : length (batch.0 ++ job next ∷ []) < MAX_BATCH
    few =
        let longer = length_push batch.0 (job next) in
        let all : length (each tickets job) ≡ length (first ∷ batch.0) = ap length batch.1 in
        omega (arith, longer, all, one-each job tickets)

-- ---- the calls of a batch

module _ (A : Type 0) (p : ℕ) where
  is-none : (b : Bool) (event : Event) → IsCall {A = A} p b event None
      → (if b then event ∷ [] else []) ≡ []
  is-none true event called = absurd (called.0 refl)
  is-none false event none = refl

  is-some : (b : Bool) (event : Event) (call : WaitingCall A) → IsCall p b event (Some call)
      → (if b then event ∷ [] else []) ≡ event_of p call ∷ []
  is-some true event call called = ap (λ (e : Event). e ∷ []) (sym called.1)
  is-some false event call none = absurd (cc)

  -- a job without a call
  no-call : (next : Job) → CallsAt {A = A} p next None → call_of p next ≡ []
  no-call (job.Submit q client number payload) at =
      is-none (q == p) (Submit p (record { client = client; number = number; payload = payload })) at
  no-call (job.Arrive q bytes) at = is-none (q == p) (Arrive p (packet_of bytes.items)) at
  no-call (job.Tick q) at = refl
  no-call (job.Crash q) at = refl
  no-call (job.Restart q) at = refl
  no-call (job.Status q) at = refl

  -- a job with a call
  one-call : (next : Job) (call : WaitingCall A) → CallsAt p next (Some call)
      → call_of p next ≡ event_of p call ∷ []
  one-call (job.Submit q client number payload) call at =
      is-some (q == p) (Submit p (record { client = client; number = number; payload = payload }))
      call at
  one-call (job.Arrive q bytes) call at = is-some (q == p) (Arrive p (packet_of bytes.items)) call at
  one-call (job.Tick q) call at = absurd (cc)
  one-call (job.Crash q) call at = absurd (cc)
  one-call (job.Restart q) call at = absurd (cc)
  one-call (job.Status q) call at = absurd (cc)

-- a batch that goes on, or ends, at its first job
stays : (p : ℕ) (next : Job) (jobs : List Job) → turns_over next ≡ false
    → calls_ahead p (next ∷ jobs) ≡ call_of p next ++ calls_ahead p jobs
stays p next jobs is = rw is refl

turns : (p : ℕ) (next : Job) (jobs : List Job) → turns_over next ≡ true
    → calls_ahead p (next ∷ jobs) ≡ []
turns p next jobs is = rw is refl

-- what is left of the tickets begins with the next one
next-first : {T : Type 0} (job_of : T → Job) (tickets : List T) (i : ℕ) (t : T) → i < length tickets
    → t ≡ slice_index_or tickets i t
    → each (drop i tickets) job_of ≡ job_of t ∷ each (drop (i + 1) tickets) job_of
next-first {T} job_of tickets i t l e =
    ap (λ (ts : List T). each ts job_of) (drop_more tickets i t l)
    ∙ ap (λ (x : T). job_of x ∷ each (drop (i + 1) tickets) job_of) (sym e)

module _ {A T : Type 0} (p : ℕ) (job_of : T → Job) (tickets : List T) (i : ℕ) where
  -- These are the calls of the first i tickets. With those of the other tickets they are all.
  abbrev pub SoFar : List (WaitingCall A) → Type 0
  SoFar calls =
      map (event_of p) calls ++ calls_ahead p (each (drop i tickets) job_of)
      ≡ calls_ahead p (each tickets job_of)

  -- no more tickets
  pub calls-all : (calls : List (WaitingCall A)) → length tickets ≤ i → SoFar calls
      → map (event_of p) calls ≡ calls_ahead p (each tickets job_of)
  calls-all calls past so_far =
      sym (append-nil (map (event_of p) calls))
      ∙ subst (λ (ts : List T). map (event_of p) calls ++ calls_ahead p (each ts job_of)
      ≡ calls_ahead p (each tickets job_of)) (drop_all i tickets past) so_far

  -- the next ticket crashes or restarts a node
  pub calls-end : (t : T) (calls : List (WaitingCall A)) → i < length tickets
      → t ≡ slice_index_or tickets i t → turns_over (job_of t) ≡ true → SoFar calls
      → map (event_of p) calls ≡ calls_ahead p (each tickets job_of)
  calls-end t calls l e over so_far =
      sym (append-nil (map (event_of p) calls))
      ∙ subst (λ (events : List Event). map (event_of p) calls ++ events
      ≡ calls_ahead p (each tickets job_of))
      (ap (calls_ahead p) (next-first job_of tickets i t l e)
      ∙ turns p (job_of t) (each (drop (i + 1) tickets) job_of) over) so_far

  -- what follows the calls of the first tickets
  rest : (t : T) (calls : List (WaitingCall A)) → i < length tickets
      → t ≡ slice_index_or tickets i t → turns_over (job_of t) ≡ false → SoFar calls
      → map (event_of p) calls
      ++ (call_of p (job_of t) ++ calls_ahead p (each (drop (i + 1) tickets) job_of))
      ≡ calls_ahead p (each tickets job_of)
  rest t calls l e over so_far =
      subst (λ (events : List Event). map (event_of p) calls ++ events
      ≡ calls_ahead p (each tickets job_of))
      (ap (calls_ahead p) (next-first job_of tickets i t l e)
      ∙ stays p (job_of t) (each (drop (i + 1) tickets) job_of) over) so_far

  -- the next ticket has a call, for which there is no memory
  pub calls-cut : (t : T) (calls new : List (WaitingCall A)) (call : WaitingCall A)
      (refused : NoMemory) → i < length tickets → t ≡ slice_index_or tickets i t
      → turns_over (job_of t) ≡ false → CallsAt p (job_of t) (Some call) → SoFar calls
      → new ≡ calls → AreCalls p (each tickets job_of) new (Some refused)
  calls-cut t calls new call refused l e over at so_far same =
      rw same (
        event_of p call,
        calls_ahead p (each (drop (i + 1) tickets) job_of),
        subst (λ (events : List Event). map (event_of p) calls
            ++ (events ++ calls_ahead p (each (drop (i + 1) tickets) job_of))
            ≡ calls_ahead p (each tickets job_of))
            (one-call A p (job_of t) call at) (rest t calls l e over so_far),
      )

module _ {A T : Type 0} (p : ℕ) (job_of : T → Job) (tickets : List T) (i : ℕ) where
  -- no ticket so far
  pub calls-none : (calls : List (WaitingCall A)) → calls ≡ [] → SoFar p job_of tickets 0 calls
  calls-none calls none = rw none refl

  -- the next ticket has a call
  pub next-call : (t : T) (calls new : List (WaitingCall A)) (call : WaitingCall A)
      → i < length tickets → t ≡ slice_index_or tickets i t → turns_over (job_of t) ≡ false
      → CallsAt p (job_of t) (Some call) → SoFar p job_of tickets i calls
      → new ≡ calls ++ call ∷ [] → SoFar p job_of tickets (i + 1) new
  next-call t calls new call l e over at so_far is =
      rw (is, map_push (event_of p) calls call)
      (append_assoc (map (event_of p) calls) (event_of p call ∷ [])
      (calls_ahead p (each (drop (i + 1) tickets) job_of))
      ∙ subst (λ (events : List Event). map (event_of p) calls
      ++ (events ++ calls_ahead p (each (drop (i + 1) tickets) job_of))
      ≡ calls_ahead p (each tickets job_of))
      (one-call A p (job_of t) call at) (rest p job_of tickets i t calls l e over so_far))

  -- the next ticket has none
  pub next-none : (t : T) (calls : List (WaitingCall A)) → i < length tickets
      → t ≡ slice_index_or tickets i t → turns_over (job_of t) ≡ false
      → CallsAt {A = A} p (job_of t) None → SoFar p job_of tickets i calls
      → SoFar p job_of tickets (i + 1) calls
  next-none t calls l e over at so_far =
      subst (λ (events : List Event). map (event_of p) calls
      ++ (events ++ calls_ahead p (each (drop (i + 1) tickets) job_of))
      ≡ calls_ahead p (each tickets job_of))
      (no-call A p (job_of t) at) (rest p job_of tickets i t calls l e over so_far)
