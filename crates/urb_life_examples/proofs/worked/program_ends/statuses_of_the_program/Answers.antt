-- No end of the program has another status.
use Rattle.std.proofs.Common.{Err, List, Ok, Option, Result, Some, arith, inl, inr, refl, sym, ℕ, ◌∙◌, ◌≡◌}
use Rattle.sqlite_wal.specs.Recovery.{Image}
use Rattle.urb_names.specs.LabelsAndContents.{Limits}
use Rattle.urb_stable.specs.MemoryStores.{Memory}
use Rattle.urb_turn.specs.internal.TurnExamples.{memory}
use Rattle.urb_options.specs.Tasks.{Replay, task_of}
use Rattle.urb_options.specs.declared.task.Errand.TheVariants as errand
use Rattle.urb_options.specs.declared.task.Line.{Line}
use Rattle.urb_options.specs.declared.task.Line.TheVariants as line
use Rattle.urb_daemon.specs.Endings.{ShowsEnd}
use Rattle.urb_daemon.specs.Programs.{EndsLine, EndsServing}
use Rattle.urb_daemon.specs.Runs.{limits_of}
use Rattle.urb_daemon.specs.declared.serve_fault.ServeFault.{ServeFault}
use Rattle.urb_life_examples.proofs.worked.program_ends.statuses_of_the_program.Goals as goal

-- no end of a run has the status 2
not-two : (end : Result ℕ ServeFault) (before new : Option (List ℕ)) → ShowsEnd end before new 2
    → ⊥
not-two (Ok events) before new (inl h) = let two : 2 ≡ 0 = h.0 in omega (arith, two)
not-two (Ok events) before new (inr h) = let two : 2 ≡ 1 = h in omega (arith, two)
not-two (Err why) before new h = let two : 2 ≡ 1 = h.0 in omega (arith, two)

no-group : (node : Memory → ℕ) (held : ℕ → Image) (size : Limits) (old new : Option (List ℕ))
    → EndsServing memory node held size old new 2 → ⊥
no-group node held size old new (inl h) = let two : 2 ≡ 1 = h.0 in omega (arith, two)
no-group node held size old new (inr ran) = not-two ran.end ran.before new ran.shows

no-replay : (node : Memory → ℕ) (held : ℕ → Image) (asked : Line) → Some Replay ≡ Some (task_of asked)
    → EndsLine memory node held asked 4 → ⊥
no-replay node held (line.Serve serving) same ends = absurd (cc)
no-replay node held (line.Errand errand.Replay) same ends = replay-four ends
  where
    replay-four : EndsLine memory node held (line.Errand errand.Replay) 4 → ⊥
    replay-four ends = grind (arith, ends)
no-replay node held (line.Errand (errand.Submit it)) same ends = absurd (cc)
no-replay node held (line.Errand (errand.Read it)) same ends = absurd (cc)
no-replay node held (line.Errand (errand.Status it)) same ends = absurd (cc)
no-replay node held (line.Errand (errand.Publish it)) same ends = absurd (cc)
no-replay node held (line.Errand (errand.Follow it)) same ends = absurd (cc)

pub returns-clause-of_a_group_that_never_ran : goal.returns-clause-of_a_group_that_never_ran
returns-clause-of_a_group_that_never_ran c node held = inl (refl, refl)

pub returns-clause-of_no_group : goal.returns-clause-of_no_group
returns-clause-of_no_group c node held h = no-group node held _ _ _ h

pub returns-clause-of_no_line_of_a_group : goal.returns-clause-of_no_line_of_a_group
returns-clause-of_no_line_of_a_group c node held serving h =
    no-group node held (limits_of serving) h.0 h.1 h.2

pub returns-clause-of_no_replay : goal.returns-clause-of_no_replay
returns-clause-of_no_replay c node held words replays h =
    no-replay node held h.line (sym replays ∙ h.asked) h.ends
