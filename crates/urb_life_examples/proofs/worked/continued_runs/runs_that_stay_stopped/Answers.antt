-- A group of four that could not be opened again.
use Rattle.std.proofs.Common.{Err, Ok, Result, Some, [], arith, inl, refl, slice_get, suc, zero, ℕ, ◌≡◌}
use Rattle.urb_names.specs.declared.refusal.Refusal.TheVariants as refusal
use Rattle.urb_stable.specs.MemoryStores.{Memory}
use Rattle.urb_world.proofs.steps.Runs.{new-kept}
use Rattle.urb_world.specs.internal.Examples.{limits}
use Rattle.urb_group.proofs.shown.ShownWorlds.{shows-new}
use Rattle.urb_turn.specs.internal.TurnExamples.{four}
use Rattle.urb_daemon.specs.declared.serve_fault.ServeFault.{ServeFault}
use Rattle.urb_daemon.specs.declared.serve_fault.ServeFault.TheVariants.{Unopened}
use Rattle.urb_life_examples.proofs.worked.continued_runs.runs_that_stay_stopped.Goals as goal

none-at : (i : ℕ) (store : Memory) → slice_get [] i ≡ Some store → ⊥
none-at zero store e = cc
none-at (suc i) store e = cc

ok-err : (n : ℕ) (why : ServeFault) → ◌≡◌ {A = Result ℕ ServeFault} (Ok n) (Err why) → ⊥
ok-err n why e = cc

pub returns-clause-without_memory : goal.returns-clause-without_memory
returns-clause-without_memory c = record {
  why = refusal.NoMemory;
  stays = (
    record {
      sound = record { world = four; shows = shows-new (limits 4 10); kept = new-kept (limits 4 10) };
      counted = refl;
      nodes = omega (arith);
      shown = four;
      shows = shows-new (limits 4 10);
      stands = record { size = refl; nodes = λ p. inl refl };
      holds = λ i store at. absurd (none-at i store at);
    },
    λ may intact. inl refl,
  );
  ends = refl;
}

pub returns-clause-not_with_a_count : goal.returns-clause-not_with_a_count
returns-clause-not_with_a_count c h = ok-err 0 (Unopened h.why) h.ends
