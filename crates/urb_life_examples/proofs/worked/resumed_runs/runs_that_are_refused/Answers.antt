-- When a group of four may start, and which refusals it may get then.
use Rattle.std.proofs.Common.{Err, Ok, Result, Some, [], arith, inl, inr, length, refl, slice_get}
use Rattle.std.proofs.Common.{subst, suc, zero, ℕ, ⊎_elim, ◌∷◌, ◌≡◌, ◌≤◌, ◌⊎◌}
use Rattle.std.proofs.lemmas.Bool.{false≢true}
use Rattle.urb_names.proofs.OrderedPairs.{has_pair-first}
use Rattle.urb_names.specs.LabelsAndContents.{Content}
use Rattle.urb_names.specs.Names.{name}
use Rattle.urb_names.specs.declared.limits.TheConstants.{MAX_PAYLOAD}
use Rattle.urb_names.specs.declared.refusal.Refusal.{Refusal}
use Rattle.urb_names.specs.declared.refusal.Refusal.TheVariants as refusal
use Rattle.urb_stable.specs.MemoryStores.{Memory, empty_memory}
use Rattle.urb_stable.specs.Records.{pend}
use Rattle.urb_world.proofs.steps.Runs.{new-kept}
use Rattle.urb_world.specs.RunInvariant.{AreShort}
use Rattle.urb_world.specs.StartLimits.{AreWithinCap, MayStartWith}
use Rattle.urb_world.specs.ProcessStops.{AlwaysLeaves}
use Rattle.urb_world.specs.StoresAhead.{IsOrStandsFor}
use Rattle.urb_world.specs.World.{stored}
use Rattle.urb_world.specs.internal.Examples.{limits, pending}
use Rattle.urb_world.specs.internal.Scripts.{message}
use Rattle.urb_group.proofs.shown.ShownWorlds.{shows-new}
use Rattle.urb_turn.specs.internal.TurnExamples.{four, one_has_stored}
use Rattle.urb_daemon.specs.declared.serve_fault.ServeFault.{ServeFault}
use Rattle.urb_daemon.specs.declared.serve_fault.ServeFault.TheVariants.{Unopened}
use Rattle.urb_life_examples.proofs.worked.resumed_runs.runs_that_are_refused.Goals as goal

none-at : (i : ℕ) (store : Memory) → slice_get [] i ≡ Some store → ⊥
none-at zero store e = cc
none-at (suc i) store e = cc

ok-err : (n : ℕ) (why : ServeFault) → ◌≡◌ {A = Result ℕ ServeFault} (Ok n) (Err why) → ⊥
ok-err n why e = cc

-- busy is none of the two refusals
not-busy : (why : Refusal)
    → ◌≡◌ {A = Result ℕ ServeFault} (Err (Unopened refusal.Busy)) (Err (Unopened why))
    → (why ≡ refusal.NoMemory) ⊎ (why ≡ refusal.Device) → ⊥
not-busy why ends (inl e) = absurd (cc)
not-busy why ends (inr e) = absurd (cc)

may-start : MayStartWith (limits 4 10) four
may-start = record { nodes = omega (arith); cap = inl (omega (arith)); majorities = inl refl }

-- a node that has accepted a message is not within a cap of none
over-cap : (10 ≤ 0) ⊎ AlwaysLeaves one_has_stored (AreWithinCap 0) → ⊥
over-cap (inl e) = omega (arith, e)
over-cap (inr always) =
    let none : 1 ≤ 0 = always (stored one_has_stored) (λ p. refl) 1 in omega (arith, none)

short-one : AreShort (pend (pending 1 1 ∷ []))
short-one x m e =
    let zero-short : 0 ≤ MAX_PAYLOAD = omega (arith) in
    ⊎_elim (λ f. subst (λ (v : Content). length v.payload ≤ MAX_PAYLOAD) f.1 zero-short)
    (λ f. absurd (false≢true f)) (has_pair-first (name 1 1, message 7 1 "") [] x m e)

-- a world in which node 1 has stored a record is the new one as its stores may have it
stands-ahead : (p : ℕ) → IsOrStandsFor four p (one_has_stored.node p)
stands-ahead zero = inl refl
stands-ahead (suc zero) = inr record {
  is = refl;
  tail = pending 1 1 ∷ [];
  may = (record { a = refl; b = refl; c = refl; d = refl }, tt);
  short = short-one;
  opened = refl;
}
stands-ahead (suc (suc p)) = inl refl

pub returns-clause-without_memory : goal.returns-clause-without_memory
returns-clause-without_memory c = record {
  why = refusal.NoMemory;
  stays = record {
    sound = record { world = four; shows = shows-new (limits 4 10); kept = new-kept (limits 4 10) };
    counted = refl;
    nodes = omega (arith);
    shown = four;
    shows = shows-new (limits 4 10);
    stands = record { size = refl; nodes = λ p. inl refl };
    holds = λ i store at. absurd (none-at i store at);
  };
  cause = λ may clean. inl refl;
  ends = refl;
}

pub returns-clause-not_with_a_count : goal.returns-clause-not_with_a_count
returns-clause-not_with_a_count c h = ok-err 0 (Unopened h.why) h.ends

pub returns-clause-not_after_a_group_without_nodes
    : goal.returns-clause-not_after_a_group_without_nodes
returns-clause-not_after_a_group_without_nodes c h =
    let four-none : 0 ≡ 4 = h.stays.counted in absurd (omega (arith, four-none))

pub returns-clause-not_as_busy : goal.returns-clause-not_as_busy
returns-clause-not_as_busy c h = not-busy h.why h.ends (h.cause may-start (λ k store less. tt))

pub returns-clause-as_busy_under_too_low_a_cap : goal.returns-clause-as_busy_under_too_low_a_cap
returns-clause-as_busy_under_too_low_a_cap c = record {
  why = refusal.Busy;
  stays = record {
    sound = record { world = four; shows = shows-new (limits 4 10); kept = new-kept (limits 4 10) };
    counted = refl;
    nodes = omega (arith);
    shown = four;
    shows = shows-new (limits 4 10);
    stands = record { size = refl; nodes = stands-ahead };
    holds = λ i store at. absurd (none-at i store at);
  };
  cause = λ may clean. absurd (over-cap may.cap);
  ends = refl;
}

pub returns-clause-as_busy_over_a_broken_store : goal.returns-clause-as_busy_over_a_broken_store
returns-clause-as_busy_over_a_broken_store c = record {
  why = refusal.Busy;
  stays = record {
    sound = record { world = four; shows = shows-new (limits 4 10); kept = new-kept (limits 4 10) };
    counted = refl;
    nodes = omega (arith);
    shown = four;
    shows = shows-new (limits 4 10);
    stands = record { size = refl; nodes = λ p. inl refl };
    holds = λ i store at honest. absurd honest;
  };
  cause = λ may clean. absurd (clean 0 empty_memory (omega (arith)));
  ends = refl;
}
