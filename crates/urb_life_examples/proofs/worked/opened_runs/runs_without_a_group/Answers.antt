-- Runs of no stores: they return no store, and no group refuses without an end.
use Rattle.std.proofs.Common.{Err, List, Ok, Result, [], false, inl, inr, refl, true, ℕ, ◌∷◌, ◌≡◌}
use Rattle.std.specs.Prelude.{Vec}
use Rattle.urb_names.specs.declared.refusal.Refusal.{Refusal}
use Rattle.urb_names.specs.declared.refusal.Refusal.TheVariants as refusal
use Rattle.urb_stable.specs.Entries.{Entry}
use Rattle.urb_stable.specs.MemoryStores.{empty_memory}
use Rattle.urb_stable.specs.declared.stable.StoreFault.{StoreFault}
use Rattle.urb_group.specs.StoreOpenings.{AllGive}
use Rattle.urb_world.specs.internal.Examples.{limits}
use Rattle.urb_folder.specs.AskedStores.{AllAnswer, OpensTogether}
use Rattle.urb_turn.specs.internal.TurnExamples.{memory}
use Rattle.urb_daemon.specs.declared.serve_fault.ServeFault.{ServeFault}
use Rattle.urb_daemon.specs.declared.serve_fault.ServeFault.TheVariants.{Unopened}
use Rattle.urb_daemon.specs.Runs.{EndsFrom}
use Rattle.urb_life_examples.proofs.worked.opened_runs.runs_without_a_group.Goals as goal

some-none : {A : Type 0} (x : A) (xs : List A) → x ∷ xs ≡ [] → ⊥
some-none x xs e = cc

ok-err : (n : ℕ) (why : ServeFault) → ◌≡◌ {A = Result ℕ ServeFault} (Ok n) (Err why) → ⊥
ok-err n why e = cc

answered : (answers : List (Result (Vec Entry (Unit {0})) StoreFault))
    → AllAnswer memory [] answers (empty_memory ∷ []) → ⊥
answered [] h = absurd h
answered (a ∷ answers) h = absurd h

gave : (images : List (List Entry)) → AllGive memory [] images (empty_memory ∷ []) → ⊥
gave [] h = absurd h
gave (image ∷ images) h = absurd h

-- no store comes back if none was asked
none-more : (why : Refusal)
    → OpensTogether memory (limits 4 10) [] (Err why) (empty_memory ∷ []) → ⊥
none-more why (inl (inl it)) = answered it.answers it.answered
none-more why (inl (inr same)) = some-none empty_memory [] same.0
none-more why (inr it) = gave it.images it.given

false-true : false ≡ true → ⊥
false-true e = cc

no-count : EndsFrom memory (limits 4 10) [] false (Ok 0) [] → ⊥
no-count (inl it) = ok-err 0 (Unopened it.why) it.ends
no-count (inr it) = false-true it.ends

pub returns-clause-without_memory : goal.returns-clause-without_memory
returns-clause-without_memory c =
    record { why = refusal.NoMemory; opens = inl (inr (refl, refl)); ends = refl }

pub returns-clause-not_with_a_store_more : goal.returns-clause-not_with_a_store_more
returns-clause-not_with_a_store_more c h = none-more h.why h.opens

pub returns-clause-not_with_a_count : goal.returns-clause-not_with_a_count
returns-clause-not_with_a_count c h = ok-err 0 (Unopened h.why) h.ends

pub returns-clause-from_no_stores : goal.returns-clause-from_no_stores
returns-clause-from_no_stores c =
    inl (record { why = refusal.NoMemory; opens = inl (inr (refl, refl)); ends = refl })

pub returns-clause-not_from_no_stores_with_a_count
    : goal.returns-clause-not_from_no_stores_with_a_count
returns-clause-not_from_no_stores_with_a_count c h = no-count h
