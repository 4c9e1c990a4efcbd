-- Runs of a group over one store in memory, which is wrapped and returned.
use Rattle.std.proofs.Common.{Err, List, Ok, Result, Some, [], ap, arith, false, inl, inr, map}
use Rattle.std.proofs.Common.{refl, slice_get, subst, suc, true, zero, ℕ, ◌+◌, ◌-◌, ◌<◌, ◌^◌, ◌∙◌}
use Rattle.std.proofs.Common.{◌∷◌, ◌≡◌, ◌≤◌, ◌⊎◌}
use Rattle.std.specs.Prelude.{Vec}
use Rattle.urb_names.specs.declared.refusal.Refusal.{Refusal}
use Rattle.urb_names.specs.declared.refusal.Refusal.TheVariants as refusal
use Rattle.urb_stable.specs.AheadStores.{AheadView, IsSound, fresh, ghosts_over}
use Rattle.urb_stable.specs.Entries.{Entry}
use Rattle.urb_stable.specs.MemoryStores.{Memory, empty_memory}
use Rattle.urb_stable.specs.RetrievedRecords.{Gives}
use Rattle.urb_stable.specs.StableStorage.{list_in}
use Rattle.urb_stable.specs.declared.stable.Stable.{Ghosts}
use Rattle.urb_stable.specs.declared.stable.StoreFault.{StoreFault}
use Rattle.urb_group.specs.StoreOpenings.{AllGive}
use Rattle.urb_world.specs.MemoryStores.{in_memory}
use Rattle.urb_world.specs.internal.Examples.{limits}
use Rattle.urb_folder.specs.AskedStores.{AllAnswer, OpensTogether}
use Rattle.urb_daemon.proofs.AheadRuns.{fresh_sound}
use Rattle.urb_daemon.specs.Runs.{EndsFrom}
use Rattle.urb_daemon.specs.declared.serve_fault.ServeFault.{ServeFault}
use Rattle.urb_daemon.specs.declared.serve_fault.ServeFault.TheVariants.{Unopened}
use Rattle.urb_daemon.proofs.worked.runs_ahead.runs_over_wrapped_stores.Goals as goal

abbrev memory : Ghosts Memory (Unit {0})
memory = in_memory (Unit {0})

abbrev outer : Ghosts (AheadView Memory) (Unit {0})
outer = ghosts_over memory

-- ---- what is left of one store

-- the store of a run that opened no group: it is as it was, or it was asked for its records
abbrev IsLeft : Memory → AheadView Memory → Type 0
IsLeft m s =
    (s ≡ fresh memory m)
    ⊎ ((answer : Result (List Entry) StoreFault) × Gives outer (fresh memory m) answer s)

-- just this store is left
record LeavesOne (m : Memory) (lasts : List (AheadView Memory)) : Type 0 where
  last : AheadView Memory
  one : lasts ≡ last ∷ []
  is : IsLeft m last

answered : (m : Memory) (answers : List (Result (Vec Entry (Unit {0})) StoreFault))
    (lasts : List (AheadView Memory)) → AllAnswer outer (fresh memory m ∷ []) answers lasts
    → LeavesOne m lasts
answered m [] lasts h = absurd h
answered m (a ∷ answers) [] h = absurd h
answered m (a ∷ []) (s ∷ []) h =
    record { last = s; one = refl; is = inr (list_in a, h.0) }
answered m (a ∷ []) (s ∷ t ∷ more) h = absurd h.1
answered m (a ∷ b ∷ answers) (s ∷ lasts) h = absurd h.1

gave : (m : Memory) (images : List (List Entry)) (lasts : List (AheadView Memory))
    → AllGive outer (fresh memory m ∷ []) images lasts → LeavesOne m lasts
gave m [] lasts h = absurd h
gave m (a ∷ images) [] h = absurd h
gave m (a ∷ []) (s ∷ []) h = record { last = s; one = refl; is = inr (Ok a, h.0) }
gave m (a ∷ []) (s ∷ t ∷ more) h = absurd h.1
gave m (a ∷ b ∷ images) (s ∷ lasts) h = absurd h.1

unopened : (m : Memory) (why : Refusal) (lasts : List (AheadView Memory))
    → OpensTogether outer (limits 4 10) (fresh memory m ∷ []) (Err why) lasts → LeavesOne m lasts
unopened m why lasts (inl (inl it)) = answered m it.answers lasts it.answered
unopened m why lasts (inl (inr same)) =
    record { last = fresh memory m; one = same.0; is = inl refl }
unopened m why lasts (inr it) = gave m it.images lasts it.given

one-left : (m : Memory) (why : Refusal) (lasts : List (AheadView Memory))
    → EndsFrom outer (limits 4 10) (fresh memory m ∷ []) false (Err (Unopened why)) lasts
    → LeavesOne m lasts
one-left m why lasts (inl it) = unopened m it.why lasts it.opens
one-left m why lasts (inr it) = absurd it.ends

-- ---- the clauses

ok-err : (n : ℕ) (fault : ServeFault) → ◌≡◌ {A = Result ℕ ServeFault} (Ok n) (Err fault) → ⊥
ok-err n fault e = cc

false-true : false ≡ true → ⊥
false-true e = cc

-- no run ends with a count if its opening was not reported
unreported : (stores lasts : List (AheadView Memory))
    → EndsFrom outer (limits 4 10) stores false (Ok 0) lasts → ⊥
unreported stores lasts (inl it) = ok-err 0 (Unopened it.why) it.ends
unreported stores lasts (inr it) = false-true it.ends

none-some : {T : Type 0} (x : T) (xs : List T) → [] ≡ x ∷ xs → ⊥
none-some x xs e = cc

one-store : (m : Memory) (s : AheadView Memory) → m ∷ [] ≡ s.store ∷ [] → m ≡ s.store
one-store m s e = cc

pub returns-clause-without_memory : goal.returns-clause-without_memory
returns-clause-without_memory c = record {
  lasts = fresh memory empty_memory ∷ [];
  order = record {
    asked = fresh memory empty_memory ∷ [];
    first = (inl refl, tt);
    then = inl refl;
  };
  ends = inl (record { why = refusal.NoMemory; opens = inl (inr (refl, refl)); ends = refl });
  goes_on = λ old w stopped. inl (record {
    why = refusal.NoMemory;
    stays = (stopped, λ may intact. inl refl);
    ends = refl;
  });
  sound = λ i s got. at i s got;
  closes = refl;
}
  where
    at : (i : ℕ) (s : AheadView Memory)
        → slice_get (fresh memory empty_memory ∷ []) i ≡ Some s → IsSound memory s
    at zero s got =
        let same : fresh memory empty_memory ≡ s = cc in
        subst (λ (x : AheadView Memory). IsSound memory x) same (fresh_sound memory empty_memory)
    at (suc i) s got = absurd (cc)

pub returns-clause-that_loses_its_store : goal.returns-clause-that_loses_its_store
returns-clause-that_loses_its_store c h =
    let left = one-left empty_memory refusal.NoMemory h.lasts h.ends in
    none-some left.last.store []
    (h.closes
    ∙ ap (λ (lasts : List (AheadView Memory)). map (λ (s : AheadView Memory). s.store) lasts)
    left.one)

pub returns-clause-that_ends_unreported : goal.returns-clause-that_ends_unreported
returns-clause-that_ends_unreported c h = unreported _ h.lasts h.ends

-- a store that had failed more often than a store over it can count
abbrev worn : Memory
worn = record empty_memory { failures = 2 ^ 64 }

-- it doesn't come back without its failures
not-mended : (s : AheadView Memory) → IsSound memory s → IsLeft worn s → empty_memory ≡ s.store → ⊥
not-mended s sound (inl same) e =
    let none : 0 ≡ 2 ^ 64 =
    ap (λ (m : Memory). m.failures) e ∙ ap (λ (x : AheadView Memory). x.store.failures) same in
    absurd (omega (arith, none))
not-mended s sound (inr (answer, gives)) e =
    let none : 0 ≡ s.store.failures = ap (λ (m : Memory). m.failures) e in
    let grows : 2 ^ 64 + 0 ≤ s.store.failures + s.failures = gives.counts.grows in
    absurd (omega (arith, none, grows, sound.bounded))

pub returns-clause-that_forgets_failures : goal.returns-clause-that_forgets_failures
returns-clause-that_forgets_failures c h =
    let left = one-left worn refusal.NoMemory h.lasts h.ends in
    not-mended left.last
    (h.sound 0 left.last
    (ap (λ (lasts : List (AheadView Memory)). slice_get lasts 0) left.one))
    left.is
    (one-store empty_memory left.last
    (h.closes
    ∙ ap (λ (lasts : List (AheadView Memory)). map (λ (s : AheadView Memory). s.store) lasts)
    left.one))
