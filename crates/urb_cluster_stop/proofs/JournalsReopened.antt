-- Journals that were opened again after a stop, one after the other.
use Rattle.std.proofs.Common.{List, Option, Some, [], ap, arith, length, refl, slice_get, subst}
use Rattle.std.proofs.Common.{suc, sym, zero, ℕ, ◌++◌, ◌∷◌, ◌≡◌}
use Rattle.std.specs.List.{AllByRecursion}
use Rattle.sqlite.specs.State.{State, HasCleanDisk}
use Rattle.urb_stable.specs.declared.stable.Stable.{Ghosts}
use Rattle.urb_group.specs.StoreOpenings.{AllGive}
use Rattle.urb_stable.specs.Entries.{Entry}
use Rattle.urb_stable.specs.StableStorage.{IsContents}
use Rattle.urb_group.specs.StoreContents.{IsGenuine}
use Rattle.urb_world.specs.ProcessStops.{MayLeave}
use Rattle.urb_node.specs.Part.{Node}
use Rattle.urb_sqlite.specs.OpenJournal.{IsHonestJournal, LeavesOnly}
use Rattle.urb_sqlite.specs.RowReadings.{records_of}
use Rattle.urb_cluster_stop.specs.internal.ReopenedStores.{AreReopened}
use Rattle.urb_sqlite.specs.ReopenedJournals.{IsReopened}

-- one more journal was opened again, after those that were
pub one_more_reopened : {S : Type 0} (before after : List S) (old new : S) (at : S → State)
    → AreReopened before after at → IsReopened (at old) (at new)
    → AreReopened (before ++ old ∷ []) (after ++ new ∷ []) at
one_more_reopened [] [] old new at are is = (is, tt)
one_more_reopened [] (y ∷ after) old new at are is = absurd are
one_more_reopened (x ∷ before) [] old new at are is = absurd are
one_more_reopened (x ∷ before) (y ∷ after) old new at are is =
    (are.0, one_more_reopened before after old new at are.1 is)

-- as many journals were opened again as there were
pub same_count : {S : Type 0} (before after : List S) (at : S → State) → AreReopened before after at
    → length after ≡ length before
same_count [] [] at are = refl
same_count [] (y ∷ after) at are = absurd are
same_count (x ∷ before) [] at are = absurd are
same_count (x ∷ before) (y ∷ after) at are =
    (let same = same_count before after at are.1 in omega (arith, same))

-- what a stop leaves of the journal is what it may leave of the node
abbrev pub LeavesAt : Node → State → Type 0
LeavesAt node s =
    (certain : List Entry) × (doubtful : Option Entry) × LeavesOnly s (IsContents certain doubtful)
    × ((records : List Entry) → IsContents certain doubtful records → MayLeave node records)

-- a journal that was opened again holds what the stop left of the old one
holds_again : (node : Node) (old new : State) → IsReopened old new
    → (HasCleanDisk old → LeavesAt node old) → IsHonestJournal new → (records : List Entry)
    → records ≡ records_of new.now → MayLeave node records
holds_again node old new is leaves honest records holds =
    let of = leaves (is.clean honest.clean) in
    let found = is.left honest.clean of.0 of.1 of.2 in
    subst (MayLeave node) (sym holds) (of.3 (records_of new.now) found.1)

-- a journal that is honest once it is opened again holds what a stop may leave of its node
pub all_hold : {S : Type 0} (before after : List S) (at : S → State) (nodes : ℕ → Node)
    → AreReopened before after at
    → ((i : ℕ) (store : S) → slice_get before i ≡ Some store → HasCleanDisk (at store)
    → LeavesAt (nodes i) (at store))
    → (i : ℕ) (store : S) → slice_get after i ≡ Some store → IsHonestJournal (at store)
    → (records : List Entry) → records ≡ records_of (at store).now → MayLeave (nodes i) records
all_hold [] [] at nodes are leaves i store got = absurd (cc)
all_hold [] (y ∷ after) at nodes are leaves i store got = absurd are
all_hold (x ∷ before) [] at nodes are leaves i store got = absurd are
all_hold (x ∷ before) (y ∷ after) at nodes are leaves zero store got =
    (let same : y ≡ store = cc in
    subst (λ s. IsHonestJournal (at s) → (records : List Entry)
    → records ≡ records_of (at s).now → MayLeave (nodes zero) records) same
    (holds_again (nodes zero) (at x) (at y) are.0 (leaves zero x refl)))
all_hold (x ∷ before) (y ∷ after) at nodes are leaves (suc i) store got =
    all_hold before after at (λ k. nodes (suc k)) are.1 (λ k s h. leaves (suc k) s h) i store got

-- the journals that were opened again are honest, each as far as its disk is clean
pub all_genuine : {S : Type 0} (before after : List S) (at : S → State) (nodes : ℕ → Node)
    → AreReopened before after at
    → ((i : ℕ) (store : S) → slice_get before i ≡ Some store → HasCleanDisk (at store)
    → LeavesAt (nodes i) (at store))
    → AllByRecursion (λ store. HasCleanDisk (at store) → IsHonestJournal (at store)) after
all_genuine [] [] at nodes are leaves = tt
all_genuine [] (y ∷ after) at nodes are leaves = absurd are
all_genuine (x ∷ before) [] at nodes are leaves = absurd are
all_genuine (x ∷ before) (y ∷ after) at nodes are leaves = (
  λ clean. (let of = leaves zero x refl (are.0.clean clean) in (are.0.left clean of.0 of.1 of.2).0),
  all_genuine before after at (λ k. nodes (suc k)) are.1 (λ k s h. leaves (suc k) s h),
)

-- stores that gave their records are honest if their storage is clean
pub honest-again : {S A : Type 0} (g : Ghosts S A) (before : List S) (images : List (List Entry))
    (after : List S) → AllGive g before images after
    → AllByRecursion (IsGenuine g) before → AllByRecursion g.is_clean after
    → AllByRecursion g.is_honest after
honest-again g [] [] [] gave were clean = tt
honest-again g (x ∷ before) (image ∷ images) (y ∷ after) gave were clean = (
  gave.0.trust.alive (were.0 (gave.0.trust.clean clean.0)) clean.0,
  honest-again g before images after gave.1 were.1 clean.1,
)
honest-again g [] [] (y ∷ after) gave were clean = absurd gave
honest-again g [] (image ∷ images) after gave were clean = absurd gave
honest-again g (x ∷ before) [] after gave were clean = absurd gave
honest-again g (x ∷ before) (image ∷ images) [] gave were clean = absurd gave

-- ---- lists that a loop has come through

-- the next element goes from the front of those that are left to the end of those that came
pub moved : {S : Type 0} (yielded left : List S) (x : S)
    → yielded ++ x ∷ left ≡ (yielded ++ x ∷ []) ++ left
moved [] left x = refl
moved (y ∷ yielded) left x = ap (λ zs. y ∷ zs) (moved yielded left x)

-- a list with nothing after it is the list itself
pub append-none : {S : Type 0} (xs : List S) → xs ++ [] ≡ xs
append-none [] = refl
append-none (x ∷ xs) = ap (λ zs. x ∷ zs) (append-none xs)

-- a list that has no element is empty
pub none_left : {S : Type 0} (xs : List S) (n : ℕ) → n ≡ length xs → n ≡ 0 → xs ≡ []
none_left [] n e z = refl
none_left (x ∷ xs) n e z = absurd (omega arith)
