-- Files that a kill leaves at any moment, also while a store is asked to hold a batch of records
-- ahead.
use Rattle.std.proofs.Common.{List, None, Some, [], inl, inr, length, slice_get, subst, suc, ℕ}
use Rattle.std.proofs.Common.{⊎_elim, ◌++◌, ◌<◌, ◌≡◌, ◌≤◌, ◌⊎◌}
use Rattle.sqlite.specs.Files.{HoldsDatabase}
use Rattle.sqlite_trees.specs.Tree.{Trees}
use Rattle.sqlite_wal.specs.Recovery.{Image}
use Rattle.urb_names.specs.LabelsAndContents.{Limits}
use Rattle.urb_stable.specs.AheadStores.{AheadView, ghosts_over}
use Rattle.urb_stable.specs.Entries.{Entry}
use Rattle.urb_stable.specs.StableStorage.{IsContents}
use Rattle.urb_stable.specs.StoredTogether.{IsContentsOrAll}
use Rattle.urb_stable.specs.declared.stable.Stable.{Ghosts}
use Rattle.urb_world.specs.RecoveryPlans.{after}
use Rattle.urb_world.specs.Step.{Event}
use Rattle.urb_world.specs.StoresAhead.{IsAsStored}
use Rattle.urb_world.specs.World.{World, stored}
use Rattle.urb_group.specs.GroupViews.{GroupView, IsSound, Shows}
use Rattle.urb_show.specs.Pasts.{IsLedTo}
use Rattle.urb_turn.proofs.KilledBatches.{all-or-none, killed-tails, killed-would, past-kept}
use Rattle.urb_turn.specs.KilledBatches.{AreKilledAt, IsHoldingAt, LeavesAllOrNone}
use Rattle.urb_sqlite.specs.FoundJournals.{HoldsRecords}
use Rattle.urb_folder.specs.StoppedFiles.{HasLeft, HoldsStopped}
use Rattle.urb_daemon.proofs.FilesInside.{inside_files}

module _ {S A : Type 0} (g : Ghosts S A) (opened : GroupView) (start : World) (past : List Event)
    (sound : IsSound opened) (shows : Shows opened start) where
  -- What a kill at any moment leaves in the files is what the next start takes. There is a store
  -- for each node of the group.
  pub killed_files : (stores : List (AheadView S))
      → AreKilledAt (ghosts_over g) opened start past stores
      → (may_leave : S → Trees → Type 0)
      → ((j : S) (P : List Entry → Type 0) → g.leaves_only j P → (image : Image) (db : Trees)
      → may_leave j db → HoldsDatabase image db
      → (records : List Entry) × P records × HoldsRecords image records)
      → (held : ℕ → Image) (old : GroupView) (limits : Limits)
      → IsLedTo opened past old → length old.nodes ≡ old.size.n → old.size.n ≤ limits.n
      → length old.nodes ≡ length stores
      → ((i : ℕ) (s : AheadView S) → slice_get stores i ≡ Some s
      → HoldsStopped (g.is_clean s.store) (may_leave s.store) (held (suc i)))
      → ((i : ℕ) → length stores ≤ i → i < limits.n → HoldsRecords (held (suc i)) [])
      → (v : World) × IsAsStored (after start past) v × HasLeft held old v limits
  killed_files stores killed may_leave leaves held old limits leads counted nodes places
      stopped none =
      inside_files g (after start past) stores
      (killed-would (ghosts_over g) opened start past sound shows stores killed)
      (killed-tails (ghosts_over g) opened start past sound shows stores killed)
      may_leave leaves held old limits
      (record {
        world = after start past;
        shows = leads start shows;
        kept = past-kept opened start past sound shows;
      })
      counted nodes (leads start shows) places stopped none

  -- A kill amid a batch leaves files that hold the node's records, followed by the whole batch or
  -- by none of it. Or the call was out of place.
  pub batch_files : (n : ℕ) (batch : List Entry) (before new : AheadView S)
      → IsHoldingAt (ghosts_over g) opened start past n batch before new
      → (may_leave : Trees → Type 0)
      → ((P : List Entry → Type 0) → g.leaves_only new.store P → (image : Image) (db : Trees)
      → may_leave db → HoldsDatabase image db
      → (records : List Entry) × P records × HoldsRecords image records)
      → (image : Image) → HoldsStopped (g.is_clean new.store) may_leave image
      → (new ≡ before)
      ⊎ (HoldsRecords image (stored (after start past) n)
      ⊎ HoldsRecords image (stored (after start past) n ++ batch))
  batch_files n batch before new it may_leave leaves image stopped =
      ⊎_elim (λ same. inl same) (λ left. inr (at left))
      (all-or-none g opened start past n batch before new sound shows it stopped.clean)
    where
      records : List Entry
      records = stored (after start past) n

      at : LeavesAllOrNone g (after start past) n batch new.store
          → HoldsRecords image records ⊎ HoldsRecords image (records ++ batch)
      at (inl only) =
          let has =
          leaves (IsContents (records ++ batch) None) only image stopped.db stopped.may
          stopped.holds in
          inr (subst (λ (rs : List Entry). HoldsRecords image rs) has.1 has.2)
      at (inr only) =
          let has =
          leaves (IsContentsOrAll batch records None) only image stopped.db stopped.may
          stopped.holds in
          ⊎_elim (λ e. inl (subst (λ (rs : List Entry). HoldsRecords image rs) e has.2))
          (λ e. inr (subst (λ (rs : List Entry). HoldsRecords image rs) e has.2)) has.1
