-- A run over journals that were found in files a stop had left. Each journal was wrapped in a store
-- that may hold records ahead of its node.
use Rattle.std.proofs.Common.{Bool, List, None, Result, Some, [], length, map, refl, subst, suc}
use Rattle.std.proofs.Common.{false, true, zero, ℕ, ◌∙◌, ◌∷◌, ◌≡◌}
use Rattle.std.proofs.lemmas.List.{length-map}
use Rattle.std.specs.Prelude.{slice_get}
use Rattle.urb_names.specs.LabelsAndContents.{Limits}
use Rattle.urb_stable.specs.AheadStores.{AheadView, IsWhole, fresh, ghosts_over}
use Rattle.urb_stable.specs.Entries.{Entry}
use Rattle.urb_stable.specs.declared.stable.Stable.{Ghosts}
use Rattle.urb_group.specs.GroupViews.{GroupView}
use Rattle.urb_turn.specs.NodeStores.{HoldNoneAhead}
use Rattle.urb_world.specs.World.{World}
use Rattle.sqlite_wal.specs.Recovery.{Image}
use Rattle.urb_sqlite.specs.FoundJournals.{AreFoundIn, IsFoundIn}
use Rattle.urb_folder.specs.StoppedFiles.{HasLeft}
use Rattle.urb_daemon.proofs.ResumedRuns.{resumes_found}
use Rattle.urb_daemon.specs.RunsAfterStop.{Resumes}
use Rattle.urb_daemon.specs.RunsAhead.{RanAhead}
use Rattle.urb_daemon.specs.declared.serve_fault.ServeFault.{ServeFault}

-- an honest store is clean, whether it is failing or not
clean_if : (failing : Bool) (was_honest is_clean is_honest : Type 0) → (is_honest → is_clean)
    → IsWhole failing was_honest is_clean is_honest → is_clean
clean_if true was_honest is_clean is_honest cleans whole = whole.1
clean_if false was_honest is_clean is_honest cleans whole = cleans whole

module _ {S A : Type 0} (g : Ghosts S A) where
  -- each element of the wrapped list is a wrapped store
  wrapped_at : (P : ℕ → AheadView S → Type 0) (from : ℕ → ℕ) (stores : List S)
      → ((i : ℕ) (store : S) → slice_get stores i ≡ Some store → P (from i) (fresh g store))
      → (i : ℕ) (s : AheadView S) → slice_get (map (fresh g) stores) i ≡ Some s → P (from i) s
  wrapped_at P from [] each i s got = absurd (cc)
  wrapped_at P from (store ∷ stores) each zero s got =
      let same : fresh g store ≡ s = cc in
      subst (λ x. P (from zero) x) same (each zero store refl)
  wrapped_at P from (store ∷ stores) each (suc i) s got =
      wrapped_at P (λ j. from (suc j)) stores (λ j x at. each (suc j) x at) i s got

  -- stores that were just wrapped hold nothing ahead
  pub none_ahead : (stores : List S) → HoldNoneAhead (ghosts_over g) (map (fresh g) stores)
  none_ahead stores =
      wrapped_at (λ i s. s.ahead ≡ []) (λ i. i) stores (λ i store got. refl)

  -- they were found in the same files
  pub found_wrapped : (held : ℕ → Image) (journals : List S) → AreFoundIn g held journals
      → AreFoundIn (ghosts_over g) held (map (fresh g) journals)
  found_wrapped held journals found =
      wrapped_at (λ i s. IsFoundIn (held (suc i)) ((ghosts_over g).is_clean s)
      ((ghosts_over g).is_honest s) ((ghosts_over g).certain s)) (λ i. i) journals
      (λ i journal got. found i journal got)

  -- If honest journals are clean and have no record in doubt, a run over wrapped journals resumes.
  pub resumes_ahead : (held : ℕ → Image) (size : Limits) (journals : List S) (told : Bool)
      (end : Result ℕ ServeFault) (closed : List S) (ran : RanAhead g size journals told end closed)
      → AreFoundIn g held journals → length journals ≡ size.n
      → ((j : S) → g.is_honest j → g.is_clean j) → ((j : S) → g.doubt j ≡ None)
      → (old : GroupView) (w : World) → HasLeft held old w size
      → Resumes (ghosts_over g) old w size (map (fresh g) journals) told end ran.lasts
  resumes_ahead held size journals told end closed ran found count cleans sure =
      resumes_found (ghosts_over g) held size (map (fresh g) journals) told end ran.lasts
      ran.goes_on (found_wrapped held journals found) (length-map journals (fresh g) ∙ count)
      (λ s honest.
      clean_if s.failing (g.is_honest s.start) (g.is_clean s.store) (g.is_honest s.store)
      (cleans s.store) honest)
      (λ s. sure s.store) (none_ahead journals)
