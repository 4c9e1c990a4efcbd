-- A run over files that a stop had left resumes from the world before the stop.
use Rattle.std.proofs.Common.{Bool, List, None, Ok, Result, Some, [], ap, arith, inl, inr, subst}
use Rattle.std.proofs.Common.{suc, sym, zero, ℕ, ◌<◌, ◌∙◌, ◌∷◌, ◌≡◌, ◌≤◌}
use Rattle.std.proofs.lemmas.List.Elements.{recursion_from_All}
use Rattle.std.specs.List.{All, AllByRecursion}
use Rattle.std.specs.Prelude.{length, slice_get}
use Rattle.urb_names.specs.LabelsAndContents.{Limits}
use Rattle.urb_stable.specs.Entries.{Entry}
use Rattle.urb_stable.specs.StableStorage.{IsContents}
use Rattle.urb_stable.specs.declared.stable.Stable.{Ghosts}
use Rattle.urb_group.proofs.stops.OpenedClusters.{given-count}
use Rattle.urb_group.proofs.stops.SecuredClusters.{read-honest}
use Rattle.urb_group.proofs.shown.AgreeingWorlds.{sound-kept}
use Rattle.urb_group.proofs.stops.StockedPlays.{chosen-left}
use Rattle.urb_group.proofs.stops.StoredWorlds.{outside-stored, stored-kept}
use Rattle.urb_group.specs.GroupCalls.{Opens}
use Rattle.urb_group.specs.GroupViews.{GroupView, IsSound, Shows}
use Rattle.urb_group.specs.StoreContents.{AreChosen, IsKnown, WouldLeave, WouldLeaveAhead}
use Rattle.urb_group.specs.StoreOpenings.{AllGive, HasStopped}
use Rattle.urb_world.specs.StoresAhead.{IsAsStored}
use Rattle.urb_world.specs.World.{World}
use Rattle.urb_turn.specs.NodeStores.{HoldNoneAhead}
use Rattle.sqlite.specs.Files.{HoldsDatabase}
use Rattle.sqlite_trees.specs.Tree.{Trees}
use Rattle.sqlite_wal.specs.Recovery.{Image}
use Rattle.urb_sqlite.specs.FoundJournals.{AreFoundIn, HoldsRecords}
use Rattle.urb_folder.proofs.StoppedFiles.{ahead_files, known_files, left_files, stopped_files}
use Rattle.urb_folder.specs.StoppedFiles.{HasLeft, HoldsStopped}
use Rattle.urb_daemon.proofs.Lives.{kept-goes-on}
use Rattle.urb_daemon.specs.Lives.{OpensAfter}
use Rattle.urb_daemon.specs.declared.serve_fault.ServeFault.{ServeFault}
use Rattle.urb_daemon.specs.RunsAfterStop.{EndsAfterStop, Resumes}

-- each list is one that its store may have held
given-chosen : {S A : Type 0} (g : Ghosts S A) (stores : List S) (images : List (List Entry))
    (asked : List S) → AllGive g stores images asked → AllByRecursion (IsKnown g) stores
    → AllByRecursion g.is_clean asked
    → (i : ℕ) (store : S) (image : List Entry) → slice_get stores i ≡ Some store
    → slice_get images i ≡ Some image
    → g.is_honest store × IsContents (g.certain store) (g.doubt store) image
given-chosen g [] [] [] h known clean i store image e f = absurd (cc)
given-chosen {S} g (s ∷ stores) (im ∷ images) (a ∷ asked) h known clean zero store image e f =
    let one : s ≡ store = cc in
    let two : im ≡ image = cc in
    let honest = read-honest g s a im h.0 known.0 clean.0 in
    subst (λ (t : S). g.is_honest t × IsContents (g.certain t) (g.doubt t) image) one
    (subst (λ (records : List Entry). g.is_honest s
    × IsContents (g.certain s) (g.doubt s) records) two
    (h.0.trust.honest honest, (h.0.retrieved honest).given.1))
given-chosen g (s ∷ stores) (im ∷ images) (a ∷ asked) h known clean (suc i) store image e f =
    given-chosen g stores images asked h.1 known.1 clean.1 i store image e f
given-chosen g _ _ _ h known clean i store image e f = absurd h

-- what such stores gave opens a group after the stop
opens-given : {S A : Type 0} (g : Ghosts S A) (old : GroupView) (w : World) (size : Limits)
    (stores : List S) (images : List (List Entry)) (asked : List S) (group : GroupView)
    → HasStopped g old w size stores → length stores ≡ size.n → AllGive g stores images asked
    → All (IsKnown g) stores → Opens size images (Ok group) → IsSound group
    → All g.is_clean asked → OpensAfter w size images group
opens-given g old w size stores images asked group stopped count given known opens sound clean =
    record {
      nodes = more;
      one_each = chosen.one_each ∙ count;
      left =
          chosen-left g old w stores images
          (outside-stored old stopped.shown w stopped.shows stopped.counted stopped.stands)
          stopped.holds
          (omega (arith, count, stopped.counted, stopped.nodes)) chosen;
      fits = opens.0;
      sound = sound;
      shows = opens.1;
    }
  where
    more : w.size.n ≤ size.n
    more =
        let same =
        ap (λ (l : Limits). l.n) (stopped.shows.size ∙ sym stopped.stands.size) in
        omega (arith, same, stopped.nodes)

    chosen : AreChosen g stores images
    chosen =
        record {
          one_each = given-count g stores images asked given;
          each =
              given-chosen g stores images asked given
              (recursion_from_All (IsKnown g) stores known)
              (recursion_from_All g.is_clean asked clean);
        }

-- a run over stores that hold what a stop left and nothing ahead, and that are honest or shut by a
-- failure
pub resumes : {S A : Type 0} (g : Ghosts S A) (old : GroupView) (w : World) (size : Limits)
    (stores : List S) (told : Bool) (end : Result ℕ ServeFault) (lasts : List S)
    → length stores ≡ size.n → HasStopped g old w size stores → All (IsKnown g) stores
    → HoldNoneAhead g stores → EndsAfterStop g old w size stores told end lasts
    → Resumes g old w size stores told end lasts
resumes g old w size stores told end lasts count stopped known none (inl e) =
    inl (record {
      why = e.why;
      stays = e.stays.0;
      cause = λ may clean. e.stays.1 may (inr (known, clean));
      ends = e.ends;
    })
resumes g old w size stores told end lasts count stopped known none (inr e) =
    inr (record {
      group = e.group;
      asked = e.asked;
      opens = e.opens;
      after = after;
      goes_on = λ clean. kept-goes-on w size e.opens.images e.group
          (stored-kept stopped.shown w stopped.stands
          (sound-kept old stopped.shown stopped.sound stopped.shows))
          (after clean);
      served = e.served;
      leaves = e.leaves known none;
      ends = e.ends;
    })
  where
    after : All g.is_clean e.asked → OpensAfter w size e.opens.images e.group
    after =
        opens-given g old w size stores e.opens.images e.asked e.group stopped count e.opens.given
        known e.opens.opens e.sound

-- a run over journals that were found in files
pub resumes_found : {S A : Type 0} (g : Ghosts S A) (held : ℕ → Image) (size : Limits)
    (journals : List S) (told : Bool) (end : Result ℕ ServeFault) (lasts : List S)
    → ((old : GroupView) (w : World) → HasStopped g old w size journals
    → EndsAfterStop g old w size journals told end lasts)
    → AreFoundIn g held journals → length journals ≡ size.n
    → ((j : S) → g.is_honest j → g.is_clean j) → ((j : S) → g.doubt j ≡ None)
    → HoldNoneAhead g journals
    → (old : GroupView) (w : World) → HasLeft held old w size
    → Resumes g old w size journals told end lasts
resumes_found g held size journals told end lasts goes_on found count cleans sure none old w left =
    let stopped = stopped_files g cleans sure held old w size journals count found left in
    resumes g old w size journals told end lasts count stopped
    (known_files g cleans sure held old w size journals count found left) none
    (goes_on old w stopped)

-- files in which a stop left what it may leave of the nodes
pub left_over : {S A : Type 0} (g : Ghosts S A) (w : World) (journals : List S)
    → WouldLeave g w journals → (may_leave : S → Trees → Type 0)
    → ((j : S) (P : List Entry → Type 0) → g.leaves_only j P → (image : Image) (db : Trees)
    → may_leave j db → HoldsDatabase image db
    → (records : List Entry) × P records × HoldsRecords image records)
    → (held : ℕ → Image) (old : GroupView) (size : Limits)
    → IsSound old → length old.nodes ≡ old.size.n → old.size.n ≤ size.n → Shows old w
    → length old.nodes ≤ length journals
    → ((i : ℕ) (j : S) → slice_get journals i ≡ Some j
    → HoldsStopped (g.is_clean j) (may_leave j) (held (suc i)))
    → ((i : ℕ) → length journals ≤ i → i < size.n → HoldsRecords (held (suc i)) [])
    → HasLeft held old w size
left_over g w journals would may_leave leaves held old size sound counted nodes shows places stopped
    none =
    left_files g may_leave leaves held old w size journals sound counted nodes shows places would
    stopped none

-- A stop left these files while stores were ahead of their nodes. They fit the world whose nodes are
-- as their stores have them.
pub ahead_over : {S A : Type 0} (g : Ghosts S A) (w : World) (journals : List S)
    → WouldLeaveAhead g w journals → (may_leave : S → Trees → Type 0)
    → ((j : S) (P : List Entry → Type 0) → g.leaves_only j P → (image : Image) (db : Trees)
    → may_leave j db → HoldsDatabase image db
    → (records : List Entry) × P records × HoldsRecords image records)
    → (held : ℕ → Image) (old : GroupView) (size : Limits)
    → IsSound old → length old.nodes ≡ old.size.n → old.size.n ≤ size.n → Shows old w
    → length old.nodes ≤ length journals
    → ((i : ℕ) (j : S) → slice_get journals i ≡ Some j
    → HoldsStopped (g.is_clean j) (may_leave j) (held (suc i)))
    → ((i : ℕ) → length journals ≤ i → i < size.n → HoldsRecords (held (suc i)) [])
    → (v : World) × IsAsStored w v × HasLeft held old v size
ahead_over g w journals would may_leave leaves held old size sound counted nodes shows places
    stopped none =
    ahead_files g may_leave leaves held old w size journals sound counted nodes shows places would
    stopped none
