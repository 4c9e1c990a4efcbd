-- Empty files hold no database, so they hold no record.
use Rattle.std.proofs.Common.{List, [], arith, false, inl, inr, length, refl, rules, sym}
use Rattle.std.proofs.Common.{true, ℕ}
use Rattle.std.proofs.Common.{◌<◌, ◌∷◌, ◌≡◌}
use Rattle.std.specs.Prelude.{suc}
use Rattle.sqlite.specs.Files.{HoldsDatabase}
use Rattle.sqlite_trees.specs.Tree.{Trees}
use Rattle.sqlite_wal.specs.Recovery.{Image}
use Rattle.urb_node.specs.Part.{Ready}
use Rattle.urb_stable.specs.Entries.{Entry}
use Rattle.urb_names.specs.LabelsAndContents.{Label}
use Rattle.urb_names.specs.Names.{has_name, name}
use Rattle.urb_names.specs.Acknowledgements.{acked}
use Rattle.urb_stable.specs.Records.{cert}
use Rattle.urb_world.specs.RunInvariant.{AcksKept}
use Rattle.urb_world.specs.World.{stored}
use Rattle.urb_sqlite.specs.FoundJournals.{HoldsRecords}
use Rattle.urb_folder.specs.StoppedFiles.{HoldsNode}
use Rattle.urb_world.specs.internal.Examples.{node_in, pending}
use Rattle.urb_journal_examples.specs.internal.JournalValues.{no_files}
use Rattle.urb_journal_examples.proofs.worked.journal_folders.what_files_hold.Goals as goal

-- empty files hold no database
no-database : (db : Trees) → HoldsDatabase no_files db → ⊥
no-database db holds = let some : 0 < 0 = holds.2.found.found.present in omega (arith, some)

no-record : (records : List Entry) → records ≡ pending 1 1 ∷ [] → HoldsRecords no_files records → ⊥
no-record records is (inl holds) = no-database holds.0 holds.1
no-record records is (inr none) = let nothing = none.1 in absurd (cc)

not-one : HoldsNode no_files (node_in Ready (pending 1 1 ∷ [])) → ⊥
not-one h = no-record h.0 h.1 h.2

-- a node without records has counted nothing
counted : (images : ℕ → List Entry) (records : List Entry) (acks : List (Label × ℕ))
    → 0 ≡ length records
    → (has_name (cert records) (name 1 1) ≡ false → true ≡ acked acks (name 1 1) 2)
    → AcksKept images records acks → ⊥
counted images [] acks count shown kept =
    let e = (kept (name 1 1) 2 refl (sym (shown refl))).1 in absurd (cc)
counted images (r ∷ rs) acks count shown kept = absurd (cc)

holds-nothing : (image : Image) → image ≡ no_files → HoldsNode image (node_in Ready [])
holds-nothing image is = rw is ([], refl, inr (inl refl, refl))

pub returns-clause-no_empty_files_of_a_record : goal.returns-clause-no_empty_files_of_a_record
returns-clause-no_empty_files_of_a_record c h = not-one h

pub returns-clause-files_of_four : goal.returns-clause-files_of_four
returns-clause-files_of_four c held none shows = record {
  sound = search rules;
  counted = refl;
  nodes = omega arith;
  shown = _;
  shows = shows;
  stands = record { size = refl; nodes = λ p. inl refl };
  holds = λ i less. holds-nothing (held (suc i)) (none i less);
}

pub returns-clause-none_of_an_unsound_group : goal.returns-clause-none_of_an_unsound_group
returns-clause-none_of_an_unsound_group c w h =
    counted (stored h.sound.world) (h.sound.world.node 1).records (h.sound.world.node 1).acks
    (h.sound.shows.nodes 1).count ((h.sound.shows.nodes 1).acks (name 1 1) 2)
    (h.sound.kept.nodes 1).acks

pub returns-clause-no_empty_ones_of_a_record : goal.returns-clause-no_empty_ones_of_a_record
returns-clause-no_empty_ones_of_a_record c old h =
    let it = h.holds 0 (omega arith) in no-record it.0 it.1 it.2
