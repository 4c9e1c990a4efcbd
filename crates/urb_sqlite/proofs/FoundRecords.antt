-- The opening of a journal finds the records that its files hold; and files that a stop left.
use Rattle.urb_sqlite.proofs.Common.{Entry, HoldsDatabase, Image, IsBase, IsFoundIn, IsJournal}
use Rattle.urb_sqlite.proofs.Common.{LeavesOnly, List, StandsFor, [], inl, inr, sym, ⊎_elim, ◌∙◌}
use Rattle.urb_sqlite.proofs.Common.{◌≡◌, ◌⊎◌}
use Rattle.sqlite.specs.State.{State}
use Rattle.sqlite_trees.specs.Tree.{Trees}
use Rattle.urb_sqlite.proofs.StoredRows.{records_are}
use Rattle.urb_sqlite.specs.FoundJournals.{HoldsRecords}
use Rattle.urb_sqlite.specs.OpenJournal.{base_of}

-- what is found is what the files hold
pub found_as_held : (image : Image) (is_clean is_honest : Type 0) (found records : List Entry)
    → IsFoundIn image is_clean is_honest found → HoldsRecords image records → is_clean
    → is_honest × (found ≡ records)
found_as_held image is_clean is_honest found records finds (inl holds) clean =
    let base = holds.2.0 in
    let it = finds.adopted clean holds.0 holds.1 base in (
      it.0,
      sym (records_are (base_of base) found it.1)
          ∙ records_are (base_of base) records holds.2.1,
    )
found_as_held image is_clean is_honest found records finds (inr none) clean =
    let it : is_honest × (found ≡ []) =
    ⊎_elim (λ empty. finds.fresh clean empty) (λ unmade. finds.unmade clean unmade) none.0 in
    (it.0, it.1 ∙ sym none.1)

-- a journal opens in any database that has a journal
adopts : (db : Trees) → IsJournal db → IsBase db
adopts db journal =
    record {
      schema = journal.schema;
      has = (inl journal.has.0, journal.has.1);
      sound = journal.sound;
    }

-- files in which a stop left a database of this journal
pub left_as_held : (s : State) (P : List Entry → Type 0) → LeavesOnly s P → (image : Image)
    (db : Trees) → s.may_leave db → HoldsDatabase image db
    → (records : List Entry) × P records × HoldsRecords image records
unfolding adopts
left_as_held s P leaves image db may holds =
    let it = leaves db may in
    (it.1, it.3, inl (db, holds, (adopts db it.0, it.2)))
