use Rattle.urb_sqlite.proofs.Common.{HasCleanDisk, IfOk-weaker, IsHonestJournal, file_state}
use Rattle.urb_sqlite.proofs.Common.{image_of, records_of, same_image, sym, ◌∙◌, ◌≡◌}
use Rattle.std.proofs.lemmas.Bool.{true≢false}
use Rattle.urb_sqlite.proofs.JournalStops.{both_ok}
use Rattle.urb_sqlite.proofs.NodeJournals.{found_in, found_new}
use Rattle.urb_sqlite.proofs.journal_open.SqlStable+FileStore+D.open_files.Goals as goal

pub returns-then-is_blank-clause-found : goal.returns-then-is_blank-clause-found
returns-then-is_blank-clause-found g c =
    IfOk-weaker c.make_files.result _ _
    (λ s both. found_new (image_of g.D.Disk c.args.files) (HasCleanDisk (file_state s.conn))
    (IsHonestJournal (file_state s.conn)) (records_of (file_state s.conn).now)
    (λ clean. c.in-Ok.ensures.none (both.0 clean) c.if-is_blank.true) both.1)
    (both_ok c.make_files.result _ _ c.make_files.ensures.clean c.make_files.ensures.fresh)

pub returns-else-is_blank-clause-found : goal.returns-else-is_blank-clause-found
returns-else-is_blank-clause-found g c =
    let same : image_of g.D.Disk c.is_blank.new.files ≡ image_of g.D.Disk c.args.files =
    same_image c.is_blank.ensures.log c.is_blank.ensures.db in
    IfOk-weaker c.open_there.result _ _
    (λ s both. found_in _ _ (HasCleanDisk (file_state s.conn))
    (IsHonestJournal (file_state s.conn)) (records_of (file_state s.conn).now) same
    (λ clean small. true≢false
    (sym (c.in-Ok.ensures.empty (both.0 clean) small) ∙ c.if-is_blank.false)) both.1)
    (both_ok c.open_there.result _ _ c.open_there.ensures.clean c.open_there.ensures.found)
