use Rattle.urb_sqlite.proofs.Common.{HasCleanDisk, IfOk, Image, IsFoundIn, IsHonestJournal}
use Rattle.urb_sqlite.proofs.Common.{file_state, records_of, same_image, subst, ◌∙◌}
use Rattle.urb_sqlite.proofs.node_journals.open_node.Goals as goal

pub returns-clause-found : goal.returns-clause-found
returns-clause-found g c =
    subst (λ (image : Image). IfOk c.open_files-2.result (λ j. IsFoundIn image
    (HasCleanDisk (file_state j.conn)) (IsHonestJournal (file_state j.conn))
    (records_of (file_state j.conn).now)))
    (same_image c.log_pages.ensures.log c.log_pages.ensures.db ∙ c.in_ok-files.ensures.held)
    c.open_files-2.ensures.found
