use Rattle.urb_folder.proofs.Common.{IsFoundIn, subst, sym}
use Rattle.sqlite.specs.Files.{file_state}
use Rattle.sqlite.specs.State.{HasCleanDisk}
use Rattle.urb_sqlite.specs.OpenJournal.{IsHonestJournal}
use Rattle.urb_sqlite.specs.RowReadings.{records_of}
use Rattle.urb_folder.proofs.node_journal.open_claimed.Goals as goal

pub returns-in-Some-clause-found : goal.returns-in-Some-clause-found
returns-in-Some-clause-found g c =
    let held = g.D.NodeDisk.held in
    subst (λ j. IsFoundIn (held c.args.claim) (HasCleanDisk (file_state j.conn))
    (IsHonestJournal (file_state j.conn)) (records_of (file_state j.conn).now))
    (sym c.sharing-journal.ensures) c.in_ok-opened.ensures.found
