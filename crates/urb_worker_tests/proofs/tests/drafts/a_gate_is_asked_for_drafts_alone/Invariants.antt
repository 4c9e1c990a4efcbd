use Rattle.urb_show.specs.Lists.{lists_in}
use Rattle.urb_worker_tests.proofs.tests.drafts.a_gate_is_asked_for_drafts_alone.Given as goal

abbrev pub ghosts-run_drafts-K-HouseName : goal.ghosts-run_drafts-K-HouseName
ghosts-run_drafts-K-HouseName g a =
    record {
      book = a.opened.book;
      history = a.opened.history;
      base = lists_in a.opened.group;
      origin = a.opened.group;
    }

abbrev pub ghosts-run_drafts-L-Ledger : goal.ghosts-run_drafts-L-Ledger
ghosts-run_drafts-L-Ledger g a = record { name = a.blank.name; parts = a.blank.parts }
