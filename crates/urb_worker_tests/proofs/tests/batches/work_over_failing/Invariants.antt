use Rattle.urb_show.specs.Lists.{lists_in}
use Rattle.urb_worker_tests.proofs.tests.batches.work_over_failing.Given as goal

abbrev pub ghosts-work_at-K-HouseName : goal.ghosts-work_at-K-HouseName
ghosts-work_at-K-HouseName g a =
    record {
      book = a.opened.book;
      history = a.opened.history;
      base = lists_in a.opened.group;
      origin = a.opened.group;
    }

abbrev pub ghosts-work_at-L-Ledger : goal.ghosts-work_at-L-Ledger
ghosts-work_at-L-Ledger g a = record { name = a.blank.name; parts = a.blank.parts }
