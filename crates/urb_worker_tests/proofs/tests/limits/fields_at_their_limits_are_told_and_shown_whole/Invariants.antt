use Rattle.urb_show.specs.Lists.{lists_in}
use Rattle.urb_worker_tests.proofs.tests.limits.fields_at_their_limits_are_told_and_shown_whole.Given as goal

abbrev pub ghosts-run_limits-K-HouseName : goal.ghosts-run_limits-K-HouseName
ghosts-run_limits-K-HouseName g a =
    record {
      book = a.opened.book;
      history = a.opened.history;
      base = lists_in a.opened.group;
      origin = a.opened.group;
    }

abbrev pub ghosts-run_limits-L-Ledger : goal.ghosts-run_limits-L-Ledger
ghosts-run_limits-L-Ledger g a = record { name = a.blank.name; parts = a.blank.parts }
