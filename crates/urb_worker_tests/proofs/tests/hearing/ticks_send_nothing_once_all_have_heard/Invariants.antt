use Rattle.urb_show.specs.Lists.{lists_in}
use Rattle.urb_worker_tests.proofs.tests.hearing.ticks_send_nothing_once_all_have_heard.Given as goal

abbrev pub ghosts-run_until_quiet-K-HouseName : goal.ghosts-run_until_quiet-K-HouseName
ghosts-run_until_quiet-K-HouseName g a =
    record {
      book = a.opened.book;
      history = a.opened.history;
      base = lists_in a.opened.group;
      origin = a.opened.group;
    }

abbrev pub ghosts-run_until_quiet-L-Ledger : goal.ghosts-run_until_quiet-L-Ledger
ghosts-run_until_quiet-L-Ledger g a = record { name = a.blank.name; parts = a.blank.parts }
