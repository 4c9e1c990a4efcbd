use Rattle.urb_show.specs.Lists.{lists_in}
use Rattle.urb_worker_tests.proofs.tests.bursts.what_comes_while_a_store_is_held_is_delivered.Given as goal

abbrev pub ghosts-run_burst-K-HouseName : goal.ghosts-run_burst-K-HouseName
ghosts-run_burst-K-HouseName g a =
    record {
      book = a.opened.book;
      history = a.opened.history;
      base = lists_in a.opened.group;
      origin = a.opened.group;
    }

abbrev pub ghosts-run_burst-L-Ledger : goal.ghosts-run_burst-L-Ledger
ghosts-run_burst-L-Ledger g a = record { name = a.blank.name; parts = a.blank.parts }
