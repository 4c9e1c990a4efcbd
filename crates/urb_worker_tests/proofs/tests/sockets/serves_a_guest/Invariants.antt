use Rattle.urb_show.specs.Lists.{lists_in}
use Rattle.urb_worker_tests.proofs.tests.sockets.serves_a_guest.Given as goal

abbrev pub ghosts-run_group-K-HouseName : goal.ghosts-run_group-K-HouseName
ghosts-run_group-K-HouseName g a =
    record {
      book = a.opened.book;
      history = a.opened.history;
      base = lists_in a.opened.group;
      origin = a.opened.group;
    }

abbrev pub ghosts-run_group-L-Ledger : goal.ghosts-run_group-L-Ledger
ghosts-run_group-L-Ledger g a = record { name = a.blank.name; parts = a.blank.parts }
