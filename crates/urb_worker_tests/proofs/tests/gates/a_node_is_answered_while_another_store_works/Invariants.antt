use Rattle.urb_show.specs.Lists.{lists_in}
use Rattle.urb_worker_tests.proofs.tests.gates.a_node_is_answered_while_another_store_works.Given as goal

abbrev pub ghosts-two_workers-K-HouseName : goal.ghosts-two_workers-K-HouseName
ghosts-two_workers-K-HouseName g a =
    record {
      book = a.opened.book;
      history = a.opened.history;
      base = lists_in a.opened.group;
      origin = a.opened.group;
    }

abbrev pub ghosts-two_workers-L-Ledger : goal.ghosts-two_workers-L-Ledger
ghosts-two_workers-L-Ledger g a = record { name = a.blank.name; parts = a.blank.parts }
