use Rattle.urb_show.specs.Lists.{lists_in}
use Rattle.urb_worker_tests.proofs.tests.refusals.a_full_node_refuses_what_is_new_and_repeats_what_it_accepted.Given as goal

abbrev pub ghosts-run_session-K-HouseName : goal.ghosts-run_session-K-HouseName
ghosts-run_session-K-HouseName g a =
    record {
      book = a.opened.book;
      history = a.opened.history;
      base = lists_in a.opened.group;
      origin = a.opened.group;
    }

abbrev pub ghosts-run_session-L-Ledger : goal.ghosts-run_session-L-Ledger
ghosts-run_session-L-Ledger g a = record { name = a.blank.name; parts = a.blank.parts }
