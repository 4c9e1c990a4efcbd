use Rattle.urb_show.specs.Lists.{lists_in}
use Rattle.urb_worker_tests.proofs.tests.sevens.a_tick_of_seven_nodes_sends_sixteen_names_to_six.Given as goal

abbrev pub ghosts-run_ticks-K-HouseName : goal.ghosts-run_ticks-K-HouseName
ghosts-run_ticks-K-HouseName g a =
    record {
      book = a.opened.book;
      history = a.opened.history;
      base = lists_in a.opened.group;
      origin = a.opened.group;
    }

abbrev pub ghosts-run_ticks-L-Ledger : goal.ghosts-run_ticks-L-Ledger
ghosts-run_ticks-L-Ledger g a = record { name = a.blank.name; parts = a.blank.parts }
