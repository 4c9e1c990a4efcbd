use Rattle.urb_show.specs.Lists.{lists_in}
use Rattle.urb_worker_tests.proofs.tests.turns.a_job_of_another_node_does_not_run.Given as goal

abbrev pub ghosts-run_misrouted-K-HouseName : goal.ghosts-run_misrouted-K-HouseName
ghosts-run_misrouted-K-HouseName g a =
    record {
      book = a.opened.book;
      history = a.opened.history;
      base = lists_in a.opened.group;
      origin = a.opened.group;
    }

abbrev pub ghosts-run_misrouted-L-Ledger : goal.ghosts-run_misrouted-L-Ledger
ghosts-run_misrouted-L-Ledger g a = record { name = a.blank.name; parts = a.blank.parts }
