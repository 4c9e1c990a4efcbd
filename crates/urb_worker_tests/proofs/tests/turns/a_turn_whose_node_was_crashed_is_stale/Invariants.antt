use Rattle.urb_show.specs.Lists.{lists_in}
use Rattle.urb_worker_tests.proofs.tests.turns.a_turn_whose_node_was_crashed_is_stale.Given as goal

abbrev pub ghosts-run_crashed_turn : goal.ghosts-run_crashed_turn
ghosts-run_crashed_turn g a =
    record {
      book = a.opened.book;
      history = a.opened.history;
      base = lists_in a.opened.group;
      origin = a.opened.group;
    }
