use Rattle.urb_show.specs.Lists.{lists_in}
use Rattle.urb_worker_tests.proofs.tests.turns.a_turn_has_replies_of_its_own.Given as goal

abbrev pub ghosts-run_other_turns : goal.ghosts-run_other_turns
ghosts-run_other_turns g a =
    record {
      book = a.opened.book;
      history = a.opened.history;
      base = lists_in a.opened.group;
      origin = a.opened.group;
    }
