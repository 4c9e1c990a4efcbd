use Rattle.urb_show.specs.Lists.{lists_in}
use Rattle.urb_worker_tests.proofs.tests.strays.a_desk_says_down_of_a_job_that_did_not_run.Given as goal

abbrev pub ghosts-ask_desk : goal.ghosts-ask_desk
ghosts-ask_desk g a =
    record {
      book = a.opened.book;
      history = a.opened.history;
      base = lists_in a.opened.group;
      origin = a.opened.group;
    }
