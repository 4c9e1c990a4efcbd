use Rattle.urb_show.specs.Lists.{lists_in}
use Rattle.urb_worker_tests.proofs.tests.throttles.a_desk_waits_with_a_submit_alone.Given as goal

abbrev pub ghosts-times_in_group : goal.ghosts-times_in_group
ghosts-times_in_group g a =
    record {
      book = a.opened.book;
      history = a.opened.history;
      base = lists_in a.opened.group;
      origin = a.opened.group;
    }
