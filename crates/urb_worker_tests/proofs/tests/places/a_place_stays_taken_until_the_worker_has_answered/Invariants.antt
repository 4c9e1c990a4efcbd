use Rattle.urb_show.specs.Lists.{lists_in}
use Rattle.urb_worker_tests.proofs.tests.places.a_place_stays_taken_until_the_worker_has_answered.Given as goal

abbrev pub ghosts-count_around : goal.ghosts-count_around
ghosts-count_around g a =
    record {
      book = a.opened.book;
      history = a.opened.history;
      base = lists_in a.opened.group;
      origin = a.opened.group;
    }
