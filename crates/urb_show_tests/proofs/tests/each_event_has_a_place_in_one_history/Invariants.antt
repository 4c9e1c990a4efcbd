use Rattle.urb_show.specs.Lists.{lists_in}
use Rattle.urb_show_tests.proofs.tests.each_event_has_a_place_in_one_history.Given as goal

-- the house that was just opened
abbrev pub ghosts-moments : goal.ghosts-moments
ghosts-moments g a =
    record {
      book = a.opened.book;
      history = a.opened.history;
      base = lists_in a.opened.group;
      origin = a.opened.group;
    }
