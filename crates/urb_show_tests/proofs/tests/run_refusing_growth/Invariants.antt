use Rattle.urb_show.specs.Lists.{lists_in}
use Rattle.urb_show_tests.proofs.tests.run_refusing_growth.Given as goal

-- the house that was just opened
abbrev pub ghosts-deliver : goal.ghosts-deliver
ghosts-deliver g a =
    record {
      book = a.opened.book;
      history = a.opened.history;
      base = lists_in a.opened.group;
      origin = a.opened.group;
    }

-- the house of the same group, opened again
abbrev pub ghosts-open_again : goal.ghosts-open_again
ghosts-open_again g a =
    record {
      book = a.opened.book;
      history = a.opened.history;
      base = lists_in a.opened.group;
      origin = a.opened.group;
    }
