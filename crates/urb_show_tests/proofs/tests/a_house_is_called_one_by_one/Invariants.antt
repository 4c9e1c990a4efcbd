use Rattle.urb_show.specs.Lists.{lists_in}
use Rattle.urb_show_tests.proofs.tests.a_house_is_called_one_by_one.Given as goal

-- the house that was just opened
abbrev pub ghosts-walk : goal.ghosts-walk
ghosts-walk g a =
    record {
      book = a.opened.book;
      history = a.opened.history;
      base = lists_in a.opened.group;
      origin = a.opened.group;
    }
