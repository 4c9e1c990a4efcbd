use Rattle.urb_show.specs.Lists.{lists_in}
use Rattle.urb_show_tests.proofs.tests.a_house_of_seven_nodes_is_opened_settled_and_read.Given as goal

-- the house that was just opened
abbrev pub ghosts-seven_nodes : goal.ghosts-seven_nodes
ghosts-seven_nodes g a =
    record {
      book = a.opened.book;
      history = a.opened.history;
      base = lists_in a.opened.group;
      origin = a.opened.group;
    }
