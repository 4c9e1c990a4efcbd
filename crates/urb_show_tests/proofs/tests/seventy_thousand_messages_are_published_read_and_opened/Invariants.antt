use Rattle.urb_show.specs.Lists.{lists_in}
use Rattle.urb_show_tests.proofs.tests.seventy_thousand_messages_are_published_read_and_opened.Given as goal

-- the new house
abbrev pub ghosts-publish_many : goal.ghosts-publish_many
ghosts-publish_many g a =
    record {
      book = a.opened.book;
      history = a.opened.history;
      base = lists_in a.opened.group;
      origin = a.opened.group;
    }

-- the house that was opened from the store
abbrev pub ghosts-go_on : goal.ghosts-go_on
ghosts-go_on g a =
    record {
      book = a.opened.book;
      history = a.opened.history;
      base = lists_in a.opened.group;
      origin = a.opened.group;
    }
