use Rattle.urb_show.specs.Lists.{lists_in}
use Rattle.urb_show_tests.proofs.tests.readers_read_while_another_thread_writes.Given as goal

-- the house that was just opened
abbrev pub ghosts-run_readers_and_writer : goal.ghosts-run_readers_and_writer
ghosts-run_readers_and_writer g a =
    record {
      book = a.opened.book;
      history = a.opened.history;
      base = lists_in a.opened.group;
      origin = a.opened.group;
    }
