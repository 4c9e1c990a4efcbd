use Rattle.urb_show.specs.Lists.{lists_in}
use Rattle.urb_worker_tests.proofs.tests.cut_feeds.cuts_of.Given as goal

abbrev pub ghosts-count_cuts-K-HouseName : goal.ghosts-count_cuts-K-HouseName
ghosts-count_cuts-K-HouseName g a =
    record {
      book = a.opened.book;
      history = a.opened.history;
      base = lists_in a.opened.group;
      origin = a.opened.group;
    }

abbrev pub ghosts-count_cuts-L-Ledger : goal.ghosts-count_cuts-L-Ledger
ghosts-count_cuts-L-Ledger g a = record { name = a.blank.name; parts = a.blank.parts }
