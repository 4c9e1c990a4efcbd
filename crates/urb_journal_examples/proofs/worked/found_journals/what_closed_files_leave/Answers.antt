-- The store that the files are of recovers a database with something in it.
use Rattle.urb_journal_examples.proofs.worked.found_journals.what_closed_files_leave.Goals as goal

pub returns-clause-what_their_store_leaves : goal.returns-clause-what_their_store_leaves
returns-clause-what_their_store_leaves g c left both store over fewer = record {
  last = store;
  over = over;
  fewer = fewer;
}

pub returns-clause-no_other_database : goal.returns-clause-no_other_database
returns-clause-no_other_database g c left both some h =
    let it = some h.last h.over in it.2 (h.fewer it.0 it.1)
