use Rattle.urb_sqlite.proofs.Common.{ap, no_doubt, ◌∙◌}
use Rattle.sqlite_store.specs.Listed.{catalog_rows}
use Rattle.sqlite_store.specs.Listing.{listed_from}
use Rattle.urb_sqlite.proofs.new_file.create_database.Goals as goal

pub returns-in-Ok-clause-fresh : goal.returns-in-Ok-clause-fresh
returns-in-Ok-clause-fresh g c clean =
    let e = c.in-Ok.ensures in
    record {
      sound = e.ready.sound (no_doubt _ clean);
      numbered = e.numbered;
      clean =
          e.ready.clean;
      unmarked = e.ready.unmarked;
    }

pub returns-in-Ok-clause-bare : goal.returns-in-Ok-clause-bare
returns-in-Ok-clause-bare g c clean =
    rw clean (catalog_rows _ _ _ ∙ ap (listed_from 0) (c.in-Ok.ensures.schema ∙ c.requires.none))
