use Rattle.urb_sqlite.proofs.Common.{ap, arith, catalog_tree, file_state, inl, inr, is_place, sym}
use Rattle.urb_sqlite.proofs.Common.{view, ◌∙◌}
use Rattle.sqlite.proofs.OpenLemmas.{pool_files}
use Rattle.sqlite_trees.proofs.Doubt.{clean_of}
use Rattle.sqlite_trees.specs.Tree.{Trees}
use Rattle.sqlite_wal.specs.Reads.{are_clean}
use Rattle.urb_sqlite.proofs.JournalSchemas.{bare_schema}
use Rattle.urb_sqlite.proofs.new_file.make_database.Goals as goal

pub over-requires : goal.over-requires
over-requires g c none = c.in_ok-store.ensures.fresh (clean_of _ none)

pub returns-in-Ok-clause-honest : goal.returns-in-Ok-clause-honest
returns-in-Ok-clause-honest g c now =
    let made =
    clean_of (view c.in_ok-store.store).is_clean (omega (arith, c.in-Ok.ensures.clean)) in
    sym ((pool_files c.in_ok-it.it.pool).1
    ∙ ap (λ f. are_clean g.D.Disk f.0 f.1) c.in_ok-it.ensures.files)
    ∙ c.in_ok-store.ensures.honest made

pub returns-in-Ok-clause-bare : goal.returns-in-Ok-clause-bare
returns-in-Ok-clause-bare g c now =
    let conn = file_state c.in-Ok.conn in
    let made =
    clean_of (view c.in_ok-store.store).is_clean (omega (arith, c.in-Ok.ensures.clean)) in
    let opened = c.in-Ok.ensures.opens now in
    bare_schema conn.now.schema conn.now.trees
    (ap (λ (d : Trees). d catalog_tree) (c.in-Ok.ensures.trees now)
    ∙ c.in_ok-store.ensures.bare made)
    (opened.1 opened.0.is_open).0

pub returns-clause-fault : goal.returns-clause-fault
returns-clause-fault g c =
    elim c.fault_of.ensures.known
    [ inl memory ↦ ap is_place memory | inr device ↦ ap is_place device ]
