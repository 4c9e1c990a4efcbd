use Rattle.urb_sqlite.proofs.Common.{AreAdded, LeavesOnly, arith, records_of, state, subst, sym}
use Rattle.urb_sqlite.proofs.Common.{◌++◌, ◌≡◌, ◌⊎◌}
use Rattle.urb_sqlite.proofs.TransactionRecords.{alone_added, ok-then, one-alone}
use Rattle.urb_sqlite.proofs.records.append_many.Goals as goal

pub returns-in-len1-clause-ok : goal.returns-in-len1-clause-ok
returns-in-len1-clause-ok g c step =
    let old = state g.S.Store c.args.conn.now in
    let new = state g.S.Store c.append.new.conn in
    let alone =
    one-alone c.args.entries.now c.entry-item.result (omega (arith, c.in-len1.len_at_least))
    (omega (arith, c.in-len1.len_below)) c.entry-item.is in
    ok-then c.append.result
    (λ added. subst (AreAdded old new c.args.place) (sym alone)
    (alone_added old new c.args.place c.entry-item.result added)) (c.append.ensures.ok step)

pub returns-in-len1-clause-stop : goal.returns-in-len1-clause-stop
returns-in-len1-clause-stop g c step honest clean =
    let old = state g.S.Store c.args.conn.now in
    let new = state g.S.Store c.append.new.conn in
    let alone =
    one-alone c.args.entries.now c.entry-item.result (omega (arith, c.in-len1.len_at_least))
    (omega (arith, c.in-len1.len_below)) c.entry-item.is in
    subst (λ entries. LeavesOnly new (λ records. (records ≡ records_of old.now)
    ⊎ (records ≡ records_of old.now ++ entries))) (sym alone)
    (c.append.ensures.stop step honest clean)
