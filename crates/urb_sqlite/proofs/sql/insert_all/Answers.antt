use Rattle.urb_sqlite.proofs.Common.{FillsTo, HasCleanDisk, IsFilled, IsFilling, Survives, arith}
use Rattle.urb_sqlite.proofs.Common.{rules, state, subst, sym, take_all, ◌∙◌, ◌≡◌}
use Rattle.urb_stable.proofs.AppendedElements.{take-next}
use Rattle.urb_sqlite.proofs.TableReadings.{earlier, survives_both}
use Rattle.urb_sqlite.proofs.TransactionRecords.{filled, filled_survives, filling_on}
use Rattle.urb_sqlite.proofs.sql.insert_all.Goals as goal

pub loop-entry-preserved : goal.loop-entry-preserved
loop-entry-preserved g c =
    let old = state g.S.Store c.args.conn.now in
    let mid = state g.S.Store c.loop-entry.tx.conn.now in
    let now = state g.S.Store c.insert_inside.new.tx.conn.now in
    let entries = c.args.entries.now in
    let i = c.loop-entry.entry-index in (
      c.insert_inside.ensures.same_reference ∙ c.loop-entry.invariant.0,
      survives_both old mid now c.loop-entry.invariant.1 c.insert_inside.ensures.survives,
      omega (arith, c.loop-entry.invariant.2),
      λ clean.
          let h =
          c.loop-entry.invariant.3 (earlier mid now c.insert_inside.ensures.survives clean) in
          subst (IsFilling old now c.args.place)
          (sym (take-next entries i c.entry-item.result c.loop-entry-test.true c.entry-item.is))
          (filling_on old mid now c.args.place c.loop-entry.at entries i c.entry-item.result
          c.in_ok-insert_inside.field-0 h c.loop-entry.invariant.2 c.loop-entry-test.true
          c.requires.low c.recall.ensures (c.in_ok-insert_inside.ensures.runs clean h.mode)),
    )

pub returns-clause-ok : goal.returns-clause-ok
returns-clause-ok g c clean =
    let old = state g.S.Store c.args.conn.now in
    let last = state g.S.Store c.loop-entry.tx.conn.now in
    let end = c.commit.new.self.0 in
    let same : end ≡ c.conn-2-1.given.0 = search rules in
    let late : HasCleanDisk (state g.S.Store end) = search rules in
    let h = c.loop-entry.invariant.3 (omega (arith, late, c.commit.ensures.survives.clean)) in
    let whole =
    subst (IsFilling old last c.args.place)
    (take_all c.loop-entry.entry-index c.args.entries.now c.loop-entry-test.false) h in
    subst (λ held. IsFilled old (state g.S.Store held) c.args.place c.args.entries.now) same
    (filled old last (state g.S.Store end) c.args.place c.args.entries.now whole
    (c.in_ok-commit.ensures.ok late).1)

pub returns-clause-survives : goal.returns-clause-survives
returns-clause-survives g c =
    let old = state g.S.Store c.args.conn.now in
    let last = state g.S.Store c.loop-entry.tx.conn.now in
    let end = c.commit.new.self.0 in
    let same : end ≡ c.conn-2-1.given.0 = search rules in
    subst (λ held. Survives old (state g.S.Store held) (FillsTo old c.args.place
    c.args.entries.now)) same
    (filled_survives old last (state g.S.Store end) c.args.place c.args.entries.now
    c.loop-entry.invariant.1 c.commit.ensures.survives
    (λ clean. subst (IsFilling old last c.args.place)
    (take_all c.loop-entry.entry-index c.args.entries.now c.loop-entry-test.false)
    (c.loop-entry.invariant.3 clean)))

pub returns-in_err-commit-clause-survives : goal.returns-in_err-commit-clause-survives
returns-in_err-commit-clause-survives g c =
    let old = state g.S.Store c.args.conn.now in
    let last = state g.S.Store c.loop-entry.tx.conn.now in
    let end = c.commit.new.self.0 in
    let same : end ≡ c.conn-2-1.given.0 = search rules in
    subst (λ held. Survives old (state g.S.Store held) (FillsTo old c.args.place
    c.args.entries.now)) same
    (filled_survives old last (state g.S.Store end) c.args.place c.args.entries.now
    c.loop-entry.invariant.1 c.commit.ensures.survives
    (λ clean. subst (IsFilling old last c.args.place)
    (take_all c.loop-entry.entry-index c.args.entries.now c.loop-entry-test.false)
    (c.loop-entry.invariant.3 clean)))
