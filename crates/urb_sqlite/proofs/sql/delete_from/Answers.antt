use Rattle.urb_sqlite.proofs.Common.{HasCleanDisk, Survives, arith, rules, state, subst, ◌≡◌}
use Rattle.urb_sqlite.specs.internal.TransactionChanges.{EmptiesTo, IsBegun, IsEmptied, IsEmptying}
use Rattle.sqlite.proofs.Callers.{survives_begin}
use Rattle.urb_sqlite.proofs.TakenRecords.{emptied, emptied_survives, emptying}
use Rattle.urb_sqlite.proofs.sql.delete_from.Goals as goal

pub returns-clause-ok : goal.returns-clause-ok
returns-clause-ok g c clean =
    let old = state g.S.Store c.args.conn.now in
    let mid = state g.S.Store c.transaction-change.result.conn.now in
    let last = state g.S.Store c.delete_inside.new.tx.conn.now in
    let end = c.commit.new.self.0 in
    let same : end ≡ c.conn-2-1.given.0 = search rules in
    let late : HasCleanDisk (state g.S.Store end) = search rules in
    let begun : IsBegun old mid = search rules in
    let count : c.in_ok-gone.gone ≡ c.args.count = search rules in
    let went : IsEmptying old last c.args.first c.args.count =
    subst (IsEmptying old last c.args.first) count
    (emptying old mid last c.args.first c.in_ok-gone.gone begun c.requires.apart
    (c.in_ok-gone.ensures.runs (omega (arith, late, c.commit.ensures.survives.clean))
    (search rules))) in
    subst (λ held. IsEmptied old (state g.S.Store held) c.args.first c.args.count) same
    (emptied old last (state g.S.Store end) c.args.first c.args.count went
    (c.in_ok-commit.ensures.ok late).1)

pub returns-clause-survives : goal.returns-clause-survives
returns-clause-survives g c =
    let old = state g.S.Store c.args.conn.now in
    let mid = state g.S.Store c.transaction-change.result.conn.now in
    let last = state g.S.Store c.delete_inside.new.tx.conn.now in
    let end = c.commit.new.self.0 in
    let same : end ≡ c.conn-2-1.given.0 = search rules in
    let begun : IsBegun old mid = search rules in
    let count : c.in_ok-gone.gone ≡ c.args.count = search rules in
    let one : Survives old last (λ _. ⊥) =
    survives_begin g.S.Store c.args.conn.now last (λ _. ⊥)
    (subst (λ held. Survives (state g.S.Store held) last (λ _. ⊥))
    c.transaction-change.ensures.begun
    c.delete_inside.ensures.survives) in
    subst (λ held. Survives old (state g.S.Store held) (EmptiesTo old c.args.first c.args.count))
    same
    (emptied_survives old last (state g.S.Store end) c.args.first c.args.count one
    c.commit.ensures.survives
    (λ clean. subst (IsEmptying old last c.args.first) count
    (emptying old mid last c.args.first c.in_ok-gone.gone begun c.requires.apart
    (c.in_ok-gone.ensures.runs clean (search rules)))))

pub returns-in_err-commit-clause-survives : goal.returns-in_err-commit-clause-survives
returns-in_err-commit-clause-survives g c =
    let old = state g.S.Store c.args.conn.now in
    let mid = state g.S.Store c.transaction-change.result.conn.now in
    let last = state g.S.Store c.delete_inside.new.tx.conn.now in
    let end = c.commit.new.self.0 in
    let same : end ≡ c.conn-2-1.given.0 = search rules in
    let begun : IsBegun old mid = search rules in
    let count : c.in_ok-gone.gone ≡ c.args.count = search rules in
    let one : Survives old last (λ _. ⊥) =
    survives_begin g.S.Store c.args.conn.now last (λ _. ⊥)
    (subst (λ held. Survives (state g.S.Store held) last (λ _. ⊥))
    c.transaction-change.ensures.begun
    c.delete_inside.ensures.survives) in
    subst (λ held. Survives old (state g.S.Store held) (EmptiesTo old c.args.first c.args.count))
    same
    (emptied_survives old last (state g.S.Store end) c.args.first c.args.count one
    c.commit.ensures.survives
    (λ clean. subst (IsEmptying old last c.args.first) count
    (emptying old mid last c.args.first c.in_ok-gone.gone begun c.requires.apart
    (c.in_ok-gone.ensures.runs clean (search rules)))))
