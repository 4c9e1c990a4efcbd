use Rattle.urb_sqlite.proofs.Common.{Entry, HasCleanDisk, IsHonestJournal, IsInStep, IsSafeAtRest}
use Rattle.urb_sqlite.proofs.Common.{LeavesOnly, List, OpenJournal, [], append-nil, arith, inr}
use Rattle.urb_sqlite.proofs.Common.{length, records_of, state, subst, sym, ◌++◌, ◌+◌, ◌-◌, ◌∙◌}
use Rattle.urb_sqlite.proofs.Common.{◌≡◌, ◌⊎◌}
use Rattle.urb_sqlite.proofs.KeptRecords.{stops_now}
use Rattle.urb_sqlite.proofs.journal.SqlStableStable.withdraw.Goals as goal

-- no record is to be taken out: nothing is called
pub returns-then-count-eq0-clause-withdraws : goal.returns-then-count-eq0-clause-withdraws
returns-then-count-eq0-clause-withdraws g c =
    let rest : IsSafeAtRest (state g.S.Store c.args.self.now.conn) =
    subst (λ (s : OpenJournal _). IsSafeAtRest (state g.S.Store s.conn)) c.self.view_is
    (stops_now (state g.S.Store c.self.inside.conn) c.self.inside.next c.self.invariant
    (λ is_open db. g.met.S.Store.settled c.self.inside.conn.store db is_open)
    c.schema.ensures.live) in
    record {
      withdrawn = λ honest. record {
        taken = ([], sym (append-nil _), omega (arith, c.if-count-eq0.true));
        failed = tt;
      };
      stop = λ honest clean kept gone whole size db left.
          let it = rest honest db left in
          (it.0, it.1, it.2, inr (it.3 ∙ whole));
      rest = rest;
    }

pub returns-in-Ok-clause-withdraws : goal.returns-in-Ok-clause-withdraws
returns-in-Ok-clause-withdraws g c =
    let new = state g.S.Store c.remove_last.new.conn in
    let whole : c.self.inside.next ≡ c.self.inside.next - c.args.count + c.args.count =
    omega (arith, c.if-self-count.false) in
    let step =
    subst (IsInStep (state g.S.Store c.self.inside.conn)) whole c.self.invariant in
    record {
      withdrawn = λ honest. record {
        taken =
            subst (λ (s : OpenJournal _). (gone : List Entry)
            × (records_of (state g.S.Store s.conn).now ≡ records_of new.now ++ gone)
            × (length gone ≡ c.args.count)) c.self.view_is
            ((c.in-Ok.ensures.ok step).records honest);
        failed = tt;
      };
      stop =
          subst (λ (s : OpenJournal _). IsHonestJournal (state g.S.Store s.conn)
          → HasCleanDisk new → (kept gone : List Entry)
          → records_of (state g.S.Store s.conn).now ≡ kept ++ gone → length gone ≡ c.args.count
          → LeavesOnly new (λ records. (records ≡ kept) ⊎ (records ≡ kept ++ gone)))
          c.self.view_is (c.remove_last.ensures.stop step);
      rest = c.remove_last.ensures.rest step;
    }

pub returns-in-Err-clause-withdraws : goal.returns-in-Err-clause-withdraws
returns-in-Err-clause-withdraws g c placed =
    let new = state g.S.Store c.remove_last.new.conn in
    let whole : c.self.inside.next ≡ c.self.inside.next - c.args.count + c.args.count =
    omega (arith, c.if-self-count.false) in
    let step =
    subst (IsInStep (state g.S.Store c.self.inside.conn)) whole c.self.invariant in
    record {
      withdrawn = λ honest. record {
        taken = tt;
        failed =
            subst (λ (s : OpenJournal _). records_of new.now
            ≡ records_of (state g.S.Store s.conn).now) c.self.view_is
            ((c.in-Err.ensures.err step).records honest);
      };
      stop =
          subst (λ (s : OpenJournal _). IsHonestJournal (state g.S.Store s.conn)
          → HasCleanDisk new → (kept gone : List Entry)
          → records_of (state g.S.Store s.conn).now ≡ kept ++ gone → length gone ≡ c.args.count
          → LeavesOnly new (λ records. (records ≡ kept) ⊎ (records ≡ kept ++ gone)))
          c.self.view_is (c.remove_last.ensures.stop step);
      rest = c.remove_last.ensures.rest step;
    }
