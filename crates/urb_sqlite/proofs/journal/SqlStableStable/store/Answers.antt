use Rattle.urb_sqlite.proofs.Common.{HasCleanDisk, IsHonestJournal, IsInStep, IsSafeAtRest}
use Rattle.urb_sqlite.proofs.Common.{LeavesOnly, OpenJournal, [], inl, records_of, rules, state}
use Rattle.urb_sqlite.proofs.Common.{subst, sym, ◌++◌, ◌+◌, ◌∷◌, ◌≡◌, ◌⊎◌}
use Rattle.urb_sqlite.proofs.KeptRecords.{stops_now}
use Rattle.urb_sqlite.proofs.journal.SqlStableStable.store.Goals as goal

pub returns-then-self-clause-stop : goal.returns-then-self-clause-stop
returns-then-self-clause-stop g c =
    subst (λ (s : OpenJournal _). IsHonestJournal (state g.S.Store s.conn)
    → HasCleanDisk (state g.S.Store s.conn)
    → LeavesOnly (state g.S.Store s.conn)
    (λ records. (records ≡ records_of (state g.S.Store s.conn).now)
    ⊎ (records ≡ records_of (state g.S.Store s.conn).now ++ c.args.entry.now ∷ [])))
    c.self.view_is
    (λ honest clean db left.
    let it =
    stops_now (state g.S.Store c.self.inside.conn) c.self.inside.next c.self.invariant
    (λ is_open db. g.met.S.Store.settled c.self.inside.conn.store db is_open)
    c.schema-schema.ensures.live honest db left in
    (it.0, it.1, it.2, inl it.3))

pub returns-in-Ok-clause-stop : goal.returns-in-Ok-clause-stop
returns-in-Ok-clause-stop g c =
    let new = state g.S.Store c.append.new.conn in
    subst (λ (s : OpenJournal _). IsHonestJournal (state g.S.Store s.conn) → HasCleanDisk new
    → LeavesOnly new (λ records. (records ≡ records_of (state g.S.Store s.conn).now)
    ⊎ (records ≡ records_of (state g.S.Store s.conn).now ++ c.args.entry.now ∷ [])))
    c.self.view_is
    (c.append.ensures.stop (subst (IsInStep (state g.S.Store c.self.inside.conn))
    (sym c.if-pos-self.false) c.self.invariant))

pub returns-in-Err-clause-stop : goal.returns-in-Err-clause-stop
returns-in-Err-clause-stop g c =
    let new = state g.S.Store c.append.new.conn in
    subst (λ (s : OpenJournal _). IsHonestJournal (state g.S.Store s.conn) → HasCleanDisk new
    → LeavesOnly new (λ records. (records ≡ records_of (state g.S.Store s.conn).now)
    ⊎ (records ≡ records_of (state g.S.Store s.conn).now ++ c.args.entry.now ∷ [])))
    c.self.view_is
    (c.append.ensures.stop (subst (IsInStep (state g.S.Store c.self.inside.conn))
    (sym c.if-pos-self.false) c.self.invariant))

pub returns-then-self-clause-rest : goal.returns-then-self-clause-rest
returns-then-self-clause-rest g c =
    subst (λ (s : OpenJournal _). IsSafeAtRest (state g.S.Store s.conn)) c.self.view_is
    (stops_now (state g.S.Store c.self.inside.conn) c.self.inside.next c.self.invariant
    (λ is_open db. g.met.S.Store.settled c.self.inside.conn.store db is_open)
    c.schema-schema.ensures.live)

pub invariant_of-self : goal.invariant_of-self
invariant_of-self g c =
    let new = state g.S.Store c.append.new.conn in
    subst (λ n. IsInStep new (n + 1)) c.if-pos-self.false
    (c.in-Ok.ensures.ok (subst (IsInStep (state g.S.Store c.self.inside.conn))
    (sym c.if-pos-self.false) c.self.invariant)).kept

pub returns-in-Ok-clause-rest : goal.returns-in-Ok-clause-rest
returns-in-Ok-clause-rest g c =
    c.append.ensures.rest (subst (IsInStep (state g.S.Store c.self.inside.conn))
    (sym c.if-pos-self.false) c.self.invariant)

pub returns-in-Err-clause-rest : goal.returns-in-Err-clause-rest
returns-in-Err-clause-rest g c =
    c.append.ensures.rest (subst (IsInStep (state g.S.Store c.self.inside.conn))
    (sym c.if-pos-self.false) c.self.invariant)

pub returns-in-Err-clause-trust : goal.returns-in-Err-clause-trust
returns-in-Err-clause-trust g c =
    record {
      clean = search rules;
      honest =
          λ honest. subst (λ (s : OpenJournal _). IsHonestJournal (state g.S.Store s.conn))
          c.self.view_is
          ((c.in-Err.ensures.err (subst (IsInStep (state g.S.Store c.self.inside.conn))
          (sym c.if-pos-self.false) c.self.invariant)).honest honest);
      alive = tt;
      shut = search rules;
    }
