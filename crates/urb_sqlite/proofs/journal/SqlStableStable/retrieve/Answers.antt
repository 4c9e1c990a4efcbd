use Rattle.urb_sqlite.proofs.Common.{HasCleanDisk, IsHonestJournal, IsShutJournal, LeavesOnly}
use Rattle.urb_sqlite.proofs.Common.{OpenJournal, err_from_is_err_and, false, is_bad_row}
use Rattle.urb_sqlite.proofs.Common.{records_of, state, subst, ⊎_elim, ◌≡◌, ◌⊎◌}
use Rattle.urb_sqlite.proofs.KeptRecords.{honest_before, left, not_bad, stops_at_select}
use Rattle.urb_sqlite.proofs.TableReadings.{given_by_read}
use Rattle.urb_sqlite.proofs.journal.SqlStableStable.retrieve.Goals as goal

pub returns-in_err-records-clause-stop : goal.returns-in_err-records-clause-stop
returns-in_err-records-clause-stop g c =
    let new = state g.S.Store c.read.new.conn in
    subst (λ (s : OpenJournal _). IsHonestJournal (state g.S.Store s.conn) → HasCleanDisk new
    → LeavesOnly new (λ records. records ≡ records_of (state g.S.Store s.conn).now))
    c.self.view_is
    (λ honest clean. stops_at_select
    (state g.S.Store c.self.inside.conn) new c.self.inside.next c.self.invariant
    (λ db. g.met.S.Store.settled c.self.inside.conn.store db honest.is_open)
    c.read.ensures.live_before c.read.ensures.stop honest clean)

pub returns-clause-stop : goal.returns-clause-stop
returns-clause-stop g c =
    let new = state g.S.Store c.read.new.conn in
    subst (λ (s : OpenJournal _). IsHonestJournal (state g.S.Store s.conn) → HasCleanDisk new
    → LeavesOnly new (λ records. records ≡ records_of (state g.S.Store s.conn).now))
    c.self.view_is
    (λ honest clean. stops_at_select
    (state g.S.Store c.self.inside.conn) new c.self.inside.next c.self.invariant
    (λ db. g.met.S.Store.settled c.self.inside.conn.store db honest.is_open)
    c.read.ensures.live_before c.read.ensures.stop honest clean)

pub returns-clause-retrieved : goal.returns-clause-retrieved
returns-clause-retrieved g c honest =
    let new = state g.S.Store c.read.new.conn in
    record {
      given =
          subst (λ (s : OpenJournal _). (records_of new.now ≡ c.in_ok-records.records.items)
          × (c.in_ok-records.records.items ≡ records_of (state g.S.Store s.conn).now))
          c.self.view_is
          (given_by_read (state g.S.Store c.self.inside.conn) new c.in_ok-records.records.items
          honest (c.in_ok-records.ensures.same honest.clean)
          (c.in_ok-records.ensures.found honest.clean));
      failed = tt;
    }

pub returns-in_err-records-clause-retrieved : goal.returns-in_err-records-clause-retrieved
returns-in_err-records-clause-retrieved g c honest =
    let old = state g.S.Store c.self.inside.conn in
    let new = state g.S.Store c.read.new.conn in
    let p = err_from_is_err_and c.from_residual.result c.from_residual.ensures.1 in
    let same =
    subst (λ (s : OpenJournal _). records_of new.now ≡ records_of (state g.S.Store s.conn).now)
    c.self.view_is
    ((left old new c.self.inside.next c.self.invariant c.read.ensures.stop.clean
    c.read.ensures.left).records honest) in
    rw (p.1, p.2) (record { given = tt; failed = same })

pub returns-in_err-records-clause-rest : goal.returns-in_err-records-clause-rest
returns-in_err-records-clause-rest g c = c.read.ensures.rest c.self.inside.next c.self.invariant

pub returns-clause-rest : goal.returns-clause-rest
returns-clause-rest g c = c.read.ensures.rest c.self.inside.next c.self.invariant

pub returns-in_err-records-clause-allowed : goal.returns-in_err-records-clause-allowed
returns-in_err-records-clause-allowed g c =
    let old = state g.S.Store c.self.inside.conn in
    let new = state g.S.Store c.read.new.conn in
    let p = err_from_is_err_and c.from_residual.result c.from_residual.ensures.1 in
    let told =
    subst (λ (s : OpenJournal _). IsHonestJournal (state g.S.Store s.conn)
    ⊎ IsShutJournal (state g.S.Store s.conn) → HasCleanDisk new
    → is_bad_row c.in_err-records.field-0.0 ≡ false) c.self.view_is
    (λ known clean. ⊎_elim (λ honest.
    honest_before old new c.self.inside.next c.in_err-records.field-0.0 c.self.invariant
    c.in_err-records.ensures.sound honest clean)
    (λ shut. c.in_err-records.ensures.shut clean shut) known) in
    record {
      faults =
          rw (p.1, p.2) (
            c.in_err-records.ensures.placed,
            λ honest. not_bad old new c.self.inside.next c.in_err-records.field-0.0
                c.self.invariant c.read.ensures.stop.clean c.read.ensures.left
                c.in_err-records.ensures.sound honest,
          );
      sound = λ known clean. rw (p.1, p.2) (told known clean);
    }
