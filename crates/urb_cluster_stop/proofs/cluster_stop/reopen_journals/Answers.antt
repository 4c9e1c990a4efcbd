use Rattle.std.proofs.Common.{[], ap, arith, subst, sym, ◌++◌, ◌∙◌, ◌∷◌, ◌≡◌}
use Rattle.sqlite.specs.Files.{file_state}
use Rattle.urb_cluster_stop.specs.internal.ReopenedStores.{AreReopened}
use Rattle.urb_sqlite.specs.ReopenedJournals.{IsReopened}
use Rattle.urb_cluster_stop.proofs.JournalsReopened.{append-none, moved, none_left}
use Rattle.urb_cluster_stop.proofs.JournalsReopened.{one_more_reopened}
use Rattle.urb_cluster_stop.proofs.cluster_stop.reopen_journals.Goals as goal
use Rattle.urb_names.proofs.Places.{one_longer}

pub loop-journal-preserved : goal.loop-journal-preserved
loop-journal-preserved g c =
    let yielded = c.loop-journal.yielded in
    let is : IsReopened (file_state c.in-Some.journal.conn)
    (file_state c.in_ok-stop_and_open.field-0.conn) =
    c.in_ok-stop_and_open.ensures in
    let more = one_longer yielded c.in-Some.journal in
    record {
      all =
          c.loop-journal.invariant.all ∙ (ap (λ left. yielded ++ left) c.in-Some.ensures.steps.0
          ∙ moved yielded c.next.new.self.rest.items c.in-Some.journal);
      opened =
          subst (λ after. AreReopened (yielded ++ c.in-Some.journal ∷ []) after
          (λ j. file_state j.conn)) (sym c.push_reserved.ensures.items)
          (one_more_reopened yielded c.loop-journal.again.items c.in-Some.journal
          c.in_ok-stop_and_open.field-0
          (λ j. file_state j.conn) c.loop-journal.invariant.opened is);
      count = omega (arith, c.push_reserved.ensures.len, c.loop-journal.invariant.count, more);
      room = omega (arith, c.push_reserved.ensures.capacity, c.loop-journal.invariant.room);
    }

pub returns : goal.returns
returns g c =
    let gone : c.loop-journal.journal-iterator.rest.items ≡ [] =
    none_left c.loop-journal.journal-iterator.rest.items
    c.loop-journal.journal-iterator.rest.len c.loop-journal.journal-iterator.rest.ok.0
    c.in-None.ensures.steps.0 in
    let all : c.args.journals.items ≡ c.loop-journal.yielded =
    c.loop-journal.invariant.all ∙ (ap (λ left. c.loop-journal.yielded ++ left) gone
    ∙ append-none c.loop-journal.yielded) in
    subst (λ before. AreReopened before c.loop-journal.again.items (λ j. file_state j.conn))
    (sym all) c.loop-journal.invariant.opened
