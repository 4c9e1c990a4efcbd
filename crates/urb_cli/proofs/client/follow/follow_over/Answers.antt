use Rattle.urb_cli.proofs.Common.{Goes, arith, err_from_is_err_and, form_line, inl, inr, refl}
use Rattle.urb_cli.proofs.FollowedPages.{one_more_page, still_a_place}
use Rattle.urb_cli.proofs.client.follow.follow_over.Goals.{in-Older, in-Page+else-next-place}
use Rattle.urb_cli.proofs.client.follow.follow_over.Goals.{in-Page+then-next-place+then-not-knows_wait}
use Rattle.urb_cli.proofs.client.follow.follow_over.Goals as goal

pub returns-in_err-next-clause-broken : goal.returns-in_err-next-clause-broken
returns-in_err-next-clause-broken g c =
    let p = err_from_is_err_and c.from_residual.result c.from_residual.ensures.1 in
    rw (p.1, p.2) (
      c.loop.invariant.going.0,
      record {
        caller = c.loop.caller;
        place = c.loop.place;
        output = g.W.Write.contents c.loop.writer;
      },
      c.loop.invariant.going.2,
      inl c.in_err-next.ensures.err,
    )

pub returns-in-Refused-clause-refused : goal.returns-in-Refused-clause-refused
returns-in-Refused-clause-refused g c =
    let ended = rw c.in-Refused.is at c.in_ok-next.ensures.turn in (
      refl,
      (
        c.loop.invariant.going.0,
        record {
          caller = c.loop.caller;
          place = c.loop.place;
          output = g.W.Write.contents c.loop.writer;
        },
        ended.0,
        ended.1,
        c.loop.invariant.going.2,
        ended.2,
        ended.3,
      ),
    )

pub loop-preserved : goal.loop-preserved
loop-preserved g c =
    let goes : Goes g.C.Caller.calls (form_line c.args.form)
    (record {
      caller = c.loop.caller;
      place = c.loop.place;
      output = g.W.Write.contents c.loop.writer;
    }) c.take_turn.new.caller c.match-branch-2.place
    (g.W.Write.contents c.take_turn.new.writer) =
    elim c.match-branch-2.branch [
      | in-Page+then-next-place+then-not-knows_wait w ↦
          rw w.place-is (rw w.in-Page.is at c.in_ok-next.ensures.turn)
      | in-Page+else-next-place w ↦
          rw w.place-is (rw w.in-Page.is at c.in_ok-next.ensures.turn)
      | in-Older w ↦ rw w.place-is (rw w.in-Older.is at c.in_ok-next.ensures.turn)
    ] in record {
      some = still_a_place g.C.Caller.calls (form_line c.args.form) _ _ _ _ goes c.loop.invariant.some;
      going =
          one_more_page g.C.Caller.calls (form_line c.args.form) c.args.caller.now c.args.from
          (g.W.Write.contents c.args.writer.now) _ _ _ _ _ c.loop.invariant.going goes;
    }

pub returns-clause-broken : goal.returns-clause-broken
returns-clause-broken g c = (
  c.loop.invariant.going.0,
  record {
    caller = c.loop.caller;
    place = c.loop.place;
    output = g.W.Write.contents c.loop.writer;
  },
  c.loop.invariant.going.2,
  inr (refl, omega (arith, c.loop-test.false, c.loop.auto.counter-end, c.loop.invariant.going.1), refl),
)
