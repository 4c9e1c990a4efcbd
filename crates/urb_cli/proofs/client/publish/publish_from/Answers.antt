use Rattle.urb_cli.proofs.Common.{arith, err_from_is_err_and, inr, refl}
use Rattle.urb_cli.proofs.PublishedTexts.{one_more_text}
use Rattle.urb_cli.proofs.client.publish.publish_from.Goals as goal

pub returns-in_err-ended-clause-broken : goal.returns-in_err-ended-clause-broken
returns-in_err-ended-clause-broken g c =
    let p = err_from_is_err_and c.from_residual.result c.from_residual.ensures.1 in
    rw (p.1, p.2) (
      c.loop-number.invariant.0,
      record {
        texts = c.loop-number.texts;
        caller = c.loop-number.caller;
        number = c.loop-number.number;
        output = g.W.Write.contents c.loop-number.writer;
      },
      c.loop-number.invariant.1,
      c.in_err-ended.ensures.err,
    )

pub returns-in-Some-clause-ok : goal.returns-in-Some-clause-ok
returns-in-Some-clause-ok g c = (
  c.loop-number.invariant.0,
  record {
    texts = c.loop-number.texts;
    caller = c.loop-number.caller;
    number = c.loop-number.number;
    output = g.W.Write.contents c.loop-number.writer;
  },
  c.loop-number.invariant.1,
  rw c.in-Some.is at c.in_ok-ended.ensures.ok,
)

pub loop-number-preserved : goal.loop-number-preserved
loop-number-preserved g c =
    one_more_text g.T.Texts.gives g.T.Texts.ends g.C.Caller.calls c.args.client _ _ _
    c.loop-number.invariant (rw c.in_default.is at c.in_ok-ended.ensures.ok)

pub returns-clause-broken : goal.returns-clause-broken
returns-clause-broken g c = (
  c.loop-number.invariant.0,
  record {
    texts = c.loop-number.texts;
    caller = c.loop-number.caller;
    number = c.loop-number.number;
    output = g.W.Write.contents c.loop-number.writer;
  },
  c.loop-number.invariant.1,
  inr (inr (inr (refl, omega (arith, c.loop-number-test.false, c.loop-number.auto.number-end), refl))),
)
