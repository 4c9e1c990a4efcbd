use Rattle.urb_cli.proofs.Common.{arith, asked_by}
use Rattle.urb_cli.proofs.FailedCalls.{gives_up}
use Rattle.urb_cli.proofs.client.caller.insist.Goals as goal

pub returns-clause-patience : goal.returns-clause-patience
returns-clause-patience g c =
    gives_up g.C.Caller.calls (asked_by c.args.request.now) c.args.caller.now c.loop.caller
    c.call.new.self c.loop.counter c.call.result
    (omega (arith, c.loop-test.false, c.loop.auto.counter-end)) c.loop.invariant
    c.call.ensures
