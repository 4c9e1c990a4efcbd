use Rattle.urb_cli.proofs.Common.{Fails, asked_by}
use Rattle.urb_cli.proofs.client.caller.insist.Given as goal

-- no call so far had a response
abbrev pub invariant-loop : goal.invariant-loop
invariant-loop g l = Fails g.C.Caller.calls (asked_by l.request) l.fn.caller l.counter l.caller
