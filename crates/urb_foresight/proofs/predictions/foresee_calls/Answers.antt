use Rattle.std.proofs.Common.{None, Some, rules, ◌≡◌, ◌≢◌}
use Rattle.urb_foresight.proofs.CallLists.{ends-behind, ends-here, ends-unsure, next-told, one-more}
use Rattle.urb_foresight.specs.ForeseenDrafts.{event_of}
use Rattle.urb_foresight.specs.declared.foreseen.Foreseen.TheVariants as foreseen
use Rattle.urb_foresight.proofs.predictions.foresee_calls.Goals as goal

pub returns-in-Err-clause-foreseen : goal.returns-in-Err-clause-foreseen
returns-in-Err-clause-foreseen g c =
    c.loop-call.invariant.left c.foresee.new.foresight (Some c.in-Err.refused)
    (ends-here c.args.group.now c.args.node (event_of c.args.node) c.args.calls.now
    c.loop-call.call-index c.call-item.result c.loop-call-test.true c.call-item.is
    c.loop-call.foresight c.foresee.new.foresight (Some c.in-Err.refused) c.in-Err.ensures.err tt)

pub returns-then-eq-clause-foreseen : goal.returns-then-eq-clause-foreseen
returns-then-eq-clause-foreseen g c =
    let unsure : c.in-Ok.foreseen ≡ foreseen.Unsure = search rules in
    c.loop-call.invariant.left c.foresee.new.foresight None
    (ends-unsure c.args.group.now c.args.node (event_of c.args.node) c.args.calls.now
    c.loop-call.call-index c.call-item.result c.loop-call-test.true c.call-item.is
    c.loop-call.foresight c.foresee.new.foresight c.in-Ok.foreseen unsure c.in-Ok.ensures.foreseen)

pub loop-call-preserved : goal.loop-call-preserved
loop-call-preserved g c =
    let sure : c.in-Ok.foreseen ≢ foreseen.Unsure = search rules in
    record {
      left = λ new refused rest.
          c.loop-call.invariant.left new refused
          (one-more c.args.group.now c.args.node (event_of c.args.node) c.args.calls.now
          c.loop-call.call-index c.call-item.result c.loop-call-test.true c.call-item.is
          c.loop-call.foresight c.foresee.new.foresight new c.in-Ok.foreseen refused sure
          c.in-Ok.ensures.foreseen rest);
      may =
          next-told c.args.group.now c.args.node c.loop-call.foresight c.foresee.new.foresight
          c.loop-call.invariant.may (event_of c.args.node c.call-item.result) c.in-Ok.foreseen sure
          c.in-Ok.ensures.foreseen c.in-Ok.ensures.may;
    }

pub returns-clause-foreseen : goal.returns-clause-foreseen
returns-clause-foreseen g c =
    c.loop-call.invariant.left c.loop-call.foresight None
    (ends-behind c.args.group.now c.args.node (event_of c.args.node) c.args.calls.now
    c.loop-call.call-index c.loop-call.foresight c.loop-call-test.false)
