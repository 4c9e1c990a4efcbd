use Rattle.urb_node.proofs.Common.{Content, Err, LeadsTo, Memory, Node, Ok, ShowsReady, arith}
use Rattle.urb_node.proofs.Common.{memory_of, submit_outcome, submits, subst, sym, ◌≤◌}
use Rattle.urb_node.proofs.OutcomeResults.{found-leads, refusal-leads}
use Rattle.urb_node.proofs.SubmitOutcomes.{submit-says}
use Rattle.urb_node.proofs.ready.Ready.submit.Goals as goal

pub returns-in-Ok-clause-event : goal.returns-in-Ok-clause-event
returns-in-Ok-clause-event g c =
    let m : Content = record {
      client = c.args.client;
      number = c.args.number;
      payload =
          c.args.payload.now;
    } in
    let old : Memory = memory_of c.self.inside.held in
    let some : 1 ≤ old.limits.n =
    (let low = c.self.invariant.node.0 in let high = c.self.invariant.node.1 in omega arith) in
    subst (λ (a : Memory). (node : Node) → ShowsReady a node
    → LeadsTo (submits a.limits a.node m node) a (Ok c.step_of.result)) c.self.view_is
    (subst (λ r. (node : Node) → ShowsReady old node
    → LeadsTo (submits old.limits old.node m node) old (Ok r)) (sym c.step_of.ensures)
    (λ node s.
    found-leads c.judge_submit.new.held (submits old.limits old.node m node)
    (submit_outcome old m) old (memory_of c.judge_submit.new.held) c.in-Ok.next
    (submit-says old m node s c.recall.ensures.rising some)
    c.in-Ok.ensures.outcome c.in-Ok.ensures.same c.in-Ok.ensures.wanted))

pub returns-in-Err-clause-event : goal.returns-in-Err-clause-event
returns-in-Err-clause-event g c =
    let m : Content = record {
      client = c.args.client;
      number = c.args.number;
      payload =
          c.args.payload.now;
    } in
    let old : Memory = memory_of c.self.inside.held in
    let some : 1 ≤ old.limits.n =
    (let low = c.self.invariant.node.0 in let high = c.self.invariant.node.1 in omega arith) in
    subst (λ (a : Memory). (node : Node) → ShowsReady a node
    → LeadsTo {A = g.row.A.Denot} (submits a.limits a.node m node) a
    (Err (memory_of c.judge_submit.new.held, c.in-Err.refusal))) c.self.view_is
    (λ node s. refusal-leads g.row.A.Denot (submits old.limits old.node m node)
    (submit_outcome old m) old (memory_of c.judge_submit.new.held) c.in-Err.refusal
    (submit-says old m node s c.recall.ensures.rising some) c.in-Err.ensures.outcome)
