use Rattle.std.proofs.Common.{rules}
use Rattle.urb_desk.proofs.NextSubmits.{found-then, one-found}
use Rattle.urb_desk.proofs.next_submits.submits_in.Goals as goal

pub returns-in_default-clause-next : goal.returns-in_default-clause-next
returns-in_default-clause-next c =
    found-then c.args.bytes.now c.loop-rest.submits.items c.loop-rest.submits.items
    c.loop-rest.rest.now (search rules) c.loop-rest.invariant.found

pub returns-then-is_err-clause-next : goal.returns-then-is_err-clause-next
returns-then-is_err-clause-next c =
    found-then c.args.bytes.now c.loop-rest.submits.items c.push.new.self.items
    c.loop-rest.rest.now (search rules) c.loop-rest.invariant.found

pub loop-rest-preserved : goal.loop-rest-preserved
loop-rest-preserved c = record {
  found =
      one-found c.args.bytes.now c.loop-rest.submits.items c.push.new.self.items
      c.loop-rest.rest.now c.in-Some.request c.in-Some.others.now (search rules)
      c.loop-rest.invariant.found (search rules);
  few = search rules;
}

pub returns-clause-next : goal.returns-clause-next
returns-clause-next c =
    found-then c.args.bytes.now c.loop-rest.submits.items c.loop-rest.submits.items
    c.loop-rest.rest.now (search rules) c.loop-rest.invariant.found
