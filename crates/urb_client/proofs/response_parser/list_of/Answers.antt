use Rattle.urb_client.proofs.Common.{entries_at, rules, sym}
use Rattle.urb_client.proofs.EntryLoop.{goes_on, is_done, stops}
use Rattle.urb_client.proofs.response_parser.list_of.Goals as goal

pub returns-clause-read : goal.returns-clause-read
returns-clause-read g c =
    sym (is_done c.loop.entries.items c.args.count c.loop.counter c.loop.rest.now
    (entries_at c.args.count c.args.bytes.now) c.loop-test.false c.loop.invariant.read)

pub loop-preserved : goal.loop-preserved
loop-preserved g c = record {
  read =
      let here = sym (rw c.in-Some.is at c.in_ok-entry.ensures) in
      rw c.in_ok-push.ensures.items
      (goes_on c.loop.entries.items c.args.count c.loop.counter c.loop.rest.now c.in-Some.entry
      c.in-Some.after.now (entries_at c.args.count c.args.bytes.now)
      c.loop-test.true here c.loop.invariant.read);
  count = search rules;
}

pub returns-in_default-clause-read : goal.returns-in_default-clause-read
returns-in_default-clause-read g c =
    let here = sym (rw c.in_default.is at c.in_ok-entry.ensures) in
    sym (stops c.loop.entries.items c.args.count c.loop.counter c.loop.rest.now
    (entries_at c.args.count c.args.bytes.now) c.loop-test.true here c.loop.invariant.read)
