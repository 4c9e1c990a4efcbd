use Rattle.std.proofs.Common.{length, map, ◌≤◌, ◌-◌}
use Rattle.urb_client.specs.Requests.{asked_by}
use Rattle.urb_desk.proofs.NextSubmits.{AreNextBefore}
use Rattle.urb_desk.proofs.next_submits.submits_in.Given as goal

-- the submits so far, with the bytes behind them
abbrev pub invariant-loop-rest : goal.invariant-loop-rest
invariant-loop-rest l = record {
  found : AreNextBefore l.bytes (map asked_by l.submits.items) l.rest;
  few : length l.submits.items ≤ l.most;
}

abbrev pub decreases-loop-rest : goal.decreases-loop-rest
decreases-loop-rest l = l.most - length l.submits.items
