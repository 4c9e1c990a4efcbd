use Rattle.std.proofs.Common.{◌≡◌, ◌≤◌, vec_len, vec_capacity}
use Rattle.urb_worker.proofs.listeners.SessionRoom.new.Given as goal

-- the nodes so far, and room for all
abbrev pub invariant-loop-i : goal.invariant-loop-i
invariant-loop-i g l = (vec_len l.nodes ≡ l._i) × (l.count ≤ vec_capacity l.nodes)
