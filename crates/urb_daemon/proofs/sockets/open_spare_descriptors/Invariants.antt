use Rattle.std.proofs.Common.{◌≡◌, ◌≤◌, vec_len, vec_capacity}
use Rattle.urb_daemon.proofs.sockets.open_spare_descriptors.Given as goal

-- the descriptors so far, and room for all
abbrev pub invariant-loop-i : goal.invariant-loop-i
invariant-loop-i g l = (vec_len l.spare ≡ l._i) × (l.most ≤ vec_capacity l.spare)
