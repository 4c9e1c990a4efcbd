use Rattle.std.proofs.Common.{◌<◌}
use Rattle.urb_folder.proofs.parallel.count_threads.Given as goal

-- the length so far is that of a file with bytes, or 1
abbrev pub invariant-loop-place : goal.invariant-loop-place
invariant-loop-place l = 0 < l.longest
