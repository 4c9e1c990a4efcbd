use Rattle.std.proofs.Common.{vec_len}
use Rattle.urb_desk.proofs.desk_queue.DeskQueue.send_all.Given as goal

-- one result fewer is to come
abbrev pub decreases-loop-from : goal.decreases-loop-from
decreases-loop-from g l = vec_len l.sent
