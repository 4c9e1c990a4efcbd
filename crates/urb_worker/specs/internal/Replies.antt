-- What a worker does after a turn, depending on the reply.
use Rattle.std.specs.Prelude.{Bool, false, true}
use Rattle.urb_node.specs.Replies.{Reply, Stored}

-- whether a reply says that a record is stored
abbrev pub tells_record : Reply → Bool
tells_record (Stored done) = true
tells_record _ = false
