use Rattle.std.proofs.Common.{ap, ◌∙◌}
use Rattle.urb_stable.specs.internal.RecordQueues.{once_taken}
use Rattle.urb_stable.proofs.QueuedRecords.{next-taken}
use Rattle.urb_stable.proofs.record_queue.RecordQueue.take_first.Goals as goal

pub returns : goal.returns
returns g c =
    next-taken c.self.inside.taken c.self.inside.records.items ∙ ap once_taken c.self.view_is
