use Rattle.std.proofs.Common.{ap, ◌+◌, ◌∙◌}
use Rattle.urb_stable.specs.StoredBatches.{once_claimed}
use Rattle.urb_stable.proofs.ClaimedRecords.{rest-claimed}
use Rattle.urb_stable.proofs.stored_batch.StoredBatch.move_on.Goals as goal

pub returns : goal.returns
returns g c =
    let left = rest-claimed c.self.inside.claimed c.self.inside.records.items in
    (λ i. record {
      node = c.self.inside.node;
      pos = c.self.inside.next + 1;
      entries = left i;
    }) ∙ ap once_claimed c.self.view_is
