-- The invariant of a batch of stored records.
use Rattle.std.specs.Prelude.{◌+◌, ◌≤◌}
use Rattle.std.specs.Vec.{vec_len}
use Rattle.urb_stable.specs.declared.stored_batch.StoredBatch.TheInside.{Inside}

-- No more records are claimed than there are. The records to be claimed end below the greatest
-- length of a list.
pub record IsBatch {A : Type 0} (a : Inside A) : Type 0 where
  pub claimed : a.claimed ≤ vec_len a.records
  pub room : a.next + vec_len a.records ≤ 4294967295 + a.claimed
