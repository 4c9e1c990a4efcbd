-- The invariant of a store in memory.
use Rattle.std.specs.Prelude.{◌≡◌, ◌<◌, ◌≤◌, ◌+◌, ◌^◌, ◌-◌, false}
use Rattle.std.specs.Vec.{vec_len}
use Rattle.urb_stable.specs.declared.memory.MemStable.TheInside.{Inside}

-- At most one record follows the certain ones, and then it is in doubt. There are fewer than 2^32 -
-- 1 records.
pub record IsMemory {A : Type 0} (a : Inside A) : Type 0 where
  pub below : a.certain ≤ vec_len a.records
  pub one : vec_len a.records ≤ a.certain + 1
  pub settled : a.doubtful ≡ false → vec_len a.records ≡ a.certain
  pub count : vec_len a.records < 2 ^ 32 - 1
