-- Records that a store keeps together: all of them or none.
use Rattle.std.specs.Prelude.{◌≡◌, ◌⊎◌, ℕ, ◌==◌, ◌||◌, ◌+◌, ◌++◌, Bool, true, false, not, nat_lt}
use Rattle.std.specs.Prelude.{List, length, Option, None, Result, Ok, IfErr, OnOk, OnErr}
use Rattle.urb_stable.specs.Entries.{Entry}
use Rattle.urb_stable.specs.StableStorage.{IsContents, is_place}
use Rattle.urb_stable.specs.declared.stable.StoreFault.{StoreFault}

-- Whether these records, the first at this position, are out of place: there is a doubtful record,
-- or the position isn't the next one. Or the list would get longer than its greatest length,
-- 4,294,967,294 records.
abbrev pub is_misplaced : Bool → ℕ → ℕ → List Entry → Bool
is_misplaced doubtful next pos entries =
    doubtful || (not (pos == next) || nat_lt 4294967295 (next + length entries))

-- an empty list that isn't out of place is stored, and nothing changes
abbrev pub StoresNothing : {S : Type 0} → Bool → S → Result (Unit {0}) StoreFault → S → Type 0
StoresNothing is_misplaced old result new =
    is_misplaced ≡ false → (result ≡ Ok tt) × (new ≡ old)

-- What storing records together does to the certain ones (`old` before it, `new` after it). After
-- Ok these records follow them, in order. After a fault they are as before.
pub record AreAppended (old new entries : List Entry) (result : Result (Unit {0}) StoreFault)
    : Type 0 where
  pub stored : OnOk result (new ≡ old ++ entries)
  pub failed : OnErr result (new ≡ old)

-- What storing records together leaves in doubt. After Ok nothing is in doubt. After a fault other
-- than Place a retrieve must come first, but no record is in doubt.
pub record LeavesNoRecord (is_doubtful : Bool) (left : Option Entry)
    (result : Result (Unit {0}) StoreFault) : Type 0 where
  pub clear : OnOk result ((is_doubtful ≡ false) × (left ≡ None))
  pub doubtful : IfErr result (λ e. is_place e ≡ false → is_doubtful ≡ true)
  pub none : IfErr result (λ e. is_place e ≡ false → left ≡ None)

-- What storing `count` records does to the next position (`old` before it, `new` after it). After Ok
-- it moves by `count`. After a fault it is as before.
pub record MovesPlace (old new count : ℕ) (result : Result (Unit {0}) StoreFault) : Type 0 where
  pub stored : OnOk result (new ≡ old + count)
  pub failed : OnErr result (new ≡ old)

-- what storage may turn out to hold, or its certain list followed by all of these records
abbrev pub IsContentsOrAll : List Entry → List Entry → Option Entry → List Entry → Type 0
IsContentsOrAll entries certain doubt records =
    IsContents certain doubt records ⊎ (records ≡ certain ++ entries)

-- A stop leaves no more afterwards than it left before. The parameters say which properties of the
-- records a stop ensures. If it left only what a storage with these records may hold, it still
-- does. So it does if it also left these records followed by all that were stored together.
pub record LeavesNoMore (before after : (List Entry → Type 0) → Type 0) : Type 0 where
  pub contents : (certain : List Entry) (doubtful : Option Entry)
      → before (IsContents certain doubtful) → after (IsContents certain doubtful)
  pub together : (entries certain : List Entry) (doubtful : Option Entry)
      → before (IsContentsOrAll entries certain doubtful)
      → after (IsContentsOrAll entries certain doubtful)
