-- Records that a storage takes out of its list again: all of them or none.
use Rattle.std.specs.Prelude.{Bool, List, MatchResult, None, OnErr, OnOk, Option, Result, false, length}
use Rattle.std.specs.Prelude.{ℕ, ◌++◌, ◌≡◌}
use Rattle.urb_stable.specs.Entries.{Entry}
use Rattle.urb_stable.specs.StableStorage.{IsContents, is_place}
use Rattle.urb_stable.specs.StoredTogether.{IsContentsOrAll}
use Rattle.urb_stable.specs.declared.stable.StoreFault.{StoreFault}

-- this holds unless the answer is Place
abbrev pub IsUnlessPlace : Result (Unit {0}) StoreFault → Type 0 → Type 0
IsUnlessPlace result holds = MatchResult result (λ _. holds) (λ e. is_place e ≡ false → holds)

-- a call leaves as it was whether a retrieve must come first, and which record is in doubt
pub record KeepsDoubt (was_doubtful : Bool) (was_left : Option Entry) (is_doubtful : Bool)
    (is_left : Option Entry) : Type 0 where
  pub doubtful : is_doubtful ≡ was_doubtful
  pub left : is_left ≡ was_left

-- What taking out the last `count` records does to the certain ones (`old` before it, `new` after
-- it). After Ok these are the ones before the last `count`. After a fault they are as before.
pub record AreWithdrawn (old new : List Entry) (count : ℕ) (result : Result (Unit {0}) StoreFault)
    : Type 0 where
  pub taken : OnOk result ((gone : List Entry) × (old ≡ new ++ gone) × (length gone ≡ count))
  pub failed : OnErr result (new ≡ old)

-- A storage was asked to take out its last `count` records. `old` and `new` are its certain records
-- before the call and after it, and `left` is the record in doubt after it. A stop during the call
-- leaves the records before those, or those too. A stop after it leaves what the storage may hold.
pub record Withdraws (old new : List Entry) (left : Option Entry) (count : ℕ)
    (result : Result (Unit {0}) StoreFault) (was_honest is_clean is_honest : Type 0)
    (leaves : (List Entry → Type 0) → Type 0) : Type 0 where
  pub withdrawn : is_honest → AreWithdrawn old new count result
  pub stop : was_honest → is_clean → (kept gone : List Entry) → old ≡ kept ++ gone
      → length gone ≡ count → leaves (IsContentsOrAll gone kept None)
  pub rest : is_honest → leaves (IsContents new left)
