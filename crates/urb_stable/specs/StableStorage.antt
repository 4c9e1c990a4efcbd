-- Stable storage: its next position, what it may hold, and what a store and a retrieve do.
use Rattle.std.specs.Prelude.{◌≡◌, ◌⊎◌, ℕ, ◌==◌, ◌||◌, Bool, true, false, not, List, [], ◌∷◌, ◌++◌}
use Rattle.std.specs.Prelude.{◌<◌, ◌≤◌, Option, Some, None, Result, Ok, Err, IfOk, IfErr, OnOk}
use Rattle.std.specs.Prelude.{OnErr, Vec}
use Rattle.urb_names.specs.declared.refusal.Refusal.{Refusal}
use Rattle.urb_names.specs.declared.refusal.Refusal.TheVariants as refusal
use Rattle.urb_stable.specs.Entries.{Entry}
use Rattle.urb_stable.specs.declared.stable.StoreFault.{StoreFault}
use Rattle.urb_stable.specs.declared.stable.StoreFault.TheVariants as fault

-- the refusal that reports a fault
abbrev pub refusal_of : StoreFault → Refusal
refusal_of fault.NoMemory = refusal.NoMemory
refusal_of fault.Device = refusal.Device
refusal_of (fault.Place next) = refusal.Place next
refusal_of (fault.BadRow place) = refusal.BadRow place

-- what storage may turn out to hold: its certain list, or that list followed by its doubtful record
abbrev pub IsContents : List Entry → Option Entry → List Entry → Type 0
IsContents certain None records = records ≡ certain
IsContents certain (Some entry) records = (records ≡ certain) ⊎ (records ≡ certain ++ entry ∷ [])

-- Whether a store at this position is out of place: there is a doubtful record, or the position
-- isn't the next one. Or the list has its greatest length, 4,294,967,294 records.
abbrev pub is_out_of_place : Bool → ℕ → ℕ → Bool
is_out_of_place doubtful next pos = doubtful || (not (pos == next) || (next == 4294967295))

-- whether the fault is Place
abbrev pub is_place : StoreFault → Bool
is_place (fault.Place next) = true
is_place _ = false

-- whether the fault is BadRow
abbrev pub is_bad_row : StoreFault → Bool
is_bad_row (fault.BadRow place) = true
is_bad_row _ = false

-- The fault is Place, with the next position, exactly if the store is out of place. A store never
-- returns BadRow.
abbrev pub IsPlaced : {A : Type 0} → Bool → ℕ → Result A StoreFault → Type 0
IsPlaced true next result = result ≡ Err (fault.Place next)
IsPlaced false next result = IfErr result (λ e. (is_place e ≡ false) × (is_bad_row e ≡ false))

-- What a store does to the certain records (`old` before it, `new` after it). After Ok the record
-- is the last of them. After a fault they are as before.
pub record IsAppended (old new : List Entry) (entry : Entry)
    (result : Result (Unit {0}) StoreFault) : Type 0 where
  pub stored : OnOk result (new ≡ old ++ entry ∷ [])
  pub failed : OnErr result (new ≡ old)

-- What a store leaves in doubt: whether a retrieve must come first, and which record may be kept
-- although its store failed. After Ok nothing is in doubt. After a fault other than Place a
-- retrieve must come first, and this record or none is in doubt.
pub record LeavesDoubt (is_doubtful : Bool) (left : Option Entry) (entry : Entry)
    (result : Result (Unit {0}) StoreFault) : Type 0 where
  pub clear : OnOk result ((is_doubtful ≡ false) × (left ≡ None))
  pub doubtful : IfErr result (λ e. is_place e ≡ false → is_doubtful ≡ true)
  pub doubt : IfErr result (λ e. is_place e ≡ false → (left ≡ None) ⊎ (left ≡ Some entry))

-- what storage may turn out to hold, or its certain list followed by this record
abbrev pub IsContentsOr : Entry → List Entry → Option Entry → List Entry → Type 0
IsContentsOr entry certain doubt records =
    IsContents certain doubt records ⊎ (records ≡ certain ++ entry ∷ [])

-- How a call changes the count of the device's failures (`old` before it, `new` after it). The
-- count never falls. The call returns Device only if the count rose.
pub record CountsFailures {A : Type 0} (old new : ℕ) (result : Result A StoreFault) : Type 0 where
  pub device : result ≡ Err fault.Device → old < new
  pub grows : old ≤ new

-- What a call does to the trust in a storage. The parameters say whether it was clean and honest
-- before the call, and whether it is clean, honest and shut after it. A storage that has returned
-- something other than what was written never counts as clean again, and one that isn't honest
-- never becomes honest. While it is clean, an honest storage stays honest after Ok. After a fault
-- it stays honest, or a failure has shut it.
pub record KeepsTrust {A : Type 0} (was_clean was_honest is_clean is_honest is_shut : Type 0)
    (result : Result A StoreFault) : Type 0 where
  pub clean : is_clean → was_clean
  pub honest : is_honest → was_honest
  pub alive : OnOk result (was_honest → is_clean → is_honest)
  pub shut : was_honest → is_clean → is_honest ⊎ is_shut

-- the list of records that a retrieve returned, or its fault
abbrev pub list_in : {A : Type 0} → Result (Vec Entry A) StoreFault → Result (List Entry) StoreFault
list_in (Ok records) = Ok records.items
list_in (Err e) = Err e

-- What a retrieve returns, if these were the certain records (`old`) and the doubtful one before
-- it. After Ok it returned what the storage may hold, and just that is certain (`new`). After a
-- fault the certain records are as before.
pub record IsRetrieved (old : List Entry) (doubt : Option Entry) (new : List Entry)
    (result : Result (List Entry) StoreFault) : Type 0 where
  pub given : IfOk result (λ records. (new ≡ records) × IsContents old doubt records)
  pub failed : OnErr result (new ≡ old)

-- What a retrieve does to what was in doubt, and to the next position. After Ok nothing is in
-- doubt. After a fault all this is as before.
pub record SettlesDoubt (was_doubtful : Bool) (was_left : Option Entry) (old_place : ℕ)
    (is_doubtful : Bool) (is_left : Option Entry) (new_place : ℕ)
    (result : Result (List Entry) StoreFault) : Type 0 where
  pub clear : OnOk result ((is_doubtful ≡ false) × (is_left ≡ None))
  pub kept : OnErr result ((is_doubtful ≡ was_doubtful) × (is_left ≡ was_left)
      × (new_place ≡ old_place))

-- Which faults a retrieve may return: never Place, and not BadRow if the storage is honest after
-- it. Nor does it return BadRow if the storage is clean, and was honest or shut before the call.
pub record IsAllowedFault (was_honest was_shut is_clean is_honest : Type 0)
    (result : Result (List Entry) StoreFault) : Type 0 where
  pub faults : IfErr result (λ e. (is_place e ≡ false) × (is_honest → is_bad_row e ≡ false))
  pub sound : was_honest ⊎ was_shut → is_clean → IfErr result (λ e. is_bad_row e ≡ false)

-- a storage that was shut, and is clean after a retrieve, has returned nothing and is still shut
abbrev pub StaysShut : Type 0 → Type 0 → Type 0 → Result (List Entry) StoreFault → Type 0
StaysShut was_shut is_clean is_shut result =
    was_shut → is_clean → OnOk result ⊥ × OnErr result is_shut
