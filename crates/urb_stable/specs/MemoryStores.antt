-- A store in memory, as contracts see it, and the effect of each of its calls.
use Rattle.std.specs.Prelude.{◌⊎◌, ◌-◌, ◌^◌, length, nat_lt, ◌≡◌, ◌+◌, ℕ, Bool, true, false, List}
use Rattle.std.specs.Prelude.{[], ◌∷◌, ◌++◌, Option, None, Some, Result, Ok, Err}
use Rattle.urb_stable.specs.Entries.{Entry}
use Rattle.urb_stable.specs.StableStorage.{is_out_of_place}
use Rattle.urb_stable.specs.declared.memory.Failure.{Failure}
use Rattle.urb_stable.specs.declared.memory.Failure.TheVariants.{New, Old}
use Rattle.urb_stable.specs.declared.stable.StoreFault.{StoreFault}
use Rattle.urb_stable.specs.declared.stable.StoreFault.TheVariants as fault

-- The store's certain records, a doubtful record after them, whether it needs a retrieve, how often
-- it has failed, and how the next store fails.
pub record Memory : Type 0 where
  pub certain : List Entry
  pub doubt : Option Entry
  pub doubtful : Bool
  pub failures : ℕ
  pub armed : Option Failure

-- a store with no records
abbrev pub empty_memory : Memory
empty_memory = record { certain = []; doubt = None; doubtful = false; failures = 0; armed = None }

-- the store once armed
abbrev pub armed_with : Failure → Memory → Memory
armed_with failure m = record m { armed = Some failure }

-- the store after it had no memory for a record; it kept nothing
abbrev pub without_memory : Memory → Memory
without_memory m = record m { doubtful = true; armed = None }

-- the store after the failure that it was armed with; the failure left this record or nothing
abbrev pub after_failure : Option Entry → Memory → Memory
after_failure left m = record m
    { doubt = left; doubtful = true; failures = m.failures + 1; armed = None }

-- the certain records, followed by the doubtful one if there is one
abbrev pub with_doubt : List Entry → Option Entry → List Entry
with_doubt certain None = certain
with_doubt certain (Some entry) = certain ++ entry ∷ []

-- What a store with this next position may answer. It depends on whether it is out of place, how it
-- is armed, and whether one more failure can be counted.
abbrev pub StoresAt : ℕ → Bool → Option Failure → Bool → Result (Unit {0}) StoreFault → Type 0
StoresAt next true armed counted answer = answer ≡ Err (fault.Place next)
StoresAt next false None counted answer = (answer ≡ Ok tt) ⊎ (answer ≡ Err fault.NoMemory)
StoresAt next false (Some failure) false answer = answer ≡ Err fault.NoMemory
StoresAt next false (Some Old) true answer = answer ≡ Err fault.Device
StoresAt next false (Some New) true answer =
    (answer ≡ Err fault.Device) ⊎ (answer ≡ Err fault.NoMemory)

-- what storing at this position may answer
abbrev pub Stores : Memory → ℕ → Result (Unit {0}) StoreFault → Type 0
Stores m pos answer =
    let next = length m.certain + 1 in
    StoresAt next (is_out_of_place m.doubtful next pos) m.armed
    (nat_lt m.failures (2 ^ 64 - 1)) answer

-- what a retrieve may answer: all records, or that there is no memory for them
abbrev pub Retrieves : Memory → Result (List Entry) StoreFault → Type 0
Retrieves m (Ok records) = records ≡ with_doubt m.certain m.doubt
Retrieves m (Err e) = e ≡ fault.NoMemory
