-- A store in memory after a call, as its code computes it.
use Rattle.std.specs.Prelude.{◌≡◌, ◌⊎◌, ◌<◌, ◌≤◌, ◌-◌, ◌^◌, false, [], ◌∷◌, ◌++◌, None, Some, Result}
use Rattle.std.specs.Prelude.{Ok, Err, List, length, take, ℕ, ◌+◌}
use Rattle.std.specs.Option.{OnSome}
use Rattle.urb_stable.specs.Entries.{Entry}
use Rattle.urb_stable.specs.MemoryStores.{Memory, after_failure, with_doubt, without_memory}
use Rattle.urb_stable.specs.declared.memory.Failure.TheVariants.{New, Old}
use Rattle.urb_stable.specs.declared.stable.StoreFault.{StoreFault}
use Rattle.urb_stable.specs.declared.stable.StoreFault.TheVariants as fault

-- the store after it kept the record
abbrev pub with_record : Entry → Memory → Memory
with_record entry m = record m { certain = m.certain ++ entry ∷ [] }

-- What a store at the right position does: first if it isn't armed, then if it is armed with each
-- of the two failures. If no further failure can be counted, an armed store returns NoMemory.
pub record StoresInMemory (old : Memory) (entry : Entry) (result : Result (Unit {0}) StoreFault)
    (new : Memory) : Type 0 where
  pub unarmed : old.armed ≡ None
      → ((result ≡ Ok tt) × (new ≡ with_record entry old))
      ⊎ ((result ≡ Err fault.NoMemory) × (new ≡ without_memory old))
  pub keeps_nothing : old.armed ≡ Some Old → old.failures < 2 ^ 64 - 1
      → (result ≡ Err fault.Device) × (new ≡ after_failure None old)
  pub keeps_it : old.armed ≡ Some New → old.failures < 2 ^ 64 - 1
      → ((result ≡ Err fault.Device) × (new ≡ after_failure (Some entry) old))
      ⊎ ((result ≡ Err fault.NoMemory) × (new ≡ without_memory old))
  pub uncounted : OnSome old.armed (2 ^ 64 - 1 ≤ old.failures
      → (result ≡ Err fault.NoMemory) × (new ≡ without_memory old))

-- the store after it kept these records
abbrev pub with_records : List Entry → Memory → Memory
with_records entries m = record m { certain = m.certain ++ entries }

-- What a store in memory does with several records in place. With an empty list it does nothing. If
-- it isn't armed, it keeps all of them, unless memory is refused. If it is armed, it keeps no record.
-- If no further failure can be counted, an armed store returns NoMemory.
pub record StoresAllInMemory (old : Memory) (entries : List Entry)
    (result : Result (Unit {0}) StoreFault) (new : Memory) : Type 0 where
  pub nothing : entries ≡ [] → (result ≡ Ok tt) × (new ≡ old)
  pub unarmed : 0 < length entries → old.armed ≡ None
      → ((result ≡ Ok tt) × (new ≡ with_records entries old))
      ⊎ ((result ≡ Err fault.NoMemory) × (new ≡ without_memory old))
  pub keeps_none : 0 < length entries → OnSome old.armed (old.failures < 2 ^ 64 - 1
      → (result ≡ Err fault.Device) × (new ≡ after_failure None old))
  pub uncounted : 0 < length entries → OnSome old.armed (2 ^ 64 - 1 ≤ old.failures
      → (result ≡ Err fault.NoMemory) × (new ≡ without_memory old))

-- the store after a retrieve
abbrev pub retrieved : Memory → Memory
retrieved m = record m { certain = with_doubt m.certain m.doubt; doubt = None; doubtful = false }

-- the store without its last `count` records
abbrev pub without_records : ℕ → Memory → Memory
without_records count m = record m { certain = take (length m.certain - count) m.certain }

-- the store after it failed to take records out
abbrev pub after_refusal : Memory → Memory
after_refusal m = record m { failures = m.failures + 1; armed = None }

-- What a store in memory does when it is to take out its last `count` records, and has as many. If
-- it isn't armed, it takes them out. If it is, it keeps all records. If no further failure can be
-- counted, an armed store returns NoMemory.
pub record WithdrawsInMemory (old : Memory) (count : ℕ) (result : Result (Unit {0}) StoreFault)
    (new : Memory) : Type 0 where
  pub unarmed : old.armed ≡ None → (result ≡ Ok tt) × (new ≡ without_records count old)
  pub keeps_all : OnSome old.armed (old.failures < 2 ^ 64 - 1
      → (result ≡ Err fault.Device) × (new ≡ after_refusal old))
  pub uncounted : OnSome old.armed (2 ^ 64 - 1 ≤ old.failures
      → (result ≡ Err fault.NoMemory) × (new ≡ record old { armed = None }))
