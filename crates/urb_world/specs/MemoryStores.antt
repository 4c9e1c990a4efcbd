-- A store in memory, as one of all kinds of stores.
use Rattle.std.specs.Prelude.{List, [], false, length, ◌+◌}
use Rattle.urb_stable.specs.Entries.{Entry}
use Rattle.urb_stable.specs.MemoryStores.{Memory, Retrieves, Stores}
use Rattle.urb_stable.specs.StableStorage.{IsContents}
use Rattle.urb_stable.specs.declared.stable.Stable.{Ghosts}

-- the ghost values of a store in memory
abbrev pub in_memory : (A : Type 0) → Ghosts Memory A
in_memory A = record {
  certain = λ s. s.certain;
  doubt = λ s. s.doubt;
  is_doubtful = λ s. s.doubtful;
  place = λ s. length s.certain + 1;
  failures = λ s. s.failures;
  is_clean = λ s. Unit {0};
  is_honest = λ s. Unit {0};
  is_shut = λ s. ⊥;
  leaves_only = λ s P. (records : List Entry) → IsContents s.certain s.doubt records → P records;
  stores = λ s pos entry. Stores s pos;
  answers = Retrieves;
  ahead = λ s. [];
  base = λ s. [];
  can_hold = λ s records. false;
}
