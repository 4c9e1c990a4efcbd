-- Words of the worked examples: a store each part of which is a value of its own, and records.
use Rattle.std.specs.Prelude.{Bool, Err, IsTrue, List, None, Ok, Option, Result, [], false, true, ℕ}
use Rattle.std.specs.Prelude.{◌∷◌}
use Rattle.urb_names.specs.LabelsAndContents.{Content}
use Rattle.urb_names.specs.Names.{name}
use Rattle.urb_stable.specs.AheadStores.{AheadView}
use Rattle.urb_stable.specs.Entries.{Entry}
use Rattle.urb_stable.specs.PlacedRecords.{Placed}
use Rattle.urb_stable.specs.declared.record.Record.TheVariants.{Cert, Pend}
use Rattle.urb_stable.specs.declared.stable.Stable.{Ghosts}
use Rattle.urb_stable.specs.declared.stable.StoreFault.{StoreFault}
use Rattle.urb_stable.specs.declared.stable.StoreFault.TheVariants.{Device}

-- What contracts see of a store. `left` has the lists that a stop may leave, and `room` says whether
-- the store can hold records ahead.
pub record Seen : Type 0 where
  pub certain : List Entry
  pub doubt : Option Entry
  pub doubtful : Bool
  pub place : ℕ
  pub failures : ℕ
  pub clean : Bool
  pub honest : Bool
  pub shut : Bool
  pub left : List (List Entry)
  pub ahead : List Entry
  pub base : List Entry
  pub room : Bool

-- each of these lists has the property
abbrev pub EachHas : List (List Entry) → (List Entry → Type 0) → Type 0
EachHas [] P = Unit {0}
EachHas (list ∷ rest) P = P list × EachHas rest P

-- the ghost values of such a store
abbrev pub seen : Ghosts Seen (Unit {0})
seen = record {
  certain = λ s. s.certain;
  doubt = λ s. s.doubt;
  is_doubtful = λ s. s.doubtful;
  place = λ s. s.place;
  failures = λ s. s.failures;
  is_clean = λ s. IsTrue s.clean;
  is_honest = λ s. IsTrue s.honest;
  is_shut = λ s. IsTrue s.shut;
  leaves_only = λ s P. EachHas s.left P;
  stores = λ s pos entry answer. Unit {0};
  answers = λ s answer. Unit {0};
  ahead = λ s. s.ahead;
  base = λ s. s.base;
  can_hold = λ s records. s.room;
}

-- a message of client 7 with this number, which has no payload
abbrev pub text : ℕ → Content
text number = record { client = 7; number = number; payload = [] }

-- the record of node 1's message with this number, which is pending
abbrev pub pending : ℕ → Entry
pending number = Pend (name 1 number) (text number)

-- the certificate of that message
abbrev pub certificate : ℕ → Entry
certificate number = Cert (name 1 number)

-- node 1's draft of its message with this number, at this position
abbrev pub draft : ℕ → ℕ → Placed
draft pos number = record { node = 1; pos = pos; entry = pending number }

-- an honest store with these records, the next position and no record ahead
abbrev pub storing : List Entry → ℕ → Seen
storing records place = record {
  certain = records;
  doubt = None;
  doubtful = false;
  place = place;
  failures = 0;
  clean = true;
  honest = true;
  shut = false;
  left = records ∷ [];
  ahead = [];
  base = [];
  room = true;
}

-- an honest store that has node 1's first record
abbrev pub with_one : Seen
with_one = storing (pending 1 ∷ []) 2

-- one that has node 1's first two records
abbrev pub with_two : Seen
with_two = storing (pending 1 ∷ pending 2 ∷ []) 3

-- a store that isn't honest, with node 1's first record
abbrev pub suspect : Seen
suspect = record with_one { honest = false }

-- one that a failure has shut
abbrev pub closed : Seen
closed = record with_one { honest = false; shut = true }

-- one whose last store has failed: a retrieve must come first
abbrev pub in_doubt : Seen
in_doubt = record with_one { doubtful = true; failures = 1 }

-- node 1's first two records, for certain
abbrev pub both : List Entry
both = pending 1 ∷ pending 2 ∷ []

-- a store over one that has both records: the first is given out, and the second is ahead
abbrev pub one_ahead : AheadView Seen
one_ahead = record {
  store = with_two;
  start = with_one;
  base = pending 1 ∷ [];
  ahead = pending 2 ∷ [];
  failing = false;
  spent = false;
  failures = 0;
}

-- a store over one that failed to keep the second record ahead: it may have been kept
abbrev pub failing_ahead : AheadView Seen
failing_ahead = record one_ahead {
  store = record in_doubt { left = (pending 1 ∷ []) ∷ both ∷ [] };
  failing = true;
  spent = true;
}

-- the answer Ok of a store
abbrev pub kept : Result (Unit {0}) StoreFault
kept = Ok tt

-- the answer of a store whose device has failed
abbrev pub failed : Result (Unit {0}) StoreFault
failed = Err Device
