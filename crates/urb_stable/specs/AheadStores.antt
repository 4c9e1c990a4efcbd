-- A store that holds records ahead, over another store: what contracts see of it, and its ghost
-- values.
use Rattle.std.specs.Prelude.{◌≡◌, ◌⊎◌, ◌<◌, ◌+◌, ◌-◌, ◌^◌, ◌++◌, ◌∷◌, Bool, Err, List, None, Ok}
use Rattle.std.specs.Prelude.{Result, [], cond, false, length, nat_lt, not, take, true, ℕ}
use Rattle.urb_stable.specs.Entries.{Entry}
use Rattle.urb_stable.specs.StableStorage.{IsContents, IsPlaced, is_out_of_place}
use Rattle.urb_stable.specs.StoredTogether.{IsContentsOrAll, is_misplaced}
use Rattle.urb_stable.specs.declared.stable.Stable.{Ghosts}
use Rattle.urb_stable.specs.declared.stable.StoreFault.{StoreFault}
use Rattle.urb_stable.specs.declared.stable.StoreFault.TheVariants as fault

-- The inner store, now and before it was to keep the records ahead (`start`). The records that were
-- given out before those ahead (`base`), and those ahead. Whether the inner store failed to keep
-- them (`failing`): then it has all of them or none. Whether a retrieve must come first (`spent`):
-- the inner store couldn't take them out for another record, or it failed to keep them and a record
-- was to be stored. How often this store has failed.
pub record AheadView (S : Type 0) : Type 0 where
  pub store : S
  pub start : S
  pub base : List Entry
  pub ahead : List Entry
  pub failing : Bool
  pub spent : Bool
  pub failures : ℕ

-- The certain records, if those of the inner store are `certain`. While records are ahead, they are
-- the ones that these follow.
abbrev pub given_out : (certain base ahead : List Entry) → List Entry
given_out certain base [] = certain
given_out certain base (first ∷ rest) = base

-- The next position, if that of the inner store is `place`. The records ahead take the last
-- positions before that one, unless the inner store failed to keep them.
abbrev pub place_before : ℕ → List Entry → Bool → ℕ
place_before place [] failing = place
place_before place (first ∷ rest) true = place
place_before place (first ∷ rest) false = place - length (first ∷ rest)

-- Whether a retrieve must come first. While records are ahead, that is so if the store is spent.
abbrev pub must_retrieve : List Entry → Bool → Bool → Bool
must_retrieve [] spent doubtful = doubtful
must_retrieve (first ∷ rest) spent doubtful = spent

-- Whether the inner store is honest. A failure to keep the records ahead may have shut it. Then it
-- must have been honest before that, and must be clean.
abbrev pub IsWhole : Bool → (was_honest is_clean is_honest : Type 0) → Type 0
IsWhole true was_honest is_clean is_honest = was_honest × is_clean
IsWhole false was_honest is_clean is_honest = is_honest

-- what the inner store holds while records are ahead: the base and all of them, or just the base if
-- it failed to keep them
abbrev pub IsInside : Bool → (base ahead records : List Entry) → Type 0
IsInside true base ahead = IsContentsOrAll ahead base None
IsInside false base ahead = IsContents (base ++ ahead) None

-- What a stop leaves of the inner store: the base and all records ahead. Or if some are ahead, it may
-- be just the base.
abbrev pub LeavesInner : ((List Entry → Type 0) → Type 0) → (base ahead : List Entry) → Type 0
LeavesInner leaves base ahead =
    leaves (IsInside false base ahead) ⊎ ((0 < length ahead) × leaves (IsInside true base ahead))

-- A stop leaves what it leaves of the inner store, less the records ahead. `leaves` says what it
-- leaves of the inner store. If none are ahead, that is the same. Or it leaves the base and those
-- ahead of the inner store, and so just the base of this one.
abbrev pub LeavesLess : ((List Entry → Type 0) → Type 0) → (base ahead : List Entry)
    → (List Entry → Type 0) → Type 0
LeavesLess leaves base ahead P =
    ((ahead ≡ []) × leaves P) ⊎ (LeavesInner leaves base ahead × P base)

-- the fault of a call that fails here: NoMemory if no further failure can be counted
abbrev pub fault_after : ℕ → StoreFault
fault_after failures = cond (nat_lt failures (2 ^ 64 - 1)) fault.Device fault.NoMemory

-- What storing a record answers while some are ahead, of which `first` is the first one. At another
-- position it is Place. Else it is Ok for this record. For another one it is what the inner store
-- answers once those ahead are taken out, or a failure. While the store is failing, it fails.
abbrev pub AnswersFirst : Bool → Bool → ℕ → ℕ → Entry → Entry → Result (Unit {0}) StoreFault → Type 0
AnswersFirst true failing next failures first entry answer = answer ≡ Err (fault.Place next)
AnswersFirst false true next failures first entry answer = answer ≡ Err (fault_after failures)
AnswersFirst false false next failures first entry answer =
    ((entry ≡ first) × (answer ≡ Ok tt)) ⊎ ((¬ (entry ≡ first)) × IsPlaced false next answer)

-- What storing a record answers. If none are ahead, `inner` says it: the inner store's answer.
abbrev pub StoresAt : Type 0 → Bool → Bool → ℕ → ℕ → List Entry → Entry
    → Result (Unit {0}) StoreFault → Type 0
StoresAt inner out_of_place failing next failures [] entry answer = inner
StoresAt inner out_of_place failing next failures (first ∷ rest) entry answer =
    AnswersFirst out_of_place failing next failures first entry answer

-- what is retrieved, less the last records of this number
abbrev pub without_last : ℕ → Result (List Entry) StoreFault → Result (List Entry) StoreFault
without_last count (Ok records) = Ok (take (length records - count) records)
without_last count (Err e) = Err e

-- What a retrieve answers. If none are ahead, or the store is failing, it is what the inner store
-- answers. Else it is that without the records ahead.
abbrev pub RetrievesLess : (Result (List Entry) StoreFault → Type 0) → List Entry → Bool
    → Result (List Entry) StoreFault → Type 0
RetrievesLess inner [] failing answer = inner answer
RetrievesLess inner (first ∷ rest) true answer = inner answer
RetrievesLess inner (first ∷ rest) false answer =
    (whole : Result (List Entry) StoreFault) × inner whole
    × (answer ≡ without_last (length (first ∷ rest)) whole)

-- Whether more records can be held ahead: none are ahead, and they wouldn't be out of place.
abbrev pub may_hold : List Entry → Bool → Bool
may_hold [] misplaced = not misplaced
may_hold (first ∷ rest) misplaced = false

module _ {S A : Type 0} (g : Ghosts S A) where
  -- a store over this one, with no records ahead
  abbrev pub fresh : S → AheadView S
  fresh store = record {
    store = store;
    start = store;
    base = g.certain store;
    ahead = [];
    failing = false;
    spent = false;
    failures = 0;
  }

  -- whether a retrieve must come before the next store
  abbrev pub needs_retrieve : AheadView S → Bool
  needs_retrieve s = must_retrieve s.ahead s.spent (g.is_doubtful s.store)

  -- the next position
  abbrev pub next_place : AheadView S → ℕ
  next_place s = place_before (g.place s.store) s.ahead s.failing

  -- whether the inner store is honest, or was before it failed to keep the records ahead
  abbrev pub IsTrusted : AheadView S → Type 0
  IsTrusted s = IsWhole s.failing (g.is_honest s.start) (g.is_clean s.store) (g.is_honest s.store)

  -- the ghost values of a store that holds records ahead, from those of the inner store
  abbrev pub ghosts_over : Ghosts (AheadView S) A
  ghosts_over = record {
    certain = λ s. given_out (g.certain s.store) s.base s.ahead;
    doubt = λ s. g.doubt s.store;
    is_doubtful = needs_retrieve;
    place = next_place;
    failures = λ s. g.failures s.store + s.failures;
    is_clean = λ s. g.is_clean s.store;
    is_honest = IsTrusted;
    is_shut = λ s. g.is_shut s.store;
    leaves_only = λ s. LeavesLess (g.leaves_only s.store) s.base s.ahead;
    stores = λ s pos entry answer. StoresAt (g.stores s.store pos entry answer)
        (is_out_of_place (needs_retrieve s) (next_place s) pos) s.failing (next_place s) s.failures
        s.ahead entry answer;
    answers = λ s. RetrievesLess (g.answers s.store) s.ahead s.failing;
    ahead = λ s. s.ahead;
    base = λ s. s.base;
    can_hold = λ s records. may_hold s.ahead
        (is_misplaced (g.is_doubtful s.store) (g.place s.store) (g.place s.store) records);
  }

  -- What is true of every store that may hold records ahead. It is failing or spent only if some are
  -- ahead. Its own count of failures has 64 bits. While some are ahead, the inner store has no record
  -- in doubt. Nor must a retrieve come first there, unless the store is failing. If that store is
  -- honest, its certain records are the base and those ahead, and a stop leaves just these. While the
  -- store is failing, the certain records of the inner store are the base. It was honest before, and
  -- a failure may have shut it. Its next position is the one after the base. A stop leaves all
  -- records ahead behind the base, or none.
  pub record IsSound (s : AheadView S) : Type 0 where
    pub spent : s.ahead ≡ [] → s.spent ≡ false
    pub failing : s.ahead ≡ [] → s.failing ≡ false
    pub bounded : s.failures < 2 ^ 64
    pub sure : 0 < length s.ahead → g.doubt s.store ≡ None
    pub settled : 0 < length s.ahead → s.failing ≡ false → g.is_doubtful s.store ≡ false
    pub follows : 0 < length s.ahead → s.failing ≡ false → g.is_honest s.store
        → g.certain s.store ≡ s.base ++ s.ahead
    pub failed : s.failing ≡ true → g.is_honest s.store → g.certain s.store ≡ s.base
    pub began : s.failing ≡ true → g.is_honest s.store → g.is_honest s.start
    pub alive : s.failing ≡ true → g.is_honest s.start → g.is_clean s.store
        → g.is_honest s.store ⊎ g.is_shut s.store
    pub counted : s.failing ≡ true → g.is_honest s.start → g.place s.store ≡ length s.base + 1
    pub left : 0 < length s.ahead → IsTrusted s
        → g.leaves_only s.store (IsInside s.failing s.base s.ahead)

  -- What a stop leaves of the inner store. If some are ahead, it is the base and all of them, or
  -- perhaps just the base. Then just the base is what a stop leaves of this store. If none are ahead,
  -- a stop leaves the same of both. Or that is just the base, which all records ahead have joined.
  pub record LeavesInside (s : AheadView S) (P : List Entry → Type 0) : Type 0 where
    pub none : s.ahead ≡ [] → g.leaves_only s.store P
        ⊎ (LeavesInner (g.leaves_only s.store) s.base [] × P s.base)
    pub some : 0 < length s.ahead → LeavesInner (g.leaves_only s.store) s.base s.ahead × P s.base
