-- Records ahead: those that a storage holds already, after the ones that it has given out. What each
-- call does to them. `was` and `is` stand for the records ahead before the call and after it. In the
-- same way, `old` and `new` stand for the records that those ahead follow.
use Rattle.std.specs.Prelude.{◌≡◌, ◌⊎◌, ◌<◌, ◌++◌, ◌∷◌, Bool, IfErr, List, MatchBool, MatchResult, None}
use Rattle.std.specs.Prelude.{Ok, OnOk, Option, Result, [], false, length, true, ℕ}
use Rattle.urb_stable.specs.Entries.{Entry}
use Rattle.urb_stable.specs.StableStorage.{is_place}
use Rattle.urb_stable.specs.declared.stable.StoreFault.{StoreFault}

-- A call keeps the records ahead, and those that they follow.
pub record KeepsAhead (was old is new : List Entry) : Type 0 where
  pub ahead : is ≡ was
  pub base : new ≡ old

-- A store takes the first record ahead: it is the one that was to be stored. The answer is Ok. The
-- rest stay ahead, and they follow the first one too.
pub record IsTaken (head : Entry) (tail old is new : List Entry) (entry : Entry)
    (result : Result (Unit {0}) StoreFault) : Type 0 where
  pub first : entry ≡ head
  pub ok : result ≡ Ok tt
  pub ahead : is ≡ tail
  pub base : new ≡ old ++ head ∷ []

-- Another record is to be stored. The storage takes the records ahead out again: none are ahead any
-- more, whatever becomes of that record.
pub record IsReplaced (head : Entry) (is : List Entry) (entry : Entry) : Type 0 where
  pub another : ¬ (entry ≡ head)
  pub ahead : is ≡ []

-- A store in place fails, and keeps the records ahead. No record is in doubt. The storage can't take
-- them out for another record. Or it has failed already in the call that was to keep them.
pub record IsRefused (was old is new : List Entry) (left : Option Entry)
    (result : Result (Unit {0}) StoreFault) : Type 0 where
  pub fails : MatchResult result (λ _. ⊥) (λ e. is_place e ≡ false)
  pub sure : left ≡ None
  pub keeps : KeepsAhead was old is new

-- A store is out of place, as its fault says. It keeps the records ahead.
pub record IsMissed (was old is new : List Entry) (result : Result (Unit {0}) StoreFault)
    : Type 0 where
  pub fails : MatchResult result (λ _. ⊥) (λ e. is_place e ≡ true)
  pub keeps : KeepsAhead was old is new

-- What storing one record does to those ahead. If none were ahead, none are. Else the store takes
-- the first one, or all of them are taken out for another one. Or the store fails, or is out of
-- place. `left` is the record in doubt after the call.
abbrev pub TakesAhead : (was old is new : List Entry) → Option Entry → Entry
    → Result (Unit {0}) StoreFault → Type 0
TakesAhead [] old is new left entry result = is ≡ []
TakesAhead (head ∷ tail) old is new left entry result =
    IsTaken head tail old is new entry result
    ⊎ (IsReplaced head is entry
    ⊎ (IsRefused (head ∷ tail) old is new left result
    ⊎ IsMissed (head ∷ tail) old is new result))

-- What storing several records together does to those ahead. It keeps them. If some are ahead, and
-- the list isn't empty, the call fails.
pub record SparesAhead (was old is new : List Entry) (entries : List Entry)
    (result : Result (Unit {0}) StoreFault) : Type 0 where
  pub keeps : KeepsAhead was old is new
  pub fails : 0 < length was → 0 < length entries → OnOk result ⊥

-- a call keeps the records ahead, or none are ahead after it
abbrev pub KeepsOrDrops : (was old is new : List Entry) → Type 0
KeepsOrDrops was old is new = KeepsAhead was old is new ⊎ (is ≡ [])

-- A storage keeps its next position, and what it knows of a doubtful record.
pub record StandsStill (old_place : ℕ) (was_doubtful : Bool) (old_doubt : Option Entry)
    (new_place : ℕ) (is_doubtful : Bool) (new_doubt : Option Entry) : Type 0 where
  pub place : new_place ≡ old_place
  pub doubtful : is_doubtful ≡ was_doubtful
  pub doubt : new_doubt ≡ old_doubt

-- Records that are kept ahead are no store of their node: a storage gains no trust by them. Nor does
-- a failure shut an honest storage, if it has returned what was written. The next store fails.
pub record StaysTrusted (was_clean was_honest is_clean is_honest : Type 0) : Type 0 where
  pub clean : is_clean → was_clean
  pub honest : is_honest → was_honest
  pub alive : was_honest → is_clean → is_honest

-- The storage holds these records ahead. If it was honest, they follow its certain records. What a
-- stop leaves is as of any other storage: the records ahead aren't promised to be there.
pub record HoldsAhead (records is certain new : List Entry) (was_honest rests : Type 0)
    : Type 0 where
  pub ahead : is ≡ records
  pub base : was_honest → new ≡ certain
  pub rest : rests

-- A storage was asked to hold records ahead. The answer is Place exactly if it can't hold them.
abbrev pub IsHoldRefused : Bool → Result (Unit {0}) StoreFault → Type 0
IsHoldRefused true result = IfErr result (λ e. is_place e ≡ false)
IsHoldRefused false result = MatchResult result (λ _. ⊥) (λ e. is_place e ≡ true)

-- A storage was asked to hold records ahead, and gave this answer. After Place nothing has changed.
-- After another fault the records may be there: they are ahead.
abbrev pub MayHoldAhead : {S : Type 0} → S → S → Type 0 → Result (Unit {0}) StoreFault → Type 0
MayHoldAhead before after holds result =
    MatchResult result (λ _. holds) (λ e. MatchBool (is_place e) (after ≡ before) holds)
