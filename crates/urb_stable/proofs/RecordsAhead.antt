-- Records ahead: what a stop leaves of the storage that holds them (`left-ahead`), and what a store
-- does to them, for a caller that doesn't compare records (`ahead-either`).
use Rattle.urb_stable.proofs.Common.{Entry, List, Ok, Option, Result, [], arith, inl, inr, length, refl}
use Rattle.urb_stable.proofs.Common.{◌++◌, ◌<◌, ◌∷◌, ◌≡◌, ◌⊎◌}
use Rattle.urb_stable.specs.AheadStores.{AheadView, LeavesInside, ghosts_over}
use Rattle.urb_stable.specs.RecordsAhead.{KeepsAhead, TakesAhead}
use Rattle.urb_stable.specs.declared.stable.Stable.{Ghosts}
use Rattle.urb_stable.specs.declared.stable.StoreFault.{StoreFault}

-- the records ahead once a store took the first of them
pub record TakesFirst (was old is new : List Entry) (entry : Entry)
    (result : Result (Unit {0}) StoreFault) : Type 0 where
  pub ok : result ≡ Ok tt
  pub ahead : was ≡ entry ∷ is
  pub base : new ≡ old ++ entry ∷ []

-- an empty list has no records
none_ahead : (xs : List Entry) → xs ≡ [] → 0 < length xs → ⊥
none_ahead xs e some = let h : 0 < length {A = Entry} [] = rw e at some in omega arith

-- if records are ahead after a store, it took the first one, or it changed nothing
pub ahead-either : (was old is new : List Entry) (left : Option Entry)
    (entry : Entry) (result : Result (Unit {0}) StoreFault)
    → TakesAhead was old is new left entry result → 0 < length is
    → TakesFirst was old is new entry result ⊎ KeepsAhead was old is new
ahead-either [] old is new left entry result takes some =
    let none : is ≡ [] = takes in
    absurd (none_ahead is none some)
ahead-either (head ∷ tail) old is new left entry result (inl taken) some =
    inl (record {
      ok = taken.ok;
      ahead = rw (taken.first, taken.ahead) refl;
      base = rw taken.first taken.base;
    })
ahead-either (head ∷ tail) old is new left entry result (inr (inl replaced)) some =
    absurd (none_ahead is replaced.ahead some)
ahead-either (head ∷ tail) old is new left entry result (inr (inr (inl refused))) some =
    inr refused.keeps
ahead-either (head ∷ tail) old is new left entry result (inr (inr (inr missed))) some =
    inr missed.keeps

module _ {S A : Type 0} (g : Ghosts S A) where
  -- what a stop leaves of the inner store, by what it leaves of the store over it
  pub left-ahead : (s : AheadView S) (P : List Entry → Type 0)
      → (ghosts_over g).leaves_only s P → LeavesInside g s P
  left-ahead s P (inl none) =
      record {
        none = λ empty. inl none.1;
        some = λ some. absurd (none_ahead s.ahead none.0 some);
      }
  left-ahead s P (inr held) =
      record {
        none = λ empty. inr (rw empty at held);
        some = λ some. held;
      }
