-- A list from which one element is taken, and another one is put in its place.
use Rattle.std.proofs.Common.{List, Some, [], ap, arith, inl, inr, length, map, refl, set}
use Rattle.std.proofs.Common.{slice_index_or, suc, sym, zero, ℕ, ◌<◌, ◌∷◌, ◌≡◌, ◌⊎◌}
use Rattle.std.specs.List.{insert, remove}
use Rattle.std.specs.Prelude.{slice_get}

-- taking an element out and putting another in equals writing over it
pub insert_removed : {X : Type 0} (xs : List X) (i : ℕ) (y : X) → i < length xs
    → insert (remove xs i) i y ≡ set xs i y
insert_removed [] i y lt = absurd (omega arith)
insert_removed (x ∷ xs) zero y lt = refl
insert_removed (x ∷ xs) (suc i) y lt = ap (λ ys. x ∷ ys) (insert_removed xs i y (omega arith))

-- what is read after a write is what was written, or what was there
pub read_after_write : {X : Type 0} (xs : List X) (i k : ℕ) (y z : X)
    → slice_get (set xs i y) k ≡ Some z → ((k ≡ i) × (z ≡ y)) ⊎ (slice_get xs k ≡ Some z)
read_after_write [] i k y z e = inr e
read_after_write (x ∷ xs) zero zero y z e = inl (refl, cc)
read_after_write (x ∷ xs) zero (suc k) y z e = inr e
read_after_write (x ∷ xs) (suc i) zero y z e = inr e
read_after_write (x ∷ xs) (suc i) (suc k) y z e =
    elim (read_after_write xs i k y z e) [ inl p ↦ inl (ap suc p.0, p.1) | inr q ↦ inr q ]

same_some : {X : Type 0} (y x : X) → Some y ≡ Some x → y ≡ x
same_some y x e = cc

-- what is read of a map is what was there, mapped
pub read_mapped : {X Y : Type 0} (f : X → Y) (xs : List X) (i : ℕ) (x : X) (d : Y)
    → slice_get xs i ≡ Some x → slice_index_or (map f xs) i d ≡ f x
read_mapped f [] i x d e = absurd cc
read_mapped f (y ∷ ys) zero x d e = ap f (same_some y x e)
read_mapped f (y ∷ ys) (suc i) x d e = read_mapped f ys i x d e

-- what is read is within the list
pub read_within : {X : Type 0} (xs : List X) (i : ℕ) (x : X) → slice_get xs i ≡ Some x
    → i < length xs
read_within [] i x e = absurd cc
read_within (y ∷ ys) zero x e = omega arith
read_within (y ∷ ys) (suc i) x e = let h : i < length ys = read_within ys i x e in omega arith

-- writing what is there already changes nothing
pub set_same : {X : Type 0} (xs : List X) (i : ℕ) (x : X) → slice_get xs i ≡ Some x
    → set xs i x ≡ xs
set_same [] i x e = refl
set_same (y ∷ ys) zero x e = ap (λ z. z ∷ ys) (sym (same_some y x e))
set_same (y ∷ ys) (suc i) x e = ap (λ zs. y ∷ zs) (set_same ys i x e)
