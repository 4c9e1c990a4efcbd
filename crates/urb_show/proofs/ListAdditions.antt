-- One more entry in the list at a place.
use Rattle.urb_show.proofs.Common.{Err, List, MatchResult, Ok, Result, [], add_at, ap, arith, false}
use Rattle.urb_show.proofs.Common.{length, map, refl, slice_index_or, slice_set, suc, zero, ℕ, ◌++◌}
use Rattle.urb_show.proofs.Common.{◌<◌, ◌∙◌, ◌∷◌, ◌≡◌, ◌≤◌}
use Rattle.std.specs.Result.{is_err}
use Rattle.urb_show.specs.declared.entry.Entry.{Entry}

-- if the list of one element gets one more entry, the entry is added at that element's place
pub add_at-set : {A : Type 0} (f : A → List Entry) (vs : List A) (p : ℕ) (v w : A) (e : Entry)
    → p < length vs → v ≡ slice_index_or vs p v → f w ≡ f v ++ e ∷ []
    → map f (slice_set vs p w) ≡ add_at (map f vs) p e
add_at-set f [] p v w e low at is = absurd (omega arith)
add_at-set f (x ∷ vs) zero v w e low at is =
    ap (λ r. r ∷ map f vs) (is ∙ ap (λ u. f u ++ e ∷ []) at)
add_at-set f (x ∷ vs) (suc p) v w e low at is =
    ap (λ r. f x ∷ r) (add_at-set f vs p v w e (omega arith) at is)

-- an entry that is added at a place without a list changes nothing
pub add_at-beyond : (lists : List (List Entry)) (p : ℕ) (e : Entry) → length lists ≤ p
    → add_at lists p e ≡ lists
add_at-beyond [] p e far = refl
add_at-beyond (x ∷ xs) zero e far = absurd (omega arith)
add_at-beyond (x ∷ xs) (suc p) e far = ap (λ r. x ∷ r) (add_at-beyond xs p e (omega arith))

-- if the list of one element is unchanged, all lists are
pub add_at-same : {A : Type 0} (f : A → List Entry) (vs : List A) (p : ℕ) (v w : A) → p < length vs
    → v ≡ slice_index_or vs p v → f w ≡ f v → map f (slice_set vs p w) ≡ map f vs
add_at-same f [] p v w low at is = absurd (omega arith)
add_at-same f (x ∷ vs) zero v w low at is = ap (λ r. r ∷ map f vs) (is ∙ ap f at)
add_at-same f (x ∷ vs) (suc p) v w low at is =
    ap (λ r. f x ∷ r) (add_at-same f vs p v w (omega arith) at is)

-- a push adds the entry at its place, or returns the entry and leaves all lists
pub pushed : {A U : Type 0} (f : A → List Entry) (vs : List A) (p : ℕ) (v w : A) (e : Entry)
    (r : Result U Entry) → p < length vs → v ≡ slice_index_or vs p v
    → MatchResult r (λ _. f w ≡ f v ++ e ∷ []) (λ x. (x ≡ e) × (f w ≡ f v))
    → MatchResult r (λ _. map f (slice_set vs p w) ≡ add_at (map f vs) p e)
    (λ x. (x ≡ e) × (map f (slice_set vs p w) ≡ map f vs))
pushed f vs p v w e (Ok u) low at is = add_at-set f vs p v w e low at is
pushed f vs p v w e (Err x) low at is = (is.0, add_at-same f vs p v w low at is.1)

-- if a result is no failure, what is claimed for a success holds
pub when_ok : {U E : Type 0} (r : Result U E) (P : Type 0) (Q : E → Type 0) → is_err r ≡ false
    → MatchResult r (λ _. P) Q → P
when_ok (Ok u) P Q fine is = is
when_ok (Err e) P Q fine is = absurd (cc (fine))
