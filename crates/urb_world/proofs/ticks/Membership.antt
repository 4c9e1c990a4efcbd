-- Elements of a list, and of the lists that are made of it.
use Rattle.urb_world.proofs.Common.{AllByRecursion, Bool, Content, Label, List, Some, [], and_parts}
use Rattle.urb_world.proofs.Common.{ap, ap₂, arith, cond-true, cond_both, false≢true, filter}
use Rattle.urb_world.proofs.Common.{flat_map, has_pair, inl, inr, inserted, length, map, name_lt}
use Rattle.urb_world.proofs.Common.{or_cases, refl, rising, same_message, same_message-true}
use Rattle.urb_world.proofs.Common.{same_name, same_name-true, slice_get, subst, suc, sym, take}
use Rattle.urb_world.proofs.Common.{true, zero, ℕ, ⊎_elim, ◌&&◌, ◌++◌, ◌<◌, ◌∙◌, ◌∷◌, ◌≡◌, ◌⊎◌}

-- the element is in the list
abbrev pub IsIn : {A : Type 0} → A → List A → Type 0
IsIn x [] = ⊥
IsIn x (y ∷ ys) = (y ≡ x) ⊎ IsIn x ys

-- an element of the first of two lists is in both lists together
pub in-left : {A : Type 0} (x : A) (xs ys : List A) → IsIn x xs → IsIn x (xs ++ ys)
in-left x [] ys h = absurd h
in-left x (y ∷ xs) ys h = ⊎_elim (λ e. inl e) (λ e. inr (in-left x xs ys e)) h

-- an element of the second of two lists is in both lists together
pub in-right : {A : Type 0} (x : A) (xs ys : List A) → IsIn x ys → IsIn x (xs ++ ys)
in-right x [] ys h = h
in-right x (y ∷ xs) ys h = inr (in-right x xs ys h)

-- the function's value for an element of a list is in the mapped list
pub in-map : {A B : Type 0} (f : A → B) (x : A) (xs : List A) → IsIn x xs → IsIn (f x) (map f xs)
in-map f x [] h = absurd h
in-map f x (y ∷ xs) h = ⊎_elim (λ e. inl (ap f e)) (λ e. inr (in-map f x xs e)) h

-- an element that passes the test is in the filtered list
pub in-filter : {A : Type 0} (test : A → Bool) (x : A) (xs : List A) → test x ≡ true → IsIn x xs
    → IsIn x (filter test xs)
in-filter test x [] e h = absurd h
in-filter test x (y ∷ xs) e h =
    ⊎_elim (λ f. subst (IsIn x) (sym
    (cond-true (test y) (y ∷ filter test xs) (filter test xs) (ap test f ∙ e))) (inl f))
    (λ f. cond_both (test y) (y ∷ filter test xs) (filter test xs) (IsIn x)
    (λ _. inr (in-filter test x xs e f)) (λ _. in-filter test x xs e f)) h

-- each element of the list that the function gives for an element is in the flattened list
pub in-flat_map : {A B : Type 0} (f : A → List B) (x : A) (xs : List A) (y : B) → IsIn x xs
    → IsIn y (f x) → IsIn y (flat_map f xs)
in-flat_map f x [] y h k = absurd h
in-flat_map f x (z ∷ xs) y h k =
    ⊎_elim (λ e. in-left y (f z) (flat_map f xs) (subst (λ (v : _). IsIn y (f v)) (sym e) k))
    (λ e. in-right y (f z) (flat_map f xs) (in-flat_map f x xs y e k)) h

-- what holds for each element holds for this one
pub in-all : {A : Type 0} (P : A → Type 0) (x : A) (xs : List A) → AllByRecursion P xs → IsIn x xs
    → P x
in-all P x [] h k = absurd k
in-all P x (y ∷ xs) h k = ⊎_elim (λ e. subst P e h.0) (λ e. in-all P x xs h.1 e) k

-- a property that each element of the list has holds for all
pub all-in : {A : Type 0} (P : A → Type 0) (xs : List A) → ((x : A) → IsIn x xs → P x)
    → AllByRecursion P xs
all-in P [] h = tt
all-in P (x ∷ xs) h = (h x (inl refl), all-in P xs (λ y k. h y (inr k)))

-- an element of a list has a place in it
pub in-place : {A : Type 0} (x : A) (xs : List A) → IsIn x xs → (i : ℕ) × (slice_get xs i ≡ Some x)
in-place x [] h = absurd h
in-place x (y ∷ xs) h =
    ⊎_elim (λ e. (zero, ap Some e)) (λ e. let at = in-place x xs e in (suc at.0, at.1)) h

-- the list splits into the elements before an element, the element, and those after it
pub in-split : {A : Type 0} (x : A) (xs : List A) → IsIn x xs
    → (us : List A) × (vs : List A) × (xs ≡ us ++ x ∷ vs)
in-split x [] h = absurd h
in-split x (y ∷ xs) h =
    ⊎_elim (λ e. ([], xs, ap (λ z. z ∷ xs) e))
    (λ e. let at = in-split x xs e in (y ∷ at.0, at.1, ap (λ zs. y ∷ zs) at.2)) h

-- an element is among the first n if fewer than n are before it
pub in-take : {A : Type 0} (n : ℕ) (us : List A) (x : A) (vs : List A) → length us < n
    → IsIn x (take n (us ++ x ∷ vs))
in-take zero us x vs l = absurd (omega arith)
in-take (suc n) [] x vs l = inl refl
in-take (suc n) (u ∷ us) x vs l = inr (in-take n us x vs (omega arith))

-- ---- pairs

-- a pair that is found by its name and message is an element of the list
pub in-pairs : (pairs : List (Label × Content)) (x : Label) (m : Content)
    → has_pair pairs x m ≡ true → IsIn (x, m) pairs
in-pairs [] x m h = absurd (false≢true h)
in-pairs (pair ∷ pairs) x m h =
    ⊎_elim (λ e. let parts = and_parts (same_name pair.0 x) (same_message pair.1 m) e in
    inl (ap₂ together (same_name-true pair.0 x parts.0) (same_message-true pair.1 m parts.1)))
    (λ e. inr (in-pairs pairs x m e))
    (or_cases (same_name pair.0 x && same_message pair.1 m) (has_pair pairs x m) h)
  where
    together : Label → Content → Label × Content
    together y o = (y, o)

in-inserted : (p : Label × Content) (d : Label × Content) (ps : List (Label × Content))
    → IsIn d (p ∷ ps) → IsIn d (inserted p ps)
in-inserted p d [] h = h
in-inserted p d (q ∷ ps) h =
    cond_both (name_lt q.0 p.0) (q ∷ inserted p ps) (p ∷ q ∷ ps) (IsIn d)
    (λ _. ⊎_elim (λ e. inr (in-inserted p d ps (inl e)))
    (λ k. ⊎_elim (λ e. inl e) (λ e. inr (in-inserted p d ps (inr e))) k) h) (λ _. h)

-- a pair of the list is in the list in rising order
pub in-rising : (d : Label × Content) (ps : List (Label × Content)) → IsIn d ps → IsIn d (rising ps)
in-rising d [] h = h
in-rising d (p ∷ ps) h =
    in-inserted p d (rising ps) (⊎_elim (λ e. inl e) (λ e. inr (in-rising d ps e)) h)
