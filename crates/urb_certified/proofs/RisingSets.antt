-- Rising lists with the same elements are equal.
use Rattle.urb_certified.proofs.Common.{Bool, IsOrder, List, [], and_parts, any_insert, ap, ap₂}
use Rattle.urb_certified.proofs.Common.{cond, false, false_from_ne_true, false≢true, inl, inr}
use Rattle.urb_certified.proofs.Common.{is_rising, list_all, list_any, or_cases, or_left, placed}
use Rattle.urb_certified.proofs.Common.{refl, rising_placed, set_of, subst, sym, true, ◌||◌, ◌∙◌}
use Rattle.urb_certified.proofs.Common.{◌∷◌, ◌≡◌, ◌⊎◌}
use Rattle.urb_names.proofs.ElementPlaces.{IsStrictOrder}

module _ {X : Type 0} (before same : X → X → Bool) (laws : IsOrder before same) where
  strict_order : IsStrictOrder before same
  strict_order = record { transitive = laws.transitive; one_way = laws.one_way }

  -- in a sorted list, later elements come after earlier ones
  pub comes_after : (x z : X) (xs : List X) → list_all (before x) xs ≡ true
      → list_any (λ y. same y z) xs ≡ true → before x z ≡ true
  comes_after x z [] h e = absurd (false≢true e)
  comes_after x z (y ∷ ys) h e =
      at (comes_after x z ys) (and_parts (before x y) (list_all (before x) ys) h)
      (or_cases (same y z) (list_any (λ w. same w z) ys) e)
    where
      at : (list_all (before x) ys ≡ true → list_any (λ w. same w z) ys ≡ true → before x z ≡ true)
          → (before x y ≡ true) × (list_all (before x) ys ≡ true)
          → (same y z ≡ true) ⊎ (list_any (λ w. same w z) ys ≡ true) → before x z ≡ true
      at ih parts (inl f) = subst (λ w. before x w ≡ true) (laws.equal y z f) parts.0
      at ih parts (inr f) = ih parts.1 f

  -- an element is not among those that come after it
  pub not_behind : (x : X) (xs : List X) → list_all (before x) xs ≡ true
      → list_any (λ y. same y x) xs ≡ false
  not_behind x xs h =
      false_from_ne_true _ (λ e. false≢true (sym (laws.strict x) ∙ comes_after x x xs h e))

  -- no two elements come before each other
  never_both : (x y : X) → before x y ≡ true → before y x ≡ true → ⊥
  never_both x y e f = false≢true (sym (laws.strict x) ∙ laws.transitive x y x e f)

  -- two sorted lists with the same elements have the same first element
  same_first : (x y : X) (xs ys : List X) → list_all (before x) xs ≡ true
      → list_all (before y) ys ≡ true
      → list_any (λ z. same z x) (y ∷ ys) ≡ true → list_any (λ z. same z y) (x ∷ xs) ≡ true → x ≡ y
  same_first x y xs ys h k e f =
      at (or_cases (same y x) (list_any (λ z. same z x) ys) e)
      (or_cases (same x y) (list_any (λ z. same z y) xs) f)
    where
      at : (same y x ≡ true) ⊎ (list_any (λ z. same z x) ys ≡ true)
          → (same x y ≡ true) ⊎ (list_any (λ z. same z y) xs ≡ true) → x ≡ y
      at (inl g) l = sym (laws.equal y x g)
      at (inr g) (inl l) = laws.equal x y l
      at (inr g) (inr l) = absurd (never_both x y (comes_after x y xs h l) (comes_after y x ys k g))

  -- sorted lists with the same elements are equal
  pub rising_same : (xs ys : List X) → is_rising before xs ≡ true → is_rising before ys ≡ true
      → ((x : X) → list_any (λ y. same y x) xs ≡ list_any (λ y. same y x) ys) → xs ≡ ys
  rising_same [] [] h k e = refl
  rising_same [] (y ∷ ys) h k e =
      absurd (false≢true (e y ∙ or_left (same y y) (list_any (λ z. same z y) ys) (laws.itself y)))
  rising_same (x ∷ xs) [] h k e =
      absurd (false≢true (sym (e x)
      ∙ or_left (same x x) (list_any (λ z. same z x) xs) (laws.itself x)))
  rising_same (x ∷ xs) (y ∷ ys) h k e =
      ap₂ (λ z zs. z ∷ zs) first (rising_same xs ys order.1 later.1 rest)
    where
      order : (list_all (before x) xs ≡ true) × (is_rising before xs ≡ true)
      order = and_parts (list_all (before x) xs) (is_rising before xs) h

      later : (list_all (before y) ys ≡ true) × (is_rising before ys ≡ true)
      later = and_parts (list_all (before y) ys) (is_rising before ys) k

      first : x ≡ y
      first =
          same_first x y xs ys order.0 later.0
          (sym (e x) ∙ or_left (same x x) (list_any (λ z. same z x) xs) (laws.itself x))
          (e y ∙ or_left (same y y) (list_any (λ z. same z y) ys) (laws.itself y))

      at : (z : X) → (b : Bool) → same x z ≡ b
          → (b || list_any (λ w. same w z) xs) ≡ (b || list_any (λ w. same w z) ys)
          → list_any (λ w. same w z) xs ≡ list_any (λ w. same w z) ys
      at z true f g =
          let here : x ≡ z = laws.equal x z f in
          subst (λ w. list_any (λ v. same v w) xs ≡ false) here (not_behind x xs order.0)
          ∙ sym (subst (λ w. list_any (λ v. same v w) ys ≡ false) (sym first ∙ here)
          (not_behind y ys later.0))
      at z false f g = g

      rest : (z : X) → list_any (λ w. same w z) xs ≡ list_any (λ w. same w z) ys
      rest z =
          at z (same x z) refl (e z ∙ ap (λ w. same w z || list_any (λ v. same v z) ys) (sym first))

  -- a set has the elements of the list that makes it
  pub set_has : (xs : List X) (x : X)
      → list_any (λ y. same y x) (set_of before same xs) ≡ list_any (λ y. same y x) xs
  set_has [] x = refl
  set_has (y ∷ ys) x = at (set_has ys x) (list_any (λ z. same z y) (set_of before same ys)) refl
    where
      old : List X
      old = set_of before same ys

      there : list_any (λ z. same z y) old ≡ true → (c : Bool) → same y x ≡ c
          → list_any (λ z. same z x) old ≡ (c || list_any (λ z. same z x) old)
      there e true f = subst (λ w. list_any (λ z. same z w) old ≡ true) (laws.equal y x f) e
      there e false f = refl

      at : list_any (λ z. same z x) old ≡ list_any (λ z. same z x) ys → (b : Bool)
          → list_any (λ z. same z y) old ≡ b
          → list_any (λ z. same z x) (cond b old (placed before old y))
          ≡ (same y x || list_any (λ z. same z x) ys)
      at ih true e = there e (same y x) refl ∙ ap (λ b. same y x || b) ih
      at ih false e = any_insert (λ z. same z x) old _ y ∙ ap (λ b. same y x || b) ih

  -- the set is sorted
  pub set_rises : (xs : List X) → is_rising before (set_of before same xs) ≡ true
  set_rises [] = refl
  set_rises (y ∷ ys) = at (set_rises ys) (list_any (λ z. same z y) (set_of before same ys)) refl
    where
      at : is_rising before (set_of before same ys) ≡ true → (b : Bool)
          → list_any (λ z. same z y) (set_of before same ys) ≡ b
          → is_rising before (cond b (set_of before same ys)
          (placed before (set_of before same ys) y)) ≡ true
      at ih true e = ih
      at ih false e = rising_placed before same strict_order (set_of before same ys) y e ih

  -- lists with the same elements make the same set
  pub set_same : (xs ys : List X)
      → ((x : X) → list_any (λ y. same y x) xs ≡ list_any (λ y. same y x) ys)
      → set_of before same xs ≡ set_of before same ys
  set_same xs ys h =
      rising_same _ _ (set_rises xs) (set_rises ys) (λ x. set_has xs x ∙ (h x ∙ sym (set_has ys x)))

  -- one more element goes to its place
  pub set_with : (xs ys : List X) (x : X) → list_any (λ y. same y x) xs ≡ false
      → ((z : X) → list_any (λ y. same y z) ys ≡ (same x z || list_any (λ y. same y z) xs))
      → set_of before same ys ≡ placed before (set_of before same xs) x
  set_with xs ys x none h =
      rising_same _ _ (set_rises ys)
      (rising_placed before same strict_order (set_of before same xs) x (set_has xs x ∙ none)
      (set_rises xs))
      (λ z. set_has ys z ∙ (h z ∙ (ap (λ b. same x z || b) (sym (set_has xs z))
      ∙ sym (any_insert (λ y. same y z) (set_of before same xs) _ x))))
