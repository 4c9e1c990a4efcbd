-- What a binary search finds among elements in rising order.
use Rattle.urb_certified.proofs.Common.{Bool, IsOrder, List, [], and_from, and_parts, ap, arith}
use Rattle.urb_certified.proofs.Common.{cond, false, false_from_ne_true, false≢true, filter, get_or}
use Rattle.urb_certified.proofs.Common.{is_rising, length, list_all, list_any, or_left, or_right}
use Rattle.urb_certified.proofs.Common.{prefix_len, refl, subst, suc, sym, true, zero, ℕ, ◌&&◌, ◌+◌}
use Rattle.urb_certified.proofs.Common.{◌<◌, ◌||◌, ◌∙◌, ◌∷◌, ◌≡◌, ◌≤◌}
use Rattle.std.specs.List.Sorted.{IsPartitionPoint, IsPartitionedBy}
use Rattle.std.proofs.lemmas.Bool.{and_left, and_right, cond-true}
use Rattle.urb_certified.proofs.RisingSets.{comes_after}

module _ {X : Type 0} (before same : X → X → Bool) (laws : IsOrder before same) where
  all_at : (test : X → Bool) (xs : List X) (j : ℕ) (d : X) → list_all test xs ≡ true → j < length xs
      → test (get_or xs j d) ≡ true
  all_at test [] j d h l = absurd (omega arith)
  all_at test (y ∷ ys) zero d h l = (and_parts (test y) (list_all test ys) h).0
  all_at test (y ∷ ys) (suc j) d h l =
      all_at test ys j d (and_parts (test y) (list_all test ys) h).1 (omega arith)

  -- the elements that come before a given one are at the front
  pub parted : (xs : List X) (x : X) → is_rising before xs ≡ true
      → IsPartitionedBy (λ y. before y x) xs
  parted [] x h i j d l m e = absurd (omega arith)
  parted (y ∷ ys) x h zero zero d l m e = e
  parted (y ∷ ys) x h zero (suc j) d l m e =
      laws.transitive y (get_or ys j d) x
      (all_at (before y) ys j d (and_parts (list_all (before y) ys) (is_rising before ys) h).0
      (omega arith)) e
  parted (y ∷ ys) x h (suc i) zero d l m e = absurd (omega arith)
  parted (y ∷ ys) x h (suc i) (suc j) d l m e =
      parted ys x (and_parts (list_all (before y) ys) (is_rising before ys) h).1 i j d (omega arith)
      (omega arith) e

  -- a partition point is the number of elements at the front
  pub point_is : (test : X → Bool) (xs : List X) (i : ℕ) (d : X) → i ≤ length xs
      → IsPartitionPoint (λ y. test y ≡ true) (λ y. test y ≡ false) xs i → i ≡ prefix_len test xs
  point_is test [] i d l h = omega arith
  point_is test (y ∷ ys) zero d l h =
      sym (ap (λ (b : Bool). cond b (1 + prefix_len test ys) 0)
      (h.1 0 d (omega arith) (omega arith)))
  point_is test (y ∷ ys) (suc i) d l h =
      let rest : i ≡ prefix_len test ys =
      point_is test ys i d (omega arith) (
        λ k e m n. h.0 (suc k) e (omega arith) (omega arith),
        λ k e m n. h.1 (suc k) e (omega arith) (omega arith),
      ) in
      let one : suc i ≡ 1 + prefix_len test ys = omega arith in
      one ∙ sym (ap (λ (b : Bool). cond b (1 + prefix_len test ys) 0)
      (h.0 0 d (omega arith) (omega arith)))

  -- the element found at the place is the one sought, or another
  pub found_is : (xs : List X) (x d : X) → is_rising before xs ≡ true
      → prefix_len (λ z. before z x) xs < length xs
      → list_any (λ z. same z x) xs ≡ same (get_or xs (prefix_len (λ z. before z x) xs) d) x
  found_is [] x d h l = absurd (omega arith)
  found_is (z ∷ zs) x d h l =
      at (found_is zs x d (and_parts (list_all (before z) zs) (is_rising before zs) h).1)
      (before z x) refl l
    where
      order : list_all (before z) zs ≡ true
      order = (and_parts (list_all (before z) zs) (is_rising before zs) h).0

      apart : before z x ≡ true → same z x ≡ false
      apart f =
          false_from_ne_true _ (λ g. false≢true
          (sym (laws.strict x) ∙ subst (λ w. before w x ≡ true) (laws.equal z x g) f))

      none : before z x ≡ false → list_any (λ w. same w x) zs ≡ false
      none f =
          false_from_ne_true _ (λ g. false≢true
          (sym f ∙ comes_after before same laws z x zs order g))

      here : (b : Bool) → list_any (λ w. same w x) zs ≡ false
          → (b || list_any (λ w. same w x) zs) ≡ b
      here true g = refl
      here false g = g

      one_more : (n : ℕ) → suc n ≡ 1 + n
      one_more n = omega arith

      at : (prefix_len (λ w. before w x) zs < length zs
          → list_any (λ w. same w x) zs ≡ same (get_or zs (prefix_len (λ w. before w x) zs) d) x)
          → (b : Bool) → before z x ≡ b
          → cond b (1 + prefix_len (λ w. before w x) zs) 0 < suc (length zs)
          → (same z x || list_any (λ w. same w x) zs) ≡ same
          (get_or (z ∷ zs) (cond b (1 + prefix_len (λ w. before w x) zs) 0) d) x
      at ih true f m =
          ap (λ b. b || list_any (λ w. same w x) zs) (apart f)
          ∙ (ih (omega arith) ∙ ap (λ (i : ℕ). same (get_or (z ∷ zs) i d) x)
          (one_more (prefix_len (λ w. before w x) zs)))
      at ih false f m = here (same z x) (none f)

  -- if the place is past the end, the element is not in the list
  pub absent_is : (xs : List X) (x : X) → is_rising before xs ≡ true
      → length xs ≤ prefix_len (λ z. before z x) xs → list_any (λ z. same z x) xs ≡ false
  absent_is [] x h l = refl
  absent_is (z ∷ zs) x h l =
      at (absent_is zs x (and_parts (list_all (before z) zs) (is_rising before zs) h).1)
      (before z x) refl l
    where
      apart : before z x ≡ true → same z x ≡ false
      apart f =
          false_from_ne_true _ (λ g. false≢true
          (sym (laws.strict x) ∙ subst (λ w. before w x ≡ true) (laws.equal z x g) f))

      at : (length zs ≤ prefix_len (λ w. before w x) zs → list_any (λ w. same w x) zs ≡ false)
          → (b : Bool) → before z x ≡ b
          → suc (length zs) ≤ cond b (1 + prefix_len (λ w. before w x) zs) 0
          → (same z x || list_any (λ w. same w x) zs) ≡ false
      at ih true f m = ap (λ b. b || list_any (λ w. same w x) zs) (apart f) ∙ ih (omega arith)
      at ih false f m = absurd (omega arith)

  -- a filter keeps the elements that pass it
  pub filter_has : (keep : X → Bool) (xs : List X) (x : X)
      → list_any (λ y. same y x) (filter keep xs) ≡ (keep x && list_any (λ y. same y x) xs)
  filter_has keep [] x = sym (and_right (keep x) false refl)
  filter_has keep (y ∷ ys) x = at (filter_has keep ys x) (keep y) refl (same y x) refl
    where
      at : list_any (λ z. same z x) (filter keep ys) ≡ (keep x && list_any (λ z. same z x) ys)
          → (b : Bool) → keep y ≡ b → (c : Bool) → same y x ≡ c
          → list_any (λ z. same z x) (cond b (y ∷ filter keep ys) (filter keep ys))
          ≡ (keep x && (same y x || list_any (λ z. same z x) ys))
      at ih true f true g =
          let passes : keep x ≡ true = ap keep (sym (laws.equal y x g)) ∙ f in
          or_left (same y x) _ g ∙ sym (and_from (keep x) _ passes (or_left (same y x) _ g))
      at ih true f false g =
          ap (λ b. b || list_any (λ z. same z x) (filter keep ys)) g
          ∙ (ih ∙ ap (λ b. keep x && (b || list_any (λ z. same z x) ys)) (sym g))
      at ih false f true g =
          let fails : keep x ≡ false = ap keep (sym (laws.equal y x g)) ∙ f in
          ih ∙ (and_left (keep x) _ fails ∙ sym (and_left (keep x) _ fails))
      at ih false f false g = ih ∙ ap (λ b. keep x && (b || list_any (λ z. same z x) ys)) (sym g)

  -- if all elements pass, the filter keeps all
  pub filter_all : (keep : X → Bool) (xs : List X)
      → ((x : X) → list_any (λ y. same y x) xs ≡ true → keep x ≡ true) → filter keep xs ≡ xs
  filter_all keep [] h = refl
  filter_all keep (y ∷ ys) h =
      cond-true (keep y) (y ∷ filter keep ys) (filter keep ys)
      (h y (or_left (same y y) _ (laws.itself y)))
      ∙ ap (λ zs. y ∷ zs) (filter_all keep ys (λ x e. h x (or_right (same y x) _ e)))

  filter_list_all : (test keep : X → Bool) (xs : List X) → list_all test xs ≡ true
      → list_all test (filter keep xs) ≡ true
  filter_list_all test keep [] h = refl
  filter_list_all test keep (y ∷ ys) h = at (filter_list_all test keep ys parts.1) (keep y)
    where
      parts : (test y ≡ true) × (list_all test ys ≡ true)
      parts = and_parts (test y) (list_all test ys) h

      at : list_all test (filter keep ys) ≡ true → (b : Bool)
          → list_all test (cond b (y ∷ filter keep ys) (filter keep ys)) ≡ true
      at ih true = and_from (test y) _ parts.0 ih
      at ih false = ih

  -- what the filter keeps stays in order
  pub filter_rises : (keep : X → Bool) (xs : List X) → is_rising before xs ≡ true
      → is_rising before (filter keep xs) ≡ true
  filter_rises keep [] h = refl
  filter_rises keep (y ∷ ys) h = at (filter_rises keep ys parts.1) (keep y)
    where
      parts : (list_all (before y) ys ≡ true) × (is_rising before ys ≡ true)
      parts = and_parts (list_all (before y) ys) (is_rising before ys) h

      at : is_rising before (filter keep ys) ≡ true → (b : Bool)
          → is_rising before (cond b (y ∷ filter keep ys) (filter keep ys)) ≡ true
      at ih true =
          and_from (list_all (before y) (filter keep ys)) _
          (filter_list_all (before y) keep ys parts.0) ih
      at ih false = ih
