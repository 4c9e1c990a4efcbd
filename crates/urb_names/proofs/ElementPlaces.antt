-- Putting elements at their places in rising lists.
use Rattle.std.proofs.Common.{◌≡◌, ℕ, suc, ◌+◌, Bool, true, false, cond, ◌||◌, List, [], ◌∷◌}
use Rattle.std.proofs.Common.{Option, Some, None, take, drop, refl, sym, ap, ◌∙◌, inl, inr, ◌⊎◌}
use Rattle.std.proofs.Common.{arith}
use Rattle.std.proofs.lemmas.Bool.{and_from, and_parts, false≢true, or_parts}
use Rattle.std.proofs.lemmas.List.{take-append-drop}
use Rattle.std.proofs.lemmas.List.Folds.{list_any-append}
use Rattle.std.specs.List.{insert, list_all, list_any, prefix_len}
use Rattle.urb_names.specs.LabelsAndContents.{Label}
use Rattle.urb_names.specs.Names.{name_lt, same_name}
use Rattle.urb_names.specs.RisingLists.{is_rising, placed, reserved_for}
use Rattle.urb_names.proofs.RisingPairs.{name_lt-trans, name_lt-one_way}
use Rattle.urb_names.proofs.SameNames.{same_name-true}
use Rattle.urb_names.proofs.TruthValues.{or_swap}

-- wherever an element is inserted, the test sees exactly one more element
pub any_insert : {X : Type 0} (test : X → Bool) (xs : List X) (i : ℕ) (x : X)
    → list_any test (insert xs i x) ≡ (test x || list_any test xs)
any_insert test xs i x =
    list_any-append test (take i xs) (x ∷ drop i xs)
    ∙ (or_swap (list_any test (take i xs)) (test x) (list_any test (drop i xs))
    ∙ ap (λ b. test x || b) (sym (list_any-append test (take i xs) (drop i xs))
    ∙ ap (list_any test) (take-append-drop i xs)))

-- The laws of a strict order. The test `same` says when two elements are the same.
pub record IsStrictOrder {X : Type 0} (before same : X → X → Bool) : Type 0 where
  -- what comes before an element comes before all that come after it
  pub transitive : (x y z : X) → before x y ≡ true → before y z ≡ true → before x z ≡ true
  -- of two different elements, one comes before the other
  pub one_way : (x y : X) → same x y ≡ false → (before x y ≡ true) ⊎ (before y x ≡ true)

-- an element goes after the first one if that comes before it
pub placed_behind : {X : Type 0} (before : X → X → Bool) (x y : X) (xs : List X) → before y x ≡ true
    → placed before (y ∷ xs) x ≡ y ∷ placed before xs x
placed_behind before x y xs e =
    let k = prefix_len (λ z. before z x) xs in
    ap (λ (b : Bool). insert (y ∷ xs) (cond b (1 + k) 0) x) e
    ∙ ap (λ (i : ℕ). insert (y ∷ xs) i x) (one_more k)
  where
    one_more : (n : ℕ) → 1 + n ≡ suc n
    one_more n = omega arith

-- if the first one doesn't come before the element, the element goes to the front
pub placed_front : {X : Type 0} (before : X → X → Bool) (x y : X) (xs : List X) → before y x ≡ false
    → placed before (y ∷ xs) x ≡ x ∷ y ∷ xs
placed_front before x y xs e =
    ap (λ (b : Bool). insert (y ∷ xs) (cond b (1 + prefix_len (λ z. before z x) xs) 0) x) e

-- if all elements pass a test, they still do once another one that passes is put among them
pub all_placed : {X : Type 0} (before : X → X → Bool) (test : X → Bool) (x : X) (xs : List X)
    → test x ≡ true → list_all test xs ≡ true → list_all test (placed before xs x) ≡ true
all_placed before test x [] e h = and_from (test x) true e refl
all_placed before test x (y ∷ xs) e h =
    at (all_placed before test x xs e) (and_parts (test y) (list_all test xs) h) (before y x) refl
  where
    at : (list_all test xs ≡ true → list_all test (placed before xs x) ≡ true)
        → (test y ≡ true) × (list_all test xs ≡ true) → (b : Bool) → before y x ≡ b
        → list_all test (placed before (y ∷ xs) x) ≡ true
    at ih parts true f =
        ap (list_all test) (placed_behind before x y xs f)
        ∙ and_from (test y) (list_all test (placed before xs x)) parts.0 (ih parts.1)
    at ih parts false f =
        ap (list_all test) (placed_front before x y xs f)
        ∙ and_from (test x) (list_all test (y ∷ xs)) e
        (and_from (test y) (list_all test xs) parts.0 parts.1)

-- if all elements pass a test, they pass each weaker one
pub all_grows : {X : Type 0} (f g : X → Bool) (xs : List X) → ((x : X) → f x ≡ true → g x ≡ true)
    → list_all f xs ≡ true → list_all g xs ≡ true
all_grows f g [] h e = refl
all_grows f g (x ∷ xs) h e =
    let parts = and_parts (f x) (list_all f xs) e in
    and_from (g x) (list_all g xs) (h x parts.0) (all_grows f g xs h parts.1)

-- a new element, put at its place, keeps the list in order
pub rising_placed : {X : Type 0} (before same : X → X → Bool) → IsStrictOrder before same
    → (xs : List X) (x : X) → list_any (λ y. same y x) xs ≡ false → is_rising before xs ≡ true
    → is_rising before (placed before xs x) ≡ true
rising_placed before same laws [] x none rises = refl
rising_placed before same laws (y ∷ xs) x none rises =
    at (rising_placed before same laws xs x)
    (or_parts (same y x) (list_any (λ z. same z x) xs) none)
    (and_parts (list_all (before y) xs) (is_rising before xs) rises) (before y x) refl
  where
    at : (list_any (λ z. same z x) xs ≡ false → is_rising before xs ≡ true
        → is_rising before (placed before xs x) ≡ true)
        → (same y x ≡ false) × (list_any (λ z. same z x) xs ≡ false)
        → (list_all (before y) xs ≡ true) × (is_rising before xs ≡ true)
        → (b : Bool) → before y x ≡ b → is_rising before (placed before (y ∷ xs) x) ≡ true
    at ih absent order true f =
        ap (is_rising before) (placed_behind before x y xs f)
        ∙ and_from (list_all (before y) (placed before xs x))
        (is_rising before (placed before xs x)) (all_placed before (before y) x xs f order.0)
        (ih absent.1 order.1)
    at ih absent order false f =
        ap (is_rising before) (placed_front before x y xs f)
        ∙ and_from (list_all (before x) (y ∷ xs)) (is_rising before (y ∷ xs))
        (front (laws.one_way y x absent.0)) rises
      where
        front : (before y x ≡ true) ⊎ (before x y ≡ true) → list_all (before x) (y ∷ xs) ≡ true
        front (inl g) = absurd (false≢true (sym f ∙ g))
        front (inr g) =
            and_from (before x y) (list_all (before x) xs) g
            (all_grows (before y) (before x) xs (λ z e. laws.transitive x y z g e) order.0)

-- the order of names is strict
pub names_ordered : IsStrictOrder name_lt same_name
names_ordered = record { transitive = name_lt-trans; one_way = name_lt-one_way }

-- a reservation left after a name was added is for that name, and existed before
pub reserved_for-some : (reserved : Option Label) (x y : Label) → reserved_for reserved x ≡ Some y
    → (reserved ≡ Some y) × (x ≡ y)
reserved_for-some None x y e = absurd cc
reserved_for-some (Some z) x y e = at (same_name z x) refl e
  where
    at : (b : Bool) → same_name z x ≡ b → cond b (Some z) None ≡ Some y
        → (Some z ≡ Some y) × (x ≡ y)
    at true f g =
        let same : z ≡ x = same_name-true z x f in let there : z ≡ y = cc in (g, sym same ∙ there)
    at false f g = absurd cc
