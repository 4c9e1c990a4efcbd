-- What the tests of names and messages mean, and counts of nodes that pass a test.
use Rattle.std.proofs.Common.{Bool, List, [], ap, ap₂, arith, cond, count_by, eq-eqb, eqb-true}
use Rattle.std.proofs.Common.{false, filter, length, lt-ltb, ltb-true, refl, true, ℕ, ⊎_elim, ◌*◌}
use Rattle.std.proofs.Common.{◌++◌, ◌<◌, ◌∙◌, ◌∷◌, ◌≡◌, ◌≤◌}
use Rattle.std.proofs.lemmas.Bool.{and_from, and_parts, false≢true, or_cases, or_left, or_right}
use Rattle.std.proofs.lemmas.List.Sums.{length-filter}
use Rattle.std.proofs.lemmas.Slice.Eq.{bytes_eq-Decides}
use Rattle.std.specs.List.{list_any}
use Rattle.urb_names.specs.Names.{name, same_message, same_name}
use Rattle.urb_names.specs.LabelsAndContents.{Content, Label}
use Rattle.urb_names.specs.Nodes.{majority_passes, nodes}

-- names that test as the same are equal
pub same_name-true : (x y : Label) → same_name x y ≡ true → x ≡ y
same_name-true x y e =
    let parts = and_parts _ _ e in
    ap₂ name (eqb-true x.sender y.sender parts.0) (eqb-true x.seq y.seq parts.1)

-- each name tests as the same as itself
pub same_name-same : (x : Label) → same_name x x ≡ true
same_name-same x = and_from _ _ (eq-eqb x.sender x.sender refl) (eq-eqb x.seq x.seq refl)

abbrev message : ℕ → ℕ → List ℕ → Content
message client number payload = record { client = client; number = number; payload = payload }

-- messages that test as the same are equal
pub same_message-true : (m o : Content) → same_message m o ≡ true → m ≡ o
same_message-true m o e =
    let parts = and_parts _ _ e in
    let firsts = and_parts _ _ parts.0 in
    let c : m.client ≡ o.client = eqb-true _ _ firsts.0 in
    let k : m.number ≡ o.number = eqb-true _ _ firsts.1 in
    let p : m.payload ≡ o.payload = (bytes_eq-Decides m.payload o.payload).0 parts.1 in
    ap (λ v. message v m.number m.payload) c
    ∙ (ap (λ v. message o.client v m.payload) k ∙ ap (λ v. message o.client o.number v) p)

-- each message tests as the same as itself
pub same_message-same : (m : Content) → same_message m m ≡ true
same_message-same m =
    and_from _ _ (and_from _ _ (eq-eqb m.client m.client refl) (eq-eqb m.number m.number refl))
    ((bytes_eq-Decides m.payload m.payload).1 refl)

-- ---- a test that some element passes

-- if an element of the first list passes a test, one of both lists together does
pub any_left : {X : Type 0} (test : X → Bool) (xs ys : List X) → list_any test xs ≡ true
    → list_any test (xs ++ ys) ≡ true
any_left test [] ys e = absurd (false≢true e)
any_left test (x ∷ xs) ys e =
    ⊎_elim (λ h. or_left (test x) (list_any test (xs ++ ys)) h)
    (λ h. or_right (test x) (list_any test (xs ++ ys)) (any_left test xs ys h))
    (or_cases (test x) (list_any test xs) e)

-- if an element of the second list passes a test, one of both lists together does
pub any_right : {X : Type 0} (test : X → Bool) (xs ys : List X) → list_any test ys ≡ true
    → list_any test (xs ++ ys) ≡ true
any_right test [] ys e = e
any_right test (x ∷ xs) ys e = or_right (test x) (list_any test (xs ++ ys)) (any_right test xs ys e)

-- ---- counts

filter_grows : {X : Type 0} (f g : X → Bool) (xs : List X) → ((x : X) → f x ≡ true → g x ≡ true)
    → length (filter f xs) ≤ length (filter g xs)
filter_grows f g [] h = omega arith
filter_grows f g (x ∷ xs) h = step (filter_grows f g xs h) (f x) (g x) (h x)
  where
    step : length (filter f xs) ≤ length (filter g xs) → (a b : Bool) → (a ≡ true → b ≡ true)
        → length (cond a (x ∷ filter f xs) (filter f xs)) ≤ length
        (cond b (x ∷ filter g xs) (filter g xs))
    step ih true true k = omega arith
    step ih true false k = absurd (false≢true (k refl))
    step ih false true k = omega arith
    step ih false false k = ih

-- if more elements pass, the count is greater or the same
pub count_grows : {X : Type 0} (f g : X → Bool) (xs : List X) → ((x : X) → f x ≡ true → g x ≡ true)
    → count_by f xs ≤ count_by g xs
count_grows f g xs h = omega (arith, filter_grows f g xs h, length-filter f xs, length-filter g xs)

-- if a majority of the nodes passes a test, a majority passes each weaker one
pub majority_grows : (n : ℕ) (f g : ℕ → Bool) → ((q : ℕ) → f q ≡ true → g q ≡ true)
    → majority_passes n f ≡ true → majority_passes n g ≡ true
majority_grows n f g h e =
    let k : count_by f (nodes n) ≤ count_by g (nodes n) = count_grows f g (nodes n) h in
    let l : n < 2 * count_by f (nodes n) = ltb-true _ _ e in
    lt-ltb _ _ (omega (arith, k, l))
