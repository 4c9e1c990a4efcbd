-- How far a sender's certificates reach; and a log is exactly what they release.
use Rattle.std.proofs.Common.{Bool, List, [], ap, arith, cond, eq-eqb, false, filter, inl, inr}
use Rattle.std.proofs.Common.{length, ne_eqb, not, refl, reverse, subst, suc, sym, true, zero, ℕ}
use Rattle.std.proofs.Common.{⊎_elim, ◌++◌, ◌+◌, ◌-◌, ◌<◌, ◌==◌, ◌↔◌, ◌∙◌, ◌∷◌, ◌≡◌, ◌≤◌, ◌⊎◌}
use Rattle.std.proofs.lemmas.Bool.{and_parts, and_right, cases_lt, false_from_ne_true, false≢true}
use Rattle.std.proofs.lemmas.Bool.{or_cases, or_left, or_right}
use Rattle.std.proofs.lemmas.List.{reverse-append, reverse-reverse}
use Rattle.std.proofs.lemmas.List.Folds.{list_any-append}
use Rattle.std.specs.List.{list_any, prefix_len}
use Rattle.urb_names.proofs.LogRows.{beginning_is, has-row, has-row-not, has_name-part, new_on_row}
use Rattle.urb_names.proofs.LogRows.{part-released, reach, reach-grows, row, row_certified}
use Rattle.urb_names.proofs.SameNames.{same_name-true}
use Rattle.urb_names.specs.Names.{has_name, name, same_name}
use Rattle.urb_names.specs.LabelsAndContents.{Label}
use Rattle.urb_names.specs.Release.{part_of, released}

-- ---- certificates in any order

-- if an element of the reversed list passes a test, one of the list does
pub any-reverse : {X : Type 0} (test : X → Bool) (xs : List X) → list_any test (reverse xs) ≡ true
    → list_any test xs ≡ true
any-reverse test [] h = h
any-reverse test (x ∷ xs) h =
    ⊎_elim (λ e. or_right (test x) (list_any test xs) (any-reverse test xs e))
    (λ e. ⊎_elim (λ f. or_left (test x) (list_any test xs) f) (λ f. absurd (false≢true f))
    (or_cases (test x) false e))
    (or_cases (list_any test (reverse xs)) (list_any test (x ∷ []))
    (sym (ap (list_any test) (reverse-append (x ∷ []) xs)
    ∙ list_any-append test (reverse xs) (x ∷ [])) ∙ h))

-- ---- at least as many certificates as names

without : Label → List Label → List Label
without x xs = filter (λ y. not (same_name y x)) xs

-- another name stays
has_name-without : (x y : Label) (xs : List Label) → same_name x y ≡ false → has_name xs y ≡ true
    → has_name (without x xs) y ≡ true
unfolding without
has_name-without x y [] e h = h
has_name-without x y (z ∷ xs) e h =
    kept (has_name-without x y xs e) (same_name z x) refl
    (or_cases (same_name z y) (has_name xs y) h)
  where
    kept : (has_name xs y ≡ true → has_name (without x xs) y ≡ true) → (b : Bool)
        → same_name z x ≡ b → (same_name z y ≡ true) ⊎ (has_name xs y ≡ true)
        → has_name (cond (not b) (z ∷ without x xs) (without x xs)) y ≡ true
    kept ih true f (inl g) =
        absurd (false≢true (sym e ∙ subst (λ (w : Label). same_name w y ≡ true)
        (same_name-true z x f) g))
    kept ih true f (inr g) = ih g
    kept ih false f (inl g) = or_left (same_name z y) _ g
    kept ih false f (inr g) = or_right (same_name z y) _ (ih g)

-- no sender's part grows
part-without : (s : ℕ) (x : Label) (xs : List Label)
    → length (part_of s (without x xs)) ≤ length (part_of s xs)
unfolding without
part-without s x [] = omega arith
part-without s x (y ∷ xs) = at (part-without s x xs) (same_name y x) (y.sender == s) refl
  where
    at : length (part_of s (without x xs)) ≤ length (part_of s xs) → (b c : Bool)
        → (y.sender == s) ≡ c → length
        (part_of s (cond (not b) (y ∷ without x xs) (without x xs))) ≤ length
        (cond c (y ∷ part_of s xs) (part_of s xs))
    at ih true true f = omega arith
    at ih true false f = ih
    at ih false c f =
        subst (λ (d : Bool). length (cond d (y ∷ part_of s (without x xs))
        (part_of s (without x xs))) ≤ length (cond c (y ∷ part_of s xs) (part_of s xs))) (sym f)
        (both c)
      where
        both : (c : Bool) → length (cond c (y ∷ part_of s (without x xs))
            (part_of s (without x xs))) ≤ length (cond c (y ∷ part_of s xs) (part_of s xs))
        both true = omega arith
        both false = ih

-- the part of the name's own sender shrinks
part-without_less : (x : Label) (xs : List Label) → has_name xs x ≡ true
    → length (part_of x.sender (without x xs)) < length (part_of x.sender xs)
unfolding without
part-without_less x [] h = absurd (false≢true h)
part-without_less x (y ∷ xs) h =
    at (part-without_less x xs) (part-without x.sender x xs) (same_name y x) refl
    (y.sender == x.sender) refl (or_cases (same_name y x) (has_name xs x) h)
  where
    at : (has_name xs x ≡ true → length (part_of x.sender (without x xs)) < length
        (part_of x.sender xs)) → length (part_of x.sender (without x xs)) ≤ length
        (part_of x.sender xs)
        → (b : Bool) → same_name y x ≡ b → (c : Bool) → (y.sender == x.sender) ≡ c
        → (same_name y x ≡ true) ⊎ (has_name xs x ≡ true)
        → length (part_of x.sender (cond (not b) (y ∷ without x xs) (without x xs))) < length
        (cond c (y ∷ part_of x.sender xs) (part_of x.sender xs))
    at ih l true e true f g = omega arith
    at ih l true e false f g =
        absurd (false≢true (sym f ∙ (and_parts (y.sender == x.sender) (y.seq == x.seq) e).0))
    at ih l false e c f (inl g) = absurd (false≢true (sym e ∙ g))
    at ih l false e c f (inr g) =
        subst (λ (d : Bool). length (cond d (y ∷ part_of x.sender (without x xs))
        (part_of x.sender (without x xs))) < length
        (cond c (y ∷ part_of x.sender xs) (part_of x.sender xs))) (sym f) (both c (ih g))
      where
        both : (c : Bool) → length (part_of x.sender (without x xs)) < length (part_of x.sender xs)
            → length (cond c (y ∷ part_of x.sender (without x xs))
            (part_of x.sender (without x xs))) < length
            (cond c (y ∷ part_of x.sender xs) (part_of x.sender xs))
        both true k = omega arith
        both false k = k

-- if a sender's names 1 to j are certified, it has at least j certificates
certificates_enough : (s j : ℕ) (certified : List Label)
    → ((i : ℕ) → 1 ≤ i → i ≤ j → has_name certified (name s i) ≡ true)
    → j ≤ length (part_of s certified)
certificates_enough s zero certified h = omega arith
certificates_enough s (suc j) certified h =
    let less : length (part_of s (without (name s (suc j)) certified)) < length
    (part_of s certified) = part-without_less (name s (suc j)) certified
    (h (suc j) (omega arith) (omega arith)) in
    let rest : j ≤ length (part_of s (without (name s (suc j)) certified)) =
    certificates_enough s j (without (name s (suc j)) certified)
    (λ i l u. has_name-without (name s (suc j)) (name s i) certified
    (and_right (s == s) (suc j == i) (ne_eqb (suc j) i (λ e. omega arith)))
    (h i l (omega arith))) in
    omega arith

-- ---- how far the certificates reach

row_reaches : (test : Label → Bool) (s a j l : ℕ)
    → ((i : ℕ) → a ≤ i → i < a + j → test (name s i) ≡ true) → j ≤ l
    → j ≤ prefix_len test (row s a l)
row_reaches test s a zero l h m = omega arith
row_reaches test s a (suc j) zero h m = absurd (omega arith)
row_reaches test s a (suc j) (suc l) h m =
    let rest : j ≤ prefix_len test (row s (suc a) l) =
    row_reaches test s (suc a) j l (λ i p q. h i (omega arith) (omega arith)) (omega arith) in
    subst (λ (b : Bool). suc j ≤ cond b (1 + prefix_len test (row s (suc a) l)) 0)
    (sym (h a (omega arith) (omega arith))) (omega arith)

-- if a sender's names from 1 to a number are all certified, its certificates reach that number
pub reach-all : (s j : ℕ) (certified : List Label)
    → ((i : ℕ) → 1 ≤ i → i ≤ j → has_name certified (name s i) ≡ true) → j ≤ reach s certified
reach-all s j certified h =
    row_reaches (has_name certified) s 1 j (length (part_of s certified))
    (λ i l u. h i l (omega arith)) (certificates_enough s j certified h)

-- each of a sender's names that its certificates reach is certified
pub reach-certified : (s i : ℕ) (certified : List Label) → 1 ≤ i → i ≤ reach s certified
    → has_name certified (name s i) ≡ true
reach-certified s i certified l u =
    row_certified certified s 1 (length (part_of s certified)) i l (omega arith)

-- the sender's name after the last that its certificates reach is not certified
pub reach-stops : (s : ℕ) (certified : List Label)
    → has_name certified (name s (suc (reach s certified))) ≡ false
reach-stops s certified =
    false_from_ne_true _ (λ e. too_far
    (reach-all s (suc (reach s certified)) certified (λ i l u. within i l u e)))
  where
    too_far : suc (reach s certified) ≤ reach s certified → ⊥
    too_far h = omega arith

    within : (i : ℕ) → 1 ≤ i → i ≤ suc (reach s certified)
        → has_name certified (name s (suc (reach s certified))) ≡ true
        → has_name certified (name s i) ≡ true
    within i l u e =
        ⊎_elim (λ f. reach-certified s i certified l (omega arith))
        (λ f. let g : suc (reach s certified) ≡ i = omega arith in
        subst (λ (j : ℕ). has_name certified (name s j) ≡ true) g e)
        (cases_lt i (suc (reach s certified)))

-- certificates reach a number, and no further, if the names up to it are certified and the next is
-- not
pub reach-is : (s k : ℕ) (certified : List Label)
    → ((i : ℕ) → 1 ≤ i → i ≤ k → has_name certified (name s i) ≡ true)
    → has_name certified (name s (suc k)) ≡ false → reach s certified ≡ k
reach-is s k certified h e =
    let low : k ≤ reach s certified = reach-all s k certified h in
    ⊎_elim (λ f. absurd (false≢true
    (sym e ∙ reach-certified s (suc k) certified (omega arith) (omega arith))))
    (λ f. omega arith) (cases_lt k (reach s certified))

-- how far certificates reach depends only on which names are certified
pub reach-same : (s : ℕ) (xs ys : List Label) → ((x : Label) → has_name xs x ≡ has_name ys x)
    → reach s xs ≡ reach s ys
reach-same s xs ys h =
    reach-is s (reach s ys) xs (λ i l u. h (name s i) ∙ reach-certified s i ys l u)
    (h (name s (suc (reach s ys))) ∙ reach-stops s ys)

-- ---- the log

-- one more certificate releases the names from the end of the log to where the certificates now
-- reach
pub released-more : (x : Label) (older : List Label)
    → released (x ∷ older) ≡ released older ++ row x.sender (1 + reach x.sender older)
    (reach x.sender (x ∷ older) - reach x.sender older)
released-more x older =
    ap (λ ys. released older ++ filter (λ y. not (has_name (released older) y)) ys)
    (beginning_is x.sender (x ∷ older))
    ∙ ap (λ ys. released older ++ ys)
    (new_on_row x.sender (released older) (reach x.sender older) (reach x.sender (x ∷ older))
    (reach-grows x.sender x older (eq-eqb x.sender x.sender refl))
    (part-released x.sender older))

-- a name is released exactly if it and all before it are certified
pub released-exactly : (s j : ℕ) (certified : List Label)
    → (has_name (released certified) (name s j) ≡ true) ↔
    ((1 ≤ j) × ((i : ℕ) → 1 ≤ i → i ≤ j → has_name certified (name s i) ≡ true))
released-exactly s j certified = (there, back)
  where
    in_row : has_name (released certified) (name s j) ≡ has_name (row s 1 (reach s certified))
        (name s j)
    in_row =
        sym (has_name-part s j (released certified))
        ∙ ap (λ xs. has_name xs (name s j)) (part-released s certified)

    there : has_name (released certified) (name s j) ≡ true
        → (1 ≤ j) × ((i : ℕ) → 1 ≤ i → i ≤ j → has_name certified (name s i) ≡ true)
    there h =
        ⊎_elim (λ l. absurd (false≢true
        (sym (has-row-not s 1 (reach s certified) j (inl l)) ∙ (sym in_row ∙ h))))
        (λ l. ⊎_elim (λ u. (l, λ i m v. reach-certified s i certified m (omega arith)))
        (λ u. absurd (false≢true (sym (has-row-not s 1 (reach s certified) j (inr u))
        ∙ (sym in_row ∙ h))))
        (cases_lt j (1 + reach s certified)))
        (cases_lt j 1)

    back : (1 ≤ j) × ((i : ℕ) → 1 ≤ i → i ≤ j → has_name certified (name s i) ≡ true)
        → has_name (released certified) (name s j) ≡ true
    back h =
        in_row ∙ has-row s 1 (reach s certified) j h.0
        (let u : j ≤ reach s certified = reach-all s j certified h.1 in omega arith)

-- ---- a log depends only on the set of the certificates

-- a name in the reversed list is in the list
pub reversed-same : (xs : List Label) (x : Label) → has_name (reverse xs) x ≡ true
    → has_name xs x ≡ true
reversed-same xs x h = any-reverse _ xs h

-- a name in the list is in the reversed list
pub reversed-back : (xs : List Label) (x : Label) → has_name xs x ≡ true
    → has_name (reverse xs) x ≡ true
reversed-back xs x h =
    any-reverse _ (reverse xs) (subst (λ (ys : List Label). has_name ys x ≡ true)
    (sym (reverse-reverse xs)) h)
