-- What a log holds for each sender: its names 1, 2, 3, .., each once.
use Rattle.std.proofs.Common.{AllPairs, Bool, List, [], ap, append-nil, ap₂, arith, cond, eq-eqb}
use Rattle.std.proofs.Common.{eqb-true, false, filter, inl, inr, length, map, ne_eqb, not, refl}
use Rattle.std.proofs.Common.{subst, suc, sym, take, true, zero, ℕ, ⊎_elim, ◌&&◌, ◌++◌, ◌+◌, ◌-◌}
use Rattle.std.proofs.Common.{◌<◌, ◌==◌, ◌||◌, ◌∙◌, ◌∷◌, ◌≡◌, ◌≢◌, ◌≤◌, ◌⊎◌}
use Rattle.std.proofs.lemmas.Bool.{and_from, and_right, cases_eq, cases_lt, cond-false, cond-true}
use Rattle.std.proofs.lemmas.Bool.{false≢true, not-true, or_from, or_left, or_parts, or_right}
use Rattle.std.proofs.lemmas.List.Elements.{filter-append}
use Rattle.std.proofs.lemmas.List.Sums.{prefix_len-le-length}
use Rattle.std.proofs.lemmas.Map.Made.{AllPairs-from_IsDistinct}
use Rattle.std.specs.Bool.{Decides}
use Rattle.std.specs.List.{AllByRecursion, IsDistinct, prefix_len}
use Rattle.urb_names.proofs.SameNames.{same_name-same, same_name-true}
use Rattle.urb_names.specs.Names.{has_name, name, names, same_name}
use Rattle.urb_names.specs.LabelsAndContents.{Label}
use Rattle.urb_names.specs.Nodes.{numbers_from}
use Rattle.urb_names.specs.Release.{beginning, part_of, released}
use Rattle.urb_names.proofs.SentPairs.{all_kept_filter}

-- a sender's names a, a + 1, ..
abbrev pub row : ℕ → ℕ → ℕ → List Label
row s a k = map (name s) (numbers_from a k)

-- a row of k names has k names
pub length-row : (s a k : ℕ) → length (row s a k) ≡ k
length-row s a zero = refl
length-row s a (suc k) = omega (arith, length-row s (suc a) k)

take-row : (s a k l : ℕ) → k ≤ l → take k (row s a l) ≡ row s a k
take-row s a zero l h = take_none (row s a l)
  where
    take_none : (xs : List Label) → take 0 xs ≡ []
    take_none xs = refl
take-row s a (suc k) zero h = absurd (omega arith)
take-row s a (suc k) (suc l) h = ap (λ xs. name s a ∷ xs) (take-row s (suc a) k l (omega arith))

-- a row of a sender's names is a shorter one, then the row of the remaining names
pub row-split : (s a k d m b : ℕ) → m ≡ k + d → b ≡ a + k → row s a m ≡ row s a k ++ row s b d
row-split s a zero d m b e f = let e' : m ≡ d = omega arith in let f' : b ≡ a = omega arith in cc
row-split s a (suc k) d zero b e f = absurd (omega arith)
row-split s a (suc k) d (suc m) b e f =
    ap (λ xs. name s a ∷ xs) (row-split s (suc a) k d m b (omega arith) (omega arith))

same_row_name : (s i j : ℕ) → (i ≡ j → ⊥) → same_name (name s i) (name s j) ≡ false
same_row_name s i j h = and_right (s == s) (i == j) (ne_eqb i j h)

-- a row has each of the sender's names with a number within it
pub has-row : (s a k j : ℕ) → a ≤ j → j < a + k → has_name (row s a k) (name s j) ≡ true
has-row s a zero j h l = absurd (omega arith)
has-row s a (suc k) j h l = first_or_later (has-row s (suc a) k j) (cases_eq a j)
  where
    first_or_later : (suc a ≤ j → j < suc a + k → has_name (row s (suc a) k) (name s j) ≡ true)
        → (a ≡ j) ⊎ (a ≡ j → ⊥) → has_name (row s a (suc k)) (name s j) ≡ true
    first_or_later later (inl e) =
        or_left (same_name (name s a) (name s j)) _
        (and_from (s == s) (a == j) (eq-eqb s s refl) (eq-eqb a j e))
    first_or_later later (inr e) =
        or_right (same_name (name s a) (name s j)) _ (later (omega arith) (omega arith))

-- a row has none of the sender's names with a number before or after it
pub has-row-not : (s a k j : ℕ) → (j < a) ⊎ (a + k ≤ j) → has_name (row s a k) (name s j) ≡ false
has-row-not s a zero j h = refl
has-row-not s a (suc k) j h =
    or_from (same_name (name s a) (name s j)) _ (same_row_name s a j (outside h))
    (has-row-not s (suc a) k j (farther h))
  where
    outside : (j < a) ⊎ (a + suc k ≤ j) → a ≡ j → ⊥
    outside (inl l) e = omega arith
    outside (inr l) e = omega arith

    farther : (j < a) ⊎ (a + suc k ≤ j) → (j < suc a) ⊎ (suc a + k ≤ j)
    farther (inl l) = inl (omega arith)
    farther (inr l) = inr (omega arith)

-- a test that fails on a whole row keeps nothing of it
filter-row_none : (test : Label → Bool) (s a k : ℕ)
    → ((j : ℕ) → a ≤ j → j < a + k → test (name s j) ≡ false) → filter test (row s a k) ≡ []
filter-row_none test s a zero h = refl
filter-row_none test s a (suc k) h =
    cond-false (test (name s a)) _ _ (h a (omega arith) (omega arith))
    ∙ filter-row_none test s (suc a) k (λ j l m. h j (omega arith) (omega arith))

filter-row_all : (test : Label → Bool) (s a k : ℕ)
    → ((j : ℕ) → a ≤ j → j < a + k → test (name s j) ≡ true) → filter test (row s a k) ≡ row s a k
filter-row_all test s a zero h = refl
filter-row_all test s a (suc k) h =
    cond-true (test (name s a)) _ _ (h a (omega arith) (omega arith))
    ∙ ap (λ xs. name s a ∷ xs) (filter-row_all test s (suc a) k
    (λ j l m. h j (omega arith) (omega arith)))

-- ---- how far a sender's certificates go

prefix_grows : (p q : Label → Bool) (s a k l : ℕ)
    → ((j : ℕ) → p (name s j) ≡ true → q (name s j) ≡ true) → k ≤ l
    → prefix_len p (row s a k) ≤ prefix_len q (row s a l)
prefix_grows p q s a zero l h m = omega arith
prefix_grows p q s a (suc k) zero h m = absurd (omega arith)
prefix_grows p q s a (suc k) (suc l) h m =
    both (prefix_grows p q s (suc a) k l h (omega arith)) (p (name s a)) (q (name s a)) (h a)
  where
    both : prefix_len p (row s (suc a) k) ≤ prefix_len q (row s (suc a) l) → (b c : Bool)
        → (b ≡ true → c ≡ true) → cond b (1 + prefix_len p (row s (suc a) k)) 0 ≤ cond c
        (1 + prefix_len q (row s (suc a) l)) 0
    both ih true true g = omega arith
    both ih true false g = absurd (false≢true (g refl))
    both ih false c g = omega arith

prefix_same : (p q : Label → Bool) (s a k : ℕ) → ((j : ℕ) → p (name s j) ≡ q (name s j))
    → prefix_len p (row s a k) ≡ prefix_len q (row s a k)
prefix_same p q s a zero h = refl
prefix_same p q s a (suc k) h =
    ap₂ (λ (b : Bool) (n : ℕ). cond b (1 + n) 0) (h a) (prefix_same p q s (suc a) k h)

-- how many of a sender's names, from 1 on, are certified
abbrev pub reach : ℕ → List Label → ℕ
reach s certified = prefix_len (has_name certified) (names s (length (part_of s certified)))

-- a sender's names up to the first uncertified one are those from 1 to as far as its certificates
-- reach
pub beginning_is : (s : ℕ) (certified : List Label)
    → beginning s certified ≡ row s 1 (reach s certified)
beginning_is s certified =
    let l : reach s certified ≤ length (names s (length (part_of s certified))) =
    prefix_len-le-length (has_name certified) (names s (length (part_of s certified))) in
    take-row s 1 (reach s certified) (length (part_of s certified))
    (omega (arith, l, length-row s 1 (length (part_of s certified))))

-- ---- one sender's part

part-row : (test : Label → Bool) (s a k : ℕ)
    → part_of s (filter test (row s a k)) ≡ filter test (row s a k)
part-row test s a zero = refl
part-row test s a (suc k) = kept (part-row test s (suc a) k) (test (name s a))
  where
    kept : part_of s (filter test (row s (suc a) k)) ≡ filter test (row s (suc a) k) → (b : Bool)
        → part_of s (cond b (name s a ∷ filter test (row s (suc a) k))
        (filter test (row s (suc a) k))) ≡ cond b (name s a ∷ filter test (row s (suc a) k))
        (filter test (row s (suc a) k))
    kept ih true = cond-true (s == s) _ _ (eq-eqb s s refl) ∙ ap (λ xs. name s a ∷ xs) ih
    kept ih false = ih

part-row_other : (test : Label → Bool) (s t a k : ℕ) → (t == s) ≡ false
    → part_of s (filter test (row t a k)) ≡ []
part-row_other test s t a zero e = refl
part-row_other test s t a (suc k) e = kept (part-row_other test s t (suc a) k e) (test (name t a))
  where
    kept : part_of s (filter test (row t (suc a) k)) ≡ [] → (b : Bool)
        → part_of s (cond b (name t a ∷ filter test (row t (suc a) k))
        (filter test (row t (suc a) k))) ≡ []
    kept ih true = cond-false (t == s) _ _ e ∙ ih
    kept ih false = ih

-- a sender's name is in a list exactly if it is among the sender's names in the list
pub has_name-part : (s j : ℕ) (xs : List Label)
    → has_name (part_of s xs) (name s j) ≡ has_name xs (name s j)
has_name-part s j [] = refl
has_name-part s j (x ∷ xs) = kept (has_name-part s j xs) (x.sender == s) refl
  where
    kept : has_name (part_of s xs) (name s j) ≡ has_name xs (name s j) → (b : Bool)
        → (x.sender == s) ≡ b → has_name (cond b (x ∷ part_of s xs) (part_of s xs)) (name s j)
        ≡ (same_name x (name s j) || has_name xs (name s j))
    kept ih true e = ap (λ r. same_name x (name s j) || r) ih
    kept ih false e = ih ∙ ap (λ b. (b && (x.seq == j)) || has_name xs (name s j)) (sym e)

-- one more certificate of another sender changes nothing
reach-other : (s : ℕ) (x : Label) (older : List Label) → (x.sender == s) ≡ false
    → reach s (x ∷ older) ≡ reach s older
reach-other s x older e =
    ap (λ b. prefix_len (has_name (x ∷ older))
    (names s (length (cond b (x ∷ part_of s older) (part_of s older))))) e
    ∙ prefix_same (has_name (x ∷ older)) (has_name older) s 1 (length (part_of s older))
    (λ j. ap (λ b. (b && (x.seq == j)) || has_name older (name s j)) e)

-- one more certificate of this sender never lowers the reach
pub reach-grows : (s : ℕ) (x : Label) (older : List Label) → (x.sender == s) ≡ true
    → reach s older ≤ reach s (x ∷ older)
reach-grows s x older e =
    prefix_grows (has_name older) (has_name (x ∷ older)) s 1 (length (part_of s older))
    (length (part_of s (x ∷ older)))
    (λ j h. or_right (same_name x (name s j)) (has_name older (name s j)) h)
    (subst (λ (b : Bool). length (part_of s older) ≤ length
    (cond b (x ∷ part_of s older) (part_of s older))) (sym e) (omega arith))

-- if a log holds a sender's names up to a number, those of a longer row that it lacks are the later
-- ones
pub new_on_row : (s : ℕ) (old : List Label) (k l : ℕ) → k ≤ l → part_of s old ≡ row s 1 k
    → filter (λ y. not (has_name old y)) (row s 1 l) ≡ row s (1 + k) (l - k)
new_on_row s old k l h e =
    ap (filter test) (row-split s 1 k (l - k) l (1 + k) (omega arith) refl)
    ∙ (filter-append test (row s 1 k) (row s (1 + k) (l - k))
    ∙ ap₂ (λ xs ys. xs ++ ys) (filter-row_none test s 1 k below)
    (filter-row_all test s (1 + k) (l - k) above))
  where
    test : Label → Bool
    test = λ y. not (has_name old y)

    at : (j : ℕ) → has_name old (name s j) ≡ has_name (row s 1 k) (name s j)
    at j = sym (has_name-part s j old) ∙ ap (λ xs. has_name xs (name s j)) e

    below : (j : ℕ) → 1 ≤ j → j < 1 + k → test (name s j) ≡ false
    below j l m = ap not (at j ∙ has-row s 1 k j l m)

    above : (j : ℕ) → 1 + k ≤ j → j < 1 + k + (l - k) → test (name s j) ≡ true
    above j l m = ap not (at j ∙ has-row-not s 1 k j (inr l))

-- a log holds each sender's names from 1 up to its reach
pub part-released : (s : ℕ) (certified : List Label)
    → part_of s (released certified) ≡ row s 1 (reach s certified)
part-released s [] = refl
part-released s (x ∷ older) =
    filter-append (λ y. y.sender == s) (released older)
    (filter fresh (beginning x.sender (x ∷ older)))
    ∙ at (part-released s older) (x.sender == s) refl
  where
    fresh : Label → Bool
    fresh = λ y. not (has_name (released older) y)

    at : part_of s (released older) ≡ row s 1 (reach s older) → (b : Bool) → (x.sender == s) ≡ b
        → part_of s (released older) ++ part_of s (filter fresh (beginning x.sender (x ∷ older)))
        ≡ row s 1 (reach s (x ∷ older))
    at ih true e =
        let t : x.sender ≡ s = eqb-true x.sender s e in
        let new : filter fresh (row s 1 (reach s (x ∷ older))) ≡ row s (1 + reach s older)
        (reach s (x ∷ older) - reach s older) =
        new_on_row s (released older) (reach s older) (reach s (x ∷ older))
        (reach-grows s x older e) ih in
        ap₂ (λ xs ys. xs ++ ys) ih
        (ap (λ z. part_of s (filter fresh (beginning z (x ∷ older)))) t
        ∙ (ap (λ ys. part_of s (filter fresh ys)) (beginning_is s (x ∷ older))
        ∙ (part-row fresh s 1 (reach s (x ∷ older)) ∙ new)))
        ∙ sym (row-split s 1 (reach s older) (reach s (x ∷ older) - reach s older)
        (reach s (x ∷ older)) (1 + reach s older)
        (let g = reach-grows s x older e in omega arith) refl)
    at ih false e =
        ap₂ (λ xs ys. xs ++ ys) ih
        (ap (λ ys. part_of s (filter fresh ys)) (beginning_is x.sender (x ∷ older))
        ∙ part-row_other fresh s x.sender 1 (reach x.sender (x ∷ older)) e)
        ∙ (append-nil (row s 1 (reach s older)) ∙ ap (row s 1) (sym (reach-other s x older e)))

-- ---- no name twice

row-distinct : (s a k : ℕ) → IsDistinct same_name (row s a k)
unfolding IsDistinct
row-distinct s a zero = tt
row-distinct s a (suc k) = (apart (suc a) k (omega arith), row-distinct s (suc a) k)
  where
    apart : (b l : ℕ) → a < b → AllByRecursion (λ y. same_name (name s a) y ≡ false) (row s b l)
    apart b zero h = tt
    apart b (suc l) h = (same_row_name s a b (λ e. omega arith), apart (suc b) l (omega arith))

distinct_filter : (test : Label → Bool) (xs : List Label) → IsDistinct same_name xs
    → IsDistinct same_name (filter test xs)
unfolding IsDistinct
distinct_filter test [] h = tt
distinct_filter test (x ∷ xs) h = kept (distinct_filter test xs h.1) (test x)
  where
    kept : IsDistinct same_name (filter test xs) → (b : Bool)
        → IsDistinct same_name (cond b (x ∷ filter test xs) (filter test xs))
    kept ih true = (all_kept_filter _ test xs h.0, ih)
    kept ih false = ih

passes_filter : {X : Type 0} (test : X → Bool) (xs : List X)
    → AllByRecursion (λ x. test x ≡ true) (filter test xs)
passes_filter test [] = tt
passes_filter test (x ∷ xs) = kept (passes_filter test xs) (test x) refl
  where
    kept : AllByRecursion (λ x. test x ≡ true) (filter test xs) → (b : Bool) → test x ≡ b
        → AllByRecursion (λ x. test x ≡ true) (cond b (x ∷ filter test xs) (filter test xs))
    kept ih true e = (e, ih)
    kept ih false e = ih

distinct_append : (xs ys : List Label) → IsDistinct same_name xs → IsDistinct same_name ys
    → AllByRecursion (λ y. not (has_name xs y) ≡ true) ys → IsDistinct same_name (xs ++ ys)
unfolding IsDistinct
distinct_append [] ys h k c = k
distinct_append (x ∷ xs) ys h k c = (front xs ys h.0 c, distinct_append xs ys h.1 k (rest ys c))
  where
    parts : (y : Label) → not (same_name x y || has_name xs y) ≡ true
        → (same_name x y ≡ false) × (has_name xs y ≡ false)
    parts y e = or_parts (same_name x y) (has_name xs y) (not-true _ e)

    back : (ys : List Label) → AllByRecursion (λ y. not (has_name (x ∷ xs) y) ≡ true) ys
        → AllByRecursion (λ y. same_name x y ≡ false) ys
    back [] c = tt
    back (y ∷ ys) c = ((parts y c.0).0, back ys c.1)

    front : (zs ys : List Label) → AllByRecursion (λ y. same_name x y ≡ false) zs
        → AllByRecursion (λ y. not (has_name (x ∷ xs) y) ≡ true) ys
        → AllByRecursion (λ y. same_name x y ≡ false) (zs ++ ys)
    front [] ys g c = back ys c
    front (z ∷ zs) ys g c = (g.0, front zs ys g.1 c)

    rest : (ys : List Label) → AllByRecursion (λ y. not (has_name (x ∷ xs) y) ≡ true) ys
        → AllByRecursion (λ y. not (has_name xs y) ≡ true) ys
    rest [] c = tt
    rest (y ∷ ys) c = (ap not (parts y c.0).1, rest ys c.1)

distinct_released : (certified : List Label) → IsDistinct same_name (released certified)
unfolding IsDistinct
distinct_released [] = tt
distinct_released (x ∷ older) =
    distinct_append (released older)
    (filter (λ y. not (has_name (released older) y)) (beginning x.sender (x ∷ older)))
    (distinct_released older)
    (distinct_filter (λ y. not (has_name (released older) y)) _
    (subst (λ (ys : List Label). IsDistinct same_name ys)
    (sym (beginning_is x.sender (x ∷ older)))
    (row-distinct x.sender 1 (reach x.sender (x ∷ older)))))
    (passes_filter (λ y. not (has_name (released older) y)) _)

same_decides : (x y : Label) → Decides (same_name x y) (x ≡ y)
same_decides x y =
    (same_name-true x y, λ e. subst (λ (z : Label). same_name x z ≡ true) e (same_name-same x))

-- a log holds no name twice
pub no_name_twice : (certified : List Label) → AllPairs (λ x y. x ≢ y) (released certified)
no_name_twice certified =
    AllPairs-from_IsDistinct same_decides (released certified) (distinct_released certified)

-- ---- what is in a log is certified

-- the names of a row before its first uncertified one are certified
pub row_certified : (certified : List Label) (s a k j : ℕ) → a ≤ j
    → j < a + prefix_len (has_name certified) (row s a k) → has_name certified (name s j) ≡ true
row_certified certified s a zero j h l = absurd (omega arith)
row_certified certified s a (suc k) j h l =
    at (row_certified certified s (suc a) k j) (has_name certified (name s a)) refl l
  where
    at : (suc a ≤ j → j < suc a + prefix_len (has_name certified) (row s (suc a) k)
        → has_name certified (name s j) ≡ true) → (b : Bool) → has_name certified (name s a) ≡ b
        → j < a + cond b (1 + prefix_len (has_name certified) (row s (suc a) k)) 0
        → has_name certified (name s j) ≡ true
    at ih true e l =
        ⊎_elim (λ f. subst (λ (i : ℕ). has_name certified (name s i) ≡ true) f e)
        (λ f. ih (omega arith) (omega arith)) (cases_eq a j)
    at ih false e l = absurd (omega arith)

-- each name of a log is certified
pub log_certified : (certified : List Label) (x : Label) → has_name (released certified) x ≡ true
    → has_name certified x ≡ true
log_certified certified x h =
    let e : has_name (row x.sender 1 (reach x.sender certified)) x ≡ true =
    ap (λ xs. has_name xs x) (sym (part-released x.sender certified))
    ∙ (has_name-part x.sender x.seq (released certified) ∙ h) in
    at (cases_lt x.seq 1) (cases_lt x.seq (1 + reach x.sender certified)) e
  where
    at : (x.seq < 1) ⊎ (1 ≤ x.seq)
        → (x.seq < 1 + reach x.sender certified) ⊎ (1 + reach x.sender certified ≤ x.seq)
        → has_name (row x.sender 1 (reach x.sender certified)) x ≡ true
        → has_name certified x ≡ true
    at (inl l) u e =
        absurd (false≢true (sym (has-row-not x.sender 1 (reach x.sender certified) x.seq (inl l))
        ∙ e))
    at (inr l) (inl u) e =
        row_certified certified x.sender 1 (length (part_of x.sender certified)) x.seq l u
    at (inr l) (inr u) e =
        absurd (false≢true (sym (has-row-not x.sender 1 (reach x.sender certified) x.seq (inr u))
        ∙ e))
