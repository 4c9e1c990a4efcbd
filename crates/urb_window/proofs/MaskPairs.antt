-- The pairs that masks under names describe: which they are, and that they are in order.
use Rattle.urb_window.proofs.Common.{Bool, Label, List, MAX_NODES, Some, [], ack_lt, acked}
use Rattle.urb_window.proofs.Common.{and_from, and_left, and_parts, ap, arith, cases_eq, cond}
use Rattle.urb_window.proofs.Common.{entry_lt, eq-eqb, false, false_from_ne_true, false≢true}
use Rattle.urb_window.proofs.Common.{filter, has_bit, inl, inr, is_rising, list_all, map, marks_in}
use Rattle.urb_window.proofs.Common.{mask_of, name_lt, name_lt-strict, nat_lt, ne_eqb, nodes_in}
use Rattle.urb_window.proofs.Common.{numbers_from, or_left, or_right, refl, same_name}
use Rattle.urb_window.proofs.Common.{same_name-same, same_name-true, subst, suc, sym, true}
use Rattle.urb_window.proofs.Common.{unwrap_or, value_of, zero, ℕ, ◌&&◌, ◌++◌, ◌+◌, ◌<◌, ◌==◌, ◌||◌}
use Rattle.urb_window.proofs.Common.{◌∙◌, ◌∷◌, ◌≡◌, ◌≤◌, ◌⊎◌}
use Rattle.std.proofs.Common.{lt-ltb}
use Rattle.std.specs.List.{list_any}
use Rattle.std.proofs.lemmas.List.Folds.{list_any-append}
use Rattle.urb_window.proofs.EntryOrder.{rising_append}

-- ---- the numbers that pass a test

-- whether a number is in the list
abbrev pub is_one_of : List ℕ → ℕ → Bool
is_one_of numbers r = list_any (λ s. s == r) numbers

-- a number below the first is not in the list
pub none_below : (test : ℕ → Bool) (first count r : ℕ) → r < first
    → is_one_of (filter test (numbers_from first count)) r ≡ false
none_below test first zero r l = refl
none_below test first (suc count) r l =
    at (test first) (none_below test (suc first) count r (omega arith))
  where
    at : (b : Bool) → is_one_of (filter test (numbers_from (suc first) count)) r ≡ false
        → is_one_of (cond b (first ∷ filter test (numbers_from (suc first) count))
        (filter test (numbers_from (suc first) count))) r ≡ false
    at true ih =
        ap (λ (c : Bool). c || is_one_of (filter test (numbers_from (suc first) count)) r)
        (ne_eqb first r (λ e. omega arith)) ∙ ih
    at false ih = ih

-- a number after the last is not in the list
pub none_behind : (test : ℕ → Bool) (first count r : ℕ) → first + count ≤ r
    → is_one_of (filter test (numbers_from first count)) r ≡ false
none_behind test first zero r l = refl
none_behind test first (suc count) r l =
    at (test first) (none_behind test (suc first) count r (omega arith))
  where
    at : (b : Bool) → is_one_of (filter test (numbers_from (suc first) count)) r ≡ false
        → is_one_of (cond b (first ∷ filter test (numbers_from (suc first) count))
        (filter test (numbers_from (suc first) count))) r ≡ false
    at true ih =
        ap (λ (c : Bool). c || is_one_of (filter test (numbers_from (suc first) count)) r)
        (ne_eqb first r (λ e. omega arith)) ∙ ih
    at false ih = ih

-- a number in between is in the list exactly if it passes
pub one_between : (test : ℕ → Bool) (first count r : ℕ) → first ≤ r → r < first + count
    → is_one_of (filter test (numbers_from first count)) r ≡ test r
one_between test first zero r l u = absurd (omega arith)
one_between test first (suc count) r l u =
    at (cases_eq first r) (test first) refl (one_between test (suc first) count r)
  where
    at : (first ≡ r) ⊎ (first ≡ r → ⊥) → (b : Bool) → test first ≡ b
        → (suc first ≤ r → r < suc first + count
        → is_one_of (filter test (numbers_from (suc first) count)) r ≡ test r)
        → is_one_of (cond b (first ∷ filter test (numbers_from (suc first) count))
        (filter test (numbers_from (suc first) count))) r ≡ test r
    at (inl e) true f ih = or_left (first == r) _ (eq-eqb first r e) ∙ (sym f ∙ ap test e)
    at (inl e) false f ih = none_below test (suc first) count r (omega arith) ∙ (sym f ∙ ap test e)
    at (inr e) true f ih =
        ap (λ (c : Bool). c || is_one_of (filter test (numbers_from (suc first) count)) r)
        (ne_eqb first r e) ∙ ih (omega arith) (omega arith)
    at (inr e) false f ih = ih (omega arith) (omega arith)

-- ---- which pairs there are

acked_row : (z : Label) (numbers : List ℕ) (y : Label) (r : ℕ)
    → acked (map (λ q. (z, q)) numbers) y r ≡ (same_name z y && is_one_of numbers r)
acked_row z [] y r = at (same_name z y)
  where
    at : (b : Bool) → false ≡ (b && false)
    at true = refl
    at false = refl
acked_row z (n ∷ ns) y r = at (same_name z y) (n == r) (is_one_of ns r) (acked_row z ns y r)
  where
    at : (b c d : Bool) → acked (map (λ q. (z, q)) ns) y r ≡ (b && d)
        → ((b && c) || acked (map (λ q. (z, q)) ns) y r) ≡ (b && (c || d))
    at true true d ih = refl
    at true false d ih = ih
    at false c d ih = ih

-- after a name in the order, none of its pairs follows
acked_later : (y : Label) (entries : List (Label × ℕ)) (r : ℕ)
    → list_all (λ e. name_lt y e.0) entries ≡ true → acked (marks_in entries) y r ≡ false
acked_later y [] r h = refl
acked_later y (e ∷ es) r h =
    let parts = and_parts (name_lt y e.0) (list_all (λ f. name_lt y f.0) es) h in
    let other : same_name e.0 y ≡ false =
    false_from_ne_true _ (λ f. false≢true
    (sym (name_lt-strict y) ∙ subst (λ (x : Label). name_lt y x ≡ true)
    (same_name-true e.0 y f) parts.0)) in
    list_any-append (λ ack. same_name ack.0 y && (ack.1 == r)) (map (λ q. (e.0, q)) (nodes_in e.1))
    (marks_in es)
    ∙ (ap (λ (b : Bool). b || acked (marks_in es) y r)
    (acked_row e.0 (nodes_in e.1) y r ∙ and_left (same_name e.0 y) _ other)
    ∙ acked_later y es r parts.1)

-- a node is marked for a name exactly if it is in the name's mask
pub acked_is : (entries : List (Label × ℕ)) (y : Label) (r : ℕ) → is_rising entry_lt entries ≡ true
    → acked (marks_in entries) y r ≡ is_one_of (nodes_in (mask_of entries y)) r
acked_is [] y r h = refl
acked_is (e ∷ es) y r h =
    list_any-append (λ ack. same_name ack.0 y && (ack.1 == r)) (map (λ q. (e.0, q)) (nodes_in e.1))
    (marks_in es)
    ∙ (ap (λ (b : Bool). b || acked (marks_in es) y r) (acked_row e.0 (nodes_in e.1) y r)
    ∙ at (same_name e.0 y) refl (acked_is es y r parts.1))
  where
    parts : (list_all (entry_lt e) es ≡ true) × (is_rising entry_lt es ≡ true)
    parts = and_parts (list_all (entry_lt e) es) (is_rising entry_lt es) h

    or_none : (b : Bool) → (b || false) ≡ b
    or_none true = refl
    or_none false = refl

    at : (b : Bool) → same_name e.0 y ≡ b
        → acked (marks_in es) y r ≡ is_one_of (nodes_in (mask_of es y)) r
        → ((b && is_one_of (nodes_in e.1) r) || acked (marks_in es) y r) ≡ is_one_of
        (nodes_in (unwrap_or (cond b (Some e.1) (value_of es y)) 0)) r
    at true f ih =
        ap (λ (c : Bool). is_one_of (nodes_in e.1) r || c)
        (acked_later y es r (subst (λ (x : Label). list_all (λ g. name_lt x g.0) es ≡ true)
        (same_name-true e.0 y f) parts.0))
        ∙ or_none (is_one_of (nodes_in e.1) r)
    at false f ih = ih

-- for a possible node, that is its bit
pub acked_bit : (entries : List (Label × ℕ)) (y : Label) (r : ℕ) → is_rising entry_lt entries ≡ true
    → 0 < r → r ≤ MAX_NODES → acked (marks_in entries) y r ≡ has_bit (mask_of entries y) r
acked_bit entries y r h l u =
    acked_is entries y r h ∙ one_between (has_bit (mask_of entries y)) 1 MAX_NODES r (omega arith)
    (omega arith)

-- ---- the order of the pairs

all_joined : {X : Type 0} (test : X → Bool) (xs ys : List X) → list_all test xs ≡ true
    → list_all test ys ≡ true → list_all test (xs ++ ys) ≡ true
all_joined test [] ys h k = k
all_joined test (x ∷ xs) ys h k =
    let parts = and_parts (test x) (list_all test xs) h in
    and_from (test x) (list_all test (xs ++ ys)) parts.0 (all_joined test xs ys parts.1 k)

-- the pairs of one name with these nodes
abbrev row : Label → List ℕ → List (Label × ℕ)
row z numbers = map (λ q. (z, q)) numbers

row_later : (z : Label) (test : ℕ → Bool) (low first count : ℕ) → low < first
    → list_all (ack_lt (z, low)) (row z (filter test (numbers_from first count))) ≡ true
row_later z test low first zero l = refl
row_later z test low first (suc count) l =
    at (test first) (row_later z test low (suc first) count (omega arith))
  where
    before : ack_lt (z, low) (z, first) ≡ true
    before =
        or_right (name_lt z z) (same_name z z && nat_lt low first)
        (and_from (same_name z z) (nat_lt low first) (same_name-same z) (lt-ltb low first l))

    at : (b : Bool) → list_all (ack_lt (z, low))
        (row z (filter test (numbers_from (suc first) count))) ≡ true
        → list_all (ack_lt (z, low)) (row z
        (cond b (first ∷ filter test (numbers_from (suc first) count))
        (filter test (numbers_from (suc first) count)))) ≡ true
    at true ih = and_from (ack_lt (z, low) (z, first)) _ before ih
    at false ih = ih

row_rises : (z : Label) (test : ℕ → Bool) (first count : ℕ)
    → is_rising ack_lt (row z (filter test (numbers_from first count))) ≡ true
row_rises z test first zero = refl
row_rises z test first (suc count) = at (test first) (row_rises z test (suc first) count)
  where
    at : (b : Bool) → is_rising ack_lt (row z (filter test (numbers_from (suc first) count))) ≡ true
        → is_rising ack_lt (row z (cond b (first ∷ filter test (numbers_from (suc first) count))
        (filter test (numbers_from (suc first) count)))) ≡ true
    at true ih =
        and_from (list_all (ack_lt (z, first))
        (row z (filter test (numbers_from (suc first) count)))) _
        (row_later z test first (suc first) count (omega arith)) ih
    at false ih = ih

name_first : (z : Label) (q : ℕ) (y : Label) (numbers : List ℕ) → name_lt z y ≡ true
    → list_all (ack_lt (z, q)) (row y numbers) ≡ true
name_first z q y [] h = refl
name_first z q y (n ∷ ns) h =
    and_from (ack_lt (z, q) (y, n)) _ (or_left (name_lt z y) (same_name z y && nat_lt q n) h)
    (name_first z q y ns h)

name_before : (z : Label) (q : ℕ) (entries : List (Label × ℕ))
    → list_all (λ e. name_lt z e.0) entries ≡ true
    → list_all (ack_lt (z, q)) (marks_in entries) ≡ true
name_before z q [] h = refl
name_before z q (e ∷ es) h =
    let parts = and_parts (name_lt z e.0) (list_all (λ f. name_lt z f.0) es) h in
    all_joined (ack_lt (z, q)) (row e.0 (nodes_in e.1)) (marks_in es)
    (name_first z q e.0 (nodes_in e.1) parts.0) (name_before z q es parts.1)

row_before : (z : Label) (numbers : List ℕ) (entries : List (Label × ℕ))
    → list_all (λ e. name_lt z e.0) entries ≡ true
    → list_all (λ a. list_all (ack_lt a) (marks_in entries)) (row z numbers) ≡ true
row_before z [] entries h = refl
row_before z (n ∷ ns) entries h =
    and_from (list_all (ack_lt (z, n)) (marks_in entries)) _ (name_before z n entries h)
    (row_before z ns entries h)

-- the pairs are in order if the names are
pub marks_rise : (entries : List (Label × ℕ)) → is_rising entry_lt entries ≡ true
    → is_rising ack_lt (marks_in entries) ≡ true
marks_rise [] h = refl
marks_rise (e ∷ es) h =
    let parts = and_parts (list_all (entry_lt e) es) (is_rising entry_lt es) h in
    rising_append ack_lt (row e.0 (nodes_in e.1)) (marks_in es)
    (row_rises e.0 (has_bit e.1) 1 MAX_NODES) (marks_rise es parts.1)
    (row_before e.0 (nodes_in e.1) es parts.0)
