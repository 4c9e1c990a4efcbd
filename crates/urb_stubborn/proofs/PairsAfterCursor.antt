-- Sorted names after a cursor: the first due name, and what comes after it.
use Rattle.urb_stubborn.proofs.Common.{Bool, Content, IsPassed, Label, List, None, Option}
use Rattle.urb_stubborn.proofs.Common.{Resending, Some, [], and_from, and_parts, ap, are_rising}
use Rattle.urb_stubborn.proofs.Common.{arith, behind, cases_lt, cond, cond-false, cond-true}
use Rattle.urb_stubborn.proofs.Common.{due_pairs, eq-eqb, false, false_from_ne_true, false≢true}
use Rattle.urb_stubborn.proofs.Common.{first_name, inl, inr, is_after, is_due, length, list_all}
use Rattle.urb_stubborn.proofs.Common.{lt-ltb, ltb-true, name_lt, name_lt-strict, name_lt-trans}
use Rattle.urb_stubborn.proofs.Common.{nat_lt, not, or_left, or_parts, or_right, refl, subst, sym}
use Rattle.urb_stubborn.proofs.Common.{true, ◌&&◌, ◌<◌, ◌==◌, ◌∙◌, ◌∷◌, ◌≡◌, ◌≤◌, ◌⊎◌}
use Rattle.std.proofs.lemmas.Bool.{eqb-true, or_cases}
use Rattle.urb_names.proofs.RisingPairs.{name_lt-other_way}

abbrev pub Pairs : Type 0
Pairs = List (Label × Content)

-- the first name is the name of the first pair
first_is : (p : Label × Content) (ps : Pairs) (x : Label) → first_name (p ∷ ps) ≡ Some x → p.0 ≡ x
first_is p ps x e = cc

-- ---- the order of names

-- A name that isn't before x has no lower sender and, under the same sender, no lower number.
not_before : (y x : Label) → name_lt y x ≡ false
    → (x.sender ≤ y.sender) × (y.sender ≡ x.sender → x.seq ≤ y.seq)
not_before y x e =
    let parts =
    or_parts (nat_lt y.sender x.sender) ((y.sender == x.sender) && nat_lt y.seq x.seq) e in
    (at (cases_lt y.sender x.sender) parts.0, λ same. number same (cases_lt y.seq x.seq) parts.1)
  where
    at : (y.sender < x.sender) ⊎ (x.sender ≤ y.sender) → nat_lt y.sender x.sender ≡ false
        → x.sender ≤ y.sender
    at (inl l) f = absurd (false≢true (sym f ∙ lt-ltb y.sender x.sender l))
    at (inr l) f = l

    number : y.sender ≡ x.sender → (y.seq < x.seq) ⊎ (x.seq ≤ y.seq)
        → ((y.sender == x.sender) && nat_lt y.seq x.seq) ≡ false → x.seq ≤ y.seq
    number same (inl l) f =
        absurd (false≢true (sym f ∙ and_from (y.sender == x.sender) (nat_lt y.seq x.seq)
        (eq-eqb y.sender x.sender same) (lt-ltb y.seq x.seq l)))
    number same (inr l) f = l

-- what comes after the end comes after each of the sender's names up to the end
through : (x end y : Label) → end.sender ≡ x.sender → x.seq ≤ end.seq → name_lt end y ≡ true
    → name_lt x y ≡ true
through x end y same l e =
    at (or_cases (nat_lt end.sender y.sender) ((end.sender == y.sender) && nat_lt end.seq y.seq) e)
  where
    at : (nat_lt end.sender y.sender ≡ true)
        ⊎ (((end.sender == y.sender) && nat_lt end.seq y.seq) ≡ true) → name_lt x y ≡ true
    at (inl f) =
        let less : end.sender < y.sender = ltb-true end.sender y.sender f in
        or_left (nat_lt x.sender y.sender) ((x.sender == y.sender) && nat_lt x.seq y.seq)
        (lt-ltb x.sender y.sender (omega (arith, less, same)))
    at (inr f) =
        let parts = and_parts (end.sender == y.sender) (nat_lt end.seq y.seq) f in
        let one : end.sender ≡ y.sender = eqb-true end.sender y.sender parts.0 in
        let less : end.seq < y.seq = ltb-true end.seq y.seq parts.1 in
        or_right (nat_lt x.sender y.sender) ((x.sender == y.sender) && nat_lt x.seq y.seq)
        (and_from (x.sender == y.sender) (nat_lt x.seq y.seq)
        (eq-eqb x.sender y.sender (sym same ∙ one))
        (lt-ltb x.seq y.seq (omega (arith, less, l))))

-- a name after one that comes after a cursor comes after the cursor too
pub after_behind : (cursor : Option Label) (x y : Label) → is_after cursor x ≡ true
    → name_lt x y ≡ true → is_after cursor y ≡ true
after_behind None x y e f = refl
after_behind (Some c) x y e f = name_lt-trans c x y e f

-- a name from x up to the end is one of those passed, so it is not due
pub passed_not_due : (r : Resending) (x end y : Label) → IsPassed r x end → name_lt y x ≡ false
    → name_lt end y ≡ false → is_due r.limits.n r.node r.heard y ≡ false
passed_not_due r x end y h e f =
    let low = not_before y x e in
    let high = not_before end y f in
    let same : y.sender ≡ x.sender = omega (arith, low.0, high.0, h.sender) in
    h.settled y same (low.1 same) (high.1 (h.sender ∙ sym same))

-- ---- the first name

-- the first name comes after the cursor
pub first_after : (cursor : Option Label) (ps : Pairs) (x : Label)
    → first_name (behind cursor ps) ≡ Some x → is_after cursor x ≡ true
first_after cursor [] x e = absurd cc
first_after cursor (p ∷ ps) x e = at (is_after cursor p.0) refl (first_after cursor ps x) e
  where
    at : (b : Bool) → is_after cursor p.0 ≡ b
        → (first_name (behind cursor ps) ≡ Some x → is_after cursor x ≡ true)
        → first_name (cond b (p ∷ behind cursor ps) (behind cursor ps)) ≡ Some x
        → is_after cursor x ≡ true
    at true f ih g = ap (is_after cursor) (sym (first_is p (behind cursor ps) x g)) ∙ f
    at false f ih g = ih g

-- no pair after the cursor comes before it
abbrev pub IsLeast : Option Label → Pairs → Label → Type 0
IsLeast cursor ps x = list_all (λ p. not (is_after cursor p.0 && name_lt p.0 x)) ps ≡ true

none_before : (cursor : Option Label) (x : Label) (ps : Pairs)
    → list_all (λ q. name_lt x q.0) ps ≡ true → IsLeast cursor ps x
none_before cursor x [] h = refl
none_before cursor x (p ∷ ps) h =
    let parts = and_parts (name_lt x p.0) (list_all (λ q. name_lt x q.0) ps) h in
    and_from (not (is_after cursor p.0 && name_lt p.0 x)) _
    (at (is_after cursor p.0) (name_lt p.0 x) (name_lt-other_way x p.0 parts.0))
    (none_before cursor x ps parts.1)
  where
    at : (b c : Bool) → c ≡ false → not (b && c) ≡ true
    at true c e = ap not e
    at false c e = refl

-- among rising pairs, none after the cursor comes before the first of them
pub first_least : (cursor : Option Label) (ps : Pairs) (x : Label) → are_rising ps ≡ true
    → first_name (behind cursor ps) ≡ Some x → IsLeast cursor ps x
first_least cursor [] x h e = refl
first_least cursor (p ∷ ps) x h e =
    at (is_after cursor p.0) refl (first_least cursor ps x parts.1) e
  where
    parts : (list_all (λ q. name_lt p.0 q.0) ps ≡ true) × (are_rising ps ≡ true)
    parts = and_parts (list_all (λ q. name_lt p.0 q.0) ps) (are_rising ps) h

    nothing : (b : Bool) → b ≡ false → not b ≡ true
    nothing true f = absurd (false≢true (sym f))
    nothing false f = refl

    both : (b c : Bool) → b ≡ false → (b && c) ≡ false
    both true c f = absurd (false≢true (sym f))
    both false c f = refl

    right : (b c : Bool) → c ≡ false → (b && c) ≡ false
    right true c f = f
    right false c f = refl

    at : (b : Bool) → is_after cursor p.0 ≡ b
        → (first_name (behind cursor ps) ≡ Some x → IsLeast cursor ps x)
        → first_name (cond b (p ∷ behind cursor ps) (behind cursor ps)) ≡ Some x
        → IsLeast cursor (p ∷ ps) x
    at true f ih g =
        let here : p.0 ≡ x = first_is p (behind cursor ps) x g in
        and_from (not (is_after cursor p.0 && name_lt p.0 x)) _
        (nothing _ (right (is_after cursor p.0) (name_lt p.0 x)
        (ap (λ (y : Label). name_lt y x) here ∙ name_lt-strict x)))
        (none_before cursor x ps (subst
        (λ (y : Label). list_all (λ q. name_lt y q.0) ps ≡ true) here parts.0))
    at false f ih g =
        and_from (not (is_after cursor p.0 && name_lt p.0 x)) _
        (nothing _ (both (is_after cursor p.0) (name_lt p.0 x) f)) (ih g)

-- ---- passing names that are not due

-- the due pairs after the end of the passed names are the due pairs after the cursor
pub passed_same : (r : Resending) (cursor : Option Label) (pairs : Pairs) (x end : Label)
    → are_rising pairs ≡ true → first_name (behind cursor pairs) ≡ Some x → IsPassed r x end
    → behind (Some end) (due_pairs r pairs) ≡ behind cursor (due_pairs r pairs)
passed_same r cursor pairs x end rises first h =
    among pairs (first_least cursor pairs x rises first)
  where
    further : (y : Label) → name_lt end y ≡ true → is_after cursor y ≡ true
    further y e =
        after_behind cursor x y (first_after cursor pairs x first)
        (through x end y h.sender h.forward e)

    before : (b c : Bool) → not (b && c) ≡ true → b ≡ true → c ≡ false
    before true true e f = absurd (false≢true e)
    before true false e f = refl
    before false c e f = absurd (false≢true f)

    alike : (p : Label × Content) → is_due r.limits.n r.node r.heard p.0 ≡ true
        → not (is_after cursor p.0 && name_lt p.0 x) ≡ true → name_lt end p.0 ≡ is_after cursor p.0
    alike p due least = at (name_lt end p.0) (is_after cursor p.0) refl refl
      where
        at : (b c : Bool) → name_lt end p.0 ≡ b → is_after cursor p.0 ≡ c → b ≡ c
        at true true e f = refl
        at false false e f = refl
        at true false e f = sym (further p.0 e) ∙ f
        at false true e f =
            absurd (false≢true (sym (passed_not_due r x end p.0 h
            (before (is_after cursor p.0) (name_lt p.0 x) least f) e) ∙ due))

    among : (ps : Pairs) → IsLeast cursor ps x
        → behind (Some end) (due_pairs r ps) ≡ behind cursor (due_pairs r ps)
    among [] least = refl
    among (p ∷ ps) least = at (is_due r.limits.n r.node r.heard p.0) refl (among ps parts.1)
      where
        parts : (not (is_after cursor p.0 && name_lt p.0 x) ≡ true) × IsLeast cursor ps x
        parts = and_parts (not (is_after cursor p.0 && name_lt p.0 x)) _ least

        at : (b : Bool) → is_due r.limits.n r.node r.heard p.0 ≡ b
            → behind (Some end) (due_pairs r ps) ≡ behind cursor (due_pairs r ps)
            → behind (Some end) (cond b (p ∷ due_pairs r ps) (due_pairs r ps)) ≡ behind cursor
            (cond b (p ∷ due_pairs r ps) (due_pairs r ps))
        at true due ih =
            ap (λ (b : Bool). cond b (p ∷ behind (Some end) (due_pairs r ps))
            (behind (Some end) (due_pairs r ps))) (alike p due parts.0)
            ∙ ap (λ (qs : Pairs). cond (is_after cursor p.0) (p ∷ qs) qs) ih
        at false due ih = ih

-- fewer pairs come after the end of the passed names than after the cursor
pub passed_fewer : (r : Resending) (cursor : Option Label) (pairs : Pairs) (x end : Label)
    → first_name (behind cursor pairs) ≡ Some x → IsPassed r x end
    → length (behind (Some end) pairs) < length (behind cursor pairs)
passed_fewer r cursor pairs x end first h = among pairs first
  where
    further : (y : Label) → name_lt end y ≡ true → is_after cursor y ≡ true
    further y e =
        after_behind cursor x y (first_after cursor pairs x first)
        (through x end y h.sender h.forward e)

    most : (ps : Pairs) → length (behind (Some end) ps) ≤ length (behind cursor ps)
    most [] = omega arith
    most (p ∷ ps) = at (name_lt end p.0) (is_after cursor p.0) refl refl (most ps)
      where
        at : (b c : Bool) → name_lt end p.0 ≡ b → is_after cursor p.0 ≡ c
            → length (behind (Some end) ps) ≤ length (behind cursor ps)
            → length (cond b (p ∷ behind (Some end) ps) (behind (Some end) ps)) ≤ length
            (cond c (p ∷ behind cursor ps) (behind cursor ps))
        at true true e f ih = omega arith
        at true false e f ih = absurd (false≢true (sym f ∙ further p.0 e))
        at false true e f ih = omega arith
        at false false e f ih = ih

    itself : name_lt end x ≡ false
    itself =
        false_from_ne_true _ (λ e. false≢true
        (sym (name_lt-strict x) ∙ through x end x h.sender h.forward e))

    among : (ps : Pairs) → first_name (behind cursor ps) ≡ Some x
        → length (behind (Some end) ps) < length (behind cursor ps)
    among [] e = absurd cc
    among (p ∷ ps) e = at (name_lt end p.0) (is_after cursor p.0) refl refl (among ps) e
      where
        at : (b c : Bool) → name_lt end p.0 ≡ b → is_after cursor p.0 ≡ c
            → (first_name (behind cursor ps) ≡ Some x
            → length (behind (Some end) ps) < length (behind cursor ps))
            → first_name (cond c (p ∷ behind cursor ps) (behind cursor ps)) ≡ Some x
            → length (cond b (p ∷ behind (Some end) ps) (behind (Some end) ps)) < length
            (cond c (p ∷ behind cursor ps) (behind cursor ps))
        at true true f g ih k =
            absurd (false≢true (sym itself
            ∙ (ap (name_lt end) (sym (first_is p (behind cursor ps) x k)) ∙ f)))
        at true false f g ih k = absurd (false≢true (sym g ∙ further p.0 f))
        at false true f g ih k = omega (arith, most ps)
        at false false f g ih k = ih k

-- ---- the first due name

-- the first name is the first due one, if it is due
pub first_due : (r : Resending) (cursor : Option Label) (ps : Pairs) (x : Label)
    → first_name (behind cursor ps) ≡ Some x → is_due r.limits.n r.node r.heard x ≡ true
    → first_name (behind cursor (due_pairs r ps)) ≡ Some x
first_due r cursor [] x e due = e
first_due r cursor (p ∷ ps) x e due =
    at (is_after cursor p.0) (is_due r.limits.n r.node r.heard p.0) refl refl e
    (λ f. first_due r cursor ps x f due)
  where
    at : (b d : Bool) → is_after cursor p.0 ≡ b → is_due r.limits.n r.node r.heard p.0 ≡ d
        → first_name (cond b (p ∷ behind cursor ps) (behind cursor ps)) ≡ Some x
        → (first_name (behind cursor ps) ≡ Some x
        → first_name (behind cursor (due_pairs r ps)) ≡ Some x)
        → first_name (behind cursor (cond d (p ∷ due_pairs r ps) (due_pairs r ps))) ≡ Some x
    at true true f g k ih =
        ap first_name (cond-true (is_after cursor p.0) (p ∷ behind cursor (due_pairs r ps))
        (behind cursor (due_pairs r ps)) f) ∙ ap Some (first_is p (behind cursor ps) x k)
    at true false f g k ih =
        absurd (false≢true (sym g ∙ (ap (is_due r.limits.n r.node r.heard)
        (first_is p (behind cursor ps) x k) ∙ due)))
    at false true f g k ih =
        ap first_name (cond-false (is_after cursor p.0) (p ∷ behind cursor (due_pairs r ps))
        (behind cursor (due_pairs r ps)) f) ∙ ih k
    at false false f g k ih = ih k

-- if no name comes after the cursor, no due name does
pub none_due : (r : Resending) (cursor : Option Label) (ps : Pairs)
    → first_name (behind cursor ps) ≡ None → first_name (behind cursor (due_pairs r ps)) ≡ None
none_due r cursor [] e = refl
none_due r cursor (p ∷ ps) e =
    at (is_after cursor p.0) (is_due r.limits.n r.node r.heard p.0) refl e (none_due r cursor ps)
  where
    at : (b d : Bool) → is_after cursor p.0 ≡ b
        → first_name (cond b (p ∷ behind cursor ps) (behind cursor ps)) ≡ None
        → (first_name (behind cursor ps) ≡ None
        → first_name (behind cursor (due_pairs r ps)) ≡ None)
        → first_name (behind cursor (cond d (p ∷ due_pairs r ps) (due_pairs r ps))) ≡ None
    at true d f k ih = absurd cc
    at false true f k ih =
        ap first_name (cond-false (is_after cursor p.0) (p ∷ behind cursor (due_pairs r ps))
        (behind cursor (due_pairs r ps)) f) ∙ ih k
    at false false f k ih = ih k
