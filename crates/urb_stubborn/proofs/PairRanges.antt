-- Sorted pairs between a cursor and a last name: the first one, and what comes after it.
use Rattle.urb_stubborn.proofs.Common.{Bool, Content, Label, None, Option, Some, [], and_from}
use Rattle.urb_stubborn.proofs.Common.{and_parts, ap, are_rising, behind, between, cond, cond-false}
use Rattle.urb_stubborn.proofs.Common.{cond-true, cond_both, false, false_from_ne_true, false≢true}
use Rattle.urb_stubborn.proofs.Common.{filter, first_name, is_after, is_within, list_all}
use Rattle.urb_stubborn.proofs.Common.{message_of, name_lt, name_lt-strict, name_lt-trans, not}
use Rattle.urb_stubborn.proofs.Common.{refl, same_name, subst, sym, true, ◌∙◌, ◌∷◌, ◌≡◌}
use Rattle.std.specs.List.{AllByRecursion}
use Rattle.urb_names.proofs.SameNames.{same_name-same, same_name-true}
use Rattle.urb_stubborn.proofs.PairsAfterCursor.{Pairs, after_behind, first_after}

-- ---- pairs that pass a test

-- a filter leaves pairs that all pass its test as they are
pub all_pass : (test : Label × Content → Bool) (ps : Pairs) → list_all test ps ≡ true
    → filter test ps ≡ ps
all_pass test [] h = refl
all_pass test (p ∷ ps) h =
    let parts = and_parts (test p) (list_all test ps) h in
    cond-true (test p) (p ∷ filter test ps) (filter test ps) parts.0
    ∙ ap (λ qs. p ∷ qs) (all_pass test ps parts.1)

none_pass : (test : Label × Content → Bool) (ps : Pairs) → list_all (λ p. not (test p)) ps ≡ true
    → filter test ps ≡ []
none_pass test [] h = refl
none_pass test (p ∷ ps) h =
    let parts = and_parts (not (test p)) (list_all (λ p. not (test p)) ps) h in
    step (test p) parts.0 ∙ none_pass test ps parts.1
  where
    step : (b : Bool) → not b ≡ true → cond b (p ∷ filter test ps) (filter test ps) ≡ filter test ps
    step true e = absurd (false≢true e)
    step false e = refl

-- if all pass a test, all pass a weaker test
weaker : (test other : Label × Content → Bool) (ps : Pairs)
    → ((p : Label × Content) → test p ≡ true → other p ≡ true) → list_all test ps ≡ true
    → list_all other ps ≡ true
weaker test other [] k h = refl
weaker test other (p ∷ ps) k h =
    let parts = and_parts (test p) (list_all test ps) h in
    and_from (other p) _ (k p parts.0) (weaker test other ps k parts.1)

all_kept : (test other : Label × Content → Bool) (ps : Pairs) → list_all test ps ≡ true
    → list_all test (filter other ps) ≡ true
all_kept test other [] h = refl
all_kept test other (p ∷ ps) h =
    let parts = and_parts (test p) (list_all test ps) h in
    cond_both (other p) (p ∷ filter other ps) (filter other ps) (λ qs. list_all test qs ≡ true)
    (λ _. and_from (test p) _ parts.0 (all_kept test other ps parts.1))
    (λ _. all_kept test other ps parts.1)

-- the pairs that pass a test are in order
pub rising_kept : (test : Label × Content → Bool) (ps : Pairs) → are_rising ps ≡ true
    → are_rising (filter test ps) ≡ true
rising_kept test [] h = refl
rising_kept test (p ∷ ps) h =
    let parts = and_parts (list_all (λ q. name_lt p.0 q.0) ps) (are_rising ps) h in
    cond_both (test p) (p ∷ filter test ps) (filter test ps) (λ qs. are_rising qs ≡ true)
    (λ _. and_from (list_all (λ q. name_lt p.0 q.0) (filter test ps)) _
    (all_kept (λ q. name_lt p.0 q.0) test ps parts.0) (rising_kept test ps parts.1))
    (λ _. rising_kept test ps parts.1)

-- ---- the first pair that doesn't come after the last name

first_of : (p : Label × Content) (ps : Pairs) (x : Label) → first_name (p ∷ ps) ≡ Some x → p.0 ≡ x
first_of p ps x e = cc

-- if one comes after the last name, so do all that follow it
pub all_over : (last : Option Label) (ps : Pairs) (x : Label) → are_rising ps ≡ true
    → first_name ps ≡ Some x → is_within last x ≡ false → filter (λ p. is_within last p.0) ps ≡ []
all_over last [] x h e o = refl
all_over None (p ∷ ps) x h e o = absurd (false≢true (sym o))
all_over (Some l) (p ∷ ps) x h e o =
    let parts = and_parts (list_all (λ q. name_lt p.0 q.0) ps) (are_rising ps) h in
    none_pass (λ q. not (name_lt l q.0)) (p ∷ ps)
    (weaker (λ q. name_lt l q.0) (λ q. not (not (name_lt l q.0))) (p ∷ ps)
    (λ q f. twice (name_lt l q.0) f)
    (and_from (name_lt l p.0) _ over
    (weaker (λ q. name_lt p.0 q.0) (λ q. name_lt l q.0) ps
    (λ q f. name_lt-trans l p.0 q.0 over f) parts.0)))
  where
    twice : (b : Bool) → b ≡ true → not (not b) ≡ true
    twice true f = refl
    twice false f = f

    not_false : (b : Bool) → not b ≡ false → b ≡ true
    not_false true f = refl
    not_false false f = absurd (false≢true (sym f))

    over : name_lt l p.0 ≡ true
    over = ap (name_lt l) (first_of p ps x e) ∙ not_false (name_lt l x) o

-- if the first of rising pairs comes after the last name, so does each of them
pub within_over : (last : Option Label) (ps : Pairs) (x : Label) → are_rising ps ≡ true
    → first_name ps ≡ Some x → is_within last x ≡ false
    → first_name (filter (λ p. is_within last p.0) ps) ≡ None
within_over last ps x h e o = ap first_name (all_over last ps x h e o)

-- ---- after the first pair

heads : (p q : Label × Content) (ps qs : Pairs) → ◌≡◌ {A = Pairs} (p ∷ ps) (q ∷ qs) → p ≡ q
heads p q ps qs e = cc

tails : (p q : Label × Content) (ps qs : Pairs) → ◌≡◌ {A = Pairs} (p ∷ ps) (q ∷ qs) → ps ≡ qs
tails p q ps qs e = cc

behind_first : (cursor : Option Label) (ps : Pairs) (q : Label × Content) (rest : Pairs)
    → are_rising ps ≡ true → behind cursor ps ≡ q ∷ rest → behind (Some q.0) ps ≡ rest
behind_first cursor [] q rest h e = absurd cc
behind_first cursor (p ∷ ps) q rest h e =
    at (is_after cursor p.0) refl e (behind_first cursor ps q rest parts.1)
  where
    parts : (list_all (λ r. name_lt p.0 r.0) ps ≡ true) × (are_rising ps ≡ true)
    parts = and_parts (list_all (λ r. name_lt p.0 r.0) ps) (are_rising ps) h

    at : (b : Bool) → is_after cursor p.0 ≡ b
        → cond b (p ∷ behind cursor ps) (behind cursor ps) ≡ q ∷ rest
        → (behind cursor ps ≡ q ∷ rest → behind (Some q.0) ps ≡ rest)
        → behind (Some q.0) (p ∷ ps) ≡ rest
    at true f g ih =
        let all : behind cursor ps ≡ ps =
        all_pass (λ r. is_after cursor r.0) ps
        (weaker (λ r. name_lt p.0 r.0) (λ r. is_after cursor r.0) ps
        (λ r k. after_behind cursor p.0 r.0 f k) parts.0) in
        ap (λ (r : Label × Content). behind (Some r.0) (p ∷ ps))
        (sym (heads p q (behind cursor ps) rest g))
        ∙ (cond-false (name_lt p.0 p.0) (p ∷ behind (Some p.0) ps) (behind (Some p.0) ps)
        (name_lt-strict p.0)
        ∙ (all_pass (λ r. name_lt p.0 r.0) ps parts.0
        ∙ (sym all ∙ tails p q (behind cursor ps) rest g)))
    at false f g ih =
        let after : is_after cursor q.0 ≡ true = first_after cursor ps q.0 (ap first_name g) in
        let not_here : name_lt q.0 p.0 ≡ false =
        false_from_ne_true _ (λ k. false≢true (sym f ∙ after_behind cursor q.0 p.0 after k)) in
        cond-false (name_lt q.0 p.0) (p ∷ behind (Some q.0) ps) (behind (Some q.0) ps) not_here
        ∙ ih g

-- after the first pair between a cursor and a last name come the others
pub between_next : (cursor last : Option Label) (ps : Pairs) (q : Label × Content) (rest : Pairs)
    → are_rising ps ≡ true → between cursor last ps ≡ q ∷ rest → between (Some q.0) last ps ≡ rest
between_next cursor last ps q rest h e = at (behind cursor ps) refl
  where
    within : Pairs → Pairs
    within qs = filter (λ p. is_within last p.0) qs

    at : (all : Pairs) → behind cursor ps ≡ all → between (Some q.0) last ps ≡ rest
    at [] f = let none : [] ≡ q ∷ rest = sym (ap within f) ∙ e in absurd cc
    at (p ∷ all) f = by (is_within last p.0) refl (sym (ap within f) ∙ e)
      where
        by : (b : Bool) → is_within last p.0 ≡ b → within (p ∷ all) ≡ q ∷ rest
            → between (Some q.0) last ps ≡ rest
        by true g k =
            let whole : p ∷ within all ≡ q ∷ rest =
            sym (cond-true (is_within last p.0) (p ∷ within all) (within all) g) ∙ k in
            ap (λ (r : Label × Content). between (Some r.0) last ps)
            (sym (heads p q (within all) rest whole))
            ∙ (ap within (behind_first cursor ps p all h f) ∙ tails p q (within all) rest whole)
        by false g k =
            let none : [] ≡ q ∷ rest =
            sym (all_over last (p ∷ all) p.0
            (subst (λ (qs : Pairs). are_rising qs ≡ true) f
            (rising_kept (λ r. is_after cursor r.0) ps h)) refl g) ∙ k in
            absurd cc

-- ---- the messages of sorted pairs

-- each pair's message is found under its name
abbrev pub AreFound : Pairs → Pairs → Type 0
AreFound all ps = AllByRecursion (λ p. message_of all p.0 ≡ Some p.1) ps

found_behind : (p : Label × Content) (all ps : Pairs) → list_all (λ q. name_lt p.0 q.0) ps ≡ true
    → AreFound all ps → AreFound (p ∷ all) ps
found_behind p all [] h k = tt
found_behind p all (q ∷ ps) h k =
    let parts = and_parts (name_lt p.0 q.0) (list_all (λ r. name_lt p.0 r.0) ps) h in
    let other : same_name p.0 q.0 ≡ false =
    false_from_ne_true _ (λ f. false≢true
    (sym (name_lt-strict q.0) ∙ subst (λ (x : Label). name_lt x q.0 ≡ true)
    (same_name-true p.0 q.0 f) parts.0)) in (
      cond-false (same_name p.0 q.0) (Some p.1) (message_of all q.0) other ∙ k.0,
      found_behind p all ps parts.1 k.1,
    )

-- in rising pairs, each pair's message is found under its name
pub all_found : (ps : Pairs) → are_rising ps ≡ true → AreFound ps ps
all_found [] h = tt
all_found (p ∷ ps) h =
    let parts = and_parts (list_all (λ q. name_lt p.0 q.0) ps) (are_rising ps) h in (
      cond-true (same_name p.0 p.0) (Some p.1) (message_of ps p.0) (same_name-same p.0),
      found_behind p ps ps parts.0 (all_found ps parts.1),
    )

-- if each pair's message is found under its name, so is that of each pair that passes a test
pub found_kept : (test : Label × Content → Bool) (all ps : Pairs) → AreFound all ps
    → AreFound all (filter test ps)
found_kept test all [] h = tt
found_kept test all (p ∷ ps) h =
    cond_both (test p) (p ∷ filter test ps) (filter test ps) (AreFound all)
    (λ _. (h.0, found_kept test all ps h.1)) (λ _. found_kept test all ps h.1)
