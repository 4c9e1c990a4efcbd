-- Cyclic order of names: the first name, and the first once the cursor is there.
use Rattle.urb_world.proofs.Common.{Bool, Content, Label, List, None, Option, Some, [], and_from}
use Rattle.urb_world.proofs.Common.{and_parts, ap, append-nil, append_assoc, ap₂, are_rising}
use Rattle.urb_world.proofs.Common.{cases_Bool, cond, cond-false, cond-true, cyclic, false}
use Rattle.urb_world.proofs.Common.{false≢true, filter, filter-append, is_after, length, list_all}
use Rattle.urb_world.proofs.Common.{name_lt, name_lt-strict, name_lt-trans, not, refl, subst, sym}
use Rattle.urb_world.proofs.Common.{true, ⊎_elim, ◌++◌, ◌∙◌, ◌∷◌, ◌≡◌}
use Rattle.std.proofs.lemmas.List.Filters.{length-filter_both}
use Rattle.std.proofs.lemmas.List.{length-append}
use Rattle.urb_stubborn.proofs.PairRanges.{all_pass}
use Rattle.urb_names.proofs.RisingPairs.{name_lt-other_way}

abbrev Pairs : Type 0
Pairs = List (Label × Content)

-- what comes after a name comes after each name before it
all_behind : (x y : Label) (ps : Pairs) → name_lt x y ≡ true
    → list_all (λ q. name_lt y q.0) ps ≡ true → list_all (λ q. name_lt x q.0) ps ≡ true
all_behind x y [] e h = refl
all_behind x y (q ∷ qs) e h =
    let parts = and_parts (name_lt y q.0) _ h in
    and_from (name_lt x q.0) _ (name_lt-trans x y q.0 e parts.0) (all_behind x y qs e parts.1)

none_pass : (test : Label × Content → Bool) (ps : Pairs) → list_all (λ p. not (test p)) ps ≡ true
    → filter test ps ≡ []
none_pass test [] h = refl
none_pass test (p ∷ ps) h =
    let parts = and_parts (not (test p)) (list_all (λ p. not (test p)) ps) h in
    step (test p) parts.0 ∙ none_pass test ps parts.1
  where
    step : (b : Bool) → not b ≡ true → cond b (p ∷ filter test ps) (filter test ps) ≡ filter test ps
    step true e = absurd (false≢true e)
    step false e = refl

twice : (b : Bool) → b ≡ true → not (not b) ≡ true
twice true e = refl
twice false e = e

-- if all elements pass a test, all pass a weaker test
weaker : (test other : Label × Content → Bool) (ps : Pairs)
    → ((p : Label × Content) → test p ≡ true → other p ≡ true) → list_all test ps ≡ true
    → list_all other ps ≡ true
weaker test other [] k h = refl
weaker test other (p ∷ ps) k h =
    let parts = and_parts (test p) (list_all test ps) h in
    and_from (other p) _ (k p parts.0) (weaker test other ps k parts.1)

-- ---- around a pair

-- the pairs before this one in the list have lower names, and those after it have greater names
record Around (front : Pairs) (q : Label × Content) (back : Pairs) : Type 0 where
  before : list_all (λ p. name_lt p.0 q.0) front ≡ true
  behind : list_all (λ p. name_lt q.0 p.0) back ≡ true

all_middle : (test : Label × Content → Bool) (front : Pairs) (q : Label × Content) (back : Pairs)
    → list_all test (front ++ q ∷ back) ≡ true → test q ≡ true
all_middle test [] q back h = (and_parts (test q) (list_all test back) h).0
all_middle test (p ∷ front) q back h = all_middle test front q back (and_parts (test p) _ h).1

around : (front : Pairs) (q : Label × Content) (back : Pairs)
    → are_rising (front ++ q ∷ back) ≡ true → Around front q back
around [] q back h = record {
  before = refl;
  behind =
      (and_parts (list_all (λ p. name_lt q.0 p.0) back) (are_rising back) h).0;
}
around (p ∷ front) q back h =
    let parts =
    and_parts (list_all (λ r. name_lt p.0 r.0) (front ++ q ∷ back))
    (are_rising (front ++ q ∷ back)) h in
    let rest = around front q back parts.1 in
    record {
      before = and_from (name_lt p.0 q.0) _
          (all_middle (λ r. name_lt p.0 r.0) front q back parts.0) rest.before;
      behind = rest.behind;
    }

not_after : (x y : Label) → name_lt x y ≡ true → not (name_lt y x) ≡ true
not_after x y e = ap not (name_lt-other_way x y e)

-- with the cursor at a pair, the pairs after it come first, and it comes last
cyclic_at : (front : Pairs) (q : Label × Content) (back : Pairs)
    → are_rising (front ++ q ∷ back) ≡ true
    → cyclic (Some q.0) (front ++ q ∷ back) ≡ back ++ (front ++ q ∷ [])
cyclic_at front q back h =
    ap (λ ps. ps ++ filter (λ p. not (name_lt q.0 p.0)) (front ++ q ∷ back)) first
    ∙ ap (λ ps. back ++ ps) last
  where
    sides : Around front q back
    sides = around front q back h

    front_not : list_all (λ p. not (name_lt q.0 p.0)) front ≡ true
    front_not =
        weaker (λ p. name_lt p.0 q.0) (λ p. not (name_lt q.0 p.0)) front
        (λ p e. not_after p.0 q.0 e) sides.before

    first : filter (λ p. name_lt q.0 p.0) (front ++ q ∷ back) ≡ back
    first =
        filter-append (λ p. name_lt q.0 p.0) front (q ∷ back)
        ∙ (ap (λ ps. ps ++ filter (λ p. name_lt q.0 p.0) (q ∷ back))
        (none_pass (λ p. name_lt q.0 p.0) front front_not)
        ∙ (cond-false (name_lt q.0 q.0) _ _ (name_lt-strict q.0)
        ∙ all_pass (λ p. name_lt q.0 p.0) back sides.behind))

    last : filter (λ p. not (name_lt q.0 p.0)) (front ++ q ∷ back) ≡ front ++ q ∷ []
    last =
        filter-append (λ p. not (name_lt q.0 p.0)) front (q ∷ back)
        ∙ (ap (λ ps. ps ++ filter (λ p. not (name_lt q.0 p.0)) (q ∷ back))
        (all_pass (λ p. not (name_lt q.0 p.0)) front front_not)
        ∙ ap (λ ps. front ++ ps)
        (cond-true (not (name_lt q.0 q.0)) (q ∷ filter (λ p. not (name_lt q.0 p.0)) back)
        (filter (λ p. not (name_lt q.0 p.0)) back) (ap not (name_lt-strict q.0))
        ∙ ap (λ ps. q ∷ ps) (none_pass (λ p. not (name_lt q.0 p.0)) back
        (weaker (λ p. name_lt q.0 p.0) (λ p. not (not (name_lt q.0 p.0))) back
        (λ p e. twice (name_lt q.0 p.0) e) sides.behind))))

-- ---- the first in cyclic order

-- pairs in order are those not after the cursor, and then those after it
record Parted (cursor : Option Label) (ps : Pairs) : Type 0 where
  low : Pairs
  high : Pairs
  whole : ps ≡ low ++ high
  above : filter (λ p. is_after cursor p.0) ps ≡ high
  below : filter (λ p. not (is_after cursor p.0)) ps ≡ low

after_behind : (cursor : Option Label) (x : Label) (ps : Pairs) → is_after cursor x ≡ true
    → list_all (λ p. name_lt x p.0) ps ≡ true → list_all (λ p. is_after cursor p.0) ps ≡ true
after_behind None x ps e h = weaker (λ p. name_lt x p.0) (λ p. true) ps (λ p e. refl) h
after_behind (Some c) x ps e h = all_behind c x ps e h

parted : (cursor : Option Label) (ps : Pairs) → are_rising ps ≡ true → Parted cursor ps
parted cursor [] h = record { low = []; high = []; whole = refl; above = refl; below = refl }
parted cursor (p ∷ ps) h =
    ⊎_elim (all_high) (some_low (parted cursor ps parts.1)) (cases_Bool (is_after cursor p.0))
  where
    parts : (list_all (λ r. name_lt p.0 r.0) ps ≡ true) × (are_rising ps ≡ true)
    parts = and_parts _ (are_rising ps) h

    all_high : is_after cursor p.0 ≡ true → Parted cursor (p ∷ ps)
    all_high e =
        let all : list_all (λ r. is_after cursor r.0) (p ∷ ps) ≡ true =
        and_from (is_after cursor p.0) _ e (after_behind cursor p.0 ps e parts.0) in
        record {
          low = [];
          high = p ∷ ps;
          whole = refl;
          above = all_pass (λ r. is_after cursor r.0) (p ∷ ps) all;
          below =
              none_pass (λ r. not (is_after cursor r.0)) (p ∷ ps)
              (weaker (λ r. is_after cursor r.0) (λ r. not (not (is_after cursor r.0))) (p ∷ ps)
              (λ r f. twice (is_after cursor r.0) f) all);
        }

    some_low : Parted cursor ps → is_after cursor p.0 ≡ false → Parted cursor (p ∷ ps)
    some_low rest e = record {
      low = p ∷ rest.low;
      high = rest.high;
      whole = ap (λ qs. p ∷ qs) rest.whole;
      above =
          cond-false (is_after cursor p.0) (p ∷ filter (λ r. is_after cursor r.0) ps)
          (filter (λ r. is_after cursor r.0) ps) e ∙ rest.above;
      below =
          cond-true (not (is_after cursor p.0)) (p ∷ filter (λ r. not (is_after cursor r.0)) ps)
          (filter (λ r. not (is_after cursor r.0)) ps) (ap not e) ∙ ap (λ qs. p ∷ qs) rest.below;
    }

-- the place of the pair that is first in cyclic order
record First (ps : Pairs) (q : Label × Content) (rest : Pairs) : Type 0 where
  front : Pairs
  back : Pairs
  whole : ps ≡ front ++ q ∷ back
  turned : rest ≡ back ++ front

first_is : (low high : Pairs) (q : Label × Content) (rest : Pairs) → high ++ low ≡ q ∷ rest
    → First (low ++ high) q rest
first_is low [] q rest e = record
    { front = []; back = rest; whole = append-nil low ∙ e; turned = sym (append-nil rest) }
first_is low (p ∷ high) q rest e =
    let head : p ≡ q = cc in
    let tail : high ++ low ≡ rest = cc in
    record { front = low; back = high; whole = ap (λ r. low ++ r ∷ high) head; turned = sym tail }

first : (cursor : Option Label) (ps : Pairs) (q : Label × Content) (rest : Pairs)
    → are_rising ps ≡ true → cyclic cursor ps ≡ q ∷ rest → First ps q rest
first cursor ps q rest h e =
    let split = parted cursor ps h in
    subst (λ qs. First qs q rest) (sym split.whole)
    (first_is split.low split.high q rest
    (sym (ap₂ (λ (x y : Pairs). x ++ y) split.above split.below) ∙ e))

-- once the cursor is at the first pair, that one is the last
pub turn : (cursor : Option Label) (ps : Pairs) (q : Label × Content) (rest : Pairs)
    → are_rising ps ≡ true → cyclic cursor ps ≡ q ∷ rest → cyclic (Some q.0) ps ≡ rest ++ q ∷ []
turn cursor ps q rest h e =
    let at = first cursor ps q rest h e in
    ap (cyclic (Some q.0)) at.whole
    ∙ (cyclic_at at.front q at.back (subst (λ qs. are_rising qs ≡ true) at.whole h)
    ∙ (sym (append_assoc at.back at.front (q ∷ [])) ∙ ap (λ qs. qs ++ q ∷ []) (sym at.turned)))

-- cyclic order keeps the number of pairs
pub length-cyclic : (cursor : Option Label) (ps : Pairs) → length (cyclic cursor ps) ≡ length ps
length-cyclic cursor ps =
    length-append (filter (λ p. is_after cursor p.0) ps)
    (filter (λ p. not (is_after cursor p.0)) ps)
    ∙ length-filter_both (λ p. is_after cursor p.0) (λ p. not (is_after cursor p.0))
    (λ p. refl) ps
