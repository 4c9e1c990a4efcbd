-- A pair that stays due gets its turn. Due pairs are those of all pairs that pass a test, and each
-- tick that leaves one out passes NAMES_PER_TICK.
use Rattle.urb_world.proofs.Common.{AllByRecursion, Bool, Content, IsDueAmong, Label, List}
use Rattle.urb_world.proofs.Common.{NAMES_PER_TICK, Option, [], and_parts, ap, are_rising, arith}
use Rattle.urb_world.proofs.Common.{cases_Bool, cond, cond-false, cond-true, cursor_next, cyclic}
use Rattle.urb_world.proofs.Common.{false, false≢true, filter, has_pair, has_pair-behind}
use Rattle.urb_world.proofs.Common.{has_pair-head, inl, inr, is_after, length, list_all, list_any}
use Rattle.urb_world.proofs.Common.{name_lt, name_lt-strict, name_lt-trans, not, or_left, or_right}
use Rattle.urb_world.proofs.Common.{refl, resent, same_name, same_name-same, same_name-true, subst}
use Rattle.urb_world.proofs.Common.{sym, true, ⊎_elim, ◌*◌, ◌++◌, ◌+◌, ◌<◌, ◌||◌, ◌∙◌, ◌∷◌, ◌≡◌}
use Rattle.urb_world.proofs.Common.{◌≤◌, ◌⊎◌}
use Rattle.std.proofs.lemmas.List.{length-append}
use Rattle.std.specs.List.{prefix_len}
use Rattle.urb_world.proofs.ticks.PassedPairs.{Nearer, passes}
use Rattle.urb_world.proofs.ticks.Membership.{IsIn, in-all, in-left, in-pairs, in-right}
use Rattle.urb_world.proofs.ticks.CyclicOrder.{length-cyclic}
use Rattle.urb_world.proofs.ticks.TickCoverage.{in-cyclic}
use Rattle.urb_world.specs.Resends.{resent_over, turn_of}

abbrev Pairs : Type 0
Pairs = List (Label × Content)

-- ---- elements

all_at : (test : Label × Content → Bool) (ps : Pairs) (d : Label × Content)
    → list_all test ps ≡ true → IsIn d ps → test d ≡ true
all_at test [] d h k = absurd k
all_at test (p ∷ ps) d h k =
    let parts = and_parts (test p) (list_all test ps) h in
    ⊎_elim (λ e. ap test (sym e) ∙ parts.0) (λ e. all_at test ps d parts.1 e) k

none_any : (test : Label × Content → Bool) (ps : Pairs)
    → ((d : Label × Content) → IsIn d ps → test d ≡ false) → list_any test ps ≡ false
none_any test [] h = refl
none_any test (p ∷ ps) h =
    or_none (test p) (list_any test ps) (h p (inl refl)) (none_any test ps (λ d k. h d (inr k)))
  where
    or_none : (a b : Bool) → a ≡ false → b ≡ false → (a || b) ≡ false
    or_none true b e f = e
    or_none false b e f = f

filter-same : (f g : Label × Content → Bool) (ps : Pairs)
    → ((d : Label × Content) → IsIn d ps → f d ≡ g d) → filter f ps ≡ filter g ps
filter-same f g [] h = refl
filter-same f g (p ∷ ps) h =
    ap (λ b. cond b (p ∷ filter f ps) (filter f ps)) (h p (inl refl))
    ∙ ap (λ qs. cond (g p) (p ∷ qs) qs) (filter-same f g ps (λ d k. h d (inr k)))

-- an element of a list of pairs is found there by its name and message
pub in-has : (d : Label × Content) (ps : Pairs) → IsIn d ps → has_pair ps d.0 d.1 ≡ true
in-has d [] h = absurd h
in-has d (p ∷ ps) h =
    ⊎_elim (λ e. subst (λ (v : Label × Content). has_pair (p ∷ ps) v.0 v.1 ≡ true) e
    (has_pair-head p ps)) (λ e. has_pair-behind p ps d.0 d.1 (in-has d ps e)) h

-- an element of a filtered list is an element of the list
pub in-unfilter : (test : Label × Content → Bool) (d : Label × Content) (ps : Pairs)
    → IsIn d (filter test ps) → IsIn d ps
in-unfilter test d [] h = h
in-unfilter test d (p ∷ ps) h = go (in-unfilter test d ps) (cases_Bool (test p))
  where
    go : (IsIn d (filter test ps) → IsIn d ps) → (test p ≡ true) ⊎ (test p ≡ false)
        → IsIn d (p ∷ ps)
    go ih (inl e) =
        ⊎_elim (λ a. inl a) (λ a. inr (ih a))
        (subst (λ (qs : Pairs). IsIn d qs)
        (cond-true (test p) (p ∷ filter test ps) (filter test ps) e) h)
    go ih (inr e) =
        inr (ih (subst (λ (qs : Pairs). IsIn d qs)
        (cond-false (test p) (p ∷ filter test ps) (filter test ps) e) h))

in-either : (d : Label × Content) (ps qs : Pairs) → IsIn d (ps ++ qs) → IsIn d ps ⊎ IsIn d qs
in-either d [] qs h = inr h
in-either d (p ∷ ps) qs h =
    ⊎_elim (λ e. inl (inl e)) (λ e. ⊎_elim (λ a. inl (inr a)) (λ a. inr a) (in-either d ps qs e)) h

-- an element of the cyclic order is an element of the list
from-cyclic : (cursor : Option Label) (d : Label × Content) (ps : Pairs) → IsIn d (cyclic cursor ps)
    → IsIn d ps
from-cyclic cursor d ps h =
    ⊎_elim (in-unfilter (λ p. is_after cursor p.0) d ps)
    (in-unfilter (λ p. not (is_after cursor p.0)) d ps)
    (in-either d (filter (λ p. is_after cursor p.0) ps)
    (filter (λ p. not (is_after cursor p.0)) ps) h)

not_false : (b : Bool) → not b ≡ false → b ≡ true
not_false true e = refl
not_false false e = sym e

-- ---- names in order

differ : (x y : Label) → name_lt x y ≡ true → same_name x y ≡ false
differ x y e =
    ⊎_elim (λ f. absurd (false≢true
    (sym (name_lt-strict x) ∙ (ap (name_lt x) (same_name-true x y f) ∙ e)))) (λ f. f)
    (cases_Bool (same_name x y))

differ_back : (x y : Label) → name_lt x y ≡ true → same_name y x ≡ false
differ_back x y e =
    ⊎_elim (λ f. absurd (false≢true
    (sym (name_lt-strict x) ∙ (ap (name_lt x) (sym (same_name-true y x f)) ∙ e)))) (λ f. f)
    (cases_Bool (same_name y x))

-- pairs in rising order have each name once
unique : (ps : Pairs) (d e : Label × Content) → are_rising ps ≡ true → IsIn d ps → IsIn e ps
    → d.0 ≡ e.0 → d ≡ e
unique [] d e h i j same = absurd i
unique (p ∷ ps) d e h i j same =
    ⊎_elim (λ a. ⊎_elim (λ b. sym a ∙ b) (λ b. absurd (apart d e a b same)) j)
    (λ a. ⊎_elim (λ b. absurd (apart e d b a (sym same))) (λ b. unique ps d e parts.1 a b same) j) i
  where
    parts : (list_all (λ r. name_lt p.0 r.0) ps ≡ true) × (are_rising ps ≡ true)
    parts = and_parts _ (are_rising ps) h

    apart : (u v : Label × Content) → p ≡ u → IsIn v ps → u.0 ≡ v.0 → ⊥
    apart u v a b s =
        false≢true
        (sym (name_lt-strict p.0) ∙ (ap (name_lt p.0) (ap (λ (w : Label × Content). w.0) a ∙ s)
        ∙ all_at (λ r. name_lt p.0 r.0) ps v parts.0 b))

-- whether the pair has the name of one of these
abbrev listed : Pairs → Label × Content → Bool
listed due p = list_any (λ q. same_name q.0 p.0) due

listed-in : (due : Pairs) (d e : Label × Content) → IsIn d due → d.0 ≡ e.0 → listed due e ≡ true
listed-in [] d e h s = absurd h
listed-in (q ∷ due) d e h s =
    ⊎_elim (λ a. or_left (same_name q.0 e.0) (listed due e)
    (subst (λ (x : Label). same_name x e.0 ≡ true)
    (sym (ap (λ (w : Label × Content). w.0) a ∙ s)) (same_name-same e.0)))
    (λ a. or_right (same_name q.0 e.0) (listed due e) (listed-in due d e a s)) h

-- due pairs in rising order are those of all pairs that have one of their names
filter-is : (all due : Pairs) → are_rising all ≡ true → are_rising due ≡ true
    → ((d : Label × Content) → IsIn d due → IsIn d all) → filter (listed due) all ≡ due
filter-is [] [] h k f = refl
filter-is [] (q ∷ qs) h k f = absurd (f q (inl refl))
filter-is (p ∷ ps) [] h k f =
    filter-is ps [] (and_parts (list_all (λ r. name_lt p.0 r.0) ps) (are_rising ps) h).1 refl
    (λ d i. absurd i)
filter-is (p ∷ ps) (q ∷ qs) h k f =
    ⊎_elim (here (filter-is ps qs parts.1 others.1)) (further (filter-is ps (q ∷ qs) parts.1 k))
    (f q (inl refl))
  where
    parts : (list_all (λ r. name_lt p.0 r.0) ps ≡ true) × (are_rising ps ≡ true)
    parts = and_parts _ (are_rising ps) h

    others : (list_all (λ r. name_lt q.0 r.0) qs ≡ true) × (are_rising qs ≡ true)
    others = and_parts _ (are_rising qs) k

    -- an element after p in order isn't p
    inside : (d : Label × Content) → name_lt p.0 d.0 ≡ true → IsIn d (p ∷ ps) → IsIn d ps
    inside d l i =
        ⊎_elim (λ e. absurd (false≢true
        (sym (name_lt-strict p.0) ∙ (ap (λ (w : Label × Content). name_lt p.0 w.0) e ∙ l))))
        (λ e. e) i

    here : (((d : Label × Content) → IsIn d qs → IsIn d ps) → filter (listed qs) ps ≡ qs) → p ≡ q
        → filter (listed (q ∷ qs)) (p ∷ ps) ≡ q ∷ qs
    here ih e =
        cond-true (listed (q ∷ qs) p) (p ∷ filter (listed (q ∷ qs)) ps)
        (filter (listed (q ∷ qs)) ps)
        (listed-in (q ∷ qs) q p (inl refl) (ap (λ (w : Label × Content). w.0) (sym e)))
        ∙ (ap (λ rs. p ∷ rs) (filter-same (listed (q ∷ qs)) (listed qs) ps
        (λ d i. ap (λ b. b || listed qs d) (not_q d i))
        ∙ ih (λ d i. inside d (behind d i) (f d (inr i))))
        ∙ ap (λ r. r ∷ qs) e)
      where
        not_q : (d : Label × Content) → IsIn d ps → same_name q.0 d.0 ≡ false
        not_q d i =
            differ q.0 d.0 (ap (λ (w : Label × Content). name_lt w.0 d.0) (sym e)
            ∙ all_at (λ r. name_lt p.0 r.0) ps d parts.0 i)

        behind : (d : Label × Content) → IsIn d qs → name_lt p.0 d.0 ≡ true
        behind d i =
            ap (λ (w : Label × Content). name_lt w.0 d.0) e
            ∙ all_at (λ r. name_lt q.0 r.0) qs d others.0 i

    further : (((d : Label × Content) → IsIn d (q ∷ qs) → IsIn d ps)
        → filter (listed (q ∷ qs)) ps ≡ q ∷ qs) → IsIn q ps
        → filter (listed (q ∷ qs)) (p ∷ ps) ≡ q ∷ qs
    further ih e =
        cond-false (listed (q ∷ qs) p) (p ∷ filter (listed (q ∷ qs)) ps)
        (filter (listed (q ∷ qs)) ps)
        (none_any (λ r. same_name r.0 p.0) (q ∷ qs) (λ d i. differ_back p.0 d.0 (behind d i)))
        ∙ ih (λ d i. inside d (behind d i) (f d i))
      where
        first : name_lt p.0 q.0 ≡ true
        first = all_at (λ r. name_lt p.0 r.0) ps q parts.0 e

        behind : (d : Label × Content) → IsIn d (q ∷ qs) → name_lt p.0 d.0 ≡ true
        behind d i =
            ⊎_elim (λ a. ap (λ (w : Label × Content). name_lt p.0 w.0) (sym a) ∙ first)
            (λ a. name_lt-trans p.0 q.0 d.0 first (all_at (λ r. name_lt q.0 r.0) qs d others.0 a)) i

-- ---- one tick

module _ (all : Pairs) (rises : are_rising all ≡ true) (x : Label) (m : Content) where
  -- due pairs are a filter of all
  due-is : (due : Pairs) → IsDueAmong all x m due → filter (listed due) all ≡ due
  due-is due h =
      filter-is all due rises h.rises
      (λ d i. in-pairs all d.0 d.1 (in-all
      (λ (pair : Label × Content). has_pair all pair.0 pair.1 ≡ true) d due h.among i))

  -- a tick sends the due pair, or it passes at least NAMES_PER_TICK of the pairs before it
  pub due-passes : (due : Pairs) → IsDueAmong all x m due → (cursor : Option Label) (us vs : Pairs)
      → cyclic cursor all ≡ us ++ (x, m) ∷ vs
      → IsIn (x, m) (resent cursor due) ⊎ Nearer all (cursor_next cursor due) (x, m) (length us)
  due-passes due h cursor us vs e =
      subst (λ (ps : Pairs). IsIn (x, m) (resent cursor ps)
      ⊎ Nearer all (cursor_next cursor ps) (x, m) (length us)) (due-is due h)
      (passes all rises (listed due) cursor us (x, m) vs e
      (listed-in due (x, m) (x, m) (in-pairs due x m h.there) refl))

  -- ---- tick after tick

  stays-sent : (dues : List Pairs) → AllByRecursion (IsDueAmong all x m) dues
      → (cursor : Option Label) (us vs : Pairs) → cyclic cursor all ≡ us ++ (x, m) ∷ vs
      → length us < NAMES_PER_TICK * length dues → IsIn (x, m) (resent_over cursor dues)
  stays-sent [] h cursor us vs e l = absurd (omega arith)
  stays-sent (due ∷ dues) h cursor us vs e l =
      ⊎_elim (λ i. in-left (x, m) (resent cursor due) (resent_over (cursor_next cursor due) dues) i)
      (λ n. in-right (x, m) (resent cursor due) (resent_over (cursor_next cursor due) dues)
      (stays-sent dues h.1 (cursor_next cursor due) n.us n.vs n.at (omega (arith, l, n.less))))
      (due-passes due h.0 cursor us vs e)

-- ---- the turn of a name, as a number

-- where the pairs of this name begin
record FirstOf (test : Label × Content → Bool) (ps : Pairs) : Type 0 where
  us : Pairs
  d : Label × Content
  vs : Pairs
  at : ps ≡ us ++ d ∷ vs
  fails : test d ≡ false
  count : prefix_len test ps ≡ length us

first-of : (test : Label × Content → Bool) (ps : Pairs) (d : Label × Content) → IsIn d ps
    → test d ≡ false → FirstOf test ps
first-of test [] d h f = absurd h
first-of test (p ∷ ps) d h f = ⊎_elim (λ e. more e (first-of test ps d)) stop (cases_Bool (test p))
  where
    stop : test p ≡ false → FirstOf test (p ∷ ps)
    stop e = record {
      us = [];
      d = p;
      vs = ps;
      at = refl;
      fails = e;
      count =
          cond-false (test p) (1 + prefix_len test ps) 0 e;
    }

    more : test p ≡ true → (IsIn d ps → test d ≡ false → FirstOf test ps) → FirstOf test (p ∷ ps)
    more e ih =
        let at =
        ih (⊎_elim (λ a. absurd (false≢true (sym f ∙ (ap test (sym a) ∙ e)))) (λ a. a) h) f in
        record {
          us = p ∷ at.us;
          d = at.d;
          vs = at.vs;
          at = ap (λ qs. p ∷ qs) at.at;
          fails = at.fails;
          count = cond-true (test p) (1 + prefix_len test ps) 0 e ∙ omega (arith, at.count);
        }

prefix-short : (test : Label × Content → Bool) (us : Pairs) (d : Label × Content) (vs : Pairs)
    → test d ≡ false → prefix_len test (us ++ d ∷ vs) ≤ length us
prefix-short test [] d vs e =
    let none : prefix_len test (d ∷ vs) ≡ 0 = cond-false (test d) (1 + prefix_len test vs) 0 e in
    omega (arith, none)
prefix-short test (u ∷ us) d vs e =
    ⊎_elim (go (prefix-short test us d vs e)) stop (cases_Bool (test u))
  where
    go : prefix_len test (us ++ d ∷ vs) ≤ length us → test u ≡ true
        → prefix_len test ((u ∷ us) ++ d ∷ vs) ≤ length (u ∷ us)
    go ih f =
        let one : prefix_len test (u ∷ (us ++ d ∷ vs)) ≡ 1 + prefix_len test (us ++ d ∷ vs) =
        cond-true (test u) (1 + prefix_len test (us ++ d ∷ vs)) 0 f in omega (arith, ih, one)

    stop : test u ≡ false → prefix_len test ((u ∷ us) ++ d ∷ vs) ≤ length (u ∷ us)
    stop f =
        let none : prefix_len test (u ∷ (us ++ d ∷ vs)) ≡ 0 =
        cond-false (test u) (1 + prefix_len test (us ++ d ∷ vs)) 0 f in omega (arith, none)

-- ---- the laws

module _ (all : Pairs) (rises : are_rising all ≡ true) (x : Label) (m : Content)
    (there : IsIn (x, m) all) where
  abbrev other : Label × Content → Bool
  other pair = not (same_name pair.0 x)

  itself : other (x, m) ≡ false
  itself = ap not (same_name-same x)

  -- the pair is at the place that its turn gives
  pub record AtTurn (cursor : Option Label) : Type 0 where
    -- the pairs before it in cyclic order
    pub us : Pairs
    -- the pairs behind it
    pub vs : Pairs
    -- cyclic order has the pair between these
    pub at : cyclic cursor all ≡ us ++ (x, m) ∷ vs
    -- its turn is the number of pairs before it
    pub count : turn_of all cursor x ≡ length us

  -- a pair of the list is at the place in cyclic order that its turn gives
  pub at-turn : (cursor : Option Label) → AtTurn cursor
  at-turn cursor =
      go (first-of other (cyclic cursor all) (x, m) (in-cyclic cursor (x, m) all there) itself)
    where
      go : FirstOf other (cyclic cursor all) → AtTurn cursor
      go f =
          let named : f.d.0 ≡ x = same_name-true f.d.0 x (not_false (same_name f.d.0 x) f.fails) in
          let stands : IsIn f.d all =
          from-cyclic cursor f.d all (subst (λ (ps : Pairs). IsIn f.d ps) (sym f.at)
          (in-right f.d f.us (f.d ∷ f.vs) (inl refl))) in
          record {
            us = f.us;
            vs = f.vs;
            at =
                f.at ∙ ap (λ (d : Label × Content). f.us ++ d ∷ f.vs)
                (unique all f.d (x, m) rises stands there named);
            count = f.count;
          }

  -- a tick sends the due pair, or the pair's turn falls by at least NAMES_PER_TICK
  pub tick-passes : (cursor : Option Label) (due : Pairs) → IsDueAmong all x m due
      → (has_pair (resent cursor due) x m ≡ true)
      ⊎ (turn_of all (cursor_next cursor due) x + NAMES_PER_TICK ≤ turn_of all cursor x)
  tick-passes cursor due h =
      let at = at-turn cursor in
      ⊎_elim (λ i. inl (in-has (x, m) (resent cursor due) i)) (λ n. inr (nearer at n))
      (due-passes all rises x m due h cursor at.us at.vs at.at)
    where
      nearer : (at : AtTurn cursor) → Nearer all (cursor_next cursor due) (x, m) (length at.us)
          → turn_of all (cursor_next cursor due) x + NAMES_PER_TICK ≤ turn_of all cursor x
      nearer at n =
          let short : turn_of all (cursor_next cursor due) x ≤ length n.us =
          subst (λ (ps : Pairs). prefix_len other ps ≤ length n.us) (sym n.at)
          (prefix-short other n.us (x, m) n.vs itself) in
          omega (arith, short, n.less, at.count)

  -- a pair that is due at each of these ticks is sent if the ticks, times NAMES_PER_TICK, are more
  -- than its turn
  pub turn-comes-over : (cursor : Option Label) (dues : List Pairs)
      → AllByRecursion (IsDueAmong all x m) dues
      → turn_of all cursor x < NAMES_PER_TICK * length dues
      → has_pair (resent_over cursor dues) x m ≡ true
  turn-comes-over cursor dues h l =
      let at = at-turn cursor in
      in-has (x, m) (resent_over cursor dues)
      (stays-sent all rises x m dues h cursor at.us at.vs at.at (omega (arith, l, at.count)))

  -- the turn is less than the number of all pairs
  pub turn-below : (cursor : Option Label) → turn_of all cursor x < length all
  turn-below cursor =
      let at = at-turn cursor in
      let same : length (at.us ++ (x, m) ∷ at.vs) ≡ length all =
      ap length (sym at.at) ∙ length-cyclic cursor all in
      omega (arith, same, at.count, length-append at.us ((x, m) ∷ at.vs))

-- a pair that is due among all is one of them
pub due-there : (all : Pairs) (x : Label) (m : Content) (due : Pairs) → IsDueAmong all x m due
    → IsIn (x, m) all
due-there all x m due h =
    in-pairs all x m (in-all (λ (pair : Label × Content). has_pair all pair.0 pair.1 ≡ true)
    (x, m) due h.among (in-pairs due x m h.there))
