-- Ticks over pairs that come and go: a tick that leaves a due pair out passes NAMES_PER_TICK
-- others.
use Rattle.urb_world.proofs.Common.{Bool, Content, Label, List, NAMES_PER_TICK, Option, Some, []}
use Rattle.urb_world.proofs.Common.{ap, append_assoc, ap₂, are_rising, arith, cases_Bool, cases_lt}
use Rattle.urb_world.proofs.Common.{cond-false, cond-true, cursor_next, cyclic, false, filter}
use Rattle.urb_world.proofs.Common.{filter-append, inl, inr, is_after, last_name, length, not, refl}
use Rattle.urb_world.proofs.Common.{resent, subst, suc, sym, take, take-append-le, true, zero, ℕ}
use Rattle.urb_world.proofs.Common.{⊎_elim, ◌++◌, ◌+◌, ◌<◌, ◌∙◌, ◌∷◌, ◌≡◌, ◌≤◌, ◌⊎◌}
use Rattle.std.proofs.lemmas.List.{length-append}
use Rattle.urb_world.proofs.ticks.Membership.{IsIn, in-take}
use Rattle.urb_world.proofs.ticks.TickCoverage.{turned}

abbrev Pairs : Type 0
Pairs = List (Label × Content)

-- ---- of those that pass a test, the first ones

-- two filters in either order
filter-swap : (f g : Label × Content → Bool) (ps : Pairs)
    → filter f (filter g ps) ≡ filter g (filter f ps)
filter-swap f g [] = refl
filter-swap f g (p ∷ ps) = go (filter-swap f g ps) (cases_Bool (f p)) (cases_Bool (g p))
  where
    go : filter f (filter g ps) ≡ filter g (filter f ps) → (f p ≡ true) ⊎ (f p ≡ false)
        → (g p ≡ true) ⊎ (g p ≡ false) → filter f (filter g (p ∷ ps)) ≡ filter g (filter f (p ∷ ps))
    go ih (inl a) (inl b) =
        ap (filter f) (cond-true (g p) (p ∷ filter g ps) (filter g ps) b)
        ∙ (cond-true (f p) (p ∷ filter f (filter g ps)) (filter f (filter g ps)) a
        ∙ (ap (λ qs. p ∷ qs) ih
        ∙ sym (ap (filter g) (cond-true (f p) (p ∷ filter f ps) (filter f ps) a)
        ∙ cond-true (g p) (p ∷ filter g (filter f ps)) (filter g (filter f ps)) b)))
    go ih (inl a) (inr b) =
        ap (filter f) (cond-false (g p) (p ∷ filter g ps) (filter g ps) b)
        ∙ (ih
        ∙ sym (ap (filter g) (cond-true (f p) (p ∷ filter f ps) (filter f ps) a)
        ∙ cond-false (g p) (p ∷ filter g (filter f ps)) (filter g (filter f ps)) b))
    go ih (inr a) (inl b) =
        ap (filter f) (cond-true (g p) (p ∷ filter g ps) (filter g ps) b)
        ∙ (cond-false (f p) (p ∷ filter f (filter g ps)) (filter f (filter g ps)) a
        ∙ (ih ∙ sym (ap (filter g) (cond-false (f p) (p ∷ filter f ps) (filter f ps) a))))
    go ih (inr a) (inr b) =
        ap (filter f) (cond-false (g p) (p ∷ filter g ps) (filter g ps) b)
        ∙ (ih ∙ sym (ap (filter g) (cond-false (f p) (p ∷ filter f ps) (filter f ps) a)))

-- the pairs that pass a test are in cyclic order as they are among all pairs
cyclic-filter : (test : Label × Content → Bool) (cursor : Option Label) (ps : Pairs)
    → cyclic cursor (filter test ps) ≡ filter test (cyclic cursor ps)
cyclic-filter test cursor ps =
    ap₂ (λ (x y : Pairs). x ++ y) (filter-swap (λ p. is_after cursor p.0) test ps)
    (filter-swap (λ p. not (is_after cursor p.0)) test ps)
    ∙ sym (filter-append test (filter (λ p. is_after cursor p.0) ps)
    (filter (λ p. not (is_after cursor p.0)) ps))

-- if there are pairs, only the last one matters
last-any : (c d : Option Label) (ps : Pairs) → 0 < length ps → last_name c ps ≡ last_name d ps
last-any c d [] l = absurd (omega arith)
last-any c d (p ∷ ps) l = refl

-- the first k pairs that pass a test are among the first k or more, up to the last of them
record Firsts (test : Label × Content → Bool) (k : ℕ) (ps : Pairs) : Type 0 where
  firsts : Pairs
  rest : Pairs
  whole : ps ≡ firsts ++ rest
  many : k ≤ length firsts
  last : (c : Option Label) → last_name c firsts ≡ last_name c (take k (filter test ps))

firsts-of : (test : Label × Content → Bool) (k : ℕ) (ps : Pairs) → k ≤ length (filter test ps)
    → Firsts test k ps
firsts-of test zero ps l = record
    { firsts = []; rest = ps; whole = refl; many = omega arith; last = λ c. refl }
firsts-of test (suc k) [] l = absurd (omega arith)
firsts-of test (suc k) (p ∷ ps) l =
    ⊎_elim (passing (firsts-of test k ps)) (failing (firsts-of test (suc k) ps))
    (cases_Bool (test p))
  where
    passing : (k ≤ length (filter test ps) → Firsts test k ps) → test p ≡ true
        → Firsts test (suc k) (p ∷ ps)
    passing ih e =
        let shape : filter test (p ∷ ps) ≡ p ∷ filter test ps =
        cond-true (test p) (p ∷ filter test ps) (filter test ps) e in
        let long : suc k ≤ length (p ∷ filter test ps) =
        subst (λ (qs : Pairs). suc k ≤ length qs) shape l in
        let at = ih (omega (arith, long)) in
        record {
          firsts = p ∷ at.firsts;
          rest = at.rest;
          whole = ap (λ qs. p ∷ qs) at.whole;
          many = omega (arith, at.many);
          last =
              λ c. at.last (Some p.0) ∙ sym
              (ap (λ (qs : Pairs). last_name c (take (suc k) qs)) shape);
        }

    failing : (suc k ≤ length (filter test ps) → Firsts test (suc k) ps) → test p ≡ false
        → Firsts test (suc k) (p ∷ ps)
    failing ih e =
        let shape : filter test (p ∷ ps) ≡ filter test ps =
        cond-false (test p) (p ∷ filter test ps) (filter test ps) e in
        let long : suc k ≤ length (filter test ps) =
        subst (λ (qs : Pairs). suc k ≤ length qs) shape l in
        let at = ih long in
        record {
          firsts = p ∷ at.firsts;
          rest = at.rest;
          whole = ap (λ qs. p ∷ qs) at.whole;
          many = omega (arith, at.many);
          last =
              λ c. last-any (Some p.0) c at.firsts (omega (arith, at.many))
              ∙ (at.last c ∙ sym (ap (λ (qs : Pairs). last_name c (take (suc k) qs)) shape));
        }

-- ---- one tick

-- the place of the pair once a tick left it out: at least NAMES_PER_TICK fewer are before it
pub record Nearer (all : Pairs) (cursor : Option Label) (d : Label × Content)
    (before : ℕ) : Type 0 where
  -- the pairs that are before it now
  pub us : Pairs
  -- the pairs that are behind it now
  pub vs : Pairs
  -- cyclic order has the pair between these
  pub at : cyclic cursor all ≡ us ++ d ∷ vs
  -- at least NAMES_PER_TICK fewer pairs are before it now
  pub less : length us + NAMES_PER_TICK ≤ before

-- a tick sends a due pair, or it passes at least NAMES_PER_TICK of the pairs before it
pub passes : (all : Pairs) → are_rising all ≡ true
    → (test : Label × Content → Bool) (cursor : Option Label) (us : Pairs) (d : Label × Content)
    (vs : Pairs)
    → cyclic cursor all ≡ us ++ d ∷ vs → test d ≡ true
    → IsIn d (resent cursor (filter test all))
    ⊎ Nearer all (cursor_next cursor (filter test all)) d (length us)
passes all rises test cursor us d vs e t =
    ⊎_elim (λ l. inl (now l)) (λ l. inr (later (firsts-of test NAMES_PER_TICK us l) l))
    (cases_lt (length (filter test us)) NAMES_PER_TICK)
  where
    shape : cyclic cursor (filter test all) ≡ filter test us ++ d ∷ filter test vs
    shape =
        cyclic-filter test cursor all
        ∙ (ap (filter test) e
        ∙ (filter-append test us (d ∷ vs)
        ∙ ap (λ qs. filter test us ++ qs)
        (cond-true (test d) (d ∷ filter test vs) (filter test vs) t)))

    now : length (filter test us) < NAMES_PER_TICK → IsIn d (resent cursor (filter test all))
    now l =
        subst (λ (ps : Pairs). IsIn d (take NAMES_PER_TICK ps)) (sym shape)
        (in-take NAMES_PER_TICK (filter test us) d (filter test vs) l)

    later : Firsts test NAMES_PER_TICK us → NAMES_PER_TICK ≤ length (filter test us)
        → Nearer all (cursor_next cursor (filter test all)) d (length us)
    later f l =
        record {
          us = f.rest;
          vs = vs ++ f.firsts;
          at = ap (λ (c : Option Label). cyclic c all) moved
              ∙ (turned all rises cursor f.firsts (f.rest ++ d ∷ vs)
              (e ∙ (ap (λ ps. ps ++ d ∷ vs) f.whole ∙ append_assoc f.firsts f.rest (d ∷ vs)))
              ∙ append_assoc f.rest (d ∷ vs) f.firsts);
          less =
              let whole : length us ≡ length (f.firsts ++ f.rest) = ap length f.whole in
              omega (arith, whole, f.many, length-append f.firsts f.rest);
        }
      where
        moved : cursor_next cursor (filter test all) ≡ last_name cursor f.firsts
        moved =
            ap (last_name cursor) (ap (take NAMES_PER_TICK) shape
            ∙ take-append-le NAMES_PER_TICK (filter test us) (d ∷ filter test vs) l)
            ∙ sym (f.last cursor)
