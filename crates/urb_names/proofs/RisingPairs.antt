-- Pairs sorted by name: the order of names, and the place of one more pair.
use Rattle.std.proofs.Common.{Bool, List, None, Some, [], ap, arith, cond, eq-eqb, eqb-true, false}
use Rattle.std.proofs.Common.{inl, inr, lt-ltb, ltb-true, nat_lt, refl, sym, true, ⊎_elim, ◌&&◌}
use Rattle.std.proofs.Common.{◌++◌, ◌<◌, ◌==◌, ◌∙◌, ◌∷◌, ◌≡◌, ◌⊎◌}
use Rattle.std.proofs.lemmas.Bool.{and_from, and_parts, cases_Bool, cases_order, cond-false}
use Rattle.std.proofs.lemmas.Bool.{cond-true, false≢true, or_cases, or_left, or_right}
use Rattle.urb_names.specs.CyclicOrder.{inserted, rising}
use Rattle.urb_names.specs.Names.{name_lt, same_name}
use Rattle.urb_names.specs.LabelsAndContents.{Content, Label}
use Rattle.urb_names.specs.Pairs.{message_of}

-- x comes before y
Before : Label → Label → Type 0
Before x y = (x.sender < y.sender) ⊎ ((x.sender ≡ y.sender) × (x.seq < y.seq))

before : (x y : Label) → name_lt x y ≡ true → Before x y
unfolding Before
before x y e =
    ⊎_elim (λ f. inl (ltb-true x.sender y.sender f))
    (λ f. let parts = and_parts (x.sender == y.sender) (nat_lt x.seq y.seq) f in
    inr (eqb-true x.sender y.sender parts.0, ltb-true x.seq y.seq parts.1))
    (or_cases (nat_lt x.sender y.sender) ((x.sender == y.sender) && nat_lt x.seq y.seq) e)

from_before : (x y : Label) → Before x y → name_lt x y ≡ true
unfolding Before
from_before x y (inl h) =
    or_left (nat_lt x.sender y.sender) ((x.sender == y.sender) && nat_lt x.seq y.seq)
    (lt-ltb x.sender y.sender h)
from_before x y (inr h) =
    or_right (nat_lt x.sender y.sender) ((x.sender == y.sender) && nat_lt x.seq y.seq)
    (and_from (x.sender == y.sender) (nat_lt x.seq y.seq) (eq-eqb x.sender y.sender h.0)
    (lt-ltb x.seq y.seq h.1))

-- a name that comes before another comes before all names after it
pub name_lt-trans : (x y z : Label) → name_lt x y ≡ true → name_lt y z ≡ true → name_lt x z ≡ true
unfolding Before
name_lt-trans x y z e f = from_before x z (both (before x y e) (before y z f))
  where
    both : Before x y → Before y z → Before x z
    both (inl h) (inl k) = inl (omega arith)
    both (inl h) (inr k) = inl (omega (arith, k.0))
    both (inr h) (inl k) = inl (omega (arith, h.0))
    both (inr h) (inr k) = inr (h.0 ∙ k.0, omega (arith, h.1, k.1))

-- if a name comes before another, the other doesn't come before it
pub name_lt-other_way : (x y : Label) → name_lt x y ≡ true → name_lt y x ≡ false
unfolding Before
name_lt-other_way x y e = go (cases_Bool (name_lt y x))
  where
    both : Before x y → Before y x → ⊥
    both (inl h) (inl k) = omega arith
    both (inl h) (inr k) = omega (arith, k.0)
    both (inr h) (inl k) = omega (arith, h.0)
    both (inr h) (inr k) = omega (arith, h.1, k.1)

    go : (name_lt y x ≡ true) ⊎ (name_lt y x ≡ false) → name_lt y x ≡ false
    go (inl f) = absurd (both (before x y e) (before y x f))
    go (inr f) = f

-- no name comes before itself
pub name_lt-strict : (x : Label) → name_lt x x ≡ false
name_lt-strict x = ⊎_elim (λ e. name_lt-other_way x x e) (λ e. e) (cases_Bool (name_lt x x))

-- of two different names, one comes before the other
pub name_lt-one_way : (x y : Label) → same_name x y ≡ false
    → (name_lt x y ≡ true) ⊎ (name_lt y x ≡ true)
unfolding Before
name_lt-one_way x y e = by_sender (cases_order x.sender y.sender) (cases_order x.seq y.seq)
  where
    by_sender : (x.sender ≡ y.sender) ⊎ ((x.sender < y.sender) ⊎ (y.sender < x.sender))
        → (x.seq ≡ y.seq) ⊎ ((x.seq < y.seq) ⊎ (y.seq < x.seq))
        → (name_lt x y ≡ true) ⊎ (name_lt y x ≡ true)
    by_sender (inl s) (inl q) =
        absurd (false≢true (sym e ∙ and_from (x.sender == y.sender) (x.seq == y.seq)
        (eq-eqb x.sender y.sender s) (eq-eqb x.seq y.seq q)))
    by_sender (inl s) (inr (inl q)) = inl (from_before x y (inr (s, q)))
    by_sender (inl s) (inr (inr q)) = inr (from_before y x (inr (sym s, q)))
    by_sender (inr (inl s)) q = inl (from_before x y (inl s))
    by_sender (inr (inr s)) q = inr (from_before y x (inl s))

-- two pairs may be inserted in either order
inserted-swap : (a b : Label × Content) (ps : List (Label × Content)) → name_lt a.0 b.0 ≡ true
    → inserted a (inserted b ps) ≡ inserted b (inserted a ps)
inserted-swap a b [] e =
    cond-false (name_lt b.0 a.0) (b ∷ inserted a []) (a ∷ b ∷ []) (name_lt-other_way a.0 b.0 e)
    ∙ sym (cond-true (name_lt a.0 b.0) (a ∷ inserted b []) (b ∷ a ∷ []) e)
inserted-swap a b (c ∷ cs) e =
    go (inserted-swap a b cs e) (cases_Bool (name_lt c.0 a.0)) (cases_Bool (name_lt c.0 b.0))
  where
    go : inserted a (inserted b cs) ≡ inserted b (inserted a cs)
        → (name_lt c.0 a.0 ≡ true) ⊎ (name_lt c.0 a.0 ≡ false)
        → (name_lt c.0 b.0 ≡ true) ⊎ (name_lt c.0 b.0 ≡ false)
        → inserted a (inserted b (c ∷ cs)) ≡ inserted b (inserted a (c ∷ cs))
    go ih (inl f) (inl g) =
        ap (inserted a) (cond-true (name_lt c.0 b.0) (c ∷ inserted b cs) (b ∷ c ∷ cs) g)
        ∙ (cond-true (name_lt c.0 a.0) (c ∷ inserted a (inserted b cs)) (a ∷ c ∷ inserted b cs) f
        ∙ (ap (λ ps. c ∷ ps) ih
        ∙ sym (ap (inserted b) (cond-true (name_lt c.0 a.0) (c ∷ inserted a cs) (a ∷ c ∷ cs) f)
        ∙ cond-true (name_lt c.0 b.0) (c ∷ inserted b (inserted a cs))
        (b ∷ c ∷ inserted a cs) g)))
    go ih (inl f) (inr g) = absurd (false≢true (sym g ∙ name_lt-trans c.0 a.0 b.0 f e))
    go ih (inr f) (inl g) =
        ap (inserted a) (cond-true (name_lt c.0 b.0) (c ∷ inserted b cs) (b ∷ c ∷ cs) g)
        ∙ (cond-false (name_lt c.0 a.0) (c ∷ inserted a (inserted b cs)) (a ∷ c ∷ inserted b cs) f
        ∙ sym (ap (inserted b) (cond-false (name_lt c.0 a.0) (c ∷ inserted a cs) (a ∷ c ∷ cs) f)
        ∙ (cond-true (name_lt a.0 b.0) (a ∷ inserted b (c ∷ cs)) (b ∷ a ∷ c ∷ cs) e
        ∙ ap (λ ps. a ∷ ps) (cond-true (name_lt c.0 b.0) (c ∷ inserted b cs) (b ∷ c ∷ cs) g))))
    go ih (inr f) (inr g) =
        ap (inserted a) (cond-false (name_lt c.0 b.0) (c ∷ inserted b cs) (b ∷ c ∷ cs) g)
        ∙ (cond-false (name_lt b.0 a.0) (b ∷ inserted a (c ∷ cs)) (a ∷ b ∷ c ∷ cs)
        (name_lt-other_way a.0 b.0 e)
        ∙ sym (ap (inserted b) (cond-false (name_lt c.0 a.0) (c ∷ inserted a cs) (a ∷ c ∷ cs) f)
        ∙ (cond-true (name_lt a.0 b.0) (a ∷ inserted b (c ∷ cs)) (b ∷ a ∷ c ∷ cs) e
        ∙ ap (λ ps. a ∷ ps) (cond-false (name_lt c.0 b.0) (c ∷ inserted b cs) (b ∷ c ∷ cs) g))))

-- Appending a pair with a new name and sorting inserts it at its place.
pub rising-push : (ps : List (Label × Content)) (q : Label × Content) → message_of ps q.0 ≡ None
    → rising (ps ++ q ∷ []) ≡ inserted q (rising ps)
rising-push [] q e = refl
rising-push (p ∷ ps) q e = go (rising-push ps q) (same_name p.0 q.0) refl e
  where
    go : (message_of ps q.0 ≡ None → rising (ps ++ q ∷ []) ≡ inserted q (rising ps)) → (b : Bool)
        → same_name p.0 q.0 ≡ b → cond b (Some p.1) (message_of ps q.0) ≡ None
        → inserted p (rising (ps ++ q ∷ [])) ≡ inserted q (inserted p (rising ps))
    go ih true f g = cc
    go ih false f g =
        ap (inserted p) (ih g)
        ∙ ⊎_elim (λ l. inserted-swap p q (rising ps) l) (λ l. sym (inserted-swap q p (rising ps) l))
        (name_lt-one_way p.0 q.0 f)
