-- The pairs of records that keep rules A and B, in rising order of their names.
use Rattle.urb_stable.proofs.Common.{Bool, Content, Entry, KeepsOwn, Kept, Label, Limits, List}
use Rattle.urb_stable.proofs.Common.{None, [], and_from, and_parts, ap, arith, cases_Bool, eqb-true}
use Rattle.urb_stable.proofs.Common.{false, false≢true, has_pair, has_pair-last, inl, inr, length}
use Rattle.urb_stable.proofs.Common.{length-append, list_any-append, lt-ltb, message_of, no_pair}
use Rattle.urb_stable.proofs.Common.{or_right, own, own-other, own-push, pend, refl, same_message}
use Rattle.urb_stable.proofs.Common.{same_name, same_name-true, subst, suc, sym, true, ℕ, ⊎_elim}
use Rattle.urb_stable.proofs.Common.{◌&&◌, ◌++◌, ◌==◌, ◌||◌, ◌∙◌, ◌∷◌, ◌≡◌, ◌≤◌, ◌⊎◌}
use Rattle.urb_names.proofs.OrderedPairs.{Rises, has_pair-inserted, own-inserted_last}
use Rattle.urb_names.proofs.OrderedPairs.{own-inserted_other, rises-inserted, rises-same}
use Rattle.urb_names.proofs.OrderedPairs.{rising-rises}
use Rattle.urb_names.proofs.RisingPairs.{rising-push}
use Rattle.urb_names.specs.CyclicOrder.{are_rising, inserted, rising}
use Rattle.urb_names.specs.Names.{name_lt}
use Rattle.urb_stable.proofs.KeptRules.{PairRules, pairs-all}
use Rattle.urb_stable.proofs.OwnRules.{own-kept}

-- What sorting preserves: the pairs rise, they are the same pairs, and the node's own messages keep
-- their order.
record InOrder (p : ℕ) (ps : List (Label × Content)) : Type 0 where
  rises : Rises (rising ps)
  same : (x : Label) (m : Content) → has_pair (rising ps) x m ≡ has_pair ps x m
  own_same : own p (rising ps) ≡ own p ps
  bounded : (x : Label) (m : Content) → has_pair ps x m ≡ true → (x.sender == p) ≡ true
      → x.seq ≤ length (own p ps)

or-swap : (a b : Bool) → (a || b) ≡ (b || a)
or-swap true true = refl
or-swap true false = refl
or-swap false true = refl
or-swap false false = refl

-- a pair at its place, or among the rest
pair-moved : (q : Label × Content) (qs ps : List (Label × Content))
    → ((x : Label) (m : Content) → has_pair qs x m ≡ has_pair ps x m) → (x : Label) (m : Content)
    → has_pair (inserted q qs) x m ≡ has_pair (ps ++ q ∷ []) x m
pair-moved q qs ps h x m =
    has_pair-inserted q qs x m
    ∙ (ap (λ b. (same_name q.0 x && same_message q.1 m) || b) (h x m)
    ∙ (or-swap (same_name q.0 x && same_message q.1 m) (has_pair ps x m)
    ∙ (ap (λ b. has_pair ps x m || b) (sym (or-nothing (same_name q.0 x && same_message q.1 m)))
    ∙ sym (list_any-append (λ pair. same_name pair.0 x && same_message pair.1 m) ps (q ∷ [])))))
  where
    or-nothing : (a : Bool) → (a || false) ≡ a
    or-nothing true = refl
    or-nothing false = refl

order-push : (size : Limits) (images : ℕ → List Entry) (p : ℕ) (e : List Entry) (x : Label)
    (m : Content) → InOrder p (pend e) → PairRules size images p e x m
    → InOrder p (pend e ++ (x, m) ∷ [])
order-push size images p e x m o k =
    let pushed : rising (pend e ++ (x, m) ∷ []) ≡ inserted (x, m) (rising (pend e)) =
    rising-push (pend e) (x, m) k.fresh in
    record {
      rises = subst Rises (sym pushed) (rises-inserted (x, m) (rising (pend e)) o.rises new);
      same =
          λ y n. ap (λ ps. has_pair ps y n) pushed
          ∙ pair-moved (x, m) (rising (pend e)) (pend e) o.same y n;
      own_same = ap (own p) pushed ∙ own_at (cases_Bool (x.sender == p));
      bounded = λ y n h s. bound y n s (has_pair-last (pend e) x y m n h);
    }
  where
    new : (y : Label) (n : Content) → has_pair (rising (pend e)) y n ≡ true → same_name y x ≡ false
    new y n h =
        ⊎_elim (λ f. absurd (no_pair (pend e) y n
        (subst (λ (z : Label). message_of (pend e) z ≡ None) (sym (same_name-true y x f)) k.fresh)
        (sym (o.same y n) ∙ h))) (λ f. f) (cases_Bool (same_name y x))

    next : (x.sender == p) ≡ true → x.seq ≡ suc (length (own p (pend e)))
    next f =
        eqb-true x.seq (suc (length (own p (pend e))))
        (and_parts (x.seq == suc (length (own p (pend e)))) _ (k.next f)).0

    own_at : ((x.sender == p) ≡ true) ⊎ ((x.sender == p) ≡ false)
        → own p (inserted (x, m) (rising (pend e))) ≡ own p (pend e ++ (x, m) ∷ [])
    own_at (inl f) =
        own-inserted_last p (x, m) (rising (pend e)) f o.rises last
        ∙ (ap (λ ms. ms ++ m ∷ []) o.own_same ∙ sym (own-push p (pend e) x m f))
      where
        last : (y : Label) (n : Content) → has_pair (rising (pend e)) y n ≡ true
            → (y.sender == p) ≡ true → name_lt y x ≡ true
        last y n h s =
            let low : y.seq ≤ length (own p (pend e)) = o.bounded y n (sym (o.same y n) ∙ h) s in
            let high : x.seq ≡ suc (length (own p (pend e))) = next f in
            or_right _ _ (and_from (y.sender == x.sender) _
            (subst (λ (i : ℕ). (y.sender == i) ≡ true) (sym (eqb-true x.sender p f)) s)
            (lt-ltb y.seq x.seq (omega (arith, low, high))))
    own_at (inr f) =
        own-inserted_other p (x, m) (rising (pend e)) f
        ∙ (o.own_same ∙ sym (own-other p (pend e) x m f))

    longer : length (own p (pend e)) ≤ length (own p (pend e ++ (x, m) ∷ []))
    longer = at (cases_Bool (x.sender == p))
      where
        at : ((x.sender == p) ≡ true) ⊎ ((x.sender == p) ≡ false)
            → length (own p (pend e)) ≤ length (own p (pend e ++ (x, m) ∷ []))
        at (inl f) =
            let g = ap length (own-push p (pend e) x m f) in
            omega (arith, g, length-append (own p (pend e)) (m ∷ []))
        at (inr f) = let g = ap length (own-other p (pend e) x m f) in omega (arith, g)

    bound : (y : Label) (n : Content) → (y.sender == p) ≡ true
        → (has_pair (pend e) y n ≡ true) ⊎ ((x ≡ y) × (m ≡ n))
        → y.seq ≤ length (own p (pend e ++ (x, m) ∷ []))
    bound y n s (inl h) = let low = o.bounded y n h s in omega (arith, low, longer)
    bound y n s (inr h) =
        subst (λ (z : Label). z.seq ≤ length (own p (pend e ++ (x, m) ∷ []))) h.0 here
      where
        mine : (x.sender == p) ≡ true
        mine = subst (λ (z : Label). (z.sender == p) ≡ true) (sym h.0) s

        here : x.seq ≤ length (own p (pend e ++ (x, m) ∷ []))
        here =
            let g = ap length (own-push p (pend e) x m mine) in let i = next mine in
            omega (arith, g, i, length-append (own p (pend e)) (m ∷ []))

in-order : (size : Limits) (images : ℕ → List Entry) (p : ℕ) (rs : List Entry)
    → Kept size images p [] rs → InOrder p (pend rs)
in-order size images p rs h =
    pairs-all size images p (InOrder p)
    (record {
      rises = tt;
      same = λ x m. refl;
      own_same = refl;
      bounded =
          λ x m e s. absurd (false≢true e);
    })
    (λ e x m o k. order-push size images p e x m o k) rs h

own-in-order : (size : Limits) (p : ℕ) (rs : List Entry) → KeepsOwn size p [] rs
    → InOrder p (pend rs)
own-in-order size p rs h = in-order _ (λ q. rs) p rs (own-kept size p rs h)

-- rising pairs that are the same set as the records' pairs are those pairs sorted
pub rising-records : (size : Limits) (p : ℕ) (rs : List Entry) (ps : List (Label × Content))
    → KeepsOwn size p [] rs → are_rising ps ≡ true
    → ((x : Label) (m : Content) → has_pair ps x m ≡ has_pair (pend rs) x m) → rising (pend rs) ≡ ps
rising-records size p rs ps k r h =
    let o = own-in-order size p rs k in
    rises-same (rising (pend rs)) ps o.rises (rising-rises ps r) (λ x m. o.same x m ∙ sym (h x m))

-- the node's own messages among the sorted pairs keep the order in which they came
pub own-records : (size : Limits) (p : ℕ) (rs : List Entry) (ps : List (Label × Content))
    → KeepsOwn size p [] rs → are_rising ps ≡ true
    → ((x : Label) (m : Content) → has_pair ps x m ≡ has_pair (pend rs) x m)
    → own p ps ≡ own p (pend rs)
own-records size p rs ps k r h =
    ap (own p) (sym (rising-records size p rs ps k r h)) ∙ (own-in-order size p rs k).own_same
