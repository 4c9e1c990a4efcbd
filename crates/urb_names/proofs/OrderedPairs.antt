-- Pairs in rising order of their names: any set of pairs has only one such list.
use Rattle.std.proofs.Common.{Bool, List, [], ap, ap₂, cond, false, inl, inr, refl, subst, sym}
use Rattle.std.proofs.Common.{true, ℕ, ⊎_elim, ◌&&◌, ◌++◌, ◌==◌, ◌||◌, ◌∙◌, ◌∷◌, ◌≡◌, ◌⊎◌}
use Rattle.std.proofs.lemmas.Bool.{and_from, and_parts, cases_Bool, cond-false, cond-true}
use Rattle.std.proofs.lemmas.Bool.{false≢true, or_cases, or_left, or_right}
use Rattle.std.specs.List.{list_all}
use Rattle.urb_names.proofs.RisingPairs.{name_lt-one_way, name_lt-other_way, name_lt-trans}
use Rattle.urb_names.proofs.SameNames.{same_message-same, same_message-true, same_name-same}
use Rattle.urb_names.proofs.SameNames.{same_name-true}
use Rattle.urb_names.specs.CyclicOrder.{are_rising, inserted}
use Rattle.urb_names.specs.Names.{name_lt, same_message, same_name}
use Rattle.urb_names.specs.LabelsAndContents.{Content, Label}
use Rattle.urb_names.specs.Pairs.{has_pair, own}

-- each name comes before all later names
abbrev pub Rises : List (Label × Content) → Type 0
Rises [] = Unit {0}
Rises (pair ∷ pairs) =
    ((x : Label) (m : Content) → has_pair pairs x m ≡ true → name_lt pair.0 x ≡ true) × Rises pairs

-- the pair is the first of the list, or a later one
pub has_pair-first : (pair : Label × Content) (pairs : List (Label × Content)) (x : Label)
    (m : Content) → has_pair (pair ∷ pairs) x m ≡ true
    → ((pair.0 ≡ x) × (pair.1 ≡ m)) ⊎ (has_pair pairs x m ≡ true)
has_pair-first pair pairs x m h =
    ⊎_elim (λ e. let parts = and_parts (same_name pair.0 x) (same_message pair.1 m) e in
    inl (same_name-true pair.0 x parts.0, same_message-true pair.1 m parts.1)) (λ e. inr e)
    (or_cases (same_name pair.0 x && same_message pair.1 m) (has_pair pairs x m) h)

-- a list has its first pair
pub has_pair-head : (pair : Label × Content) (pairs : List (Label × Content))
    → has_pair (pair ∷ pairs) pair.0 pair.1 ≡ true
has_pair-head pair pairs =
    or_left (same_name pair.0 pair.0 && same_message pair.1 pair.1) _
    (and_from (same_name pair.0 pair.0) _ (same_name-same pair.0) (same_message-same pair.1))

-- a list has each pair that comes after its first
pub has_pair-behind : (pair : Label × Content) (pairs : List (Label × Content)) (x : Label)
    (m : Content) → has_pair pairs x m ≡ true → has_pair (pair ∷ pairs) x m ≡ true
has_pair-behind pair pairs x m h = or_right (same_name pair.0 x && same_message pair.1 m) _ h

-- no name comes before itself
pub name_lt-itself : (x : Label) → name_lt x x ≡ true → ⊥
name_lt-itself x h = false≢true (sym (name_lt-other_way x x h) ∙ h)

all_before : (first : Label × Content) (pairs : List (Label × Content))
    → list_all (λ later. name_lt first.0 later.0) pairs ≡ true → (x : Label) (m : Content)
    → has_pair pairs x m ≡ true → name_lt first.0 x ≡ true
all_before first [] h x m k = absurd (false≢true k)
all_before first (pair ∷ pairs) h x m k =
    let parts =
    and_parts (name_lt first.0 pair.0) (list_all (λ later. name_lt first.0 later.0) pairs) h in
    ⊎_elim (λ e. subst (λ (y : Label). name_lt first.0 y ≡ true) e.0 parts.0)
    (λ e. all_before first pairs parts.1 x m e) (has_pair-first pair pairs x m k)

-- if the test says that pairs rise, each name comes before all later names
pub rising-rises : (pairs : List (Label × Content)) → are_rising pairs ≡ true → Rises pairs
rising-rises [] h = tt
rising-rises (pair ∷ pairs) h =
    let parts = and_parts (list_all (λ later. name_lt pair.0 later.0) pairs) (are_rising pairs) h in
    (all_before pair pairs parts.0, rising-rises pairs parts.1)

-- two rising lists of the same pairs are equal
pub rises-same : (ps qs : List (Label × Content)) → Rises ps → Rises qs
    → ((x : Label) (m : Content) → has_pair ps x m ≡ has_pair qs x m) → ps ≡ qs
rises-same [] [] h k e = refl
rises-same [] (q ∷ qs) h k e = absurd (false≢true (e q.0 q.1 ∙ has_pair-head q qs))
rises-same (p ∷ ps) [] h k e = absurd (false≢true (sym (e p.0 p.1) ∙ has_pair-head p ps))
rises-same (p ∷ ps) (q ∷ qs) h k e =
    let same =
    heads (has_pair-first q qs p.0 p.1 (sym (e p.0 p.1) ∙ has_pair-head p ps))
    (has_pair-first p ps q.0 q.1 (e q.0 q.1 ∙ has_pair-head q qs)) in
    ap₂ (λ x xs. x ∷ xs) (pair_is p q same.0 same.1)
    (rises-same ps qs h.1 k.1 (λ x m.
    tails same x m (has_pair ps x m) (has_pair qs x m) refl refl))
  where
    pair_is : (p q : Label × Content) → p.0 ≡ q.0 → p.1 ≡ q.1 → p ≡ q
    pair_is p q e f = ap₂ (λ (x : Label) (m : Content). (x, m)) e f

    heads : ((q.0 ≡ p.0) × (q.1 ≡ p.1)) ⊎ (has_pair qs p.0 p.1 ≡ true)
        → ((p.0 ≡ q.0) × (p.1 ≡ q.1)) ⊎ (has_pair ps q.0 q.1 ≡ true) → (p.0 ≡ q.0) × (p.1 ≡ q.1)
    heads (inl f) g = (sym f.0, sym f.1)
    heads (inr f) (inl g) = g
    heads (inr f) (inr g) =
        absurd (name_lt-itself p.0 (name_lt-trans p.0 q.0 p.0 (h.0 q.0 q.1 g) (k.0 p.0 p.1 f)))

    tails : (p.0 ≡ q.0) × (p.1 ≡ q.1) → (x : Label) (m : Content) (a b : Bool) → has_pair ps x m ≡ a
        → has_pair qs x m ≡ b → has_pair ps x m ≡ has_pair qs x m
    tails s x m true true f g = f ∙ sym g
    tails s x m false false f g = f ∙ sym g
    tails s x m true false f g =
        ⊎_elim (λ r. absurd (name_lt-itself p.0
        (subst (λ (y : Label). name_lt p.0 y ≡ true) (sym (s.0 ∙ r.0)) (h.0 x m f))))
        (λ r. f ∙ sym r) (has_pair-first q qs x m (sym (e x m) ∙ has_pair-behind p ps x m f))
    tails s x m false true f g =
        ⊎_elim (λ r. absurd (name_lt-itself q.0
        (subst (λ (y : Label). name_lt q.0 y ≡ true) (sym (sym s.0 ∙ r.0)) (k.0 x m g))))
        (λ r. r ∙ sym g) (has_pair-first p ps x m (e x m ∙ has_pair-behind q qs x m g))

-- ---- one more pair, at its place

-- a list with a pair inserted has the pairs of the list, and that one
pub has_pair-inserted : (q : Label × Content) (ps : List (Label × Content)) (x : Label)
    (m : Content) → has_pair (inserted q ps) x m ≡ has_pair (q ∷ ps) x m
has_pair-inserted q [] x m = refl
has_pair-inserted q (p ∷ ps) x m = go (has_pair-inserted q ps x m) (name_lt p.0 q.0)
  where
    go : has_pair (inserted q ps) x m ≡ has_pair (q ∷ ps) x m → (b : Bool)
        → has_pair (cond b (p ∷ inserted q ps) (q ∷ p ∷ ps)) x m ≡ has_pair (q ∷ p ∷ ps) x m
    go ih true =
        ap (λ c. (same_name p.0 x && same_message p.1 m) || c) ih
        ∙ swap (same_name p.0 x && same_message p.1 m) (same_name q.0 x && same_message q.1 m)
        (has_pair ps x m)
      where
        swap : (a b c : Bool) → (a || (b || c)) ≡ (b || (a || c))
        swap true true c = refl
        swap true false c = refl
        swap false true c = refl
        swap false false c = refl
    go ih false = refl

-- inserting a pair with a new name keeps the list rising
pub rises-inserted : (q : Label × Content) (ps : List (Label × Content)) → Rises ps
    → ((x : Label) (m : Content) → has_pair ps x m ≡ true → same_name x q.0 ≡ false)
    → Rises (inserted q ps)
rises-inserted q [] h k = (λ x m e. absurd (false≢true e), tt)
rises-inserted q (p ∷ ps) h k =
    go (rises-inserted q ps h.1 (λ x m e. k x m (has_pair-behind p ps x m e)))
    (name_lt p.0 q.0) refl
  where
    go : Rises (inserted q ps) → (b : Bool) → name_lt p.0 q.0 ≡ b
        → Rises (cond b (p ∷ inserted q ps) (q ∷ p ∷ ps))
    go ih true e = (
      λ x m f. ⊎_elim (λ g. subst (λ (y : Label). name_lt p.0 y ≡ true) g.0 e) (λ g. h.0 x m g)
          (has_pair-first q ps x m (sym (has_pair-inserted q ps x m) ∙ f)),
      ih,
    )
    go ih false e = (
      λ x m f. ⊎_elim (λ g. subst (λ (y : Label). name_lt q.0 y ≡ true) g.0 before)
          (λ g. name_lt-trans q.0 p.0 x before (h.0 x m g)) (has_pair-first p ps x m f),
      h,
    )
      where
        before : name_lt q.0 p.0 ≡ true
        before =
            ⊎_elim (λ g. absurd (false≢true (sym e ∙ g))) (λ g. g)
            (name_lt-one_way p.0 q.0 (k p.0 p.1 (has_pair-head p ps)))

-- ---- the messages of a pair's sender

-- inserting a pair leaves the messages of other senders as they are
pub own-inserted_other : (s : ℕ) (q : Label × Content) (ps : List (Label × Content))
    → (q.0.sender == s) ≡ false → own s (inserted q ps) ≡ own s ps
own-inserted_other s q [] e = cond-false (q.0.sender == s) _ _ e
own-inserted_other s q (p ∷ ps) e = go (own-inserted_other s q ps e) (name_lt p.0 q.0)
  where
    go : own s (inserted q ps) ≡ own s ps → (b : Bool)
        → own s (cond b (p ∷ inserted q ps) (q ∷ p ∷ ps)) ≡ own s (p ∷ ps)
    go ih true = at (p.0.sender == s)
      where
        at : (c : Bool) → cond c (p.1 ∷ own s (inserted q ps)) (own s (inserted q ps)) ≡ cond c
            (p.1 ∷ own s ps) (own s ps)
        at true = ap (λ ms. p.1 ∷ ms) ih
        at false = ih
    go ih false = cond-false (q.0.sender == s) _ _ e

-- if no pair is of the sender, it has no messages
own-none : (s : ℕ) (ps : List (Label × Content))
    → ((x : Label) (m : Content) → has_pair ps x m ≡ true → (x.sender == s) ≡ false) → own s ps ≡ []
own-none s [] h = refl
own-none s (p ∷ ps) h =
    cond-false (p.0.sender == s) _ _ (h p.0 p.1 (has_pair-head p ps))
    ∙ own-none s ps (λ x m e. h x m (has_pair-behind p ps x m e))

-- an inserted pair's message is its sender's last if its name comes after the sender's others
pub own-inserted_last : (s : ℕ) (q : Label × Content) (ps : List (Label × Content))
    → (q.0.sender == s) ≡ true → Rises ps
    → ((x : Label) (m : Content) → has_pair ps x m ≡ true → (x.sender == s) ≡ true
    → name_lt x q.0 ≡ true) → own s (inserted q ps) ≡ own s ps ++ q.1 ∷ []
own-inserted_last s q [] e r h = cond-true (q.0.sender == s) _ _ e
own-inserted_last s q (p ∷ ps) e r h =
    go (own-inserted_last s q ps e r.1 (λ x m k. h x m (has_pair-behind p ps x m k)))
    (name_lt p.0 q.0) refl
  where
    go : own s (inserted q ps) ≡ own s ps ++ q.1 ∷ [] → (b : Bool) → name_lt p.0 q.0 ≡ b
        → own s (cond b (p ∷ inserted q ps) (q ∷ p ∷ ps)) ≡ own s (p ∷ ps) ++ q.1 ∷ []
    go ih true f = at (p.0.sender == s)
      where
        at : (c : Bool) → cond c (p.1 ∷ own s (inserted q ps)) (own s (inserted q ps)) ≡ cond c
            (p.1 ∷ own s ps) (own s ps) ++ q.1 ∷ []
        at true = ap (λ ms. p.1 ∷ ms) ih
        at false = ih
    go ih false f =
        cond-true (q.0.sender == s) _ _ e ∙ ap (λ ms. q.1 ∷ ms) nothing
        ∙ sym (ap (λ ms. ms ++ q.1 ∷ []) nothing)
      where
        -- from here on no name is of the sender
        other : (x : Label) (m : Content) → has_pair (p ∷ ps) x m ≡ true → (x.sender == s) ≡ false
        other x m k = ⊎_elim (λ g. absurd (late g)) (λ g. g) (cases_Bool (x.sender == s))
          where
            late : (x.sender == s) ≡ true → ⊥
            late g =
                let low : name_lt x q.0 ≡ true = h x m k g in
                ⊎_elim (λ i. false≢true (sym f
                ∙ subst (λ (y : Label). name_lt y q.0 ≡ true) (sym i.0) low))
                (λ i. false≢true (sym f ∙ name_lt-trans p.0 x q.0 (r.0 x m i) low))
                (has_pair-first p ps x m k)

        nothing : own s (p ∷ ps) ≡ []
        nothing = own-none s (p ∷ ps) other
