-- A sender's own pairs among sorted pairs.
use Rattle.urb_pending.proofs.Common.{Bool, Content, Label, List, None, Some, [], and_from}
use Rattle.urb_pending.proofs.Common.{and_parts, ap, are_rising, arith, cond, cond-false, cond-true}
use Rattle.urb_pending.proofs.Common.{eq-eqb, false, false≢true, filter, inserted, length, list_all}
use Rattle.urb_pending.proofs.Common.{lt-ltb, map, map-append, message_of, name, name_lt}
use Rattle.urb_pending.proofs.Common.{name_lt-strict, name_lt-trans, names, nat_lt, numbers_from}
use Rattle.urb_pending.proofs.Common.{or_right, own, part_of, refl, same_name, same_name-true}
use Rattle.urb_pending.proofs.Common.{subst, suc, sym, true, zero, ℕ, ◌&&◌, ◌++◌, ◌+◌, ◌<◌, ◌==◌}
use Rattle.urb_pending.proofs.Common.{◌∙◌, ◌∷◌, ◌≡◌, ◌≤◌}
use Rattle.std.proofs.lemmas.List.Folds.{list_all-map}
use Rattle.urb_names.proofs.Places.{numbers_more}

-- whether a pair is this sender's
abbrev pub is_of : ℕ → Label × Content → Bool
is_of s pair = pair.0.sender == s

-- this sender's pairs
abbrev pub mine : ℕ → List (Label × Content) → List (Label × Content)
mine s ps = filter (is_of s) ps

-- a sender's messages are the messages of its pairs
pub own_mine : (s : ℕ) (ps : List (Label × Content)) → own s ps ≡ map (λ pair. pair.1) (mine s ps)
own_mine s [] = refl
own_mine s (p ∷ ps) = step (own_mine s ps) (p.0.sender == s)
  where
    step : own s ps ≡ map (λ pair. pair.1) (mine s ps) → (b : Bool)
        → cond b (p.1 ∷ own s ps) (own s ps) ≡ map (λ pair. pair.1)
        (cond b (p ∷ mine s ps) (mine s ps))
    step ih true = ap (λ ms. p.1 ∷ ms) ih
    step ih false = ih

-- a sender's names are the names of its pairs
pub part_mine : (s : ℕ) (ps : List (Label × Content))
    → part_of s (map (λ pair. pair.0) ps) ≡ map (λ pair. pair.0) (mine s ps)
part_mine s [] = refl
part_mine s (p ∷ ps) = step (part_mine s ps) (p.0.sender == s)
  where
    step : part_of s (map (λ pair. pair.0) ps) ≡ map (λ pair. pair.0) (mine s ps) → (b : Bool)
        → cond b (p.0 ∷ part_of s (map (λ pair. pair.0) ps)) (part_of s (map (λ pair. pair.0) ps))
        ≡ map (λ pair. pair.0) (cond b (p ∷ mine s ps) (mine s ps))
    step ih true = ap (λ xs. p.0 ∷ xs) ih
    step ih false = ih

-- inserting another sender's pair leaves the sender's pairs as they are
pub mine_other : (s : ℕ) (p : Label × Content) (ps : List (Label × Content)) → is_of s p ≡ false
    → mine s (inserted p ps) ≡ mine s ps
mine_other s p [] e = cond-false (is_of s p) _ _ e
mine_other s p (q ∷ qs) e = step (mine_other s p qs e) (name_lt q.0 p.0)
  where
    step : mine s (inserted p qs) ≡ mine s qs → (b : Bool)
        → mine s (cond b (q ∷ inserted p qs) (p ∷ q ∷ qs)) ≡ mine s (q ∷ qs)
    step ih true = ap (λ ps. cond (is_of s q) (q ∷ ps) ps) ih
    step ih false = cond-false (is_of s p) (p ∷ mine s (q ∷ qs)) (mine s (q ∷ qs)) e

-- none of them comes after a name that they all precede
none_behind : (s : ℕ) (x y : Label) (ps : List (Label × Content)) → name_lt y x ≡ false
    → list_all (λ q. name_lt y q.0) ps ≡ true → list_all (λ q. name_lt q.0 x) (mine s ps) ≡ true
    → mine s ps ≡ []
none_behind s x y [] e h k = refl
none_behind s x y (q ∷ qs) e h k = step (none_behind s x y qs e parts.1) (is_of s q) k
  where
    parts : (name_lt y q.0 ≡ true) × (list_all (λ r. name_lt y r.0) qs ≡ true)
    parts = and_parts (name_lt y q.0) _ h

    step : (list_all (λ r. name_lt r.0 x) (mine s qs) ≡ true → mine s qs ≡ []) → (b : Bool)
        → list_all (λ r. name_lt r.0 x) (cond b (q ∷ mine s qs) (mine s qs)) ≡ true
        → cond b (q ∷ mine s qs) (mine s qs) ≡ []
    step ih true l =
        absurd (false≢true (sym e ∙ name_lt-trans y q.0 x parts.0
        (and_parts (name_lt q.0 x) _ l).0))
    step ih false l = ih l

-- a pair of the sender that comes after all its pairs becomes the last of them
pub mine_inserted : (s : ℕ) (p : Label × Content) (ps : List (Label × Content)) → is_of s p ≡ true
    → are_rising ps ≡ true → list_all (λ q. name_lt q.0 p.0) (mine s ps) ≡ true
    → mine s (inserted p ps) ≡ mine s ps ++ p ∷ []
mine_inserted s p [] e h k = cond-true (is_of s p) _ _ e
mine_inserted s p (q ∷ qs) e h k =
    step (mine_inserted s p qs e (and_parts _ (are_rising qs) h).1) (name_lt q.0 p.0) refl
  where
    parts : (list_all (λ r. name_lt q.0 r.0) qs ≡ true) × (are_rising qs ≡ true)
    parts = and_parts _ (are_rising qs) h

    further : (b : Bool) → list_all (λ r. name_lt r.0 p.0) (cond b (q ∷ mine s qs) (mine s qs))
        ≡ true
        → (list_all (λ r. name_lt r.0 p.0) (mine s qs) ≡ true
        → mine s (inserted p qs) ≡ mine s qs ++ p ∷ [])
        → cond b (q ∷ mine s (inserted p qs)) (mine s (inserted p qs)) ≡ cond b (q ∷ mine s qs)
        (mine s qs) ++ p ∷ []
    further true l ih = ap (λ ps. q ∷ ps) (ih (and_parts (name_lt q.0 p.0) _ l).1)
    further false l ih = ih l

    none : (b : Bool) → name_lt q.0 p.0 ≡ false
        → list_all (λ r. name_lt r.0 p.0) (cond b (q ∷ mine s qs) (mine s qs)) ≡ true
        → cond b (q ∷ mine s qs) (mine s qs) ≡ []
    none true f l = absurd (false≢true (sym f ∙ (and_parts (name_lt q.0 p.0) _ l).0))
    none false f l = none_behind s p.0 q.0 qs f parts.0 l

    step : (list_all (λ r. name_lt r.0 p.0) (mine s qs) ≡ true
        → mine s (inserted p qs) ≡ mine s qs ++ p ∷ []) → (b : Bool) → name_lt q.0 p.0 ≡ b
        → mine s (cond b (q ∷ inserted p qs) (p ∷ q ∷ qs)) ≡ mine s (q ∷ qs) ++ p ∷ []
    step ih true f = further (is_of s q) k ih
    step ih false f =
        cond-true (is_of s p) (p ∷ mine s (q ∷ qs)) (mine s (q ∷ qs)) e
        ∙ (ap (λ ps. p ∷ ps) (none (is_of s q) f k)
        ∙ sym (ap (λ ps. ps ++ p ∷ []) (none (is_of s q) f k)))

-- a name that comes after all of the sender's names is new
pub new_behind : (x : Label) (ps : List (Label × Content))
    → list_all (λ q. name_lt q.0 x) (mine x.sender ps) ≡ true → message_of ps x ≡ None
new_behind x [] h = refl
new_behind x (q ∷ qs) h = at (new_behind x qs) (same_name q.0 x) refl
  where
    further : (b : Bool) → list_all (λ r. name_lt r.0 x)
        (cond b (q ∷ mine x.sender qs) (mine x.sender qs)) ≡ true
        → list_all (λ r. name_lt r.0 x) (mine x.sender qs) ≡ true
    further true l = (and_parts (name_lt q.0 x) _ l).1
    further false l = l

    not_here : (q.0 ≡ x) → (b : Bool) → (q.0.sender == x.sender) ≡ b
        → list_all (λ r. name_lt r.0 x) (cond b (q ∷ mine x.sender qs) (mine x.sender qs)) ≡ true
        → ⊥
    not_here e true f l =
        false≢true (sym (name_lt-strict x)
        ∙ subst (λ (y : Label). name_lt y x ≡ true) e (and_parts (name_lt q.0 x) _ l).0)
    not_here e false f l =
        false≢true (sym f ∙ eq-eqb q.0.sender x.sender (ap (λ (y : Label). y.sender) e))

    at : (list_all (λ r. name_lt r.0 x) (mine x.sender qs) ≡ true → message_of qs x ≡ None)
        → (b : Bool) → same_name q.0 x ≡ b → cond b (Some q.1) (message_of qs x) ≡ None
    at ih true e = absurd (not_here (same_name-true q.0 x e) (q.0.sender == x.sender) refl h)
    at ih false e = ih (further (q.0.sender == x.sender) h)

-- ---- the sender's own names are numbered 1, 2, 3, ..

-- a sender's names up to the next number are the earlier ones, then the next
pub names_more : (s count : ℕ) → names s (count + 1) ≡ names s count ++ name s (count + 1) ∷ []
names_more s count =
    ap (λ n. map (name s) (numbers_from 1 n)) (more count)
    ∙ (ap (map (name s)) (numbers_more 1 count)
    ∙ (map-append (name s) (numbers_from 1 count) ((1 + count) ∷ [])
    ∙ ap (λ n. names s count ++ name s n ∷ []) (turn count)))
  where
    more : (n : ℕ) → n + 1 ≡ suc n
    more n = omega arith

    turn : (n : ℕ) → 1 + n ≡ n + 1
    turn n = omega arith

before_next : (s first count next : ℕ) → first + count ≤ next
    → list_all (λ x. name_lt x (name s next)) (map (name s) (numbers_from first count)) ≡ true
before_next s first zero next h = refl
before_next s first (suc count) next h =
    and_from (name_lt (name s first) (name s next)) _
    (or_right (nat_lt s s) ((s == s) && nat_lt first next)
    (and_from (s == s) (nat_lt first next) (eq-eqb s s refl) (lt-ltb first next (omega arith))))
    (before_next s (suc first) count next (omega arith))

-- all names of the sender come before its next one
pub mine_before : (s : ℕ) (ps : List (Label × Content)) (next : ℕ)
    → part_of s (map (λ pair. pair.0) ps) ≡ names s (length (own s ps)) → length (own s ps) < next
    → list_all (λ q. name_lt q.0 (name s next)) (mine s ps) ≡ true
mine_before s ps next e h =
    sym (list_all-map (λ x. name_lt x (name s next)) (λ (q : Label × Content). q.0) (mine s ps))
    ∙ subst (λ xs. list_all (λ x. name_lt x (name s next)) xs ≡ true) (sym e ∙ part_mine s ps)
    (before_next s 1 (length (own s ps)) next (omega arith))
