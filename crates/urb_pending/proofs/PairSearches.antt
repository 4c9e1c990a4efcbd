-- What is found under a name and at the front, and how far a node's own numbers go.
use Rattle.urb_pending.proofs.Common.{Bool, Content, IsPendingSet, Label, List, None, Option}
use Rattle.urb_pending.proofs.Common.{PendingSet, Some, [], and_parts, ap, are_rising, cond, false}
use Rattle.urb_pending.proofs.Common.{false≢true, first_name, inl, inr, length, list_all}
use Rattle.urb_pending.proofs.Common.{message_of, name, name_lt, name_lt-strict, names}
use Rattle.urb_pending.proofs.Common.{numbers_from, option_map, or_cases, or_right, own, part_of}
use Rattle.urb_pending.proofs.Common.{refl, same_message, same_name, same_name-true, slice_get}
use Rattle.urb_pending.proofs.Common.{subst, suc, sym, take_while, true, zero, ℕ, ◌&&◌, ◌==◌, ◌||◌}
use Rattle.urb_pending.proofs.Common.{◌∙◌, ◌∷◌, ◌≡◌, ◌⊎◌}
use Rattle.std.specs.Bool.{MatchBool}
use Rattle.std.proofs.lemmas.Bool.{false_from_ne_true, or_from, or_left}
use Rattle.std.proofs.lemmas.List.{length-map}
use Rattle.std.proofs.lemmas.List.Sums.{take_while-cons}
use Rattle.urb_names.specs.Names.{has_name}
use Rattle.urb_names.specs.Pairs.{has_pair}
use Rattle.urb_names.specs.Release.{beginning}
use Rattle.urb_names.proofs.SameNames.{same_message-same, same_message-true, same_name-same}
use Rattle.urb_window.specs.Entries.{low_of, names_of, value_of}

-- the value under a name is its message
pub value_is : (ps : List (Label × Content)) (x : Label) → value_of ps x ≡ message_of ps x
value_is [] x = refl
value_is (p ∷ ps) x = ap (λ o. cond (same_name p.0 x) (Some p.1) o) (value_is ps x)

-- whether a message was found and is this one
abbrev pub is_that : Content → Option Content → Bool
is_that m None = false
is_that m (Some there) = same_message there m

-- after a name in the order, no pair has that name
none_later : (x : Label) (m : Content) (ps : List (Label × Content))
    → list_all (λ q. name_lt x q.0) ps ≡ true → has_pair ps x m ≡ false
none_later x m [] h = refl
none_later x m (p ∷ ps) h =
    or_from (same_name p.0 x && same_message p.1 m) (has_pair ps x m)
    (differ (same_name p.0 x) refl) (none_later x m ps parts.1)
  where
    parts : (name_lt x p.0 ≡ true) × (list_all (λ q. name_lt x q.0) ps ≡ true)
    parts = and_parts (name_lt x p.0) _ h

    differ : (b : Bool) → same_name p.0 x ≡ b → (b && same_message p.1 m) ≡ false
    differ true e =
        absurd (false≢true (sym (name_lt-strict x)
        ∙ (ap (name_lt x) (sym (same_name-true p.0 x e)) ∙ parts.0)))
    differ false e = refl

-- a pair is there exactly if its message is found under its name
pub pair_found : (ps : List (Label × Content)) (x : Label) (m : Content) → are_rising ps ≡ true
    → has_pair ps x m ≡ is_that m (message_of ps x)
pair_found [] x m h = refl
pair_found (p ∷ ps) x m h = at (pair_found ps x m parts.1) (same_name p.0 x) refl
  where
    parts : (list_all (λ q. name_lt p.0 q.0) ps ≡ true) × (are_rising ps ≡ true)
    parts = and_parts (list_all (λ q. name_lt p.0 q.0) ps) (are_rising ps) h

    at : has_pair ps x m ≡ is_that m (message_of ps x) → (b : Bool) → same_name p.0 x ≡ b
        → ((b && same_message p.1 m) || has_pair ps x m) ≡ is_that m
        (cond b (Some p.1) (message_of ps x))
    at ih true e =
        ap (λ b. same_message p.1 m || b)
        (subst (λ y. has_pair ps y m ≡ false) (same_name-true p.0 x e)
        (none_later p.0 m ps parts.0)) ∙ or_nothing (same_message p.1 m)
      where
        or_nothing : (b : Bool) → (b || false) ≡ b
        or_nothing true = refl
        or_nothing false = refl
    at ih false e = ih

-- the first name is the name of the first pair
pub front_name : (ps : List (Label × Content))
    → option_map (λ pair. pair.0) (slice_get ps 0) ≡ first_name ps
front_name [] = refl
front_name (p ∷ ps) = refl

-- all of one sender's names in a list are in the list
part_has : (s : ℕ) (xs : List Label) (y : Label) → has_name (part_of s xs) y ≡ true
    → has_name xs y ≡ true
part_has s [] y e = e
part_has s (x ∷ xs) y e = at (part_has s xs y) (x.sender == s) e
  where
    at : (has_name (part_of s xs) y ≡ true → has_name xs y ≡ true) → (b : Bool)
        → has_name (cond b (x ∷ part_of s xs) (part_of s xs)) y ≡ true → has_name (x ∷ xs) y ≡ true
    at ih true f = there (or_cases (same_name x y) (has_name (part_of s xs) y) f)
      where
        there : (same_name x y ≡ true) ⊎ (has_name (part_of s xs) y ≡ true)
            → has_name (x ∷ xs) y ≡ true
        there (inl g) = or_left (same_name x y) _ g
        there (inr g) = or_right (same_name x y) _ (ih g)
    at ih false f = or_right (same_name x y) _ (ih f)

-- all elements are taken if each passes
take_each : (test : Label → Bool) (ys : List Label)
    → ((y : Label) → has_name ys y ≡ true → test y ≡ true) → take_while test ys ≡ ys
take_each test [] h = refl
take_each test (y ∷ ys) h =
    take_while-cons test y ys
    ∙ (ap (λ (b : Bool). cond b (y ∷ take_while test ys) [])
    (h y (or_left (same_name y y) _ (same_name-same y)))
    ∙ ap (λ zs. y ∷ zs) (take_each test ys (λ z e. h z (or_right (same_name y z) _ e))))

-- a list of `count` numbers in a row has that length
pub numbers_length : (first count : ℕ) → length (numbers_from first count) ≡ count
numbers_length first zero = refl
numbers_length first (suc count) = ap (λ n. suc n) (numbers_length (suc first) count)

-- if a sender's names are 1 to count, they go that far without a gap
pub beginning_full : (s count : ℕ) (xs : List Label) → part_of s xs ≡ names s count
    → length (beginning s xs) ≡ count
beginning_full s count xs e =
    ap (λ n. length (take_while (has_name xs) (names s n))) (ap length e ∙ full)
    ∙ (ap length (take_each (has_name xs) (names s count)
    (λ y f. part_has s xs y (ap (λ zs. has_name zs y) e ∙ f))) ∙ full)
  where
    full : length (names s count) ≡ count
    full = length-map (numbers_from 1 count) (name s) ∙ numbers_length 1 count

-- a node's own numbers go as far as it has messages
pub own_low : (set : PendingSet) → IsPendingSet set
    → low_of set.node set.pairs ≡ length (own set.node set.pairs)
own_low set h =
    beginning_full set.node (length (own set.node set.pairs)) (names_of set.pairs) h.numbered

-- a pair is there exactly if the message found under its name is its message
pub found_is : (ps : List (Label × Content)) (x : Label) (m : Content) (found : Option Content)
    → are_rising ps ≡ true → found ≡ value_of ps x → is_that m found ≡ has_pair ps x m
found_is ps x m found h e = ap (is_that m) (e ∙ value_is ps x) ∙ sym (pair_found ps x m h)

-- a truth value that decides whether two messages are equal is what their test says
pub told_same : (b : Bool) (m o : Content) → MatchBool b (m ≡ o) (m ≡ o → ⊥) → b ≡ same_message m o
told_same true m o h = sym (subst (λ x. same_message m x ≡ true) h (same_message-same m))
told_same false m o h = sym (false_from_ne_true _ (λ e. h (same_message-true m o e)))
