-- The message found under a name among pairs, also after a pair is added.
use Rattle.std.proofs.Common.{Bool, List, None, Option, Some, [], ap, append-nil, cond, false, inl}
use Rattle.std.proofs.Common.{inr, is_none, is_some, refl, subst, sym, true, ℕ, ⊎_elim, ◌&&◌, ◌++◌}
use Rattle.std.proofs.Common.{◌==◌, ◌||◌, ◌∙◌, ◌∷◌, ◌≡◌, ◌⊎◌}
use Rattle.std.proofs.lemmas.Bool.{and_parts, cond-false, cond-true, false≢true, or_cases, or_left}
use Rattle.std.proofs.lemmas.Bool.{or_right}
use Rattle.std.proofs.lemmas.List.Folds.{list_any-append}
use Rattle.urb_names.proofs.SameNames.{any_left, any_right, same_message-same, same_message-true}
use Rattle.urb_names.proofs.SameNames.{same_name-same, same_name-true}
use Rattle.urb_names.specs.Names.{has_name, same_message, same_name}
use Rattle.urb_names.specs.LabelsAndContents.{Content, Label}
use Rattle.urb_names.specs.Pairs.{has_pair, message_of, own}

-- a sender's messages in two lists are those in the first, then those in the second
pub own-append : (s : ℕ) (ps qs : List (Label × Content)) → own s (ps ++ qs) ≡ own s ps ++ own s qs
own-append s [] qs = refl
own-append s (p ∷ ps) qs = step (own-append s ps qs) (p.0.sender == s)
  where
    step : own s (ps ++ qs) ≡ own s ps ++ own s qs → (b : Bool)
        → cond b (p.1 ∷ own s (ps ++ qs)) (own s (ps ++ qs)) ≡ cond b (p.1 ∷ own s ps) (own s ps)
        ++ own s qs
    step ih true = ap (λ ms. p.1 ∷ ms) ih
    step ih false = ih

-- what is found stays found when pairs are appended
pub message_of-more : (ps qs : List (Label × Content)) (x : Label) (m : Content)
    → message_of ps x ≡ Some m → message_of (ps ++ qs) x ≡ Some m
message_of-more [] qs x m e = cc
message_of-more (p ∷ ps) qs x m e = step (message_of-more ps qs x m) (same_name p.0 x) e
  where
    step : (message_of ps x ≡ Some m → message_of (ps ++ qs) x ≡ Some m) → (b : Bool)
        → cond b (Some p.1) (message_of ps x) ≡ Some m
        → cond b (Some p.1) (message_of (ps ++ qs) x) ≡ Some m
    step ih true h = h
    step ih false h = ih h

-- what is not found in the first list is looked up in the second
pub message_of-behind : (ps qs : List (Label × Content)) (x : Label) → message_of ps x ≡ None
    → message_of (ps ++ qs) x ≡ message_of qs x
message_of-behind [] qs x e = refl
message_of-behind (p ∷ ps) qs x e = step (message_of-behind ps qs x) (same_name p.0 x) e
  where
    step : (message_of ps x ≡ None → message_of (ps ++ qs) x ≡ message_of qs x) → (b : Bool)
        → cond b (Some p.1) (message_of ps x) ≡ None
        → cond b (Some p.1) (message_of (ps ++ qs) x) ≡ message_of qs x
    step ih true h = cc
    step ih false h = ih h

-- if a message is found, its pair is in the list
pub has_pair-found : (ps : List (Label × Content)) (x : Label) (m : Content)
    → message_of ps x ≡ Some m → has_pair ps x m ≡ true
has_pair-found [] x m e = cc
has_pair-found (p ∷ ps) x m e = step (has_pair-found ps x m) (same_name p.0 x) e
  where
    step : (message_of ps x ≡ Some m → has_pair ps x m ≡ true) → (b : Bool)
        → cond b (Some p.1) (message_of ps x) ≡ Some m
        → ((b && same_message p.1 m) || has_pair ps x m) ≡ true
    step ih true h =
        let same : p.1 ≡ m = cc in
        or_left _ _ (subst (λ (o : Content). same_message p.1 o ≡ true) same
        (same_message-same p.1))
    step ih false h = ih h

-- if no message is found under a name, no pair has that name
pub no_pair : (ps : List (Label × Content)) (x : Label) (m : Content) → message_of ps x ≡ None
    → has_pair ps x m ≡ true → ⊥
no_pair [] x m e h = false≢true h
no_pair (p ∷ ps) x m e h = step (no_pair ps x m) (same_name p.0 x) e h
  where
    step : (message_of ps x ≡ None → has_pair ps x m ≡ true → ⊥) → (b : Bool)
        → cond b (Some p.1) (message_of ps x) ≡ None
        → ((b && same_message p.1 m) || has_pair ps x m) ≡ true → ⊥
    step ih true k w = cc
    step ih false k w = ih k w

-- a pair of the first list is in both lists together
pub has_pair-left : (ps qs : List (Label × Content)) (x : Label) (m : Content)
    → has_pair ps x m ≡ true → has_pair (ps ++ qs) x m ≡ true
has_pair-left ps qs x m h = any_left _ ps qs h

-- a pair of the second list is in both lists together
pub has_pair-right : (ps qs : List (Label × Content)) (x : Label) (m : Content)
    → has_pair qs x m ≡ true → has_pair (ps ++ qs) x m ≡ true
has_pair-right ps qs x m h = any_right _ ps qs h

-- a pair of two lists together is in one of them
pub has_pair-cases : (ps qs : List (Label × Content)) (x : Label) (m : Content)
    → has_pair (ps ++ qs) x m ≡ true → (has_pair ps x m ≡ true) ⊎ (has_pair qs x m ≡ true)
has_pair-cases ps qs x m h =
    or_cases (has_pair ps x m) (has_pair qs x m)
    (sym (list_any-append (λ pair. same_name pair.0 x && same_message pair.1 m) ps qs) ∙ h)

-- ---- whether anything is found

-- an option that tests as empty holds nothing
pub none_found : {A : Type 0} (o : Option A) → is_none o ≡ true → o ≡ None
none_found None e = refl
none_found (Some a) e = absurd (false≢true e)

-- an option that tests as full holds a value
pub some_found : {A : Type 0} (o : Option A) → is_some o ≡ true → (a : A) × (o ≡ Some a)
some_found None e = absurd (false≢true e)
some_found (Some a) e = (a, refl)

-- ---- a pair after others

message_of-itself : (x : Label) (m : Content) → message_of ((x, m) ∷ []) x ≡ Some m
message_of-itself x m = cond-true (same_name x x) _ _ (same_name-same x)

-- in a list of one pair, no message is found under another name
pub message_of-another : (x y : Label) (m : Content) → same_name x y ≡ false
    → message_of ((x, m) ∷ []) y ≡ None
message_of-another x y m e = cond-false (same_name x y) _ _ e

-- other names are found as before
pub message_of-other : (ps : List (Label × Content)) (x y : Label) (m : Content)
    → same_name x y ≡ false → message_of (ps ++ (x, m) ∷ []) y ≡ message_of ps y
message_of-other ps x y m e = at (message_of ps y) refl
  where
    at : (o : Option Content) → message_of ps y ≡ o
        → message_of (ps ++ (x, m) ∷ []) y ≡ message_of ps y
    at None f = message_of-behind ps ((x, m) ∷ []) y f ∙ (message_of-another x y m e ∙ sym f)
    at (Some o) f = message_of-more ps ((x, m) ∷ []) y o f ∙ sym f

-- a pair that is put last is in the list
pub has_pair-itself : (ps : List (Label × Content)) (x : Label) (m : Content)
    → has_pair (ps ++ (x, m) ∷ []) x m ≡ true
has_pair-itself ps x m =
    has_pair-right ps ((x, m) ∷ []) x m (has_pair-found ((x, m) ∷ []) x m (message_of-itself x m))

-- the pair was there before, or it is the last one
pub has_pair-last : (ps : List (Label × Content)) (x y : Label) (m o : Content)
    → has_pair (ps ++ (x, m) ∷ []) y o ≡ true → (has_pair ps y o ≡ true) ⊎ ((x ≡ y) × (m ≡ o))
has_pair-last [] x y m o h =
    ⊎_elim (λ e. let parts = and_parts (same_name x y) (same_message m o) e in
    inr (same_name-true x y parts.0, same_message-true m o parts.1))
    (λ e. absurd (false≢true e))
    (or_cases (same_name x y && same_message m o) false h)
has_pair-last (p ∷ ps) x y m o h =
    ⊎_elim (λ e. inl (or_left (same_name p.0 y && same_message p.1 o) _ e))
    (λ e. ⊎_elim (λ f. inl (or_right (same_name p.0 y && same_message p.1 o) _ f)) (λ f. inr f)
    (has_pair-last ps x y m o e))
    (or_cases (same_name p.0 y && same_message p.1 o) (has_pair (ps ++ (x, m) ∷ []) y o) h)

-- the pair of a new name is found
pub message_of-new : (ps : List (Label × Content)) (x : Label) (m : Content)
    → message_of ps x ≡ None → message_of (ps ++ (x, m) ∷ []) x ≡ Some m
message_of-new ps x m e = message_of-behind ps ((x, m) ∷ []) x e ∙ message_of-itself x m

-- ---- a name has one message
abbrev pub Unique : List (Label × Content) → Type 0
Unique ps = (x : Label) (m : Content) → has_pair ps x m ≡ true → message_of ps x ≡ Some m

own-one : (p : ℕ) (x : Label) (m : Content) → (x.sender == p) ≡ true → own p ((x, m) ∷ []) ≡ m ∷ []
own-one p x m e = cond-true (x.sender == p) _ _ e

own-no : (p : ℕ) (x : Label) (m : Content) → (x.sender == p) ≡ false → own p ((x, m) ∷ []) ≡ []
own-no p x m e = cond-false (x.sender == p) _ _ e

-- a pair of the sender that is put last adds its message to the sender's messages
pub own-push : (p : ℕ) (ps : List (Label × Content)) (x : Label) (m : Content)
    → (x.sender == p) ≡ true → own p (ps ++ (x, m) ∷ []) ≡ own p ps ++ m ∷ []
own-push p ps x m e = own-append p ps ((x, m) ∷ []) ∙ ap (λ ms. own p ps ++ ms) (own-one p x m e)

-- a pair of another sender that is put last leaves the sender's messages as they are
pub own-other : (p : ℕ) (ps : List (Label × Content)) (x : Label) (m : Content)
    → (x.sender == p) ≡ false → own p (ps ++ (x, m) ∷ []) ≡ own p ps
own-other p ps x m e =
    own-append p ps ((x, m) ∷ [])
    ∙ (ap (λ ms. own p ps ++ ms) (own-no p x m e) ∙ append-nil (own p ps))

-- a name was certified already, or the last record certifies it
pub has_name-last : (xs : List Label) (x y : Label) → has_name (xs ++ x ∷ []) y ≡ true
    → (has_name xs y ≡ true) ⊎ (x ≡ y)
has_name-last [] x y h =
    ⊎_elim (λ e. inr (same_name-true x y e)) (λ e. absurd (false≢true e))
    (or_cases (same_name x y) false h)
has_name-last (z ∷ xs) x y h =
    ⊎_elim (λ e. inl (or_left (same_name z y) _ e))
    (λ e. ⊎_elim (λ f. inl (or_right (same_name z y) _ f)) (λ f. inr f) (has_name-last xs x y e))
    (or_cases (same_name z y) (has_name (xs ++ x ∷ []) y) h)

-- ---- two lists with the same pairs

-- if two lists have the same pairs, and one message for each name, they have the same messages
pub same_found : (ps qs : List (Label × Content))
    → ((x : Label) (m : Content) → has_pair ps x m ≡ has_pair qs x m) → Unique ps → Unique qs
    → (x : Label) → message_of ps x ≡ message_of qs x
same_found ps qs same u v x = at (message_of ps x) (message_of qs x) refl refl
  where
    at : (o r : Option Content) → message_of ps x ≡ o → message_of qs x ≡ r
        → message_of ps x ≡ message_of qs x
    at None None e f = e ∙ sym f
    at (Some m) r e f = e ∙ sym (v x m (sym (same x m) ∙ has_pair-found ps x m e))
    at None (Some m) e f = absurd (no_pair ps x m e (same x m ∙ has_pair-found qs x m f))
