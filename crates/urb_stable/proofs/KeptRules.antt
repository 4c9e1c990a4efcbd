-- Records that keep the fitting rules, and what follows for their pairs.
use Rattle.urb_stable.proofs.Common.{Bool, Cert, Content, Entry, Kept, Label, Limits, List, None}
use Rattle.urb_stable.proofs.Common.{Option, Pend, PendCert, Some, Unique, [], and_parts, ap}
use Rattle.urb_stable.proofs.Common.{append-nil, append_assoc, ap₂, arith, cases_Bool, cert, cond}
use Rattle.urb_stable.proofs.Common.{eqb-true, false, false≢true, has_name, has_pair, has_pair-last}
use Rattle.urb_stable.proofs.Common.{held_by_majority, in_range, inl, inr, is_next_own, is_none}
use Rattle.urb_stable.proofs.Common.{known_held, length, message_of, message_of-another, name}
use Rattle.urb_stable.proofs.Common.{ne_eqb, own, own-other, own-push, pend, refl, slice_get, subst}
use Rattle.urb_stable.proofs.Common.{suc, sym, true, ℕ, ⊎_elim, ◌&&◌, ◌++◌, ◌<◌, ◌==◌, ◌∙◌, ◌∷◌}
use Rattle.urb_stable.proofs.Common.{◌≡◌, ◌⊎◌}
use Rattle.std.proofs.lemmas.Bool.{and_left, and_right, cases_order, cond-false, cond-true}
use Rattle.urb_names.proofs.FoundPairs.{has_name-last, message_of-behind, message_of-more}
use Rattle.urb_names.proofs.FoundPairs.{message_of-new, message_of-other, none_found}
use Rattle.urb_names.proofs.Places.{get_front, get_last, get_none, get_past, get_some}
use Rattle.urb_names.proofs.SameNames.{majority_grows}
use Rattle.urb_stable.proofs.JoinedRecords.{cert-append, pend-append}
use Rattle.urb_stable.specs.Fitting.{Rules}

-- each image keeps the pairs that it had
abbrev pub Grows : (ℕ → List Entry) → (ℕ → List Entry) → Type 0
Grows old new =
    (q : ℕ) (x : Label) (m : Content) → has_pair (pend (old q)) x m ≡ true
    → has_pair (pend (new q)) x m ≡ true

-- ---- kept rules stay kept

-- if the images of a majority have a pair, they still do when the images grow
pub majority_held-grows : (n : ℕ) (old new : ℕ → List Entry) (x : Label) (m : Content)
    → Grows old new → held_by_majority n old x m ≡ true → held_by_majority n new x m ≡ true
majority_held-grows n old new x m g e =
    majority_grows n (λ q. has_pair (pend (old q)) x m) (λ q. has_pair (pend (new q)) x m)
    (λ q. g q x m) e

known-grows : (n : ℕ) (old new : ℕ → List Entry) (x : Label) (o : Option Content) → Grows old new
    → known_held n old x o ≡ true → known_held n new x o ≡ true
known-grows n old new x None g e = e
known-grows n old new x (Some m) g e = majority_held-grows n old new x m g e

c_pair-grows : (old new : ℕ → List Entry) (p : ℕ) (x : Label) (m : Content) (b : Bool)
    → Grows old new → cond b true (has_pair (pend (old x.sender)) x m) ≡ true
    → cond b true (has_pair (pend (new x.sender)) x m) ≡ true
c_pair-grows old new p x m true g e = e
c_pair-grows old new p x m false g e = g x.sender x m e

-- a record that keeps the four rules still does when the images grow
pub rules-grow : (size : Limits) (old new : ℕ → List Entry) (p : ℕ) (earlier : List Entry)
    (r : Entry) → Grows old new → Rules size old p earlier r → Rules size new p earlier r
rules-grow size old new p earlier (Pend x m) g h =
    record { a = h.a; b = h.b; c = c_pair-grows old new p x m (x.sender == p) g h.c; d = refl }
rules-grow size old new p earlier (PendCert x m) g h =
    record {
      a = h.a;
      b = h.b;
      c = c_pair-grows old new p x m (x.sender == p) g h.c;
      d =
          majority_held-grows size.n old new x m g h.d;
    }
rules-grow size old new p earlier (Cert x) g h =
    record {
      a = h.a;
      b = h.b;
      c = refl;
      d =
          known-grows size.n old new x (message_of (pend earlier) x) g h.d;
    }

-- records that keep the four rules still do when the images grow
pub kept-grow : (size : Limits) (old new : ℕ → List Entry) (p : ℕ) (earlier rs : List Entry)
    → Grows old new → Kept size old p earlier rs → Kept size new p earlier rs
kept-grow size old new p earlier [] g h = tt
kept-grow size old new p earlier (r ∷ rs) g h = (
  rules-grow size old new p earlier r g h.0,
  kept-grow size old new p (earlier ++ r ∷ []) rs g h.1,
)

-- records that keep the rules, and one more that does, keep them together
pub kept-push : (size : Limits) (images : ℕ → List Entry) (p : ℕ) (earlier rs : List Entry)
    (r : Entry) → Kept size images p earlier rs → Rules size images p (earlier ++ rs) r
    → Kept size images p earlier (rs ++ r ∷ [])
kept-push size images p earlier [] r h k =
    (subst (λ (e : List Entry). Rules size images p e r) (append-nil earlier) k, tt)
kept-push size images p earlier (s ∷ rs) r h k = (
  h.0,
  kept-push size images p (earlier ++ s ∷ []) rs r h.1
      (subst (λ (e : List Entry). Rules size images p e r)
      (sym (append_assoc earlier (s ∷ []) rs)) k),
)

-- what each further record preserves holds for all records
pub kept-all : (size : Limits) (images : ℕ → List Entry) (p : ℕ) (P : List Entry → Type 0)
    → ((e : List Entry) (r : Entry) → P e → Rules size images p e r → P (e ++ r ∷ []))
    → (earlier rs : List Entry) → P earlier → Kept size images p earlier rs → P (earlier ++ rs)
kept-all size images p P step earlier [] start h = subst P (sym (append-nil earlier)) start
kept-all size images p P step earlier (r ∷ rs) start h =
    subst P (append_assoc earlier (r ∷ []) rs)
    (kept-all size images p P step (earlier ++ r ∷ []) rs (step earlier r start h.0) h.1)

pub record PairRules (size : Limits) (images : ℕ → List Entry) (p : ℕ) (earlier : List Entry)
    (x : Label) (m : Content) : Type 0 where
  -- the name is in the range of the limits
  pub range : in_range size x ≡ true
  -- no earlier pair has the name
  pub fresh : message_of (pend earlier) x ≡ None
  -- if the pair is the node's own, it is the next of its own
  pub next : (x.sender == p) ≡ true → is_next_own (own p (pend earlier)) x m ≡ true
  -- if the pair is another sender's, that sender's image has it
  pub known : (x.sender == p) ≡ false → has_pair (pend (images x.sender)) x m ≡ true

pair_rules : (size : Limits) (images : ℕ → List Entry) (p : ℕ) (earlier : List Entry) (x : Label)
    (m : Content)
    → (in_range size x && is_none (message_of (pend earlier) x)) ≡ true
    → cond (x.sender == p) (is_next_own (own p (pend earlier)) x m) true ≡ true
    → cond (x.sender == p) true (has_pair (pend (images x.sender)) x m) ≡ true
    → PairRules size images p earlier x m
pair_rules size images p earlier x m a b c =
    let parts = and_parts (in_range size x) (is_none (message_of (pend earlier) x)) a in
    record {
      range = parts.0;
      fresh = none_found (message_of (pend earlier) x) parts.1;
      next = λ e. sym (cond-true (x.sender == p) _ _ e) ∙ b;
      known = λ e. sym (cond-false (x.sender == p) _ _ e) ∙ c;
    }

-- what each further pair preserves holds for all pairs
pub pairs-all : (size : Limits) (images : ℕ → List Entry) (p : ℕ)
    (Q : List (Label × Content) → Type 0) → Q []
    → ((e : List Entry) (x : Label) (m : Content) → Q (pend e) → PairRules size images p e x m
    → Q (pend e ++ (x, m) ∷ []))
    → (rs : List Entry) → Kept size images p [] rs → Q (pend rs)
pairs-all size images p Q start step rs h =
    kept-all size images p (λ e. Q (pend e)) more [] rs start h
  where
    more : (e : List Entry) (r : Entry) → Q (pend e) → Rules size images p e r
        → Q (pend (e ++ r ∷ []))
    more e (Pend x m) q k =
        subst Q (sym (pend-append e (Pend x m ∷ [])))
        (step e x m q (pair_rules size images p e x m k.a k.b k.c))
    more e (PendCert x m) q k =
        subst Q (sym (pend-append e (PendCert x m ∷ [])))
        (step e x m q (pair_rules size images p e x m k.a k.b k.c))
    more e (Cert x) q k = subst Q (sym (pend-append e (Cert x ∷ []) ∙ append-nil (pend e))) q

-- records that keep the rules have one message for each name
pub kept-unique : (size : Limits) (images : ℕ → List Entry) (p : ℕ) (rs : List Entry)
    → Kept size images p [] rs → Unique (pend rs)
kept-unique size images p rs h =
    pairs-all size images p Unique (λ x m e. absurd (false≢true e)) more rs h
  where
    more : (e : List Entry) (x : Label) (m : Content) → Unique (pend e)
        → PairRules size images p e x m → Unique (pend e ++ (x, m) ∷ [])
    more e x m u k y o h =
        ⊎_elim (λ f. message_of-more (pend e) ((x, m) ∷ []) y o (u y o f))
        (λ f. subst (λ (z : Label). message_of (pend e ++ (x, m) ∷ []) z ≡ Some o) f.0
        (message_of-new (pend e) x m k.fresh ∙ ap Some f.1))
        (has_pair-last (pend e) x y m o h)

-- ---- names are in range
-- the names of pairs in records that keep the rules are in the range of the limits
pub kept-range : (size : Limits) (images : ℕ → List Entry) (p : ℕ) (rs : List Entry)
    → Kept size images p [] rs
    → (x : Label) (m : Content) → has_pair (pend rs) x m ≡ true → in_range size x ≡ true
kept-range size images p rs h =
    pairs-all size images p (λ ps. (x : Label) (m : Content) → has_pair ps x m ≡ true
    → in_range size x ≡ true) (λ x m e. absurd (false≢true e)) more rs h
  where
    more : (e : List Entry) (x : Label) (m : Content)
        → ((y : Label) (o : Content) → has_pair (pend e) y o ≡ true → in_range size y ≡ true)
        → PairRules size images p e x m
        → (y : Label) (o : Content) → has_pair (pend e ++ (x, m) ∷ []) y o ≡ true
        → in_range size y ≡ true
    more e x m u k y o h =
        ⊎_elim (λ f. u y o f) (λ f. subst (λ (z : Label). in_range size z ≡ true) f.0 k.range)
        (has_pair-last (pend e) x y m o h)

-- ---- another sender's pair is in that sender's image
-- for each pair of another sender in records that keep the rules, that sender's image has the pair
pub kept-known : (size : Limits) (images : ℕ → List Entry) (p : ℕ) (rs : List Entry)
    → Kept size images p [] rs
    → (x : Label) (m : Content) → has_pair (pend rs) x m ≡ true → (x.sender == p) ≡ false
    → has_pair (pend (images x.sender)) x m ≡ true
kept-known size images p rs h =
    pairs-all size images p (λ ps. (x : Label) (m : Content) → has_pair ps x m ≡ true
    → (x.sender == p) ≡ false → has_pair (pend (images x.sender)) x m ≡ true)
    (λ x m e. absurd (false≢true e)) more rs h
  where
    more : (e : List Entry) (x : Label) (m : Content)
        → ((y : Label) (o : Content) → has_pair (pend e) y o ≡ true → (y.sender == p) ≡ false
        → has_pair (pend (images y.sender)) y o ≡ true) → PairRules size images p e x m
        → (y : Label) (o : Content) → has_pair (pend e ++ (x, m) ∷ []) y o ≡ true
        → (y.sender == p) ≡ false → has_pair (pend (images y.sender)) y o ≡ true
    more e x m u k y o h n =
        ⊎_elim (λ f. u y o f n)
        (λ f. subst (λ (v : Content). has_pair (pend (images y.sender)) y v ≡ true) f.1
        (subst (λ (z : Label). (z.sender == p) ≡ false
        → has_pair (pend (images z.sender)) z m ≡ true) f.0 k.known n))
        (has_pair-last (pend e) x y m o h)

abbrev pub Numbered : ℕ → List (Label × Content) → Type 0
Numbered p ps = (j : ℕ) → message_of ps (name p (suc j)) ≡ slice_get (own p ps) j

-- in records that keep the rules, the node's own messages are found by their numbers
pub kept-numbered : (size : Limits) (images : ℕ → List Entry) (p : ℕ) (rs : List Entry)
    → Kept size images p [] rs → Numbered p (pend rs)
kept-numbered size images p rs h = pairs-all size images p (Numbered p) (λ j. refl) more rs h
  where
    more : (e : List Entry) (x : Label) (m : Content) → Numbered p (pend e)
        → PairRules size images p e x m → Numbered p (pend e ++ (x, m) ∷ [])
    more e x m u k j = by_sender (cases_Bool (x.sender == p))
      where
        by_number : (x.seq ≡ suc (length (own p (pend e)))) → (x.sender ≡ p)
            → (j ≡ length (own p (pend e)))
            ⊎ ((j < length (own p (pend e))) ⊎ (length (own p (pend e)) < j))
            → message_of (pend e ++ (x, m) ∷ []) (name p (suc j)) ≡ slice_get
            (own p (pend e) ++ m ∷ []) j
        by_number q s (inl f) =
            let same : x ≡ name p (suc j) = ap₂ name s (let g : x.seq ≡ suc j = omega arith in g) in
            subst (λ (z : Label). message_of (pend e ++ (x, m) ∷ []) z ≡ Some m) same
            (message_of-new (pend e) x m k.fresh)
            ∙ sym (get_last (own p (pend e)) m j f)
        by_number q s (inr (inl f)) =
            let found = get_some (own p (pend e)) j f in
            message_of-more (pend e) ((x, m) ∷ []) (name p (suc j)) found.0 (u j ∙ found.1)
            ∙ sym (get_front (own p (pend e)) (m ∷ []) j f ∙ found.1)
        by_number q s (inr (inr f)) =
            message_of-behind (pend e) ((x, m) ∷ []) (name p (suc j))
            (u j ∙ get_none (own p (pend e)) j (omega arith))
            ∙ (message_of-another x (name p (suc j)) m
            (and_right (x.sender == p) (x.seq == suc j)
            (ne_eqb x.seq (suc j) (λ g. omega arith)))
            ∙ sym (get_past (own p (pend e)) m j f))

        by_sender : ((x.sender == p) ≡ true) ⊎ ((x.sender == p) ≡ false)
            → message_of (pend e ++ (x, m) ∷ []) (name p (suc j)) ≡ slice_get
            (own p (pend e ++ (x, m) ∷ [])) j
        by_sender (inl f) =
            let next = and_parts (x.seq == suc (length (own p (pend e)))) _ (k.next f) in
            by_number (eqb-true x.seq (suc (length (own p (pend e)))) next.0)
            (eqb-true x.sender p f) (cases_order j (length (own p (pend e))))
            ∙ ap (λ ms. slice_get ms j) (sym (own-push p (pend e) x m f))
        by_sender (inr f) =
            message_of-other (pend e) x (name p (suc j)) m
            (and_left (x.sender == p) (x.seq == suc j) f)
            ∙ (u j ∙ ap (λ ms. slice_get ms j) (sym (own-other p (pend e) x m f)))

-- ---- a majority holds the pair of a certified name

-- the name has a message here, and a majority holds the pair
abbrev pub IsHeld : ℕ → (ℕ → List Entry) → List (Label × Content) → Label → Type 0
IsHeld n images ps x =
    (m : Content) × (message_of ps x ≡ Some m) × (held_by_majority n images x m ≡ true)

held-more : (n : ℕ) (images : ℕ → List Entry) (ps qs : List (Label × Content)) (x : Label)
    → IsHeld n images ps x → IsHeld n images (ps ++ qs) x
held-more n images ps qs x h = (h.0, message_of-more ps qs x h.0 h.1, h.2)

known_is_held : (n : ℕ) (images : ℕ → List Entry) (ps : List (Label × Content)) (x : Label)
    (o : Option Content) → message_of ps x ≡ o → known_held n images x o ≡ true
    → IsHeld n images ps x
known_is_held n images ps x None e h = absurd (false≢true h)
known_is_held n images ps x (Some m) e h = (m, e, h)

-- if records keep the rules, a majority's images have the pair of each certified name
pub kept-held : (size : Limits) (images : ℕ → List Entry) (p : ℕ) (rs : List Entry)
    → Kept size images p [] rs → (x : Label) → has_name (cert rs) x ≡ true
    → IsHeld size.n images (pend rs) x
kept-held size images p rs h =
    kept-all size images p (λ e. (x : Label) → has_name (cert e) x ≡ true
    → IsHeld size.n images (pend e) x) more [] rs (λ x e. absurd (false≢true e)) h
  where
    more : (e : List Entry) (r : Entry)
        → ((x : Label) → has_name (cert e) x ≡ true → IsHeld size.n images (pend e) x)
        → Rules size images p e r
        → (x : Label) → has_name (cert (e ++ r ∷ [])) x ≡ true
        → IsHeld size.n images (pend (e ++ r ∷ [])) x
    more e (Pend y m) u k x h =
        subst (λ (ps : List (Label × Content)). IsHeld size.n images ps x)
        (sym (pend-append e (Pend y m ∷ [])))
        (held-more size.n images (pend e) ((y, m) ∷ []) x
        (u x (ap (λ xs. has_name xs x)
        (sym (cert-append e (Pend y m ∷ []) ∙ append-nil (cert e))) ∙ h)))
    more e (PendCert y m) u k x h =
        let new : message_of (pend e ++ (y, m) ∷ []) y ≡ Some m =
        message_of-new (pend e) y m (none_found (message_of (pend e) y)
        (and_parts (in_range size y) (is_none (message_of (pend e) y)) k.a).1) in
        subst (λ (ps : List (Label × Content)). IsHeld size.n images ps x)
        (sym (pend-append e (PendCert y m ∷ [])))
        (⊎_elim (λ f. held-more size.n images (pend e) ((y, m) ∷ []) x (u x f))
        (λ f. subst (λ (z : Label). IsHeld size.n images (pend e ++ (y, m) ∷ []) z) f (m, new, k.d))
        (has_name-last (cert e) y x (ap (λ xs. has_name xs x)
        (sym (cert-append e (PendCert y m ∷ []))) ∙ h)))
    more e (Cert y) u k x h =
        subst (λ (ps : List (Label × Content)). IsHeld size.n images ps x)
        (sym (pend-append e (Cert y ∷ []) ∙ append-nil (pend e)))
        (⊎_elim (λ f. u x f)
        (λ f. subst (λ (z : Label). IsHeld size.n images (pend e) z) f
        (known_is_held size.n images (pend e) y (message_of (pend e) y) refl k.d))
        (has_name-last (cert e) y x (ap (λ xs. has_name xs x) (sym (cert-append e (Cert y ∷ [])))
        ∙ h)))
