-- Records that keep the rules about their own image, and one more record.
use Rattle.urb_stable.proofs.Common.{Bool, Cert, Content, Entry, KeepsOwn, Kept, Label, Limits}
use Rattle.urb_stable.proofs.Common.{List, Pend, PendCert, Unique, [], and_from, and_parts, ap}
use Rattle.urb_stable.proofs.Common.{append-nil, append_assoc, arith, cases_Bool, cert, cond}
use Rattle.urb_stable.proofs.Common.{count_by, eqb-true, false, false≢true, filter, has_name}
use Rattle.urb_stable.proofs.Common.{has_pair, has_pair-last, held_by_majority, in_range, inl, inr}
use Rattle.urb_stable.proofs.Common.{is_none, is_some, keeps_a, keeps_b, known_held, length}
use Rattle.urb_stable.proofs.Common.{length-filter, list_any-append, lt-ltb, ltb-true, message_of}
use Rattle.urb_stable.proofs.Common.{nat_lt, nodes, not, numbers_from, own, own-other, own-push}
use Rattle.urb_stable.proofs.Common.{pend, refl, same_message, same_name, subst, suc, sym, true}
use Rattle.urb_stable.proofs.Common.{zero, ℕ, ⊎_elim, ◌&&◌, ◌*◌, ◌++◌, ◌<◌, ◌==◌, ◌||◌, ◌∙◌, ◌∷◌}
use Rattle.urb_stable.proofs.Common.{◌≡◌, ◌⊎◌}
use Rattle.std.proofs.lemmas.Bool.{or_left}
use Rattle.urb_names.proofs.ClientNumbers.{Numbers, numbers-push}
use Rattle.urb_names.proofs.FoundPairs.{has_pair-found, has_pair-left, has_pair-right, some_found}
use Rattle.urb_names.proofs.SameNames.{any_right, same_message-same, same_name-same}
use Rattle.urb_names.specs.Nodes.{majority_passes}
use Rattle.urb_stable.proofs.JoinedRecords.{cert-append, pend-append}
use Rattle.urb_stable.proofs.KeptRules.{Numbered, PairRules, kept-numbered, kept-unique, pairs-all}

-- in records that keep the rules, each client numbers the node's own messages 1, 2, 3, ..
pub kept-numbers : (size : Limits) (images : ℕ → List Entry) (p : ℕ) (rs : List Entry)
    → Kept size images p [] rs → Numbers (own p (pend rs))
kept-numbers size images p rs h =
    pairs-all size images p (λ ps. Numbers (own p ps))
    (record { bounded = λ c k e. absurd (false≢true e); found = λ j m e. cc }) more rs h
  where
    more : (e : List Entry) (x : Label) (m : Content) → Numbers (own p (pend e))
        → PairRules size images p e x m → Numbers (own p (pend e ++ (x, m) ∷ []))
    more e x m n k = at (cases_Bool (x.sender == p))
      where
        at : ((x.sender == p) ≡ true) ⊎ ((x.sender == p) ≡ false)
            → Numbers (own p (pend e ++ (x, m) ∷ []))
        at (inl f) =
            let next = and_parts (x.seq == suc (length (own p (pend e)))) _ (k.next f) in
            subst (λ (ms : List Content). Numbers ms) (sym (own-push p (pend e) x m f))
            (numbers-push (own p (pend e)) m n (eqb-true m.number _ next.1))
        at (inr f) = subst (λ (ms : List Content). Numbers ms) (sym (own-other p (pend e) x m f)) n

-- a pair of the node's own has a number from 1 on
pub own_number : (size : Limits) (images : ℕ → List Entry) (p : ℕ) (rs : List Entry)
    → Kept size images p [] rs → (x : Label) (m : Content) → has_pair (pend rs) x m ≡ true
    → (x.sender == p) ≡ true → (i : ℕ) × (x.seq ≡ suc i)
own_number size images p rs h =
    pairs-all size images p (λ ps. (x : Label) (m : Content) → has_pair ps x m ≡ true
    → (x.sender == p) ≡ true → (i : ℕ) × (x.seq ≡ suc i))
    (λ x m e. absurd (false≢true e)) more rs h
  where
    more : (e : List Entry) (x : Label) (m : Content)
        → ((y : Label) (o : Content) → has_pair (pend e) y o ≡ true → (y.sender == p) ≡ true
        → (i : ℕ) × (y.seq ≡ suc i)) → PairRules size images p e x m
        → (y : Label) (o : Content) → has_pair (pend e ++ (x, m) ∷ []) y o ≡ true
        → (y.sender == p) ≡ true → (i : ℕ) × (y.seq ≡ suc i)
    more e x m u k y o a is =
        ⊎_elim (λ f. u y o f is)
        (λ f. subst (λ (z : Label). (z.sender == p) ≡ true → (i : ℕ) × (z.seq ≡ suc i)) f.0
        (λ own_is. (
          length (own p (pend e)),
          eqb-true x.seq _ (and_parts (x.seq == suc (length (own p (pend e)))) _
              (k.next own_is)).0,
        )) is)
        (has_pair-last (pend e) x y m o a)

-- ---- from the rules of one image, and the sets, to all rules

pair_within : (earlier rs : List Entry) (x : Label) (m : Content) (r : Entry) (whole : List Entry)
    → pend (r ∷ rs) ≡ (x, m) ∷ pend rs → earlier ++ r ∷ rs ≡ whole
    → has_pair (pend whole) x m ≡ true
pair_within earlier rs x m r whole a e =
    subst (λ (w : List Entry). has_pair (pend w) x m ≡ true) e
    (subst (λ (ps : List (Label × Content)). has_pair ps x m ≡ true)
    (sym (pend-append earlier (r ∷ rs) ∙ ap (λ ps. pend earlier ++ ps) a))
    (has_pair-right (pend earlier) ((x, m) ∷ pend rs) x m
    (or_left (same_name x x && same_message m m) _
    (and_from (same_name x x) _ (same_name-same x) (same_message-same m)))))

name_within : (earlier rs : List Entry) (x : Label) (r : Entry) (whole : List Entry)
    → cert (r ∷ rs) ≡ x ∷ cert rs → earlier ++ r ∷ rs ≡ whole → has_name (cert whole) x ≡ true
name_within earlier rs x r whole a e =
    subst (λ (w : List Entry). has_name (cert w) x ≡ true) e
    (subst (λ (xs : List Label). has_name xs x ≡ true)
    (sym (cert-append earlier (r ∷ rs) ∙ ap (λ xs. cert earlier ++ xs) a))
    (any_right _ (cert earlier) (x ∷ cert rs) (or_left (same_name x x) _ (same_name-same x))))

module _ (size : Limits) (images : ℕ → List Entry) (p : ℕ) (whole : List Entry)
    (known : (x : Label) (m : Content) → has_pair (pend whole) x m ≡ true → (x.sender == p) ≡ false
    → has_pair (pend (images x.sender)) x m ≡ true)
    (held : (x : Label) (m : Content) → has_name (cert whole) x ≡ true
    → has_pair (pend whole) x m ≡ true → held_by_majority size.n images x m ≡ true) where
  c_by : (x : Label) (m : Content) → has_pair (pend whole) x m ≡ true
      → cond (x.sender == p) true (has_pair (pend (images x.sender)) x m) ≡ true
  c_by x m h = at (x.sender == p) refl
    where
      at : (b : Bool) → (x.sender == p) ≡ b
          → cond b true (has_pair (pend (images x.sender)) x m) ≡ true
      at true e = refl
      at false e = known x m h e

  found_by : (earlier rs : List Entry) (x : Label) → earlier ++ Cert x ∷ rs ≡ whole
      → is_some (message_of (pend earlier) x) ≡ true
      → known_held size.n images x (message_of (pend earlier) x) ≡ true
  found_by earlier rs x e some =
      let f = some_found (message_of (pend earlier) x) some in
      let pair : has_pair (pend whole) x f.0 ≡ true =
      subst (λ (w : List Entry). has_pair (pend w) x f.0 ≡ true) e
      (subst (λ (ps : List (Label × Content)). has_pair ps x f.0 ≡ true)
      (sym (pend-append earlier (Cert x ∷ rs)))
      (has_pair-left (pend earlier) (pend rs) x f.0 (has_pair-found (pend earlier) x f.0 f.1)))
      in
      ap (known_held size.n images x) f.1
      ∙ held x f.0 (name_within earlier rs x (Cert x) whole refl e) pair

  -- records that keep rules A and B keep all four, if the images have the pairs that C and D
  -- require
  pub to_kept : (earlier rs : List Entry) → earlier ++ rs ≡ whole → KeepsOwn size p earlier rs
      → Kept size images p earlier rs
  to_kept earlier [] e h = tt
  to_kept earlier (Pend x m ∷ rs) e h = (
    record {
      a = h.0;
      b = h.1;
      c =
          c_by x m (pair_within earlier rs x m (Pend x m) whole refl e);
      d = refl;
    },
    to_kept (earlier ++ Pend x m ∷ []) rs (append_assoc earlier (Pend x m ∷ []) rs ∙ e) h.2,
  )
  to_kept earlier (PendCert x m ∷ rs) e h = (
    record {
      a = h.0;
      b = h.1;
      c = c_by x m (pair_within earlier rs x m (PendCert x m) whole refl e);
      d =
          held x m (name_within earlier rs x (PendCert x m) whole refl e)
          (pair_within earlier rs x m (PendCert x m) whole refl e);
    },
    to_kept (earlier ++ PendCert x m ∷ []) rs (append_assoc earlier (PendCert x m ∷ []) rs ∙ e) h.2,
  )
  to_kept earlier (Cert x ∷ rs) e h =
      let parts =
      and_parts (in_range size x) (is_some (message_of (pend earlier) x)
      && not (has_name (cert earlier) x)) h.0 in (
        record {
          a = h.0;
          b = h.1;
          c = refl;
          d =
              found_by earlier rs x e (and_parts (is_some (message_of (pend earlier) x))
              (not (has_name (cert earlier) x)) parts.1).0;
        },
        to_kept (earlier ++ Cert x ∷ []) rs (append_assoc earlier (Cert x ∷ []) rs ∙ e) h.2,
      )

-- ---- rules A and B alone

-- a group with one more node
abbrev more_nodes : Limits → Limits
more_nodes size = record { n = suc size.n; cap = size.cap }

in_more_range : (size : Limits) (x : Label) → in_range size x ≡ true
    → in_range (more_nodes size) x ≡ true
in_more_range size x h =
    let parts = and_parts (nat_lt x.sender (suc size.n)) (nat_lt x.seq (suc size.cap)) h in
    let low : x.sender < suc size.n = ltb-true x.sender (suc size.n) parts.0 in
    and_from (nat_lt x.sender (suc (suc size.n))) (nat_lt x.seq (suc size.cap))
    (lt-ltb x.sender (suc (suc size.n)) (omega arith)) parts.1

more_a : (size : Limits) (earlier : List Entry) (r : Entry) → keeps_a size earlier r ≡ true
    → keeps_a (more_nodes size) earlier r ≡ true
more_a size earlier (Pend x m) h =
    let parts = and_parts (in_range size x) (is_none (message_of (pend earlier) x)) h in
    and_from (in_range (more_nodes size) x) _ (in_more_range size x parts.0) parts.1
more_a size earlier (PendCert x m) h =
    let parts = and_parts (in_range size x) (is_none (message_of (pend earlier) x)) h in
    and_from (in_range (more_nodes size) x) _ (in_more_range size x parts.0) parts.1
more_a size earlier (Cert x) h =
    let parts =
    and_parts (in_range size x) (is_some (message_of (pend earlier) x)
    && not (has_name (cert earlier) x)) h in
    and_from (in_range (more_nodes size) x) _ (in_more_range size x parts.0) parts.1

more_own : (size : Limits) (p : ℕ) (earlier rs : List Entry) → KeepsOwn size p earlier rs
    → KeepsOwn (more_nodes size) p earlier rs
more_own size p earlier [] h = tt
more_own size p earlier (r ∷ rs) h =
    (more_a size earlier r h.0, h.1, more_own size p (earlier ++ r ∷ []) rs h.2)

-- if all nodes pass they are a majority, unless there is no node
all-pass : (b : Bool) → b ≡ true → (first k : ℕ)
    → length (filter (λ (q : ℕ). b) (numbers_from first k)) ≡ k
all-pass b e first k =
    subst (λ (c : Bool). length (filter (λ (q : ℕ). c) (numbers_from first k)) ≡ k) (sym e)
    (every first k)
  where
    every : (first k : ℕ) → length (filter (λ (q : ℕ). true) (numbers_from first k)) ≡ k
    every first zero = refl
    every first (suc k) = ap suc (every (suc first) k)

all_majority : (n : ℕ) (b : Bool) → b ≡ true → majority_passes (suc n) (λ q. b) ≡ true
all_majority n b e =
    let k : count_by (λ (q : ℕ). b) (nodes (suc n)) ≡ suc n =
    sym (length-filter (λ (q : ℕ). b) (nodes (suc n))) ∙ all-pass b e 1 (suc n) in
    lt-ltb (suc n) (2 * count_by (λ (q : ℕ). b) (nodes (suc n))) (omega (arith, k))

-- if every node's image is this one, an image that keeps its own rules keeps all rules
pub own-kept : (size : Limits) (p : ℕ) (rs : List Entry) → KeepsOwn size p [] rs
    → Kept (more_nodes size) (λ q. rs) p [] rs
own-kept size p rs h =
    to_kept (more_nodes size) (λ q. rs) p rs (λ x m k e. k)
    (λ x m c k. all_majority size.n (has_pair (pend rs) x m) k) [] rs refl
    (more_own size p [] rs h)

-- records that keep rules A and B have one message for each name
pub own-unique : (size : Limits) (p : ℕ) (rs : List Entry) → KeepsOwn size p [] rs
    → Unique (pend rs)
own-unique size p rs h = kept-unique (more_nodes size) (λ q. rs) p rs (own-kept size p rs h)

-- in records that keep rules A and B, the node's own messages are found by their numbers
pub own-numbered : (size : Limits) (p : ℕ) (rs : List Entry) → KeepsOwn size p [] rs
    → Numbered p (pend rs)
own-numbered size p rs h = kept-numbered (more_nodes size) (λ q. rs) p rs (own-kept size p rs h)

-- ---- one more record

-- the pairs before a record, with its own, are those after it
pub pairs-joined : (records : List Entry) (r : Entry) (ps : List (Label × Content))
    → ((x : Label) (m : Content) → has_pair ps x m ≡ has_pair (pend records) x m)
    → (x : Label) (m : Content) → (has_pair ps x m || has_pair (pend (r ∷ [])) x m) ≡ has_pair
    (pend (records ++ r ∷ [])) x m
pairs-joined records r ps h x m =
    ap (λ b. b || has_pair (pend (r ∷ [])) x m) (h x m)
    ∙ (sym (list_any-append _ (pend records) (pend (r ∷ [])))
    ∙ ap (λ qs. has_pair qs x m) (sym (pend-append records (r ∷ []))))

-- the names certified before a record, with the one that it certifies, are those certified after it
pub names-joined : (records : List Entry) (r : Entry) (xs : List Label)
    → ((x : Label) → has_name xs x ≡ has_name (cert records) x)
    → (x : Label) → (has_name xs x || has_name (cert (r ∷ [])) x) ≡ has_name
    (cert (records ++ r ∷ [])) x
names-joined records r xs h x =
    ap (λ b. b || has_name (cert (r ∷ [])) x) (h x)
    ∙ (sym (list_any-append _ (cert records) (cert (r ∷ [])))
    ∙ ap (λ ys. has_name ys x) (sym (cert-append records (r ∷ []))))

-- records that keep rules A and B, and one more that does, keep them together
pub keeps_own-push : (size : Limits) (p : ℕ) (earlier rs : List Entry) (r : Entry)
    → KeepsOwn size p earlier rs → keeps_a size (earlier ++ rs) r ≡ true
    → keeps_b p (earlier ++ rs) r ≡ true → KeepsOwn size p earlier (rs ++ r ∷ [])
keeps_own-push size p earlier [] r h a b = (
  subst (λ (e : List Entry). keeps_a size e r ≡ true) (append-nil earlier) a,
  subst (λ (e : List Entry). keeps_b p e r ≡ true) (append-nil earlier) b,
  tt,
)
keeps_own-push size p earlier (s ∷ rs) r h a b = (
  h.0,
  h.1,
  keeps_own-push size p (earlier ++ s ∷ []) rs r h.2
      (subst (λ (e : List Entry). keeps_a size e r ≡ true)
      (sym (append_assoc earlier (s ∷ []) rs)) a)
      (subst (λ (e : List Entry). keeps_b p e r ≡ true) (sym (append_assoc earlier (s ∷ []) rs)) b),
)
