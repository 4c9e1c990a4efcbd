-- Adding each record of an image to its index.
use Rattle.urb_stable.proofs.Common.{Bool, Cert, Content, Entry, IsIndexOf, IsLast, Label, List}
use Rattle.urb_stable.proofs.Common.{None, Option, Pend, PendCert, Places, Some, [], ap, arith}
use Rattle.urb_stable.proofs.Common.{by_name, cases_Bool, cond, eq-eqb, eqb-true, false, has_pair}
use Rattle.urb_stable.proofs.Common.{inl, inr, is_some, length, list_any-append, message_of}
use Rattle.urb_stable.proofs.Common.{message_of-another, name_of, no_pair, option_or, pend, refl}
use Rattle.urb_stable.proofs.Common.{same_message, same_name, same_name-true, slice_get}
use Rattle.urb_stable.proofs.Common.{slice_index_or, subst, suc, suc-eq-add-one, sym, take}
use Rattle.urb_stable.proofs.Common.{take-suc, true, zero, ℕ, ⊎_elim, ◌&&◌, ◌++◌, ◌+◌, ◌<◌, ◌==◌}
use Rattle.urb_stable.proofs.Common.{◌||◌, ◌∙◌, ◌∷◌, ◌≡◌, ◌⊎◌}
use Rattle.std.proofs.lemmas.Cmp.{ranked}
use Rattle.std.specs.Map.{lookup}
use Rattle.std.specs.Ordering.{MatchOrdering, is_eq, nat_cmp, ordering_then}
use Rattle.std.specs.declared.cmp.Ordering.{Ordering}
use Rattle.std.specs.declared.cmp.Ordering.TheVariants.{Equal, Greater, Less}
use Rattle.urb_stable.proofs.JoinedRecords.{pend-append}
use Rattle.std.specs.BTreeMap as tree

-- ---- the order of names

cmp-same : (a b : ℕ) → is_eq (nat_cmp a b) ≡ (a == b)
cmp-same a b = at (nat_cmp a b) (ranked a b (nat_cmp a b) refl)
  where
    apart : (a ≡ b → ⊥) → (a == b) ≡ false
    apart ne = ⊎_elim (λ f. absurd (ne (eqb-true a b f))) (λ f. f) (cases_Bool (a == b))

    at : (o : Ordering) → MatchOrdering o (a < b) (a ≡ b) (b < a) → is_eq o ≡ (a == b)
    at Less h = sym (apart (λ e. omega (arith, h, e)))
    at Equal h = sym (eq-eqb a b h)
    at Greater h = sym (apart (λ e. omega (arith, h, e)))

then-same : (o p : Ordering) → is_eq (ordering_then o p) ≡ (is_eq o && is_eq p)
then-same Less p = refl
then-same Equal p = refl
then-same Greater p = refl

-- the order of names finds two equal exactly if they are the same
pub order-same : (x y : Label) → is_eq (by_name x y) ≡ same_name x y
order-same x y =
    then-same (nat_cmp x.sender y.sender) (nat_cmp x.seq y.seq)
    ∙ (ap (λ b. b && is_eq (nat_cmp x.seq y.seq)) (cmp-same x.sender y.sender)
    ∙ ap (λ b. (x.sender == y.sender) && b) (cmp-same x.seq y.seq))

-- ---- pairs after other pairs

message-append : (ps qs : List (Label × Content)) (x : Label)
    → message_of (ps ++ qs) x ≡ option_or (message_of ps x) (message_of qs x)
message-append [] qs x = refl
message-append (p ∷ ps) qs x = at (message-append ps qs x) (same_name p.0 x)
  where
    at : message_of (ps ++ qs) x ≡ option_or (message_of ps x) (message_of qs x) → (b : Bool)
        → cond b (Some p.1) (message_of (ps ++ qs) x) ≡ option_or
        (cond b (Some p.1) (message_of ps x)) (message_of qs x)
    at ih true = refl
    at ih false = ih

or-none : {A : Type 0} (o p : Option A) → p ≡ None → option_or o p ≡ o
or-none None p e = e
or-none (Some a) p e = refl

or-false : (a b : Bool) → b ≡ false → (a || b) ≡ a
or-false true b e = refl
or-false false b e = e

-- a name without a message has no pair
pub none-has : (ps : List (Label × Content)) (x : Label) (m : Content) → message_of ps x ≡ None
    → has_pair ps x m ≡ false
none-has ps x m e =
    ⊎_elim (λ f. absurd (no_pair ps x m e f)) (λ f. f) (cases_Bool (has_pair ps x m))

-- the pairs of the records up to the next one are those before it, then its own
pub pend-next : (image : List Entry) (i : ℕ) (r : Entry) → i < length image
    → r ≡ slice_index_or image i r
    → pend (take (i + 1) image) ≡ pend (take i image) ++ pend (r ∷ [])
pend-next image i r l e =
    ap (λ n. pend (take n image)) (sym (suc-eq-add-one i))
    ∙ (ap pend (take-suc image i r l ∙ ap (λ x. take i image ++ x ∷ []) (sym e))
    ∙ pend-append (take i image) (r ∷ []))

-- ---- the last pair of a name

module _ (image : List Entry) (i : ℕ) (r : Entry) (l : i < length image)
    (e : r ≡ slice_index_or image i r) where
  more-pairs : (x : Label) (m : Content)
      → has_pair (pend (take (i + 1) image)) x m
      ≡ (has_pair (pend (take i image)) x m || has_pair (pend (r ∷ [])) x m)
  more-pairs x m =
      ap (λ ps. has_pair ps x m) (pend-next image i r l e)
      ∙ list_any-append (λ pair. same_name pair.0 x && same_message pair.1 m) (pend (take i image))
      (pend (r ∷ []))

  more-message : (x : Label) → message_of (pend (take (i + 1) image)) x ≡ option_or
      (message_of (pend (take i image)) x) (message_of (pend (r ∷ [])) x)
  more-message x =
      ap (λ ps. message_of ps x) (pend-next image i r l e)
      ∙ message-append (pend (take i image)) (pend (r ∷ [])) x

  -- a record that holds no pair with this name changes nothing
  last-other : (x : Label) (o : Option ℕ) → message_of (pend (r ∷ [])) x ≡ None → IsLast image i x o
      → IsLast image (i + 1) x o
  last-other x None none h = more-message x ∙ (or-none _ _ none ∙ h)
  last-other x (Some k) none h =
      record {
        below = (let b = h.below in omega (arith, b));
        entry = h.entry;
        here = h.here;
        named = h.named;
        pair = h.pair;
        pairs =
            λ m. more-pairs x m ∙ (or-false _ _ (none-has (pend (r ∷ [])) x m none) ∙ h.pairs m);
        message = more-message x ∙ (or-none _ _ none ∙ h.message);
      }

  -- a record that holds a pair with this name becomes the last
  last-here : (x : Label) → slice_get image i ≡ Some r → name_of r ≡ x
      → is_some (message_of (pend (r ∷ [])) x) ≡ true → IsLast image (i + 1) x (Some i)
  last-here x here named pair =
      record {
        below = omega arith;
        entry = r;
        here = here;
        named = named;
        pair = pair;
        pairs =
            more-pairs x;
        message = more-message x;
      }

-- ---- an index with one more record

-- an element of a list with one more is one of the list, or the last
pub read_more : {X : Type 0} (xs : List X) (y z : X) (k : ℕ) → slice_get (xs ++ y ∷ []) k ≡ Some z
    → (slice_get xs k ≡ Some z) ⊎ ((k ≡ length xs) × (z ≡ y))
read_more [] y z zero e = inr (refl, cc)
read_more [] y z (suc k) e = absurd cc
read_more (x ∷ xs) y z zero e = inl e
read_more (x ∷ xs) y z (suc k) e =
    elim (read_more xs y z k e) [ inl p ↦ inl p | inr q ↦ inr (ap suc q.0, q.1) ]

-- a list with one more element is longer by one
pub one_longer : {X : Type 0} (xs : List X) (y : X) → length (xs ++ y ∷ []) ≡ length xs + 1
one_longer [] y = refl
one_longer (x ∷ xs) y = let ih = one_longer xs y in omega (arith, ih)

-- an option has only one value
pub same_some : {X : Type 0} (a b : X) (o : Option X) → o ≡ Some a → o ≡ Some b → a ≡ b
same_some a b o e f = cc

more-index : {A : Type 0} (image : List Entry) (i : ℕ) (r : Entry) (old new : Places A)
    (o : Option ℕ) → slice_get image i ≡ Some r → IsIndexOf image i old
    → o ≡ tree.get by_name old.last (name_of r)
    → new.before.items ≡ old.before.items ++ o ∷ []
    → ((x : Label) → IsLast image (i + 1) x (tree.get by_name new.last x))
    → IsIndexOf image (i + 1) new
more-index image i r old new o here h is items last =
    record {
      size = ap length items ∙ (one_longer old.before.items o ∙ ap (λ n. n + 1) h.size);
      last = last;
      before =
          λ k s p at found. ⊎_elim (λ f. h.before k s p at f) (λ f. behind k s p at f.0 f.1)
          (read_more old.before.items o p k (ap (λ xs. slice_get xs k) (sym items) ∙ found));
    }
  where
    behind : (k : ℕ) (s : Entry) (p : Option ℕ) → slice_get image k ≡ Some s
        → k ≡ length old.before.items → p ≡ o → IsLast image k (name_of s) p
    behind k s p at place same =
        let k_is : k ≡ i = place ∙ h.size in
        let s_is : s ≡ r =
        same_some s r (slice_get image k) at (ap (slice_get image) k_is ∙ here) in
        subst (λ (n : ℕ). IsLast image n (name_of s) p) (sym k_is)
        (subst (λ (t : Entry). IsLast image i (name_of t) p) (sym s_is)
        (subst (λ (q : Option ℕ). IsLast image i (name_of r) q) (sym (same ∙ is))
        (h.last (name_of r))))

-- an index of the earlier records is also one of the next, if that is a certificate
pub index-certificate : {A : Type 0} (image : List Entry) (i : ℕ) (x : Label) (r : Entry)
    (old new : Places A) (o : Option ℕ) → i < length image → r ≡ slice_index_or image i r
    → slice_get image i ≡ Some r → r ≡ Cert x → IsIndexOf image i old
    → o ≡ tree.get by_name old.last (name_of r) → new.before.items ≡ old.before.items ++ o ∷ []
    → new.last ≡ old.last → IsIndexOf image (i + 1) new
index-certificate image i x r old new o l e here is h found items same =
    more-index image i r old new o here h found items
    (λ y. subst (λ map. IsLast image (i + 1) y (tree.get by_name map y)) (sym same)
    (last-other image i r l e y (tree.get by_name old.last y)
    (ap (λ s. message_of (pend (s ∷ [])) y) is) (h.last y)))

-- if the record holds a pair
index-pair : {A : Type 0} (image : List Entry) (i : ℕ) (x : Label) (m : Content) (r : Entry)
    (old new : Places A) (o : Option ℕ) → i < length image → r ≡ slice_index_or image i r
    → slice_get image i ≡ Some r → (r ≡ Pend x m) ⊎ (r ≡ PendCert x m)
    → IsIndexOf image i old → o ≡ tree.get by_name old.last (name_of r)
    → new.before.items ≡ old.before.items ++ o ∷ []
    → tree.Updates by_name old.last new.last (name_of r) (Some i) → IsIndexOf image (i + 1) new
index-pair image i x m r old new o l e here is h found items updates =
    more-index image i r old new o here h found items
    (λ y. at y (cases_Bool (same_name (name_of r) y)))
  where
    named : name_of r ≡ x
    named = ⊎_elim (λ f. ap name_of f) (λ f. ap name_of f) is

    pairs : pend (r ∷ []) ≡ (x, m) ∷ []
    pairs = ⊎_elim (λ f. ap (λ s. pend (s ∷ [])) f) (λ f. ap (λ s. pend (s ∷ [])) f) is

    at : (y : Label) → (same_name (name_of r) y ≡ true) ⊎ (same_name (name_of r) y ≡ false)
        → IsLast image (i + 1) y (tree.get by_name new.last y)
    at y (inl f) =
        let put : tree.get by_name new.last y ≡ Some i =
        updates.0 y ∙ ap (λ b. cond b (Some i) (tree.get by_name old.last y))
        (order-same (name_of r) y ∙ f) in
        subst (λ (p : Option ℕ). IsLast image (i + 1) y p) (sym put)
        (last-here image i r l e y here (same_name-true (name_of r) y f)
        (ap (λ ps. is_some (message_of ps y)) pairs
        ∙ ap (λ b. is_some (cond b (Some m) None))
        (subst (λ (z : Label). same_name z y ≡ true) named f)))
    at y (inr f) =
        let kept : tree.get by_name new.last y ≡ tree.get by_name old.last y =
        updates.0 y ∙ ap (λ b. cond b (Some i) (tree.get by_name old.last y))
        (order-same (name_of r) y ∙ f) in
        let none : message_of (pend (r ∷ [])) y ≡ None =
        ap (λ ps. message_of ps y) pairs
        ∙ message_of-another x y m (subst (λ (z : Label). same_name z y ≡ false) named f) in
        subst (λ (p : Option ℕ). IsLast image (i + 1) y p) (sym kept)
        (last-other image i r l e y (tree.get by_name old.last y) none (h.last y))

-- a record that holds some pair
abbrev IsSomePair : Entry → Type 0
IsSomePair r =
    ((x : Label) × (m : Content) × (r ≡ Pend x m))
    ⊎ ((x : Label) × (m : Content) × (r ≡ PendCert x m))

-- an index of the earlier records, with the next record's pair added, is one of that record too
pub index-next : {A : Type 0} (image : List Entry) (i : ℕ) (y : Label) (r : Entry)
    (old new : Places A) (o : Option ℕ) → i < length image → r ≡ slice_index_or image i r
    → slice_get image i ≡ Some r → IsSomePair r → y ≡ name_of r
    → IsIndexOf image i old → o ≡ tree.get by_name old.last (name_of r)
    → new.before.items ≡ old.before.items ++ o ∷ []
    → tree.Updates by_name old.last new.last y (Some i) → IsIndexOf image (i + 1) new
index-next image i y r old new o l e here is named h found items updates =
    let moved : tree.Updates by_name old.last new.last (name_of r) (Some i) =
    subst (λ (z : Label). tree.Updates by_name old.last new.last z (Some i)) named updates in
    ⊎_elim (λ f. index-pair image i f.0 f.1 r old new o l e here (inl f.2) h found items moved)
    (λ f. index-pair image i f.0 f.1 r old new o l e here (inr f.2) h found items moved) is

-- an empty index is one of no records
pub index-none : {A : Type 0} (image : List Entry) (index : Places A) → tree.IsEmpty index.last
    → index.before.items ≡ [] → IsIndexOf image 0 index
index-none image index empty items =
    record {
      size = ap length items;
      last = λ x. subst (λ (o : Option ℕ). IsLast image 0 x o) (sym (nothing x)) refl;
      before =
          λ k r o at found. absurd (none_at k o (ap (λ xs. slice_get xs k) (sym items) ∙ found));
    }
  where
    nothing : (x : Label) → tree.get by_name index.last x ≡ None
    nothing x = ap (λ es. lookup (tree.is_at (by_name x)) es) empty

    none_at : (k : ℕ) (o : Option ℕ) → slice_get [] k ≡ Some o → ⊥
    none_at k o e = cc
