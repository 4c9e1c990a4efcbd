-- Visiting the records with one name, from the last one to the first.
use Rattle.urb_stable.proofs.Common.{Bool, Content, Entry, IsIndexOf, IsLast, Label, List, None}
use Rattle.urb_stable.proofs.Common.{Option, Places, Some, [], ap, arith, by_name, false, has_pair}
use Rattle.urb_stable.proofs.Common.{is_some, length, message_of, name_of, option_map, option_or}
use Rattle.urb_stable.proofs.Common.{pend, refl, slice_get, subst, suc, sym, take, take_all, true}
use Rattle.urb_stable.proofs.Common.{ℕ, ◌<◌, ◌||◌, ◌∙◌, ◌∷◌, ◌≡◌, ◌≤◌}
use Rattle.urb_stable.proofs.IndexGrowth.{none-has, same_some}
use Rattle.std.specs.BTreeMap as tree

-- the greatest number of records still to visit
abbrev pub left : Option ℕ → ℕ
left None = 0
left (Some k) = suc k

-- the walk is at the last pair with the name among the first n records
pub record Stands (image : List Entry) (x : Label) (n : ℕ) (place : Option ℕ) : Type 0 where
  -- the n records are in the image
  pub within : n ≤ length image
  -- the place is that of the name's last pair among them
  pub last : IsLast image n x place

-- the place at which the walk stands is within the image
pub stands-within : (image : List Entry) (x : Label) (n k : ℕ) → Stands image x n (Some k)
    → k < length image
stands-within image x n k s =
    let below = s.last.below in let high = s.within in omega (arith, below, high)

-- the walk begins at the index's place for the name
pub stands-first : {A : Type 0} (image : List Entry) (x : Label) (index : Places A) (o : Option ℕ)
    → IsIndexOf image (length image) index → o ≡ tree.get by_name index.last x
    → Stands image x (length image) o
stands-first image x index o h e =
    record {
      within = omega arith;
      last =
          subst (λ (p : Option ℕ). IsLast image (length image) x p) (sym e) (h.last x);
    }

-- a walk from a record with the name begins at the last pair before that record
pub stands-before : {A : Type 0} (image : List Entry) (x : Label) (index : Places A) (k : ℕ)
    (r : Entry) (o : Option ℕ) → IsIndexOf image (length image) index → k < length image
    → slice_get image k ≡ Some r → name_of r ≡ x → slice_get index.before.items k ≡ Some o
    → Stands image x k o
stands-before image x index k r o h within here named found =
    record {
      within = omega (arith, within);
      last =
          subst (λ (y : Label). IsLast image k y o) named (h.before k r o here found);
    }

-- from each place, the walk continues at the last pair before it
pub stands-next : {A : Type 0} (image : List Entry) (x : Label) (index : Places A) (n k : ℕ)
    (r : Entry) (o : Option ℕ) → IsIndexOf image (length image) index → Stands image x n (Some k)
    → slice_get image k ≡ Some r → slice_get index.before.items k ≡ Some o
    → Stands image x k o
stands-next image x index n k r o h s here found =
    stands-before image x index k r o h (stands-within image x n k s) here
    (ap name_of (same_some r s.last.entry (slice_get image k) here s.last.here) ∙ s.last.named)
    found

-- a walk among the first k records has at most k records still to visit
pub left-less : (image : List Entry) (x : Label) (k : ℕ) (o : Option ℕ) → Stands image x k o
    → left o < suc k
left-less image x k None s = omega arith
left-less image x k (Some j) s = let below = s.last.below in omega (arith, below)

-- ---- a walk that looks for a pair

-- the image has the pair exactly if the records still to visit have it
abbrev pub Seeks : List Entry → Label → Content → Option ℕ → Type 0
Seeks image x m place =
    (n : ℕ) × Stands image x n place
    × (has_pair (pend image) x m ≡ has_pair (pend (take n image)) x m)

-- a walk begins at the name's last pair in the image
pub seeks-first : {A : Type 0} (image : List Entry) (x : Label) (m : Content) (index : Places A)
    (o : Option ℕ) → IsIndexOf image (length image) index → o ≡ tree.get by_name index.last x
    → Seeks image x m o
seeks-first image x m index o h e = (
  length image,
  stands-first image x index o h e,
  ap (λ rs. has_pair (pend rs) x m) (sym (take_all (length image) image (omega arith))),
)

seen : (image : List Entry) (x : Label) (m : Content) (n k : ℕ) (r : Entry)
    → Stands image x n (Some k) → slice_get image k ≡ Some r
    → has_pair (pend (take n image)) x m
    ≡ (has_pair (pend (take k image)) x m || has_pair (pend (r ∷ [])) x m)
seen image x m n k r s here =
    s.last.pairs m ∙ ap (λ e. has_pair (pend (take k image)) x m || has_pair (pend (e ∷ [])) x m)
    (same_some s.last.entry r (slice_get image k) s.last.here here)

-- if the record at which the walk stands has the pair, the image has it
pub seeks-found : (image : List Entry) (x : Label) (m : Content) (k : ℕ) (r : Entry)
    → Seeks image x m (Some k) → slice_get image k ≡ Some r → true ≡ has_pair (pend (r ∷ [])) x m
    → true ≡ has_pair (pend image) x m
seeks-found image x m k r s here e =
    sym (s.2 ∙ (seen image x m s.0 k r s.1 here
    ∙ (ap (λ b. has_pair (pend (take k image)) x m || b) (sym e)
    ∙ at (has_pair (pend (take k image)) x m))))
  where
    at : (b : Bool) → (b || true) ≡ true
    at true = cc
    at false = cc

-- if the record doesn't have the pair, the walk goes on to the name's pair before it
pub seeks-next : {A : Type 0} (image : List Entry) (x : Label) (m : Content) (index : Places A)
    (k : ℕ) (r : Entry) (o : Option ℕ) → IsIndexOf image (length image) index
    → Seeks image x m (Some k) → slice_get image k ≡ Some r → false ≡ has_pair (pend (r ∷ [])) x m
    → slice_get index.before.items k ≡ Some o → Seeks image x m o
seeks-next image x m index k r o h s here e found = (
  k,
  stands-next image x index s.0 k r o h s.1 here found,
  s.2 ∙ (seen image x m s.0 k r s.1 here
      ∙ (ap (λ b. has_pair (pend (take k image)) x m || b) (sym e)
      ∙ at (has_pair (pend (take k image)) x m))),
)
  where
    at : (b : Bool) → (b || false) ≡ b
    at true = cc
    at false = cc

-- if the walk is at its end, the image doesn't have the pair
pub seeks-end : (image : List Entry) (x : Label) (m : Content) → Seeks image x m None
    → false ≡ has_pair (pend image) x m
seeks-end image x m s = sym (s.2 ∙ none-has (pend (take s.0 image)) x m s.1.last)

-- ---- a walk that looks for the first message of a name

-- the name's message before this place is found among the records still to visit, or else is the
-- one found last
abbrev pub Looks : List Entry → Label → ℕ → Option Content → Option ℕ → Type 0
Looks image x before found place =
    (n : ℕ) × Stands image x n place
    × (message_of (pend (take before image)) x ≡ option_or
    (message_of (pend (take n image)) x) found)

or-none : (o : Option Content) → o ≡ option_or o None
or-none None = refl
or-none (Some m) = refl

-- a walk from a record begins at the last pair with its name before it
pub looks-first : {A : Type 0} (image : List Entry) (x : Label) (index : Places A) (k : ℕ)
    (r : Entry) (o : Option ℕ) → IsIndexOf image (length image) index → k < length image
    → slice_get image k ≡ Some r → name_of r ≡ x → slice_get index.before.items k ≡ Some o
    → Looks image x k None o
looks-first image x index k r o h within here named found = (
  k,
  stands-before image x index k r o h within here named found,
  or-none (message_of (pend (take k image)) x),
)

-- a walk takes the message of the record that it visits, and goes on to the name's pair before it
pub looks-next : {A : Type 0} (image : List Entry) (x : Label) (index : Places A) (before k : ℕ)
    (r : Entry) (old new : Option Content) (o : Option ℕ) → IsIndexOf image (length image) index
    → Looks image x before old (Some k) → slice_get image k ≡ Some r
    → new ≡ message_of (pend (r ∷ [])) x → slice_get index.before.items k ≡ Some o
    → Looks image x before new o
looks-next image x index before k r old new o h s here is found =
    let last = s.1.last in
    let same : last.entry ≡ r = same_some last.entry r (slice_get image k) last.here here in
    let some : is_some (message_of (pend (r ∷ [])) x) ≡ true =
    subst (λ (e : Entry). is_some (message_of (pend (e ∷ [])) x) ≡ true) same last.pair in
    let message : message_of (pend (take s.0 image)) x ≡ option_or
    (message_of (pend (take k image)) x) (message_of (pend (r ∷ [])) x) =
    subst (λ (e : Entry). message_of (pend (take s.0 image)) x ≡ option_or
    (message_of (pend (take k image)) x) (message_of (pend (e ∷ [])) x)) same last.message in (
      k,
      stands-next image x index s.0 k r o h s.1 here found,
      s.2
          ∙ (ap (λ p. option_or p old) message
          ∙ (at (message_of (pend (take k image)) x) (message_of (pend (r ∷ [])) x) some
          ∙ ap (λ p. option_or (message_of (pend (take k image)) x) p) (sym is))),
    )
  where
    at : (a b : Option Content) → is_some b ≡ true → option_or (option_or a b) old ≡ option_or a b
    at (Some m) b e = refl
    at None (Some m) e = refl
    at None None e = absurd cc

-- at a walk's end, the message that it took last is the name's first one before the record
pub looks-end : (image : List Entry) (x : Label) (before : ℕ) (found : Option Content)
    → Looks image x before found None → found ≡ message_of (pend (take before image)) x
looks-end image x before found s = sym (s.2 ∙ ap (λ p. option_or p found) s.1.last)

-- if a name is read at a place, a record with that name stands there
pub named-found : (image : List Entry) (k : ℕ) (x : Label)
    → option_map name_of (slice_get image k) ≡ Some x
    → (r : Entry) × (slice_get image k ≡ Some r) × (name_of r ≡ x)
named-found image k x e = at (slice_get image k) refl e
  where
    at : (o : Option Entry) → slice_get image k ≡ o → option_map name_of o ≡ Some x
        → (r : Entry) × (slice_get image k ≡ Some r) × (name_of r ≡ x)
    at None here f = absurd cc
    at (Some r) here f = (r, here, cc)
