-- Adding a record to the stored ones preserves what holds for all nodes.
use Rattle.urb_world.proofs.Common.{AcksKept, AreFrom, Bool, Cause, Cert, Content, Entry, Grows}
use Rattle.urb_world.proofs.Common.{IsCaused, Kept, Label, Limits, List, MayJoin, Node, NodeKept}
use Rattle.urb_world.proofs.Common.{None, Option, Pend, PendCert, Rules, Some, [], acked}
use Rattle.urb_world.proofs.Common.{acks_after, and_parts, any_left, any_right, ap, append-nil}
use Rattle.urb_world.proofs.Common.{broadcast_after, cert, cert-append, cond, eqb-true, false}
use Rattle.urb_world.proofs.Common.{false_from_ne_true, false≢true, has_name, has_pair}
use Rattle.urb_world.proofs.Common.{has_pair-found, has_pair-left, heard_of, in_range, is_none}
use Rattle.urb_world.proofs.Common.{kept-push, map, message_of, message_of-more, message_of-new}
use Rattle.urb_world.proofs.Common.{none_found, or_cases, or_left, own, own-other, own-push, pend}
use Rattle.urb_world.proofs.Common.{pend-append, refl, same_name, same_name-same, same_name-true}
use Rattle.urb_world.proofs.Common.{subst, sym, true, updated, with_ack, with_cause, ℕ, ⊎_elim}
use Rattle.urb_world.proofs.Common.{◌&&◌, ◌++◌, ◌==◌, ◌||◌, ◌∙◌, ◌∷◌, ◌≡◌}
use Rattle.urb_world.proofs.steps.OneNodeStep.{updated-at}
use Rattle.urb_names.proofs.SentPairs.{to_others-from}
use Rattle.urb_names.specs.CarriedPackets.{to_others}
use Rattle.urb_node.specs.Part.{own_acks}
use Rattle.urb_node.specs.Steps.{packets_of}
use Rattle.urb_stable.proofs.KeptRules.{kept-grow}

-- one more acknowledgement of a pair that is pending here
acks-with : (images : ℕ → List Entry) (records : List Entry) (acks : List (Label × ℕ)) (x : Label)
    (m : Content) (q : ℕ) → AcksKept images records acks
    → message_of (pend records) x ≡ Some m → has_pair (pend (images q)) x m ≡ true
    → AcksKept images records (with_ack acks x q)
acks-with images records acks x m q h found held y z c = at (acked acks x q)
  where
    at : (b : Bool) → acked (cond b acks ((x, q) ∷ acks)) y z ≡ true
        → (v : Content) × (message_of (pend records) y ≡ Some v)
        × (has_pair (pend (images z)) y v ≡ true)
    at true e = h y z c e
    at false e =
        ⊎_elim
        (λ f. let parts = and_parts (same_name x y) (q == z) f in
        subst (λ (w : Label). (v : Content) × (message_of (pend records) w ≡ Some v)
        × (has_pair (pend (images z)) w v ≡ true)) (same_name-true x y parts.0) (
          m,
          found,
          subst (λ (i : ℕ). has_pair (pend (images i)) x m ≡ true)
              (eqb-true q z parts.1) held,
        ))
        (λ f. h y z c f)
        (or_cases (same_name x y && (q == z)) (acked acks y z) e)

-- a node's own acknowledgements of its pending pairs
own_acked : (ps : List (Label × Content)) (p : ℕ) (x : Label) (q : ℕ)
    → acked (map (λ pair. (pair.0, p)) ps) x q ≡ true
    → (m : Content) × (message_of ps x ≡ Some m) × (p ≡ q)
own_acked [] p x q h = absurd (false≢true h)
own_acked (pair ∷ ps) p x q h = at (own_acked ps p x q) (same_name pair.0 x) h
  where
    at : (acked (map (λ pair. (pair.0, p)) ps) x q ≡ true
        → (m : Content) × (message_of ps x ≡ Some m) × (p ≡ q)) → (b : Bool)
        → ((b && (p == q)) || acked (map (λ pair. (pair.0, p)) ps) x q) ≡ true
        → (m : Content) × (cond b (Some pair.1) (message_of ps x) ≡ Some m) × (p ≡ q)
    at ih true e = (
      pair.1,
      refl,
      ⊎_elim (λ f. eqb-true p q f) (λ f. (ih f).2)
          (or_cases (p == q) (acked (map (λ pair. (pair.0, p)) ps) x q) e),
    )
    at ih false e = ih e

-- a node's own acknowledgements of its pending names are true: it has stored these messages
pub own_acks-kept : (images : ℕ → List Entry) (p : ℕ) (records : List Entry) → images p ≡ records
    → AcksKept images records (own_acks p records)
own_acks-kept images p records here x q c h =
    let k = own_acked (pend records) p x q h in (
      k.0,
      k.1,
      subst (λ (i : ℕ). has_pair (pend (images i)) x k.0 ≡ true) k.2
          (subst (λ (rs : List Entry). has_pair (pend rs) x k.0 ≡ true) (sym here)
          (has_pair-found (pend records) x k.0 k.1)),
    )

module _ (size : Limits) (images : ℕ → List Entry) (p : ℕ) (node : Node)
    (here : images p ≡ node.records) (k : NodeKept size images p node) (r : Entry)
    (join : MayJoin size images p node.records r) where
  abbrev joined : List Entry
  joined = node.records ++ r ∷ []

  abbrev after : ℕ → List Entry
  after = updated images p joined

  pairs_stay : (x : Label) (m : Content) → has_pair (pend node.records) x m ≡ true
      → has_pair (pend joined) x m ≡ true
  pairs_stay x m h =
      subst (λ (ps : List (Label × Content)). has_pair ps x m ≡ true)
      (sym (pend-append node.records (r ∷ [])))
      (has_pair-left (pend node.records) (pend (r ∷ [])) x m h)

  -- each pair that the node had stored is still stored once the record is added
  pub joined-grows : (x : Label) (m : Content) → has_pair (pend (images p)) x m ≡ true
      → has_pair (pend joined) x m ≡ true
  joined-grows x m h =
      pairs_stay x m (subst (λ (rs : List Entry). has_pair (pend rs) x m ≡ true) here h)

  after-grows : Grows images after
  after-grows q x m = at (q == p) refl
    where
      at : (b : Bool) → (q == p) ≡ b → has_pair (pend (images q)) x m ≡ true
          → has_pair (pend (cond b joined (images q))) x m ≡ true
      at true e h =
          joined-grows x m (subst (λ (i : ℕ). has_pair (pend (images i)) x m ≡ true)
          (eqb-true q p e) h)
      at false e h = h

  -- each name that the node had certified is still certified once the record is added
  pub joined-certified : (x : Label) → has_name (cert (images p)) x ≡ true
      → has_name (cert joined) x ≡ true
  joined-certified x h =
      subst (λ (xs : List Label). has_name xs x ≡ true) (sym (cert-append node.records (r ∷ [])))
      (any_left _ (cert node.records) (cert (r ∷ []))
      (subst (λ (rs : List Entry). has_name (cert rs) x ≡ true) here h))

  -- the node's records meet the rules once a record is added that may join them
  pub joined-kept : Kept size after p [] joined
  joined-kept =
      kept-push size after p [] node.records r
      (kept-grow size images after p [] node.records after-grows k.kept) join

  -- what is not certified now was not before
  certified-before : (x : Label) → has_name (cert joined) x ≡ false
      → has_name (cert node.records) x ≡ false
  certified-before x c =
      false_from_ne_true _ (λ h. false≢true
      (sym c ∙ joined-certified x (subst (λ (rs : List Entry). has_name (cert rs) x ≡ true)
      (sym here) h)))

  old-acks : AcksKept after joined node.acks
  old-acks x q c h =
      let a = k.acks x q (certified-before x c) h in (
        a.0,
        ap (λ ps. message_of ps x) (pend-append node.records (r ∷ []))
            ∙ message_of-more (pend node.records) (pend (r ∷ [])) x a.0 a.1,
        after-grows q x a.0 a.2,
      )

  -- a pair that joins
  module _ (x : Label) (m : Content) (adds : pend joined ≡ pend node.records ++ (x, m) ∷ [])
      (fresh : message_of (pend node.records) x ≡ None) where
    pair-found : message_of (pend joined) x ≡ Some m
    pair-found = ap (λ ps. message_of ps x) adds ∙ message_of-new (pend node.records) x m fresh

    pair-acks : (cause : Option Cause)
        → ((c : Cause) → cause ≡ Some c → has_pair (pend (images c.source)) x m ≡ true)
        → AcksKept after joined (with_cause (with_ack node.acks x p) x cause)
    pair-acks cause held = at cause held
      where
        own_ack : AcksKept after joined (with_ack node.acks x p)
        own_ack =
            acks-with after joined node.acks x m p old-acks pair-found
            (subst (λ (rs : List Entry). has_pair (pend rs) x m ≡ true)
            (sym (updated-at images p joined)) (has_pair-found (pend joined) x m pair-found))

        at : (cause : Option Cause) → ((c : Cause) → cause ≡ Some c
            → has_pair (pend (images c.source)) x m ≡ true)
            → AcksKept after joined (with_cause (with_ack node.acks x p) x cause)
        at None h = own_ack
        at (Some c) h =
            acks-with after joined (with_ack node.acks x p) x m c.source own_ack pair-found
            (after-grows c.source x m (h c refl))

    pair-broadcast : cond (x.sender == p) (node.broadcast ++ m ∷ []) node.broadcast ≡ own p
        (pend joined)
    pair-broadcast = at (x.sender == p) refl ∙ ap (own p) (sym adds)
      where
        at : (b : Bool) → (x.sender == p) ≡ b
            → cond b (node.broadcast ++ m ∷ []) node.broadcast ≡ own p
            (pend node.records ++ (x, m) ∷ [])
        at true e = ap (λ ms. ms ++ m ∷ []) k.broadcast ∙ sym (own-push p (pend node.records) x m e)
        at false e = k.broadcast ∙ sym (own-other p (pend node.records) x m e)

    pair-sent : (n : ℕ) (is_certified : Bool) (heard : Option ℕ)
        → (is_certified ≡ true → has_name (cert joined) x ≡ true)
        → AreFrom p (pend joined) (cert joined) (to_others n p is_certified heard (x, m))
    pair-sent n is_certified heard told =
        to_others-from n p (pend joined) (cert joined) is_certified heard (x, m)
        (has_pair-found (pend joined) x m pair-found) told

-- the record of a pair finds no earlier one
fresh-pend : (size : Limits) (images : ℕ → List Entry) (p : ℕ) (records : List Entry) (x : Label)
    (m : Content) → Rules size images p records (Pend x m) → message_of (pend records) x ≡ None
fresh-pend size images p records x m h =
    none_found _ (and_parts (in_range size x) (is_none (message_of (pend records) x)) h.a).1

fresh-certified : (size : Limits) (images : ℕ → List Entry) (p : ℕ) (records : List Entry)
    (x : Label) (m : Content) → Rules size images p records (PendCert x m)
    → message_of (pend records) x ≡ None
fresh-certified size images p records x m h =
    none_found _ (and_parts (in_range size x) (is_none (message_of (pend records) x)) h.a).1

caused-by : (images : ℕ → List Entry) (x : Label) (m : Content) (cause : Option Cause)
    → IsCaused images (Pend x m) cause → (c : Cause) → cause ≡ Some c
    → has_pair (pend (images c.source)) x m ≡ true
caused-by images x m None h c e = cc
caused-by images x m (Some first) h c e =
    let f : first ≡ c = cc in subst
    (λ (d : Cause). has_pair (pend (images d.source)) x m ≡ true) f h

caused-by_certified : (images : ℕ → List Entry) (x : Label) (m : Content) (cause : Option Cause)
    → IsCaused images (PendCert x m) cause → IsCaused images (Pend x m) cause
caused-by_certified images x m None h = tt
caused-by_certified images x m (Some i) h = h

-- once the record is stored, the node's broadcasts are still its own pending messages in order
pub joined-broadcast : (size : Limits) (images : ℕ → List Entry) (p : ℕ) (node : Node)
    → images p ≡ node.records → NodeKept size images p node → (r : Entry)
    → MayJoin size images p node.records r
    → broadcast_after p r node.broadcast ≡ own p (pend (node.records ++ r ∷ []))
joined-broadcast size images p node e k (Pend x m) j =
    pair-broadcast size images p node e k (Pend x m) j x m
    (pend-append node.records (Pend x m ∷ [])) (fresh-pend size _ p node.records x m j)
joined-broadcast size images p node e k (PendCert x m) j =
    pair-broadcast size images p node e k (PendCert x m) j x m
    (pend-append node.records (PendCert x m ∷ [])) (fresh-certified size _ p node.records x m j)
joined-broadcast size images p node e k (Cert x) j =
    k.broadcast ∙ ap (own p) (sym
    (pend-append node.records (Cert x ∷ []) ∙ append-nil (pend node.records)))

-- once the record is stored, each node that is counted for a name holds the pending message
pub joined-acks : (size : Limits) (images : ℕ → List Entry) (p : ℕ) (node : Node)
    → images p ≡ node.records → NodeKept size images p node → (r : Entry) (cause : Option Cause)
    → MayJoin size images p node.records r
    → IsCaused images r cause → AcksKept (updated images p (node.records ++ r ∷ []))
    (node.records ++ r ∷ []) (acks_after p r cause node.acks)
joined-acks size images p node e k (Pend x m) cause j c =
    pair-acks size images p node e k (Pend x m) j x m (pend-append node.records (Pend x m ∷ []))
    (fresh-pend size _ p node.records x m j) cause (caused-by images x m cause c)
joined-acks size images p node e k (PendCert x m) cause j c =
    pair-acks size images p node e k (PendCert x m) j x m
    (pend-append node.records (PendCert x m ∷ []))
    (fresh-certified size _ p node.records x m j) cause
    (caused-by images x m cause (caused-by_certified images x m cause c))
joined-acks size images p node e k (Cert x) cause j c = old-acks size images p node e k (Cert x) j

-- the name of a record that is a certificate too is certified once it is stored
last-certified : (records : List Entry) (x : Label) (m : Content)
    → has_name (cert (records ++ PendCert x m ∷ [])) x ≡ true
last-certified records x m =
    subst (λ (xs : List Label). has_name xs x ≡ true)
    (sym (cert-append records (PendCert x m ∷ [])))
    (any_right _ (cert records) (x ∷ []) (or_left (same_name x x) false (same_name-same x)))

-- the packets of a stored record carry only pairs and certificates that the node has stored
pub joined-sent : (size : Limits) (images : ℕ → List Entry) (p : ℕ) (node : Node)
    → images p ≡ node.records → NodeKept size images p node → (r : Entry) (cause : Option Cause)
    → MayJoin size images p node.records r
    → (n : ℕ) → AreFrom p (pend (node.records ++ r ∷ [])) (cert (node.records ++ r ∷ []))
    (packets_of n p r cause)
joined-sent size images p node e k (Pend x m) cause j n =
    pair-sent size images p node e k (Pend x m) j x m (pend-append node.records (Pend x m ∷ []))
    (fresh-pend size _ p node.records x m j) n false (heard_of cause)
    (λ h. absurd (false≢true h))
joined-sent size images p node e k (PendCert x m) cause j n =
    pair-sent size images p node e k (PendCert x m) j x m
    (pend-append node.records (PendCert x m ∷ []))
    (fresh-certified size _ p node.records x m j) n true (heard_of cause)
    (λ _. last-certified node.records x m)
joined-sent size images p node e k (Cert x) cause j n = tt
