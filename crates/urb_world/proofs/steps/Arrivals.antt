-- An arrival preserves what holds for all nodes.
use Rattle.urb_world.proofs.Common.{AcksKept, Again, Answered, Bool, Cause, Cert, Content, Entry}
use Rattle.urb_world.proofs.Common.{Flags, Grows, Label, Limits, List, MayJoin, Node, NodeKept}
use Rattle.urb_world.proofs.Common.{None, Noted, Option, Pend, PendCert, Same, Some, [], acked}
use Rattle.urb_world.proofs.Common.{and_from, and_parts, answers, ap, arrives, cert, cond}
use Rattle.urb_world.proofs.Common.{cond_both, counts, eqb-true, false, has_name, has_pair}
use Rattle.urb_world.proofs.Common.{has_pair-found, has_pair-itself, has_pair-left, in_range, inl}
use Rattle.urb_world.proofs.Common.{inr, is_none, is_some, kept-range, majority_grows}
use Rattle.urb_world.proofs.Common.{majority_passes, message_of, no_pair, none_found, not}
use Rattle.urb_world.proofs.Common.{not-false, or_cases, packet_from, pend, pend-append, refl}
use Rattle.urb_world.proofs.Common.{reply_to, same_name, same_name-true, says_certified, some_found}
use Rattle.urb_world.proofs.Common.{subst, sym, true, updated, with_ack, ℕ, ⊎_elim, ◌&&◌, ◌++◌}
use Rattle.urb_world.proofs.Common.{◌==◌, ◌||◌, ◌∙◌, ◌∷◌, ◌≡◌, ◌⊎◌}
use Rattle.std.proofs.lemmas.Bool.{not-true}
use Rattle.urb_world.proofs.steps.ArrivalCases.{any-heard, told_node}
use Rattle.urb_world.proofs.steps.DraftedRecords.{AllKept, agree, leads-drafts, to_sender}
use Rattle.urb_world.proofs.steps.OneNodeStep.{Leads, leads-same, updated-at}
use Rattle.urb_stable.specs.Fitting.{known_held}

module _ (size : Limits) (images : ℕ → List Entry) (all : AllKept size images) (p q : ℕ)
    (records : List Entry) (here : images p ≡ records)
    (x : Label) (m : Content) (true_pair : has_pair (pend (images q)) x m ≡ true) where
  abbrev with_record : Entry → ℕ → List Entry
  with_record r = updated images p (records ++ r ∷ [])

  -- what a node holds, it still holds when the record has joined
  with_record-grows : (r : Entry) → Grows images (with_record r)
  with_record-grows r i y o = at (i == p) refl
    where
      at : (b : Bool) → (i == p) ≡ b → has_pair (pend (images i)) y o ≡ true
          → has_pair (pend (cond b (records ++ r ∷ []) (images i))) y o ≡ true
      at true e h =
          subst (λ (ps : List (Label × Content)). has_pair ps y o ≡ true)
          (sym (pend-append records (r ∷ [])))
          (has_pair-left (pend records) (pend (r ∷ [])) y o
          (subst (λ (rs : List Entry). has_pair (pend rs) y o ≡ true)
          (ap images (eqb-true i p e) ∙ here) h))
      at false e h = h

  ranges : in_range size x ≡ true
  ranges = kept-range size images q (images q) (all q) x m true_pair

  module _ (none : message_of (pend records) x ≡ None) where
    other_a : (in_range size x && is_none (message_of (pend records) x)) ≡ true
    other_a = and_from (in_range size x) _ ranges (ap is_none none)

    -- otherwise its sender would hold it
    not_own : (x.sender == p) ≡ true → ⊥
    not_own e =
        no_pair (pend records) x m none
        (subst (λ (rs : List Entry). has_pair (pend rs) x m ≡ true)
        (ap images (eqb-true x.sender p e) ∙ here) (to_sender size images all q x m true_pair))

    other_b : (b : Bool) → cond (x.sender == p) b true ≡ true
    other_b b = at (x.sender == p) refl
      where
        at : (c : Bool) → (x.sender == p) ≡ c → cond c b true ≡ true
        at true e = absurd (not_own e)
        at false e = refl

    other_c : (r : Entry) → cond (x.sender == p) true (has_pair (pend (with_record r x.sender)) x m)
        ≡ true
    other_c r = at (x.sender == p)
      where
        at : (c : Bool) → cond c true (has_pair (pend (with_record r x.sender)) x m) ≡ true
        at true = refl
        at false = with_record-grows r x.sender x m (to_sender size images all q x m true_pair)

    joins-other : MayJoin size images p records (Pend x m)
    joins-other = record { a = other_a; b = other_b _; c = other_c (Pend x m); d = refl }

    joins-other_certified : majority_passes size.n (λ z. (z == p) || (z == q)) ≡ true
        → MayJoin size images p records (PendCert x m)
    joins-other_certified most =
        record {
          a = other_a;
          b = other_b _;
          c = other_c (PendCert x m);
          d =
              majority_grows size.n (λ z. (z == p) || (z == q))
              (λ z. has_pair (pend (with_record (PendCert x m) z)) x m) holds most;
        }
      where
        holds : (z : ℕ) → ((z == p) || (z == q)) ≡ true
            → has_pair (pend (with_record (PendCert x m) z)) x m ≡ true
        holds z h =
            ⊎_elim
            (λ e. subst (λ (i : ℕ). has_pair (pend (with_record (PendCert x m) i)) x m ≡ true)
            (sym (eqb-true z p e))
            (subst (λ (rs : List Entry). has_pair (pend rs) x m ≡ true)
            (sym (updated-at images p (records ++ PendCert x m ∷ [])))
            (subst (λ (ps : List (Label × Content)). has_pair ps x m ≡ true)
            (sym (pend-append records (PendCert x m ∷ [])))
            (has_pair-itself (pend records) x m))))
            (λ e. subst (λ (i : ℕ). has_pair (pend (with_record (PendCert x m) i)) x m ≡ true)
            (sym (eqb-true z q e)) (with_record-grows (PendCert x m) q x m true_pair))
            (or_cases (z == p) (z == q) h)

  -- a counted node is an earlier one or q
  counted : (acks : List (Label × ℕ)) (y : Label) (z : ℕ) → acked (with_ack acks x q) y z ≡ true
      → (acked acks y z ≡ true) ⊎ ((x ≡ y) × (q ≡ z))
  counted acks y z = at (acked acks x q)
    where
      at : (b : Bool) → acked (cond b acks ((x, q) ∷ acks)) y z ≡ true
          → (acked acks y z ≡ true) ⊎ ((x ≡ y) × (q ≡ z))
      at true h = inl h
      at false h =
          ⊎_elim (λ e. let parts = and_parts (same_name x y) (q == z) e in
          inr (same_name-true x y parts.0, eqb-true q z parts.1)) (λ e. inl e)
          (or_cases (same_name x y && (q == z)) (acked acks y z) h)

  module _ (o : Content) (found : message_of (pend records) x ≡ Some o) (acks : List (Label × ℕ))
      (acks_kept : AcksKept images records acks) where
    same : o ≡ m
    same =
        agree size images all p q x o m
        (subst (λ (rs : List Entry). has_pair (pend rs) x o ≡ true) (sym here)
        (has_pair-found (pend records) x o found)) true_pair

    acks-after : AcksKept images records (with_ack acks x q)
    acks-after y z c h =
        ⊎_elim (λ e. acks_kept y z c e)
        (λ e. subst (λ (w : Label). (v : Content) × (message_of (pend records) w ≡ Some v)
        × (has_pair (pend (images z)) w v ≡ true)) e.0 (
          o,
          found,
          subst (λ (i : ℕ). has_pair (pend (images i)) x o ≡ true) e.1
              (subst (λ (v : Content). has_pair (pend (images q)) x v ≡ true) (sym same) true_pair),
        ))
        (counted acks y z h)

    joins-certificate : (not (has_name (cert records) x)) ≡ true
        → majority_passes size.n (acked (with_ack acks x q) x) ≡ true
        → MayJoin size images p records (Cert x)
    joins-certificate new most =
        record {
          a =
              and_from (in_range size x) _ ranges
              (and_from (is_some (message_of (pend records) x)) _ (ap is_some found) new);
          b = refl;
          c = refl;
          d = ap (known_held size.n (with_record (Cert x)) x) found
              ∙ majority_grows size.n (acked (with_ack acks x q) x)
              (λ z. has_pair (pend (with_record (Cert x) z)) x o) holds most;
        }
      where
        holds : (z : ℕ) → acked (with_ack acks x q) x z ≡ true
            → has_pair (pend (with_record (Cert x) z)) x o ≡ true
        holds z h =
            let k = acks-after x z (not-true (has_name (cert records) x) new) h in
            let e : Some k.0 ≡ Some o = sym k.1 ∙ found in
            let f : k.0 ≡ o = cc in
            with_record-grows (Cert x) z x o
            (subst (λ (v : Content). has_pair (pend (images z)) x v ≡ true) f k.2)

-- the arrival of a message that the packet's source has stored preserves the rules
pub leads-arrives : (size : Limits) (images : ℕ → List Entry) → AllKept size images
    → (p q : ℕ) (x : Label) (m : Content) (flags : Option Flags) (node : Node)
    → images p ≡ node.records → NodeKept size images p node
    → has_pair (pend (images q)) x m ≡ true → Leads size images p (arrives size p q x m flags node)
leads-arrives size images all p q x m flags node e k t =
    cond_both (is_none (message_of (pend node.records) x)) _ _ (Leads size images p)
    (λ none. cond_both (majority_passes size.n (λ z. (z == p) || (z == q))) _ _
    (Leads size images p)
    (λ most. leads-drafts size images p node (PendCert x m) cause e k
    (joins-other_certified size images all p q node.records e x m t (none_found _ none) most) t)
    (λ _. leads-drafts size images p node (Pend x m) cause e k
    (joins-other size images all p q node.records e x m t (none_found _ none)) t))
    (λ some. cond_both (not (has_name (cert node.records) x)) _ _ (Leads size images p)
    (λ new. any-heard (λ told. Leads size images p (counts size q x flags told)) q x flags node
    (pending new (found some)))
    (λ old. any-heard (λ told. Leads size images p (answers p q x m flags told)) q x flags node
    (certified (not-false (has_name (cert node.records) x) old) (found some) flags)))
  where
    cause : Option Cause
    cause = Some (packet_from q (says_certified flags))

    found : is_none (message_of (pend node.records) x) ≡ false
        → (o : Content) × (message_of (pend node.records) x ≡ Some o)
    found h =
        some_found (message_of (pend node.records) x)
        (not-false (is_some (message_of (pend node.records) x)) h)

    -- the node, with other certificates heard and these nodes counted
    told_kept : (acks heard : List (Label × ℕ)) → AcksKept images node.records acks
        → NodeKept size images p (told_node node acks heard)
    told_kept acks heard after = record
        { kept = k.kept; state = k.state; acks = after; broadcast = k.broadcast }

    pending : not (has_name (cert node.records) x) ≡ true
        → (o : Content) × (message_of (pend node.records) x ≡ Some o) → (heard : List (Label × ℕ))
        → Leads size images p (counts size q x flags (record node { heard = heard }))
    pending new o heard =
        let kept =
        told_kept (with_ack node.acks x q) heard
        (acks-after size images all p q node.records e x m t o.0 o.1 node.acks k.acks) in
        cond_both (majority_passes size.n (acked (with_ack node.acks x q) x)) _ _
        (Leads size images p)
        (λ most. leads-drafts size images p (told_node node (with_ack node.acks x q) heard)
        (Cert x) cause e kept
        (joins-certificate size images all p q node.records e x m t o.0 o.1 node.acks k.acks new
        most) tt)
        (λ _. cond_both (acked node.acks x q) _ _ (Leads size images p)
        (λ _. leads-same size images p
        (Same (Again x), told_node node (with_ack node.acks x q) heard) e kept tt)
        (λ _. leads-same size images p
        (Same (Noted x), told_node node (with_ack node.acks x q) heard) e kept tt))

    -- the answer is about the pair that is stored here, and its certificate
    certified : has_name (cert node.records) x ≡ true
        → (o : Content) × (message_of (pend node.records) x ≡ Some o)
        → (flags : Option Flags) (heard : List (Label × ℕ))
        → Leads size images p (answers p q x m flags (record node { heard = heard }))
    certified c o None heard =
        leads-same size images p (Same (Again x), told_node node node.acks heard) e
        (told_kept node.acks heard k.acks) tt
    certified c o (Some f) heard =
        cond_both f.heard _ _ (Leads size images p)
        (λ _. leads-same size images p (Same (Again x), told_node node node.acks heard) e
        (told_kept node.acks heard k.acks) tt)
        (λ _. leads-same size images p (
          Same (Answered x (reply_to p q x m (record node { heard = heard }) ∷ [])),
          told_node node node.acks heard,
        ) e (told_kept node.acks heard k.acks)
        (record { source = refl; pair = held; certificate = λ _. c }, tt))
      where
        held : has_pair (pend node.records) x m ≡ true
        held =
            has_pair-found (pend node.records) x m
            (o.1 ∙ ap Some (same size images all p q node.records e x m t o.0 o.1 node.acks k.acks))
