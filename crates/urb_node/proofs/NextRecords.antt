-- Which drafts are next: of a submit, of an arrival, and of a certificate; and an image's records.
use Rattle.urb_node.proofs.Common.{Bool, Cert, Content, Entry, IsNext, KeepsOwn, Label, Limits}
use Rattle.urb_node.proofs.Common.{List, MayArrive, Node, NodeView, None, Pend, PendCert, ShowsNode}
use Rattle.urb_node.proofs.Common.{Some, [], and_from, ap, append_assoc, are_rising, arith}
use Rattle.urb_node.proofs.Common.{cases_Bool, cert, cond, cond-false, cond-true, eq-eqb, eqb-true}
use Rattle.urb_node.proofs.Common.{false, false≢true, has_name, in_range, inr, is_none, is_some}
use Rattle.urb_node.proofs.Common.{length, lt-ltb, map, message_of, name, names, nat_lt}
use Rattle.urb_node.proofs.Common.{next_number, not, own, part_of, pend, refl, same_name, subst}
use Rattle.urb_node.proofs.Common.{suc, sym, true, ℕ, ⊎_elim, ◌&&◌, ◌++◌, ◌<◌, ◌==◌, ◌||◌, ◌∙◌, ◌∷◌}
use Rattle.urb_node.proofs.Common.{◌≡◌, ◌≤◌}
use Rattle.urb_names.proofs.FoundPairs.{no_pair}
use Rattle.urb_names.proofs.LogRows.{has-row-not, has_name-part}
use Rattle.urb_node.proofs.ShownNodes.{shown-broadcast, shown-found}
use Rattle.urb_stable.specs.Fitting.{is_in_turn, is_new_to, is_next_own, keeps_a, keeps_b}
use Rattle.urb_node.proofs.ImageComparisons.{in_range_is}

-- ---- new names

-- a name that no pair has is not pending
pub not_pending : (pairs : List (Label × Content)) (x : Label)
    → has_name (map (λ pair. pair.0) pairs) x ≡ false → message_of pairs x ≡ None
not_pending [] x h = refl
not_pending (pair ∷ pairs) x h = at (not_pending pairs x) (same_name pair.0 x) h
  where
    at : (has_name (map (λ pair. pair.0) pairs) x ≡ false → message_of pairs x ≡ None) → (b : Bool)
        → (b || has_name (map (λ pair. pair.0) pairs) x) ≡ false
        → cond b (Some pair.1) (message_of pairs x) ≡ None
    at ih true k = absurd (false≢true (sym k))
    at ih false k = ih k

-- if a node's own names are numbered 1, 2, 3, .., the next one is not pending
pub next_own-fresh : (p : ℕ) (pairs : List (Label × Content))
    → part_of p (map (λ pair. pair.0) pairs) ≡ names p (length (own p pairs))
    → message_of pairs (name p (suc (length (own p pairs)))) ≡ None
next_own-fresh p pairs h =
    not_pending pairs (name p (suc (length (own p pairs))))
    (sym (has_name-part p (suc (length (own p pairs))) (map (λ pair. pair.0) pairs))
    ∙ (ap (λ xs. has_name xs (name p (suc (length (own p pairs))))) h
    ∙ has-row-not p 1 (length (own p pairs)) (suc (length (own p pairs))) (inr (omega arith))))

-- ---- drafts

-- a submit's draft: the node's next name, and the next number of its client
pub submit-next : (size : Limits) (p : ℕ) (pairs : List (Label × Content)) (certified : List Label)
    (m : Content) → p ≤ size.n → length (own p pairs) < size.cap
    → m.number ≡ next_number m.client (own p pairs)
    → message_of pairs (name p (suc (length (own p pairs)))) ≡ None
    → IsNext size p pairs certified (Pend (name p (suc (length (own p pairs)))) m)
    × IsNext size p pairs certified (PendCert (name p (suc (length (own p pairs)))) m)
submit-next size p pairs certified m is room number fresh =
    (record { new = new; in_turn = in_turn }, record { new = new; in_turn = in_turn })
  where
    new : (in_range size (name p (suc (length (own p pairs))))
        && is_none (message_of pairs (name p (suc (length (own p pairs)))))) ≡ true
    new =
        and_from (in_range size (name p (suc (length (own p pairs))))) _
        (and_from (nat_lt p (suc size.n)) _ (lt-ltb p (suc size.n) (omega arith))
        (lt-ltb (suc (length (own p pairs))) (suc size.cap) (omega arith)))
        (ap is_none fresh)

    in_turn : cond (p == p) (is_next_own (own p pairs) (name p (suc (length (own p pairs)))) m) true
        ≡ true
    in_turn =
        cond-true (p == p) _ _ (eq-eqb p p refl)
        ∙ and_from (suc (length (own p pairs)) == suc (length (own p pairs))) _
        (eq-eqb (suc (length (own p pairs))) (suc (length (own p pairs))) refl)
        (eq-eqb m.number _ number)

-- An arrival's draft: the name is not pending. So it is not the node's own, because an own name
-- comes only with the message that is pending.
pub arrival-next : (size : Limits) (p : ℕ) (pairs : List (Label × Content)) (certified : List Label)
    (x : Label) (m : Content) → MayArrive size p pairs x m → message_of pairs x ≡ None
    → IsNext size p pairs certified (Pend x m) × IsNext size p pairs certified (PendCert x m)
arrival-next size p pairs certified x m may fresh =
    (record { new = new; in_turn = in_turn }, record { new = new; in_turn = in_turn })
  where
    new : (in_range size x && is_none (message_of pairs x)) ≡ true
    new = and_from (in_range size x) _ (in_range_is size x may.sender may.seq) (ap is_none fresh)

    other : (x.sender == p) ≡ false
    other =
        ⊎_elim (λ e. absurd (no_pair pairs x m fresh (may.mine (eqb-true x.sender p e)))) (λ e. e)
        (cases_Bool (x.sender == p))

    in_turn : cond (x.sender == p) (is_next_own (own p pairs) x m) true ≡ true
    in_turn = cond-false (x.sender == p) _ _ other

-- a certificate's draft: the name is pending and not certified
pub certificate-next : (size : Limits) (p : ℕ) (pairs : List (Label × Content))
    (certified : List Label) (x : Label) → x.sender ≤ size.n → x.seq ≤ size.cap
    → is_some (message_of pairs x) ≡ true → has_name certified x ≡ false
    → IsNext size p pairs certified (Cert x)
certificate-next size p pairs certified x s q pending open_ =
    record {
      new =
          and_from (in_range size x) _ (in_range_is size x s q)
          (and_from (is_some (message_of pairs x)) _ pending (ap not open_));
      in_turn = refl;
    }

-- a record that is next meets rules A and B after the records of the node that the memory shows
pub next-keeps : (size : Limits) (p : ℕ) (view : NodeView) (node : Node) (r : Entry)
    → ShowsNode size p view node → are_rising view.pairs ≡ true
    → IsNext size p view.pairs view.certified r
    → (keeps_a size node.records r ≡ true) × (keeps_b p node.records r ≡ true)
next-keeps size p view node r s rise next = (
  over r next.new,
  ap (λ ms. is_in_turn p ms r)
      (sym s.broadcast ∙ shown-broadcast size p view node s rise) ∙ next.in_turn,
)
  where
    over : (r : Entry) → is_new_to size view.pairs view.certified r ≡ true
        → keeps_a size node.records r ≡ true
    over (Pend x m) h =
        ap (λ o. in_range size x && is_none o) (sym (shown-found size p view node s x)) ∙ h
    over (PendCert x m) h =
        ap (λ o. in_range size x && is_none o) (sym (shown-found size p view node s x)) ∙ h
    over (Cert x) h =
        ap (λ o. in_range size x && (is_some o && not (has_name (cert node.records) x)))
        (sym (shown-found size p view node s x))
        ∙ (ap (λ b. in_range size x && (is_some (message_of view.pairs x) && not b))
        (sym (s.certified x)) ∙ h)

-- a record that meets these rules there is next
pub keeps-next : (size : Limits) (p : ℕ) (view : NodeView) (node : Node) (r : Entry)
    → ShowsNode size p view node → are_rising view.pairs ≡ true
    → keeps_a size node.records r ≡ true → keeps_b p node.records r ≡ true
    → IsNext size p view.pairs view.certified r
keeps-next size p view node r s rise a b =
    record {
      new = over r a;
      in_turn =
          ap (λ ms. is_in_turn p ms r) (sym (shown-broadcast size p view node s rise) ∙ s.broadcast) ∙ b;
    }
  where
    over : (r : Entry) → keeps_a size node.records r ≡ true
        → is_new_to size view.pairs view.certified r ≡ true
    over (Pend x m) h =
        ap (λ o. in_range size x && is_none o) (shown-found size p view node s x) ∙ h
    over (PendCert x m) h =
        ap (λ o. in_range size x && is_none o) (shown-found size p view node s x) ∙ h
    over (Cert x) h =
        ap (λ o. in_range size x && (is_some o && not (has_name view.certified x)))
        (shown-found size p view node s x)
        ∙ (ap (λ b. in_range size x && (is_some (message_of (pend node.records) x) && not b))
        (s.certified x) ∙ h)

-- ---- an image

-- if records keep the rules of one image, those before a record keep them, and so does it
pub own-parts : (size : Limits) (p : ℕ) (earlier before : List Entry) (r : Entry)
    (behind : List Entry) → KeepsOwn size p earlier (before ++ r ∷ behind)
    → (KeepsOwn size p earlier before × (keeps_a size (earlier ++ before) r ≡ true))
    × (keeps_b p (earlier ++ before) r ≡ true)
own-parts size p earlier [] r behind h = (
  (tt, subst (λ (e : List Entry). keeps_a size e r ≡ true) (sym (nothing earlier)) h.0),
  subst (λ (e : List Entry). keeps_b p e r ≡ true) (sym (nothing earlier)) h.1,
)
  where
    nothing : (xs : List Entry) → xs ++ [] ≡ xs
    nothing [] = refl
    nothing (x ∷ xs) = ap (λ ys. x ∷ ys) (nothing xs)
own-parts size p earlier (first ∷ before) r behind h =
    let rest = own-parts size p (earlier ++ first ∷ []) before r behind h.2 in (
      (
        (h.0, h.1, rest.0.0),
        subst (λ (e : List Entry). keeps_a size e r ≡ true)
            (append_assoc earlier (first ∷ []) before) rest.0.1,
      ),
      subst (λ (e : List Entry). keeps_b p e r ≡ true)
          (append_assoc earlier (first ∷ []) before) rest.1,
    )
