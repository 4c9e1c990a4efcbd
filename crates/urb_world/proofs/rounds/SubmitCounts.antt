-- A submit that is drafted: with the new record taken as stored, the node has counted what it had,
-- and itself for the new name.
use Rattle.urb_world.proofs.Common.{Content, Entry, IsDone, IsNew, Label, Limits, List, Node}
use Rattle.urb_world.proofs.Common.{NodeKept, None, Pend, PendCert, Reply, Some, [], acked}
use Rattle.urb_world.proofs.Common.{acks_after, and_parts, arith, broadcast_after, cert, cond-true}
use Rattle.urb_world.proofs.Common.{drafts, eq-eqb, eqb-true, false, false_from_ne_true, false≢true}
use Rattle.urb_world.proofs.Common.{has_name, heard_after, is_node, keeps_record, kept-held}
use Rattle.urb_world.proofs.Common.{kept-numbered, length, ltb-true, majority_passes, message_of}
use Rattle.urb_world.proofs.Common.{name, nat_lt, next_name, or_cases, own, pend, refl, submits}
use Rattle.urb_world.proofs.Common.{submits-cases, subst, suc, sym, true, with_ack, ℕ, ⊎_elim, ◌++◌}
use Rattle.urb_world.proofs.Common.{◌==◌, ◌||◌, ◌∙◌, ◌∷◌, ◌≡◌}
use Rattle.urb_world.proofs.hearing.CountedNodes.{acked-itself}
use Rattle.urb_world.proofs.recovery.CountedArrivals.{Counts, certified-last, certifies-itself}
use Rattle.urb_world.proofs.recovery.CountedArrivals.{counted, few, pair_settles}
use Rattle.urb_world.proofs.rounds.OtherNodes.{another}
use Rattle.urb_world.proofs.rounds.WholeNodes.{Further, further-itself, whole, whole-ready}
use Rattle.urb_world.proofs.steps.Growth.{begins-push}
use Rattle.urb_names.proofs.Places.{get_none}

-- a node is no majority by itself, unless it is alone
one-is-few : (n p : ℕ) → is_node n p ≡ true → (n == 1) ≡ false
    → majority_passes n (λ z. (z == p) || (z == p)) ≡ false
one-is-few n p is many =
    false_from_ne_true _ (λ most. ⊎_elim
    (λ other. absurd (false≢true (sym other.2 ∙ eq-eqb p other.0
    (sym (eqb-true other.0 p (⊎_elim (λ e. e) (λ e. e)
    (or_cases (other.0 == p) (other.0 == p) other.1)))))))
    (λ l. let parts = and_parts (nat_lt 0 p) (nat_lt p (suc n)) is in
    let low = ltb-true 0 p parts.0 in let high = ltb-true p (suc n) parts.1 in
    absurd (false≢true (sym many ∙ eq-eqb n 1 (omega (arith, l, low, high)))))
    (another (λ z. (z == p) || (z == p)) p n most))

module _ (size : Limits) (images : ℕ → List Entry) (p : ℕ) (m : Content) (node : Node)
    (k : NodeKept size images p node) where
  abbrev x : Label
  x = next_name p node

  -- the name is new at the node
  fresh : message_of (pend node.records) x ≡ None
  fresh =
      subst (λ (ms : List Content). message_of (pend node.records) (name p (suc (length ms)))
      ≡ None) (sym k.broadcast)
      (kept-numbered size images p node.records k.kept (length (own p (pend node.records)))
      ∙ get_none (own p (pend node.records)) (length (own p (pend node.records))) (omega arith))

  not-certified : has_name (cert node.records) x ≡ false
  not-certified =
      false_from_ne_true _ (λ h.
      let found = kept-held size images p node.records k.kept x h in
      let same : None ≡ Some found.0 = sym fresh ∙ found.1 in absurd cc)

  -- a node that counts itself twice counts itself once
  same-acks : counted size p p x m None images node fresh k.acks ≡ with_ack node.acks x p
  same-acks =
      cond-true (acked (with_ack node.acks x p) x p) _ _ (acked-itself node.acks x p)

  drafted : (r : Entry) → pend (r ∷ []) ≡ (x, m) ∷ []
      → acks_after p r None node.acks ≡ with_ack node.acks x p
      → (has_name (cert (node.records ++ r ∷ [])) x ≡ false
      → majority_passes size.n (acked (counted size p p x m None images node fresh k.acks) x)
      ≡ false)
      → Further size.n node (keeps_record p r None (drafts node r None).1)
  drafted r e acks uncertified =
      record {
        counts = λ y z h.
            subst (λ (list : List (Label × ℕ)). Counts size.n (node.records ++ r ∷ []) list y z)
            (same-acks ∙ sym acks)
            ((pair_settles size p p x m None images node fresh k.acks r
            (heard_after r None node.heard) (broadcast_after p r node.broadcast) e
            uncertified).others y z h);
        records = begins-push node.records r;
      }

  -- what a node has counted before a submit that isn't refused, it has counted after it
  pub submit-further : is_node size.n p ≡ true → IsDone (submits size p m node).0
      → Further size.n (whole p node) (whole p (submits size p m node).1)
  submit-further is =
      submits-cases Goes size p m node (λ r d. absurd d)
      (λ first a d. further-itself size.n (whole p node))
      (λ new one d. from new (drafted (PendCert x m) refl refl
      (λ e. absurd (false≢true (sym e
      ∙ certified-last node.records (PendCert x m) x (certifies-itself x))))))
      (λ new many d. from new (drafted (Pend x m) refl refl
      (λ _. few size p p x m None images node fresh k.acks (one-is-few size.n p is many)
      not-certified)))
    where
      Goes : Reply × Node → Type 0
      Goes o = IsDone o.0 → Further size.n (whole p node) (whole p o.1)

      from : {new : Node} → IsNew size m node → Further size.n node new
          → Further size.n (whole p node) new
      from {new} is-new f =
          subst (λ (old : Node). Further size.n old new)
          (sym (whole-ready p node is-new.ready)) f
