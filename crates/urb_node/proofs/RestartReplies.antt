-- A restart in terms of a node's memory: the reply, and the node that the memory shows afterwards.
use Rattle.urb_node.proofs.Common.{Cert, Down, Entry, IsNext, Label, Limits, List, Node, NodeView}
use Rattle.urb_node.proofs.Common.{None, Option, Pend, PendCert, Ready, Refused, Reply, ShowsNode}
use Rattle.urb_node.proofs.Common.{Some, [], acked, and_from, and_parts, ap, ap₂, are_rising}
use Rattle.urb_node.proofs.Common.{broadcast_after, comes_up, cond-false, cond-true, false}
use Rattle.urb_node.proofs.Common.{false≢true, has_name, refl, refuses, restarts, restarts_with}
use Rattle.urb_node.proofs.Common.{same_message, same_message-same, same_name, same_name-same}
use Rattle.urb_node.proofs.Common.{same_name-true, same_record, says, self_acks, subst, sym, tells}
use Rattle.urb_node.proofs.Common.{true, ℕ, ◌++◌, ◌∙◌, ◌∷◌, ◌≡◌}
use Rattle.urb_names.proofs.SameNames.{same_message-true}
use Rattle.urb_node.proofs.JoinedMemory.{SaysMore, joined-shows, up-joined-shows, up-shows}
use Rattle.urb_node.proofs.ShownNodes.{shown-told}
use Rattle.urb_node.specs.Replies.{Up}
use Rattle.urb_names.specs.declared.refusal.Refusal.TheVariants as refusal

-- this is the reply of a node's part of a step, and the memory holds the node after it
abbrev pub Gives : Limits → ℕ → Reply × Node → Reply → NodeView → Type 0
Gives size p outcome reply view = (outcome.0 ≡ reply) × ShowsNode size p view outcome.1

-- ---- records

-- each record is the same as itself
pub same_record-same : (r : Entry) → same_record r r ≡ true
same_record-same (Pend x m) = and_from (same_name x x) _ (same_name-same x) (same_message-same m)
same_record-same (PendCert x m) =
    and_from (same_name x x) _ (same_name-same x) (same_message-same m)
same_record-same (Cert x) = same_name-same x

-- two records that are the same by the test are equal
pub same_record-true : (a b : Entry) → same_record a b ≡ true → a ≡ b
same_record-true (Pend x m) (Pend y o) h =
    let parts = and_parts (same_name x y) (same_message m o) h in
    ap₂ Pend (same_name-true x y parts.0) (same_message-true m o parts.1)
same_record-true (Pend x m) (PendCert y o) h = absurd (false≢true h)
same_record-true (Pend x m) (Cert y) h = absurd (false≢true h)
same_record-true (PendCert x m) (Pend y o) h = absurd (false≢true h)
same_record-true (PendCert x m) (PendCert y o) h =
    let parts = and_parts (same_name x y) (same_message m o) h in
    ap₂ PendCert (same_name-true x y parts.0) (same_message-true m o parts.1)
same_record-true (PendCert x m) (Cert y) h = absurd (false≢true h)
same_record-true (Cert x) (Pend y o) h = absurd (false≢true h)
same_record-true (Cert x) (PendCert y o) h = absurd (false≢true h)
same_record-true (Cert x) (Cert y) h = ap Cert (same_name-true x y h)

-- ---- restart

-- the image says what is stored
pub restart-call : (size : Limits) (p : ℕ) (view new : NodeView) (node : Node)
    (doubtful : Option Entry) (image : List Entry) → ShowsNode size p view node
    → view.state ≡ Down doubtful
    → tells image view.pairs view.certified view.log view.count ≡ true
    → ((x : Label) (q : ℕ) → has_name view.certified x ≡ false
    → acked new.acks x q ≡ acked (self_acks p view.pairs) x q)
    → new ≡ record view { state = Ready; acks = new.acks; heard = []; cursor = None }
    → Gives size p (restarts p image node node.state) (Up p) new
restart-call size p view new node doubtful image s down told acks e =
    subst (λ (outcome : Reply × Node). Gives size p outcome (Up p) new)
    (sym (ap (restarts p image node) (sym s.state ∙ down) ∙ over doubtful))
    (refl, up-shows size p view new node s acks e)
  where
    said : says image node.records ≡ true
    said = sym (shown-told size p view node s image) ∙ told

    over : (o : Option Entry) → restarts_with p image node o
        ≡ comes_up p node.records node.broadcast
    over None = cond-true (says image node.records) _ _ said
    over (Some r) = cond-true (says image node.records) _ _ said

-- what an image says about a memory with one more record
joined-told : (size : Limits) (p : ℕ) (view joined : NodeView) (node : Node) (r : Entry)
    (image : List Entry) → ShowsNode size p view node → are_rising view.pairs ≡ true
    → IsNext size p view.pairs view.certified r
    → SaysMore view joined r → tells image joined.pairs joined.certified joined.log joined.count
    ≡ says image (node.records ++ r ∷ [])
joined-told size p view joined node r image s rise next more =
    shown-told size p joined after
    (joined-shows size p view joined node after r s rise next more refl refl refl refl
    (λ x q c. refl) (λ x q. refl)) image
  where
    after : Node
    after = record {
      records = node.records ++ r ∷ [];
      state = joined.state;
      acks =
          joined.acks;
      heard = joined.heard;
      cursor = joined.cursor;
      broadcast =
          broadcast_after p r node.broadcast;
    }

-- the image says what is stored, followed by the doubtful record
pub restart-joined-call : (size : Limits) (p : ℕ) (view new : NodeView) (node : Node) (r : Entry)
    (image : List Entry) → ShowsNode size p view node → view.state ≡ Down (Some r)
    → are_rising view.pairs ≡ true → IsNext size p view.pairs view.certified r → SaysMore view new r
    → tells image view.pairs view.certified view.log view.count ≡ false
    → tells image new.pairs new.certified new.log new.count ≡ true
    → new.state ≡ Ready → new.cursor ≡ None
    → ((x : Label) (q : ℕ) → has_name new.certified x ≡ false
    → acked new.acks x q ≡ acked (self_acks p new.pairs) x q)
    → new.heard ≡ [] → Gives size p (restarts p image node node.state) (Up p) new
restart-joined-call size p view new node r image s down rise next more old told state cursor acks
    nothing =
    subst (λ (outcome : Reply × Node). Gives size p outcome (Up p) new) (sym same)
    (refl, up-joined-shows size p view new node r s rise next more state cursor acks nothing)
  where
    same : restarts p image node node.state ≡ comes_up p (node.records ++ r ∷ [])
        (broadcast_after p r node.broadcast)
    same =
        ap (restarts p image node) (sym s.state ∙ down)
        ∙ (cond-false (says image node.records) _ _
        (sym (shown-told size p view node s image) ∙ old)
        ∙ cond-true (says image (node.records ++ r ∷ [])) _ _
        (sym (joined-told size p view new node r image s rise next more) ∙ told))

-- the image says neither of these
pub bad_image-call : (size : Limits) (p : ℕ) (view : NodeView) (node : Node) (image : List Entry)
    → ShowsNode size p view node → view.state ≡ Down None
    → tells image view.pairs view.certified view.log view.count ≡ false
    → Gives size p (restarts p image node node.state) (Refused refusal.BadImage) view
bad_image-call size p view node image s down old =
    subst (λ (outcome : Reply × Node). Gives size p outcome (Refused refusal.BadImage) view)
    (sym (ap (restarts p image node) (sym s.state ∙ down)
    ∙ cond-false (says image node.records) _ _
    (sym (shown-told size p view node s image) ∙ old))) (refl, s)

-- a restart is refused as BadImage if its image says neither the records nor these with the
-- doubtful one
pub bad_image-joined-call : (size : Limits) (p : ℕ) (view joined : NodeView) (node : Node)
    (r : Entry) (image : List Entry) → ShowsNode size p view node → view.state ≡ Down (Some r)
    → are_rising view.pairs ≡ true → IsNext size p view.pairs view.certified r
    → SaysMore view joined r
    → tells image view.pairs view.certified view.log view.count ≡ false
    → tells image joined.pairs joined.certified joined.log joined.count ≡ false
    → Gives size p (restarts p image node node.state) (Refused refusal.BadImage) view
bad_image-joined-call size p view joined node r image s down rise next more old new =
    subst (λ (outcome : Reply × Node). Gives size p outcome (Refused refusal.BadImage) view)
    (sym same) (refl, s)
  where
    same : restarts p image node node.state ≡ refuses node refusal.BadImage
    same =
        ap (restarts p image node) (sym s.state ∙ down)
        ∙ (cond-false (says image node.records) _ _
        (sym (shown-told size p view node s image) ∙ old)
        ∙ cond-false (says image (node.records ++ r ∷ [])) _ _
        (sym (joined-told size p view joined node r image s rise next more) ∙ new))
