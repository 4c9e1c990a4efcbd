-- What a node's memory must say once one more record is stored.
use Rattle.urb_node.proofs.Common.{Bool, Cause, Cert, Content, Entry, IsNext, KeepsOwn, Label}
use Rattle.urb_node.proofs.Common.{Limits, List, Node, NodeView, None, Option, Pend, PendCert}
use Rattle.urb_node.proofs.Common.{Ready, ShowsNode, Some, [], acked, acks_after, ap, append-nil}
use Rattle.urb_node.proofs.Common.{ap₂, are_rising, arith, broadcast_after, cert, cert-append}
use Rattle.urb_node.proofs.Common.{comes_up, cond, done, false, has_name, has_pair, heard_after}
use Rattle.urb_node.proofs.Common.{heard_of, is_accepted, keeps_record, length, length-append, log}
use Rattle.urb_node.proofs.Common.{name_of, own, own_acks, packets_of, pend, refl, released}
use Rattle.urb_node.proofs.Common.{reverse, self_acks, subst, suc, sym, true, with_ack, with_heard}
use Rattle.urb_node.proofs.Common.{ℕ, ◌++◌, ◌+◌, ◌-◌, ◌==◌, ◌||◌, ◌∙◌, ◌∷◌, ◌≡◌}
use Rattle.urb_names.proofs.FoundPairs.{own-other, own-push}
use Rattle.urb_node.proofs.NextRecords.{next-keeps}
use Rattle.urb_node.proofs.ShownNodes.{shown-self, with-same}
use Rattle.urb_node.specs.Steps.{with_cause}
use Rattle.urb_stable.proofs.JoinedRecords.{pend-append}
use Rattle.urb_stable.proofs.LogGrowth.{released-joined}
use Rattle.urb_stable.proofs.OwnRules.{keeps_own-push, names-joined, pairs-joined}

-- the memory `new` says what `view` said, and the record
pub record SaysMore (view new : NodeView) (r : Entry) : Type 0 where
  -- it has the pairs from before, and the record's
  pub pairs : (x : Label) (m : Content)
      → has_pair new.pairs x m ≡ (has_pair view.pairs x m || has_pair (pend (r ∷ [])) x m)
  -- it has the certified names from before, and the record's
  pub certified : (x : Label) → has_name new.certified x
      ≡ (has_name view.certified x || has_name (cert (r ∷ [])) x)
  -- its log is that of the earlier records followed by this one
  pub log : (records : List Entry) → view.log ≡ log records
      → ((x : Label) → has_name view.certified x ≡ has_name (cert records) x)
      → new.log ≡ log (records ++ r ∷ [])
  -- it counts one record more
  pub count : new.count ≡ suc view.count

-- ---- the log

-- the log stays if the record certifies nothing
pub log-stays : (view : NodeView) (log_after : List Label) (r : Entry) → cert (r ∷ []) ≡ []
    → log_after ≡ view.log
    → (records : List Entry) → view.log ≡ log records
    → ((x : Label) → has_name view.certified x ≡ has_name (cert records) x)
    → log_after ≡ log (records ++ r ∷ [])
log-stays view log_after r nothing e records l h =
    e ∙ (l ∙ ap (λ xs. released (reverse xs))
    (sym (cert-append records (r ∷ [])
    ∙ (ap (λ xs. cert records ++ xs) nothing ∙ append-nil (cert records)))))

-- the log of a memory that keeps its certificates, newest first, is their release
pub log-released : (view : NodeView) (log_after certificates : List Label) (r : Entry) (x : Label)
    → cert (r ∷ []) ≡ x ∷ [] → view.log ≡ released certificates
    → ((y : Label) → has_name certificates y ≡ has_name view.certified y)
    → log_after ≡ released (x ∷ certificates)
    → (records : List Entry) → view.log ≡ log records
    → ((y : Label) → has_name view.certified y ≡ has_name (cert records) y)
    → log_after ≡ log (records ++ r ∷ [])
log-released view log_after certificates r x one before same e records l h =
    e ∙ released-joined certificates records r x one (sym before ∙ l) (λ y. same y ∙ h y)

-- ---- acknowledgements

cause-same : (a b : List (Label × ℕ)) (y : Label) (cause : Option Cause) (x : Label) (q : ℕ)
    → acked a x q ≡ acked b x q → acked (with_cause a y cause) x q ≡ acked
    (with_cause b y cause) x q
cause-same a b y None x q e = e
cause-same a b y (Some cause) x q e = with-same a b y cause.source x q e

-- what is counted after a record depends only on what was counted before
after-same : (p : ℕ) (r : Entry) (cause : Option Cause) (a b : List (Label × ℕ)) (x : Label) (q : ℕ)
    → acked a x q ≡ acked b x q → acked (acks_after p r cause a) x q ≡ acked
    (acks_after p r cause b) x q
after-same p (Pend y m) cause a b x q e =
    cause-same (with_ack a y p) (with_ack b y p) y cause x q (with-same a b y p x q e)
after-same p (PendCert y m) cause a b x q e =
    cause-same (with_ack a y p) (with_ack b y p) y cause x q (with-same a b y p x q e)
after-same p (Cert y) cause a b x q e = e

-- what is heard after a record depends only on what was heard before
with_heard-same : (a b : List (Label × ℕ)) (y : Label) (o : Option ℕ) (x : Label) (q : ℕ)
    → acked a x q ≡ acked b x q → acked (with_heard a y o) x q ≡ acked (with_heard b y o) x q
with_heard-same a b y None x q e = e
with_heard-same a b y (Some z) x q e = with-same a b y z x q e

heard-same : (r : Entry) (cause : Option Cause) (a b : List (Label × ℕ)) (x : Label) (q : ℕ)
    → acked a x q ≡ acked b x q → acked (heard_after r cause a) x q ≡ acked
    (heard_after r cause b) x q
heard-same (Pend y m) cause a b x q e = with_heard-same a b y (heard_of cause) x q e
heard-same (PendCert y m) cause a b x q e = with_heard-same a b y (heard_of cause) x q e
heard-same (Cert y) cause a b x q e = e

-- ---- the broadcasts

-- once a record is stored, a node's broadcasts are still its own pending messages
pub own-after : (p : ℕ) (records : List Entry) (r : Entry) (messages : List Content)
    → messages ≡ own p (pend records)
    → broadcast_after p r messages ≡ own p (pend (records ++ r ∷ []))
own-after p records r messages e = ap (broadcast_after p r) e ∙ over r
  where
    pair : (x : Label) (m : Content)
        → cond (x.sender == p) (own p (pend records) ++ m ∷ []) (own p (pend records)) ≡ own p
        (pend records ++ (x, m) ∷ [])
    pair x m = at (x.sender == p) refl
      where
        at : (b : Bool) → (x.sender == p) ≡ b
            → cond b (own p (pend records) ++ m ∷ []) (own p (pend records)) ≡ own p
            (pend records ++ (x, m) ∷ [])
        at true f = sym (own-push p (pend records) x m f)
        at false f = sym (own-other p (pend records) x m f)

    over : (r : Entry) → broadcast_after p r (own p (pend records)) ≡ own p
        (pend (records ++ r ∷ []))
    over (Pend x m) = pair x m ∙ ap (own p) (sym (pend-append records (Pend x m ∷ [])))
    over (PendCert x m) = pair x m ∙ ap (own p) (sym (pend-append records (PendCert x m ∷ [])))
    over (Cert x) = ap (own p) (sym (pend-append records (Cert x ∷ []) ∙ append-nil (pend records)))

-- ---- the node

-- A memory that says more shows a node with one more record. Its state, cursor, acknowledgements
-- and what it heard must be that node's.
pub joined-shows : (size : Limits) (p : ℕ) (view new : NodeView) (node after : Node) (r : Entry)
    → ShowsNode size p view node
    → are_rising view.pairs ≡ true → IsNext size p view.pairs view.certified r → SaysMore view new r
    → after.records ≡ node.records ++ r ∷ [] → after.broadcast ≡ broadcast_after p r node.broadcast
    → new.state ≡ after.state → new.cursor ≡ after.cursor
    → ((x : Label) (q : ℕ) → has_name new.certified x ≡ false
    → acked new.acks x q ≡ acked after.acks x q)
    → ((x : Label) (q : ℕ) → acked new.heard x q ≡ acked after.heard x q)
    → ShowsNode size p new after
joined-shows size p view new node after r s rise next more records broadcast state cursor acks
    heard =
    record {
      pairs =
          λ x m. more.pairs x m ∙ (pairs-joined node.records r view.pairs s.pairs x m
          ∙ ap (λ rs. has_pair (pend rs) x m) (sym records));
      certified = all_certified;
      log = more.log node.records s.log s.certified ∙ ap log (sym records);
      count =
          more.count ∙ (ap suc s.count ∙ (sym
          (length-append node.records (r ∷ []) ∙ one (length node.records))
          ∙ ap length (sym records)));
      state = state;
      cursor = cursor;
      acks = λ x q c. acks x q (all_certified x ∙ c);
      heard = heard;
      rules =
          subst (λ (rs : List Entry). KeepsOwn size p [] rs) (sym records)
          (let k = next-keeps size p view node r s rise next in
          keeps_own-push size p [] node.records r s.rules k.0 k.1);
      broadcast =
          broadcast ∙ (own-after p node.records r node.broadcast s.broadcast
          ∙ ap (λ rs. own p (pend rs)) (sym records));
    }
  where
    one : (n : ℕ) → n + 1 ≡ suc n
    one n = omega arith

    all_certified : (x : Label) → has_name new.certified x ≡ has_name (cert after.records) x
    all_certified x =
        more.certified x ∙ (names-joined node.records r view.certified s.certified x
        ∙ ap (λ rs. has_name (cert rs) x) (sym records))

-- The held record is stored.
pub confirm-shows : (size : Limits) (p : ℕ) (view new : NodeView) (node : Node) (r : Entry)
    (cause : Option Cause) → ShowsNode size p view node
    → are_rising view.pairs ≡ true → IsNext size p view.pairs view.certified r → SaysMore view new r
    → new.state ≡ Ready → new.cursor ≡ view.cursor
    → ((x : Label) (q : ℕ) → has_name new.certified x ≡ false
    → acked new.acks x q ≡ acked (acks_after p r cause view.acks) x q)
    → ((x : Label) (q : ℕ) → acked new.heard x q ≡ acked (heard_after r cause view.heard) x q)
    → ShowsNode size p new (keeps_record p r cause node)
confirm-shows size p view new node r cause s rise next more state cursor acks heard =
    joined-shows size p view new node
    (keeps_record p r cause node) r s rise next more refl refl state (cursor ∙ s.cursor)
    (λ x q c. acks x q c ∙ after-same p r cause view.acks node.acks x q (s.acks x q (before x c)))
    (λ x q. heard x q ∙ heard-same r cause view.heard node.heard x q (s.heard x q))
  where
    before : (x : Label) → has_name new.certified x ≡ false → has_name (cert node.records) x ≡ false
    before x c =
        sym (s.certified x) ∙ left (has_name view.certified x) (has_name (cert (r ∷ [])) x)
        (sym (more.certified x) ∙ c)
      where
        left : (a b : Bool) → (a || b) ≡ false → a ≡ false
        left true b g = g
        left false b g = refl

-- the effect that is reported for a stored record can be computed from the memory
pub done-shown : (size : Limits) (n p : ℕ) (view new : NodeView) (node : Node) (r : Entry)
    (cause : Option Cause) → ShowsNode size p view node → SaysMore view new r
    → done n p r cause node ≡ record {
      accepted = is_accepted p r;
      name = name_of r;
      sent = packets_of n p r cause;
      released =
          length new.log - length view.log;
    }
done-shown size n p view new node r cause s more =
    ap₂ (λ (after before : List Label).
    record {
      accepted = is_accepted p r;
      name = name_of r;
      sent =
          packets_of n p r cause;
      released = length after - length before;
    })
    (sym (more.log node.records s.log s.certified)) (sym s.log)

-- A node comes up with what it had stored.
pub up-shows : (size : Limits) (p : ℕ) (view new : NodeView) (node : Node)
    → ShowsNode size p view node
    → ((x : Label) (q : ℕ) → has_name view.certified x ≡ false
    → acked new.acks x q ≡ acked (self_acks p view.pairs) x q)
    → new ≡ record view { state = Ready; acks = new.acks; heard = []; cursor = None }
    → ShowsNode size p new (comes_up p node.records node.broadcast).1
up-shows size p view new node s acks e =
    subst (λ (v : NodeView). ShowsNode size p v (comes_up p node.records node.broadcast).1) (sym e)
    (record {
      pairs = s.pairs;
      certified = s.certified;
      log = s.log;
      count = s.count;
      state = refl;
      cursor = refl;
      acks = λ x q c. acks x q (s.certified x ∙ c) ∙ shown-self size p view node s x q;
      heard = λ x q. refl;
      rules = s.rules;
      broadcast = s.broadcast;
    })

-- A node comes up with the doubtful record, which counts as stored.
pub up-joined-shows : (size : Limits) (p : ℕ) (view new : NodeView) (node : Node) (r : Entry)
    → ShowsNode size p view node
    → are_rising view.pairs ≡ true → IsNext size p view.pairs view.certified r → SaysMore view new r
    → new.state ≡ Ready → new.cursor ≡ None
    → ((x : Label) (q : ℕ) → has_name new.certified x ≡ false
    → acked new.acks x q ≡ acked (self_acks p new.pairs) x q)
    → new.heard ≡ [] → ShowsNode size p new
    (comes_up p (node.records ++ r ∷ []) (broadcast_after p r node.broadcast)).1
up-joined-shows size p view new node r s rise next more state cursor acks nothing =
    joined-shows size p view new node
    (comes_up p (node.records ++ r ∷ []) (broadcast_after p r node.broadcast)).1 r s rise next
    more refl refl state cursor
    (λ x q c. acks x q c ∙ shown-self size p plain after shown x q) unheard
  where
    -- the same memory, with exactly these acknowledgements
    plain : NodeView
    plain = record new { acks = own_acks p (node.records ++ r ∷ []) }

    after : Node
    after = (comes_up p (node.records ++ r ∷ []) (broadcast_after p r node.broadcast)).1

    unheard : (x : Label) (q : ℕ) → acked new.heard x q ≡ acked [] x q
    unheard x q = ap (λ heard. acked heard x q) nothing

    shown : ShowsNode size p plain after
    shown =
        joined-shows size p view plain node after r s rise next
        (record {
          pairs = more.pairs;
          certified = more.certified;
          log = more.log;
          count =
              more.count;
        }) refl refl state cursor (λ x q c. refl) unheard
