-- What the layers of a node hold once they have read the first records of its image.
use Rattle.urb_node.proofs.Common.{Bool, Cert, Content, Entry, Held, IsDelivery, IsHeld, IsNextHeld}
use Rattle.urb_node.proofs.Common.{IsPendingSet, KeepsOwn, Label, Limits, List, Memory, None, Pend}
use Rattle.urb_node.proofs.Common.{PendCert, Ready, ShowsNode, ShowsReady, [], acked, ap}
use Rattle.urb_node.proofs.Common.{append-nil, append_assoc, cert, cond, false, has_name, inserted}
use Rattle.urb_node.proofs.Common.{memory_of, name_lt, opened_node, ready_view, refl, same_name}
use Rattle.urb_node.proofs.Common.{self_acks, subst, sym, true, with_record, ℕ, ◌&&◌, ◌++◌, ◌==◌}
use Rattle.urb_node.proofs.Common.{◌||◌, ◌∙◌, ◌∷◌, ◌≡◌}
use Rattle.urb_node.proofs.ArrivalOutcomes.{counted-with}
use Rattle.urb_node.proofs.ReceiptResults.{first_held, released_held}
use Rattle.urb_node.proofs.JoinedMemory.{SaysMore}
use Rattle.urb_node.proofs.NextRecords.{keeps-next, own-parts}
use Rattle.urb_node.proofs.Openings.{nothing-shows, opened-more}
use Rattle.urb_node.proofs.RecordOutcomes.{record-more, same_limits}
use Rattle.urb_node.proofs.ShownNodes.{acked-with, shown-self}
use Rattle.urb_node.specs.NodeMemories.{new_memory}

-- the layers are this node's once it has read the records before, and these records are still to
-- read
pub record HasRead {A : Type 0} (limits : Limits) (p : ℕ) (records before behind : List Entry)
    (h : Held A) : Type 0 where
  -- the records are those that were read and those that are left
  pub list : before ++ behind ≡ records
  -- the layers belong together
  pub held : IsHeld h
  -- they have these limits
  pub limits_are : h.config ≡ limits
  -- they are node p's
  pub node_is : h.node ≡ p
  -- no certificate was heard
  pub unheard : h.resend.heard ≡ []
  -- the memory shows the node that is opened from the records that were read
  pub shows : ShowsReady (memory_of h) (opened_node h.node before)

-- layers that hold what a new node holds have read no record of the image yet
pub nothing-read : {A : Type 0} (limits : Limits) (p : ℕ) (records : List Entry) (h : Held A)
    → IsHeld h → memory_of h ≡ new_memory limits p → HasRead limits p records [] records h
nothing-read limits p records h held new =
    record {
      list = refl;
      held = held;
      limits_are = ap (λ (a : Memory). a.limits) new;
      node_is = ap (λ (a : Memory). a.node) new;
      unheard = ap (λ (a : Memory). a.heard) new;
      shows =
          subst (λ (a : Memory). ShowsReady a (opened_node a.node [])) (sym new)
          (nothing-shows limits p);
    }

-- a node's own acknowledgements with one more pair at its place
self-inserted : (p : ℕ) (pair : Label × Content) (ps : List (Label × Content)) (x : Label) (q : ℕ)
    → acked (self_acks p (inserted pair ps)) x q
    ≡ ((same_name pair.0 x && (p == q)) || acked (self_acks p ps) x q)
self-inserted p pair [] x q = refl
self-inserted p pair (first ∷ ps) x q = at (self-inserted p pair ps x q) (name_lt first.0 pair.0)
  where
    swap : (a b c : Bool) → (a || (b || c)) ≡ (b || (a || c))
    swap true true c = refl
    swap true false c = refl
    swap false true c = refl
    swap false false c = refl

    at : acked (self_acks p (inserted pair ps)) x q
        ≡ ((same_name pair.0 x && (p == q)) || acked (self_acks p ps) x q) → (b : Bool)
        → acked (self_acks p (cond b (first ∷ inserted pair ps) (pair ∷ first ∷ ps))) x q
        ≡ ((same_name pair.0 x && (p == q)) || acked (self_acks p (first ∷ ps)) x q)
    at ih true =
        ap (λ c. (same_name first.0 x && (p == q)) || c) ih
        ∙ swap (same_name first.0 x && (p == q)) (same_name pair.0 x && (p == q))
        (acked (self_acks p ps) x q)
    at ih false = refl

-- one more record: the node is counted for a new pair
self-record : (a : Memory) (r : Entry) (x : Label) (q : ℕ)
    → acked a.acks x q ≡ acked (self_acks a.node a.pairs) x q
    → acked (with_record a r None).acks x q ≡ acked
    (self_acks a.node (with_record a r None).pairs) x q
self-record a (Pend y m) x q h =
    counted-with a.acks y a.node x q
    ∙ (acked-with a.acks y a.node x q
    ∙ (ap (λ c. (same_name y x && (a.node == q)) || c) h
    ∙ sym (self-inserted a.node (y, m) a.pairs x q)))
self-record a (PendCert y m) x q h =
    counted-with a.acks y a.node x q
    ∙ (acked-with a.acks y a.node x q
    ∙ (ap (λ c. (same_name y x && (a.node == q)) || c) h
    ∙ sym (self-inserted a.node (y, m) a.pairs x q)))
self-record a (Cert y) x q h = h

-- the rules of the image hold for the layers' node
own_rules : {A : Type 0} (limits : Limits) (p : ℕ) (records before behind : List Entry) (h : Held A)
    → HasRead limits p records before behind h → KeepsOwn limits p [] records
    → KeepsOwn h.config h.node [] (before ++ behind)
own_rules limits p records before behind h read rules =
    subst (λ (rs : List Entry). KeepsOwn h.config h.node [] rs) (sym read.list)
    (subst (λ (l : Limits). KeepsOwn l h.node [] records) (sym read.limits_are)
    (subst (λ (i : ℕ). KeepsOwn limits i [] records) (sym read.node_is) rules))

-- the next record of the image may come next after what is held
pub read-next : {A : Type 0} (limits : Limits) (p : ℕ) (records before : List Entry) (r : Entry)
    (behind : List Entry) (h : Held A) → HasRead limits p records before (r ∷ behind) h
    → KeepsOwn limits p [] records → IsPendingSet h.pending
    → IsNextHeld h r
read-next limits p records before r behind h read rules pending =
    let parts =
    own-parts h.config h.node [] before r behind
    (own_rules limits p records before (r ∷ behind) h read rules) in
    keeps-next h.config h.node (ready_view (memory_of h))
    (opened_node h.node before) r read.shows pending.rising parts.0.1 parts.1

-- one more record of the image is read
pub read-more : {A : Type 0} (limits : Limits) (p : ℕ) (records before : List Entry) (r : Entry)
    (behind : List Entry) (h new : Held A) → HasRead limits p records before (r ∷ behind) h
    → KeepsOwn limits p [] records → IsPendingSet h.pending → IsDelivery h.fifo
    → IsHeld new → memory_of new ≡ with_record (memory_of h) r None
    → HasRead limits p records (before ++ r ∷ []) behind new
read-more limits p records before r behind h new read rules pending delivery held is =
    record {
      list = append_assoc before (r ∷ []) behind ∙ read.list;
      held = held;
      limits_are = ap (λ (a : Memory). a.limits) is ∙ (same.0 ∙ read.limits_are);
      node_is = ap (λ (a : Memory). a.node) is ∙ (same.1 ∙ read.node_is);
      unheard = ap (λ (a : Memory). a.heard) is ∙ heard r;
      shows =
          subst (λ (a : Memory). ShowsReady a (opened_node a.node (before ++ r ∷ []))) (sym is)
          (subst (λ (limits : Limits). ShowsNode limits after.node (ready_view after)
          (opened_node after.node (before ++ r ∷ []))) (sym same.0)
          (subst (λ (q : ℕ). ShowsNode h.config q (ready_view after)
          (opened_node q (before ++ r ∷ []))) (sym same.1) shown));
    }
  where
    after : Memory
    after = with_record (memory_of h) r None

    same : (after.limits ≡ h.config) × (after.node ≡ h.node)
    same = same_limits (memory_of h) r None

    next : IsNextHeld h r
    next = read-next limits p records before r behind h read rules pending

    more : SaysMore (ready_view (memory_of h)) (ready_view after) r
    more = record-more Ready Ready (memory_of h) r None (released_held h read.held delivery)
        (first_held h r read.held next)

    -- what is not certified now was not certified before
    open_ : (x : Label) → has_name after.certified x ≡ false → has_name (cert before) x ≡ false
    open_ x c =
        sym (read.shows.certified x) ∙ left (has_name h.acks.certified x)
        (has_name (cert (r ∷ [])) x) (sym (more.certified x) ∙ c)
      where
        left : (a b : Bool) → (a || b) ≡ false → a ≡ false
        left true b g = g
        left false b g = refl

    counted : (x : Label) (q : ℕ) → has_name after.certified x ≡ false
        → acked after.acks x q ≡ acked (self_acks h.node after.pairs) x q
    counted x q c =
        self-record (memory_of h) r x q
        (read.shows.acks x q (open_ x c)
        ∙ sym (shown-self h.config h.node (ready_view (memory_of h))
        (opened_node h.node before) read.shows x q))

    cursor : (r : Entry) → (with_record (memory_of h) r None).cursor ≡ h.resend.cursor
    cursor (Pend x m) = refl
    cursor (PendCert x m) = refl
    cursor (Cert x) = refl

    heard : (r : Entry) → (with_record (memory_of h) r None).heard ≡ []
    heard (Pend x m) = read.unheard
    heard (PendCert x m) = read.unheard
    heard (Cert x) = read.unheard

    shown : ShowsNode h.config h.node (ready_view after) (opened_node h.node (before ++ r ∷ []))
    shown =
        (opened-more h.config h.node (ready_view (memory_of h)) (ready_view after) before r behind
        (own_rules limits p records before (r ∷ behind) h read rules)
        read.shows pending.rising more refl
        (cursor r ∙ read.shows.cursor) counted (heard r)).1

-- the whole image is read
pub all-read : {A : Type 0} (limits : Limits) (p : ℕ) (records before behind : List Entry)
    (h : Held A) → HasRead limits p records before behind h → behind ≡ []
    → (h.config ≡ limits) × (h.node ≡ p) × ShowsReady (memory_of h) (opened_node p records)
all-read limits p records before behind h read none = (
  read.limits_are,
  read.node_is,
  subst (λ (rs : List Entry). ShowsReady (memory_of h) (opened_node p rs))
      (sym (append-nil before) ∙ (ap (λ rs. before ++ rs) (sym none) ∙ read.list))
      (subst (λ (q : ℕ). ShowsReady (memory_of h) (opened_node q before)) read.node_is read.shows),
)
