-- What a memory holds once its record is stored is the definition's for every node that it shows.
use Rattle.urb_node.proofs.Common.{Bool, Cause, Cert, Done, Entry, Holding, IsNext, Label, Limits}
use Rattle.urb_node.proofs.Common.{List, Memory, Node, NodeView, None, Option, Pend, PendCert}
use Rattle.urb_node.proofs.Common.{Ready, Reply, ShowsNode, ShowsReady, ShowsStoring, Some, State}
use Rattle.urb_node.proofs.Common.{Storing, acked, acks_after, and_from, any_insert, ap, ap₂}
use Rattle.urb_node.proofs.Common.{are_rising, certified_with, commits, cond-true, counted_with}
use Rattle.urb_node.proofs.Common.{done, eq-eqb, false, filter, has_name, has_pair}
use Rattle.urb_node.proofs.Common.{has_pair-inserted, heard_after, heard_of, if◌then◌else◌}
use Rattle.urb_node.proofs.Common.{is_accepted, keeps_record, length, name_lt, name_of}
use Rattle.urb_node.proofs.Common.{newly_released, not, packets_of, placed, ready_view, refl}
use Rattle.urb_node.proofs.Common.{released, same_message, same_name, same_record, subst, suc, sym}
use Rattle.urb_node.proofs.Common.{true, view_in, with_ack, with_heard, with_record, ℕ, ◌&&◌, ◌++◌}
use Rattle.urb_node.proofs.Common.{◌-◌, ◌==◌, ◌||◌, ◌∙◌, ◌∷◌, ◌≡◌}
use Rattle.urb_names.specs.Release.{beginning}
use Rattle.urb_names.proofs.LogRows.{beginning_is, row}
use Rattle.urb_names.proofs.CertificateReaches.{reach-same}
use Rattle.urb_node.specs.Replies.{Stored}
use Rattle.urb_node.specs.internal.LayerAdditions.{delivered_with, heard_with}
use Rattle.urb_node.proofs.RestartReplies.{same_record-same}
use Rattle.urb_node.proofs.ShownNodes.{with-same}
use Rattle.urb_node.proofs.JoinedMemory.{SaysMore, confirm-shows, done-shown, log-released}
use Rattle.urb_node.proofs.JoinedMemory.{log-stays}
use Rattle.urb_node.proofs.ArrivalOutcomes.{counted-with}

-- the log is the release of certificates, the newest first, and exactly these names are certified
pub record IsReleased (a : Memory) : Type 0 where
  -- the certificates, the newest first
  pub certificates : List Label
  -- the log is what they release
  pub log : a.log ≡ released certificates
  -- exactly their names are certified
  pub certified : (x : Label) → has_name certificates x ≡ has_name a.certified x

-- a record that certifies a name is the first to do so
abbrev pub IsFirst : Memory → Entry → Type 0
IsFirst a (Pend x m) = Unit {0}
IsFirst a (PendCert x m) = has_name a.certified x ≡ false
IsFirst a (Cert x) = has_name a.certified x ≡ false

behind : (a b : Bool) → (a || b) ≡ (b || (a || false))
behind true true = refl
behind true false = refl
behind false true = refl
behind false false = refl

none_more : (a : Bool) → a ≡ (a || false)
none_more true = refl
none_more false = refl

-- ---- certificates

named-with : (certified : List Label) (x y : Label) → has_name certified x ≡ false
    → has_name (certified_with certified x) y ≡ (has_name certified y || (same_name x y || false))
named-with certified x y new =
    ap (λ (c : Bool). has_name (if c then certified else placed name_lt certified x) y) new
    ∙ (any_insert (λ z. same_name z y) certified _ x
    ∙ behind (same_name x y) (has_name certified y))

-- what a memory delivers with one more certificate
delivers-more : (a : Memory) (x : Label) (h : IsReleased a) → has_name a.certified x ≡ false
    → delivered_with a.log a.certified x ≡ released (x ∷ h.certificates)
delivers-more a x h new =
    ap (λ (c : Bool). if c then a.log else a.log ++ newly_released a.log a.certified x) new
    ∙ ap₂ (λ (before beginnings : List Label).
    before ++ filter (λ y. not (has_name before y)) beginnings) h.log begins
  where
    begins : beginning x.sender (x ∷ a.certified) ≡ beginning x.sender (x ∷ h.certificates)
    begins =
        beginning_is x.sender (x ∷ a.certified)
        ∙ (ap (row x.sender 1) (reach-same x.sender (x ∷ a.certified) (x ∷ h.certificates)
        (λ y. ap (λ b. same_name x y || b) (sym (h.certified y))))
        ∙ sym (beginning_is x.sender (x ∷ h.certificates)))

-- ---- the memory with the record

-- a memory with one more record says what it said before, and the record
pub record-more : (state new : State) (a : Memory) (r : Entry) (cause : Option Cause) → IsReleased a
    → IsFirst a r → SaysMore (view_in state a) (view_in new (with_record a r cause)) r
record-more state new a (Pend x m) cause h f =
    record {
      pairs =
          λ y o. has_pair-inserted (x, m) a.pairs y o
          ∙ behind (same_name x y && same_message m o) (has_pair a.pairs y o);
      certified = λ y. none_more (has_name a.certified y);
      log = log-stays (view_in state a) a.log (Pend x m) refl refl;
      count = refl;
    }
record-more state new a (PendCert x m) cause h f =
    record {
      pairs =
          λ y o. has_pair-inserted (x, m) a.pairs y o
          ∙ behind (same_name x y && same_message m o) (has_pair a.pairs y o);
      certified = λ y. named-with a.certified x y f;
      log =
          log-released (view_in state a) (delivered_with a.log a.certified x) h.certificates
          (PendCert x m) x refl h.log h.certified (delivers-more a x h f);
      count = refl;
    }
record-more state new a (Cert x) cause h f =
    record {
      pairs = λ y o. none_more (has_pair a.pairs y o);
      certified = λ y. named-with a.certified x y f;
      log =
          log-released (view_in state a) (delivered_with a.log a.certified x) h.certificates
          (Cert x) x refl h.log h.certified (delivers-more a x h f);
      count = refl;
    }

-- a memory with one more record has counted the nodes that the definition says
pub record-acks : (a : Memory) (r : Entry) (cause : Option Cause) (y : Label) (z : ℕ)
    → acked (with_record a r cause).acks y z ≡ acked (acks_after a.node r cause a.acks) y z
record-acks a (Pend x m) None y z = counted-with a.acks x a.node y z
record-acks a (PendCert x m) None y z = counted-with a.acks x a.node y z
record-acks a (Cert x) cause y z = refl
record-acks a (Pend x m) (Some cause) y z =
    counted-with (counted_with a.acks x a.node) x cause.source y z
    ∙ with-same (counted_with a.acks x a.node) (with_ack a.acks x a.node) x cause.source y z
    (counted-with a.acks x a.node y z)
record-acks a (PendCert x m) (Some cause) y z =
    counted-with (counted_with a.acks x a.node) x cause.source y z
    ∙ with-same (counted_with a.acks x a.node) (with_ack a.acks x a.node) x cause.source y z
    (counted-with a.acks x a.node y z)

-- what was heard, with what the cause reported
heard-with : (heard : List (Label × ℕ)) (x : Label) (o : Option ℕ) (y : Label) (z : ℕ)
    → acked (heard_with heard x o) y z ≡ acked (with_heard heard x o) y z
heard-with heard x None y z = refl
heard-with heard x (Some q) y z = counted-with heard x q y z

-- a memory with one more record has heard the certificates that the definition says
pub record-heard : (a : Memory) (r : Entry) (cause : Option Cause) (y : Label) (z : ℕ)
    → acked (with_record a r cause).heard y z ≡ acked (heard_after r cause a.heard) y z
record-heard a (Pend x m) cause y z = heard-with a.heard x (heard_of cause) y z
record-heard a (PendCert x m) cause y z = heard-with a.heard x (heard_of cause) y z
record-heard a (Cert x) cause y z = refl

-- one more record leaves the memory's limits and its node
pub same_limits : (a : Memory) (r : Entry) (cause : Option Cause)
    → ((with_record a r cause).limits ≡ a.limits) × ((with_record a r cause).node ≡ a.node)
same_limits a (Pend x m) cause = (refl, refl)
same_limits a (PendCert x m) cause = (refl, refl)
same_limits a (Cert x) cause = (refl, refl)

-- ---- the commit

-- the effect reported for the held record once it is stored
abbrev pub told_of : Holding → Done
told_of h =
    record {
      accepted = is_accepted h.memory.node h.entry;
      name = name_of h.entry;
      sent = packets_of h.memory.limits.n h.memory.node h.entry h.cause;
      released = length (with_record h.memory h.entry h.cause).log - length h.memory.log;
    }

-- This holds for every node that a node with a draft shows. The draft's receipt is committed, and
-- the memory with the record shows the node after it.
pub commit-says : (h : Holding) (node : Node) → ShowsStoring h node
    → are_rising h.memory.pairs ≡ true
    → IsNext h.memory.limits h.memory.node h.memory.pairs h.memory.certified h.entry
    → IsReleased h.memory → IsFirst h.memory h.entry
    → ((commits h.memory.limits.n h.memory.node (suc h.memory.count) h.entry node node.state).0
    ≡ Stored (told_of h))
    × ShowsReady (with_record h.memory h.entry h.cause)
    (commits h.memory.limits.n h.memory.node (suc h.memory.count) h.entry node node.state).1
commit-says h node s rise next released first =
    subst (λ (told : Reply × Node). (told.0 ≡ Stored (told_of h))
    × ShowsReady (with_record h.memory h.entry h.cause) told.1) (sym committed) (
      ap Stored (done-shown h.memory.limits h.memory.limits.n h.memory.node before after node h.entry
          h.cause s more),
      shows,
    )
  where
    before : NodeView
    before = view_in (Storing h.entry h.cause) h.memory

    after : NodeView
    after = ready_view (with_record h.memory h.entry h.cause)

    more : SaysMore before after h.entry
    more = record-more (Storing h.entry h.cause) Ready h.memory h.entry h.cause released first

    cursor : (r : Entry) → (with_record h.memory r h.cause).cursor ≡ h.memory.cursor
    cursor (Pend x m) = refl
    cursor (PendCert x m) = refl
    cursor (Cert x) = refl

    shows : ShowsReady (with_record h.memory h.entry h.cause)
        (keeps_record h.memory.node h.entry h.cause node)
    shows =
        let same = same_limits h.memory h.entry h.cause in
        subst (λ (limits : Limits). ShowsNode limits
        (with_record h.memory h.entry h.cause).node after
        (keeps_record h.memory.node h.entry h.cause node)) (sym same.0)
        (subst (λ (p : ℕ). ShowsNode h.memory.limits p after
        (keeps_record h.memory.node h.entry h.cause node)) (sym same.1)
        (confirm-shows h.memory.limits h.memory.node before after node h.entry h.cause s rise next
        more refl (cursor h.entry) (λ x q c. record-acks h.memory h.entry h.cause x q)
        (record-heard h.memory h.entry h.cause)))

    committed : commits h.memory.limits.n h.memory.node (suc h.memory.count) h.entry node node.state
        ≡ (
          Stored (done h.memory.limits.n h.memory.node h.entry h.cause node),
          keeps_record h.memory.node h.entry h.cause node,
        )
    committed =
        ap (commits h.memory.limits.n h.memory.node (suc h.memory.count) h.entry node) (sym s.state)
        ∙ cond-true ((suc h.memory.count == suc (length node.records))
        && same_record h.entry h.entry) _ _
        (and_from (suc h.memory.count == suc (length node.records)) _
        (eq-eqb (suc h.memory.count) (suc (length node.records)) (ap suc s.count))
        (same_record-same h.entry))
