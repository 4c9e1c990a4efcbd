-- A restart: what the image says about a node's memory leads to the definition's result.
use Rattle.urb_node.proofs.Common.{Bool, Cert, Content, Down, Entry, Err, ForSome, IsNextIn}
use Rattle.urb_node.proofs.Common.{IsOtherThan, Label, Limits, List, MayGrow, Memory, Node, None}
use Rattle.urb_node.proofs.Common.{Ok, Option, Pend, PendCert, Ready, Restarts, SaysWith, ShowsNode}
use Rattle.urb_node.proofs.Common.{Some, State, [], acked, ap, are_rising, broadcast_after}
use Rattle.urb_node.proofs.Common.{comes_up, cond, false, if◌then◌else◌, inserted, name_lt, refl}
use Rattle.urb_node.proofs.Common.{refuses, restarts, restarts_with, same_name, says, self_acks}
use Rattle.urb_node.proofs.Common.{subst, sym, true, view_in, with_doubtful, with_record, ℕ, ◌&&◌}
use Rattle.urb_node.proofs.Common.{◌++◌, ◌==◌, ◌||◌, ◌∙◌, ◌∷◌, ◌≡◌}
use Rattle.urb_node.specs.internal.ImageVerdicts.{CountsItself, IsOther, Says}
use Rattle.urb_node.proofs.RestartReplies.{bad_image-call, bad_image-joined-call, restart-call}
use Rattle.urb_node.proofs.RestartReplies.{restart-joined-call}
use Rattle.urb_node.proofs.JoinedMemory.{SaysMore}
use Rattle.urb_node.proofs.RecordOutcomes.{IsFirst, IsReleased, record-acks, record-more}
use Rattle.urb_node.proofs.RecordOutcomes.{same_limits}
use Rattle.urb_node.proofs.ShownNodes.{acked-with}
use Rattle.urb_names.proofs.TruthValues.{or_swap}
use Rattle.urb_names.specs.declared.refusal.Refusal.TheVariants as refusal

-- ---- what is stored

-- if the image says what the memory has, a restart brings the node up with these records
pub stored-leads : (a : Memory) (doubt : Option Entry) (image : List Entry)
    (acks : List (Label × ℕ)) → a.heard ≡ [] → Says image a → CountsItself a acks
    → Restarts (record { memory = a; doubt = doubt }) image
    (Ok (record a { acks = acks; cursor = None }))
stored-leads a doubt image acks nothing told counted = (
  (refl, refl),
  λ node s. restart-call a.limits a.node (view_in (Down doubt) a)
      (view_in Ready (record a { acks = acks; cursor = None })) node doubt image s refl told
      (λ x q c. counted x q)
      (ap (λ (heard : List (Label × ℕ)).
      view_in Ready (record a { acks = acks; heard = heard; cursor = None })) nothing),
)

-- ---- what is stored, followed by the doubtful record

-- a node's own acknowledgement of one more pair
acked-inserted : (p : ℕ) (x : Label) (m : Content) (pairs : List (Label × Content)) (y : Label)
    (z : ℕ) → acked (self_acks p (inserted (x, m) pairs)) y z
    ≡ ((same_name x y && (p == z)) || acked (self_acks p pairs) y z)
acked-inserted p x m [] y z = refl
acked-inserted p x m (w ∷ pairs) y z = at (acked-inserted p x m pairs y z) (name_lt w.0 x)
  where
    at : acked (self_acks p (inserted (x, m) pairs)) y z
        ≡ ((same_name x y && (p == z)) || acked (self_acks p pairs) y z)
        → (b : Bool) → acked (self_acks p (cond b (w ∷ inserted (x, m) pairs) ((x, m) ∷ w ∷ pairs)))
        y z ≡ ((same_name x y && (p == z))
        || ((same_name w.0 y && (p == z)) || acked (self_acks p pairs) y z))
    at ih true =
        ap (λ b. (same_name w.0 y && (p == z)) || b) ih
        ∙ or_swap (same_name w.0 y && (p == z)) (same_name x y && (p == z))
        (acked (self_acks p pairs) y z)
    at ih false = refl

counts-joined : (a : Memory) (r : Entry) (acks : List (Label × ℕ)) → CountsItself a acks
    → (x : Label) (q : ℕ)
    → acked (with_record (record a { acks = acks }) r None).acks x q ≡ acked
    (self_acks a.node (with_record (record a { acks = acks }) r None).pairs) x q
counts-joined a (Pend y m) acks counted x q =
    record-acks (record a { acks = acks }) (Pend y m) None x q
    ∙ (acked-with acks y a.node x q
    ∙ (ap (λ b. (same_name y x && (a.node == q)) || b) (counted x q)
    ∙ sym (acked-inserted a.node y m a.pairs x q)))
counts-joined a (PendCert y m) acks counted x q =
    record-acks (record a { acks = acks }) (PendCert y m) None x q
    ∙ (acked-with acks y a.node x q
    ∙ (ap (λ b. (same_name y x && (a.node == q)) || b) (counted x q)
    ∙ sym (acked-inserted a.node y m a.pairs x q)))
counts-joined a (Cert y) acks counted x q = counted x q

joined-more : (a : Memory) (r : Entry) (acks : List (Label × ℕ)) → IsReleased a → IsFirst a r
    → SaysMore (view_in (Down (Some r)) a)
    (view_in Ready (record (with_record (record a { acks = acks }) r None) { cursor = None })) r
joined-more a r acks released first =
    let more = record-more (Down (Some r)) Ready (record a { acks = acks }) r None
    (record {
      certificates = released.certificates;
      log = released.log;
      certified =
          released.certified;
    }) (same_first r first) in
    record { pairs = more.pairs; certified = more.certified; log = more.log; count = more.count }
  where
    same_first : (r : Entry) → IsFirst a r → IsFirst (record a { acks = acks }) r
    same_first (Pend x m) f = tt
    same_first (PendCert x m) f = f
    same_first (Cert x) f = f

-- what the image says does not depend on the acknowledgements
says-joined : (image : List Entry) (a : Memory) (acks : List (Label × ℕ)) (r : Entry)
    → Says image (with_record a r None) → Says image (with_record (record a { acks = acks }) r None)
says-joined image a acks (Pend x m) told = told
says-joined image a acks (PendCert x m) told = told
says-joined image a acks (Cert x) told = told

other-joined : (image : List Entry) (a : Memory) (acks : List (Label × ℕ)) (r : Entry)
    → IsOther image (with_record a r None)
    → IsOther image (with_record (record a { acks = acks }) r None)
other-joined image a acks (Pend x m) told = told
other-joined image a acks (PendCert x m) told = told
other-joined image a acks (Cert x) told = told

-- if the image says what the memory has with record r, which is in doubt, a restart stores r too
pub joined-leads : (a : Memory) (r : Entry) (image : List Entry) (acks : List (Label × ℕ))
    → are_rising a.pairs ≡ true → IsNextIn a r → IsReleased a → IsFirst a r
    → a.heard ≡ [] → IsOther image a → Says image (with_record a r None) → CountsItself a acks
    → Restarts (record { memory = a; doubt = Some r }) image
    (Ok (record (with_record (record a { acks = acks }) r None) { cursor = None }))
joined-leads a r image acks rise next released first nothing old told counted =
    let same = same_limits (record a { acks = acks }) r None in (
      same,
      λ node s.
          let says =
          restart-joined-call a.limits a.node (view_in (Down (Some r)) a)
          (view_in Ready new) node r image s refl rise next
          (joined-more a r acks released first) old (says-joined image a acks r told) refl refl
          (λ x q c. counts-joined a r acks counted x q) (unheard r) in (
            says.0,
            subst (λ (size : Limits). ShowsNode size new.node (view_in Ready new)
                (restarts a.node image node node.state).1) (sym same.0)
                (subst (λ (p : ℕ). ShowsNode a.limits p (view_in Ready new)
                (restarts a.node image node node.state).1) (sym same.1) says.1),
          ),
    )
  where
    new : Memory
    new = record (with_record (record a { acks = acks }) r None) { cursor = None }

    unheard : (r : Entry) → (with_record (record a { acks = acks }) r None).heard ≡ []
    unheard (Pend x m) = nothing
    unheard (PendCert x m) = nothing
    unheard (Cert x) = nothing

-- if the image says what the memory has with whatever is in doubt, a restart stores that too
pub with_doubtful-leads : (a : Memory) (doubt : Option Entry) (image : List Entry)
    (acks : List (Label × ℕ)) → are_rising a.pairs ≡ true → ForSome doubt (IsNextIn a)
    → IsReleased a → ForSome doubt (IsFirst a)
    → a.heard ≡ [] → IsOther image a → SaysWith image a doubt → CountsItself a acks
    → Restarts (record { memory = a; doubt = doubt }) image
    (Ok (record (with_doubtful (record a { acks = acks }) doubt) { cursor = None }))
with_doubtful-leads a None image acks rise next released first nothing old told counted =
    absurd told
with_doubtful-leads a (Some r) image acks rise next released first nothing old told counted =
    joined-leads a r image acks rise (next r refl) released (first r refl) nothing old told counted

-- ---- neither

-- if the image says neither, a restart is refused as BadImage, and the node stays as it is
pub neither-leads : (a : Memory) (doubt : Option Entry) (image : List Entry)
    → are_rising a.pairs ≡ true → ForSome doubt (IsNextIn a) → IsReleased a
    → ForSome doubt (IsFirst a)
    → IsOther image a → IsOtherThan image a doubt
    → Restarts (record { memory = a; doubt = doubt }) image
    (Err (record { memory = a; doubt = doubt }, refusal.BadImage))
neither-leads a None image rise next released first old other = (
  λ node s. (bad_image-call a.limits a.node (view_in (Down None) a) node image s refl old).0,
  refl,
)
neither-leads a (Some r) image rise next released first old other = (
  λ node s. (bad_image-joined-call a.limits a.node (view_in (Down (Some r)) a)
      (view_in Ready (record (with_record (record a { acks = a.acks }) r None) { cursor = None }))
      node r image s refl rise (next r refl) (joined-more a r a.acks released (first r refl)) old
      (other-joined image a a.acks r other)).0,
  refl,
)

-- ---- no memory

grows : (p : ℕ) (image : List Entry) (node : Node) (doubt : Option Entry)
    → MayGrow (restarts_with p image node doubt).0
grows p image node None = at (says image node.records)
  where
    at : (b : Bool) → MayGrow (if b then comes_up p node.records node.broadcast else refuses node
        refusal.BadImage).0
    at true = tt
    at false = tt
grows p image node (Some r) = at (says image node.records) (says image (node.records ++ r ∷ []))
  where
    at : (b c : Bool) → MayGrow (if b then comes_up p node.records node.broadcast else
        (if c then comes_up p (node.records ++ r ∷ [])
        (broadcast_after p r node.broadcast) else refuses node refusal.BadImage)).0
    at true c = tt
    at false true = tt
    at false false = tt

-- a restart may be refused for memory, and then the node stays as it is
pub short-leads : (a : Memory) (doubt : Option Entry) (image : List Entry)
    → Restarts (record { memory = a; doubt = doubt }) image
    (Err (record { memory = a; doubt = doubt }, refusal.NoMemory))
short-leads a doubt image = (
  λ node s. subst (λ (state : State). MayGrow (restarts a.node image node state).0) s.state
      (grows a.node image node doubt),
  refl,
)
