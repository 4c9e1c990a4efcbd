-- The layers of a node after one more record.
use Rattle.urb_node.proofs.Common.{AckSet, Bool, Content, Delivery, Down, Entry, Fails, ForSome}
use Rattle.urb_node.proofs.Common.{Held, Holding, IsHeld, IsNextHeld, Label, List, Memory, None}
use Rattle.urb_node.proofs.Common.{Option, PendingSet, Resending, ShowsDown, Some, State, Storing}
use Rattle.urb_node.proofs.Common.{WentDown, [], added, and_from, and_parts, any_insert, ap, arith}
use Rattle.urb_node.proofs.Common.{certified_with, cond, fails, false, false≢true, has_name}
use Rattle.urb_node.proofs.Common.{has_pair, has_pair-found, has_pair-inserted, if◌then◌else◌, inl}
use Rattle.urb_node.proofs.Common.{inr, inserted, is_some, length, message_of, name_lt}
use Rattle.urb_node.proofs.Common.{newly_released, or_cases, or_left, or_right, placed, prefix_len}
use Rattle.urb_node.proofs.Common.{refl, same_message, same_message-same, same_name, same_name-same}
use Rattle.urb_node.proofs.Common.{same_name-true, subst, suc, sym, true, view_in, ℕ, ⊎_elim, ◌&&◌}
use Rattle.urb_node.proofs.Common.{◌++◌, ◌+◌, ◌||◌, ◌∙◌, ◌∷◌, ◌≡◌, ◌≤◌, ◌⊎◌}
use Rattle.std.proofs.lemmas.List.Edits.{length-insert}
use Rattle.std.proofs.lemmas.List.Sums.{prefix_len-le-length}
use Rattle.urb_names.specs.RisingLists.{reserved_for}
use Rattle.urb_names.proofs.FoundPairs.{some_found}
use Rattle.urb_certified.specs.Certificates.{with_name}
use Rattle.urb_majority.specs.AckOutcomes.{certifying as acks_certifying}
use Rattle.urb_fifo.specs.NewReleases.{certifying as fifo_certifying}
use Rattle.urb_node.specs.internal.HeldLayers.{IsFallen}
use Rattle.urb_node.proofs.MemoryChanges.{down-shows}

-- ---- what is pending

named : (pairs : List (Label × Content)) (x : Label) (m : Content) → has_pair pairs x m ≡ true
    → is_some (message_of pairs x) ≡ true
named [] x m h = absurd (false≢true h)
named (p ∷ pairs) x m h = at (named pairs x m) (same_name p.0 x) h
  where
    at : (has_pair pairs x m ≡ true → is_some (message_of pairs x) ≡ true) → (b : Bool)
        → ((b && same_message p.1 m) || has_pair pairs x m) ≡ true
        → is_some (cond b (Some p.1) (message_of pairs x)) ≡ true
    at ih true k = refl
    at ih false k = ih k

-- what was pending stays pending
pub stays-pending : (pairs : List (Label × Content)) (p : Label × Content) (x : Label)
    → is_some (message_of pairs x) ≡ true → is_some (message_of (inserted p pairs) x) ≡ true
stays-pending pairs p x h =
    let found = some_found (message_of pairs x) h in
    named (inserted p pairs) x found.0
    (has_pair-inserted p pairs x found.0
    ∙ or_right (same_name p.0 x && same_message p.1 found.0) _
    (has_pair-found pairs x found.0 found.1))

-- a pair that is added is pending
pub joined-pending : (pairs : List (Label × Content)) (x : Label) (m : Content)
    → is_some (message_of (inserted (x, m) pairs) x) ≡ true
joined-pending pairs x m =
    named (inserted (x, m) pairs) x m
    (has_pair-inserted (x, m) pairs x m
    ∙ or_left (same_name x x && same_message m m) _
    (and_from (same_name x x) _ (same_name-same x) (same_message-same m)))

-- a name that is pending after a pair was added is that pair's, or was pending before
pending-cases : (pairs : List (Label × Content)) (x : Label) (m : Content) (y : Label)
    → is_some (message_of (inserted (x, m) pairs) y) ≡ true
    → (same_name x y ≡ true) ⊎ (is_some (message_of pairs y) ≡ true)
pending-cases pairs x m y h =
    let found = some_found (message_of (inserted (x, m) pairs) y) h in
    ⊎_elim (λ e. inl (and_parts (same_name x y) (same_message m found.0) e).0)
    (λ e. inr (named pairs y found.0 e))
    (or_cases (same_name x y && same_message m found.0) (has_pair pairs y found.0)
    (sym (has_pair-inserted (x, m) pairs y found.0)
    ∙ has_pair-found (inserted (x, m) pairs) y found.0 found.1))

length-inserted : (p : Label × Content) (pairs : List (Label × Content))
    → length (inserted p pairs) ≡ suc (length pairs)
length-inserted p [] = refl
length-inserted p (q ∷ pairs) = at (length-inserted p pairs) (name_lt q.0 p.0)
  where
    at : length (inserted p pairs) ≡ suc (length pairs) → (b : Bool)
        → length (cond b (q ∷ inserted p pairs) (p ∷ q ∷ pairs)) ≡ suc (suc (length pairs))
    at ih true = ap suc ih
    at ih false = refl

-- ---- space

-- what has space keeps it when a name is added
roomy-more : (names : List Label) (x y : Label) → has_name names y ≡ true
    → has_name (with_name names x) y ≡ true
roomy-more names x y h = at (has_name names x)
  where
    at : (b : Bool) → has_name (if b then names else placed name_lt names x) y ≡ true
    at true = h
    at false =
        any_insert (λ z. same_name z y) names _ x ∙ or_right (same_name x y) (has_name names y) h

-- space is reserved for what a pending record adds
pub room-kept : {A : Type 0} (h : Held A) (pending : PendingSet) (acks : AckSet)
    (resend : Resending) (x : Label) (client : ℕ) → IsHeld h
    → pending ≡ record h.pending { reserved = Some (x, client) }
    → acks ≡ record h.acks { reserved = Some x }
    → resend ≡ record h.resend { roomy = with_name h.resend.roomy x }
    → IsHeld (record h { pending = pending; acks = acks; resend = resend })
room-kept h pending acks resend x client k e f g =
    subst (λ (p : PendingSet). IsHeld (record h { pending = p; acks = acks; resend = resend }))
    (sym e)
    (subst (λ (a : AckSet). IsHeld
    (record h {
      pending = record h.pending { reserved = Some (x, client) };
      acks = a;
      resend =
          resend;
    })) (sym f)
    (subst (λ (r : Resending). IsHeld
    (record h {
      pending = record h.pending { reserved = Some (x, client) };
      acks =
          record h.acks { reserved = Some x };
      resend = r;
    })) (sym g)
    (record {
      node = k.node;
      pending_limits = k.pending_limits;
      pending_node = k.pending_node;
      acks_limits = k.acks_limits;
      fifo_limits = k.fifo_limits;
      resend_limits = k.resend_limits;
      resend_node = k.resend_node;
      certified = k.certified;
      pending = k.pending;
      room_to_hear = λ y there. roomy-more h.resend.roomy x y (k.room_to_hear y there);
      count = k.count;
    })))

-- ---- one more pair

-- the layers still belong together once a pair is pending in them
pub pair-kept : {A : Type 0} (old : Held A) (pending : PendingSet) (acks : AckSet)
    (resend : Resending) (x : Label) (m : Content) → IsHeld old → pending ≡ added x m old.pending
    → (acks.limits ≡ old.acks.limits) × (acks.certified ≡ old.acks.certified)
    → has_name old.resend.roomy x ≡ true → resend ≡ record old.resend { heard = resend.heard }
    → IsHeld (record old {
      stored = old.stored + 1;
      pending = pending;
      acks = acks;
      resend =
          resend;
    })
pair-kept old pending acks resend x m h joined same room heard =
    record {
      node = h.node;
      pending_limits = ap (λ (s : PendingSet). s.limits) joined ∙ h.pending_limits;
      pending_node = ap (λ (s : PendingSet). s.node) joined ∙ h.pending_node;
      acks_limits = same.0 ∙ h.acks_limits;
      fifo_limits = h.fifo_limits;
      resend_limits = ap (λ (r : Resending). r.limits) heard ∙ h.resend_limits;
      resend_node = ap (λ (r : Resending). r.node) heard ∙ h.resend_node;
      certified = h.certified ∙ sym same.1;
      room_to_hear =
          λ y k. subst (λ (roomy : List Label). has_name roomy y ≡ true)
          (sym (ap (λ (r : Resending). r.roomy) heard))
          (⊎_elim (λ e. subst (λ (z : Label). has_name old.resend.roomy z ≡ true)
          (same_name-true x y e) room) (λ e. h.room_to_hear y e)
          (pending-cases old.pending.pairs x m y
          (subst (λ (s : PendingSet). is_some (message_of s.pairs y) ≡ true) joined k)));
      pending =
          λ y k. subst (λ (s : PendingSet). is_some (message_of s.pairs y) ≡ true) (sym joined)
          (stays-pending old.pending.pairs (x, m) y
          (h.pending y (ap (λ names. has_name names y) (sym same.1) ∙ k)));
      count =
          let more : length pending.pairs ≡ suc (length old.pending.pairs) =
          ap (λ (s : PendingSet). length s.pairs) joined
          ∙ length-inserted (x, m) old.pending.pairs in
          let names : length acks.certified ≡ length old.acks.certified = ap length same.1 in
          omega (arith, more, names, h.count);
    }

-- ---- one more certificate

length-placed : (names : List Label) (x : Label) → length names ≤ length (placed name_lt names x)
length-placed names x =
    let e : length (placed name_lt names x) ≡ length names + 1 =
    length-insert names (prefix_len (λ y. name_lt y x) names) x
    (prefix_len-le-length (λ y. name_lt y x) names) in
    omega (arith, e)

acks-certified : (a : AckSet) (x : Label)
    → ((acks_certifying a x).certified ≡ certified_with a.certified x)
    × ((acks_certifying a x).limits ≡ a.limits)
acks-certified a x = at (has_name a.certified x)
  where
    at : (b : Bool) → ((if b then a else record a {
      certified = placed name_lt a.certified x;
      reserved =
          reserved_for a.reserved x;
    }).certified
        ≡ (if b then a.certified else placed name_lt a.certified x))
        × ((if b then a else record a {
          certified = placed name_lt a.certified x;
          reserved =
              reserved_for a.reserved x;
        }).limits ≡ a.limits)
    at true = (refl, refl)
    at false = (refl, refl)

fifo-certified : (d : Delivery) (x : Label)
    → ((fifo_certifying d x).certified ≡ certified_with d.certified x)
    × ((fifo_certifying d x).limits ≡ d.limits)
fifo-certified d x = at (has_name d.certified x)
  where
    after : Delivery
    after = record d {
      certified = placed name_lt d.certified x;
      log =
          d.log ++ newly_released d.log d.certified x;
      reserved = reserved_for d.reserved x;
    }

    at : (b : Bool) → ((if b then d else after).certified
        ≡ (if b then d.certified else placed name_lt d.certified x))
        × ((if b then d else after).limits ≡ d.limits)
    at true = (refl, refl)
    at false = (refl, refl)

-- a name among those with one more is the new one, or was there before
pub with-cases : (names : List Label) (x y : Label) → has_name (certified_with names x) y ≡ true
    → (has_name names y ≡ true) ⊎ (same_name x y ≡ true)
with-cases names x y = at (has_name names x)
  where
    at : (b : Bool) → has_name (if b then names else placed name_lt names x) y ≡ true
        → (has_name names y ≡ true) ⊎ (same_name x y ≡ true)
    at true k = inl k
    at false k =
        ⊎_elim (λ e. inr e) (λ e. inl e)
        (or_cases (same_name x y) (has_name names y)
        (sym (any_insert (λ z. same_name z y) names _ x) ∙ k))

with-grows : (names : List Label) (x : Label) → length names ≤ length (certified_with names x)
with-grows names x = at (has_name names x)
  where
    at : (b : Bool) → length names ≤ length (if b then names else placed name_lt names x)
    at true = omega arith
    at false = let more = length-placed names x in omega (arith, more)

-- the layers still belong together once a pending name is certified in them
pub certificate-kept : {A : Type 0} (old : Held A) (acks : AckSet) (fifo : Delivery) (x : Label)
    → IsHeld old → is_some (message_of old.pending.pairs x) ≡ true
    → acks ≡ acks_certifying old.acks x → fifo ≡ fifo_certifying old.fifo x
    → IsHeld (record old { acks = acks; fifo = fifo })
certificate-kept old acks fifo x h pending a f =
    record {
      node = h.node;
      pending_limits = h.pending_limits;
      pending_node = h.pending_node;
      acks_limits =
          ap (λ (s : AckSet). s.limits) a ∙ ((acks-certified old.acks x).1 ∙ h.acks_limits);
      fifo_limits =
          ap (λ (s : Delivery). s.limits) f ∙ ((fifo-certified old.fifo x).1 ∙ h.fifo_limits);
      resend_limits = h.resend_limits;
      resend_node = h.resend_node;
      certified =
          ap (λ (s : Delivery). s.certified) f
          ∙ ((fifo-certified old.fifo x).0
          ∙ (ap (λ names. certified_with names x) h.certified ∙ sym now));
      room_to_hear = h.room_to_hear;
      pending =
          λ y k. ⊎_elim (λ e. h.pending y e)
          (λ e. subst (λ (z : Label). is_some (message_of old.pending.pairs z) ≡ true)
          (same_name-true x y e) pending)
          (with-cases old.acks.certified x y (ap (λ names. has_name names y) (sym now) ∙ k));
      count =
          let more : length old.acks.certified ≤ length (certified_with old.acks.certified x) =
          with-grows old.acks.certified x in
          let names : length acks.certified ≡ length (certified_with old.acks.certified x) =
          ap length now in
          omega (arith, more, names, h.count);
    }
  where
    now : acks.certified ≡ certified_with old.acks.certified x
    now = ap (λ (s : AckSet). s.certified) a ∙ (acks-certified old.acks x).0

-- one more record can be counted
pub counted-kept : {A : Type 0} (h : Held A) → IsHeld h
    → h.stored + 1 ≤ length h.pending.pairs + length h.acks.certified
    → IsHeld (record h { stored = h.stored + 1 })
counted-kept h k more =
    record {
      node = k.node;
      pending_limits = k.pending_limits;
      pending_node = k.pending_node;
      acks_limits = k.acks_limits;
      fifo_limits = k.fifo_limits;
      resend_limits = k.resend_limits;
      resend_node = k.resend_node;
      certified = k.certified;
      pending = k.pending;
      room_to_hear = k.room_to_hear;
      count = more;
    }

-- ---- down

-- the memory once its acknowledgements and what it heard are dropped
abbrev pub forgetful : Memory → Memory
forgetful a = record a { acks = []; heard = [] }

-- a failed store makes the node forget what it counted and heard, and leaves its record in doubt
pub falls : (h : Holding) → Fails h (record { memory = forgetful h.memory; doubt = Some h.entry })
falls h = (
  (refl, refl),
  λ node s. subst (λ (state : State). ((fails h.memory.node node state).0 ≡ WentDown h.memory.node)
      × ShowsDown (record { memory = forgetful h.memory; doubt = Some h.entry })
      (fails h.memory.node node state).1) s.state (
        refl,
        down-shows h.memory.limits h.memory.node (view_in (Storing h.entry h.cause) h.memory)
            (view_in (Down (Some h.entry)) (forgetful h.memory)) node s refl,
      ),
)

-- The layers once their acknowledgements and what was heard are dropped: the node is down, and a
-- record may be in doubt.
pub down-kept : {A : Type 0} (h : Held A) (acks : AckSet) (resend : Resending)
    (doubt : Option Entry) → IsHeld h → ForSome doubt (IsNextHeld h)
    → acks ≡ record h.acks { counted = []; reserved = None }
    → resend ≡ record h.resend { heard = [] }
    → IsFallen (record h { acks = acks; resend = resend }) doubt
down-kept h acks resend doubt k next e f =
    subst (λ (a : AckSet). IsFallen (record h { acks = a; resend = resend }) doubt) (sym e)
    (subst (λ (r : Resending). IsFallen
    (record h { acks = record h.acks { counted = []; reserved = None }; resend = r }) doubt)
    (sym f)
    (record {
      held = record {
        node = k.node;
        pending_limits = k.pending_limits;
        pending_node = k.pending_node;
        acks_limits = k.acks_limits;
        fifo_limits = k.fifo_limits;
        resend_limits = k.resend_limits;
        resend_node = k.resend_node;
        certified = k.certified;
        pending = k.pending;
        room_to_hear = k.room_to_hear;
        count = k.count;
      };
      uncounted = refl;
      unheard = refl;
      doubtful = next;
    }))
