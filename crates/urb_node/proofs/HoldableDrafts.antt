-- The drafts that a ready node can hold: their records are next, and there is space for them.
use Rattle.urb_node.proofs.Common.{Bool, Carried, Cause, Content, Delivery, Entry, Fits, Flags}
use Rattle.urb_node.proofs.Common.{ForSome, HasRoom, Held, IsDelivery, IsDrafted, IsHeld, IsNext}
use Rattle.urb_node.proofs.Common.{IsNextHeld, IsNextIn, IsPendingSet, Label, Limits, List}
use Rattle.urb_node.proofs.Common.{MAX_PAYLOAD, MayArrive, Memory, None, Option, Pend, PendCert}
use Rattle.urb_node.proofs.Common.{PendingSet, Some, Wants, [], and_from, and_parts, ap, ap₂, arith}
use Rattle.urb_node.proofs.Common.{arrive_outcome, certified_outcome, cond-false, cond-true}
use Rattle.urb_node.proofs.Common.{counted_outcome, eq-eqb, false, false≢true, has_name, heard_of}
use Rattle.urb_node.proofs.Common.{hearing, if◌then◌else◌, is_majority, is_rising, is_some, le-ltb}
use Rattle.urb_node.proofs.Common.{length, list_all, lt-ltb, map, memory_of, message_of, name}
use Rattle.urb_node.proofs.Common.{name_given, name_lt, names, nat_le, nat_lt, next_number, not}
use Rattle.urb_node.proofs.Common.{numbered_outcome, option_map, or_left, or_right, own, own_of}
use Rattle.urb_node.proofs.Common.{packet_from, packets_of, part_of, pending_outcome, refl}
use Rattle.urb_node.proofs.Common.{same_name, same_name-same, says_certified, submit_outcome, subst}
use Rattle.urb_node.proofs.Common.{suc, sym, to_others, true, w32, ℕ, ◌*◌, ◌+◌, ◌<◌, ◌==◌, ◌∙◌, ◌∷◌}
use Rattle.urb_node.proofs.Common.{◌≡◌, ◌≤◌}
use Rattle.std.proofs.lemmas.List.{length-map}
use Rattle.std.proofs.lemmas.Bool.{le-leb}
use Rattle.std.proofs.lemmas.Nat.{mul-le}
use Rattle.urb_names.specs.Nodes.{is_node}
use Rattle.urb_names.specs.declared.limits.TheConstants.{MAX_CAP, MAX_NODES}
use Rattle.urb_pending.specs.PendingSet.{is_within}
use Rattle.urb_pending.proofs.PairLimits.{bounded, length_bounded}
use Rattle.urb_fifo.specs.Delivery.{IsNameOf}
use Rattle.urb_node.proofs.NextRecords.{arrival-next, next_own-fresh, submit-next}

-- a pending record, certified at once or not
abbrev pub pending_entry : Bool → Label → Content → Entry
pending_entry is_certified x m = if is_certified then PendCert x m else Pend x m

-- a draft of it can be held
pub made : {A : Type 0} (old new : Held A) (x : Label) (m : Content) (b : Bool)
    (cause : Option Cause) (packets : List Carried) → IsHeld new
    → ForSome cause (λ c. (1 ≤ c.source) × (c.source ≤ new.config.n))
    → memory_of new ≡ memory_of old → IsNextHeld old (pending_entry b x m)
    → HasRoom new (pending_entry b x m)
    → packets ≡ to_others old.config.n old.node b (heard_of cause) (x, m)
    → IsDrafted new (pending_entry b x m) cause packets
made old new x m b cause packets kept caused same next room sends =
    record {
      held = kept;
      next = subst (λ (a : Memory). IsNextIn a (pending_entry b x m)) (sym same) next;
      room = room;
      caused = caused;
      sends =
          sends ∙ (sym (ap (λ (a : Memory). to_others a.limits.n a.node b (heard_of cause) (x, m))
          same) ∙ to_all b);
    }
  where
    to_all : (b : Bool) → to_others new.config.n new.node b (heard_of cause) (x, m)
        ≡ packets_of new.config.n new.node (pending_entry b x m) cause
    to_all true = refl
    to_all false = refl

either_next : (limits : Limits) (p : ℕ) (pairs : List (Label × Content)) (certified : List Label)
    (x : Label) (m : Content) (b : Bool)
    → IsNext limits p pairs certified (Pend x m) × IsNext limits p pairs certified (PendCert x m)
    → IsNext limits p pairs certified (pending_entry b x m)
either_next limits p pairs certified x m true h = h.1
either_next limits p pairs certified x m false h = h.0

-- the record of a submit is next
pub submitted-next : (set : PendingSet) (limits : Limits) (p : ℕ) (certified : List Label)
    (x : Label) (m : Content) (b : Bool) → IsPendingSet set → set.limits ≡ limits → set.node ≡ p
    → p ≤ limits.n
    → length (own set.node set.pairs) < limits.cap
    → x ≡ name p (length (own set.node set.pairs) + 1)
    → m.number ≡ next_number m.client (own set.node set.pairs)
    → IsNext limits p set.pairs certified (pending_entry b x m)
submitted-next set limits p certified x m b kept l is within room named number =
    subst (λ (y : Label). IsNext limits p set.pairs certified (pending_entry b y m)) (sym here) (
    either_next limits p set.pairs certified (name p (suc (length (own p set.pairs)))) m b (
    submit-next limits p set.pairs certified m within
    (subst (λ (q : ℕ). length (own q set.pairs) < limits.cap) is room)
    (subst (λ (q : ℕ). m.number ≡ next_number m.client (own q set.pairs)) is number)
    (next_own-fresh p set.pairs (subst
    (λ (q : ℕ). part_of q (map (λ pair. pair.0) set.pairs) ≡ names q (length (own q set.pairs)))
    is kept.numbered))
    )
    )
  where
    here : x ≡ name p (suc (length (own p set.pairs)))
    here =
        named ∙ ap (name p) (one (length (own set.node set.pairs))
        ∙ ap (λ (q : ℕ). suc (length (own q set.pairs))) is)
      where
        one : (n : ℕ) → n + 1 ≡ suc n
        one n = omega arith

-- a submit of a new message with its next number and with room wants its record stored
pub submit-wants : (a : Memory) (m : Content) (entry : Entry) (b : Bool)
    → length m.payload ≤ MAX_PAYLOAD → name_given a.node m.client m.number (own_of a) ≡ None
    → m.number ≡ next_number m.client (own_of a)
    → length (own_of a) < a.limits.cap → b ≡ is_majority 1 a.limits.n
    → entry ≡ pending_entry b (name a.node (suc (length (own_of a)))) m
    → submit_outcome a m ≡ Wants entry None a
submit-wants a m entry b short new number room alone is =
    cond-false (nat_lt MAX_PAYLOAD (length m.payload)) _ _
    (le-ltb MAX_PAYLOAD (length m.payload) short)
    ∙ (ap (numbered_outcome a m) new
    ∙ (cond-false (not (m.number == next_number m.client (own_of a))) _ _
    (ap not (eq-eqb m.number _ number))
    ∙ (cond-false (not (nat_lt (length (own_of a)) a.limits.cap)) _ _ (ap not (lt-ltb _ _ room))
    ∙ ap (λ entry. Wants entry None a)
    (sym (is ∙ ap (λ b. pending_entry b (name a.node (suc (length (own_of a)))) m) alone)))))

-- a submit's outcome that wants a record stored; q is the node's number in the pending set
pub submit-told : (a : Memory) (q : ℕ) (m : Content) (entry : Entry) (cause : Option Cause)
    (b : Bool) (after : Memory) → q ≡ a.node → length m.payload ≤ MAX_PAYLOAD
    → name_given q m.client m.number (own q a.pairs) ≡ None
    → m.number ≡ next_number m.client (own q a.pairs) → length (own q a.pairs) < a.limits.cap
    → b ≡ is_majority 1 a.limits.n
    → entry ≡ pending_entry b (name a.node (length (own q a.pairs) + 1)) m → cause ≡ None
    → after ≡ a
    → submit_outcome a m ≡ Wants entry cause after
submit-told a q m entry cause b after is short new number room alone entry_is none same =
    submit-wants a m entry b short
    (subst (λ (p : ℕ). name_given p m.client m.number (own p a.pairs) ≡ None) is new)
    (subst (λ (p : ℕ). m.number ≡ next_number m.client (own p a.pairs)) is number)
    (subst (λ (p : ℕ). length (own p a.pairs) < a.limits.cap) is room) alone
    (entry_is ∙ ap (λ k. pending_entry b (name a.node k) m)
    (one (length (own q a.pairs)) ∙ ap (λ (p : ℕ). suc (length (own p a.pairs))) is))
    ∙ ap₂ (λ cause after. Wants entry cause after) (sym none) (sym same)
  where
    one : (n : ℕ) → n + 1 ≡ suc n
    one n = omega arith

-- the record of an arrival is next
pub arrived-next : (limits : Limits) (p : ℕ) (pairs : List (Label × Content))
    (certified : List Label) (x : Label) (m : Content) (b : Bool) → MayArrive limits p pairs x m
    → message_of pairs x ≡ None
    → IsNext limits p pairs certified (pending_entry b x m)
arrived-next limits p pairs certified x m b may fresh =
    either_next limits p pairs certified x m b (arrival-next limits p pairs certified x m may fresh)

-- a packet of a name that is not pending wants its pair stored, because of its source
pub arrive-told : (a : Memory) (q : ℕ) (x : Label) (m : Content) (flags : Option Flags)
    (entry : Entry) (cause : Option Cause) (b : Bool) (after : Memory) → message_of a.pairs x ≡ None
    → b ≡ is_majority 2 a.limits.n
    → entry ≡ pending_entry b x m → cause ≡ Some (packet_from q (says_certified flags)) → after ≡ a
    → arrive_outcome a q x m flags ≡ Wants entry cause after
arrive-told a q x m flags entry cause b after fresh both entry_is some same =
    ap (pending_outcome a q x m flags) fresh
    ∙ (ap (λ c. Wants (pending_entry c x m) (Some (packet_from q (says_certified flags))) a)
    (sym both)
    ∙ (ap (λ e. Wants e (Some (packet_from q (says_certified flags))) a) (sym entry_is)
    ∙ ap₂ (λ cause after. Wants entry cause after) (sym some) (sym same)))

-- a packet whose name is pending and not certified
pub arrive-counts : (a : Memory) (q : ℕ) (x : Label) (m first : Content) (flags : Option Flags)
    → message_of a.pairs x ≡ Some first → has_name a.certified x ≡ false
    → arrive_outcome a q x m flags ≡ counted_outcome a q x flags
arrive-counts a q x m first flags pending open_ =
    ap (pending_outcome a q x m flags) pending ∙ cond-false (has_name a.certified x) _ _ open_

-- a packet whose name is certified
pub arrive-answers : (a : Memory) (q : ℕ) (x : Label) (m first : Content) (flags : Option Flags)
    → message_of a.pairs x ≡ Some first → has_name a.certified x ≡ true
    → arrive_outcome a q x m flags ≡ certified_outcome (hearing a q x flags) q x m flags
arrive-answers a q x m first flags pending there =
    ap (pending_outcome a q x m flags) pending ∙ cond-true (has_name a.certified x) _ _ there

-- ---- the number of records

paired : Content → List Label → List (Label × Content)
paired m names = map (λ x. (x, m)) names

-- names in rising order, each paired with the same message, are pairs in rising order
pub paired_rising : (m : Content) (names : List Label) → is_rising name_lt names ≡ true
    → is_rising (λ (p : Label × Content) (q : Label × Content). name_lt p.0 q.0)
    (map (λ x. (x, m)) names) ≡ true
paired_rising m [] h = refl
paired_rising m (x ∷ names) h =
    let parts = and_parts (list_all (name_lt x) names) (is_rising name_lt names) h in
    and_from (list_all (λ (q : Label × Content). name_lt x q.0) (map (λ y. (y, m)) names)) _
    (all names parts.0) (paired_rising m names parts.1)
  where
    all : (names : List Label) → list_all (name_lt x) names ≡ true
        → list_all (λ (q : Label × Content). name_lt x q.0) (map (λ y. (y, m)) names) ≡ true
    all [] k = refl
    all (y ∷ names) k =
        let parts = and_parts (name_lt x y) (list_all (name_lt x) names) k in
        and_from (name_lt x y) _ parts.0 (all names parts.1)

paired_within : (limits : Limits) (m : Content) (names : List Label)
    → ((x : Label) → has_name names x ≡ true → IsNameOf limits x)
    → list_all (λ (pair : Label × Content). is_within limits pair.0) (map (λ x. (x, m)) names)
    ≡ true
paired_within limits m [] h = refl
paired_within limits m (x ∷ names) h =
    and_from (is_within limits x) _ (within (h x (or_left (same_name x x) _ (same_name-same x))))
    (paired_within limits m names (λ y k. h y (or_right (same_name x y) _ k)))
  where
    within : IsNameOf limits x → is_within limits x ≡ true
    within k =
        and_from (is_node limits.n x.sender) _
        (and_from (nat_lt 0 x.sender) _ (lt-ltb 0 x.sender k.label.sender.0)
        (lt-ltb x.sender (suc limits.n) (let s = k.sender in omega arith)))
        (and_from (nat_le 1 x.seq) _ (le-leb 1 x.seq k.label.seq.0) (le-leb x.seq limits.cap k.seq))

-- no more names are certified than n nodes may use
pub certified_bounded : (d : Delivery) → IsDelivery d
    → length d.certified ≤ d.limits.n * d.limits.cap
certified_bounded d h =
    let most : length (map (λ x. (x, nothing)) d.certified) ≤ d.limits.n * d.limits.cap =
    bounded d.limits (map (λ x. (x, nothing)) d.certified)
    (paired_rising nothing d.certified h.order)
    (paired_within d.limits nothing d.certified h.within) in
    subst (λ (k : ℕ). k ≤ d.limits.n * d.limits.cap)
    (length-map d.certified (λ x. (x, nothing))) most
  where
    nothing : Content
    nothing = record { client = 0; number = 0; payload = [] }

-- one more record can be counted
pub one_more_fits : {A : Type 0} (h : Held A) → IsHeld h → IsPendingSet h.pending
    → IsDelivery h.fifo → Fits w32 (h.stored + 1)
one_more_fits h held pending delivery =
    let pairs : length h.pending.pairs ≤ h.pending.limits.n * h.pending.limits.cap =
    length_bounded h.pending pending in
    let names : length h.fifo.certified ≤ h.fifo.limits.n * h.fifo.limits.cap =
    certified_bounded h.fifo delivery in
    let most_pairs : h.pending.limits.n * h.pending.limits.cap ≤ MAX_NODES * MAX_CAP =
    mul-le h.pending.limits.n h.pending.limits.cap MAX_NODES MAX_CAP pending.limits.1
    pending.limits.3 in
    let most_names : h.fifo.limits.n * h.fifo.limits.cap ≤ MAX_NODES * MAX_CAP =
    mul-le h.fifo.limits.n h.fifo.limits.cap MAX_NODES MAX_CAP delivery.limits.1
    delivery.limits.3 in
    let same : length h.fifo.certified ≡ length h.acks.certified = ap length held.certified in
    omega (arith, pairs, names, most_pairs, most_names, same, held.count)

-- mapping the result of a look-up that succeeds gives some value
pub some-pending : {X Y : Type 0} (f : X → Y) (o : Option X) (r : Option Y) → is_some o ≡ true
    → option_map f o ≡ r → (y : Y) × (r ≡ Some y)
some-pending f None r e h = absurd (false≢true e)
some-pending f (Some x) r e h = (f x, sym h)
