-- What an image says about a memory, with and without a doubtful record.
use Rattle.urb_node.proofs.Common.{Bool, Cert, Content, Entry, ForSome, Held, IsDelivery, IsHeld}
use Rattle.urb_node.proofs.Common.{IsNextHeld, IsNextIn, IsOtherThan, IsVerdict, Label, Limits}
use Rattle.urb_node.proofs.Common.{List, Memory, Neither, None, Option, Pend, PendCert, SaysWith}
use Rattle.urb_node.proofs.Common.{Some, [], add-one, and_from, and_parts, ap, ap₂, arith, cert}
use Rattle.urb_node.proofs.Common.{certified_by, delivered_by, false, false≢true, has_name}
use Rattle.urb_node.proofs.Common.{has_pair, has_pair-inserted, in_range, inserted, length}
use Rattle.urb_node.proofs.Common.{list_all, list_any-append, log, lt-ltb, memory_of, name_of}
use Rattle.urb_node.proofs.Common.{nat_lt, pairs_with, pend, refl, same_list, same_message}
use Rattle.urb_node.proofs.Common.{same_name, same_name-true, same_names, same_pairs, subst, suc}
use Rattle.urb_node.proofs.Common.{sym, tells, true, with_record, ℕ, ⊎_elim, ◌&&◌, ◌++◌, ◌+◌, ◌==◌}
use Rattle.urb_node.proofs.Common.{◌||◌, ◌∙◌, ◌∷◌, ◌≡◌, ◌≤◌}
use Rattle.std.specs.Bool.{MatchBool}
use Rattle.std.proofs.lemmas.Bool.{ltb-true}
use Rattle.urb_node.proofs.JoinedLayers.{with-cases}
use Rattle.urb_node.proofs.ShownNodes.{all_named, pairs-told}

-- ---- ranges

range_is : (size : Limits) (x : Label) → in_range size x ≡ true
    → (x.sender ≤ size.n) × (x.seq ≤ size.cap)
range_is size x h =
    let parts = and_parts (nat_lt x.sender (suc size.n)) (nat_lt x.seq (suc size.cap)) h in
    let sender = ltb-true x.sender (suc size.n) parts.0 in
    let seq = ltb-true x.seq (suc size.cap) parts.1 in
    (omega arith, omega arith)

-- a name within the limits is in their range
pub in_range_is : (size : Limits) (x : Label) → x.sender ≤ size.n → x.seq ≤ size.cap
    → in_range size x ≡ true
in_range_is size x sender seq =
    and_from (nat_lt x.sender (suc size.n)) _ (lt-ltb x.sender (suc size.n) (omega arith))
    (lt-ltb x.seq (suc size.cap) (omega arith))

-- the group may have the name of a record that is next
next_in_range : (a : Memory) (r : Entry) → IsNextIn a r → in_range a.limits (name_of r) ≡ true
next_in_range a (Pend x m) next = (and_parts (in_range a.limits x) _ next.new).0
next_in_range a (PendCert x m) next = (and_parts (in_range a.limits x) _ next.new).0
next_in_range a (Cert x) next = (and_parts (in_range a.limits x) _ next.new).0

-- the name of a record that may come next is add-one that the group may have
pub next_range : (a : Memory) (r : Entry) → IsNextIn a r
    → ((name_of r).sender ≤ a.limits.n) × ((name_of r).seq ≤ a.limits.cap)
next_range a r next = range_is a.limits (name_of r) (next_in_range a r next)

-- ---- a certificate that the group can't have

not_told : (image : List Entry) (pairs : List (Label × Content)) (certified delivered : List Label)
    (count : ℕ) (x : Label) → has_name (cert image) x ≡ true → has_name certified x ≡ false
    → tells image pairs certified delivered count ≡ false
not_told image pairs certified delivered count x here gone =
    at (tells image pairs certified delivered count) refl
  where
    at : (b : Bool) → tells image pairs certified delivered count ≡ b
        → tells image pairs certified delivered count ≡ false
    at false e = e
    at true e =
        let behind = and_parts (same_pairs (pend image) pairs) _ e in
        let names = and_parts (same_names (cert image) certified) _ behind.1 in
        let all = and_parts (list_all (has_name certified) (cert image)) _ names.0 in
        absurd (false≢true (sym gone ∙ all_named (cert image) certified all.0 x here))

-- no memory of the group has it
pub strange_is_neither : {A : Type 0} (h : Held A) (doubt : Option Entry) (image : List Entry)
    (x : Label) → IsHeld h → IsDelivery h.fifo → ForSome doubt (IsNextHeld h)
    → has_name (cert image) x ≡ true → in_range h.config x ≡ false
    → IsVerdict image (memory_of h) doubt Neither
strange_is_neither h doubt image x held delivery next here strange = (
  not_told image h.pending.pairs h.acks.certified h.fifo.log h.stored x here gone,
  with_doubt doubt next,
)
  where
    gone : has_name h.acks.certified x ≡ false
    gone = at (has_name h.acks.certified x) refl
      where
        at : (b : Bool) → has_name h.acks.certified x ≡ b → has_name h.acks.certified x ≡ false
        at false e = e
        at true e =
            let within = delivery.within x (ap (λ names. has_name names x) held.certified ∙ e) in
            let limits = held.fifo_limits in
            absurd (false≢true (sym strange
            ∙ subst (λ (size : Limits). in_range size x ≡ true) limits
            (in_range_is h.fifo.limits x within.sender within.seq)))

    apart : (r : Entry) → IsNextHeld h r → same_name (name_of r) x ≡ false
    apart r n = at (same_name (name_of r) x) refl
      where
        at : (b : Bool) → same_name (name_of r) x ≡ b → same_name (name_of r) x ≡ false
        at false e = e
        at true e =
            absurd (false≢true (sym strange
            ∙ subst (λ (y : Label). in_range h.config y ≡ true) (same_name-true (name_of r) x e)
            (next_in_range (memory_of h) r n)))

    joined : (y : Label) → same_name y x ≡ false
        → has_name (certified_by h.acks.certified (Some (Cert y))) x ≡ false
    joined y n = at (has_name (certified_by h.acks.certified (Some (Cert y))) x) refl
      where
        at : (b : Bool) → has_name (certified_by h.acks.certified (Some (Cert y))) x ≡ b
            → has_name (certified_by h.acks.certified (Some (Cert y))) x ≡ false
        at false e = e
        at true e =
            ⊎_elim (λ k. absurd (false≢true (sym gone ∙ k))) (λ k. absurd (false≢true (sym n ∙ k)))
            (with-cases h.acks.certified y x e)

    with_doubt : (doubt : Option Entry) → ForSome doubt (IsNextHeld h)
        → IsOtherThan image (memory_of h) doubt
    with_doubt None n = tt
    with_doubt (Some (Pend y m)) n = not_told image _ h.acks.certified _ _ x here gone
    with_doubt (Some (PendCert y m)) n =
        not_told image _ _ _ _ x here (joined y (apart (PendCert y m) (n (PendCert y m) refl)))
    with_doubt (Some (Cert y)) n =
        not_told image _ _ _ _ x here (joined y (apart (Cert y) (n (Cert y) refl)))

-- ---- the memory with the doubtful record

behind : (a b : Bool) → (a || (b || false)) ≡ (b || a)
behind true true = refl
behind true false = refl
behind false true = refl
behind false false = refl

-- what an image says about the pairs doesn't depend on their order
moved : (image : List Entry) (pairs : List (Label × Content)) (x : Label) (m : Content)
    (certified delivered : List Label) (count : ℕ)
    → tells image (pairs ++ (x, m) ∷ []) certified delivered count ≡ tells image
    (inserted (x, m) pairs) certified delivered count
moved image pairs x m certified delivered count =
    ap (λ b. b && (same_names (cert image) certified
    && (same_list (log image) delivered && (length image == count))))
    (pairs-told (pend image) (pairs ++ (x, m) ∷ []) (inserted (x, m) pairs) each)
  where
    each : (y : Label) (o : Content)
        → has_pair (pairs ++ (x, m) ∷ []) y o ≡ has_pair (inserted (x, m) pairs) y o
    each y o =
        list_any-append (λ pair. same_name pair.0 y && same_message pair.1 o) pairs ((x, m) ∷ [])
        ∙ (behind (has_pair pairs y o) (same_name x y && same_message m o)
        ∙ sym (has_pair-inserted (x, m) pairs y o))

none_more : (pairs : List (Label × Content)) → pairs ++ [] ≡ pairs
none_more [] = refl
none_more (pair ∷ pairs) = ap (λ ps. pair ∷ ps) (none_more pairs)

-- what it says together with the doubtful record's pair, certificate and release
pub told_with : (a : Memory) (r : Entry) (image : List Entry)
    → tells image (pairs_with a.pairs (Some r)) (certified_by a.certified (Some r))
    (delivered_by a.log a.certified (Some r)) (a.count + 1)
    ≡ tells image (with_record a r None).pairs (with_record a r None).certified
    (with_record a r None).log (with_record a r None).count
told_with a (Pend x m) image =
    ap (tells image (a.pairs ++ (x, m) ∷ []) a.certified a.log) (add-one a.count)
    ∙ moved image a.pairs x m a.certified a.log (suc a.count)
told_with a (PendCert x m) image =
    ap (tells image (a.pairs ++ (x, m) ∷ []) (certified_by a.certified (Some (Cert x)))
    (delivered_by a.log a.certified (Some (Cert x)))) (add-one a.count)
    ∙ moved image a.pairs x m (certified_by a.certified (Some (Cert x)))
    (delivered_by a.log a.certified (Some (Cert x))) (suc a.count)
told_with a (Cert x) image =
    ap₂ (λ pairs count. tells image pairs (certified_by a.certified (Some (Cert x)))
    (delivered_by a.log a.certified (Some (Cert x))) count) (none_more a.pairs) (add-one a.count)

-- whether it says that, if the layers hold these
pub joined_decides : {A : Type 0} (h : Held A) (doubt : Option Entry) (r : Entry)
    (image : List Entry) (certified delivered : List Label) (result : Bool) → IsHeld h
    → doubt ≡ Some r
    → certified ≡ certified_by h.fifo.certified doubt
    → delivered ≡ delivered_by h.fifo.log h.fifo.certified doubt
    → result ≡ tells image (pairs_with h.pending.pairs doubt) certified delivered (h.stored + 1)
    → MatchBool result (SaysWith image (memory_of h) doubt)
    (IsOtherThan image (memory_of h) doubt)
joined_decides h doubt r image certified delivered result held there names released e =
    subst (λ (o : Option Entry). MatchBool result (SaysWith image (memory_of h) o)
    (IsOtherThan image (memory_of h) o)) (sym there) (at result told)
  where
    told : result ≡ tells image (with_record (memory_of h) r None).pairs
        (with_record (memory_of h) r None).certified (with_record (memory_of h) r None).log
        (with_record (memory_of h) r None).count
    told =
        e
        ∙ (ap₂ (λ xs ys. tells image (pairs_with h.pending.pairs doubt) xs ys (h.stored + 1))
        names released
        ∙ (ap₂ (λ (xs : List Label) (o : Option Entry).
        tells image (pairs_with h.pending.pairs o) (certified_by xs o)
        (delivered_by h.fifo.log xs o) (h.stored + 1)) held.certified there
        ∙ told_with (memory_of h) r image))

    at : (b : Bool) → b ≡ tells image (with_record (memory_of h) r None).pairs
        (with_record (memory_of h) r None).certified (with_record (memory_of h) r None).log
        (with_record (memory_of h) r None).count
        → MatchBool b (SaysWith image (memory_of h) (Some r))
        (IsOtherThan image (memory_of h) (Some r))
    at true f = sym f
    at false f = sym f
