-- The greatest possible number of pairs.
use Rattle.urb_pending.proofs.Common.{Content, Fits, IsPendingSet, Label, Limits, List, PendingSet}
use Rattle.urb_pending.proofs.Common.{[], and_parts, are_rising, arith, is_node, is_within, length}
use Rattle.urb_pending.proofs.Common.{list_all, ltb-true, name_lt, nat_le, nat_lt, or_cases, suc}
use Rattle.urb_pending.proofs.Common.{true, w32, ℕ, ⊎_elim, ◌&&◌, ◌*◌, ◌+◌, ◌<◌, ◌==◌, ◌∷◌, ◌≡◌}
use Rattle.urb_pending.proofs.Common.{◌≤◌}
use Rattle.std.proofs.Common.{eqb-true}
use Rattle.std.proofs.Math.Nat.{mul-le-mul_right, suc-mul}
use Rattle.std.proofs.lemmas.Nat.{mul-le}
use Rattle.std.proofs.lemmas.Bool.{leb-true}
use Rattle.urb_names.specs.declared.limits.TheConstants.{MAX_CAP, MAX_NODES}

-- a name within the limits
record InRange (limits : Limits) (x : Label) : Type 0 where
  sender_low : 1 ≤ x.sender
  sender_high : x.sender ≤ limits.n
  seq_low : 1 ≤ x.seq
  seq_high : x.seq ≤ limits.cap

in_range : (limits : Limits) (x : Label) → is_within limits x ≡ true → InRange limits x
in_range limits x e =
    let parts =
    and_parts (is_node limits.n x.sender) (nat_le 1 x.seq && nat_le x.seq limits.cap) e in
    let sender = and_parts (nat_lt 0 x.sender) (nat_lt x.sender (suc limits.n)) parts.0 in
    let seq = and_parts (nat_le 1 x.seq) (nat_le x.seq limits.cap) parts.1 in
    record {
      sender_low = omega (arith, ltb-true 0 x.sender sender.0);
      sender_high = omega (arith, ltb-true x.sender (suc limits.n) sender.1);
      seq_low = leb-true 1 x.seq seq.0;
      seq_high = leb-true x.seq limits.cap seq.1;
    }

-- the place of a name among all names that the limits allow
abbrev rank : ℕ → Label → ℕ
rank cap x = x.sender * cap + x.seq

rank_grows : (limits : Limits) (x y : Label) → InRange limits x → InRange limits y
    → name_lt x y ≡ true → rank limits.cap x + 1 ≤ rank limits.cap y
rank_grows limits x y h k e =
    ⊎_elim (λ f. other (ltb-true x.sender y.sender f))
    (λ f. same (and_parts (x.sender == y.sender) (nat_lt x.seq y.seq) f))
    (or_cases (nat_lt x.sender y.sender) ((x.sender == y.sender) && nat_lt x.seq y.seq) e)
  where
    other : x.sender < y.sender → rank limits.cap x + 1 ≤ rank limits.cap y
    other f =
        let more : suc x.sender * limits.cap ≤ y.sender * limits.cap =
        mul-le-mul_right limits.cap (omega (arith, f)) in
        omega (arith, more, suc-mul x.sender limits.cap, h.seq_high, k.seq_low)

    same : ((x.sender == y.sender) ≡ true) × (nat_lt x.seq y.seq ≡ true)
        → rank limits.cap x + 1 ≤ rank limits.cap y
    same parts =
        let equal : x.sender ≡ y.sender = eqb-true x.sender y.sender parts.0 in
        let less : x.seq < y.seq = ltb-true x.seq y.seq parts.1 in
        rw equal (omega (arith, less))

bounded_from : (limits : Limits) (p : Label × Content) (ps : List (Label × Content))
    → are_rising (p ∷ ps) ≡ true → list_all (λ pair. is_within limits pair.0) (p ∷ ps) ≡ true
    → length ps + rank limits.cap p.0 ≤ limits.n * limits.cap + limits.cap
bounded_from limits p [] h k =
    let here = in_range limits p.0 (and_parts _ _ k).0 in
    let less : p.0.sender * limits.cap ≤ limits.n * limits.cap =
    mul-le-mul_right limits.cap here.sender_high in
    omega (arith, less, here.seq_high)
bounded_from limits p (q ∷ qs) h k =
    let rises = and_parts (list_all (λ r. name_lt p.0 r.0) (q ∷ qs)) (are_rising (q ∷ qs)) h in
    let within =
    and_parts (is_within limits p.0) (list_all (λ pair. is_within limits pair.0) (q ∷ qs)) k in
    let first = and_parts (name_lt p.0 q.0) (list_all (λ r. name_lt p.0 r.0) qs) rises.0 in
    let next =
    and_parts (is_within limits q.0) (list_all (λ pair. is_within limits pair.0) qs) within.1 in
    let rest : length qs + rank limits.cap q.0 ≤ limits.n * limits.cap + limits.cap =
    bounded_from limits q qs rises.1 within.1 in
    let more : rank limits.cap p.0 + 1 ≤ rank limits.cap q.0 =
    rank_grows limits p.0 q.0 (in_range limits p.0 within.0)
    (in_range limits q.0 next.0) first.0 in
    omega (arith, rest, more)

-- rising pairs within the limits are at most as many as the number of nodes times the cap
pub bounded : (limits : Limits) (ps : List (Label × Content)) → are_rising ps ≡ true
    → list_all (λ pair. is_within limits pair.0) ps ≡ true → length ps ≤ limits.n * limits.cap
bounded limits [] h k = omega arith
bounded limits (p ∷ ps) h k =
    let here = in_range limits p.0 (and_parts (is_within limits p.0) _ k).0 in
    let low : 1 * limits.cap ≤ p.0.sender * limits.cap =
    mul-le-mul_right limits.cap here.sender_low in
    omega (arith, bounded_from limits p ps h k, low, here.seq_low)

-- a pending set has at most as many pairs as the number of nodes times the cap
pub length_bounded : (set : PendingSet) → IsPendingSet set
    → length set.pairs ≤ set.limits.n * set.limits.cap
length_bounded set h = bounded set.limits set.pairs h.rising h.within

-- the number of a pending set's pairs fits in 32 bits
pub length_fits : (set : PendingSet) → IsPendingSet set → Fits w32 (length set.pairs)
length_fits set h =
    let most : set.limits.n * set.limits.cap ≤ MAX_NODES * MAX_CAP =
    mul-le set.limits.n set.limits.cap MAX_NODES MAX_CAP h.limits.1 h.limits.3 in
    omega (arith, length_bounded set h, most)
