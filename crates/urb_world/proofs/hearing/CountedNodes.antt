-- Acknowledgements when a node is counted, and when a record is stored.
use Rattle.urb_world.proofs.Common.{Cause, Content, Label, List, None, Option, Some, [], acked}
use Rattle.urb_world.proofs.Common.{and_from, and_parts, cond_both, eq-eqb, eqb-true, false≢true}
use Rattle.urb_world.proofs.Common.{has_pair, inl, inr, or_cases, or_left, or_right, refl}
use Rattle.urb_world.proofs.Common.{same_message, same_name, same_name-same, same_name-true, true}
use Rattle.urb_world.proofs.Common.{with_ack, with_cause, with_heard, ℕ, ⊎_elim, ◌&&◌, ◌==◌, ◌||◌}
use Rattle.urb_world.proofs.Common.{◌∷◌, ◌≡◌, ◌⊎◌}
use Rattle.urb_node.specs.Part.{self_acks}

-- ---- one node more

-- a node that is counted stays counted
pub acked-stays : (acks : List (Label × ℕ)) (x : Label) (q : ℕ) (y : Label) (z : ℕ)
    → acked acks y z ≡ true → acked (with_ack acks x q) y z ≡ true
acked-stays acks x q y z h =
    cond_both (acked acks x q) acks ((x, q) ∷ acks) (λ a. acked a y z ≡ true) (λ _. h)
    (λ _. or_right (same_name x y && (q == z)) (acked acks y z) h)

-- a node is counted once its acknowledgement is added
pub acked-itself : (acks : List (Label × ℕ)) (x : Label) (q : ℕ)
    → acked (with_ack acks x q) x q ≡ true
acked-itself acks x q =
    cond_both (acked acks x q) acks ((x, q) ∷ acks) (λ a. acked a x q ≡ true) (λ h. h)
    (λ _. or_left (same_name x x && (q == q)) (acked acks x q)
    (and_from (same_name x x) (q == q) (same_name-same x) (eq-eqb q q refl)))

-- a node that is counted was counted before, or is the new one
pub acked-cases : (acks : List (Label × ℕ)) (x : Label) (q : ℕ) (y : Label) (z : ℕ)
    → acked (with_ack acks x q) y z ≡ true → (acked acks y z ≡ true) ⊎ ((x ≡ y) × (q ≡ z))
acked-cases acks x q y z =
    cond_both (acked acks x q) acks ((x, q) ∷ acks)
    (λ a. acked a y z ≡ true → (acked acks y z ≡ true) ⊎ ((x ≡ y) × (q ≡ z))) (λ _ h. inl h)
    (λ _ h. new h)
  where
    new : ((same_name x y && (q == z)) || acked acks y z) ≡ true
        → (acked acks y z ≡ true) ⊎ ((x ≡ y) × (q ≡ z))
    new h =
        ⊎_elim (λ e. let parts = and_parts (same_name x y) (q == z) e in
        inr (same_name-true x y parts.0, eqb-true q z parts.1)) (λ e. inl e)
        (or_cases (same_name x y && (q == z)) (acked acks y z) h)

-- ---- a record that is stored

-- a node that is counted stays so when the causing node is counted
pub cause-stays : (acks : List (Label × ℕ)) (x : Label) (cause : Option Cause) (y : Label) (z : ℕ)
    → acked acks y z ≡ true → acked (with_cause acks x cause) y z ≡ true
cause-stays acks x None y z h = h
cause-stays acks x (Some cause) y z h = acked-stays acks x cause.source y z h

-- a certificate that is heard was heard before, or belongs to the causing node
pub heard-cases : (heard : List (Label × ℕ)) (x : Label) (node : Option ℕ) (y : Label) (z : ℕ)
    → acked (with_heard heard x node) y z ≡ true
    → (acked heard y z ≡ true) ⊎ ((x ≡ y) × (node ≡ Some z))
heard-cases heard x None y z h = inl h
heard-cases heard x (Some q) y z h =
    ⊎_elim (λ e. inl e) (λ e. inr (e.0, some_same e.1)) (acked-cases heard x q y z h)
  where
    some_same : q ≡ z → Some q ≡ Some z
    some_same e = cc

-- ---- a node's own

-- a node counts itself for each of its pairs
pub itself-acked : (p : ℕ) (pairs : List (Label × Content)) (x : Label) (m : Content)
    → has_pair pairs x m ≡ true → acked (self_acks p pairs) x p ≡ true
itself-acked p [] x m h = absurd (false≢true h)
itself-acked p (pair ∷ pairs) x m h =
    ⊎_elim (λ e. or_left (same_name pair.0 x && (p == p)) _
    (and_from (same_name pair.0 x) (p == p)
    (and_parts (same_name pair.0 x) (same_message pair.1 m) e).0 (eq-eqb p p refl)))
    (λ e. or_right (same_name pair.0 x && (p == p)) _ (itself-acked p pairs x m e))
    (or_cases (same_name pair.0 x && same_message pair.1 m) (has_pair pairs x m) h)
