-- The nodes counted for a name, after one more is counted.
use Rattle.std.proofs.Common.{◌≡◌, ℕ, suc, ◌+◌, ◌<◌, ◌≤◌, Bool, true, false, ◌&&◌, ◌||◌, ◌==◌, List}
use Rattle.std.proofs.Common.{◌∷◌, count_by, ne_eqb, not, refl, ap, ◌∙◌, arith}
use Rattle.std.specs.Prelude.{if◌then◌else◌}
use Rattle.std.proofs.lemmas.Bool.{cond-true, cond-false, cond_both, and_from, and_left, and_right}
use Rattle.urb_names.specs.LabelsAndContents.{Label}
use Rattle.urb_names.specs.Names.{same_name}
use Rattle.urb_names.specs.Nodes.{nodes, is_majority}
use Rattle.urb_names.specs.Acknowledgements.{acked}
use Rattle.urb_names.proofs.SameNames.{same_name-same}
use Rattle.urb_majority.specs.Acks.{AckSet}
use Rattle.urb_majority.specs.AckOutcomes.{answer_of, has_majority, has_majority_with}
use Rattle.urb_majority.specs.declared.acks.Noted.TheVariants.{Again, Counted, Reached}
use Rattle.urb_window.proofs.NodeCounts.{count_alike, count_one_more}

-- counting a new node of the group for a name raises its count by one
pub count_with : (acks : List (Label × ℕ)) (x : Label) (q n : ℕ) → 0 < q → q ≤ n
    → acked acks x q ≡ false → count_by (acked ((x, q) ∷ acks) x) (nodes n) ≡ suc
    (count_by (acked acks x) (nodes n))
count_with acks x q n l u e =
    count_alike (acked ((x, q) ∷ acks) x) (λ r. (q == r) || acked acks x r) 1 n
    (λ r m v. ap (λ (b : Bool). (b && (q == r)) || acked acks x r) (same_name-same x))
    ∙ count_one_more (acked acks x) 1 n q (omega arith) (omega arith) e

-- counting a new node makes a majority exactly if one node more than those counted is one
pub with_new : (a : AckSet) (x : Label) (q : ℕ) → 0 < q → q ≤ a.limits.n
    → acked a.counted x q ≡ false
    → has_majority_with a x q ≡ is_majority
    (count_by (acked a.counted x) (nodes a.limits.n) + 1) a.limits.n
with_new a x q l u e =
    ap (λ (acks : List (Label × ℕ)).
    is_majority (count_by (acked acks x) (nodes a.limits.n)) a.limits.n)
    (cond-false (acked a.counted x q) a.counted ((x, q) ∷ a.counted) e)
    ∙ ap (λ (m : ℕ). is_majority m a.limits.n)
    (count_with a.counted x q a.limits.n l u e ∙ omega arith)

-- a node above n makes no difference
pub with_other : (a : AckSet) (x : Label) (q : ℕ) → a.limits.n < q
    → has_majority_with a x q ≡ is_majority
    (count_by (acked a.counted x) (nodes a.limits.n)) a.limits.n
with_other a x q h =
    cond_both (acked a.counted x q) a.counted ((x, q) ∷ a.counted)
    (λ acks. is_majority (count_by (acked acks x) (nodes a.limits.n)) a.limits.n ≡ is_majority
    (count_by (acked a.counted x) (nodes a.limits.n)) a.limits.n)
    (λ e. refl)
    (λ e. ap (λ (m : ℕ). is_majority m a.limits.n)
    (count_alike (acked ((x, q) ∷ a.counted) x) (acked a.counted x) 1 a.limits.n
    (λ r l u. ap (λ (b : Bool). b || acked a.counted x r)
    (and_right (same_name x x) (q == r) (ne_eqb q r (λ f. omega arith))))))

-- counting a node again makes a majority exactly if the nodes counted are one
pub with_counted : (a : AckSet) (x : Label) (q : ℕ) → acked a.counted x q ≡ true
    → has_majority_with a x q ≡ is_majority
    (count_by (acked a.counted x) (nodes a.limits.n)) a.limits.n
with_counted a x q e =
    ap (λ (acks : List (Label × ℕ)).
    is_majority (count_by (acked acks x) (nodes a.limits.n)) a.limits.n)
    (cond-true (acked a.counted x q) a.counted ((x, q) ∷ a.counted) e)

-- ---- what an acknowledgement returns

-- a node that is counted already is answered Again
pub answer_again : (a : AckSet) (x : Label) (q : ℕ) → acked a.counted x q ≡ true
    → answer_of a x q ≡ Again
answer_again a x q e =
    cond-true (acked a.counted x q) Again
    (if has_majority_with a x q && not (has_majority a x) then Reached else Counted) e

-- a new node that completes a majority is answered Reached
pub answer_reached : (a : AckSet) (x : Label) (q : ℕ) → acked a.counted x q ≡ false
    → has_majority_with a x q ≡ true → has_majority a x ≡ false → answer_of a x q ≡ Reached
answer_reached a x q e f h =
    cond-false (acked a.counted x q) Again
    (if has_majority_with a x q && not (has_majority a x) then Reached else Counted) e
    ∙ cond-true (has_majority_with a x q && not (has_majority a x)) Reached Counted
    (and_from (has_majority_with a x q) (not (has_majority a x)) f (ap not h))

-- a new node that leaves the name without a majority is answered Counted
pub answer_few : (a : AckSet) (x : Label) (q : ℕ) → acked a.counted x q ≡ false
    → has_majority_with a x q ≡ false → answer_of a x q ≡ Counted
answer_few a x q e f =
    cond-false (acked a.counted x q) Again
    (if has_majority_with a x q && not (has_majority a x) then Reached else Counted) e
    ∙ cond-false (has_majority_with a x q && not (has_majority a x)) Reached Counted
    (and_left (has_majority_with a x q) (not (has_majority a x)) f)

-- a new node for a name that had a majority already is answered Counted
pub answer_more : (a : AckSet) (x : Label) (q : ℕ) → acked a.counted x q ≡ false
    → has_majority a x ≡ true → answer_of a x q ≡ Counted
answer_more a x q e h =
    cond-false (acked a.counted x q) Again
    (if has_majority_with a x q && not (has_majority a x) then Reached else Counted) e
    ∙ cond-false (has_majority_with a x q && not (has_majority a x)) Reached Counted
    (and_right (has_majority_with a x q) (not (has_majority a x)) (ap not h))
