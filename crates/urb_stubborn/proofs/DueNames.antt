-- Which names are due: visiting one node after another, and after more was heard.
use Rattle.urb_stubborn.proofs.Common.{Bool, Label, List, [], acked, ap, arith, cond, false, filter}
use Rattle.urb_stubborn.proofs.Common.{is_due, not, numbers_from, or_parts, others, refl, suc, true}
use Rattle.urb_stubborn.proofs.Common.{ℕ, ◌&&◌, ◌+◌, ◌-◌, ◌<◌, ◌==◌, ◌||◌, ◌∙◌, ◌∷◌, ◌≡◌, ◌≤◌}
use Rattle.std.specs.List.{list_any}

-- whether some other node from k to n was not heard
abbrev pub due_from : ℕ → ℕ → List (Label × ℕ) → Label → ℕ → Bool
due_from n p heard x k =
    list_any (λ q. not (acked heard x q)) (filter (λ q. not (q == p)) (numbers_from k (suc n - k)))

-- a name is due exactly if some other node from 1 on was not heard
pub due_start : (n p : ℕ) (heard : List (Label × ℕ)) (x : Label)
    → due_from n p heard x 1 ≡ is_due n p heard x
due_start n p heard x =
    let all : suc n - 1 ≡ n = omega arith in
    ap (λ (m : ℕ). list_any (λ q. not (acked heard x q))
    (filter (λ q. not (q == p)) (numbers_from 1 m))) all

-- a name is due from a node on if that is another node, not heard, or if it is due from the next on
pub due_next : (n p : ℕ) (heard : List (Label × ℕ)) (x : Label) (k : ℕ) → k ≤ n
    → due_from n p heard x k ≡ ((not (k == p) && not (acked heard x k))
    || due_from n p heard x (k + 1))
due_next n p heard x k h =
    let left : suc n - k ≡ suc (suc n - (k + 1)) = omega arith in
    let next : suc k ≡ k + 1 = omega arith in
    ap (λ (m : ℕ). list_any (λ q. not (acked heard x q))
    (filter (λ q. not (q == p)) (numbers_from k m))) left
    ∙ (at (not (k == p))
    ∙ ap (λ (i : ℕ). (not (k == p) && not (acked heard x k))
    || list_any (λ q. not (acked heard x q))
    (filter (λ q. not (q == p)) (numbers_from i (suc n - (k + 1))))) next)
  where
    rest : List ℕ
    rest = filter (λ q. not (q == p)) (numbers_from (suc k) (suc n - (k + 1)))

    at : (b : Bool) → list_any (λ q. not (acked heard x q)) (cond b (k ∷ rest) rest)
        ≡ ((b && not (acked heard x k)) || list_any (λ q. not (acked heard x q)) rest)
    at true = refl
    at false = refl

-- a name isn't due from past the last node on
pub due_end : (n p : ℕ) (heard : List (Label × ℕ)) (x : Label) (k : ℕ) → n < k
    → due_from n p heard x k ≡ false
due_end n p heard x k h =
    let left : suc n - k ≡ 0 = omega arith in
    ap (λ (m : ℕ). list_any (λ q. not (acked heard x q))
    (filter (λ q. not (q == p)) (numbers_from k m))) left

-- when more was heard, no more names are due
pub due_less : (n p : ℕ) (old new : List (Label × ℕ)) (x : Label)
    → ((q : ℕ) → acked old x q ≡ true → acked new x q ≡ true) → is_due n p old x ≡ false
    → is_due n p new x ≡ false
due_less n p old new x more none = among (others n p) none
  where
    heard : (b c : Bool) → not b ≡ false → (b ≡ true → c ≡ true) → not c ≡ false
    heard true c e h = ap not (h refl)
    heard false c e h = absurd cc

    among : (ns : List ℕ) → list_any (λ q. not (acked old x q)) ns ≡ false
        → list_any (λ q. not (acked new x q)) ns ≡ false
    among [] e = refl
    among (q ∷ ns) e =
        let parts = or_parts (not (acked old x q)) (list_any (λ r. not (acked old x r)) ns) e in
        ap (λ (b : Bool). b || list_any (λ r. not (acked new x r)) ns)
        (heard (acked old x q) (acked new x q) parts.0 (more q)) ∙ among ns parts.1
