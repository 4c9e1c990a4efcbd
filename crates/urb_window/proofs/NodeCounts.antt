-- How many nodes pass a test.
use Rattle.urb_window.proofs.Common.{Bool, ap, arith, cases_eq, cond, count_by, eq-eqb, false}
use Rattle.urb_window.proofs.Common.{false≢true, inl, inr, ne_eqb, numbers_from, refl, subst, suc}
use Rattle.urb_window.proofs.Common.{sym, true, zero, ℕ, ◌+◌, ◌-◌, ◌<◌, ◌==◌, ◌||◌, ◌∙◌, ◌≡◌, ◌≤◌}
use Rattle.urb_window.proofs.Common.{◌⊎◌}
use Rattle.std.proofs.lemmas.List.Sums.{sum_by-cons}

abbrev one_of : Bool → ℕ
one_of b = cond b 1 0

-- the first number, and the others
count_first : (test : ℕ → Bool) (first left : ℕ)
    → count_by test (numbers_from first (suc left)) ≡ cond (test first) 1 0 + count_by test
    (numbers_from (suc first) left)
count_first test first left =
    sum_by-cons (λ x. cond (test x) 1 0) first (numbers_from (suc first) left)

-- the nodes from one on that pass a test are that node, if it passes, and those after it
pub count_of_next : (test : ℕ → Bool) (k n : ℕ) → k ≤ n
    → count_by test (numbers_from k (suc n - k)) ≡ cond (test k) 1 0 + count_by test
    (numbers_from (k + 1) (suc n - (k + 1)))
count_of_next test k n h =
    let left : suc n - k ≡ suc (suc n - (k + 1)) = omega arith in
    let next : suc k ≡ k + 1 = omega arith in
    ap (λ (m : ℕ). count_by test (numbers_from k m)) left
    ∙ (count_first test k (suc n - (k + 1))
    ∙ ap (λ (i : ℕ). cond (test k) 1 0 + count_by test (numbers_from i (suc n - (k + 1)))) next)

-- from past the last node on, no node passes a test
pub count_of_none : (test : ℕ → Bool) (k n : ℕ) → n < k
    → count_by test (numbers_from k (suc n - k)) ≡ 0
count_of_none test k n h =
    let left : suc n - k ≡ 0 = omega arith in ap (λ (m : ℕ). count_by test (numbers_from k m)) left

-- no more pass than there are
pub count_most : (test : ℕ → Bool) (first count : ℕ)
    → count_by test (numbers_from first count) ≤ count
count_most test first zero = omega arith
count_most test first (suc count) =
    subst (λ (m : ℕ). m ≤ suc count) (sym (count_first test first count))
    (at (test first) (count_most test (suc first) count))
  where
    at : (b : Bool) → count_by test (numbers_from (suc first) count) ≤ count
        → cond b 1 0 + count_by test (numbers_from (suc first) count) ≤ suc count
    at true h = omega arith
    at false h = omega arith

-- if one fails, fewer pass
pub count_fewer : (test : ℕ → Bool) (first count q : ℕ) → first ≤ q → q < first + count
    → test q ≡ false → count_by test (numbers_from first count) < count
count_fewer test first zero q l u e = absurd (omega arith)
count_fewer test first (suc count) q l u e =
    subst (λ (m : ℕ). m < suc count) (sym (count_first test first count))
    (at (cases_eq first q) (test first) refl (count_most test (suc first) count)
    (count_fewer test (suc first) count q))
  where
    at : (first ≡ q) ⊎ (first ≡ q → ⊥) → (b : Bool) → test first ≡ b
        → count_by test (numbers_from (suc first) count) ≤ count
        → (suc first ≤ q → q < suc first + count → test q ≡ false
        → count_by test (numbers_from (suc first) count) < count)
        → cond b 1 0 + count_by test (numbers_from (suc first) count) < suc count
    at here false f most fewer = omega arith
    at (inl here) true f most fewer = absurd (false≢true (sym e ∙ (ap test (sym here) ∙ f)))
    at (inr here) true f most fewer =
        let less : count_by test (numbers_from (suc first) count) < count =
        fewer (omega arith) (omega arith) e in omega arith

-- two tests that agree on each number give the same count
pub count_alike : (f g : ℕ → Bool) (first count : ℕ)
    → ((q : ℕ) → first ≤ q → q < first + count → f q ≡ g q)
    → count_by f (numbers_from first count) ≡ count_by g (numbers_from first count)
count_alike f g first zero h = refl
count_alike f g first (suc count) h =
    count_first f first count
    ∙ (ap (λ (b : Bool). cond b 1 0 + count_by f (numbers_from (suc first) count))
    (h first (omega arith) (omega arith))
    ∙ (ap (λ (m : ℕ). cond (g first) 1 0 + m)
    (count_alike f g (suc first) count (λ q l u. h q (omega arith) (omega arith)))
    ∙ sym (count_first g first count)))

-- if the test passes one more number, the count is one greater
pub count_one_more : (test : ℕ → Bool) (first count q : ℕ) → first ≤ q → q < first + count
    → test q ≡ false → count_by (λ r. (q == r) || test r) (numbers_from first count) ≡ suc
    (count_by test (numbers_from first count))
count_one_more test first zero q l u e = absurd (omega arith)
count_one_more test first (suc count) q l u e =
    count_first (λ r. (q == r) || test r) first count
    ∙ (at (cases_eq q first) (count_one_more test (suc first) count q)
    ∙ ap suc (sym (count_first test first count)))
  where
    at : (q ≡ first) ⊎ (q ≡ first → ⊥)
        → (suc first ≤ q → q < suc first + count → test q ≡ false
        → count_by (λ r. (q == r) || test r) (numbers_from (suc first) count) ≡ suc
        (count_by test (numbers_from (suc first) count)))
        → cond ((q == first) || test first) 1 0 + count_by (λ r. (q == r) || test r)
        (numbers_from (suc first) count) ≡ suc
        (cond (test first) 1 0 + count_by test (numbers_from (suc first) count))
    at (inl here) ih =
        let rest : count_by (λ r. (q == r) || test r) (numbers_from (suc first) count)
        ≡ count_by test (numbers_from (suc first) count) =
        count_alike (λ r. (q == r) || test r) test (suc first) count
        (λ r m v. ap (λ (b : Bool). b || test r) (ne_eqb q r (λ f. omega arith))) in
        let yes : one_of ((q == first) || test first) ≡ 1 =
        ap (λ (b : Bool). one_of (b || test first)) (eq-eqb q first here) in
        let no : one_of (test first) ≡ 0 = ap one_of (ap test (sym here) ∙ e) in
        omega arith
    at (inr here) ih =
        let rest : count_by (λ r. (q == r) || test r) (numbers_from (suc first) count) ≡ suc
        (count_by test (numbers_from (suc first) count)) = ih (omega arith) (omega arith) e in
        let same : one_of ((q == first) || test first) ≡ one_of (test first) =
        ap (λ (b : Bool). one_of (b || test first)) (ne_eqb q first here) in
        omega arith
