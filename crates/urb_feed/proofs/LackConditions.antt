-- The tests of what a node lacks, over plain values.
use Rattle.std.proofs.Common.{Bool, cond, false, inl, inr, max, nat_le, nat_lt, refl, suc, true, ℕ}
use Rattle.std.proofs.Common.{arith, sym, ◌&&◌, ◌<◌, ◌≡◌, ◌≤◌, ◌⊎◌}
use Rattle.std.proofs.lemmas.Bool.{and_left, and_right, cases_lt, le-ltb, lt-leb}

-- what is not stored is lacking nowhere
pub unsent : (at from positive absent : Bool) (j own : ℕ) → cond from own 0 < j
    → (at && (from && (positive && (nat_le j own && absent)))) ≡ false
unsent at true positive absent j own h =
    and_right at _ (and_right positive _ (and_left (nat_le j own) absent (lt-leb j own h)))
unsent at false positive absent j own h = and_right at false refl

-- what a node of the group has stored is lacking at another node if that node's log doesn't have it
pub sent : (at from positive absent : Bool) (j own : ℕ) → at ≡ true → positive ≡ true → 1 ≤ j
    → (at && (from && (positive && (nat_le j own && absent))))
    ≡ (nat_le j (cond from own 0) && absent)
sent at true positive absent j own here low h = rw (here, low) refl
sent at false positive absent j own here low h =
    rw here (sym (and_left (nat_le j 0) absent (lt-leb j 0 h)))

-- no number is both up to a count and above it
pub neither : (j own delivered : ℕ) → own ≤ delivered → (nat_le j own && nat_lt delivered j) ≡ false
neither j own delivered h = at (cases_lt own j)
  where
    at : (own < j) ⊎ (j ≤ own) → (nat_le j own && nat_lt delivered j) ≡ false
    at (inl above) = and_left (nat_le j own) (nat_lt delivered j) (lt-leb j own above)
    at (inr within) =
        and_right (nat_le j own) (nat_lt delivered j) (le-ltb delivered j (omega arith))

-- Nothing is lacking from `after` up to `upto` if all that is stored is delivered or at most
-- `after`, and if `upto` is delivered or at most `after`.
pub skipped : (j own delivered after upto : ℕ) → suc after ≤ j → j ≤ upto
    → (own ≤ max delivered after) ⊎ (upto ≤ max delivered after)
    → (nat_le j own && nat_lt delivered j) ≡ false
skipped j own delivered after upto low high h = at (cases_lt own j)
  where
    below : j ≤ own → (own ≤ max delivered after) ⊎ (upto ≤ max delivered after) → j ≤ delivered
    below within (inl few) = omega arith
    below within (inr few) = omega arith

    at : (own < j) ⊎ (j ≤ own) → (nat_le j own && nat_lt delivered j) ≡ false
    at (inl above) = and_left (nat_le j own) (nat_lt delivered j) (lt-leb j own above)
    at (inr within) =
        and_right (nat_le j own) (nat_lt delivered j) (le-ltb delivered j (below within h))
