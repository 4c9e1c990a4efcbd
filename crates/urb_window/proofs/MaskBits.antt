-- The bits of a mask when one more is set.
use Rattle.std.proofs.Common.{◌≡◌, ℕ, zero, suc, ◌+◌, ◌*◌, ◌/◌, ◌%◌, ◌^◌, ◌<◌, Bool, false, ◌||◌}
use Rattle.std.proofs.Common.{◌==◌, sym, ap, ◌∙◌, inl, inr, ◌⊎◌, arith, eq-eqb, ne_eqb}
use Rattle.std.proofs.lemmas.Bool.{cases_eq, eqb-false}
use Rattle.std.proofs.lemmas.Nat.{shr-shr}

-- whether the bit at a place of a number is set, counted from the lowest
pub is_set : ℕ → ℕ → Bool
is_set mask zero = mask % 2 == 1
is_set mask (suc place) = is_set (mask / 2) place

-- the bit at a place is the lowest bit of the quotient by that power of two
pub set_is : (mask place : ℕ) → ((mask / 2 ^ place) % 2 == 1) ≡ is_set mask place
unfolding is_set
set_is mask zero = let same : mask / 2 ^ 0 ≡ mask = omega arith in ap (λ (m : ℕ). m % 2 == 1) same
set_is mask (suc place) =
    let next : 1 + place ≡ suc place = omega arith in
    let halved : mask / 2 ^ suc place ≡ mask / 2 / 2 ^ place =
    ap (λ (k : ℕ). mask / 2 ^ k) (sym next) ∙ sym (shr-shr mask 1 place) in
    ap (λ (m : ℕ). m % 2 == 1) halved ∙ set_is (mask / 2) place

-- two next places are equal exactly if the places are
next_same : (place other : ℕ) → (suc place == suc other) ≡ (place == other)
next_same place other = at (cases_eq place other)
  where
    at : (place ≡ other) ⊎ (place ≡ other → ⊥) → (suc place == suc other) ≡ (place == other)
    at (inl e) = eq-eqb (suc place) (suc other) (ap suc e) ∙ sym (eq-eqb place other e)
    at (inr e) = ne_eqb (suc place) (suc other) (λ f. e (omega arith)) ∙ sym (ne_eqb place other e)

-- adding the power of two of a bit that isn't set sets this bit, and no other
pub set_more : (mask place other : ℕ) → is_set mask place ≡ false
    → is_set (mask + 2 ^ place) other ≡ ((place == other) || is_set mask other)
unfolding is_set
set_more mask zero zero e =
    let clear : mask % 2 ≡ 1 → ⊥ = eqb-false (mask % 2) 1 e in
    let odd : (mask + 1) % 2 ≡ 1 = omega arith in
    ap (λ (m : ℕ). m == 1) odd
set_more mask zero (suc other) e =
    let clear : mask % 2 ≡ 1 → ⊥ = eqb-false (mask % 2) 1 e in
    let half : (mask + 1) / 2 ≡ mask / 2 = omega arith in
    ap (λ (m : ℕ). is_set m other) half
    ∙ ap (λ (b : Bool). b || is_set (mask / 2) other)
    (sym (ne_eqb 0 (suc other) (λ f. omega arith)))
set_more mask (suc place) zero e =
    let power : 2 ^ suc place ≡ 2 * 2 ^ place = omega arith in
    let low : (mask + 2 ^ suc place) % 2 ≡ mask % 2 = omega arith in
    ap (λ (m : ℕ). m == 1) low ∙ ap (λ (b : Bool). b || (mask % 2 == 1))
    (sym (ne_eqb (suc place) 0 (λ f. omega arith)))
set_more mask (suc place) (suc other) e =
    let power : 2 ^ suc place ≡ 2 * 2 ^ place = omega arith in
    let half : (mask + 2 ^ suc place) / 2 ≡ mask / 2 + 2 ^ place = omega arith in
    ap (λ (m : ℕ). is_set m other) half
    ∙ (set_more (mask / 2) place other e
    ∙ ap (λ (b : Bool). b || is_set (mask / 2) other) (sym (next_same place other)))

-- the mask still fits its width
pub set_fits : (mask place width : ℕ) → place < width → mask < 2 ^ width → is_set mask place ≡ false
    → mask + 2 ^ place < 2 ^ width
unfolding is_set
set_fits mask zero zero l u e = absurd (omega arith)
set_fits mask (suc place) zero l u e = absurd (omega arith)
set_fits mask zero (suc width) l u e =
    let clear : mask % 2 ≡ 1 → ⊥ = eqb-false (mask % 2) 1 e in
    let power : 2 ^ suc width ≡ 2 * 2 ^ width = omega arith in
    omega arith
set_fits mask (suc place) (suc width) l u e =
    let power : 2 ^ suc width ≡ 2 * 2 ^ width = omega arith in
    let own : 2 ^ suc place ≡ 2 * 2 ^ place = omega arith in
    let half : mask / 2 < 2 ^ width = omega arith in
    let fits : mask / 2 + 2 ^ place < 2 ^ width =
    set_fits (mask / 2) place width (omega arith) half e in
    omega arith
