-- A log's length is limited, because it has a limited number of names of each sender.
use Rattle.urb_fifo.proofs.Common.{Bool, Label, List, MAX_NODES, [], ap, arith, cond, false, filter}
use Rattle.urb_fifo.proofs.Common.{has_name, length, lt-ltb, ltb-false, ltb-true, nat_lt, or_left}
use Rattle.urb_fifo.proofs.Common.{part_of, refl, same_name, same_name-same, suc, sym, true, zero}
use Rattle.urb_fifo.proofs.Common.{ℕ, ◌*◌, ◌+◌, ◌<◌, ◌==◌, ◌∙◌, ◌∷◌, ◌≡◌, ◌≤◌}
use Rattle.std.proofs.lemmas.Bool.{eqb-false, or_right}

-- the names of the senders below m
below : ℕ → List Label → List Label
below m names = filter (λ x. nat_lt x.sender m) names

-- one more sender
below_more : (m : ℕ) (names : List Label)
    → length (below (suc m) names) ≤ length (below m names) + length (part_of m names)
unfolding below
below_more m [] = omega arith
below_more m (x ∷ xs) =
    at (below_more m xs) (nat_lt x.sender (suc m)) refl (nat_lt x.sender m) refl
    (x.sender == m) refl
  where
    at : length (below (suc m) xs) ≤ length (below m xs) + length (part_of m xs) → (a : Bool)
        → nat_lt x.sender (suc m) ≡ a → (b : Bool) → nat_lt x.sender m ≡ b → (c : Bool)
        → (x.sender == m) ≡ c
        → length (cond a (x ∷ below (suc m) xs) (below (suc m) xs)) ≤ length
        (cond b (x ∷ below m xs) (below m xs)) + length
        (cond c (x ∷ part_of m xs) (part_of m xs))
    at ih false e true f true h = omega arith
    at ih false e true f false h = omega arith
    at ih false e false f true h = omega arith
    at ih false e false f false h = omega arith
    at ih true e true f true h = omega arith
    at ih true e true f false h = omega arith
    at ih true e false f true h = omega arith
    at ih true e false f false h =
        let low : x.sender < suc m = ltb-true x.sender (suc m) e in
        let high : m ≤ x.sender = ltb-false x.sender m f in
        let other : x.sender ≡ m → ⊥ = eqb-false x.sender m h in
        absurd (other (omega arith))

none_below : (names : List Label) → length (below 0 names) ≡ 0
unfolding below
none_below [] = refl
none_below (x ∷ xs) = at (none_below xs) (nat_lt x.sender 0) refl
  where
    at : length (below 0 xs) ≡ 0 → (b : Bool) → nat_lt x.sender 0 ≡ b
        → length (cond b (x ∷ below 0 xs) (below 0 xs)) ≡ 0
    at ih true e = let no : x.sender < 0 = ltb-true x.sender 0 e in absurd (omega arith)
    at ih false e = ih

all_below : (m : ℕ) (names : List Label) → ((x : Label) → has_name names x ≡ true → x.sender < m)
    → length names ≡ length (below m names)
unfolding below
all_below m [] h = refl
all_below m (x ∷ xs) h =
    ap suc (all_below m xs (λ y e. h y (or_right (same_name x y) (has_name xs y) e)))
    ∙ sym (ap (λ (b : Bool). length (cond b (x ∷ below m xs) (below m xs)))
    (lt-ltb x.sender m (h x (or_left (same_name x x) (has_name xs x) (same_name-same x)))))

-- at most cap names of each of the senders 1 to m, and none of sender 0
below_few : (names : List Label) (cap : ℕ) → length (part_of 0 names) ≡ 0
    → ((s : ℕ) → length (part_of s names) ≤ cap) → (m : ℕ) → length (below (suc m) names) ≤ m * cap
below_few names cap none few zero = omega (arith, none_below names, none, below_more 0 names)
below_few names cap none few (suc m) =
    omega (arith, below_few names cap none few m, below_more (suc m) names, few (suc m))

-- a list with at most a cap of names for each sender is at most MAX_NODES times the cap long
pub all_parts : (names : List Label) (cap : ℕ)
    → ((x : Label) → has_name names x ≡ true → x.sender ≤ MAX_NODES) → length (part_of 0 names) ≡ 0
    → ((s : ℕ) → length (part_of s names) ≤ cap) → length names ≤ MAX_NODES * cap
all_parts names cap senders none few =
    omega (
      arith,
      all_below (suc MAX_NODES) names (λ x h. let most = senders x h in omega arith),
      below_few names cap none few MAX_NODES,
    )
