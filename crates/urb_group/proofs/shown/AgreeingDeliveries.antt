-- The deliveries of a sound group's nodes agree.
use Rattle.urb_group.proofs.Common.{Bool, Content, GroupView, IsLimits, IsSound, Label, List}
use Rattle.urb_group.proofs.Common.{MAX_NODES, Option, World, [], all_kept, and_parts, ap, arith}
use Rattle.urb_group.proofs.Common.{cases_eq, cases_lt, cond, delivered_at, eq-eqb, false, filter}
use Rattle.urb_group.proofs.Common.{has_name, has_pair-found, in_range, inl, inr, kept-range, known}
use Rattle.urb_group.proofs.Common.{le-ltb, length, length-map, log, lt-ltb, map, message_of, name}
use Rattle.urb_group.proofs.Common.{nat_lt, ne_eqb, numbers_from, or_left, or_right, pend, refl}
use Rattle.urb_group.proofs.Common.{safe, same_name, same_name-same, stored, subst, suc, sym, true}
use Rattle.urb_group.proofs.Common.{zero, ℕ, ⊎_elim, ◌*◌, ◌+◌, ◌<◌, ◌==◌, ◌^◌, ◌∙◌, ◌∷◌, ◌≡◌, ◌≤◌}
use Rattle.urb_group.proofs.Common.{◌⊎◌}
use Rattle.urb_names.specs.declared.limits.TheConstants.{MAX_CAP}
use Rattle.urb_world.proofs.safety.AgreeingLogs.{agree-now}
use Rattle.urb_group.proofs.shown.Deliveries.{deliveries-known, known-begins, length-known}
use Rattle.urb_group.specs.DeliveredMessages.{Agree, sent_by}
use Rattle.urb_world.specs.SafetyProperties.{Safe}
use Rattle.urb_names.proofs.LogRows.{has-row, has_name-part}
use Rattle.urb_names.specs.ListPrefixes.{OneBegins}
use Rattle.urb_names.specs.Names.{names}
use Rattle.urb_names.specs.Release.{part_of}
use Rattle.urb_stable.specs.DeliveredLogs.{entries_of}

-- ---- one sender's deliveries

-- mapped elements that pass a test are those whose origins pass it, mapped
pub filter-mapped : {A B : Type 0} (f : A → B) (test : B → Bool) (xs : List A)
    → filter test (map f xs) ≡ map f (filter (λ x. test (f x)) xs)
filter-mapped f test [] = refl
filter-mapped f test (x ∷ xs) = at (test (f x)) (filter-mapped f test xs)
  where
    at : (b : Bool) → filter test (map f xs) ≡ map f (filter (λ y. test (f y)) xs)
        → cond b (f x ∷ filter test (map f xs)) (filter test (map f xs)) ≡ map f
        (cond b (x ∷ filter (λ y. test (f y)) xs) (filter (λ y. test (f y)) xs))
    at true e = ap (λ ys. f x ∷ ys) e
    at false e = e

seqs_of_names : (s first k : ℕ)
    → map (λ (x : Label). x.seq) (map (name s) (numbers_from first k)) ≡ numbers_from first k
seqs_of_names s first zero = refl
seqs_of_names s first (suc k) = ap (λ ns. first ∷ ns) (seqs_of_names s (suc first) k)

map-map : {A B C : Type 0} (f : B → C) (g : A → B) (xs : List A)
    → map f (map g xs) ≡ map (λ x. f (g x)) xs
map-map f g [] = refl
map-map f g (x ∷ xs) = ap (λ ys. f (g x) ∷ ys) (map-map f g xs)

module _ (group : GroupView) (sound : IsSound group) where
  abbrev w : World
  w = sound.world

  is_safe : Safe w
  is_safe = safe w sound.kept.nodes

  -- the deliveries of one sender are its entries
  sent-known : (p s : ℕ) → map known (sent_by s (delivered_at group p)) ≡ entries_of s (stored w p)
  sent-known p s =
      sym (filter-mapped known (λ e. e.0.sender == s) (delivered_at group p))
      ∙ (ap (filter (λ e. e.0.sender == s)) (deliveries-known group w p sound sound.shows)
      ∙ filter-mapped (λ x. (x, message_of (pend (stored w p)) x)) (λ e. e.0.sender == s)
      (log (stored w p)))

  sent-length : (p s : ℕ) → length (sent_by s (delivered_at group p)) ≡ length
      (part_of s (log (stored w p)))
  sent-length p s =
      sym (length-map (sent_by s (delivered_at group p)) known)
      ∙ (ap length (sent-known p s)
      ∙ length-map (part_of s (log (stored w p))) (λ x. (x, message_of (pend (stored w p)) x)))

  sent-numbers : (p s : ℕ) → map (λ delivery. delivery.0.seq) (sent_by s (delivered_at group p))
      ≡ numbers_from 1 (length (sent_by s (delivered_at group p)))
  sent-numbers p s =
      let part = part_of s (log (stored w p)) in
      sym (map-map (λ (e : Label × Option Content). e.0.seq) known
      (sent_by s (delivered_at group p)))
      ∙ (ap (map (λ (e : Label × Option Content). e.0.seq)) (sent-known p s)
      ∙ (map-map (λ (e : Label × Option Content). e.0.seq)
      (λ x. (x, message_of (pend (stored w p)) x)) part
      ∙ (ap (map (λ (x : Label). x.seq)) (is_safe.in_order p s).numbers
      ∙ (seqs_of_names s 1 (length part)
      ∙ ap (numbers_from 1) (sym (sent-length p s))))))

  sent-begins : (p q s : ℕ) → OneBegins (sent_by s (delivered_at group p))
      (sent_by s (delivered_at group q))
  sent-begins p q s =
      let one =
      subst (λ (es : List (Label × Option Content)). OneBegins es (entries_of s (stored w q)))
      (sym (sent-known p s)) (agree-now w is_safe p q s) in
      let both =
      subst (λ (es : List (Label × Option Content)).
      OneBegins (map known (sent_by s (delivered_at group p))) es) (sym (sent-known q s)) one in
      ⊎_elim (λ h. inl (known-begins (sent_by s (delivered_at group p))
      (sent_by s (delivered_at group q)) h))
      (λ h. inr (known-begins (sent_by s (delivered_at group q))
      (sent_by s (delivered_at group p)) h)) both

-- ---- a log is short

-- the sum of n numbers of at most this size
abbrev times : ℕ → ℕ → ℕ
times zero c = 0
times (suc n) c = times n c + c

-- the names of senders below n
abbrev below : ℕ → List Label → List Label
below n xs = filter (λ x. nat_lt x.sender n) xs

below-step : (n : ℕ) (x : Label) (xs : List Label) (a b c : Bool) → nat_lt x.sender (suc n) ≡ a
    → nat_lt x.sender n ≡ b → (x.sender == n) ≡ c
    → length (cond a (x ∷ below (suc n) xs) (below (suc n) xs)) ≡ length
    (cond b (x ∷ below n xs) (below n xs)) + length (cond c (x ∷ part_of n xs) (part_of n xs))
    → length (below (suc n) (x ∷ xs)) ≡ length (below n (x ∷ xs)) + length (part_of n (x ∷ xs))
below-step n x xs a b c e f g h = rw (e, f, g) h

below-next : (n : ℕ) (xs : List Label)
    → length (below (suc n) xs) ≡ length (below n xs) + length (part_of n xs)
below-next n [] = refl
below-next n (x ∷ xs) = at (below-next n xs) (cases_eq x.sender n)
  where
    above : (x.sender ≡ n → ⊥) → n ≤ x.sender → suc n ≤ x.sender
    above away l =
        ⊎_elim (λ k. omega (arith, k)) (λ k. absurd (away (omega (arith, l, k))))
        (cases_lt n x.sender)

    at : length (below (suc n) xs) ≡ length (below n xs) + length (part_of n xs)
        → (x.sender ≡ n) ⊎ (x.sender ≡ n → ⊥)
        → length (below (suc n) (x ∷ xs)) ≡ length (below n (x ∷ xs)) + length (part_of n (x ∷ xs))
    at rest (inl e) =
        below-step n x xs true false true (lt-ltb x.sender (suc n) (omega (arith, e)))
        (le-ltb x.sender n (omega (arith, e))) (eq-eqb x.sender n e) (omega (arith, rest))
    at rest (inr away) =
        ⊎_elim (λ l. below-step n x xs true true false (lt-ltb x.sender (suc n) (omega (arith, l)))
        (lt-ltb x.sender n l) (ne_eqb x.sender n away) (omega (arith, rest)))
        (λ l. below-step n x xs false false false (le-ltb x.sender (suc n) (above away l))
        (le-ltb x.sender n l) (ne_eqb x.sender n away) (omega (arith, rest)))
        (cases_lt x.sender n)

below-none : (xs : List Label) → length (below 0 xs) ≡ 0
below-none [] = refl
below-none (x ∷ xs) = rw (le-ltb x.sender 0 (omega arith)) (below-none xs)

below-bound : (n c : ℕ) (xs : List Label) → ((s : ℕ) → length (part_of s xs) ≤ c)
    → length (below n xs) ≤ times n c
below-bound zero c xs h = omega (arith, below-none xs)
below-bound (suc n) c xs h = omega (arith, below-next n xs, below-bound n c xs h, h n)

below-all : (n : ℕ) (xs : List Label)
    → ((x : Label) → has_name xs x ≡ true → nat_lt x.sender n ≡ true) → below n xs ≡ xs
below-all n [] h = refl
below-all n (x ∷ xs) h =
    rw (h x (or_left (same_name x x) _ (same_name-same x)))
    (ap (λ ys. x ∷ ys) (below-all n xs (λ y e. h y (or_right (same_name x y) _ e))))

module _ (group : GroupView) (sound : IsSound group) (limits : IsLimits group.size) (p : ℕ) where
  abbrev world : World
  world = sound.world

  abbrev delivered : List Label
  delivered = log (stored world p)

  logged-range : (x : Label) → has_name delivered x ≡ true → in_range world.size x ≡ true
  logged-range x h =
      let held = (safe world sound.kept.nodes).uniform p x h in
      kept-range world.size (stored world) p (stored world p)
      (all_kept world sound.kept.nodes p) x held.0
      (has_pair-found (pend (stored world p)) x held.0 held.1)

  logged-sender : (x : Label) → has_name delivered x ≡ true → nat_lt x.sender (suc MAX_NODES) ≡ true
  logged-sender x h =
      let parts =
      and_parts (nat_lt x.sender (suc world.size.n)) (nat_lt x.seq (suc world.size.cap))
      (logged-range x h) in
      let same = ap (λ l. l.n) sound.shows.size in
      lt-ltb x.sender (suc MAX_NODES) (let low = parts.0 in grind (arith, same, low, limits.1))

  part-short : (s : ℕ) → length (part_of s delivered) ≤ MAX_CAP
  part-short s = at (length (part_of s delivered)) refl
    where
      at : (k : ℕ) → length (part_of s delivered) ≡ k → length (part_of s delivered) ≤ MAX_CAP
      at zero e = omega (arith, e)
      at (suc k) e =
          let row : part_of s delivered ≡ names s (suc k) =
          ((safe world sound.kept.nodes).in_order p s).numbers ∙ ap (names s) e in
          let in_part : has_name (part_of s delivered) (name s (suc k)) ≡ true =
          ap (λ xs. has_name xs (name s (suc k))) row
          ∙ has-row s 1 (suc k) (suc k) (omega arith) (omega arith) in
          let in_log : has_name delivered (name s (suc k)) ≡ true =
          sym (has_name-part s (suc k) delivered) ∙ in_part in
          let parts =
          and_parts (nat_lt s (suc world.size.n)) (nat_lt (suc k) (suc world.size.cap))
          (logged-range (name s (suc k)) in_log) in
          let same = ap (λ l. l.cap) sound.shows.size in
          let low = parts.1 in
          grind (arith, same, low, e, limits.3)

  deliveries-short : length (delivered_at group p) < 2 ^ 32
  deliveries-short =
      let same = length-known group world p sound sound.shows in
      let all = ap length (below-all (suc MAX_NODES) delivered logged-sender) in
      let bound : length (below (suc MAX_NODES) delivered) ≤ suc MAX_NODES * MAX_CAP =
      below-bound (suc MAX_NODES) MAX_CAP delivered part-short in
      omega (arith, same, all, bound)

-- what a sound group's nodes have delivered agrees: for each sender, one of two lists is a prefix
-- of the other
pub deliveries-agree : (group : GroupView) → IsSound group → IsLimits group.size
    → Agree (delivered_at group)
deliveries-agree group sound limits = record {
  numbers = sent-numbers group sound;
  one_begins = sent-begins group sound;
  short = deliveries-short group sound limits;
}
