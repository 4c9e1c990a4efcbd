-- If a node has certified each name of a sender up to some number, it has delivered them. If it has
-- certified all names, it has delivered all.
use Rattle.urb_world.proofs.Common.{AllDelivered, Content, IsInOrder, Label, List, Option, Ready}
use Rattle.urb_world.proofs.Common.{Some, World, [], and_parts, ap, arith, cases_lt, cert, eqb-true}
use Rattle.urb_world.proofs.Common.{false≢true, get_some, has_name, has_name-part, is_node, is_some}
use Rattle.urb_world.proofs.Common.{kept-numbered, length, length-map, log, map, message_of, name}
use Rattle.urb_world.proofs.Common.{names, numbers_from, or_cases, part_of, pend, refl, slice_get}
use Rattle.urb_world.proofs.Common.{suc, sym, take, true, zero, ℕ, ⊎_elim, ◌&&◌, ◌+◌, ◌<◌, ◌==◌}
use Rattle.urb_world.proofs.Common.{◌∙◌, ◌∷◌, ◌≡◌, ◌≤◌}
use Rattle.urb_world.proofs.recovery.NodeLists.{sender-node}
use Rattle.urb_world.proofs.recovery.ContinuedWorlds.{Sound, known-sender}
use Rattle.urb_world.proofs.safety.SafeWorlds.{safe}
use Rattle.urb_world.proofs.recovery.CountedArrivals.{knows}
use Rattle.urb_world.specs.World.{stored}
use Rattle.urb_stable.proofs.LogGrowth.{delivers}

-- ---- names of a sender, by number

names-high : (s first count j : ℕ)
    → has_name (map (name s) (numbers_from first count)) (name s j) ≡ true → j < first + count
names-high s first zero j h = absurd (false≢true h)
names-high s first (suc count) j h =
    ⊎_elim (λ e. let k = eqb-true first j (and_parts (s == s) (first == j) e).1 in omega (arith, k))
    (λ e. let k = names-high s (suc first) count j e in omega (arith, k))
    (or_cases ((s == s) && (first == j))
    (has_name (map (name s) (numbers_from (suc first) count)) (name s j)) h)

length-first : {A : Type 0} (n : ℕ) (xs : List A) → length (take n xs) ≤ length xs
length-first zero xs = omega arith
length-first (suc n) [] = omega arith
length-first (suc n) (x ∷ xs) = let l = length-first n xs in omega (arith, l)

take-all : {A : Type 0} (xs : List A) → take (length xs) xs ≡ xs
take-all [] = refl
take-all (x ∷ xs) = ap (λ ys. x ∷ ys) (take-all xs)

-- ---- one sender's part of a log

module _ (z : World) (sound : Sound z) (q s : ℕ) where
  abbrev pub part : List Label
  part = part_of s (log (stored z q))

  abbrev messages : List Content
  messages = (z.node s).broadcast

  -- node q's log has the sender's first messages, in FIFO order
  pub in_order : IsInOrder z q s
  in_order = (safe z sound.kept.nodes).in_order q s

  -- if the names up to this number are certified, they are delivered
  pub reaches-number : (count : ℕ)
      → ((i : ℕ) → 1 ≤ i → i ≤ count → has_name (cert (stored z q)) (name s i) ≡ true)
      → count ≤ length part
  reaches-number count numbered =
      ⊎_elim (λ l. absurd (no-less l)) (λ l. l) (cases_lt (length part) count)
    where
      no-less : length part < count → ⊥
      no-less l =
          absurd (let high = names-high s 1 (length part) (suc (length part)) there in
          omega (arith, high))
        where
          in_log : has_name (log (stored z q)) (name s (suc (length part))) ≡ true
          in_log =
              (delivers (stored z q) s (suc (length part))).1
              (omega arith, λ i low high. numbered i low (omega (arith, l, high)))

          there : has_name (names s (length part)) (name s (suc (length part))) ≡ true
          there =
              ap (λ xs. has_name xs (name s (suc (length part)))) (sym in_order.numbers)
              ∙ (has_name-part s (suc (length part)) (log (stored z q)) ∙ in_log)

  no-more : length part ≤ length messages
  no-more =
      let e : length (map (message_of (pend (stored z q))) part) ≡ length
      (map Some (take (length part) messages)) = ap length in_order.messages in
      omega (
        arith,
        e,
        length-map part (message_of (pend (stored z q))),
        length-map {B = Option Content} (take (length part) messages) Some,
        length-first (length part) messages,
      )

  -- the sender knows the names of its messages
  pub own-known : (j : ℕ) → j < length messages → knows (stored z s) (name s (suc j)) ≡ true
  own-known j l =
      let kept = sound.kept.nodes s in
      let found = get_some messages j l in
      ap is_some (kept-numbered z.size (stored z) s (stored z s) kept.kept j
      ∙ (ap (λ ms. slice_get ms j) (sym kept.broadcast) ∙ found.1))

  -- a node that has certified all that the sender knows
  module _ (certified : (x : Label) → knows (stored z s) x ≡ true
      → has_name (cert (stored z q)) x ≡ true) where
    numbered : (i : ℕ) → 1 ≤ i → i ≤ length messages
        → has_name (cert (stored z q)) (name s i) ≡ true
    numbered zero low high = absurd (omega arith)
    numbered (suc j) low high = certified (name s (suc j)) (own-known j (omega (arith, high)))

    all : length part ≡ length messages
    all = let l = reaches-number (length messages) numbered in omega (arith, l, no-more)

    all-names : part ≡ names s (length messages)
    all-names = in_order.numbers ∙ ap (names s) all

    all-messages : map (message_of (pend (stored z q))) part ≡ map Some messages
    all-messages =
        in_order.messages ∙ ap (map Some) (ap (λ k. take k messages) all ∙ take-all messages)

-- ---- all of it

-- each node is ready, and what a node knows is certified at each
pub record AllCertified (w : World) : Type 0 where
  -- the world is sound
  pub sound : Sound w
  -- each node is ready
  pub ready : (p : ℕ) → is_node w.size.n p ≡ true → (w.node p).state ≡ Ready
  -- each node has certified each name that some node knows
  pub certified : (p q : ℕ) → is_node w.size.n p ≡ true → is_node w.size.n q ≡ true → (x : Label)
      → knows (stored w p) x ≡ true → has_name (cert (stored w q)) x ≡ true

-- if all nodes have certified all names that nodes know, everything is delivered
pub certified-delivered : (z : World) → AllCertified z → AllDelivered z
certified-delivered z c q is =
    record {
      ready = c.ready q is;
      names = λ s _. all-names z c.sound q s (certified s);
      messages = λ s _. all-messages z c.sound q s (certified s);
    }
  where
    certified : (s : ℕ) (x : Label) → knows (stored z s) x ≡ true
        → has_name (cert (stored z q)) x ≡ true
    certified s x k =
        c.certified x.sender q (sender-node z c.sound s x k) is x (known-sender z c.sound s x k)
