-- Packets to some of the nodes, one node after another.
use Rattle.urb_stubborn.proofs.Common.{Bool, Carried, Content, Flags, Label, List, MAX_NODES}
use Rattle.urb_stubborn.proofs.Common.{MAX_SENDERS, Some, [], acked, ap, append-nil, append_assoc}
use Rattle.urb_stubborn.proofs.Common.{arith, cond, cond_both, eq-eqb, false, false≢true, filter}
use Rattle.urb_stubborn.proofs.Common.{flat_map, has_name, length, map, not, numbers_from, others}
use Rattle.urb_stubborn.proofs.Common.{packets_to, refl, suc, sym, to_unheard, true, zero, ℕ}
use Rattle.urb_stubborn.proofs.Common.{⊎_elim, ◌&&◌, ◌*◌, ◌++◌, ◌+◌, ◌-◌, ◌<◌, ◌==◌, ◌∙◌, ◌∷◌, ◌≡◌}
use Rattle.urb_stubborn.proofs.Common.{◌≢◌, ◌≤◌}
use Rattle.std.proofs.lemmas.Bool.{cases_Bool}
use Rattle.std.proofs.lemmas.List.{length-append, length-map, map-append}
use Rattle.std.proofs.lemmas.List.Elements.{filter-append}
use Rattle.urb_names.specs.Nodes.{nodes}
use Rattle.urb_pending.proofs.PairSearches.{numbers_length}
use Rattle.urb_names.proofs.Places.{numbers_more}

-- the packet of a pair from one node to another
abbrev pub packet : ℕ → (ℕ → Flags) → ℕ → Label × Content → Carried
packet p flags q pair = record
    { source = p; target = q; name = pair.0; message = pair.1; flags = Some (flags q) }

-- the targets after one more node: it is added if it passes the test
abbrev pub Grows : (ℕ → List ℕ) → (ℕ → Bool) → Type 0
Grows targets test = (k : ℕ) → targets (suc k) ≡ targets k ++ cond (test (suc k)) (suc k ∷ []) []

-- the nodes other than p gain one more node, if it isn't p
pub others_grow : (p : ℕ) → Grows (λ n. others n p) (λ q. not (q == p))
others_grow p k =
    ap (filter (λ q. not (q == p))) (numbers_more 1 k)
    ∙ (filter-append (λ q. not (q == p)) (nodes k) ((1 + k) ∷ [])
    ∙ ap (λ n. others k p ++ cond (not (n == p)) (n ∷ []) []) (at k))
  where
    at : (n : ℕ) → 1 + n ≡ suc n
    at n = omega arith

-- those of the other nodes that pass a test gain one more node, if it isn't p and passes
pub some_grow : (test : ℕ → Bool) (p : ℕ)
    → Grows (λ n. filter test (others n p)) (λ q. not (q == p) && test q)
some_grow test p k =
    ap (filter test) (others_grow p k)
    ∙ (filter-append test (others k p) (cond (not (suc k == p)) (suc k ∷ []) [])
    ∙ ap (λ ns. filter test (others k p) ++ ns) (at (not (suc k == p))))
  where
    at : (b : Bool) → filter test (cond b (suc k ∷ []) []) ≡ cond (b && test (suc k)) (suc k ∷ [])
        []
    at true = refl
    at false = refl

-- after what was there, the packets to the targets with one more node
module _ (targets : ℕ → List ℕ) (test : ℕ → Bool) (grows : Grows targets test) (p : ℕ)
    (flags : ℕ → Flags) (pair : Label × Content) where
  after : (k : ℕ) (b : Bool) → test (suc k) ≡ b
      → packets_to p flags (targets (suc k)) pair ≡ packets_to p flags (targets k) pair ++ map
      (λ q. packet p flags q pair) (cond b (suc k ∷ []) [])
  after k b e =
      ap (map (λ q. packet p flags q pair))
      (grows k ∙ ap (λ c. targets k ++ cond c (suc k ∷ []) []) e)
      ∙ map-append (λ q. packet p flags q pair) (targets k) (cond b (suc k ∷ []) [])

  sent_more : (i : ℕ) → 0 < i → test i ≡ true
      → packets_to p flags (targets i) pair ≡ packets_to p flags (targets (i - 1)) pair
      ++ packet p flags i pair ∷ []
  sent_more zero h e = absurd (omega arith)
  sent_more (suc k) h e =
      after k true e ∙ ap (λ n. packets_to p flags (targets n) pair ++ packet p flags
      (suc k) pair ∷ []) (at k)
    where
      at : (n : ℕ) → n ≡ suc n - 1
      at n = omega arith

  sent_same : (i : ℕ) → 0 < i → test i ≡ false
      → packets_to p flags (targets i) pair ≡ packets_to p flags (targets (i - 1)) pair
  sent_same zero h e = absurd (omega arith)
  sent_same (suc k) h e =
      after k false e ∙ (append-nil (packets_to p flags (targets k) pair)
      ∙ ap (λ n. packets_to p flags (targets n) pair) (at k))
    where
      at : (n : ℕ) → n ≡ suc n - 1
      at n = omega arith

  -- the packet to a node that passes completes the packets to the targets up to that node
  pub sent_to : (i j : ℕ) (old new : List Carried) → j ≡ i → 0 < i → test i ≡ true
      → new ≡ old ++ packets_to p flags (targets (i - 1)) pair
      → new ++ packet p flags i pair ∷ [] ≡ old ++ packets_to p flags (targets j) pair
  sent_to i j old new e h passes is =
      ap (λ ps. ps ++ packet p flags i pair ∷ []) is
      ∙ (append_assoc old (packets_to p flags (targets (i - 1)) pair) (packet p flags i pair ∷ [])
      ∙ ap (λ ps. old ++ ps) (sym (sent_more i h passes)
      ∙ ap (λ n. packets_to p flags (targets n) pair) (sym e)))

  -- if a node doesn't pass, the packets to the targets before it are those up to it
  pub not_sent_to : (i j : ℕ) (old new : List Carried) → j ≡ i → 0 < i → test i ≡ false
      → new ≡ old ++ packets_to p flags (targets (i - 1)) pair
      → new ≡ old ++ packets_to p flags (targets j) pair
  not_sent_to i j old new e h fails is =
      is ∙ ap (λ ps. old ++ ps) (sym (sent_same i h fails)
      ∙ ap (λ n. packets_to p flags (targets n) pair) (sym e))

-- ---- the number of packets

passing : (test : ℕ → Bool) (ns : List ℕ) → length (filter test ns) ≤ length ns
passing test [] = omega arith
passing test (n ∷ ns) =
    cond_both (test n) (n ∷ filter test ns) (filter test ns) (λ ms. length ms ≤ suc (length ns))
    (λ e. omega (arith, passing test ns)) (λ e. omega (arith, passing test ns))

fewer : (p first count : ℕ) → first ≤ p → p < first + count
    → length (filter (λ q. not (q == p)) (numbers_from first count)) + 1 ≤ count
fewer p first zero h k = absurd (omega arith)
fewer p first (suc count) h k =
    ⊎_elim here (later (fewer p (suc first) count)) (cases_Bool (first == p))
  where
    here : (first == p) ≡ true → length
        (filter (λ q. not (q == p)) (numbers_from first (suc count))) + 1 ≤ suc count
    here e =
        rw e (omega (
          arith,
          passing (λ q. not (q == p)) (numbers_from (suc first) count),
          numbers_length (suc first) count,
        ))

    later : (suc first ≤ p → p < suc first + count
        → length (filter (λ q. not (q == p)) (numbers_from (suc first) count)) + 1 ≤ count)
        → (first == p) ≡ false → length
        (filter (λ q. not (q == p)) (numbers_from first (suc count))) + 1 ≤ suc count
    later ih e =
        let other : first ≢ p = λ f. false≢true (sym e ∙ eq-eqb first p f) in
        let less : suc first ≤ p = omega (arith, h, other) in
        rw e (omega (arith, ih less (omega (arith, k))))

-- whoever sends it, at most one packet for each node
pub at_most_to_all : (p : ℕ) (flags : ℕ → Flags) (n : ℕ) (pair : Label × Content)
    → length (packets_to p flags (others n p) pair) ≤ n
at_most_to_all p flags n pair =
    omega (
      arith,
      length-map (others n p) (λ q. packet p flags q pair),
      passing (λ q. not (q == p)) (nodes n),
      numbers_length 1 n,
    )

-- a pair has at most a packet for each other node
few_to_unheard : (n p : ℕ) (certified : List Label) (heard : List (Label × ℕ))
    (pair : Label × Content) → 1 ≤ p → p ≤ n → n ≤ MAX_NODES
    → length (to_unheard n p certified heard pair) ≤ MAX_SENDERS - 1
few_to_unheard n p certified heard pair low high most =
    let targets = filter (λ q. not (acked heard pair.0 q)) (others n p) in
    omega (
      arith,
      length-map targets
          (λ q. packet p (λ r. record { certified = has_name certified pair.0; heard = false })
          q pair),
      passing (λ q. not (acked heard pair.0 q)) (others n p),
      fewer p 1 n low (omega arith),
    )

-- pairs have at most as many packets each
pub few_packets : (n p : ℕ) (certified : List Label) (heard : List (Label × ℕ))
    (pairs : List (Label × Content)) → 1 ≤ p → p ≤ n → n ≤ MAX_NODES
    → length (flat_map (to_unheard n p certified heard) pairs) ≤ (MAX_SENDERS - 1) * length pairs
few_packets n p certified heard [] low high most = omega arith
few_packets n p certified heard (pair ∷ pairs) low high most =
    omega (
      arith,
      length-append (to_unheard n p certified heard pair)
          (flat_map (to_unheard n p certified heard) pairs),
      few_to_unheard n p certified heard pair low high most,
      few_packets n p certified heard pairs low high most,
    )
