-- After two rounds every node has certified every name, so everything is delivered: no state is a
-- dead end.
use Rattle.urb_world.proofs.Common.{AllDelivered, Bool, Content, IsNotStranded, IsReached, Label}
use Rattle.urb_world.proofs.Common.{Limits, World, acked, after, all_back, and_from, and_parts, ap}
use Rattle.urb_world.proofs.Common.{arith, both, cases_Bool, cases_eq, cert, cond-true, count_by}
use Rattle.urb_world.proofs.Common.{eqb-true, false, false≢true, filter, has_name, has_pair}
use Rattle.urb_world.proofs.Common.{is_down, is_node, length, length-filter, lt-ltb, ltb-true}
use Rattle.urb_world.proofs.Common.{majority_passes, nat_lt, nodes, numbers_from, pend, recovery}
use Rattle.urb_world.proofs.Common.{refl, rounds, run, subst, suc, sym, true, zero, ℕ, ⊎_elim, ◌*◌}
use Rattle.urb_world.proofs.Common.{◌+◌, ◌<◌, ◌==◌, ◌∙◌, ◌∷◌, ◌≡◌, ◌≤◌}
use Rattle.urb_world.proofs.recovery.CertifiedNames.{certified-delivered}
use Rattle.urb_world.proofs.recovery.ReturningNodes.{all-back}
use Rattle.urb_world.proofs.steps.Growth.{certificate-begins, run-goes_on}
use Rattle.urb_world.proofs.hearing.LiveWorlds.{reached-live}
use Rattle.urb_world.proofs.recovery.NodeLists.{sender-node}
use Rattle.urb_world.proofs.recovery.ContinuedWorlds.{Calm, Onward, Sound, known-pair}
use Rattle.urb_world.proofs.recovery.ContinuedWorlds.{onward-further}
use Rattle.urb_world.proofs.recovery.EventPlans.{Reaches, reaches-both, reaches-weaker}
use Rattle.urb_world.proofs.recovery.OneRound.{HasTold, rounds-reach}
use Rattle.urb_world.proofs.steps.Runs.{reached-keeps}
use Rattle.urb_world.proofs.recovery.CountedArrivals.{knows}
use Rattle.urb_world.specs.RecoveredWorlds.{CanDeliver}
use Rattle.urb_world.specs.World.{stored}

-- ---- all nodes are a majority

count-all : (test : ℕ → Bool) (first count : ℕ)
    → ((q : ℕ) → first ≤ q → q < first + count → test q ≡ true)
    → count_by test (numbers_from first count) ≡ count
count-all test first count h =
    sym (length-filter test (numbers_from first count)) ∙ passes first count h
  where
    passes : (first count : ℕ) → ((q : ℕ) → first ≤ q → q < first + count → test q ≡ true)
        → length (filter test (numbers_from first count)) ≡ count
    passes first zero h = refl
    passes first (suc count) h =
        ap length (cond-true (test first) (first ∷ filter test (numbers_from (suc first) count))
        (filter test (numbers_from (suc first) count)) (h first (omega arith) (omega arith)))
        ∙ ap suc (passes (suc first) count (λ q l u. h q (omega arith) (omega arith)))

-- a test that every node passes holds for a majority
pub all-majority : (n : ℕ) (test : ℕ → Bool) → 0 < n
    → ((q : ℕ) → is_node n q ≡ true → test q ≡ true) → majority_passes n test ≡ true
all-majority n test l h =
    let all : count_by test (nodes n) ≡ n =
    count-all test 1 n (λ q low high.
    h q (and_from (nat_lt 0 q) _ (lt-ltb 0 q low) (lt-ltb q (suc n) (omega (arith, high))))) in
    lt-ltb n (2 * count_by test (nodes n)) (omega (arith, all, l))

different : (p q : ℕ) → (p ≡ q → ⊥) → (p == q) ≡ false
different p q h = ⊎_elim (λ e. absurd (h (eqb-true p q e))) (λ e. e) (cases_Bool (p == q))

-- ---- two rounds

module _ (v : World) (calm : Calm v) (free : IsNotStranded v) where
  -- the names that their senders knew at the beginning
  abbrev IsName : Label → Type 0
  IsName x = knows (stored v x.sender) x ≡ true

  -- the names of one sender, which it sends in the first round
  abbrev Own : ℕ → Label → Type 0
  Own p x = (x.sender ≡ p) × IsName x

  abbrev Any : ℕ → Label → Type 0
  Any p x = IsName x

  abbrev First : World → Type 0
  First u = Calm u × Onward v u × ((p : ℕ) → is_node v.size.n p ≡ true → HasTold Own p u)

  first-known : (u : World) → First u → (p : ℕ) → is_node u.size.n p ≡ true → (x : Label) → IsName x
      → knows (stored u p) x ≡ true
  first-known u first p is x h =
      (first.2 x.sender (sender-node v calm.sound x.sender x h)).known p is x (refl, h)

  abbrev Second : World → Type 0
  Second z = Calm z × Onward v z × ((p : ℕ) → is_node v.size.n p ≡ true → HasTold Any p z)

  second : (u : World) → First u → Reaches Second u (rounds u)
  second u first =
      reaches-weaker _ _ u (rounds u)
      (λ z r. (
        r.0,
        onward-further v u z first.1 r.1,
        λ p is. r.2 p (subst (λ (size : Limits). is_node size.n p ≡ true) (sym first.1.size) is),
      ))
      (rounds-reach Any u first.0 (λ p is x h. first-known u first p is x h))

  module _ (z : World) (end : Second z) where
    abbrev onward : Onward v z
    onward = end.1

    node-before : (q : ℕ) → is_node z.size.n q ≡ true → is_node v.size.n q ≡ true
    node-before q is = subst (λ (size : Limits). is_node size.n q ≡ true) onward.size is

    within : (q : ℕ) → is_node v.size.n q ≡ true → (0 < q) × (q ≤ v.size.n)
    within q is =
        let parts = and_parts (nat_lt 0 q) (nat_lt q (suc v.size.n)) is in
        (ltb-true 0 q parts.0, let l = ltb-true q (suc v.size.n) parts.1 in omega (arith, l))

    -- if the node is alone, all names were certified
    alone : (q : ℕ) → is_node v.size.n q ≡ true → v.size.n ≡ 1 → (x : Label) → IsName x
        → has_name (cert (stored z q)) x ≡ true
    alone q is one x h =
        subst (λ (i : ℕ). has_name (cert (stored z i)) x ≡ true) (sym (first q is))
        (certificate-begins (stored v 1) (stored z 1) (onward.records 1) x
        (free one x pair.0 (subst (λ (i : ℕ). has_pair (pend (stored v i)) x pair.0 ≡ true)
        (first x.sender (sender-node v calm.sound x.sender x h)) pair.1)))
      where
        first : (i : ℕ) → is_node v.size.n i ≡ true → i ≡ 1
        first i node = let w = within i node in omega (arith, w.0, w.1, one)

        pair : (m : Content) × (has_pair (pend (stored v x.sender)) x m ≡ true)
        pair = known-pair (stored v x.sender) x h

    -- otherwise another node reported it to q, and all are counted
    others : (q : ℕ) → is_node z.size.n q ≡ true → 1 < v.size.n → (x : Label) → IsName x
        → has_name (cert (stored z q)) x ≡ false → ⊥
    others q is many x h e =
        false≢true
        (sym (⊎_elim (λ one. few 2 (node 2 (omega arith) (omega (arith, many)))
        (different q 2 (λ two. omega (arith, one, two))))
        (λ other. few 1 (node 1 (omega arith) (omega (arith, many))) (different q 1 other))
        (cases_eq q 1))
        ∙ all-majority z.size.n (acked (z.node q).acks x)
        (let w = within q (node-before q is) in
        subst (λ (size : Limits). 0 < size.n) (sym onward.size) (omega (arith, many))) acks)
      where
        node : (i : ℕ) → 0 < i → i ≤ v.size.n → is_node v.size.n i ≡ true
        node i low high =
            and_from (nat_lt 0 i) _ (lt-ltb 0 i low) (lt-ltb i (suc v.size.n) (omega (arith, high)))

        few : (p : ℕ) → is_node v.size.n p ≡ true → (q == p) ≡ false
            → majority_passes z.size.n (acked (z.node q).acks x) ≡ false
        few p at other = ((end.2 p at).counted q is other x h).few e

        itself : acked (z.node q).acks x q ≡ true
        itself =
            let pair = known-pair (stored z q) x ((end.2 q (node-before q is)).known q is x h) in
            (end.0.sound.live.nodes q).counts (ap is_down (end.0.ready q is)) x pair.0 pair.1

        acks : (p : ℕ) → is_node z.size.n p ≡ true → acked (z.node q).acks x p ≡ true
        acks p at =
            ⊎_elim (λ same. subst (λ (i : ℕ). acked (z.node q).acks x i ≡ true)
            (eqb-true q p same) itself)
            (λ other. ((end.2 p (node-before p at)).counted q is other x h).counted e)
            (cases_Bool (q == p))

    certified : (q : ℕ) → is_node z.size.n q ≡ true → (x : Label) → IsName x
        → has_name (cert (stored z q)) x ≡ true
    certified q is x h =
        ⊎_elim (λ c. c) (λ c. ⊎_elim (λ one. alone q (node-before q is) one x h)
        (λ more. absurd (others q is (many more) x h c)) (cases_eq v.size.n 1))
        (cases_Bool (has_name (cert (stored z q)) x))
      where
        many : ¬ (v.size.n ≡ 1) → 1 < v.size.n
        many other = let w = within q (node-before q is) in omega (arith, w.0, w.1, other)

  second-delivered : (z : World) → Second z → AllDelivered z
  second-delivered z end =
      certified-delivered z (record {
        sound = end.0.sound;
        ready = end.0.ready;
        certified =
            λ p q _ is x k. certified z end q is x (end.1.only p x k);
      })

  all-delivered : Reaches AllDelivered v (both rounds rounds v)
  all-delivered =
      reaches-weaker Second AllDelivered v (both rounds rounds v) second-delivered
      (reaches-both First Second rounds rounds v
      (rounds-reach Own v calm (λ p is x k.
      subst (λ (i : ℕ). knows (stored v i) x ≡ true) k.0 k.1)) second)

-- ---- any world of a run

-- every world of a run is sound
pub reached-sound : (w : World) → IsReached w → Sound w
reached-sound w r = record { kept = (reached-keeps w r).0; live = reached-live w r }

-- from every world of a run that isn't stranded, the recovery delivers every stored message at
-- every node
pub can-deliver : (w : World) → IsReached w → IsNotStranded w → CanDeliver w
can-deliver w r free keeps_doubtful =
    record {
      goes = whole.goes;
      onward =
          run-goes_on w (after w (recovery keeps_doubtful w)) (recovery keeps_doubtful w)
          (run w (recovery keeps_doubtful w)).0 refl;
      delivered = whole.leads;
    }
  where
    whole : Reaches AllDelivered w (recovery keeps_doubtful w)
    whole =
        reaches-both _ AllDelivered (all_back keeps_doubtful) (both rounds rounds) w
        (all-back keeps_doubtful w (reached-sound w r))
        (λ v k. all-delivered v k.0 (k.2 free))
