-- Busy rounds among nodes that are up. After one round, what one of them knew or held is known to
-- all of them, or held. After the next it is certified. So two rounds deliver, once the records
-- that are held then are stored.
use Rattle.urb_world.proofs.Common.{Act, AreUp, Begins, Bool, Content, Entry, Event}
use Rattle.urb_world.proofs.Common.{HasDeliveredHeld, IsBusyRoundAmong, IsHeldAmong, IsNotStranded}
use Rattle.urb_world.proofs.Common.{IsRoundAmong, Label, Limits, List, NAMES_PER_TICK, Node, Ready}
use Rattle.urb_world.proofs.Common.{Some, World, acked, acts_of, after, and_parts, ap, arith}
use Rattle.urb_world.proofs.Common.{cases_Bool, cert, eqb-true, false, false≢true, has_name}
use Rattle.urb_world.proofs.Common.{has_pair, is_node, length, log, ltb-true, majority_grows}
use Rattle.urb_world.proofs.Common.{majority_passes, map, message_of, name, names, nat_lt, part_of}
use Rattle.urb_world.proofs.Common.{pend, refl, row, run, subst, suc, sym, take, true, zero, ℕ}
use Rattle.urb_world.proofs.Common.{⊎_elim, ◌*◌, ◌++◌, ◌+◌, ◌-◌, ◌==◌, ◌∙◌, ◌≡◌, ◌≤◌}
use Rattle.std.proofs.Math.Seq.{take-append-add}
use Rattle.std.proofs.lemmas.List.{map-append}
use Rattle.urb_world.proofs.recovery.CertifiedNames.{in_order, own-known, reaches-number}
use Rattle.urb_world.proofs.recovery.CountedArrivals.{knows}
use Rattle.urb_world.proofs.recovery.UnstrandedGroups.{run-free}
use Rattle.urb_world.proofs.recovery.ContinuedWorlds.{Sound, known-pair, knows-pair, run-sound}
use Rattle.urb_world.proofs.rounds.RoundArrivals.{sound-tells}
use Rattle.urb_world.proofs.rounds.OtherNodes.{Other, another}
use Rattle.urb_world.proofs.rounds.ProceedingEvents.{Proceeds, undisturbed-unbroken}
use Rattle.urb_world.proofs.rounds.RoundActs.{all-arrive, ticks-counted}
use Rattle.urb_world.proofs.rounds.SentPairs.{TicksEnough, stored-at-end}
use Rattle.urb_world.proofs.rounds.UpNodes.{run-hears}
use Rattle.urb_world.proofs.rounds.LastingCounts.{IsCountedAt, run-size}
use Rattle.urb_world.proofs.rounds.WholeNodes.{whole, whole-acked, whole-certified, whole-knows}
use Rattle.urb_world.proofs.rounds.WholeNodes.{whole-ready, whole-records}
use Rattle.urb_world.proofs.steps.Growth.{begins-trans, run-goes_on}
use Rattle.urb_world.specs.Rounds.{ticks_of}
use Rattle.urb_world.specs.World.{stored}
use Rattle.urb_names.proofs.LogRows.{row-split}

-- a round is a busy one
pub round-busy : (among : ℕ → Bool) (acts : List Act) (end : World) → IsRoundAmong among acts end
    → IsBusyRoundAmong among acts end
round-busy among acts end round = record {
  unbroken = undisturbed-unbroken acts round.undisturbed;
  ticks =
      λ p is. subst (λ (rs : List Entry). length (pend rs) ≤ NAMES_PER_TICK * ticks_of p acts)
      (sym (ap (λ (n : Node). n.records) (whole-ready p (end.node p) (round.settled p is)))
      ∙ whole-records p (end.node p)) (round.ticks p is);
  arrive = round.arrive;
}

-- ---- one round

module _ (among : ℕ → Bool) (w : World) (sound : Sound w) (up : AreUp among w) (events : List Event)
    (goes : Proceeds w events) (round : IsBusyRoundAmong among (acts_of w events) (after w events))
  where
    abbrev z : World
    z = after w events

    enough : (p : ℕ) → among p ≡ true → TicksEnough p w events
    enough p is =
        subst (λ (count : ℕ). length (pend (whole p (z.node p)).records) ≤ NAMES_PER_TICK * count)
        (ticks-counted p events w goes)
        (subst (λ (rs : List Entry). length (pend rs) ≤ NAMES_PER_TICK * ticks_of p
        (acts_of w events)) (sym (whole-records p (z.node p))) (round.ticks p is))

    -- each has counted another node for each name that the other knew at first, or held
    tells : (p q : ℕ) → among p ≡ true → among q ≡ true → (q == p) ≡ false → (x : Label)
        → knows (whole p (w.node p)).records x ≡ true → IsCountedAt z q x p
    tells p q from to other x k =
        let pair = known-pair (whole p (w.node p)).records x k in
        sound-tells among w p q x pair.0 events from to sound (up q to).0 other
        (up p from).1 pair.1 goes (all-arrive among events w goes round.arrive) (enough p from)

    -- what it knew itself, or held, it has stored
    keeps : (p : ℕ) → among p ≡ true → (x : Label) → knows (whole p (w.node p)).records x ≡ true
        → knows (stored z p) x ≡ true
    keeps p is x k =
        let pair = known-pair (whole p (w.node p)).records x k in
        knows-pair (stored z p) x pair.0
        (stored-at-end p x pair.0 events w sound goes (up p is).1 pair.1 (enough p is))

    -- each knows what one of them knew at first, or held; perhaps it holds it
    spreads : (p q : ℕ) → among p ≡ true → among q ≡ true → (x : Label)
        → knows (whole p (w.node p)).records x ≡ true
        → knows (whole q (z.node q)).records x ≡ true
    spreads p q from to x k =
        ⊎_elim itself (λ other. (tells p q from to other x k).known) (cases_Bool (q == p))
      where
        itself : (q == p) ≡ true → knows (whole q (z.node q)).records x ≡ true
        itself e =
            subst (λ (i : ℕ). knows (whole i (z.node i)).records x ≡ true)
            (sym (eqb-true q p e))
            (whole-knows p (z.node p) (z.node p).state x (keeps p from x k))

    still-up : AreUp among z
    still-up p is = (
      subst (λ (size : Limits). is_node size.n p ≡ true) (sym (run-size events w)) (up p is).0,
      (run-hears w events p goes (up p is).1).up,
    )

    -- each certifies what they all knew or held, if they are a majority; perhaps it holds the
    -- certificate
    module _ (most : majority_passes w.size.n among ≡ true) (free : IsNotStranded w) (x : Label)
        (all : (p : ℕ) → among p ≡ true → knows (whole p (w.node p)).records x ≡ true) where
      most-there : majority_passes z.size.n among ≡ true
      most-there =
          subst (λ (size : Limits). majority_passes size.n among ≡ true)
          (sym (run-size events w)) most

      certifies : (q : ℕ) → among q ≡ true → has_name (cert (whole q (z.node q)).records) x ≡ true
      certifies q to =
          ⊎_elim (λ c. c) (λ none. ⊎_elim (λ other. absurd (not-alone none other)) alone
          (another among q z.size.n most-there))
          (cases_Bool (has_name (cert (whole q (z.node q)).records) x))
        where
          pair : (m : Content) × (has_pair (pend (stored z q)) x m ≡ true)
          pair = known-pair (stored z q) x (keeps q to x (all q to))

          itself : acked (whole q (z.node q)).acks x q ≡ true
          itself =
              whole-acked q (z.node q) x q
              (((run-sound w events sound).live.nodes q).counts (still-up q to).1 x pair.0 pair.1)

          not-alone : has_name (cert (whole q (z.node q)).records) x ≡ false → Other among q → ⊥
          not-alone none other =
              false≢true (sym ((tells other.0 q other.1 to other.2 x (all other.0 other.1)).counts.few
              none)
              ∙ majority_grows z.size.n among (acked (whole q (z.node q)).acks x) acks most-there)
            where
              acks : (p : ℕ) → among p ≡ true → acked (whole q (z.node q)).acks x p ≡ true
              acks p from =
                  ⊎_elim (λ e. subst (λ (i : ℕ). acked (whole q (z.node q)).acks x i ≡ true)
                  (eqb-true q p e) itself)
                  (λ differs. (tells p q from to differs x (all p from)).counts.counted none)
                  (cases_Bool (q == p))

          alone : z.size.n ≤ 1 → has_name (cert (whole q (z.node q)).records) x ≡ true
          alone l =
              whole-certified q (z.node q) x
              (subst (λ (i : ℕ). has_name (cert (stored z i)) x ≡ true) (sym is_one)
              (run-free w events sound.live free count x pair.0
              (subst (λ (i : ℕ). has_pair (pend (stored z i)) x pair.0 ≡ true) is_one pair.1)))
            where
              parts : (nat_lt 0 q ≡ true) × (nat_lt q (suc z.size.n) ≡ true)
              parts = and_parts (nat_lt 0 q) (nat_lt q (suc z.size.n)) (still-up q to).0

              is_one : q ≡ 1
              is_one =
                  let low = ltb-true 0 q parts.0 in let high = ltb-true q (suc z.size.n) parts.1 in
                  omega (arith, l, low, high)

              count : z.size.n ≡ 1
              count =
                  let low = ltb-true 0 q parts.0 in let high = ltb-true q (suc z.size.n) parts.1 in
                  omega (arith, l, low, high)

-- ---- two rounds

module _ (among : ℕ → Bool) (w : World) (sound : Sound w) (free : IsNotStranded w)
    (most : majority_passes w.size.n among ≡ true) (up : AreUp among w)
    (first : List Event) (goes_first : Proceeds w first)
    (one : IsBusyRoundAmong among (acts_of w first) (after w first))
    (second : List Event) (goes_second : Proceeds (after w first) second)
    (two : IsBusyRoundAmong among (acts_of (after w first) second) (after (after w first) second))
  where
    abbrev u : World
    u = after w first

    abbrev v : World
    v = after u second

    ends : Sound v
    ends = run-sound u second (run-sound w first sound)

    -- what one of them knew at first, or held, all of them have certified, and perhaps hold
    certified : (p q : ℕ) → among p ≡ true → among q ≡ true → (x : Label)
        → knows (whole p (w.node p)).records x ≡ true
        → has_name (cert (whole q (v.node q)).records) x ≡ true
    certified p q from to x k =
        certifies among u (run-sound w first sound)
        (still-up among w sound up first goes_first one) second goes_second two
        (subst (λ (size : Limits). majority_passes size.n among ≡ true) (sym (run-size first w))
        most)
        (run-free w first sound.live free) x
        (λ i is. spreads among w sound up first goes_first one p i from is x k) q to

    -- a node that holds no record has certified it
    pub certified-at : (p q : ℕ) → among p ≡ true → among q ≡ true → (v.node q).state ≡ Ready
        → (x : Label) → knows (whole p (w.node p)).records x ≡ true
        → has_name (cert (stored v q)) x ≡ true
    certified-at p q from to ready x k =
        subst (λ (node : Node). has_name (cert node.records) x ≡ true)
        (whole-ready q (v.node q) ready) (certified p q from to x k)

    module _ (q : ℕ) (to : among q ≡ true) (ready : (v.node q).state ≡ Ready) where
      module _ (s count : ℕ)
          (held : (i : ℕ) → 1 ≤ i → i ≤ count → IsHeldAmong among w (name s i)) where
        long : count ≤ length (part_of s (log (stored v q)))
        long =
            reaches-number v ends q s count
            (λ i low high. let h = held i low high in
            certified-at h.0 q h.1 to ready (name s i)
            (whole-knows h.0 (w.node h.0) (w.node h.0).state (name s i) h.2))

        abbrev names-behind : List Label
        names-behind = row s (1 + count) (length (part_of s (log (stored v q))) - count)

        split : names s (length (part_of s (log (stored v q)))) ≡ names s count ++ names-behind
        split =
            row-split s 1 count (length (part_of s (log (stored v q))) - count)
            (length (part_of s (log (stored v q)))) (1 + count) (omega (arith, long)) refl

        begins : Begins (names s count) (part_of s (log (stored v q)))
        begins = (names-behind, sym split ∙ sym (in_order v ends q s).numbers)

      -- so the names that are held among them are delivered
      pub held-delivered : HasDeliveredHeld among w v q
      held-delivered s count held = begins s count held

      -- and so is all that the storage of one of them took
      module _ (s : ℕ) (sender : among s ≡ true) where
        abbrev old : List Content
        old = (w.node s).broadcast

        abbrev part : List Label
        part = part_of s (log (stored v q))

        known : (i : ℕ) → 1 ≤ i → i ≤ length old → IsHeldAmong among w (name s i)
        known zero low high = absurd (omega (arith, low))
        known (suc j) low high = (s, sender, own-known w sound s s j (omega (arith, high)))

        -- after two busy rounds, a ready node's log begins, for each sender, with the names that
        -- the sender had stored before
        pub stored-names : Begins (names s (length old)) part
        stored-names = begins s (length old) known

        more : Begins old (v.node s).broadcast
        more =
            begins-trans old (u.node s).broadcast (v.node s).broadcast
            ((run-goes_on w u first (run w first).0 refl).broadcast s)
            ((run-goes_on u v second (run u second).0 refl).broadcast s)

        abbrev behind : List Content
        behind = take (length part - length old) more.0

        -- these names have the sender's messages in the log
        pub stored-messages : Begins (map Some old) (map (message_of (pend (stored v q))) part)
        stored-messages = (
          map Some behind,
          sym (map-append Some old behind)
              ∙ (ap (map Some) (sym (take-append-add old more.0 (length part - length old))
              ∙ ap (λ (k : ℕ). take k (old ++ more.0)) count
              ∙ ap (take (length part)) more.1)
              ∙ sym (in_order v ends q s).messages),
        )
          where
            count : length old + (length part - length old) ≡ length part
            count = let l = long s (length old) known in omega (arith, l)
