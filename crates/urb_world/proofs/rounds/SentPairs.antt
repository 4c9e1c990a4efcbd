-- Ticks among other events. What a node had pending is sent to another node if it stays unheard
-- there. So whatever follows from sending it holds.
use Rattle.urb_world.proofs.Common.{AllByRecursion, Content, Event, IsDone, IsDueAmong, Label}
use Rattle.urb_world.proofs.Common.{Limits, List, NAMES_PER_TICK, Node, Option, Ready, Reply, Tick}
use Rattle.urb_world.proofs.Common.{World, [], acked, after, ap, are_rising, arith, cases_Bool}
use Rattle.urb_world.proofs.Common.{cond-false, cond-true, cond_both, cursor_next, cyclic, due_of}
use Rattle.urb_world.proofs.Common.{eq-eqb, false, false≢true, has_pair, inl, inr, is_down, is_due}
use Rattle.urb_world.proofs.Common.{is_node, length, pend, refl, resent, rising, run, step, subst}
use Rattle.urb_world.proofs.Common.{suc, sym, true, ℕ, ⊎_elim, ◌*◌, ◌++◌, ◌<◌, ◌==◌, ◌∙◌, ◌∷◌, ◌≡◌}
use Rattle.urb_world.proofs.Common.{◌≤◌, ◌⊎◌}
use Rattle.urb_world.proofs.steps.DraftsInSteps.{step-size}
use Rattle.urb_world.proofs.rounds.LastingCounts.{run-further, step-further}
use Rattle.urb_world.proofs.ticks.DueTurns.{at-turn, due-passes, in-has, in-unfilter, turn-below}
use Rattle.urb_world.proofs.ticks.DuePairs.{due-rises, has_pair-rising, in-due, length-rising}
use Rattle.urb_world.proofs.ticks.DuePairs.{rises-records, rises-rising}
use Rattle.urb_world.proofs.steps.Growth.{pair-begins, run-goes_on}
use Rattle.urb_world.proofs.rounds.EventTicks.{AreAmong, dues_among, is_tick_of, resent_in}
use Rattle.urb_world.proofs.rounds.EventTicks.{ticks_among}
use Rattle.urb_world.proofs.recovery.NodeLists.{in-others, packet-in, packet_to}
use Rattle.urb_world.proofs.recovery.ContinuedWorlds.{Sound, run-sound}
use Rattle.urb_world.proofs.ticks.PassedPairs.{Nearer}
use Rattle.urb_world.proofs.rounds.ProceedingEvents.{Proceeds, after-more}
use Rattle.urb_world.proofs.recovery.CountedArrivals.{settled}
use Rattle.urb_world.proofs.ticks.Membership.{IsIn, all-in, in-pairs}
use Rattle.urb_world.proofs.rounds.UpNodes.{run-hears, step-hears, step-stays, tick-done, tick-node}
use Rattle.urb_world.proofs.rounds.UpNodes.{tick-of, tick-ready}
use Rattle.urb_world.proofs.rounds.WholeNodes.{whole, whole-more, whole-ready}
use Rattle.urb_world.specs.World.{stored}
use Rattle.urb_world.proofs.recovery.EventPlans.{after-one}

abbrev Pairs : Type 0
Pairs = List (Label × Content)

-- p ticks, and sends the pair to q, among events that proceed
pub record Sends (p q : ℕ) (x : Label) (m : Content) (w : World)
    (events : List Event) : Type 0 where
  -- the world is sound
  pub sound : Sound w
  -- the tick and the events after it proceed
  pub goes : Proceeds w (Tick p ∷ events)
  -- q is a node of the group
  pub there : is_node w.size.n q ≡ true
  -- p is up
  pub up : is_down (w.node p).state ≡ false
  -- the tick sends the pair to q
  pub sent : IsIn (packet_to w p q x m) (resent_in (step w (Tick p)).0)

-- A claim that follows from sending. It holds when p sends. If it holds for the events after a
-- first event, it holds for all of them.
pub record Comes (p q : ℕ) (x : Label) (m : Content)
    (Claim : World → List Event → Type 0) : Type 0 where
  -- it holds if the first event is a tick of p that sends the pair to q
  pub sends : (w : World) (events : List Event) → Sends p q x m w events → Claim w (Tick p ∷ events)
  -- it holds if it holds for the events after the first one
  pub later : (w : World) (event : Event) (events : List Event) → Claim (step w event).1 events
      → Claim w (event ∷ events)

module _ (all : Pairs) (rises : are_rising all ≡ true) (p q : ℕ) (x : Label) (m : Content)
    (other : (q == p) ≡ false) where
  -- Node p is up and has the pair pending, also by the record that it holds, and it is to tick
  -- often enough. All that is due at its ticks is among these pairs. q's certificate of the name
  -- isn't heard even at the end.
  pub record Begun (w : World) (events : List Event) : Type 0 where
    -- the world is sound
    pub sound : Sound w
    -- the events proceed
    pub goes : Proceeds w events
    -- q is a node of the group
    pub there : is_node w.size.n q ≡ true
    -- p is up
    pub up : is_down (w.node p).state ≡ false
    -- p has the pair, perhaps in the record that it holds
    pub held : has_pair (pend (whole p (w.node p)).records) x m ≡ true
    -- the pairs that are due at p's ticks are among all pairs
    pub within : AllByRecursion (AreAmong all) (dues_among p w events)
    -- p hasn't heard q's certificate of the name even at the end
    pub unheard : acked ((after w events).node p).heard x q ≡ false
    -- the pairs before it in cyclic order
    pub us : Pairs
    -- the pairs behind it
    pub vs : Pairs
    -- cyclic order has the pair between these
    pub at : cyclic (w.node p).cursor all ≡ us ++ (x, m) ∷ vs
    -- p ticks often enough to pass the pairs before it
    pub less : length us < NAMES_PER_TICK * ticks_among p events

  -- q's certificate isn't heard at any time before
  unheard-now : (w : World) (events : List Event) → Begun w events
      → acked (w.node p).heard x q ≡ false
  unheard-now w events b =
      ⊎_elim (λ e. absurd (false≢true
      (sym b.unheard ∙ (run-hears w events p b.goes b.up).heard x q e))) (λ e. e)
      (cases_Bool (acked (w.node p).heard x q))

  -- what is due now is among all
  due-now : (w : World) (events : List Event) → Begun w events → (w.node p).state ≡ Ready
      → AreAmong all (due_of w.size.n p (w.node p).heard (rising (pend (stored w p))))
      → IsDueAmong all x m (due_of w.size.n p (w.node p).heard (rising (pend (stored w p))))
  due-now w events b ready among =
      record {
        rises =
            due-rises w.size (stored w) p (stored w p) (b.sound.kept.nodes p).kept w.size.n p
            (w.node p).heard;
        among = among;
        there = in-has (x, m) (due_of w.size.n p (w.node p).heard (rising (pend (stored w p))))
            (in-due w.size.n p q (w.node p).heard (pend (stored w p)) x m
            (in-others w.size.n p q b.there other) (unheard-now w events b)
            (subst (λ (node : Node). has_pair (pend node.records) x m ≡ true)
            (ap (settled p (w.node p)) ready) b.held));
      }

  -- what still holds after the first event
  next : (w : World) (event : Event) (events : List Event) → Begun w (event ∷ events)
      → is_down ((step w event).1.node p).state ≡ false
      → AllByRecursion (AreAmong all) (dues_among p (step w event).1 events)
      → (us vs : Pairs) → cyclic ((step w event).1.node p).cursor all ≡ us ++ (x, m) ∷ vs
      → length us < NAMES_PER_TICK * ticks_among p events → Begun (step w event).1 events
  next w event events b up within us vs at less =
      record {
        sound = subst Sound (after-one w event) (run-sound w (event ∷ []) b.sound);
        goes = b.goes.2;
        there =
            subst (λ (size : Limits). is_node size.n q ≡ true) (sym (step-size w event)) b.there;
        up = up;
        held =
            pair-begins (whole p (w.node p)).records (whole p ((step w event).1.node p)).records
            (step-further w b.sound event p b.goes.0 b.goes.1 b.up).records x m b.held;
        within = within;
        unheard =
            subst (λ (v : World). acked (v.node p).heard x q ≡ false)
            (after-more w event events) b.unheard;
        us = us;
        vs = vs;
        at = at;
        less = less;
      }

  module _ (Claim : World → List Event → Type 0) (comes : Comes p q x m Claim) where
    -- a tick of p
    ticking : (w : World) (events : List Event)
        → (Begun (step w (Tick p)).1 events → Claim (step w (Tick p)).1 events)
        → Begun w (Tick p ∷ events) → Claim w (Tick p ∷ events)
    ticking w events ih b =
        ⊎_elim sends passing (due-passes all rises x m due
        (due-now w (Tick p ∷ events) b (tick-ready w p done) within.0)
        (w.node p).cursor b.us b.vs b.at)
      where
        due : Pairs
        due = due_of w.size.n p (w.node p).heard (rising (pend (stored w p)))

        done : IsDone (step w (Tick p)).0
        done = b.goes.1

        within : AllByRecursion (AreAmong all) (due ∷ dues_among p (step w (Tick p)).1 events)
        within =
            subst (AllByRecursion (AreAmong all))
            (cond-true (p == p) (due ∷ dues_among p (step w (Tick p)).1 events)
            (dues_among p (step w (Tick p)).1 events) (eq-eqb p p refl)) b.within

        one-less : ticks_among p (Tick p ∷ events) ≡ suc (ticks_among p events)
        one-less =
            cond-true (p == p) (suc (ticks_among p events)) (ticks_among p events) (eq-eqb p p refl)

        sends : IsIn (x, m) (resent (w.node p).cursor due) → Claim w (Tick p ∷ events)
        sends i =
            comes.sends w events
            (record {
              sound = b.sound;
              goes = b.goes;
              there = b.there;
              up = b.up;
              sent =
                  subst (λ (o : Reply × World). IsIn (packet_to w p q x m) (resent_in o.0))
                  (sym (tick-done w p done))
                  (packet-in w p q x m other (unheard-now w (Tick p ∷ events) b) b.there
                  (resent (w.node p).cursor due) i);
            })

        passing : Nearer all (cursor_next (w.node p).cursor due) (x, m) (length b.us)
            → Claim w (Tick p ∷ events)
        passing n =
            comes.later w (Tick p) events
            (ih (next w (Tick p) events b
            (subst (λ (node : Node). is_down node.state ≡ false)
            (sym (tick-node w p done)) b.up) within.1 n.us n.vs
            (subst (λ (node : Node). cyclic node.cursor all ≡ n.us ++ (x, m) ∷ n.vs)
            (sym (tick-node w p done)) n.at) (omega (arith, n.less, b.less, one-less))))

    -- any event
    one-more : (w : World) (event : Event) (events : List Event)
        → (Begun (step w event).1 events → Claim (step w event).1 events) → Begun w (event ∷ events)
        → Claim w (event ∷ events)
    one-more w event events ih b = ⊎_elim tick apart (cases_Bool (is_tick_of p event))
      where
        tick : is_tick_of p event ≡ true → Claim w (event ∷ events)
        tick t =
            subst (λ (v : Event). (Begun (step w v).1 events → Claim (step w v).1 events)
            → Begun w (v ∷ events) → Claim w (v ∷ events)) (sym (tick-of p event t))
            (ticking w events)
            ih b

        now : Pairs
        now = due_of w.size.n p (w.node p).heard (rising (pend (stored w p)))

        later : List Pairs
        later = dues_among p (step w event).1 events

        apart : is_tick_of p event ≡ false → Claim w (event ∷ events)
        apart t =
            let s = step-stays w event p b.goes.0 t b.up in
            let same : ticks_among p (event ∷ events) ≡ ticks_among p events =
            cond-false (is_tick_of p event) (suc (ticks_among p events))
            (ticks_among p events) t in
            let within : AllByRecursion (AreAmong all) (dues_among p (step w event).1 events) =
            subst (AllByRecursion (AreAmong all))
            (cond-false (is_tick_of p event) (now ∷ later) later t) b.within in
            comes.later w event events
            (ih (next w event events b s.up within b.us b.vs
            (subst (λ (c : Option Label). cyclic c all ≡ b.us ++ (x, m) ∷ b.vs)
            (sym s.cursor) b.at) (omega (arith, b.less, same))))

    meanwhile : (events : List Event) (w : World) → Begun w events → Claim w events
    meanwhile [] w b = let l = b.less in absurd (omega (arith, l))
    meanwhile (event ∷ events) w b = one-more w event events (meanwhile events (step w event).1) b

-- what is due at any tick is pending at the end
dues-within : (all : Pairs) (p : ℕ) (events : List Event) (w : World)
    → ((y : Label) (o : Content) → has_pair (pend (stored (after w events) p)) y o ≡ true
    → has_pair all y o ≡ true)
    → AllByRecursion (AreAmong all) (dues_among p w events)
dues-within all p [] w h = tt
dues-within all p (event ∷ events) w h =
    one (dues-within all p events (step w event).1
    (subst (λ (v : World). (y : Label) (o : Content) → has_pair (pend (stored v p)) y o ≡ true
    → has_pair all y o ≡ true) (after-more w event events) h))
  where
    due : Pairs
    due = due_of w.size.n p (w.node p).heard (rising (pend (stored w p)))

    now : (d : Label × Content) → IsIn d due → has_pair (pend (stored w p)) d.0 d.1 ≡ true
    now d i =
        sym (has_pair-rising (pend (stored w p)) d.0 d.1)
        ∙ in-has d (rising (pend (stored w p)))
        (in-unfilter (λ pair. is_due w.size.n p (w.node p).heard pair.0) d
        (rising (pend (stored w p))) i)

    later : (d : Label × Content) → has_pair (pend (stored w p)) d.0 d.1 ≡ true
        → has_pair (pend (stored (after w (event ∷ events)) p)) d.0 d.1 ≡ true
    later d k =
        pair-begins (stored w p) (stored (after w (event ∷ events)) p)
        ((run-goes_on w (after w (event ∷ events)) (event ∷ events)
        (run w (event ∷ events)).0 refl).records p) d.0 d.1 k

    one : AllByRecursion (AreAmong all) (dues_among p (step w event).1 events)
        → AllByRecursion (AreAmong all) (dues_among p w (event ∷ events))
    one rest =
        cond_both (is_tick_of p event) (due ∷ dues_among p (step w event).1 events)
        (dues_among p (step w event).1 events) (AllByRecursion (AreAmong all))
        (λ _. (
          all-in (λ pair. has_pair all pair.0 pair.1 ≡ true) due
              (λ d i. h d.0 d.1 (later d (now d i))),
          rest,
        )) (λ _. rest)

-- some pair is one at least
some-pairs : (pairs : Pairs) (x : Label) (m : Content) → has_pair pairs x m ≡ true
    → 1 ≤ length pairs
some-pairs [] x m h = absurd (false≢true h)
some-pairs (pair ∷ pairs) x m h = omega arith

-- what p holds is stored after these events, if it ticks among them
abbrev Stores : ℕ → Label → Content → List Event → World → Type 0
Stores p x m events w =
    Sound w → Proceeds w events → is_down (w.node p).state ≡ false
    → has_pair (pend (whole p (w.node p)).records) x m ≡ true → 1 ≤ ticks_among p events
    → has_pair (pend (stored (after w events) p)) x m ≡ true

-- a pair that p has, perhaps in the record that it holds, is stored after events in which p ticks
pub stored-then : (p : ℕ) (x : Label) (m : Content) (events : List Event) (w : World)
    → Stores p x m events w
stored-then p x m [] w sound goes up held l = absurd (omega (arith, l))
stored-then p x m (event ∷ events) w sound goes up held l =
    ⊎_elim ticked (λ t. other t (stored-then p x m events (step w event).1)) (cases_Bool
    (is_tick_of p event))
  where
    ticked : is_tick_of p event ≡ true
        → has_pair (pend (stored (after w (event ∷ events)) p)) x m ≡ true
    ticked t =
        pair-begins (stored w p) (stored (after w (event ∷ events)) p)
        ((run-goes_on w (after w (event ∷ events)) (event ∷ events)
        (run w (event ∷ events)).0 refl).records p) x m
        (subst (λ (node : Node). has_pair (pend node.records) x m ≡ true)
        (whole-ready p (w.node p) (tick-ready w p
        (subst (λ (v : Event). IsDone (step w v).0) (tick-of p event t) goes.1))) held)

    other : is_tick_of p event ≡ false → Stores p x m events (step w event).1
        → has_pair (pend (stored (after w (event ∷ events)) p)) x m ≡ true
    other t rest =
        subst (λ (v : World). has_pair (pend (stored v p)) x m ≡ true)
        (sym (after-more w event events))
        (rest (subst Sound (after-one w event) (run-sound w (event ∷ []) sound)) goes.2
        (step-hears w event p goes.0 goes.1 up).up
        (pair-begins (whole p (w.node p)).records (whole p ((step w event).1.node p)).records
        (step-further w sound event p goes.0 goes.1 up).records x m held)
        (let same = cond-false (is_tick_of p event) (suc (ticks_among p events))
        (ticks_among p events) t in omega (arith, l, same)))

-- Node p ticks often enough to resend what it has pending at the end, with the record that it holds
-- then.
abbrev pub TicksEnough : ℕ → World → List Event → Type 0
TicksEnough p w events =
    length (pend (whole p ((after w events).node p)).records)
    ≤ NAMES_PER_TICK * ticks_among p events

-- so what it knew at first, or held, is stored at the end
pub stored-at-end : (p : ℕ) (x : Label) (m : Content) (events : List Event) (w : World) → Sound w
    → Proceeds w events → is_down (w.node p).state ≡ false
    → has_pair (pend (whole p (w.node p)).records) x m ≡ true → TicksEnough p w events
    → has_pair (pend (stored (after w events) p)) x m ≡ true
stored-at-end p x m events w sound goes up held enough =
    stored-then p x m events w sound goes up held
    (let some =
    some-pairs (pend (whole p ((after w events).node p)).records) x m
    (pair-begins (whole p (w.node p)).records (whole p ((after w events).node p)).records
    (run-further events w sound p goes up).records x m held) in omega (arith, some, enough))

-- Node p is up, and has the pair pending or holds its record. It ticks often enough. Then it has
-- heard q's certificate by the end, or what follows from sending holds.
pub comes-about : (p q : ℕ) (x : Label) (m : Content) (Claim : World → List Event → Type 0)
    → Comes p q x m Claim → (w : World) (events : List Event) → Sound w → is_node w.size.n q ≡ true
    → (q == p) ≡ false → is_down (w.node p).state ≡ false
    → has_pair (pend (whole p (w.node p)).records) x m ≡ true → Proceeds w events
    → TicksEnough p w events
    → (acked ((after w events).node p).heard x q ≡ true) ⊎ Claim w events
comes-about p q x m Claim comes w events was there other up held goes enough =
    ⊎_elim (λ e. inl e) (λ e. inr (unheard e)) (cases_Bool (acked (z.node p).heard x q))
  where
    z : World
    z = after w events

    sound : Sound z
    sound = run-sound w events was

    all : Pairs
    all = rising (pend (stored z p))

    rises : are_rising all ≡ true
    rises =
        rises-rising all (rises-records z.size (stored z) p (stored z p) (sound.kept.nodes p).kept)

    stands : has_pair all x m ≡ true
    stands =
        has_pair-rising (pend (stored z p)) x m
        ∙ stored-at-end p x m events w was goes up held enough

    unheard : acked (z.node p).heard x q ≡ false → Claim w events
    unheard e =
        let is = in-pairs all x m stands in
        let turn = at-turn all rises x m is (w.node p).cursor in
        let below = turn-below all rises x m is (w.node p).cursor in
        let more = whole-more p (z.node p) in
        meanwhile all rises p q x m other Claim comes events w
        (record {
          sound = was;
          goes = goes;
          there = there;
          up = up;
          held = held;
          within =
              dues-within all p events w (λ y o h. has_pair-rising (pend (stored z p)) y o ∙ h);
          unheard = e;
          us = turn.us;
          vs = turn.vs;
          at = turn.at;
          less =
              omega (arith, below, turn.count, enough, more, length-rising (pend (stored z p)));
        })
