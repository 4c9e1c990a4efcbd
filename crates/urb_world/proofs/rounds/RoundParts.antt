-- Parts of a round that exists from every world of a run. Nodes come back. They tick, one after the
-- other. Then each packet arrives, and the record that it may draft is stored.
use Rattle.urb_world.proofs.Common.{Act, Adds, AllByRecursion, Arrive, Arrives, Bool, Breaks}
use Rattle.urb_world.proofs.Common.{Carried, DoesArrive, Down, Event, IsDone, Limits, List, Node}
use Rattle.urb_world.proofs.Common.{Ok, Plan, Ready, Reply, State, Storing, Tick, TicksArrive}
use Rattle.urb_world.proofs.Common.{World, [], act_of, acts_of, after, all_append, ap, append_assoc}
use Rattle.urb_world.proofs.Common.{arith, arrival_by, carries, comes_back, cond-false, cond-true}
use Rattle.urb_world.proofs.Common.{cond_both, each, eq-eqb, if◌then◌else◌, inl, inr, is_node}
use Rattle.urb_world.proofs.Common.{packets_in, readied, receipt_of, refl, resends, run, step}
use Rattle.urb_world.proofs.Common.{stores, subst, suc, sym, tick_by, true, world_after, zero, ℕ}
use Rattle.urb_world.proofs.Common.{⊎_elim, ◌&&◌, ◌++◌, ◌+◌, ◌==◌, ◌∙◌, ◌∷◌, ◌≡◌, ◌≤◌}
use Rattle.urb_world.proofs.rounds.ActLists.{acts-append, goes-quietly, packets-append}
use Rattle.urb_world.proofs.steps.ArrivalCases.{arrive-cases}
use Rattle.urb_world.proofs.recovery.CarriedPackets.{Carriable, carriable-stays}
use Rattle.urb_world.proofs.rounds.LastingCounts.{arrive-done}
use Rattle.urb_world.proofs.rounds.EventTicks.{is_tick_of, ticks_among}
use Rattle.urb_world.proofs.recovery.ContinuedWorlds.{Calm, Onward, onward-further, onward-still}
use Rattle.urb_world.proofs.recovery.EventPlans.{Reaches, after-none, reaches-append, reaches-none}
use Rattle.urb_world.proofs.recovery.EventPlans.{reaches-weaker}
use Rattle.urb_world.proofs.rounds.ProceedingEvents.{Proceeds, acts-more, acts-none, after-more}
use Rattle.urb_world.proofs.rounds.ProceedingEvents.{quietly-proceeds}
use Rattle.urb_world.proofs.recovery.OneRound.{calm-ticks, may-carry, onward-ticks, ticks}
use Rattle.urb_world.proofs.ticks.Membership.{IsIn, all-in, in-all, in-left, in-right}
use Rattle.urb_world.proofs.rounds.UpNodes.{tick-done}
use Rattle.urb_world.proofs.recovery.TickPackets.{tick_events}
use Rattle.urb_world.specs.RecoveredWorlds.{Goes}
use Rattle.urb_world.specs.RecoveryPlans.{packets_of}
use Rattle.urb_world.specs.Rounds.{Ticks as Ticking}
use Rattle.urb_world.proofs.rounds.ActCases.{act-cases}

-- ---- the ticks

abbrev pub ticking : ℕ → ℕ → Plan
ticking count p w = tick_events p count

-- after the ticks of these nodes each packet of theirs may be carried
pub all-tick : (count : ℕ) (ps : List ℕ) (w : World) → Calm w
    → AllByRecursion (λ p. is_node w.size.n p ≡ true) ps
    → Reaches (λ v. Calm v × Onward w v
    × AllByRecursion (Carriable v) (packets_of w (each (ticking count) ps w))) w
    (each (ticking count) ps w)
unfolding run
all-tick count [] w calm h = reaches-none _ w (calm, onward-still w calm, tt)
all-tick count (p ∷ ps) w calm h =
    reaches-append (λ u. Unit {0}) _ w (tick_events p count) (each (ticking count) ps u)
    (record { goes = (ticks w calm p h.0 count).goes; leads = tt })
    (λ _. reaches-weaker _ _ u (each (ticking count) ps u)
    (λ v r. (
      r.0,
      onward-further w u v onward r.1,
      subst (AllByRecursion (Carriable v))
          (sym (packets-append w (tick_events p count) (each (ticking count) ps u)))
          (all_append (Carriable v) (packets_of w (tick_events p count))
          (packets_of u (each (ticking count) ps u))
          (all-in (Carriable v) (packets_of w (tick_events p count))
          (λ packet i. carriable-stays packet u v r.1
          (in-all (Carriable u) packet (packets_of w (tick_events p count))
          (may-carry w calm p h.0 count) i))) r.2),
    ))
    (all-tick count ps u (calm-ticks w calm p h.0 count)
    (subst (λ (size : Limits). AllByRecursion (λ i. is_node size.n i ≡ true) ps)
    (sym onward.size) h.1)))
  where
    u : World
    u = after w (tick_events p count)

    onward : Onward w u
    onward = onward-ticks w calm p h.0 count

-- only ticks
abbrev pub AreTicks : List Event → Type 0
AreTicks events = AllByRecursion (λ event. (p : ℕ) × (event ≡ Tick p)) events

ticks-are : (p count : ℕ) → AreTicks (tick_events p count)
ticks-are p zero = tt
ticks-are p (suc count) = ((p, refl), ticks-are p count)

-- a plan in which nodes tick has only ticks
pub all-are : (count : ℕ) (ps : List ℕ) (w : World) → AreTicks (each (ticking count) ps w)
all-are count [] w = tt
all-are count (p ∷ ps) w =
    all_append (λ event. (q : ℕ) × (event ≡ Tick q)) (tick_events p count)
    (each (ticking count) ps (after w (tick_events p count))) (ticks-are p count)
    (all-are count ps (after w (tick_events p count)))

-- how often a node ticks in lists that are joined
pub among-append : (p : ℕ) (xs ys : List Event)
    → ticks_among p (xs ++ ys) ≡ ticks_among p xs + ticks_among p ys
among-append p [] ys = omega arith
among-append p (event ∷ xs) ys =
    cond_both (is_tick_of p event) (suc (ticks_among p xs)) (ticks_among p xs)
    (λ (k : ℕ). (if is_tick_of p event then suc (ticks_among p (xs ++ ys)) else ticks_among p
    (xs ++ ys)) ≡ k + ticks_among p ys)
    (λ e. let c = cond-true (is_tick_of p event) (suc (ticks_among p (xs ++ ys)))
    (ticks_among p (xs ++ ys)) e in let f = among-append p xs ys in omega (arith, c, f))
    (λ e. cond-false (is_tick_of p event) (suc (ticks_among p (xs ++ ys)))
    (ticks_among p (xs ++ ys)) e ∙ among-append p xs ys)

among-ticks : (p count : ℕ) → ticks_among p (tick_events p count) ≡ count
among-ticks p zero = refl
among-ticks p (suc count) =
    cond-true (p == p) (suc (ticks_among p (tick_events p count))) _ (eq-eqb p p refl)
    ∙ ap suc (among-ticks p count)

-- if each of these nodes ticks `count` times in turn, each of them ticks at least that often
pub often-enough : (count p : ℕ) (ps : List ℕ) (w : World) → IsIn p ps
    → count ≤ ticks_among p (each (ticking count) ps w)
often-enough count p [] w h = absurd h
often-enough count p (q ∷ ps) w h =
    ⊎_elim (λ e. subst (λ (i : ℕ).
    count ≤ ticks_among p (tick_events i count ++ each (ticking count) ps
    (after w (tick_events i count)))) (sym e) first)
    (λ k. let l = often-enough count p ps (after w (tick_events q count)) k in
    omega (
      arith,
      l,
      among-append p (tick_events q count)
          (each (ticking count) ps (after w (tick_events q count))),
    )) h
  where
    first : count ≤ ticks_among p
        (tick_events p count ++ each (ticking count) ps (after w (tick_events p count)))
    first =
        omega (
          arith,
          among-append p (tick_events p count)
              (each (ticking count) ps (after w (tick_events p count))),
          among-ticks p count,
        )

-- ---- what ticks send arrives

-- a packet that arrives in the second of two lists of acts arrives in both together
pub arrive-behind : (packet : Carried) (ls bs : List Act) → DoesArrive packet bs
    → DoesArrive packet (ls ++ bs)
arrive-behind packet [] bs h = h
arrive-behind packet (Ticking p packets ∷ ls) bs h = arrive-behind packet ls bs h
arrive-behind packet (Arrives other answers ∷ ls) bs h = inr (arrive-behind packet ls bs h)
arrive-behind packet (Adds ∷ ls) bs h = arrive-behind packet ls bs h
arrive-behind packet (Breaks ∷ ls) bs h = arrive-behind packet ls bs h

-- a packet that arrives in the first of two lists of acts arrives in both together
pub arrive-before : (packet : Carried) (ls bs : List Act) → DoesArrive packet ls
    → DoesArrive packet (ls ++ bs)
arrive-before packet [] bs h = absurd h
arrive-before packet (Ticking p packets ∷ ls) bs h = arrive-before packet ls bs h
arrive-before packet (Arrives other answers ∷ ls) bs h =
    ⊎_elim (λ e. inl e) (λ k. inr (arrive-before packet ls bs k)) h
arrive-before packet (Adds ∷ ls) bs h = arrive-before packet ls bs h
arrive-before packet (Breaks ∷ ls) bs h = arrive-before packet ls bs h

later-in : (w : World) (event : Event) (xs : List Event) (packet : Carried)
    → IsIn packet (packets_of (step w event).1 xs) → IsIn packet (packets_of w (event ∷ xs))
unfolding run
later-in w event xs packet i =
    in-right packet (packets_in (step w event).0) (packets_of (step w event).1 xs) i

first-in : (w : World) (event : Event) (xs : List Event) (packet : Carried)
    → IsIn packet (packets_in (step w event).0) → IsIn packet (packets_of w (event ∷ xs))
unfolding run
first-in w event xs packet i =
    in-left packet (packets_in (step w event).0) (packets_of (step w event).1 xs) i

module _ (among : ℕ → Bool) (bs : List Act) (none : TicksArrive among bs) where
  -- ticks, all of whose packets arrive after them
  pub ticks-then : (xs : List Event) (w : World) → AreTicks xs → Proceeds w xs
      → ((packet : Carried) → IsIn packet (packets_of w xs) → DoesArrive packet bs)
      → TicksArrive among (acts_of w xs ++ bs)
  ticks-then [] w are goes h =
      subst (λ (ls : List Act). TicksArrive among (ls ++ bs)) (sym (acts-none w)) none
  ticks-then (event ∷ xs) w are goes h =
      subst (λ (ls : List Act). TicksArrive among (ls ++ bs)) (sym (acts-more w event xs))
      (subst (λ (e : Event). IsDone (step w e).0 → TicksArrive among (acts_of (step w e).1 xs ++ bs)
      → ((packet : Carried) → IsIn packet (packets_in (step w e).0) → DoesArrive packet bs)
      → TicksArrive among ((act_of e (step w e).0 ++ acts_of (step w e).1 xs) ++ bs))
      (sym are.0.1) (first are.0.0) goes.1
      (ticks-then xs (step w event).1 are.1 goes.2
      (λ packet i. h packet (later-in w event xs packet i)))
      (λ packet i. h packet (first-in w event xs packet i)))
    where
      first : (p : ℕ) → IsDone (step w (Tick p)).0
          → TicksArrive among (acts_of (step w (Tick p)).1 xs ++ bs)
          → ((packet : Carried) → IsIn packet (packets_in (step w (Tick p)).0)
          → DoesArrive packet bs)
          → TicksArrive among ((tick_by p (step w (Tick p)).0 ++ acts_of (step w (Tick p)).1 xs)
          ++ bs)
      first p done =
          let next = (world_after w p (resends w.size.n p (w.node p))).1 in
          let sent = packets_in (resends w.size.n p (w.node p)).0 in
          subst (λ (o : Reply × World). TicksArrive among (acts_of o.1 xs ++ bs)
          → ((packet : Carried) → IsIn packet (packets_in o.0) → DoesArrive packet bs)
          → TicksArrive among ((tick_by p o.0 ++ acts_of o.1 xs) ++ bs))
          (sym (tick-done w p done))
          (λ rest all. (
            all-in (λ (packet : Carried). (among packet.source && among packet.target) ≡ true
                → DoesArrive packet (acts_of next xs ++ bs)) sent
                (λ packet i _. arrive-behind packet (acts_of next xs) bs (all packet i)),
            rest,
          ))

-- ---- the arrivals

-- an arrival that isn't refused counts
arrival-counts : (w : World) (packet : Carried)
    → IsDone (step w (Arrive packet.target (Ok packet))).0
    → DoesArrive packet (arrival_by (Ok packet) (step w (Arrive packet.target (Ok packet))).0)
arrival-counts w packet done =
    let is = (arrive-done w packet.target packet done).is in
    subst (λ (o : Reply × World). DoesArrive packet (arrival_by (Ok packet) o.0)) (sym is)
    (arrive-cases (λ (o : Reply × Node). DoesArrive packet (arrival_by (Ok packet) o.0))
    w.size packet.target packet.source packet.name packet.message packet.flags
    (w.node packet.target)
    (λ cause. inl refl) (λ cause. inl refl) (λ acks heard cause. inl refl)
    (λ acks heard told. inl refl))

-- events that go proceed
pub goes-proceeds : (events : List Event) (w : World) → Goes w events → Proceeds w events
goes-proceeds events w h = quietly-proceeds events w (goes-quietly events w h)

proceeds-first : (xs ys : List Event) (w : World) → Proceeds w (xs ++ ys) → Proceeds w xs
proceeds-first [] ys w h = tt
proceeds-first (event ∷ xs) ys w h = (h.0, h.1, proceeds-first xs ys (step w event).1 h.2)

proceeds-rest : (xs ys : List Event) (w : World) → Proceeds w (xs ++ ys) → Proceeds (after w xs) ys
proceeds-rest [] ys w h = subst (λ (v : World). Proceeds v ys) (sym (after-none w)) h
proceeds-rest (event ∷ xs) ys w h =
    subst (λ (v : World). Proceeds v ys) (sym (after-more w event xs))
    (proceeds-rest xs ys (step w event).1 h.2)

-- each of the packets that are carried arrives
pub all-do : (packets : List Carried) (w : World) (packet : Carried)
    → Proceeds w (each carries packets w) → IsIn packet packets
    → DoesArrive packet (acts_of w (each carries packets w))
all-do [] w packet goes h = absurd h
all-do (other ∷ packets) w packet goes h =
    subst (DoesArrive packet) (sym (acts-append w (carries other w) rest))
    (⊎_elim (λ e. arrive-before packet (acts_of w (carries other w)) (acts_of v rest)
    (subst (λ (c : Carried). DoesArrive c (acts_of w (carries other w))) e own))
    (λ k. arrive-behind packet (acts_of w (carries other w)) (acts_of v rest)
    (all-do packets v packet (proceeds-rest (carries other w) rest w goes) k)) h)
  where
    v : World
    v = after w (carries other w)

    rest : List Event
    rest = each carries packets v

    receipt : List Event
    receipt = stores other.target (after w (Arrive other.target (Ok other) ∷ []))

    first : Proceeds w (Arrive other.target (Ok other) ∷ receipt)
    first = proceeds-first (carries other w) rest w goes

    own : DoesArrive other (acts_of w (Arrive other.target (Ok other) ∷ receipt))
    own =
        subst (DoesArrive other) (sym (acts-more w (Arrive other.target (Ok other)) receipt))
        (arrive-before other (arrival_by (Ok other) (step w (Arrive other.target (Ok other))).0)
        (acts_of (step w (Arrive other.target (Ok other))).1 receipt)
        (arrival-counts w other first.1))

-- ---- lists without ticks

abbrev pub IsNoTick : Event → Type 0
IsNoTick (Tick q) = ⊥
IsNoTick event = Unit {0}

receipt-no_tick : (p : ℕ) (node : Node) (s : State) → AllByRecursion IsNoTick (receipt_of p node s)
receipt-no_tick p node Ready = tt
receipt-no_tick p node (Storing entry cause) = (tt, tt)
receipt-no_tick p node (Down doubtful) = tt

-- no node ticks while packets are carried
pub carries-no_tick : (packets : List Carried) (w : World)
    → AllByRecursion IsNoTick (each carries packets w)
carries-no_tick [] w = tt
carries-no_tick (packet ∷ packets) w =
    all_append IsNoTick (carries packet w) (each carries packets (after w (carries packet w)))
    (tt, receipt-no_tick packet.target (u.node packet.target) (u.node packet.target).state)
    (carries-no_tick packets (after w (carries packet w)))
  where
    u : World
    u = after w (Arrive packet.target (Ok packet) ∷ [])

readied-no_tick : (kept : Bool) (p : ℕ) (node : Node) (s : State)
    → AllByRecursion IsNoTick (readied kept p node s)
readied-no_tick kept p node Ready = tt
readied-no_tick kept p node (Storing entry cause) = (tt, tt)
readied-no_tick kept p node (Down doubtful) = (tt, tt)

-- no node ticks while nodes come back
pub back-no_tick : (kept : ℕ → Bool) (ps : List ℕ) (w : World)
    → AllByRecursion IsNoTick (each (comes_back kept) ps w)
back-no_tick kept [] w = tt
back-no_tick kept (p ∷ ps) w =
    all_append IsNoTick (comes_back kept p w)
    (each (comes_back kept) ps (after w (comes_back kept p w)))
    (readied-no_tick (kept p) p (w.node p) (w.node p).state)
    (back-no_tick kept ps (after w (comes_back kept p w)))

module _ (among : ℕ → Bool) (bs : List Act) where
  put-event : (event : Event) (reply : Reply) (ls : List Act) → IsNoTick event
      → TicksArrive among ls → TicksArrive among (act_of event reply ++ ls)
  put-event event reply ls n h =
      act-cases (λ acts. TicksArrive among (acts ++ ls)) event reply (λ _. h) (λ _. h)
      (λ _. h) (λ _ _ _ _. h) (λ packets e _. absurd (subst IsNoTick e n))

  -- events without ticks, in front of acts whose ticks arrive
  pub no_tick-then : (xs : List Event) (w : World) → AllByRecursion IsNoTick xs → TicksArrive among bs
      → TicksArrive among (acts_of w xs ++ bs)
  no_tick-then [] w n h =
      subst (λ (ls : List Act). TicksArrive among (ls ++ bs)) (sym (acts-none w)) h
  no_tick-then (event ∷ xs) w n h =
      subst (λ (ls : List Act). TicksArrive among (ls ++ bs)) (sym (acts-more w event xs))
      (subst (TicksArrive among) (sym
      (append_assoc (act_of event (step w event).0) (acts_of (step w event).1 xs) bs))
      (put-event event (step w event).0 (acts_of (step w event).1 xs ++ bs) n.0
      (no_tick-then xs (step w event).1 n.1 h)))
