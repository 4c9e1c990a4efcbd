-- What follows once every name that a node knows is certified everywhere. Records stay as they are,
-- answers make certificates heard, and no name is due any more.
use Rattle.urb_world.proofs.Common.{Act, Adds, AllUp, Answered, AnswersArrive, Arrive, Arrives}
use Rattle.urb_world.proofs.Common.{Bool, Breaks, Carried, Commit, Content, Down, Entry, Err, Event}
use Rattle.urb_world.proofs.Common.{Flags, IsDone, IsNotStranded, IsReached, IsRound, IsRoundAmong}
use Rattle.urb_world.proofs.Common.{IsUndisturbed, Label, Limits, List, NAMES_PER_TICK, Node, None}
use Rattle.urb_world.proofs.Common.{Ok, Option, Ready, Reply, Restart, Same, Some, State, Storing}
use Rattle.urb_world.proofs.Common.{Tick, World, [], acked, act_of, acts_of, after, and_from}
use Rattle.urb_world.proofs.Common.{answers, ap, arrival_by, arrives, cases_Bool, cert, commits}
use Rattle.urb_world.proofs.Common.{cond-false, cond_both, false, false≢true, filter, flat_map}
use Rattle.urb_world.proofs.Common.{has_name, has_pair, hears, inl, inr, is_down, is_due, is_node}
use Rattle.urb_world.proofs.Common.{is_none, is_some, kept-held, length, list_any, message_of}
use Rattle.urb_world.proofs.Common.{nodes, not, others, pend, refl, reply_to, resent, restarts}
use Rattle.urb_world.proofs.Common.{rising, run, says_certified, step, subst, sym, to_unheard, true}
use Rattle.urb_world.proofs.Common.{ℕ, ⊎_elim, ◌&&◌, ◌*◌, ◌++◌, ◌==◌, ◌∙◌, ◌∷◌, ◌≡◌, ◌≤◌}
use Rattle.std.proofs.lemmas.Bool.{or_from}
use Rattle.urb_world.proofs.rounds.RoundActs.{AllArrive, all-arrive, does-arrive, ticks-counted}
use Rattle.urb_world.proofs.recovery.CertifiedNames.{AllCertified}
use Rattle.urb_world.proofs.rounds.FairRounds.{two-rounds-certify}
use Rattle.urb_world.proofs.steps.DraftsInSteps.{event_node, step-each, step-size}
use Rattle.urb_world.proofs.rounds.LastingCounts.{arrive-done, at-node-done, restart-not, run-size}
use Rattle.urb_world.proofs.recovery.NodeLists.{filtered-in, nodes-in, packet_to}
use Rattle.urb_world.proofs.rounds.SentPairs.{Comes, Sends, comes-about}
use Rattle.urb_world.proofs.rounds.EventTicks.{IsAmong, resent_by, resent_in, ticks_among}
use Rattle.urb_world.proofs.ticks.DueTurns.{in-has}
use Rattle.urb_world.proofs.ticks.DuePairs.{has_pair-rising}
use Rattle.urb_world.proofs.steps.OneNodeStep.{updated-at}
use Rattle.urb_world.proofs.recovery.ContinuedWorlds.{knows-pair, run-sound}
use Rattle.urb_world.proofs.rounds.ProceedingEvents.{IsQuiet, Proceeding, ProceedsQuietly}
use Rattle.urb_world.proofs.rounds.ProceedingEvents.{acts-more, acts-none, proceeding}
use Rattle.urb_world.proofs.rounds.ProceedingEvents.{quiet-no_failure, quietly-proceeds}
use Rattle.urb_world.proofs.rounds.ProceedingEvents.{undisturbed-unbroken}
use Rattle.urb_world.proofs.rounds.WholeNodes.{whole, whole-ready}
use Rattle.urb_world.proofs.recovery.CountedArrivals.{knows, settled}
use Rattle.urb_world.proofs.ticks.Membership.{IsIn, in-all}
use Rattle.urb_world.proofs.rounds.UpNodes.{run-hears, step-hears, tick-done, tick-node}
use Rattle.urb_world.proofs.steps.ConfirmedPackets.{borne-pair}
use Rattle.urb_world.specs.Rounds.{NoneDue, Ticks, TicksAreSilent}
use Rattle.urb_world.specs.World.{stored}
use Rattle.urb_world.proofs.steps.StepCases.{step-cases}
use Rattle.urb_node.proofs.FinalAnswers.{heard-then}
use Rattle.urb_world.proofs.rounds.ActCases.{act-cases}

-- ---- one event

-- a node's records and state stay
pub record Rests (old new : Node) : Type 0 where
  -- the records stay
  pub records : new.records ≡ old.records
  -- the state stays
  pub state : new.state ≡ old.state

rests-itself : (node : Node) → Rests node node
rests-itself node = record { records = refl; state = refl }

-- A packet of a name that its target has certified. It is answered, unless it says that the
-- certificate was heard, or is of version one. A certificate that it reports is heard.
pub record Answers (p : ℕ) (packet : Carried) (old : Node) (o : Reply × Node) : Type 0 where
  -- the node's records and state stay
  pub rests : Rests old o.1
  -- the node has then heard the certificate that the packet reports
  pub heard : says_certified packet.flags ≡ true → acked o.1.heard packet.name packet.source ≡ true
  -- the answer reports the node's certificate, if the packet doesn't say that the certificate was
  -- heard
  pub answer : (certified : Bool)
      → packet.flags ≡ Some (record { certified = certified; heard = false })
      → (flags : Flags) × (flags.certified ≡ true)
      × (o.0 ≡ Same (Answered packet.name
      (record {
        source = p;
        target = packet.source;
        name = packet.name;
        message =
            packet.message;
        flags = Some flags;
      } ∷ [])))

hears-rests : (q : ℕ) (x : Label) (flags : Option Flags) (node : Node)
    → Rests node (hears q x flags node)
hears-rests q x flags node =
    cond_both (says_certified flags) _ _ (Rests node) (λ _. record { records = refl; state = refl })
    (λ _. rests-itself node)

answers-rests : (p q : ℕ) (x : Label) (m : Content) (flags : Option Flags) (node : Node)
    → (answers p q x m flags node).1 ≡ node
answers-rests p q x m None node = refl
answers-rests p q x m (Some flags) node =
    cond_both flags.heard _ _ (λ (o : Reply × Node). o.1 ≡ node) (λ _. refl) (λ _. refl)

-- a node that knows the name and has certified it
arrives-answers : (size : Limits) (p : ℕ) (packet : Carried) (node : Node)
    → knows node.records packet.name ≡ true → has_name (cert node.records) packet.name ≡ true
    → Answers p packet node (arrives size p packet.source packet.name packet.message packet.flags
    node)
arrives-answers size p packet node known certified =
    cond_both (is_none (message_of (pend node.records) packet.name)) _ _ (Answers p packet node)
    (λ e. absurd (false≢true (sym (there (message_of (pend node.records) packet.name) known)
    ∙ e)))
    (λ _. cond_both (not (has_name (cert node.records) packet.name)) _ _ (Answers p packet node)
    (λ e. absurd (false≢true (sym (ap not certified) ∙ e)))
    (λ _. record {
      rests =
          subst (Rests node) (sym (answers-rests p packet.source packet.name packet.message
          packet.flags told)) rests;
      heard =
          λ e. subst (λ (n : Node). acked n.heard packet.name packet.source ≡ true)
          (sym (answers-rests p packet.source packet.name packet.message packet.flags told))
          (heard-then packet.source packet.name packet.flags node e);
      answer = λ c e. (
        record { certified = true; heard = acked told.heard packet.name packet.source },
        refl,
        subst (λ (flags : Option Flags).
            (answers p packet.source packet.name packet.message flags told).0 ≡ Same
            (Answered packet.name (reply_to p packet.source packet.name packet.message told ∷ [])))
            (sym e) refl,
      );
    }))
  where
    told : Node
    told = hears packet.source packet.name packet.flags node

    rests : Rests node told
    rests = hears-rests packet.source packet.name packet.flags node

    there : (o : Option Content) → is_some o ≡ true → is_none o ≡ false
    there (Some m) e = refl
    there None e = absurd (false≢true e)

module _ (w : World) (c : AllCertified w) where
  -- a packet that comes to a node is of a name that the node knows and has certified
  module _ (p : ℕ) (packet : Carried) (is : is_node w.size.n p ≡ true)
      (done : IsDone (step w (Arrive p (Ok packet))).0) where
    source-knows : knows (stored w packet.source) packet.name ≡ true
    source-knows =
        knows-pair (stored w packet.source) packet.name packet.message
        (borne-pair (stored w packet.source) packet (arrive-done w p packet done).truth)

    here-certified : has_name (cert (stored w p)) packet.name ≡ true
    here-certified =
        c.certified packet.source p (arrive-done w p packet done).source is packet.name source-knows

    arrive-answers : Answers p packet (w.node p)
        ((step w (Arrive p (Ok packet))).0, (step w (Arrive p (Ok packet))).1.node p)
    arrive-answers =
        subst (λ (o : Reply × World). Answers p packet (w.node p) (o.0, o.1.node p))
        (sym (arrive-done w p packet done).is)
        (subst (λ (node : Node). Answers p packet (w.node p) (outcome.0, node))
        (sym (updated-at w.node p outcome.1))
        (arrives-answers w.size p packet (w.node p)
        (ap is_some (kept-held w.size (stored w) p (stored w p)
        (c.sound.kept.nodes p).kept packet.name here-certified).1) here-certified))
      where
        outcome : Reply × Node
        outcome = arrives w.size p packet.source packet.name packet.message packet.flags (w.node p)

  -- a receipt is refused
  commit-not : (p position : ℕ) (entry : Entry) (s : State) → s ≡ Ready
      → IsDone (commits w.size.n p position entry (w.node p) s).0 → ⊥
  commit-not p position entry Ready e d = d
  commit-not p position entry (Storing held cause) e d = absurd cc
  commit-not p position entry (Down doubtful) e d = absurd cc

  here-rests : (event : Event) → IsQuiet event → IsDone (step w event).0
      → is_node w.size.n (event_node event) ≡ true
      → Rests (w.node (event_node event)) ((step w event).1.node (event_node event))
  unfolding step
  here-rests (Arrive p (Err fault)) q d is = absurd d
  here-rests (Arrive p (Ok packet)) q d is = (arrive-answers p packet is d).rests
  here-rests (Tick p) q d is =
      subst (Rests (w.node p)) (sym (tick-node w p d)) (record { records = refl; state = refl })
  here-rests (Commit p position entry) q d is =
      at-node-done w p (commits w.size.n p position entry (w.node p) (w.node p).state)
      (Rests (w.node p)) (λ k. absurd
      (commit-not p position entry (w.node p).state (c.ready p is) k)) d
  here-rests (Restart p image) q d is =
      at-node-done w p (restarts p image (w.node p) (w.node p).state) (Rests (w.node p))
      (λ k. absurd (restart-not p image (w.node p) (w.node p).state (ap is_down (c.ready p is)) k))
      d
  here-rests event q d is = absurd q

  -- each node's records and state stay
  step-rests : (event : Event) → IsQuiet event → IsDone (step w event).0 → (p : ℕ)
      → is_node w.size.n p ≡ true → Rests (w.node p) ((step w event).1.node p)
  step-rests event q d p is =
      step-each (λ i n. Rests (w.node i) n) w event p
      (λ same. here-rests event q d (subst (λ (i : ℕ). is_node w.size.n i ≡ true) same is))
      (rests-itself (w.node p))

  step-certified : (event : Event) → IsQuiet event → IsDone (step w event).0
      → AllCertified (step w event).1
  unfolding run
  step-certified event q d =
      record {
        sound = run-sound w (event ∷ []) c.sound;
        ready = λ p is. (step-rests event q d p (back p is)).state ∙ c.ready p (back p is);
        certified = λ p r is at x k.
            subst (λ (rs : List Entry). has_name (cert rs) x ≡ true)
            (sym (step-rests event q d r (back r at)).records)
            (c.certified p r (back p is) (back r at) x
            (subst (λ (rs : List Entry). knows rs x ≡ true)
            (step-rests event q d p (back p is)).records k));
      }
    where
      back : (p : ℕ) → is_node (step w event).1.size.n p ≡ true → is_node w.size.n p ≡ true
      back p is = subst (λ (size : Limits). is_node size.n p ≡ true) (step-size w event) is

run-certified : (events : List Event) (w : World) → AllCertified w → ProceedsQuietly w events
    → AllCertified (after w events)
unfolding run
run-certified [] w c goes = c
run-certified (event ∷ events) w c goes =
    run-certified events (step w event).1 (step-certified w c event goes.0 goes.1) goes.2

run-rests : (events : List Event) (w : World) → AllCertified w → ProceedsQuietly w events → (p : ℕ)
    → is_node w.size.n p ≡ true → stored (after w events) p ≡ stored w p
unfolding run
run-rests [] w c goes p is = refl
run-rests (event ∷ events) w c goes p is =
    run-rests events (step w event).1 (step-certified w c event goes.0 goes.1) goes.2 p
    (subst (λ (size : Limits). is_node size.n p ≡ true) (sym (step-size w event)) is)
    ∙ (step-rests w c event goes.0 goes.1 p is).records

-- ---- answers

-- a packet that arrives among these events, and reports a certificate: it is heard in the end
hear-among : (events : List Event) (u : World) (packet : Carried) → AllCertified u
    → ProceedsQuietly u events → is_node u.size.n packet.target ≡ true
    → IsAmong (Arrive packet.target (Ok packet)) events
    → says_certified packet.flags ≡ true
    → acked ((after u events).node packet.target).heard packet.name packet.source ≡ true
unfolding run
hear-among [] u packet c goes is h e = absurd h
hear-among (event ∷ events) u packet c goes is h e =
    ⊎_elim
    (λ same. subst (λ (v : Event). ProceedsQuietly u (v ∷ events)
    → acked ((after u (v ∷ events)).node packet.target).heard packet.name packet.source ≡ true)
    (sym same)
    (λ g. (run-hears (step u (Arrive packet.target (Ok packet))).1 events packet.target
    (quietly-proceeds events (step u (Arrive packet.target (Ok packet))).1 g.2)
    (up g)).heard packet.name packet.source
    ((arrive-answers u c packet.target packet is g.1).heard e)) goes)
    (λ later. hear-among events (step u event).1 packet
    (step-certified u c event goes.0 goes.1) goes.2
    (subst (λ (size : Limits). is_node size.n packet.target ≡ true) (sym (step-size u event)) is)
    later e) h
  where
    up : ProceedsQuietly u (Arrive packet.target (Ok packet) ∷ events)
        → is_down ((step u (Arrive packet.target (Ok packet))).1.node packet.target).state ≡ false
    up g =
        (step-hears u (Arrive packet.target (Ok packet)) packet.target tt g.1
        (ap is_down (c.ready packet.target is))).up

later-answers : (event : Event) (reply : Reply) (rest : List Act)
    → AnswersArrive (act_of event reply ++ rest) → AnswersArrive rest
later-answers event reply rest h = skip (act_of event reply) rest h
  where
    skip : (ls rest : List Act) → AnswersArrive (ls ++ rest) → AnswersArrive rest
    skip [] rest h = h
    skip (Ticks p packets ∷ ls) rest h = skip ls rest h
    skip (Arrives packet answers ∷ ls) rest h = skip ls rest h.1
    skip (Adds ∷ ls) rest h = skip ls rest h
    skip (Breaks ∷ ls) rest h = skip ls rest h

-- A packet arrives that doesn't say that a certificate was heard. Its answer arrives too, and so
-- its source hears the certificate.
answer-among : (events : List Event) (u : World) (packet : Carried) (certified : Bool)
    → AllCertified u → ProceedsQuietly u events → is_node u.size.n packet.target ≡ true
    → is_node u.size.n packet.source ≡ true
    → packet.flags ≡ Some (record { certified = certified; heard = false })
    → IsAmong (Arrive packet.target (Ok packet)) events → AnswersArrive (acts_of u events)
    → acked ((after u events).node packet.source).heard packet.name packet.target ≡ true
unfolding run
answer-among [] u packet certified c goes is from e h a = absurd h
answer-among (event ∷ events) u packet certified c goes is from e h a =
    ⊎_elim
    (λ same. subst (λ (v : Event). ProceedsQuietly u (v ∷ events)
    → AnswersArrive (act_of v (step u v).0 ++ acts_of (step u v).1 events)
    → acked ((after u (v ∷ events)).node packet.source).heard packet.name packet.target
    ≡ true) (sym same)
    arrives_here goes (subst AnswersArrive (acts-more u event events) a))
    (λ later. answer-among events (step u event).1 packet certified
    (step-certified u c event goes.0 goes.1) goes.2
    (subst (λ (size : Limits). is_node size.n packet.target ≡ true) (sym (step-size u event)) is)
    (subst (λ (size : Limits). is_node size.n packet.source ≡ true)
    (sym (step-size u event)) from) e later
    (later-answers event (step u event).0 (acts_of (step u event).1 events)
    (subst AnswersArrive (acts-more u event events) a))) h
  where
    arrives_here : ProceedsQuietly u (Arrive packet.target (Ok packet) ∷ events)
        → AnswersArrive (act_of (Arrive packet.target (Ok packet))
        (step u (Arrive packet.target (Ok packet))).0 ++ acts_of
        (step u (Arrive packet.target (Ok packet))).1 events)
        → acked ((after u (Arrive packet.target (Ok packet) ∷ events)).node packet.source).heard
        packet.name packet.target ≡ true
    arrives_here g arrive =
        let v = (step u (Arrive packet.target (Ok packet))).1 in
        let found = (arrive-answers u c packet.target packet is g.1).answer certified e in
        let answer : Carried = record {
          source = packet.target;
          target = packet.source;
          name = packet.name;
          message =
              packet.message;
          flags = Some found.0;
        } in
        let all : AnswersArrive (arrival_by (Ok packet) (Same (Answered packet.name (answer ∷ [])))
        ++ acts_of v events)
        =
        subst (λ (reply : Reply). AnswersArrive
        (arrival_by (Ok packet) reply ++ acts_of v events)) found.2 arrive in
        hear-among events v answer (step-certified u c (Arrive packet.target (Ok packet)) g.0 g.1)
        g.2 (subst (λ (size : Limits). is_node size.n packet.source ≡ true)
        (sym (step-size u (Arrive packet.target (Ok packet)))) from)
        (does-arrive answer events v (quietly-proceeds events v g.2) all.0.0) found.1

-- ---- the round

module _ (among : ℕ → Bool) (p q : ℕ) (x : Label) (m : Content) (from : among p ≡ true)
    (to : among q ≡ true) where
  -- if everything is certified, and what ticks send and the answers arrive, p has heard q's
  -- certificate in the end
  abbrev Claim : World → List Event → Type 0
  Claim w events =
      AllCertified w → is_node w.size.n p ≡ true → ProceedsQuietly w events → AllArrive among w events
      → AnswersArrive (acts_of w events) → acked ((after w events).node p).heard x q ≡ true

  sends : (w : World) (events : List Event) → Sends p q x m w events → Claim w (Tick p ∷ events)
  unfolding run
  sends w events s c is goes arrive answers =
      let v = (step w (Tick p)).1 in
      let certified = step-certified w c (Tick p) goes.0 goes.1 in
      answer-among events v (packet_to w p q x m) (has_name (cert (stored w p)) x) certified goes.2
      (subst (λ (size : Limits). is_node size.n q ≡ true) (sym (step-size w (Tick p))) s.there)
      (subst (λ (size : Limits). is_node size.n p ≡ true) (sym (step-size w (Tick p))) is) refl
      (in-all (λ (one : Carried). (among one.source && among one.target) ≡ true
      → IsAmong (Arrive one.target (Ok one)) events) (packet_to w p q x m)
      (resent_in (step w (Tick p)).0) arrive.0 s.sent
      (and_from (among p) (among q) from to))
      (later-answers (Tick p) (step w (Tick p)).0 (acts_of v events)
      (subst AnswersArrive (acts-more w (Tick p) events) answers))

  later : (w : World) (event : Event) (events : List Event) → Claim (step w event).1 events
      → Claim w (event ∷ events)
  unfolding run
  later w event events claim c is goes arrive answers =
      claim (step-certified w c event goes.0 goes.1)
      (subst (λ (size : Limits). is_node size.n p ≡ true) (sym (step-size w event)) is)
      goes.2 arrive.1
      (later-answers event (step w event).0 (acts_of (step w event).1 events)
      (subst AnswersArrive (acts-more w event events) answers))

  comes : Comes p q x m Claim
  comes = record { sends = sends; later = later }

-- each node has heard every other node's certificate of each name that it has pending
abbrev pub AllHeard : World → Type 0
AllHeard w =
    (p q : ℕ) → is_node w.size.n p ≡ true → is_node w.size.n q ≡ true → (q == p) ≡ false
    → (x : Label) (m : Content) → has_pair (pend (stored w p)) x m ≡ true
    → acked (w.node p).heard x q ≡ true

round-heard : (w : World) (events : List Event) → AllCertified w → ProceedsQuietly w events
    → IsRoundAmong (is_node w.size.n) (acts_of w events) (after w events)
    → AnswersArrive (acts_of w events) → AllHeard (after w events)
round-heard w events c goes round answers p q at to other x m held =
    ⊎_elim (λ e. e) (λ claim. claim c is goes
    (all-arrive (is_node w.size.n) events w (quietly-proceeds events w goes) round.arrive) answers)
    (comes-about p q x m (Claim (is_node w.size.n) p q x m is there)
    (comes (is_node w.size.n) p q x m is there) w events c.sound there other
    (ap is_down (c.ready p is))
    (subst (λ (node : Node). has_pair (pend node.records) x m ≡ true)
    (sym (whole-ready p (w.node p) (c.ready p is)))
    (subst (λ (rs : List Entry). has_pair (pend rs) x m ≡ true)
    (run-rests events w c goes p is) held))
    (quietly-proceeds events w goes)
    (subst (λ (node : Node). length (pend node.records) ≤ NAMES_PER_TICK * ticks_among p events)
    (sym (whole-ready p ((after w events).node p) (round.settled p is)))
    (subst (λ (count : ℕ). length (pend (stored (after w events) p)) ≤ NAMES_PER_TICK * count)
    (ticks-counted p events w (quietly-proceeds events w goes)) (round.ticks p is))))
  where
    is : is_node w.size.n p ≡ true
    is = subst (λ (size : Limits). is_node size.n p ≡ true) (run-size events w) at

    there : is_node w.size.n q ≡ true
    there = subst (λ (size : Limits). is_node size.n q ≡ true) (run-size events w) to

-- ---- nothing is due

none-any : {A : Type 0} (test : A → Bool) (xs : List A) → ((x : A) → IsIn x xs → test x ≡ false)
    → list_any test xs ≡ false
none-any test [] h = refl
none-any test (x ∷ xs) h =
    or_from (test x) (list_any test xs) (h x (inl refl)) (none-any test xs (λ y i. h y (inr i)))

none-filter : {A : Type 0} (test : A → Bool) (xs : List A) → ((x : A) → IsIn x xs → test x ≡ false)
    → filter test xs ≡ []
none-filter test [] h = refl
none-filter test (x ∷ xs) h =
    cond-false (test x) (x ∷ filter test xs) (filter test xs) (h x (inl refl))
    ∙ none-filter test xs (λ y i. h y (inr i))

filter-passes : {A : Type 0} (test : A → Bool) (x : A) (xs : List A) → IsIn x (filter test xs)
    → test x ≡ true
filter-passes test x [] h = absurd h
filter-passes test x (y ∷ xs) h =
    cond_both (test y) (y ∷ filter test xs) (filter test xs) (λ ys. IsIn x ys → test x ≡ true)
    (λ e i. ⊎_elim (λ same. subst (λ z. test z ≡ true) same e) (λ k. filter-passes test x xs k) i)
    (λ _ i. filter-passes test x xs i) h

none-due : (w : World) → AllHeard w → NoneDue w
none-due w heard p is =
    none-filter (λ pair. is_due w.size.n p (w.node p).heard pair.0)
    (rising (pend (stored w p))) none
  where
    apart : (q : ℕ) → IsIn q (others w.size.n p) → (q == p) ≡ false
    apart q j =
        ⊎_elim (λ e. absurd (false≢true
        (sym (ap not e) ∙ filter-passes (λ i. not (i == p)) q (nodes w.size.n) j))) (λ e. e)
        (cases_Bool (q == p))

    stands : (d : Label × Content) → IsIn d (rising (pend (stored w p)))
        → has_pair (pend (stored w p)) d.0 d.1 ≡ true
    stands d i =
        sym (has_pair-rising (pend (stored w p)) d.0 d.1) ∙ in-has d (rising (pend (stored w p))) i

    none : (d : Label × Content) → IsIn d (rising (pend (stored w p)))
        → is_due w.size.n p (w.node p).heard d.0 ≡ false
    none d i =
        none-any (λ q. not (acked (w.node p).heard d.0 q)) (others w.size.n p)
        (λ q j. ap not (heard p q is (nodes-in w.size.n q
        (filtered-in (λ i. not (i == p)) q (nodes w.size.n) j)) (apart q j) d.0 d.1 (stands d i)))

-- ---- and it stays so

step-heard : (w : World) (event : Event) → AllCertified w → IsQuiet event → IsDone (step w event).0
    → AllHeard w → AllHeard (step w event).1
step-heard w event c q d heard p r at to other x m held =
    (step-hears w event p (quiet-no_failure event q) d (ap is_down (c.ready p is))).heard x r
    (heard p r is (subst (λ (size : Limits). is_node size.n r ≡ true) (step-size w event) to)
    other x m (subst (λ (rs : List Entry). has_pair (pend rs) x m ≡ true)
    (step-rests w c event q d p is).records held))
  where
    is : is_node w.size.n p ≡ true
    is = subst (λ (size : Limits). is_node size.n p ≡ true) (step-size w event) at

run-heard : (events : List Event) (w : World) → AllCertified w → ProceedsQuietly w events → AllHeard w
    → AllHeard (after w events)
unfolding run
run-heard [] w c goes heard = heard
run-heard (event ∷ events) w c goes heard =
    run-heard events (step w event).1 (step-certified w c event goes.0 goes.1) goes.2
    (step-heard w event c goes.0 goes.1 heard)

-- a tick that isn't refused is at a node
tick-at : (w : World) (p : ℕ) → IsDone (step w (Tick p)).0 → is_node w.size.n p ≡ true
tick-at w p =
    step-cases (λ (o : Reply × World). IsDone o.0 → is_node w.size.n p ≡ true) w (Tick p)
    (λ r d. absurd d) (λ is _. is)

-- a tick that isn't refused resends nothing
silent-tick : (w : World) (event : Event) → AllHeard w → IsDone (step w event).0
    → event ≡ Tick (event_node event) → resent_by event (step w event).0 ≡ []
silent-tick w event heard d e =
    subst (λ (v : Event). IsDone (step w v).0 → resent_by v (step w v).0 ≡ []) (sym e)
    (ticked (event_node event)) d
  where
    ticked : (p : ℕ) → IsDone (step w (Tick p)).0 → resent_by (Tick p) (step w (Tick p)).0 ≡ []
    ticked p done =
        ap (λ (o : Reply × World). resent_in o.0) (tick-done w p done)
        ∙ ap (λ (pairs : List (Label × Content)).
        flat_map (to_unheard w.size.n p (cert (stored w p)) (w.node p).heard)
        (resent (w.node p).cursor pairs)) (none-due w heard p (tick-at w p done))

silent-more : (w : World) (event : Event) (rest : List Act) → AllHeard w → IsDone (step w event).0
    → TicksAreSilent rest → TicksAreSilent (act_of event (step w event).0 ++ rest)
silent-more w event rest heard d h =
    act-cases (λ acts. TicksAreSilent (acts ++ rest)) event (step w event).0 (λ _. h) (λ _. h)
    (λ _. h) (λ _ _ _ _. h) (λ packets e s. (sym s ∙ silent-tick w event heard d e, h))

run-silent : (events : List Event) (w : World) → AllCertified w → ProceedsQuietly w events → AllHeard w
    → TicksAreSilent (acts_of w events)
run-silent [] w c goes heard = subst TicksAreSilent (sym (acts-none w)) tt
run-silent (event ∷ events) w c goes heard =
    subst TicksAreSilent (sym (acts-more w event events))
    (silent-more w event (acts_of (step w event).1 events) heard goes.1
    (run-silent events (step w event).1 (step-certified w c event goes.0 goes.1) goes.2
    (step-heard w event c goes.0 goes.1 heard)))

-- ---- three rounds, and what comes behind them

-- after two rounds, and a third whose answers arrive, no name is due, and ticks are silent until
-- something disturbs
pub three-rounds : (w : World) (first second third later : List Event) → IsReached w
    → IsNotStranded w → AllUp w → IsRound w first → IsRound (after w first) second
    → IsRound (after (after w first) second) third
    → AnswersArrive (acts_of (after (after w first) second) third)
    → IsUndisturbed (acts_of (after (after (after w first) second) third) later)
    → NoneDue (after (after (after (after w first) second) third) later)
    × TicksAreSilent (acts_of (after (after (after w first) second) third) later)
three-rounds w first second third later reached free up one two three answers calm = (
  none-due (after z later) (subst AllHeard l.leads (run-heard l.list z ends (l.quietly calm) heard)),
  subst TicksAreSilent l.acts (run-silent l.list z ends (l.quietly calm) heard),
)
  where
    v : World
    v = after (after w first) second

    c : AllCertified v
    c = two-rounds-certify w first second reached free up one two

    z : World
    z = after v third

    t : Proceeding v third
    t = proceeding third v (undisturbed-unbroken (acts_of v third) three.undisturbed)

    goes : ProceedsQuietly v t.list
    goes = t.quietly three.undisturbed

    round : IsRoundAmong (is_node v.size.n) (acts_of v t.list) (after v t.list)
    round =
        subst (λ (end : World). IsRoundAmong (is_node v.size.n) (acts_of v t.list) end)
        (sym t.leads)
        (subst (λ (list : List Act). IsRoundAmong (is_node v.size.n) list z) (sym t.acts) three)

    ends : AllCertified z
    ends = subst AllCertified t.leads (run-certified t.list v c goes)

    heard : AllHeard z
    heard =
        subst AllHeard t.leads (round-heard v t.list c goes round
        (subst AnswersArrive (sym t.acts) answers))

    l : Proceeding z later
    l = proceeding later z (undisturbed-unbroken (acts_of z later) calm)
