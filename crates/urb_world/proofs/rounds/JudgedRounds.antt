-- What the worked examples judge to be a round is one.
use Rattle.urb_world.proofs.Common.{Act, Adds, AllByRecursion, AnswersArrive, Arrives, Bool, Breaks}
use Rattle.urb_world.proofs.Common.{Carried, Content, DoArrive, DoesArrive, Down, Event, Flags}
use Rattle.urb_world.proofs.Common.{IsBusyRound, IsRound, IsRoundAmong, IsUnbroken, IsUndisturbed}
use Rattle.urb_world.proofs.Common.{Label, List, NAMES_PER_TICK, None, Option, Ready, Some, State}
use Rattle.urb_world.proofs.Common.{Storing, TicksArrive, World, [], acts_of, after, and_parts, ap}
use Rattle.urb_world.proofs.Common.{arith, eqb-true, false, false≢true, held_by, inl, inr, is_node}
use Rattle.urb_world.proofs.Common.{length, list_all, ltb-true, nat_lt, nodes, or_cases, pend, refl}
use Rattle.urb_world.proofs.Common.{same_message, same_message-true, same_name, same_name-true, suc}
use Rattle.urb_world.proofs.Common.{true, ℕ, ⊎_elim, ◌&&◌, ◌*◌, ◌++◌, ◌==◌, ◌∙◌, ◌∷◌, ◌≡◌}
use Rattle.urb_world.proofs.recovery.PendingNames.{in-list_all}
use Rattle.urb_world.proofs.recovery.NodeLists.{in-nodes}
use Rattle.urb_world.specs.internal.RoundExamples.{BusyVerdict, Verdict, a_busy_round, a_round}
use Rattle.urb_world.specs.internal.RoundExamples.{answers_arrive, does_arrive, is_ready}
use Rattle.urb_world.specs.internal.RoundExamples.{is_unbroken, is_undisturbed, judged, judged_acts}
use Rattle.urb_world.specs.internal.RoundExamples.{judged_busy, same_bit, same_flags, same_packet}
use Rattle.urb_world.specs.internal.RoundExamples.{ticks_arrive}
use Rattle.urb_world.specs.Rounds.{Ticks, ticks_of}
use Rattle.urb_world.specs.World.{stored}

same_bit-true : (a b : Bool) → same_bit a b ≡ true → a ≡ b
same_bit-true true true h = refl
same_bit-true true false h = absurd (false≢true h)
same_bit-true false true h = absurd (false≢true h)
same_bit-true false false h = refl

same_flags-true : (f g : Option Flags) → same_flags f g ≡ true → f ≡ g
same_flags-true None None h = refl
same_flags-true None (Some g) h = absurd (false≢true h)
same_flags-true (Some f) None h = absurd (false≢true h)
same_flags-true (Some f) (Some g) h =
    let parts = and_parts (same_bit f.certified g.certified) (same_bit f.heard g.heard) h in
    ap (λ (b : Bool). Some (record { certified = b; heard = f.heard }))
    (same_bit-true f.certified g.certified parts.0)
    ∙ ap (λ (b : Bool). Some (record { certified = g.certified; heard = b }))
    (same_bit-true f.heard g.heard parts.1)

same_packet-true : (a b : Carried) → same_packet a b ≡ true → a ≡ b
same_packet-true a b h =
    let all = and_parts ((a.source == b.source) && (a.target == b.target)) _ h in
    let ends = and_parts (a.source == b.source) (a.target == b.target) all.0 in
    let content = and_parts (same_name a.name b.name) _ all.1 in
    let rest =
    and_parts (same_message a.message b.message) (same_flags a.flags b.flags) content.1 in
    ap (λ (i : ℕ). record a { source = i }) (eqb-true a.source b.source ends.0)
    ∙ (ap (λ (i : ℕ). record a { source = b.source; target = i })
    (eqb-true a.target b.target ends.1)
    ∙ (ap (λ (x : Label). record a { source = b.source; target = b.target; name = x })
    (same_name-true a.name b.name content.0)
    ∙ (ap (λ (m : Content). record a
    { source = b.source; target = b.target; name = b.name; message = m })
    (same_message-true a.message b.message rest.0)
    ∙ ap (λ (f : Option Flags). record b { flags = f }) (same_flags-true a.flags b.flags rest.1))))

undisturbed-true : (acts : List Act) → is_undisturbed acts ≡ true → IsUndisturbed acts
undisturbed-true [] h = tt
undisturbed-true (Ticks p packets ∷ acts) h = undisturbed-true acts h
undisturbed-true (Arrives packet answers ∷ acts) h = undisturbed-true acts h
undisturbed-true (Adds ∷ acts) h = absurd (false≢true h)
undisturbed-true (Breaks ∷ acts) h = absurd (false≢true h)

arrive-true : (packet : Carried) (acts : List Act) → does_arrive packet acts ≡ true
    → DoesArrive packet acts
arrive-true packet [] h = absurd (false≢true h)
arrive-true packet (Ticks p packets ∷ acts) h = arrive-true packet acts h
arrive-true packet (Arrives other answers ∷ acts) h =
    ⊎_elim (λ e. inl (same_packet-true other packet e)) (λ e. inr (arrive-true packet acts e))
    (or_cases (same_packet other packet) (does_arrive packet acts) h)
arrive-true packet (Adds ∷ acts) h = arrive-true packet acts h
arrive-true packet (Breaks ∷ acts) h = arrive-true packet acts h

all-true : (among : ℕ → Bool) (packets : List Carried) (acts : List Act)
    → list_all (λ packet. does_arrive packet acts) packets ≡ true → DoArrive among packets acts
all-true among [] acts h = tt
all-true among (packet ∷ packets) acts h =
    let parts =
    and_parts (does_arrive packet acts) (list_all (λ one. does_arrive one acts) packets) h in
    (λ _. arrive-true packet acts parts.0, all-true among packets acts parts.1)

ticks-true : (among : ℕ → Bool) (acts : List Act) → ticks_arrive acts ≡ true
    → TicksArrive among acts
ticks-true among [] h = tt
ticks-true among (Ticks p packets ∷ acts) h =
    let parts =
    and_parts (list_all (λ packet. does_arrive packet acts) packets) (ticks_arrive acts) h in
    (all-true among packets acts parts.0, ticks-true among acts parts.1)
ticks-true among (Arrives packet answers ∷ acts) h = ticks-true among acts h
ticks-true among (Adds ∷ acts) h = ticks-true among acts h
ticks-true among (Breaks ∷ acts) h = ticks-true among acts h

ready-true : (s : State) → is_ready s ≡ true → s ≡ Ready
ready-true Ready h = refl
ready-true (Storing entry cause) h = absurd (false≢true h)
ready-true (Down doubtful) h = absurd (false≢true h)

unbroken-true : (acts : List Act) → is_unbroken acts ≡ true → IsUnbroken acts
unbroken-true [] h = tt
unbroken-true (Ticks p packets ∷ acts) h = unbroken-true acts h
unbroken-true (Arrives packet answers ∷ acts) h = unbroken-true acts h
unbroken-true (Adds ∷ acts) h = unbroken-true acts h
unbroken-true (Breaks ∷ acts) h = absurd (false≢true h)

all-answers-true : (packets : List Carried) (acts : List Act)
    → list_all (λ packet. does_arrive packet acts) packets ≡ true
    → AllByRecursion (λ packet. DoesArrive packet acts) packets
all-answers-true [] acts h = tt
all-answers-true (packet ∷ packets) acts h =
    let parts =
    and_parts (does_arrive packet acts) (list_all (λ one. does_arrive one acts) packets) h in
    (arrive-true packet acts parts.0, all-answers-true packets acts parts.1)

-- if the test says that each answer arrives later, it does
pub answers-true : (acts : List Act) → answers_arrive acts ≡ true → AnswersArrive acts
answers-true [] h = tt
answers-true (Ticks p packets ∷ acts) h = answers-true acts h
answers-true (Arrives packet answers ∷ acts) h =
    let parts =
    and_parts (list_all (λ answer. does_arrive answer acts) answers) (answers_arrive acts) h in
    (all-answers-true answers acts parts.0, answers-true acts parts.1)
answers-true (Adds ∷ acts) h = answers-true acts h
answers-true (Breaks ∷ acts) h = answers-true acts h

-- what is found of each node of a list holds of each node
pub of-nodes : (n : ℕ) (test : ℕ → Bool) → list_all test (nodes n) ≡ true → (p : ℕ)
    → is_node n p ≡ true → test p ≡ true
of-nodes n test h p is = in-list_all test p (nodes n) h (in-nodes n p is)

-- acts that are judged to be a round of n nodes are one
pub judged-among : (n : ℕ) (acts : List Act) (end : World) → judged_acts n acts end ≡ a_round
    → IsRoundAmong (is_node n) acts end
judged-among n acts end h =
    record {
      undisturbed = undisturbed-true acts (ap (λ (v : Verdict). v.undisturbed) h);
      ticks = λ p is.
          let l =
          ltb-true (length (pend (stored end p))) (suc (NAMES_PER_TICK * ticks_of p acts))
          (of-nodes n (λ i. nat_lt (length (pend (stored end i)))
          (suc (NAMES_PER_TICK * ticks_of i acts))) (ap (λ (v : Verdict). v.ticks) h) p is) in
          omega (arith, l);
      arrive = ticks-true (is_node n) acts (ap (λ (v : Verdict). v.arrive) h);
      settled = λ p is.
          ready-true (end.node p).state
          (of-nodes n (λ i. is_ready (end.node i).state) (ap (λ (v : Verdict). v.settled) h) p is);
    }

-- events that are judged to be a round are one
pub judged-round : (w : World) (events : List Event) → judged w events ≡ a_round → IsRound w events
judged-round w events h = judged-among w.size.n (acts_of w events) (after w events) h

-- events that are judged to be a busy round are one
pub judged-busy : (w : World) (events : List Event) → judged_busy w events ≡ a_busy_round
    → IsBusyRound w events
judged-busy w events h =
    record {
      unbroken = unbroken-true (acts_of w events) (ap (λ (v : BusyVerdict). v.unbroken) h);
      ticks = λ p is.
          let l =
          ltb-true (length (pend (stored end p ++ held_by (end.node p).state)))
          (suc (NAMES_PER_TICK * ticks_of p (acts_of w events)))
          (of-nodes w.size.n (λ i. nat_lt (length (pend (stored end i ++ held_by
          (end.node i).state))) (suc (NAMES_PER_TICK * ticks_of i (acts_of w events))))
          (ap (λ (v : BusyVerdict). v.ticks) h) p is) in
          omega (arith, l);
      arrive =
          ticks-true (is_node w.size.n) (acts_of w events) (ap (λ (v : BusyVerdict). v.arrive) h);
    }
  where
    end : World
    end = after w events
