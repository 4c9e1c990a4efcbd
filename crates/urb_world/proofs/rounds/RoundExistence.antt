-- There is a round from every world of a run, also one whose answers arrive. All nodes come back.
-- They tick, one after the other, as often as there are messages. Then each packet arrives, and the
-- record that it may draft is stored. Then the answers arrive, and then the answers to these.
use Rattle.urb_world.proofs.Common.{Act, Adds, AllByRecursion, AnswersArrive, Arrives, Bool, Breaks}
use Rattle.urb_world.proofs.Common.{Carried, DoesArrive, Event, IsNotStranded, IsReached, IsRound}
use Rattle.urb_world.proofs.Common.{IsRoundAmong, Limits, List, Node, TicksArrive, World, []}
use Rattle.urb_world.proofs.Common.{acts_of, after, all_back, all_weaker, answers-certify}
use Rattle.urb_world.proofs.Common.{answers-hear, answers_of, ap, append-nil, arith, carries, each}
use Rattle.urb_world.proofs.Common.{false, heard-silent, is_node, length, nodes, pend}
use Rattle.urb_world.proofs.Common.{says_certified, says_heard, subst, sym, taken, true, ℕ, ◌++◌}
use Rattle.urb_world.proofs.Common.{◌∙◌, ◌∷◌, ◌≡◌, ◌≤◌}
use Rattle.urb_world.proofs.recovery.FullDelivery.{reached-sound}
use Rattle.urb_world.proofs.recovery.CarriedPackets.{Carriable, IsToldBy, all-carried}
use Rattle.urb_world.proofs.recovery.EventPlans.{Reaches, after-append, goes-append}
use Rattle.urb_world.proofs.recovery.NodeLists.{in-nodes, nodes-in}
use Rattle.urb_world.proofs.recovery.ReturningNodes.{all-back}
use Rattle.urb_world.proofs.recovery.PendingNames.{names-taken}
use Rattle.urb_world.proofs.recovery.ContinuedWorlds.{Calm, Onward, Sound, onward-further}
use Rattle.urb_world.proofs.rounds.ActLists.{acts-append, goes-quietly, proceeds-calm}
use Rattle.urb_world.proofs.rounds.AnsweredPackets.{Answer, all-answered, answers_in, back-silent}
use Rattle.urb_world.proofs.rounds.AnsweredPackets.{ticks-silent}
use Rattle.urb_world.proofs.rounds.ProceedingEvents.{Proceeds}
use Rattle.urb_world.proofs.rounds.RoundActs.{ticks-counted}
use Rattle.urb_world.proofs.rounds.RoundParts.{all-are, all-do, all-tick, among-append}
use Rattle.urb_world.proofs.rounds.RoundParts.{arrive-before, arrive-behind, back-no_tick}
use Rattle.urb_world.proofs.rounds.RoundParts.{carries-no_tick, goes-proceeds, no_tick-then}
use Rattle.urb_world.proofs.rounds.RoundParts.{often-enough, ticking, ticks-then}
use Rattle.urb_world.proofs.ticks.Membership.{IsIn, all-in, in-all, in-left, in-right}
use Rattle.urb_world.specs.RecoveredWorlds.{Goes}
use Rattle.urb_world.specs.RecoveryPlans.{packets_of}
use Rattle.urb_world.specs.Rounds.{Ticks, ticks_of}
use Rattle.urb_world.specs.World.{stored}

-- ---- answers that arrive

-- acts whose answers arrive later, in front of acts whose answers arrive
answers-then : (acts later : List Act)
    → ((answer : Carried) → IsIn answer (answers_in acts) → DoesArrive answer later)
    → AnswersArrive later → AnswersArrive (acts ++ later)
answers-then [] later h rest = rest
answers-then (Ticks p packets ∷ acts) later h rest = answers-then acts later h rest
answers-then (Arrives packet answers ∷ acts) later h rest = (
  all-in (λ answer. DoesArrive answer (acts ++ later)) answers
      (λ answer i. arrive-behind answer acts later
      (h answer (in-left answer answers (answers_in acts) i))),
  answers-then acts later (λ answer i. h answer (in-right answer answers (answers_in acts) i)) rest,
)
answers-then (Adds ∷ acts) later h rest = answers-then acts later h rest
answers-then (Breaks ∷ acts) later h rest = answers-then acts later h rest

-- acts without answers
none-then : (acts later : List Act) → answers_in acts ≡ [] → AnswersArrive later
    → AnswersArrive (acts ++ later)
none-then acts later none rest =
    answers-then acts later (λ answer i. absurd (subst (IsIn answer) none i)) rest

-- a packet that says that the certificate was heard is not answered
heard-ends : (size : Limits) (packet : Carried) (node : Node) → says_heard packet.flags ≡ true
    → AllByRecursion (λ answer. ⊥) (answers_of size packet node)
heard-ends size packet node e =
    subst (AllByRecursion (λ (answer : Carried). ⊥)) (sym (heard-silent size packet node e)) tt

-- an answer to any packet says that its source has certified the name
abbrev First : World → Carried → Type 0
First =
    Answer (λ packet. Unit {0}) (λ answer. says_certified answer.flags ≡ true)
    (λ size packet node _. answers-certify size packet node)

-- an answer to such an answer says that the certificate was heard
abbrev Second : World → Carried → Type 0
Second =
    Answer (λ packet. says_certified packet.flags ≡ true)
    (λ answer. says_heard answer.flags ≡ true) answers-hear

-- and there is none to that
abbrev Third : World → Carried → Type 0
Third = Answer (λ packet. says_heard packet.flags ≡ true) (λ answer. ⊥) heard-ends

-- ---- the round

module _ (w : World) (sound : Sound w) where
  abbrev kept : ℕ → Bool
  kept p = false

  -- all nodes come back
  abbrev start : List Event
  start = all_back kept w

  abbrev v : World
  v = after w start

  back : Reaches (λ z. Calm z × (z.size ≡ w.size) × (IsNotStranded w → IsNotStranded z)) w start
  back = all-back kept w sound

  -- the nodes tick
  abbrev count : ℕ
  count = taken v

  abbrev firsts : List Event
  firsts = each (ticking count) (nodes v.size.n) v

  abbrev u : World
  u = after v firsts

  abbrev packets : List Carried
  packets = packets_of v firsts

  ticked : Reaches (λ z. Calm z × Onward v z × AllByRecursion (Carriable z) packets) v firsts
  ticked =
      all-tick count (nodes v.size.n) v back.leads.0
      (all-in (λ p. is_node v.size.n p ≡ true) (nodes v.size.n) (λ p i. nodes-in v.size.n p i))

  -- the packets of the ticks arrive
  abbrev arrivals : List Event
  arrivals = each carries packets u

  abbrev a : World
  a = after u arrivals

  carried : Reaches (λ z. Calm z × Onward u z
      × AllByRecursion (λ packet. IsToldBy packet z) packets) u arrivals
  carried = all-carried packets u ticked.leads.0 ticked.leads.2

  -- their answers arrive
  abbrev first_answers : List Carried
  first_answers = answers_in (acts_of u arrivals)

  answered : AllByRecursion (First a) first_answers
  answered =
      all-answered (λ packet. Unit {0}) (λ answer. says_certified answer.flags ≡ true)
      (λ size packet node _. answers-certify size packet node) packets u ticked.leads.0
      ticked.leads.2 (all-in (λ packet. Unit {0}) packets (λ packet i. tt))

  may-answer : AllByRecursion (Carriable a) first_answers
  may-answer = all_weaker (First a) (Carriable a) first_answers (λ one h. h.0) answered

  abbrev replies : List Event
  replies = each carries first_answers a

  abbrev b : World
  b = after a replies

  replied : Reaches (λ z. Calm z × Onward a z
      × AllByRecursion (λ packet. IsToldBy packet z) first_answers) a replies
  replied = all-carried first_answers a carried.leads.0 may-answer

  -- the answers to these arrive, and nothing answers them
  abbrev last_answers : List Carried
  last_answers = answers_in (acts_of a replies)

  heard : AllByRecursion (Second b) last_answers
  heard =
      all-answered (λ packet. says_certified packet.flags ≡ true)
      (λ answer. says_heard answer.flags ≡ true) answers-hear first_answers a carried.leads.0
      may-answer (all_weaker (First a) (λ packet. says_certified packet.flags ≡ true) first_answers
      (λ one h. h.1) answered)

  may-end : AllByRecursion (Carriable b) last_answers
  may-end = all_weaker (Second b) (Carriable b) last_answers (λ one h. h.0) heard

  abbrev lasts : List Event
  lasts = each carries last_answers b

  abbrev end : World
  end = after b lasts

  ended : Reaches (λ z. Calm z × Onward b z
      × AllByRecursion (λ packet. IsToldBy packet z) last_answers) b lasts
  ended = all-carried last_answers b replied.leads.0 may-end

  ends-silent : AllByRecursion (Third end) (answers_in (acts_of b lasts))
  ends-silent =
      all-answered (λ packet. says_heard packet.flags ≡ true) (λ answer. ⊥) heard-ends last_answers b
      replied.leads.0 may-end (all_weaker (Second b) (λ packet. says_heard packet.flags ≡ true)
      last_answers (λ one h. h.1) heard)

  silent : (answer : Carried) → IsIn answer (answers_in (acts_of b lasts)) → ⊥
  silent answer i = (in-all (Third end) answer (answers_in (acts_of b lasts)) ends-silent i).1

  -- ---- all of it

  abbrev after_ticks : List Event
  after_ticks = arrivals ++ (replies ++ lasts)

  abbrev events : List Event
  events = start ++ (firsts ++ after_ticks)

  leads : after w events ≡ end
  leads =
      after-append w start (firsts ++ after_ticks)
      ∙ (after-append v firsts after_ticks
      ∙ (after-append u arrivals (replies ++ lasts) ∙ after-append a replies lasts))

  all-goes : Goes w events
  all-goes =
      goes-append w start (firsts ++ after_ticks) back.goes
      (goes-append v firsts after_ticks ticked.goes
      (goes-append u arrivals (replies ++ lasts) carried.goes
      (goes-append a replies lasts replied.goes ended.goes)))

  goes : Proceeds w events
  goes = goes-proceeds events w all-goes

  -- what these events count as
  abbrev later_acts : List Act
  later_acts = acts_of a replies ++ acts_of b lasts

  acts : acts_of w events ≡ acts_of w start ++ (acts_of v firsts ++ (acts_of u arrivals
      ++ later_acts))
  acts =
      acts-append w start (firsts ++ after_ticks)
      ∙ ap (λ (ls : List Act). acts_of w start ++ ls)
      (acts-append v firsts after_ticks
      ∙ ap (λ (ls : List Act). acts_of v firsts ++ ls)
      (acts-append u arrivals (replies ++ lasts)
      ∙ ap (λ (ls : List Act). acts_of u arrivals ++ ls) (acts-append a replies lasts)))

  onward : Onward v end
  onward =
      onward-further v u end ticked.leads.1
      (onward-further u a end carried.leads.1 (onward-further a b end replied.leads.1
      ended.leads.1))

  same-size : end.size ≡ w.size
  same-size = onward.size ∙ back.leads.1

  few : (p : ℕ) → length (pend (stored end p)) ≤ count
  few p =
      let ends = ended.leads.0.sound in
      names-taken v back.leads.0.sound end.size (stored end) p (stored end p)
      (ends.kept.nodes p).kept (λ x k. onward.only p x k)

  often : (p : ℕ) → is_node w.size.n p ≡ true → count ≤ ticks_of p (acts_of w events)
  often p is =
      let enough =
      often-enough count p (nodes v.size.n) v
      (in-nodes v.size.n p (subst (λ (size : Limits). is_node size.n p ≡ true)
      (sym back.leads.1) is)) in
      omega (
        arith,
        enough,
        ticks-counted p events w goes,
        among-append p start (firsts ++ after_ticks),
        among-append p firsts after_ticks,
      )

  arrive : TicksArrive (is_node w.size.n) (acts_of w events)
  arrive =
      subst (TicksArrive (is_node w.size.n)) (sym acts)
      (no_tick-then (is_node w.size.n) (acts_of v firsts ++ (acts_of u arrivals ++ later_acts))
      start w (back-no_tick kept (nodes w.size.n) w)
      (ticks-then (is_node w.size.n) (acts_of u arrivals ++ later_acts) none firsts v
      (all-are count (nodes v.size.n) v) (goes-proceeds firsts v ticked.goes)
      (λ packet i. arrive-before packet (acts_of u arrivals) later_acts
      (all-do packets u packet (goes-proceeds arrivals u carried.goes) i))))
    where
      none : TicksArrive (is_node w.size.n) (acts_of u arrivals ++ later_acts)
      none =
          no_tick-then (is_node w.size.n) later_acts arrivals u (carries-no_tick packets u)
          (no_tick-then (is_node w.size.n) (acts_of b lasts) replies a
          (carries-no_tick first_answers a)
          (subst (TicksArrive (is_node w.size.n)) (append-nil (acts_of b lasts))
          (no_tick-then (is_node w.size.n) [] lasts b (carries-no_tick last_answers b) tt)))

  some-round : IsRound w events
  some-round =
      subst (λ (z : World). IsRoundAmong (is_node w.size.n) (acts_of w events) z) (sym leads)
      (record {
        undisturbed = proceeds-calm events w (goes-quietly events w all-goes);
        ticks =
            λ p is. let few_p = few p in let often_p = often p is in omega (arith, few_p, often_p);
        arrive = arrive;
        settled =
            λ p is. ended.leads.0.ready p
            (subst (λ (size : Limits). is_node size.n p ≡ true) (sym same-size) is);
      })

  answers-come : AnswersArrive (acts_of w events)
  answers-come =
      subst AnswersArrive (sym acts)
      (none-then (acts_of w start) (acts_of v firsts ++ (acts_of u arrivals ++ later_acts))
      (back-silent kept (nodes w.size.n) w)
      (none-then (acts_of v firsts) (acts_of u arrivals ++ later_acts)
      (ticks-silent firsts v (all-are count (nodes v.size.n) v))
      (answers-then (acts_of u arrivals) later_acts
      (λ answer i. arrive-before answer (acts_of a replies) (acts_of b lasts)
      (all-do first_answers a answer (goes-proceeds replies a replied.goes) i))
      (answers-then (acts_of a replies) (acts_of b lasts)
      (λ answer i. all-do last_answers b answer (goes-proceeds lasts b ended.goes) i)
      (subst AnswersArrive (append-nil (acts_of b lasts))
      (answers-then (acts_of b lasts) [] (λ answer i. absurd (silent answer i)) tt))))))

-- from every world of a run there is a round in which all answers arrive
pub round-exists : (w : World) → IsReached w
    → (events : List Event) × IsRound w events × AnswersArrive (acts_of w events)
round-exists w reached =
    let sound = reached-sound w reached in (events w sound, some-round w sound, answers-come w sound)
