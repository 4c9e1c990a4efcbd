-- Words of the worked examples of rounds: plans of ticks and arrivals, and tests of the things that
-- a round asks for.
use Rattle.std.specs.Prelude.{Bool, List, None, Ok, Option, Some, [], false, length, map, nat_lt}
use Rattle.std.specs.Prelude.{not, suc, true, ℕ, ◌&&◌, ◌*◌, ◌++◌, ◌==◌, ◌||◌, ◌∷◌, ◌≡◌}
use Rattle.std.specs.List.{list_all}
use Rattle.urb_names.specs.declared.limits.TheConstants.{NAMES_PER_TICK}
use Rattle.urb_world.specs.internal.RecoveryExamples.{logs, scene_after}
use Rattle.urb_world.specs.RecoveryPlans.{Plan, after, both, carries, each, packets_of, stores}
use Rattle.urb_world.specs.Rounds.{Act, Adds, Arrives, Breaks, Ticks, acts_of, ticks_of}
use Rattle.urb_world.specs.Scenes.{Scene, held_by}
use Rattle.urb_world.specs.internal.Scripts.{message, new_group, store, submit}
use Rattle.urb_world.specs.Step.{Arrive, Event, Submit, Tick}
use Rattle.urb_world.specs.World.{World, stored}
use Rattle.urb_names.specs.CarriedPackets.{Carried}
use Rattle.urb_names.specs.Names.{same_message, same_name}
use Rattle.urb_names.specs.LabelsAndContents.{Label}
use Rattle.urb_names.specs.Nodes.{nodes}
use Rattle.urb_names.specs.declared.flags.Flags.{Flags}
use Rattle.urb_node.specs.Part.{Down, Ready, State, Storing}
use Rattle.urb_stable.specs.Records.{pend}

-- ---- scenes

-- node p of two has stored a message, and what it sent is lost or late
abbrev pub broadcast_of_two : ℕ → Scene
broadcast_of_two p = scene_after (new_group 2 10) (submit p (message 7 1 "a") ∷ store p ∷ [])

-- nodes 1 and 3 of three have stored a message each, and what they sent is lost or late
abbrev pub two_of_three_nodes_broadcast : Scene
two_of_three_nodes_broadcast =
    scene_after (new_group 3 10) (submit 1 (message 7 1 "a") ∷ store 1 ∷ submit 3
    (message 8 1 "c") ∷ store 3 ∷ [])

-- ---- plans

-- these packets arrive, and no record is stored
abbrev pub arrivals : List Carried → List Event
arrivals packets = map (λ packet. Arrive packet.target (Ok packet)) packets

-- Nodes tick in this order. Then their chosen packets arrive in the chosen order, and what they
-- draft is stored.
abbrev pub in_order : List ℕ → (List Carried → List Carried) → Plan
in_order order choice w =
    let ticks = map Tick order in
    ticks ++ each carries (choice (packets_of w ticks)) (after w ticks)

-- all of the packets, as they were sent
abbrev pub as_sent : List Carried → List Carried
as_sent packets = packets

-- no packet
abbrev pub none_of : List Carried → List Carried
none_of packets = []

-- one node after the other ticks, and what it sends arrives at once
abbrev pub one_by_one : List ℕ → Plan
one_by_one order w = each (λ p. in_order (p ∷ []) as_sent) order w

-- all packets that were ever sent arrive twice
abbrev pub old_packets : Plan
old_packets w = each carries (w.sent ++ w.sent) w

-- Nodes tick in this order, and each packet arrives twice. The first time no record is stored, so
-- some packets are refused as busy.
abbrev pub busy_at_first : List ℕ → Plan
busy_at_first order w =
    let ticks = map Tick order in
    let packets = packets_of w ticks in
    let first = ticks ++ arrivals packets in first ++ each carries packets (after w first)

-- Nodes tick in this order, and their packets arrive. The packets that answer these arrivals arrive
-- too.
abbrev pub with_answers : List ℕ → Plan
with_answers order w =
    let ticks = map Tick order in
    let packets = each carries (packets_of w ticks) (after w ticks) in
    let first =
    ticks ++ packets in first ++ each carries (packets_of (after w ticks) packets)
    (after w first)

-- p takes a message of client 7 and stores it
abbrev pub takes : ℕ → ℕ → Plan
takes p number = both (λ w. Submit p (message 7 number "") ∷ []) (stores p)

-- a round of two nodes in use: each takes a message before the other ticks
abbrev pub in_use : ℕ → Plan
in_use number =
    both (takes 2 number) (both (in_order (1 ∷ []) as_sent)
    (both (takes 1 (suc number)) (in_order (2 ∷ []) as_sent)))

-- nodes tick in this order, and their packets arrive, but no record is stored
abbrev pub without_receipts : List ℕ → Plan
without_receipts order w = let ticks = map Tick order in ticks ++ arrivals (packets_of w ticks)

-- ---- tests

-- whether two bits are the same
abbrev pub same_bit : Bool → Bool → Bool
same_bit true other = other
same_bit false other = not other

-- whether two packets have the same flags, or both have no flags
abbrev pub same_flags : Option Flags → Option Flags → Bool
same_flags None None = true
same_flags None (Some g) = false
same_flags (Some f) None = false
same_flags (Some f) (Some g) = same_bit f.certified g.certified && same_bit f.heard g.heard

-- whether two packets are the same
abbrev pub same_packet : Carried → Carried → Bool
same_packet a b =
    ((a.source == b.source) && (a.target == b.target))
    && (same_name a.name b.name && (same_message a.message b.message && same_flags a.flags b.flags))

-- whether nothing disturbs
abbrev pub is_undisturbed : List Act → Bool
is_undisturbed [] = true
is_undisturbed (Ticks p packets ∷ acts) = is_undisturbed acts
is_undisturbed (Arrives packet answers ∷ acts) = is_undisturbed acts
is_undisturbed (Adds ∷ acts) = false
is_undisturbed (Breaks ∷ acts) = false

-- whether nothing breaks
abbrev pub is_unbroken : List Act → Bool
is_unbroken [] = true
is_unbroken (Ticks p packets ∷ acts) = is_unbroken acts
is_unbroken (Arrives packet answers ∷ acts) = is_unbroken acts
is_unbroken (Adds ∷ acts) = is_unbroken acts
is_unbroken (Breaks ∷ acts) = false

-- whether the packet arrives
abbrev pub does_arrive : Carried → List Act → Bool
does_arrive packet [] = false
does_arrive packet (Ticks p packets ∷ acts) = does_arrive packet acts
does_arrive packet (Arrives other answers ∷ acts) =
    same_packet other packet || does_arrive packet acts
does_arrive packet (Adds ∷ acts) = does_arrive packet acts
does_arrive packet (Breaks ∷ acts) = does_arrive packet acts

-- whether everything that ticks send arrives later
abbrev pub ticks_arrive : List Act → Bool
ticks_arrive [] = true
ticks_arrive (Ticks p packets ∷ acts) =
    list_all (λ packet. does_arrive packet acts) packets && ticks_arrive acts
ticks_arrive (Arrives packet answers ∷ acts) = ticks_arrive acts
ticks_arrive (Adds ∷ acts) = ticks_arrive acts
ticks_arrive (Breaks ∷ acts) = ticks_arrive acts

-- whether each answer to a packet arrives later
abbrev pub answers_arrive : List Act → Bool
answers_arrive [] = true
answers_arrive (Ticks p packets ∷ acts) = answers_arrive acts
answers_arrive (Arrives packet answers ∷ acts) =
    list_all (λ answer. does_arrive answer acts) answers && answers_arrive acts
answers_arrive (Adds ∷ acts) = answers_arrive acts
answers_arrive (Breaks ∷ acts) = answers_arrive acts

-- whether the node is ready
abbrev pub is_ready : State → Bool
is_ready Ready = true
is_ready (Storing entry cause) = false
is_ready (Down doubtful) = false

-- which of the things that a round asks for are met
pub record Verdict : Type 0 where
  pub undisturbed : Bool
  pub ticks : Bool
  pub arrive : Bool
  pub settled : Bool

-- which of them these acts of n nodes meet, if they end in this world
abbrev pub judged_acts : ℕ → List Act → World → Verdict
judged_acts n acts end =
    record {
      undisturbed = is_undisturbed acts;
      ticks =
          list_all (λ p. nat_lt (length (pend (stored end p)))
          (suc (NAMES_PER_TICK * ticks_of p acts))) (nodes n);
      arrive = ticks_arrive acts;
      settled = list_all (λ p. is_ready (end.node p).state) (nodes n);
    }

-- which of them these events meet in this world
abbrev pub judged : World → List Event → Verdict
judged w events = judged_acts w.size.n (acts_of w events) (after w events)

-- all of them are met: it is a round
abbrev pub a_round : Verdict
a_round = record { undisturbed = true; ticks = true; arrive = true; settled = true }

-- all but one: something disturbs
abbrev pub disturbed : Verdict
disturbed = record a_round { undisturbed = false }

-- all but one: some node ticks too seldom
abbrev pub ticks_too_seldom : Verdict
ticks_too_seldom = record a_round { ticks = false }

-- all but one: a packet that a tick sends doesn't arrive
abbrev pub loses_a_packet : Verdict
loses_a_packet = record a_round { arrive = false }

-- all but one: some node isn't ready at the end
abbrev pub leaves_a_draft : Verdict
leaves_a_draft = record a_round { settled = false }

-- after this plan a tick of each node sends these packets, each given by its target and its name
abbrev pub TicksSend : Scene → Plan → List (ℕ × Label) → Type 0
TicksSend scene plan sends =
    let w = scene.world in
    map (λ packet. (packet.target, packet.name))
    (packets_of (after w (plan w)) (map Tick (nodes w.size.n))) ≡ sends

-- in this scene the two plans have these verdicts, and these are the logs of all nodes after them
abbrev pub RoundsCome : Scene → Plan → Verdict → Plan → Verdict → List (List Label) → Type 0
RoundsCome scene first one second two delivered =
    let w = scene.world in
    let u = after w (first w) in
    (judged w (first w) ≡ one) × (judged u (second u) ≡ two)
    × (logs (after u (second u)) ≡ delivered)

-- which of the things that a busy round asks for are met
pub record BusyVerdict : Type 0 where
  pub unbroken : Bool
  pub ticks : Bool
  pub arrive : Bool

-- which of them these events meet in this world
abbrev pub judged_busy : World → List Event → BusyVerdict
judged_busy w events =
    let acts = acts_of w events in
    let end = after w events in
    record {
      unbroken = is_unbroken acts;
      ticks =
          list_all (λ p. nat_lt (length (pend (stored end p ++ held_by (end.node p).state)))
          (suc (NAMES_PER_TICK * ticks_of p acts))) (nodes w.size.n);
      arrive = ticks_arrive acts;
    }

-- all of them are met: it is a busy round
abbrev pub a_busy_round : BusyVerdict
a_busy_round = record { unbroken = true; ticks = true; arrive = true }

-- all but one: something breaks
abbrev pub broken : BusyVerdict
broken = record a_busy_round { unbroken = false }

-- all but one: some node ticks too seldom
abbrev pub busy_ticks_too_seldom : BusyVerdict
busy_ticks_too_seldom = record a_busy_round { ticks = false }

-- all but one: a packet that a tick sends doesn't arrive
abbrev pub busy_loses_a_packet : BusyVerdict
busy_loses_a_packet = record a_busy_round { arrive = false }

-- In this scene the two plans have these verdicts. After them these are the logs of all nodes, and
-- these say whether each node is ready.
abbrev pub BusyRoundsCome : Scene → Plan → BusyVerdict → Plan → BusyVerdict → List (List Label)
    → List Bool → Type 0
BusyRoundsCome scene first one second two delivered ready =
    let w = scene.world in
    let u = after w (first w) in
    let v = after u (second u) in
    (judged_busy w (first w) ≡ one) × (judged_busy u (second u) ≡ two) × (logs v ≡ delivered)
    × (map (λ p. is_ready (v.node p).state) (nodes v.size.n) ≡ ready)

-- The first two plans are rounds, and so is the third. These say whether its answers arrive, and
-- which packets a tick of each node sends after it.
abbrev pub TicksEndBy : Scene → Plan → Plan → Plan → Bool → List (ℕ × Label) → Type 0
TicksEndBy scene first second third answered sends =
    let w = scene.world in
    let u = after w (first w) in
    let v = after u (second u) in
    (judged w (first w) ≡ a_round) × (judged u (second u) ≡ a_round)
    × (judged v (third v) ≡ a_round) × (answers_arrive (acts_of v (third v)) ≡ answered)
    × TicksSend scene (both first (both second third)) sends
