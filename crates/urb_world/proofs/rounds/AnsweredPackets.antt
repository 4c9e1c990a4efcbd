-- The answers to packets that are carried: what they say, and that they may be carried themselves.
use Rattle.urb_world.proofs.Common.{Act, Adds, AllByRecursion, Arrive, Arrives, Begins, Bool}
use Rattle.urb_world.proofs.Common.{Breaks, Carried, Commit, Down, Drafted, Event, Flags, Label}
use Rattle.urb_world.proofs.Common.{Limits, List, Node, NodesKept, None, Ok, Option, Ready, Refused}
use Rattle.urb_world.proofs.Common.{Reply, Restart, Same, Sent, Some, State, Stored, Storing}
use Rattle.urb_world.proofs.Common.{WentDown, World, [], acked, act_of, acts_of, after, all_append}
use Rattle.urb_world.proofs.Common.{all_weaker, answers, answers_of, ap, append-nil, append_assoc}
use Rattle.urb_world.proofs.Common.{arrival_by, carries, cert, comes_back, cond_both, counts}
use Rattle.urb_world.proofs.Common.{disturbance, each, has_name, image_with, is_node, is_none}
use Rattle.urb_world.proofs.Common.{majority_passes, message_of, next_position, not, packets_in}
use Rattle.urb_world.proofs.Common.{pend, readied, receipt_of, refl, run, slice_get, step, stores}
use Rattle.urb_world.proofs.Common.{subst, sym, tick_by, true, truthful, with_ack, ℕ, ◌++◌, ◌==◌}
use Rattle.urb_world.proofs.Common.{◌||◌, ◌∙◌, ◌∷◌, ◌≡◌}
use Rattle.urb_world.proofs.recovery.CarriedPackets.{Carriable, all-carried, arrive-is}
use Rattle.urb_world.proofs.recovery.CarriedPackets.{carriable-stays, carries-reaches}
use Rattle.urb_world.proofs.recovery.EventPlans.{after-append}
use Rattle.urb_world.proofs.recovery.ContinuedWorlds.{Calm, Onward, node-stays}
use Rattle.urb_world.proofs.rounds.ActCases.{disturbance-cases}
use Rattle.urb_world.proofs.rounds.ActLists.{acts-append}
use Rattle.urb_world.proofs.rounds.RoundParts.{AreTicks}
use Rattle.urb_world.proofs.rounds.ProceedingEvents.{acts-more, acts-none}
use Rattle.urb_world.proofs.steps.ArrivalCases.{any-heard}
use Rattle.urb_world.proofs.steps.Growth.{begins-itself, begins-trans}
use Rattle.urb_world.proofs.steps.Runs.{run-tells, step-sends}
use Rattle.urb_world.proofs.ticks.Membership.{IsIn, all-in, in-all, in-left, in-place, in-right}
use Rattle.urb_world.specs.Rounds.{Ticks}
use Rattle.urb_node.specs.Replies.{Up}

-- the answers to all packets that arrive
abbrev pub answers_in : List Act → List Carried
answers_in [] = []
answers_in (Ticks p packets ∷ acts) = answers_in acts
answers_in (Arrives packet answers ∷ acts) = answers ++ answers_in acts
answers_in (Adds ∷ acts) = answers_in acts
answers_in (Breaks ∷ acts) = answers_in acts

-- the answers in two lists of acts are those in the first, followed by those in the second
pub answers-append : (xs ys : List Act) → answers_in (xs ++ ys) ≡ answers_in xs ++ answers_in ys
answers-append [] ys = refl
answers-append (Ticks p packets ∷ xs) ys = answers-append xs ys
answers-append (Arrives packet answers ∷ xs) ys =
    ap (λ (rest : List Carried). answers ++ rest) (answers-append xs ys)
    ∙ sym (append_assoc answers (answers_in xs) (answers_in ys))
answers-append (Adds ∷ xs) ys = answers-append xs ys
answers-append (Breaks ∷ xs) ys = answers-append xs ys

no-answers : (reply : Reply) → answers_in (disturbance reply) ≡ []
no-answers reply =
    disturbance-cases (λ acts. answers_in acts ≡ []) reply refl refl refl

-- an arrival's answers are the packets of its reply
answer-replied : (packet : Carried) (reply : Reply) (answer : Carried)
    → IsIn answer (answers_in (arrival_by (Ok packet) reply)) → IsIn answer (packets_in reply)
answer-replied packet (Drafted x position) answer i = absurd i
answer-replied packet (Same told) answer i =
    subst (IsIn answer) (append-nil (packets_in (Same told))) i
answer-replied packet (Stored done) answer i = absurd i
answer-replied packet (Sent packets) answer i = absurd i
answer-replied packet (WentDown p) answer i = absurd i
answer-replied packet (Up p) answer i = absurd i
answer-replied packet (Refused refusal) answer i = absurd i

-- ---- where an answer goes

-- the answer goes back, about the same name
record GoesBack (packet answer : Carried) : Type 0 where
  source : answer.source ≡ packet.target
  target : answer.target ≡ packet.source
  name : answer.name ≡ packet.name

module _ (size : Limits) (packet : Carried) where
  abbrev GoBack : Reply × Node → Type 0
  GoBack o = AllByRecursion (GoesBack packet) (packets_in o.0)

  counts-back : (node : Node)
      → GoBack (counts size packet.source packet.name packet.flags node)
  counts-back node =
      cond_both (majority_passes size.n
      (acked (with_ack node.acks packet.name packet.source) packet.name)) _ _ GoBack (λ _. tt)
      (λ _. cond_both (acked node.acks packet.name packet.source) _ _ GoBack (λ _. tt) (λ _. tt))

  answers-back : (flags : Option Flags) (node : Node)
      → GoBack (answers packet.target packet.source packet.name packet.message flags node)
  answers-back None node = tt
  answers-back (Some flags) node =
      cond_both flags.heard _ _ GoBack (λ _. tt)
      (λ _. (record { source = refl; target = refl; name = refl }, tt))

  go-back : (node : Node) → AllByRecursion (GoesBack packet) (answers_of size packet node)
  go-back node =
      cond_both (is_none (message_of (pend node.records) packet.name)) _ _ GoBack
      (λ _. cond_both (majority_passes size.n
      (λ z. (z == packet.target) || (z == packet.source))) _ _ GoBack (λ _. tt) (λ _. tt))
      (λ _. cond_both (not (has_name (cert node.records) packet.name)) _ _ GoBack
      (λ _. any-heard (λ told. GoBack (counts size packet.source packet.name packet.flags told))
      packet.source packet.name packet.flags node (λ heard. counts-back _))
      (λ _. any-heard (λ told. GoBack (answers packet.target packet.source packet.name
      packet.message packet.flags told)) packet.source packet.name packet.flags node
      (λ heard. answers-back packet.flags _)))

-- ---- the answers to one packet

-- what was sent stays sent
sent-begins : (events : List Event) (w : World) → Begins w.sent (after w events).sent
unfolding run
sent-begins [] w = begins-itself w.sent
sent-begins (event ∷ events) w =
    begins-trans w.sent (step w event).1.sent (after (step w event).1 events).sent
    (packets_in (step w event).0, sym (step-sends w event)) (sent-begins events (step w event).1)

-- what the first of these events tells is truthful after all of them
first-told : (w : World) (event : Event) (events : List Event) → NodesKept w
    → AllByRecursion (λ (one : Carried). truthful (after w (event ∷ events)) one ≡ true)
    (packets_in (step w event).0)
unfolding run
first-told w event events kept = (run-tells w (event ∷ events) kept).0

-- ---- events without answers

silent-more : (w : World) (event : Event) (events : List Event)
    → answers_in (act_of event (step w event).0) ≡ []
    → answers_in (acts_of (step w event).1 events) ≡ []
    → answers_in (acts_of w (event ∷ events)) ≡ []
silent-more w event events first rest =
    ap answers_in (acts-more w event events)
    ∙ (answers-append (act_of event (step w event).0) (acts_of (step w event).1 events)
    ∙ (ap (λ (xs : List Carried). xs ++ answers_in (acts_of (step w event).1 events)) first
    ∙ rest))

silent-none : (w : World) → answers_in (acts_of w []) ≡ []
silent-none w = ap answers_in (acts-none w)

receipt-silent : (w : World) (p : ℕ) (node : Node) (s : State)
    → answers_in (acts_of w (receipt_of p node s)) ≡ []
receipt-silent w p node Ready = silent-none w
receipt-silent w p node (Storing entry cause) =
    silent-more w (Commit p (next_position node) entry) []
    (no-answers (step w (Commit p (next_position node) entry)).0)
    (silent-none (step w (Commit p (next_position node) entry)).1)
receipt-silent w p node (Down doubtful) = silent-none w

tick-silent : (p : ℕ) (reply : Reply) → answers_in (tick_by p reply) ≡ []
tick-silent p (Sent packets) = refl
tick-silent p reply = refl

-- ticks bring no answers to packets
pub ticks-silent : (events : List Event) (w : World) → AreTicks events
    → answers_in (acts_of w events) ≡ []
ticks-silent [] w are = silent-none w
ticks-silent (event ∷ events) w are =
    silent-more w event events
    (subst (λ (e : Event). answers_in (act_of e (step w event).0) ≡ []) (sym are.0.1)
    (tick-silent are.0.0 (step w event).0))
    (ticks-silent events (step w event).1 are.1)

readied-silent : (kept : Bool) (p : ℕ) (node : Node) (s : State) (w : World)
    → answers_in (acts_of w (readied kept p node s)) ≡ []
readied-silent kept p node Ready w = silent-none w
readied-silent kept p node (Storing entry cause) w = receipt-silent w p node (Storing entry cause)
readied-silent kept p node (Down doubtful) w =
    silent-more w (Restart p (image_with kept node.records doubtful)) []
    (no-answers (step w (Restart p (image_with kept node.records doubtful))).0)
    (silent-none (step w (Restart p (image_with kept node.records doubtful))).1)

-- nodes that come back bring no answers to packets
pub back-silent : (kept : ℕ → Bool) (ps : List ℕ) (w : World)
    → answers_in (acts_of w (each (comes_back kept) ps w)) ≡ []
back-silent kept [] w = silent-none w
back-silent kept (p ∷ ps) w =
    ap answers_in (acts-append w (comes_back kept p w) (each (comes_back kept) ps u))
    ∙ (answers-append (acts_of w (comes_back kept p w)) (acts_of u (each (comes_back kept) ps u))
    ∙ (ap (λ (xs : List Carried). xs ++ answers_in (acts_of u (each (comes_back kept) ps u)))
    (readied-silent (kept p) p (w.node p) (w.node p).state w)
    ∙ back-silent kept ps u))
  where
    u : World
    u = after w (comes_back kept p w)

-- ---- the answers to one packet that is carried

module _ (Q R : Carried → Type 0)
    (hands : (size : Limits) (packet : Carried) (node : Node) → Q packet
    → AllByRecursion R (answers_of size packet node)) where
  -- the answer may be carried in this world, and says this
  abbrev pub Answer : World → Carried → Type 0
  Answer w answer = Carriable w answer × R answer

  module _ (w : World) (calm : Calm w) (packet : Carried) (may : Carriable w packet) (q : Q packet)
    where
      abbrev arrival : Event
      arrival = Arrive packet.target (Ok packet)

      abbrev s : World
      s = (step w arrival).1

      abbrev receipt : List Event
      receipt = stores packet.target (after w (arrival ∷ []))

      abbrev v : World
      v = after w (carries packet w)

      onward : Onward w v
      onward = (carries-reaches w calm packet may).leads.1

      replied : packets_in (step w arrival).0 ≡ answers_of w.size packet (w.node packet.target)
      replied = ap (λ (o : Reply × World). packets_in o.0) (arrive-is w calm packet may)

      one-answers : AllByRecursion (Answer v) (answers_in (acts_of w (carries packet w)))
      unfolding step run
      one-answers =
          subst (AllByRecursion (Answer v)) (sym same)
          (all-in (Answer v) (answers_in (arrival_by (Ok packet) (step w arrival).0))
          (λ answer i. one answer (answer-replied packet (step w arrival).0 answer i)))
        where
          same : answers_in (acts_of w (carries packet w))
              ≡ answers_in (arrival_by (Ok packet) (step w arrival).0)
          same =
              ap answers_in (acts-more w arrival receipt)
              ∙ (answers-append (arrival_by (Ok packet) (step w arrival).0) (acts_of s receipt)
              ∙ (ap (λ (xs : List Carried).
              answers_in (arrival_by (Ok packet) (step w arrival).0) ++ xs)
              (receipt-silent s packet.target ((after w (arrival ∷ [])).node packet.target)
              ((after w (arrival ∷ [])).node packet.target).state)
              ∙ append-nil (answers_in (arrival_by (Ok packet) (step w arrival).0))))

          one : (answer : Carried) → IsIn answer (packets_in (step w arrival).0) → Answer v answer
          one answer i = (
            record {
              source =
                  node-stays w v onward answer.source
                  (subst (λ (p : ℕ). is_node w.size.n p ≡ true) (sym back.source) may.target);
              target =
                  node-stays w v onward answer.target
                  (subst (λ (p : ℕ). is_node w.size.n p ≡ true) (sym back.target) may.source);
              sender =
                  node-stays w v onward answer.name.sender
                  (subst (λ (x : Label). is_node w.size.n x.sender ≡ true) (sym back.name)
                  may.sender);
              truth = in-all (λ (one : Carried). truthful v one ≡ true) answer _ told i;
              sent = was-sent;
            },
            in-all R answer (answers_of w.size packet (w.node packet.target))
                (hands w.size packet (w.node packet.target) q) stands,
          )
            where
              stands : IsIn answer (answers_of w.size packet (w.node packet.target))
              stands = subst (IsIn answer) replied i

              back : GoesBack packet answer
              back =
                  in-all (GoesBack packet) answer (answers_of w.size packet (w.node packet.target))
                  (go-back w.size packet (w.node packet.target)) stands

              told : AllByRecursion (λ (one : Carried). truthful v one ≡ true)
                  (packets_in (step w arrival).0)
              told = first-told w arrival receipt (λ p. calm.sound.kept.nodes p)

              was-sent : (k : ℕ) × (slice_get v.sent k ≡ Some answer)
              was-sent =
                  let later = sent-begins receipt s in
                  in-place answer v.sent
                  (subst (λ (all : List Carried). IsIn answer all) later.1
                  (in-left answer s.sent later.0
                  (subst (λ (all : List Carried). IsIn answer all) (sym (step-sends w arrival))
                  (in-right answer w.sent (packets_in (step w arrival).0) i))))

  -- ---- the answers to many packets

  -- each answer to packets that are carried may be carried too, and says what such an answer says
  pub all-answered : (packets : List Carried) (w : World) → Calm w
      → AllByRecursion (Carriable w) packets → AllByRecursion Q packets
      → AllByRecursion (Answer (after w (each carries packets w)))
      (answers_in (acts_of w (each carries packets w)))
  all-answered [] w calm may q =
      subst (λ (acts : List Act). AllByRecursion (Answer (after w [])) (answers_in acts))
      (sym (acts-none w)) tt
  all-answered (packet ∷ packets) w calm may q =
      subst (AllByRecursion (Answer (after w (carries packet w ++ rest)))) (sym both)
      (subst (λ (z : World). AllByRecursion (Answer z)
      (answers_in (acts_of w (carries packet w)) ++ answers_in (acts_of u rest)))
      (sym (after-append w (carries packet w) rest))
      (all_append (Answer (after u rest)) (answers_in (acts_of w (carries packet w)))
      (answers_in (acts_of u rest))
      (all_weaker (Answer u) (Answer (after u rest)) (answers_in (acts_of w (carries packet w)))
      (λ answer h. (carriable-stays answer u (after u rest) onward-rest h.0, h.1))
      (one-answers w calm packet may.0 q.0))
      (all-answered packets u here.0 may-rest q.1)))
    where
      u : World
      u = after w (carries packet w)

      rest : List Event
      rest = each carries packets u

      here : Calm u × Onward w u
      here = let r = carries-reaches w calm packet may.0 in (r.leads.0, r.leads.1)

      may-rest : AllByRecursion (Carriable u) packets
      may-rest =
          all_weaker (Carriable w) (Carriable u) packets
          (λ one h. carriable-stays one w u here.1 h) may.1

      onward-rest : Onward u (after u rest)
      onward-rest = (all-carried packets u here.0 may-rest).leads.1

      both : answers_in (acts_of w (carries packet w ++ rest))
          ≡ answers_in (acts_of w (carries packet w)) ++ answers_in (acts_of u rest)
      both =
          ap answers_in (acts-append w (carries packet w) rest)
          ∙ answers-append (acts_of w (carries packet w)) (acts_of u rest)
