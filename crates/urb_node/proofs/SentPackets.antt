-- The packets that a node returns carry its stored pairs.
use Rattle.urb_node.proofs.Common.{Answer, Answers, AnswersFrom, AnswersOfStored, AreFrom}
use Rattle.urb_node.proofs.Common.{AreOfStored, Bool, Break, Carried, Cause, Cert, Content}
use Rattle.urb_node.proofs.Common.{Continue, ControlFlow, Entry, Err, Finds, Flags, IfOk, Label}
use Rattle.urb_node.proofs.Common.{List, Memory, NoMemory, None, Ok, Option, Outcome, Pend}
use Rattle.urb_node.proofs.Common.{PendCert, Ready, Refuses, Resending, Result, ShowsIn, Some}
use Rattle.urb_node.proofs.Common.{State, Wanted, Wants, [], acked, all_weaker, answer_with}
use Rattle.urb_node.proofs.Common.{any_insert, arrive_outcome, certified_outcome, certified_with}
use Rattle.urb_node.proofs.Common.{counted_outcome, false, false≢true, has_name, has_pair}
use Rattle.urb_node.proofs.Common.{has_pair-found, has_pair-head, has_pair-inserted, heard_of}
use Rattle.urb_node.proofs.Common.{hearing, if◌then◌else◌, inserted, majority_passes, message_of}
use Rattle.urb_node.proofs.Common.{name_lt, or_left, packet_from, packets_of, pending_outcome}
use Rattle.urb_node.proofs.Common.{placed, refl, resent-from, same_name, same_name-same}
use Rattle.urb_node.proofs.Common.{says_certified, step_from, subst, sym, tick_packets}
use Rattle.urb_node.proofs.Common.{to_others-from, true, with_ack, with_counted, with_record, ℕ}
use Rattle.urb_node.proofs.Common.{◌∙◌, ◌∷◌, ◌≡◌}
use Rattle.urb_names.specs.CarriedPackets.{IsFrom}
use Rattle.urb_node.specs.internal.Outcomes.{wants_answer}
use Rattle.urb_node.specs.Replies.{packets_with}
use Rattle.urb_node.proofs.RecordOutcomes.{same_limits}
use Rattle.urb_node.specs.declared.step.Step.{Step}
use Rattle.urb_node.specs.declared.answer.Answer.TheVariants as answer
use Rattle.urb_node.specs.declared.step.Step.TheVariants as step

-- packets of the pairs in memory carry stored pairs of each node that is shown
pub of-stored : (state : State) (a : Memory) (packets : List Carried)
    → AreFrom a.node a.pairs a.certified packets → AreOfStored (ShowsIn state a) a.node packets
of-stored state a packets from node s =
    all_weaker (IsFrom a.node a.pairs a.certified) _ packets
    (λ packet f. record {
      source = f.source;
      pair =
          sym (s.pairs packet.name packet.message) ∙ f.pair;
      certificate =
          λ says. sym (s.certified packet.name) ∙ f.certificate says;
    }) from

-- the packets of a record carry pairs in memory once it is stored
inserted-pair : (pairs : List (Label × Content)) (pair : Label × Content)
    → has_pair (inserted pair pairs) pair.0 pair.1 ≡ true
inserted-pair pairs pair = has_pair-inserted pair pairs pair.0 pair.1 ∙ has_pair-head pair pairs

with-itself : (names : List Label) (x : Label) → has_name (certified_with names x) x ≡ true
with-itself names x = at (has_name names x) refl
  where
    at : (b : Bool) → has_name names x ≡ b
        → has_name (if b then names else placed name_lt names x) x ≡ true
    at true e = e
    at false e =
        any_insert (λ y. same_name y x) names _ x
        ∙ or_left (same_name x x) (has_name names x) (same_name-same x)

record-from : (n p : ℕ) (a : Memory) (r : Entry) (cause : Option Cause)
    → AreFrom p (with_record a r cause).pairs (with_record a r cause).certified
    (packets_of n p r cause)
record-from n p a (Pend x m) cause =
    to_others-from n p (inserted (x, m) a.pairs) a.certified false (heard_of cause) (x, m)
    (inserted-pair a.pairs (x, m)) (λ e. absurd (false≢true e))
record-from n p a (PendCert x m) cause =
    to_others-from n p (inserted (x, m) a.pairs) (certified_with a.certified x) true
    (heard_of cause) (x, m) (inserted-pair a.pairs (x, m)) (λ e. with-itself a.certified x)
record-from n p a (Cert x) cause = tt

-- the packets of a stored record carry pairs and certificates that are in memory once it is stored
pub stored-from : (old new : Memory) (r : Entry) (cause : Option Cause) (packets : List Carried)
    → new ≡ with_record old r cause → packets ≡ packets_of old.limits.n old.node r cause
    → AreFrom new.node new.pairs new.certified packets
stored-from old new r cause packets after is =
    subst (λ (ps : List Carried). AreFrom new.node new.pairs new.certified ps) (sym is)
    (subst (λ (a : Memory). AreFrom a.node a.pairs a.certified
    (packets_of old.limits.n old.node r cause)) (sym after)
    (subst (λ (p : ℕ). AreFrom p (with_record old r cause).pairs (with_record old r cause).certified
    (packets_of old.limits.n old.node r cause)) (sym (same_limits old r cause).1)
    (record-from old.limits.n old.node old r cause)))

-- the packets of a tick carry pairs in memory
pub tick-from : (a : Memory) (old : Resending) (result : Result (List Carried) NoMemory)
    → old.node ≡ a.node → IfOk result (λ packets. packets ≡ tick_packets old a.pairs a.certified)
    → IfOk result (AreFrom a.node a.pairs a.certified)
tick-from a old (Ok packets) is sent =
    subst (λ (ps : List Carried). AreFrom a.node a.pairs a.certified ps) (sym sent)
    (subst (λ (p : ℕ). AreFrom p a.pairs a.certified (tick_packets old a.pairs a.certified)) is
    (resent-from old.limits.n old.node old.cursor a.pairs a.certified old.heard))
tick-from a old (Err e) is sent = tt

-- if the packets of a tick carry pairs in memory, these are stored at each node that is shown
pub tick-of_stored : (state : State) (a : Memory) (result : Result (List Carried) NoMemory)
    → IfOk result (AreFrom a.node a.pairs a.certified)
    → IfOk result (AreOfStored (ShowsIn state a) a.node)
tick-of_stored state a (Ok packets) from = of-stored state a packets from
tick-of_stored state a (Err e) from = tt

-- ---- answers

-- an answer carries a pair in memory whose name is certified there
pub answer-from : (p q : ℕ) (pairs : List (Label × Content)) (certified : List Label) (x : Label)
    (m : Content) (heard : Bool) → has_pair pairs x m ≡ true → has_name certified x ≡ true
    → AreFrom p pairs certified (answer_with p q x m heard ∷ [])
answer-from p q pairs certified x m heard h k =
    (record { source = refl; pair = h; certificate = λ says. k }, tt)

-- the packets of an outcome's answer carry pairs that are then in memory
abbrev pub AreAnswersFrom : Outcome → Type 0
AreAnswersFrom (Answers told a) = AreFrom a.node a.pairs a.certified (packets_with told)
AreAnswersFrom (Refuses r) = Unit {0}
AreAnswersFrom (Wants entry cause a) = Unit {0}

certified-from : (a : Memory) (q : ℕ) (x : Label) (m : Content) (flags : Option Flags)
    → has_pair a.pairs x m ≡ true → has_name a.certified x ≡ true
    → AreAnswersFrom (certified_outcome a q x m flags)
certified-from a q x m flags h k = at (wants_answer flags)
  where
    at : (b : Bool) → AreAnswersFrom
        (if b then Answers (answer.Answered x (answer_with a.node q x m (acked a.heard x q) ∷ []))
        a else Answers (answer.Again x) a)
    at true = answer-from a.node q a.pairs a.certified x m (acked a.heard x q) h k
    at false = tt

counted-from : (a : Memory) (q : ℕ) (x : Label) (flags : Option Flags)
    → AreAnswersFrom (counted_outcome a q x flags)
counted-from a q x flags =
    at (majority_passes a.limits.n (acked (with_ack a.acks x q) x)) (acked a.acks x q)
  where
    after : Memory
    after = hearing a q x flags

    at : (b c : Bool) → AreAnswersFrom
        (if b then Wants (Cert x) (Some (packet_from q (says_certified flags)))
        (with_counted after x q) else
        (if c then Answers (answer.Again x) after else Answers (answer.Noted x)
        (with_counted after x q)))
    at true c = tt
    at false true = tt
    at false false = tt

arrive-from : (a : Memory) (q : ℕ) (x : Label) (m : Content) (flags : Option Flags)
    → ((o : Content) → message_of a.pairs x ≡ Some o → o ≡ m)
    → AreAnswersFrom (arrive_outcome a q x m flags)
arrive-from a q x m flags same = found (message_of a.pairs x) refl
  where
    held : (first : Content) → message_of a.pairs x ≡ Some first → has_pair a.pairs x m ≡ true
    held first e =
        subst (λ (o : Content). has_pair a.pairs x o ≡ true) (same first e)
        (has_pair-found a.pairs x first e)

    known : (first : Content) → message_of a.pairs x ≡ Some first → (b : Bool)
        → has_name a.certified x ≡ b
        → AreAnswersFrom (if b then certified_outcome
        (hearing a q x flags) q x m flags else counted_outcome a q x flags)
    known first e true there = certified-from (hearing a q x flags) q x m flags (held first e) there
    known first e false open_ = counted-from a q x flags

    found : (o : Option Content) → message_of a.pairs x ≡ o
        → AreAnswersFrom (pending_outcome a q x m flags o)
    found None e = tt
    found (Some first) e = known first e (has_name a.certified x) refl

-- the packets of the step that follows from a packet are in memory too
pub arrived-from : {A : Type 0} (a : Memory) (q : ℕ) (x : Label) (m : Content)
    (flags : Option Flags) (new : Memory) (f : ControlFlow (Answer (List Carried)) (Wanted A))
    → ((o : Content) → message_of a.pairs x ≡ Some o → o ≡ m)
    → Finds a (arrive_outcome a q x m flags) (Ok f) new → AnswersFrom (step_from new f)
arrived-from a q x m flags new (Break told) same finds =
    subst (λ (outcome : Outcome). AreAnswersFrom outcome) finds (arrive-from a q x m flags same)
arrived-from a q x m flags new (Continue w) same finds = tt

-- if the packets of an answer carry pairs in memory, these are stored at each node that is shown
pub answers-of_stored : {A : Type 0} (step : Step A) → AnswersFrom step → AnswersOfStored step
answers-of_stored (step.Same ready told) from = of-stored Ready ready (packets_with told) from
answers-of_stored (step.Store storing draft) from = tt
