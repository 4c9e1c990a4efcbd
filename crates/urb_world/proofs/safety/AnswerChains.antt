-- Answers end: which packets an arrival hands out at once, and which of them are answered in turn.
use Rattle.urb_world.proofs.Common.{AllByRecursion, Carried, List, Node, None, Refused, Reply}
use Rattle.urb_world.proofs.Common.{World, [], all_weaker, and_parts, answers-certify, answers-hear}
use Rattle.urb_world.proofs.Common.{answers_of, arrives, at_node, cond_both, eqb-true, heard-silent}
use Rattle.urb_world.proofs.Common.{is_for, is_node, packet_arrives, packets_in, refl}
use Rattle.urb_world.proofs.Common.{says_certified, says_heard, step, subst, true, world_after, ℕ}
use Rattle.urb_world.proofs.Common.{◌&&◌, ◌==◌, ◌≡◌}
use Rattle.urb_world.specs.PromptAnswers.{answers_to}
use Rattle.urb_world.proofs.steps.StepCases.{packet-cases}
use Rattle.urb_node.proofs.FinalAnswers.{SayCertified, SayHeard, first_version-silent}
use Rattle.urb_names.specs.declared.refusal.Refusal.TheVariants as refusal

-- An arrival hands out no packets, or the answers of the node that the packet is for.
arrival-answers : (P : List Carried → Type 0) (w : World) (p : ℕ) (packet : Carried) → P []
    → P (answers_of w.size packet (w.node p)) → P (answers_to w p packet)
unfolding step
arrival-answers P w p packet none some =
    cond_both (is_for w p packet) (at_node w p (packet_arrives w p packet))
    (Refused refusal.BadNode, w) (λ (o : Reply × World). P (packets_in o.0))
    (λ fits. cond_both (is_node w.size.n p) (world_after w p (packet_arrives w p packet))
    (Refused refusal.BadNode, w) (λ (o : Reply × World). P (packets_in o.0))
    (λ _. packet-cases (λ (o : Reply × Node). P (packets_in o.0)) w p packet (λ r. none)
    (λ _ _. here fits)) (λ _. none)) (λ _. none)
  where
    here : is_for w p packet ≡ true
        → P (packets_in (arrives w.size p packet.source packet.name packet.message packet.flags
        (w.node p)).0)
    here fits =
        subst (λ (i : ℕ). P (packets_in
        (arrives w.size i packet.source packet.name packet.message packet.flags (w.node p)).0))
        (eqb-true packet.target p (and_parts
        (is_node w.size.n packet.source && is_node w.size.n packet.name.sender)
        (packet.target == p) fits).1) some

-- a packet that says that its target's certificate was heard gets no answer
pub heard-unanswered : (w : World) (p : ℕ) (packet : Carried) → says_heard packet.flags ≡ true
    → answers_to w p packet ≡ []
heard-unanswered w p packet e =
    arrival-answers (λ packets. packets ≡ []) w p packet refl
    (heard-silent w.size packet (w.node p) e)

-- a packet of version one gets no answer
pub first_version-unanswered : (w : World) (p : ℕ) (packet : Carried) → packet.flags ≡ None
    → answers_to w p packet ≡ []
first_version-unanswered w p packet e =
    arrival-answers (λ packets. packets ≡ []) w p packet refl
    (first_version-silent w.size packet (w.node p) e)

-- the third in turn is not answered
pub third-unanswered : (first : Carried) (u v w : World) (p q r : ℕ)
    → AllByRecursion (λ second. AllByRecursion (λ third. answers_to w r third ≡ [])
    (answers_to v q second)) (answers_to u p first)
third-unanswered first u v w p q r =
    all_weaker (λ second. says_certified second.flags ≡ true)
    (λ second. AllByRecursion (λ third. answers_to w r third ≡ []) (answers_to v q second))
    (answers_to u p first)
    (λ second e. all_weaker (λ third. says_heard third.flags ≡ true)
    (λ third. answers_to w r third ≡ []) (answers_to v q second)
    (λ third f. heard-unanswered w r third f)
    (arrival-answers SayHeard v q second tt (answers-hear v.size second (v.node q) e)))
    (arrival-answers SayCertified u p first tt (answers-certify u.size first (u.node p)))
