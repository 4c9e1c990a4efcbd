-- The cases of an arrival at a ready node, whatever was counted and heard before.
use Rattle.urb_world.proofs.Common.{Again, Answered, Carried, Cause, Cert, Content, Flags, Label}
use Rattle.urb_world.proofs.Common.{Limits, List, Node, None, Noted, Option, Pend, PendCert, Reply}
use Rattle.urb_world.proofs.Common.{Same, Some, acked, answers, arrives, cert, cond_both, counts}
use Rattle.urb_world.proofs.Common.{drafts, has_name, hears, is_none, majority_passes, message_of}
use Rattle.urb_world.proofs.Common.{not, packet_from, pend, says_certified, with_ack, ℕ, ◌==◌, ◌||◌}
use Rattle.urb_node.specs.declared.answer.Answer.{Answer}

-- what holds for all certificates that may have been heard, holds once one was heard
pub any-heard : (P : Node → Type 0) (q : ℕ) (x : Label) (flags : Option Flags) (node : Node)
    → ((heard : List (Label × ℕ)) → P (record node { heard = heard })) → P (hears q x flags node)
any-heard P q x flags node h =
    cond_both (says_certified flags) _ _ P (λ _. h (with_ack node.heard x q)) (λ _. h node.heard)

-- the node with other acknowledgements counted, and other certificates heard
abbrev pub told_node : Node → List (Label × ℕ) → List (Label × ℕ) → Node
told_node node acks heard = record node { acks = acks; heard = heard }

-- The pair is drafted, with or without a certificate of it. Or only a certificate is drafted. Or
-- the packet is answered at once.
pub arrive-cases : (P : Reply × Node → Type 0) (size : Limits) (p q : ℕ) (x : Label) (m : Content)
    (flags : Option Flags) (node : Node)
    → ((cause : Option Cause) → P (drafts node (Pend x m) cause))
    → ((cause : Option Cause) → P (drafts node (PendCert x m) cause))
    → ((acks heard : List (Label × ℕ)) (cause : Option Cause)
    → P (drafts (told_node node acks heard) (Cert x) cause))
    → ((acks heard : List (Label × ℕ)) (told : Answer (List Carried))
    → P (Same told, told_node node acks heard))
    → P (arrives size p q x m flags node)
arrive-cases P size p q x m flags node pends certified certifies tells =
    cond_both (is_none (message_of (pend node.records) x)) _ _ P
    (λ _. cond_both (majority_passes size.n (λ z. (z == p) || (z == q))) _ _ P
    (λ _. certified (Some (packet_from q (says_certified flags))))
    (λ _. pends (Some (packet_from q (says_certified flags)))))
    (λ _. cond_both (not (has_name (cert node.records) x)) _ _ P
    (λ _. any-heard (λ told. P (counts size q x flags told)) q x flags node counted)
    (λ _. any-heard (λ told. P (answers p q x m flags told)) q x flags node (answered flags)))
  where
    counted : (heard : List (Label × ℕ)) → P (counts size q x flags (record node { heard = heard }))
    counted heard =
        cond_both (majority_passes size.n (acked (with_ack node.acks x q) x)) _ _ P
        (λ _. certifies (with_ack node.acks x q) heard
        (Some (packet_from q (says_certified flags))))
        (λ _. cond_both (acked node.acks x q) _ _ P
        (λ _. tells (with_ack node.acks x q) heard (Again x))
        (λ _. tells (with_ack node.acks x q) heard (Noted x)))

    answered : (flags : Option Flags) (heard : List (Label × ℕ))
        → P (answers p q x m flags (record node { heard = heard }))
    answered None heard = tells node.acks heard (Again x)
    answered (Some f) heard =
        cond_both f.heard _ _ P (λ _. tells node.acks heard (Again x))
        (λ _. tells node.acks heard (Answered x _))
