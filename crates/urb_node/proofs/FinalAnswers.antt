-- Answers end: a packet that says "heard" is not answered, and an answer to an answer says it.
use Rattle.urb_node.proofs.Common.{Bool, Carried, Cause, Cert, Content, Flags, Label, Limits, List}
use Rattle.urb_node.proofs.Common.{Node, None, Option, Pend, PendCert, Reply, Same, Some, [], acked}
use Rattle.urb_node.proofs.Common.{all_weaker, and_from, answers, arrives, cert, counts, drafts}
use Rattle.urb_node.proofs.Common.{eq-eqb, false, false≢true, has_name, hears, if◌then◌else◌}
use Rattle.urb_node.proofs.Common.{is_none, majority_passes, message_of, not, or_left, packet_from}
use Rattle.urb_node.proofs.Common.{pend, refl, reply_to, same_name, same_name-same, says_certified}
use Rattle.urb_node.proofs.Common.{subst, sym, takes, true, with_ack, ℕ, ◌&&◌, ◌==◌, ◌||◌, ◌∙◌, ◌∷◌}
use Rattle.urb_node.proofs.Common.{◌≡◌}
use Rattle.std.specs.List.{AllByRecursion}
use Rattle.urb_node.proofs.ShownNodes.{acked-with}
use Rattle.urb_node.specs.declared.answer.Answer.TheVariants.{Again, Answered, Noted}
use Rattle.urb_node.specs.Replies.{packets_in}
use Rattle.urb_node.specs.Steps.{answers_of, says_heard}

-- ---- the packets that an arrival returns

takes-silent : (size : Limits) (p q : ℕ) (x : Label) (m : Content) (flags : Option Flags)
    (node : Node) → packets_in (takes size p q x m flags node).0 ≡ []
takes-silent size p q x m flags node = at (majority_passes size.n (λ z. (z == p) || (z == q)))
  where
    cause : Option Cause
    cause = Some (packet_from q (says_certified flags))

    at : (b : Bool) → packets_in (if b then drafts node (PendCert x m) cause else drafts node
        (Pend x m) cause).0 ≡ []
    at true = refl
    at false = refl

counts-silent : (size : Limits) (q : ℕ) (x : Label) (flags : Option Flags) (node : Node)
    → packets_in (counts size q x flags node).0 ≡ []
counts-silent size q x flags node =
    at (majority_passes size.n (acked after.acks x)) (acked node.acks x q)
  where
    after : Node
    after = record node { acks = with_ack node.acks x q }

    at : (b c : Bool) → packets_in
        (if b then drafts after (Cert x) (Some (packet_from q (says_certified flags))) else
        (if c then (Same (Again x), after) else (Same (Noted x), after))).0 ≡ []
    at true c = refl
    at false true = refl
    at false false = refl

-- what holds for an empty list of packets, and for the answer about a certified name, holds for the
-- packets of an arrival
arrives-hands : (P : List Carried → Type 0) (size : Limits) (p q : ℕ) (x : Label) (m : Content)
    (flags : Option Flags) (node : Node) → P []
    → P (packets_in (answers p q x m flags (hears q x flags node)).0)
    → P (packets_in (arrives size p q x m flags node).0)
arrives-hands P size p q x m flags node none some =
    at (is_none (message_of (pend node.records) x)) (not (has_name (cert node.records) x))
  where
    told : Node
    told = hears q x flags node

    at : (b c : Bool) → P (packets_in
        (if b then takes size p q x m flags node else
        (if c then counts size q x flags told else answers p q x m flags told)).0)
    at true c = subst P (sym (takes-silent size p q x m flags node)) none
    at false true = subst P (sym (counts-silent size q x flags told)) none
    at false false = some

-- ---- silence

-- a packet that says that its target's certificate was heard gets no answer
pub heard-silent : (size : Limits) (packet : Carried) (node : Node) → says_heard packet.flags ≡ true
    → answers_of size packet node ≡ []
heard-silent size packet node said =
    arrives-hands (λ packets. packets ≡ [])
    size packet.target packet.source packet.name packet.message packet.flags node refl
    (silent packet.flags said (hears packet.source packet.name packet.flags node))
  where
    silent : (flags : Option Flags) → says_heard flags ≡ true → (told : Node)
        → packets_in (answers packet.target packet.source packet.name packet.message flags told).0
        ≡ []
    silent None e told = refl
    silent (Some flags) e told = at flags.heard e
      where
        at : (b : Bool) → b ≡ true → packets_in
            (if◌then◌else◌ {A = Reply × Node} b (Same (Again packet.name), told) (
              Same (Answered packet.name (reply_to packet.target packet.source packet.name
                  packet.message told ∷ [])),
              told,
            )).0 ≡ []
        at true f = refl
        at false f = absurd (false≢true f)

-- a packet of version one gets no answer
pub first_version-silent : (size : Limits) (packet : Carried) (node : Node) → packet.flags ≡ None
    → answers_of size packet node ≡ []
first_version-silent size packet node first =
    arrives-hands (λ packets. packets ≡ [])
    size packet.target packet.source packet.name packet.message packet.flags node refl
    (subst (λ (flags : Option Flags).
    packets_in (answers packet.target packet.source packet.name packet.message flags
    (hears packet.source packet.name packet.flags node)).0 ≡ []) (sym first) refl)

-- ---- answers to answers

-- each packet says that its source has stored a certificate
abbrev pub SayCertified : List Carried → Type 0
SayCertified packets = AllByRecursion (λ packet. says_certified packet.flags ≡ true) packets

-- each packet says that the target's certificate was heard
abbrev pub SayHeard : List Carried → Type 0
SayHeard packets = AllByRecursion (λ packet. says_heard packet.flags ≡ true) packets

-- each answer to a packet reports a certificate
pub answers-certify : (size : Limits) (packet : Carried) (node : Node)
    → SayCertified (answers_of size packet node)
answers-certify size packet node =
    arrives-hands SayCertified size packet.target packet.source packet.name packet.message
    packet.flags node tt (certify packet.flags
    (hears packet.source packet.name packet.flags node))
  where
    certify : (flags : Option Flags) (told : Node)
        → SayCertified (packets_in (answers packet.target packet.source packet.name packet.message
        flags told).0)
    certify None told = tt
    certify (Some flags) told = at flags.heard
      where
        at : (b : Bool) → SayCertified
            (packets_in (if◌then◌else◌ {A = Reply × Node} b (Same (Again packet.name), told) (
              Same (Answered packet.name (reply_to packet.target packet.source packet.name
                  packet.message told ∷ [])),
              told,
            )).0)
        at true = tt
        at false = (refl, tt)

-- what a packet reported is heard
pub heard-then : (q : ℕ) (x : Label) (flags : Option Flags) (node : Node)
    → says_certified flags ≡ true → acked (hears q x flags node).heard x q ≡ true
heard-then q x flags node e =
    subst (λ (b : Bool). acked (if b then record node
    { heard = with_ack node.heard x q } else node).heard x q ≡ true) (sym e)
    (acked-with node.heard x q x q
    ∙ or_left (same_name x x && (q == q)) (acked node.heard x q)
    (and_from (same_name x x) _ (same_name-same x) (eq-eqb q q refl)))

-- an answer to a packet that reports a certificate says that this certificate was heard
pub answers-hear : (size : Limits) (packet : Carried) (node : Node)
    → says_certified packet.flags ≡ true → SayHeard (answers_of size packet node)
answers-hear size packet node certified =
    arrives-hands SayHeard size packet.target packet.source packet.name packet.message packet.flags
    node tt
    (hear packet.flags (hears packet.source packet.name packet.flags node)
    (heard-then packet.source packet.name packet.flags node certified))
  where
    hear : (flags : Option Flags) (told : Node) → acked told.heard packet.name packet.source ≡ true
        → SayHeard (packets_in (answers packet.target packet.source packet.name packet.message flags
        told).0)
    hear None told e = tt
    hear (Some flags) told e = at flags.heard
      where
        at : (b : Bool) → SayHeard (packets_in
            (if◌then◌else◌ {A = Reply × Node} b (Same (Again packet.name), told) (
              Same (Answered packet.name (reply_to packet.target packet.source packet.name
                  packet.message told ∷ [])),
              told,
            )).0)
        at true = tt
        at false = (e, tt)

-- after an answer there is at most one more
pub answers-end : (size : Limits) (first : Carried) (here there last : Node)
    → AllByRecursion (λ second. AllByRecursion (λ third. answers_of size third last ≡ [])
    (answers_of size second there)) (answers_of size first here)
answers-end size first here there last =
    all_weaker (λ second. says_certified second.flags ≡ true) _ (answers_of size first here)
    (λ second certified. all_weaker (λ third. says_heard third.flags ≡ true) _
    (answers_of size second there) (λ third heard. heard-silent size third last heard)
    (answers-hear size second there certified))
    (answers-certify size first here)
