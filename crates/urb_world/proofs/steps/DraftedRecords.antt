-- Two nodes hold one message under a name. A node that refuses or drafts preserves what holds for
-- all nodes.
use Rattle.urb_world.proofs.Common.{Bool, Cause, Content, Entry, IsCaused, Kept, Label, Limits}
use Rattle.urb_world.proofs.Common.{List, MayJoin, Node, NodeKept, Option, Refusal, Some, []}
use Rattle.urb_world.proofs.Common.{drafts, eqb-true, false, has_pair, kept-known, kept-unique}
use Rattle.urb_world.proofs.Common.{pend, refl, refuses, subst, sym, true, ℕ, ◌==◌, ◌∙◌, ◌≡◌}
use Rattle.urb_world.proofs.steps.OneNodeStep.{Leads, leads-same}
use Rattle.urb_names.proofs.FoundPairs.{Unique}

abbrev pub AllKept : Limits → (ℕ → List Entry) → Type 0
AllKept size images = (q : ℕ) → Kept size images q [] (images q)

-- a pair that a node holds, its sender holds too
pub to_sender : (size : Limits) (images : ℕ → List Entry) → AllKept size images
    → (q : ℕ) (x : Label) (m : Content) → has_pair (pend (images q)) x m ≡ true
    → has_pair (pend (images x.sender)) x m ≡ true
to_sender size images all q x m h = at (x.sender == q) refl
  where
    at : (b : Bool) → (x.sender == q) ≡ b → has_pair (pend (images x.sender)) x m ≡ true
    at true e =
        subst (λ (i : ℕ). has_pair (pend (images i)) x m ≡ true) (sym (eqb-true x.sender q e)) h
    at false e = kept-known size images q (images q) (all q) x m h e

-- two nodes hold one message under a name
pub agree : (size : Limits) (images : ℕ → List Entry) → AllKept size images
    → (p q : ℕ) (x : Label) (m o : Content)
    → has_pair (pend (images p)) x m ≡ true → has_pair (pend (images q)) x o ≡ true → m ≡ o
agree size images all p q x m o h k =
    let u : Unique (pend (images x.sender)) =
    kept-unique size images x.sender (images x.sender) (all x.sender) in
    let e : Some m ≡ Some o =
    sym (u x m (to_sender size images all p x m h))
    ∙ u x o (to_sender size images all q x o k) in
    cc

-- ---- refusals and drafts

-- a node that refuses an event preserves the rules
pub leads-refuses : (size : Limits) (images : ℕ → List Entry) (p : ℕ) (node : Node) (r : Refusal)
    → images p ≡ node.records → NodeKept size images p node → Leads size images p (refuses node r)
leads-refuses size images p node r e k = leads-same size images p (refuses node r) e k tt

-- a node that drafts a record preserves the rules, if the record would meet them once stored
pub leads-drafts : (size : Limits) (images : ℕ → List Entry) (p : ℕ) (node : Node) (r : Entry)
    (cause : Option Cause) → images p ≡ node.records → NodeKept size images p node
    → MayJoin size images p node.records r → IsCaused images r cause
    → Leads size images p (drafts node r cause)
leads-drafts size images p node r cause e k j c =
    leads-same size images p (drafts node r cause) e
    (record { kept = k.kept; state = (j, c); acks = k.acks; broadcast = k.broadcast }) tt
