-- A node with the record that it holds taken as stored: what it knows, has certified and has
-- counted.
use Rattle.urb_world.proofs.Common.{Begins, Cause, Cert, Content, Down, Entry, Label, List, Node}
use Rattle.urb_world.proofs.Common.{Option, Pend, PendCert, Ready, State, Storing, acked}
use Rattle.urb_world.proofs.Common.{acks_after, ap, append-nil, arith, cert, has_name, held_by}
use Rattle.urb_world.proofs.Common.{is_some, length, message_of, pend, pend-append, refl}
use Rattle.urb_world.proofs.Common.{some_found, subst, sym, true, ℕ, ◌++◌, ◌≡◌, ◌≤◌}
use Rattle.std.proofs.lemmas.List.{length-append}
use Rattle.urb_world.proofs.hearing.CountedNodes.{acked-stays, cause-stays}
use Rattle.urb_world.proofs.recovery.CountedArrivals.{Counts, knows, settled}
use Rattle.urb_world.proofs.recovery.ContinuedWorlds.{found-begins}
use Rattle.urb_world.proofs.steps.Growth.{begins-itself, begins-push, begins-trans}
use Rattle.urb_world.proofs.steps.Growth.{certificate-begins}

-- the node, with the record that it holds stored
abbrev pub whole : ℕ → Node → Node
whole p node = settled p node node.state

-- what the old node has counted and knows, the new one has too
pub record Further (n : ℕ) (old new : Node) : Type 0 where
  -- each node that was counted for a name still is, or the name is certified
  pub counts : (x : Label) (z : ℕ) → Counts n old.records old.acks x z
      → Counts n new.records new.acks x z
  -- the records only grow at their end
  pub records : Begins old.records new.records

-- what is known stays so
pub knows-begins : (xs ys : List Entry) → Begins xs ys → (x : Label) → knows xs x ≡ true
    → knows ys x ≡ true
knows-begins xs ys b x h =
    let found = some_found (message_of (pend xs) x) h in
    ap is_some (found-begins xs ys b x found.0 found.1)

-- each node has what it has
pub further-itself : (n : ℕ) (node : Node) → Further n node node
further-itself n node = record { counts = λ x z h. h; records = begins-itself node.records }

-- if a node has what a second one had, which had what a first one had, it has what the first one
-- had
pub further-trans : (n : ℕ) (a b c : Node) → Further n a b → Further n b c → Further n a c
further-trans n a b c f g = record {
  counts = λ x z h. g.counts x z (f.counts x z h);
  records =
      begins-trans a.records b.records c.records f.records g.records;
}

-- a node's records are a prefix of those with its held record
pub begins-whole : (p : ℕ) (node : Node) (s : State) → Begins node.records (settled p node s).records
begins-whole p node Ready = begins-itself node.records
begins-whole p node (Storing entry cause) = begins-push node.records entry
begins-whole p node (Down doubtful) = begins-itself node.records

-- a name that a node knows it also knows with its held record taken as stored
pub whole-knows : (p : ℕ) (node : Node) (s : State) (x : Label) → knows node.records x ≡ true
    → knows (settled p node s).records x ≡ true
whole-knows p node s x h =
    knows-begins node.records (settled p node s).records (begins-whole p node s) x h

-- what is certified stays so
pub whole-certified : (p : ℕ) (node : Node) (x : Label) → has_name (cert node.records) x ≡ true
    → has_name (cert (whole p node).records) x ≡ true
whole-certified p node x h =
    certificate-begins node.records (whole p node).records (begins-whole p node node.state) x h

-- who is counted stays so
pub whole-acked : (p : ℕ) (node : Node) (x : Label) (z : ℕ) → acked node.acks x z ≡ true
    → acked (whole p node).acks x z ≡ true
whole-acked p node x z h = at node.state
  where
    more : (entry : Entry) (cause : Option Cause) → acked (acks_after p entry cause node.acks) x z
        ≡ true
    more (Pend y m) cause = cause-stays _ y cause x z (acked-stays node.acks y p x z h)
    more (PendCert y m) cause = cause-stays _ y cause x z (acked-stays node.acks y p x z h)
    more (Cert y) cause = h

    at : (s : State) → acked (settled p node s).acks x z ≡ true
    at Ready = h
    at (Storing entry cause) = more entry cause
    at (Down doubtful) = h

-- its records, and the one that it holds
pub whole-records : (p : ℕ) (node : Node) → (whole p node).records ≡ node.records ++ held_by
    node.state
whole-records p node = at node.state
  where
    at : (s : State) → (settled p node s).records ≡ node.records ++ held_by s
    at Ready = sym (append-nil node.records)
    at (Storing entry cause) = refl
    at (Down doubtful) = sym (append-nil node.records)

-- it has at least as many names pending as are stored
pub whole-more : (p : ℕ) (node : Node)
    → length (pend node.records) ≤ length (pend (whole p node).records)
whole-more p node =
    let more = begins-whole p node node.state in
    subst (λ (rs : List Entry). length (pend node.records) ≤ length (pend rs)) more.1
    (subst (λ (ps : List (Label × Content)). length (pend node.records) ≤ length ps)
    (sym (pend-append node.records more.0))
    (let l = length-append (pend node.records) (pend more.0) in omega (arith, l)))

-- a ready node holds no record
pub whole-ready : (p : ℕ) (node : Node) → node.state ≡ Ready → whole p node ≡ node
whole-ready p node e = ap (settled p node) e
