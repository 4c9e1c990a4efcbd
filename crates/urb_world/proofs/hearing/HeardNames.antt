-- Only certificates of pending names are heard, in every world of a run. So a stored record's
-- packets report what was heard.
use Rattle.urb_world.proofs.Common.{AllByRecursion, Bool, Carried, Cause, Cert, Commit, Content}
use Rattle.urb_world.proofs.Common.{Done, Down, Entry, Event, Flags, IsReached, IsStart, Label}
use Rattle.urb_world.proofs.Common.{Limits, List, Node, None, Of_images, Of_new, Option, Pend}
use Rattle.urb_world.proofs.Common.{PendCert, Ready, Refused, Reply, Some, State, StateKept, Stored}
use Rattle.urb_world.proofs.Common.{Storing, World, [], acked, and_parts, answers, ap, arrives}
use Rattle.urb_world.proofs.Common.{at_node, cert, commits, cond-true, cond_both, counts, done}
use Rattle.urb_world.proofs.Common.{eq-eqb, eqb-true, false, false_from_ne_true, false≢true}
use Rattle.urb_world.proofs.Common.{has_name, heard_after, heard_of, hears, image_of, in_range}
use Rattle.urb_world.proofs.Common.{is_heard_of, is_node, is_none, is_some, keeps_a, keeps_record}
use Rattle.urb_world.proofs.Common.{majority_passes, map, message_of, message_of-more}
use Rattle.urb_world.proofs.Common.{message_of-new, next_position, not, others, pend, pend-append}
use Rattle.urb_world.proofs.Common.{refl, run, same_record, says_certified, step, subst, sym, takes}
use Rattle.urb_world.proofs.Common.{true, with_ack, with_heard, world_after, ℕ, ⊎_elim, ◌&&◌, ◌++◌}
use Rattle.urb_world.proofs.Common.{◌==◌, ◌||◌, ◌∙◌, ◌∷◌, ◌≡◌}
use Rattle.urb_world.proofs.hearing.CountedNodes.{acked-cases, acked-itself, heard-cases}
use Rattle.urb_world.proofs.steps.Runs.{reached-keeps}
use Rattle.urb_world.specs.HeardCertificates.{HearsOfPending, SaysWhatWasHeard}
use Rattle.urb_world.specs.World.{stored}
use Rattle.urb_node.specs.Steps.{packets_of}
use Rattle.urb_world.proofs.steps.StepCases.{OutcomeCases, node_of, outcome-cases, step-nodes}
use Rattle.urb_world.specs.EventEffects.{event_node}
use Rattle.urb_names.specs.declared.refusal.Refusal.TheVariants as refusal

-- ---- pending names

-- a name is pending among these records
abbrev IsPending : List Entry → Label → Type 0
IsPending records x = is_some (message_of (pend records) x) ≡ true

more_pending : (records : List Entry) (r : Entry) (x : Label) → IsPending records x
    → IsPending (records ++ r ∷ []) x
more_pending records r x h =
    subst (λ (ps : List (Label × Content)). is_some (message_of ps x) ≡ true)
    (sym (pend-append records (r ∷ []))) (at (message_of (pend records) x) refl h)
  where
    at : (o : Option Content) → message_of (pend records) x ≡ o → is_some o ≡ true
        → is_some (message_of (pend records ++ pend (r ∷ [])) x) ≡ true
    at None e k = absurd (false≢true k)
    at (Some m) e k = ap is_some (message_of-more (pend records) (pend (r ∷ [])) x m e)

pair_pending : (ps : List (Label × Content)) (x : Label) (m : Content)
    → is_some (message_of (ps ++ (x, m) ∷ []) x) ≡ true
pair_pending ps x m = at (message_of ps x) refl
  where
    at : (o : Option Content) → message_of ps x ≡ o
        → is_some (message_of (ps ++ (x, m) ∷ []) x) ≡ true
    at None e = ap is_some (message_of-new ps x m e)
    at (Some o) e = ap is_some (message_of-more ps ((x, m) ∷ []) x o e)

-- ---- one node

-- what the node has heard after it belongs to pending names
abbrev Goes : Reply × Node → Type 0
Goes outcome = HearsOfPending outcome.1

-- a node that heard a certificate of a pending name
hears-hears : (q : ℕ) (x : Label) (flags : Option Flags) (node : Node)
    → is_none (message_of (pend node.records) x) ≡ false → HearsOfPending node
    → HearsOfPending (hears q x flags node)
hears-hears q x flags node there h =
    cond_both (says_certified flags) _ _ HearsOfPending
    (λ _ y z k. ⊎_elim (λ old. h y z old)
    (λ new. subst (λ (name : Label). IsPending node.records name) new.0
    (some_of (message_of (pend node.records) x) there))
    (acked-cases node.heard x q y z k)) (λ _. h)
  where
    some_of : (o : Option Content) → is_none o ≡ false → is_some o ≡ true
    some_of None e = absurd (false≢true (sym e))
    some_of (Some m) e = refl

counts-hears : (size : Limits) (q : ℕ) (x : Label) (flags : Option Flags) (node : Node)
    → HearsOfPending node → Goes (counts size q x flags node)
counts-hears size q x flags node h =
    cond_both (majority_passes size.n (acked (with_ack node.acks x q) x)) _ _ Goes (λ _. h)
    (λ _. cond_both (acked node.acks x q) _ _ Goes (λ _. h) (λ _. h))

answers-hears : (p q : ℕ) (x : Label) (m : Content) (flags : Option Flags) (node : Node)
    → HearsOfPending node → Goes (answers p q x m flags node)
answers-hears p q x m None node h = h
answers-hears p q x m (Some flags) node h = cond_both flags.heard _ _ Goes (λ _. h) (λ _. h)

takes-hears : (size : Limits) (p q : ℕ) (x : Label) (m : Content) (flags : Option Flags)
    (node : Node) → HearsOfPending node → Goes (takes size p q x m flags node)
takes-hears size p q x m flags node h =
    cond_both (majority_passes size.n (λ z. (z == p) || (z == q))) _ _ Goes (λ _. h) (λ _. h)

arrive-hears : (size : Limits) (p q : ℕ) (x : Label) (m : Content) (flags : Option Flags)
    (node : Node) → HearsOfPending node → Goes (arrives size p q x m flags node)
arrive-hears size p q x m flags node h =
    cond_both (is_none (message_of (pend node.records) x)) _ _ Goes
    (λ _. takes-hears size p q x m flags node h)
    (λ there. let told = hears-hears q x flags node there h in
    cond_both (not (has_name (cert node.records) x)) _ _ Goes
    (λ _. counts-hears size q x flags (hears q x flags node) told)
    (λ _. answers-hears p q x m flags (hears q x flags node) told))

-- the name of a record's pair is pending once the record is stored
its_own : (records : List Entry) (r : Entry) (x : Label) (m : Content) → pend (r ∷ []) ≡ (x, m) ∷ []
    → IsPending (records ++ r ∷ []) x
its_own records r x m e =
    subst (λ (ps : List (Label × Content)). is_some (message_of ps x) ≡ true)
    (sym (pend-append records (r ∷ []) ∙ ap (λ ps. pend records ++ ps) e))
    (pair_pending (pend records) x m)

-- a record is stored: if it is a pair's, its own certificate may be heard with it
record-hears : (records : List Entry) (heard : List (Label × ℕ)) (r : Entry) (cause : Option Cause)
    → ((x : Label) (q : ℕ) → acked heard x q ≡ true → IsPending records x)
    → (x : Label) (q : ℕ) → acked (heard_after r cause heard) x q ≡ true
    → IsPending (records ++ r ∷ []) x
record-hears records heard (Pend y m) cause h x q k =
    ⊎_elim (λ old. more_pending records (Pend y m) x (h x q old))
    (λ new. subst (λ (name : Label). IsPending (records ++ Pend y m ∷ []) name) new.0
    (its_own records (Pend y m) y m refl)) (heard-cases heard y (heard_of cause) x q k)
record-hears records heard (PendCert y m) cause h x q k =
    ⊎_elim (λ old. more_pending records (PendCert y m) x (h x q old))
    (λ new. subst (λ (name : Label). IsPending (records ++ PendCert y m ∷ []) name) new.0
    (its_own records (PendCert y m) y m refl)) (heard-cases heard y (heard_of cause) x q k)
record-hears records heard (Cert y) cause h x q k = more_pending records (Cert y) x (h x q k)

-- a node that has heard nothing has heard of no name
nothing_heard : (records : List Entry) (x : Label) (q : ℕ) → acked [] x q ≡ true
    → IsPending records x
nothing_heard records x q k = absurd (false≢true k)

-- ---- the world

step-hears : (w : World) (event : Event) → ((q : ℕ) → HearsOfPending (w.node q)) → (q : ℕ)
    → HearsOfPending ((step w event).1.node q)
step-hears w event all =
    step-nodes (λ q n. HearsOfPending n) w event all (outcome-cases Goes w event cases)
  where
    p : ℕ
    p = event_node event

    node : Node
    node = node_of w event

    cases : OutcomeCases Goes w event
    cases =
        record {
          refused = λ r. all p;
          again = λ x ready. all p;
          alone = λ m new one. all p;
          among = λ m new one. all p;
          arrived =
              λ packet e ready t. arrive-hears w.size p packet.source packet.name packet.message
              packet.flags node (all p);
          ticked = λ e ready. all p;
          stored =
              λ position entry held cause e f.
              record-hears node.records node.heard held cause (all p);
          down = λ e up. nothing_heard node.records;
          up = λ image doubtful e f. nothing_heard node.records;
          joined = λ image r e f. nothing_heard (node.records ++ r ∷ []);
        }

run-hears : (w : World) (events : List Event) → ((q : ℕ) → HearsOfPending (w.node q)) → (q : ℕ)
    → HearsOfPending ((run w events).1.node q)
unfolding run
run-hears w [] all q = all q
run-hears w (event ∷ events) all q = run-hears (step w event).1 events (step-hears w event all) q

start-hears : (w : World) → IsStart w → (q : ℕ) → HearsOfPending (w.node q)
start-hears w (Of_new size) q = nothing_heard []
start-hears w (Of_images size images are fit) q = nothing_heard (image_of images q)

-- in every world of a run, what was heard belongs to pending names
pub reached-hears : (w : World) → IsReached w → (q : ℕ) → HearsOfPending (w.node q)
reached-hears w r q =
    subst (λ (v : List Reply × World). HearsOfPending (v.1.node q)) r.ran
    (run-hears r.start r.events (start-hears r.start r.is_start) q)

-- ---- what a stored record's packets say

-- nothing was heard of this name before: afterwards a node is heard of exactly if it is the new one
heard-exact : (heard : List (Label × ℕ)) (x : Label) (node : Option ℕ) (q : ℕ)
    → ((z : ℕ) → acked heard x z ≡ true → ⊥)
    → is_heard_of node q ≡ acked (with_heard heard x node) x q
heard-exact heard x None q h = sym (false_from_ne_true (acked heard x q) (h q))
heard-exact heard x (Some z) q h = at (q == z) refl
  where
    at : (b : Bool) → (q == z) ≡ b → (q == z) ≡ acked (with_ack heard x z) x q
    at true e =
        e ∙ sym (subst (λ (i : ℕ). acked (with_ack heard x z) x i ≡ true) (sym (eqb-true q z e))
        (acked-itself heard x z))
    at false e =
        e ∙ sym (false_from_ne_true (acked (with_ack heard x z) x q)
        (λ k. ⊎_elim (λ old. h q old) (λ new. false≢true (sym e ∙ eq-eqb q z (sym new.1)))
        (acked-cases heard x z x q k)))

-- nothing is heard of a name that isn't pending
unheard : (node : Node) (x : Label) → HearsOfPending node
    → is_none (message_of (pend node.records) x) ≡ true → (z : ℕ) → acked node.heard x z ≡ true → ⊥
unheard node x h e z k = both (message_of (pend node.records) x) e (h x z k)
  where
    both : (o : Option Content) → is_none o ≡ true → is_some o ≡ true → ⊥
    both None e k = false≢true k
    both (Some m) e k = false≢true e

all-map : {A : Type 0} (P : Carried → Type 0) (f : A → Carried) (xs : List A) → ((x : A) → P (f x))
    → AllByRecursion P (map f xs)
all-map P f [] h = tt
all-map P f (x ∷ xs) h = (h x, all-map P f xs h)

stored-tells : (size : Limits) (n p : ℕ) (held : Entry) (cause : Option Cause) (node : Node)
    → HearsOfPending node → keeps_a size node.records held ≡ true
    → AllByRecursion (SaysWhatWasHeard (keeps_record p held cause node)) (packets_of n p held cause)
stored-tells size n p (Pend x m) cause node h new =
    all-map _ _ (others n p) (λ q.
    heard-exact node.heard x (heard_of cause) q
    (unheard node x h (and_parts (in_range size x) _ new).1))
stored-tells size n p (PendCert x m) cause node h new =
    all-map _ _ (others n p) (λ q.
    heard-exact node.heard x (heard_of cause) q
    (unheard node x h (and_parts (in_range size x) _ new).1))
stored-tells size n p (Cert x) cause node h new = tt

abbrev Tells : Done → Reply × Node → Type 0
Tells d outcome = outcome.0 ≡ Stored d → AllByRecursion (SaysWhatWasHeard outcome.1) d.sent

commit-tells : (size : Limits) (images : ℕ → List Entry) (p position : ℕ) (entry : Entry)
    (node : Node) (s : State) → HearsOfPending node → StateKept size images p node.records s
    → (d : Done) → Tells d (commits size.n p position entry node s)
commit-tells size images p position entry node Ready h k d = λ e. absurd (cc (e))
commit-tells size images p position entry node (Storing held cause) h k d =
    cond_both ((position == next_position node) && same_record entry held) _ _ (Tells d)
    (λ _ e. let same : done size.n p held cause node ≡ d = cc (e) in
    subst (λ (t : Done). AllByRecursion
    (SaysWhatWasHeard (keeps_record p held cause node)) t.sent) same
    (stored-tells size size.n p held cause node h k.0.a))
    (λ _ e. absurd (cc (e)))
commit-tells size images p position entry node (Down doubtful) h k d = λ e. absurd (cc (e))

outcome-tells : (w : World) (p : ℕ) (outcome : Reply × Node) (d : Done) → Tells d outcome
    → (at_node w p outcome).0 ≡ Stored d
    → AllByRecursion (SaysWhatWasHeard ((at_node w p outcome).1.node p)) d.sent
outcome-tells w p outcome d h =
    cond_both (is_node w.size.n p) (world_after w p outcome) (Refused refusal.BadNode, w)
    (λ o. o.0 ≡ Stored d → AllByRecursion (SaysWhatWasHeard (o.1.node p)) d.sent)
    (λ _ e. subst (λ (node : Node). AllByRecursion (SaysWhatWasHeard node) d.sent)
    (sym (cond-true (p == p) _ _ (eq-eqb p p refl))) (h e)) (λ _ e. absurd (cc (e)))

-- in every world of a run, the packets of a record that is stored say to each node whether its
-- certificate was heard
pub reached-tells : (w : World) (p position : ℕ) (entry : Entry) (d : Done) → IsReached w
    → (step w (Commit p position entry)).0 ≡ Stored d
    → AllByRecursion (SaysWhatWasHeard ((step w (Commit p position entry)).1.node p)) d.sent
unfolding step
reached-tells w p position entry d r =
    outcome-tells w p (commits w.size.n p position entry (w.node p) (w.node p).state) d
    (commit-tells w.size (stored w) p position entry (w.node p) (w.node p).state
    (reached-hears w r p) ((reached-keeps w r).0.nodes p).state d)
