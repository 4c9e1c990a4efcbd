-- Every payload that is stored, held or doubtful is within the limit, in every world of a run.
use Rattle.urb_world.proofs.Common.{AllByRecursion, Cause, Cert, Content, Entry, Event, Flags}
use Rattle.urb_world.proofs.Common.{IsEntry, Label, Limits, List, MAX_PAYLOAD, Node, None, Option}
use Rattle.urb_world.proofs.Common.{Pend, PendCert, Reply, Some, Storing, World, [], ap, arrives}
use Rattle.urb_world.proofs.Common.{doubt, false≢true, has_pair, has_pair-cases, has_pair-first}
use Rattle.urb_world.proofs.Common.{image_of, length, next_name, opened, pend, pend-append, refl}
use Rattle.urb_world.proofs.Common.{run, step, subst, suc, sym, true, zero, ℕ, ⊎_elim, ◌++◌, ◌∷◌}
use Rattle.urb_world.proofs.Common.{◌≡◌, ◌≤◌}
use Rattle.std.proofs.lemmas.List.Elements.{recursion_from_All}
use Rattle.std.specs.List.{All}
use Rattle.urb_world.proofs.steps.ArrivalCases.{arrive-cases, told_node}
use Rattle.urb_world.proofs.steps.ConfirmedPackets.{borne-pair}
use Rattle.urb_world.specs.RunInvariant.{AreShort, DoubtShort, NodeShort, NodesShort}
use Rattle.urb_world.specs.World.{stored}
use Rattle.urb_world.proofs.steps.StepCases.{OutcomeCases, node_of, outcome-cases, step-nodes}
use Rattle.urb_world.specs.EventEffects.{event_node}

-- ---- records

-- if the payloads of two lists of records are within the limit, so are those of both together
pub short-append : (xs ys : List Entry) → AreShort (pend xs) → AreShort (pend ys)
    → AreShort (pend (xs ++ ys))
short-append xs ys h k x m e =
    ⊎_elim (λ f. h x m f) (λ f. k x m f)
    (has_pair-cases (pend xs) (pend ys) x m
    (subst (λ (ps : List (Label × Content)). has_pair ps x m ≡ true) (pend-append xs ys) e))

-- one pair
short-pair : (x : Label) (m : Content) → length m.payload ≤ MAX_PAYLOAD → AreShort ((x, m) ∷ [])
short-pair x m h y o e =
    ⊎_elim (λ f. subst (λ (v : Content). length v.payload ≤ MAX_PAYLOAD) f.1 h)
    (λ f. absurd (false≢true f)) (has_pair-first (x, m) [] y o e)

short-pend : (x : Label) (m : Content) → length m.payload ≤ MAX_PAYLOAD
    → DoubtShort (Some (Pend x m))
short-pend x m h = short-pair x m h

short-certified : (x : Label) (m : Content) → length m.payload ≤ MAX_PAYLOAD
    → DoubtShort (Some (PendCert x m))
short-certified x m h = short-pair x m h

short-cert : (x : Label) → DoubtShort (Some (Cert x))
short-cert x y o e = absurd (false≢true e)

-- records within their limits
entries-short : (records : List Entry) → AllByRecursion IsEntry records → AreShort (pend records)
entries-short [] h = λ x m e. absurd (false≢true e)
entries-short (Pend y o ∷ records) h =
    short-append (Pend y o ∷ []) records (short-pend y o h.0.1.payload) (entries-short records h.1)
entries-short (PendCert y o ∷ records) h =
    short-append (PendCert y o ∷ []) records (short-certified y o h.0.1.payload)
    (entries-short records h.1)
entries-short (Cert y ∷ records) h = entries-short records h.1

-- ---- one node

abbrev Keeps : Node → Reply × Node → Type 0
Keeps node outcome = NodeShort node → NodeShort outcome.1

-- if the records and the doubtful record stay
stays : (node new : Node) → node.records ≡ new.records → doubt node.state ≡ doubt new.state
    → NodeShort node → NodeShort new
stays node new e f h = record {
  stored = subst (λ (rs : List Entry). AreShort (pend rs)) e h.stored;
  doubtful =
      subst (λ (d : Option Entry). DoubtShort d) f h.doubtful;
}

-- a draft of a short message
holds : (node : Node) (r : Entry) (cause : Option Cause) → DoubtShort (Some r) → NodeShort node
    → NodeShort (record node { state = Storing r cause })
holds node r cause d h = record { stored = h.stored; doubtful = d }

-- the doubtful record is stored
joins : (node new : Node) (r : Entry) → doubt node.state ≡ Some r
    → new.records ≡ node.records ++ r ∷ [] → doubt new.state ≡ None → NodeShort node → NodeShort new
joins node new r e f g h =
    record {
      stored =
          subst (λ (rs : List Entry). AreShort (pend rs)) (sym f)
          (short-append node.records (r ∷ []) h.stored
          (subst (λ (d : Option Entry). DoubtShort d) e h.doubtful));
      doubtful = subst (λ (d : Option Entry). DoubtShort d) (sym g) tt;
    }

arrive-short : (size : Limits) (p q : ℕ) (x : Label) (m : Content) (flags : Option Flags)
    (node : Node) → length m.payload ≤ MAX_PAYLOAD → Keeps node (arrives size p q x m flags node)
arrive-short size p q x m flags node l =
    arrive-cases (Keeps node) size p q x m flags node
    (λ cause. holds node (Pend x m) cause (short-pend x m l))
    (λ cause. holds node (PendCert x m) cause (short-certified x m l))
    (λ acks heard cause h. record { stored = h.stored; doubtful = short-cert x })
    (λ acks heard told h. stays node (told_node node acks heard) refl refl h)

-- ---- the world

-- an event leaves every payload that is stored, held or doubtful within the limit
pub step-short : (w : World) (event : Event) → NodesShort w → NodesShort (step w event).1
step-short w event short =
    step-nodes (λ q n. NodeShort n) w event short
    (outcome-cases (Keeps node) w event cases (short (event_node event)))
  where
    node : Node
    node = node_of w event

    cases : OutcomeCases (Keeps node) w event
    cases =
        record {
          refused = λ r h. h;
          again = λ x ready h. h;
          alone =
              λ m new e. holds node (PendCert (next_name (event_node event) node) m) None
              (short-certified (next_name (event_node event) node) m new.short);
          among =
              λ m new e. holds node (Pend (next_name (event_node event) node) m) None
              (short-pend (next_name (event_node event) node) m new.short);
          arrived = λ packet e ready t.
              arrive-short w.size (event_node event)
              packet.source packet.name packet.message packet.flags node
              ((short packet.source).stored packet.name packet.message
              (borne-pair (stored w packet.source) packet t));
          ticked = λ e ready h. stays node _ refl refl h;
          stored = λ position entry held cause e f h. joins node _ held (ap doubt f) refl refl h;
          down = λ e up h. record { stored = h.stored; doubtful = h.doubtful };
          up = λ image doubtful e f h. record { stored = h.stored; doubtful = tt };
          joined = λ image r e f h. joins node _ r (ap doubt f) refl refl h;
        }

-- a run leaves every payload that is stored, held or doubtful within the limit
pub run-short : (w : World) (events : List Event) → NodesShort w → NodesShort (run w events).1
unfolding run
run-short w [] short = short
run-short w (event ∷ events) short = run-short (step w event).1 events (step-short w event short)

-- ---- an opened group

-- nodes that are opened from records with payloads within the limit hold only such payloads
pub opened-short : (size : Limits) (images : ℕ → List Entry)
    → ((p : ℕ) → AreShort (pend (images p))) → NodesShort (opened size images)
opened-short size images h p = record { stored = h p; doubtful = tt }

-- images whose records are within their limits have only payloads within the limit
pub images-short : (images : List (List Entry)) → All (All IsEntry) images → (p : ℕ)
    → AreShort (pend (image_of images p))
images-short images h = each images (recursion_from_All (All IsEntry) images h)
  where
    each : (images : List (List Entry)) → AllByRecursion (All IsEntry) images → (p : ℕ)
        → AreShort (pend (image_of images p))
    each images h zero = λ x m e. absurd (false≢true e)
    each [] h (suc i) = λ x m e. absurd (false≢true e)
    each (image ∷ images) h (suc zero) = entries-short image (recursion_from_All IsEntry image h.0)
    each (image ∷ images) h (suc (suc i)) = each images h.1 (suc i)
