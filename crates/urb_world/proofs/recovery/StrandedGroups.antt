-- A stranded group stays stranded. Its one node receives no packet, so it never certifies a pair
-- that it has stored without a certificate.
use Rattle.urb_world.proofs.Common.{AreImages, Arrive, Carried, Cause, Cert, Content, Entry, Event}
use Rattle.urb_world.proofs.Common.{Fits, Label, Limits, List, Node, NodesKept, None, Ok, Option}
use Rattle.urb_world.proofs.Common.{Pend, PendCert, Reply, Some, State, StateKept, WasSent, World}
use Rattle.urb_world.proofs.Common.{[], acked, after, and_parts, ap, append-nil, arith, cert}
use Rattle.urb_world.proofs.Common.{cert-append, cond, cond_both, doubt, due, false}
use Rattle.urb_world.proofs.Common.{false_from_ne_true, false≢true, filter, flat_map, has_name}
use Rattle.urb_world.proofs.Common.{has_pair, heard_of, image_of, in_range, is_heard_of, is_node}
use Rattle.urb_world.proofs.Common.{is_none, is_some, keeps_a, ltb-true, message_of}
use Rattle.urb_world.proofs.Common.{message_of-more, nat_lt, not, opened, others, packets_in}
use Rattle.urb_world.proofs.Common.{packets_to, pend, pend-append, refl, run, slice_get, some_found}
use Rattle.urb_world.proofs.Common.{step, subst, suc, sym, to_unheard, true, ℕ, ⊎_elim, ◌++◌, ◌==◌}
use Rattle.urb_world.proofs.Common.{◌∙◌, ◌∷◌, ◌≡◌}
use Rattle.urb_world.proofs.steps.Runs.{opened-kept, step-keeps, step-sends}
use Rattle.urb_world.proofs.recovery.ContinuedWorlds.{knows-pair}
use Rattle.urb_world.proofs.recovery.CountedArrivals.{knows}
use Rattle.urb_world.proofs.steps.DraftsInSteps.{step-size}
use Rattle.urb_world.specs.RecoveredWorlds.{AreAsSent, IsAsSent}
use Rattle.urb_world.specs.World.{stored}
use Rattle.urb_names.proofs.FoundPairs.{has_name-last}
use Rattle.urb_node.specs.Steps.{packets_of}
use Rattle.urb_world.proofs.steps.StepCases.{OutcomeCases, node_of, outcome-cases, outcome_of}
use Rattle.urb_world.proofs.steps.StepCases.{step-cases, step-nodes}
use Rattle.urb_world.proofs.steps.ArrivalCases.{arrive-cases}
use Rattle.urb_world.specs.EventEffects.{event_node}

-- the record, if there is one, is no certificate of an earlier pair
abbrev IsNoCertificate : Option Entry → Type 0
IsNoCertificate (Some (Cert x)) = ⊥
IsNoCertificate doubtful = Unit {0}

-- what holds for a name that a node has stored alone, and not certified
record IsStuck (x : Label) (w : World) : Type 0 where
  alone : w.size.n ≡ 1
  silent : w.sent ≡ []
  kept : NodesKept w
  known : knows (stored w 1) x ≡ true
  open_yet : has_name (cert (stored w 1)) x ≡ false
  drafts : IsNoCertificate (doubt (w.node 1).state)

-- ---- alone, nothing is sent

first-node : (n p : ℕ) → n ≡ 1 → is_node n p ≡ true → p ≡ 1
first-node n p e is =
    let parts = and_parts (nat_lt 0 p) (nat_lt p (suc n)) is in
    omega (arith, e, ltb-true 0 p parts.0, ltb-true p (suc n) parts.1)

no-others : (n p : ℕ) → n ≡ 1 → is_node n p ≡ true → others n p ≡ []
no-others n p e is =
    subst (λ (k : ℕ). others k p ≡ []) (sym e)
    (subst (λ (i : ℕ). others 1 i ≡ []) (sym (first-node n p e is)) refl)

none-unheard : (n p : ℕ) (certified : List Label) (heard : List (Label × ℕ))
    (pairs : List (Label × Content)) → others n p ≡ []
    → flat_map (to_unheard n p certified heard) pairs ≡ []
none-unheard n p certified heard [] e = refl
none-unheard n p certified heard (pair ∷ pairs) e =
    ap (λ (qs : List ℕ). packets_to p
    (λ q. record { certified = has_name certified pair.0; heard = false })
    (filter (λ q. not (acked heard pair.0 q)) qs) pair ++ flat_map
    (to_unheard n p certified heard) pairs) e
    ∙ none-unheard n p certified heard pairs e

none-stored : (n p : ℕ) (r : Entry) (cause : Option Cause) → others n p ≡ []
    → packets_of n p r cause ≡ []
none-stored n p (Pend x m) cause e =
    ap (λ (qs : List ℕ). packets_to p
    (λ q. record { certified = false; heard = is_heard_of (heard_of cause) q }) qs (x, m)) e
none-stored n p (PendCert x m) cause e =
    ap (λ (qs : List ℕ). packets_to p
    (λ q. record { certified = true; heard = is_heard_of (heard_of cause) q }) qs (x, m)) e
none-stored n p (Cert x) cause e = refl

-- ---- one node

-- the outcome sends nothing, and drafts no certificate of an earlier pair
record Quiet (old : Node) (outcome : Reply × Node) : Type 0 where
  sends : packets_in outcome.0 ≡ []
  drafts : IsNoCertificate (doubt old.state) → IsNoCertificate (doubt outcome.1.state)

same : (node : Node) (reply : Reply) → packets_in reply ≡ [] → Quiet node (reply, node)
same node reply e = record { sends = e; drafts = λ h. h }

-- ---- what is stored

-- the name is known in these records, and not certified
abbrev IsOpen : Label → List Entry → Type 0
IsOpen x records = (knows records x ≡ true) × (has_name (cert records) x ≡ false)

open-joined : (size : Limits) (x : Label) (records : List Entry) (r : Entry)
    → IsNoCertificate (Some r) → keeps_a size records r ≡ true → IsOpen x records
    → IsOpen x (records ++ r ∷ [])
open-joined size x records r none a h = (known, at r none a)
  where
    known : knows (records ++ r ∷ []) x ≡ true
    known =
        let found = some_found (message_of (pend records) x) h.0 in
        ap is_some (ap (λ ps. message_of ps x) (pend-append records (r ∷ []))
        ∙ message_of-more (pend records) (pend (r ∷ [])) x found.0 found.1)

    at : (r : Entry) → IsNoCertificate (Some r) → keeps_a size records r ≡ true
        → has_name (cert (records ++ r ∷ [])) x ≡ false
    at (Cert y) none a = absurd none
    at (Pend y o) none a =
        ap (λ xs. has_name xs x) (cert-append records (Pend y o ∷ []) ∙ append-nil (cert records))
        ∙ h.1
    at (PendCert y o) none a =
        false_from_ne_true _ (λ c. ⊎_elim (λ e. false≢true (sym h.1 ∙ e)) other
        (has_name-last (cert records) y x
        (sym (ap (λ xs. has_name xs x) (cert-append records (PendCert y o ∷ []))) ∙ c)))
      where
        other : y ≡ x → ⊥
        other e =
            let new : is_none (message_of (pend records) y) ≡ true =
            (and_parts (in_range size y) _ a).1 in
            unknown (message_of (pend records) x) h.0
            (subst (λ (z : Label). is_none (message_of (pend records) z) ≡ true) e new)
          where
            unknown : (found : Option Content) → is_some found ≡ true → is_none found ≡ true → ⊥
            unknown None f g = false≢true f
            unknown (Some m) f g = false≢true g

-- ---- one step

module _ (x : Label) (w : World) (stuck : IsStuck x w) where
  -- what has to hold for the reply and the world after it
  record StepQuiet (outcome : Reply × World) : Type 0 where
    sends : packets_in outcome.0 ≡ []
    drafts : IsNoCertificate (doubt (outcome.1.node 1).state)

  none-sent : (packet : Carried) → WasSent w packet → ⊥
  none-sent packet h =
      let e : slice_get [] h.0 ≡ Some packet =
      ap (λ (ps : List Carried). slice_get ps h.0) (sym stuck.silent) ∙ h.1 in cc

  -- no packet arrives
  none-arrive : (event : Event) (p : ℕ) (packet : Carried) → IsAsSent w event
      → event ≡ Arrive p (Ok packet) → ⊥
  none-arrive event p packet h e = none-sent packet (subst (IsAsSent w) e h)

  abbrev node : Event → Node
  node event = node_of w event

  quiet-cases : (event : Event) → IsAsSent w event → others w.size.n (event_node event) ≡ []
      → OutcomeCases (Quiet (node_of w event)) w event
  quiet-cases event h none =
      record {
        refused = λ r. same (node event) _ refl;
        again = λ x ready. same (node event) _ refl;
        alone = λ m new e. record { sends = refl; drafts = λ _. tt };
        among = λ m new e. record { sends = refl; drafts = λ _. tt };
        arrived = λ packet e ready t. absurd (none-arrive event (event_node event) packet h e);
        ticked = λ e ready.
            record {
              sends = none-unheard w.size.n (event_node event) (cert (node event).records)
                  (node event).heard (due w.size.n (event_node event) (node event)) none;
              drafts =
                  λ d. d;
            };
        stored =
            λ position entry held cause e f.
            record {
              sends = none-stored w.size.n (event_node event) held cause none;
              drafts =
                  λ _. tt;
            };
        down = λ e up. record { sends = refl; drafts = λ d. d };
        up = λ image doubtful e f. record { sends = refl; drafts = λ _. tt };
        joined = λ image r e f. record { sends = refl; drafts = λ _. tt };
      }

  step-quiet : (event : Event) → IsAsSent w event → StepQuiet (step w event)
  step-quiet event h =
      step-cases StepQuiet w event (λ r. record { sends = refl; drafts = stuck.drafts })
      (λ is. let p = event_node event in let q =
      outcome-cases (Quiet (node_of w event)) w event
      (quiet-cases event h (no-others w.size.n p stuck.alone is)) in
      record { sends = q.sends; drafts = at (first-node w.size.n p stuck.alone is) q })
    where
      at : event_node event ≡ 1 → Quiet (node_of w event) (outcome_of w event)
          → IsNoCertificate (doubt (cond (1 == event_node event) (outcome_of w event).1
          (w.node 1)).state)
      at e q =
          cond_both (1 == event_node event) (outcome_of w event).1 (w.node 1)
          (λ (n : Node). IsNoCertificate (doubt n.state))
          (λ _. q.drafts (subst (λ (i : ℕ). IsNoCertificate (doubt (w.node i).state))
          (sym e) stuck.drafts)) (λ _. stuck.drafts)

  open-cases : (event : Event) → IsNoCertificate (doubt (node_of w event).state)
      → IsOpen x (node_of w event).records → OutcomeCases (λ o. IsOpen x o.1.records) w event
  open-cases event none h =
      record {
        refused = λ r. h;
        again = λ y ready. h;
        alone = λ m new e. h;
        among = λ m new e. h;
        arrived = λ packet e ready t.
            arrive-cases (λ o. IsOpen x o.1.records) w.size
            (event_node event) packet.source packet.name packet.message packet.flags
            (node event) (λ cause. h) (λ cause. h) (λ acks heard cause. h)
            (λ acks heard told. h);
        ticked = λ e ready. h;
        stored =
            λ position entry held cause e f.
            open-joined w.size x (node event).records held
            (subst (λ (s : State). IsNoCertificate (doubt s)) f none) (kept f).0.a h;
        down = λ e up. h;
        up = λ image doubtful e f. h;
        joined =
            λ image r e f. open-joined w.size x (node event).records r
            (subst (λ (s : State). IsNoCertificate (doubt s)) f none) (kept f).a h;
      }
    where
      kept : {s : State} → (node event).state ≡ s
          → StateKept w.size (stored w) (event_node event) (node event).records s
      kept f =
          subst (λ (s : State). StateKept w.size (stored w) (event_node event)
          (node event).records s) f (stuck.kept (event_node event)).state

  step-open : (event : Event) → IsOpen x (stored (step w event).1 1)
  step-open event =
      step-nodes (λ q n. 1 ≡ q → IsOpen x n.records) w event
      (λ q e. subst (λ (i : ℕ). IsOpen x (stored w i)) e (stuck.known, stuck.open_yet))
      (λ e. outcome-cases (λ o. IsOpen x o.1.records) w event
      (open-cases event (subst (λ (i : ℕ). IsNoCertificate (doubt (w.node i).state)) e stuck.drafts)
      (subst (λ (i : ℕ). IsOpen x (stored w i)) e (stuck.known, stuck.open_yet)))) 1 refl

  step-stuck : (event : Event) → IsAsSent w event → IsStuck x (step w event).1
  step-stuck event h =
      let quiet = step-quiet event h in
      let stored = step-open event in
      record {
        alone = ap (λ (size : Limits). size.n) (step-size w event) ∙ stuck.alone;
        silent =
            step-sends w event ∙ (ap (λ (ps : List Carried). ps ++ packets_in (step w event).0)
            stuck.silent ∙ quiet.sends);
        kept = (step-keeps w event stuck.kept).nodes;
        known = stored.0;
        open_yet = stored.1;
        drafts = quiet.drafts;
      }

-- ---- any run

run-stuck : (x : Label) (w : World) (events : List Event) → IsStuck x w → AreAsSent w events
    → IsStuck x (after w events)
unfolding run
run-stuck x w [] stuck h = stuck
run-stuck x w (event ∷ events) stuck h =
    run-stuck x (step w event).1 events (step-stuck x w stuck event h.0) h.1

-- a node that is alone never certifies a pair that its image has without a certificate, if no
-- forged packet comes
pub stays-stranded : (size : Limits) (images : List (List Entry)) → AreImages size images
    → Fits size (image_of images) → size.n ≡ 1 → (x : Label) (m : Content)
    → has_pair (pend (image_of images 1)) x m ≡ true
    → has_name (cert (image_of images 1)) x ≡ false → (events : List Event)
    → AreAsSent (opened size (image_of images)) events
    → has_name (cert (stored (after (opened size (image_of images)) events) 1)) x ≡ false
stays-stranded size images are fits alone x m pair none events h =
    (run-stuck x (opened size (image_of images)) events start h).open_yet
  where
    start : IsStuck x (opened size (image_of images))
    start = record {
      alone = alone;
      silent = refl;
      kept =
          (opened-kept size images are fits).nodes;
      known =
          knows-pair (image_of images 1) x m pair;
      open_yet = none;
      drafts = tt;
    }
