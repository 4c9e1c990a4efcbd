-- Every world of a run meets the rules. Images that fit together meet them, and images that meet
-- them fit together.
use Rattle.urb_world.proofs.Common.{Accepted, AllByRecursion, AllTruthful, AreImages, Bool, Carried}
use Rattle.urb_world.proofs.Common.{Entry, Event, Fits, IsKept, IsReached, IsStart, Kept, Limits}
use Rattle.urb_world.proofs.Common.{List, Node, NodesKept, Of_images, Of_new, Reply, Rules, Same}
use Rattle.urb_world.proofs.Common.{State, StateKept, ToldTruth, World, [], all_append, all_weaker}
use Rattle.urb_world.proofs.Common.{append-nil, ap₂, arith, cases_eq, cases_lt, cond, false}
use Rattle.urb_world.proofs.Common.{false≢true, flat_map, image_of, is_node, keeps_a, keeps_c}
use Rattle.urb_world.proofs.Common.{keeps_d, length, map, misfits_behind, name_of, nodes, not}
use Rattle.urb_world.proofs.Common.{numbers_from, opened, packets_in, refl, run, slice_index_or}
use Rattle.urb_world.proofs.Common.{started, step, subst, suc, sym, true, truthful, zero, ℕ, ⊎_elim}
use Rattle.urb_world.proofs.Common.{◌++◌, ◌+◌, ◌<◌, ◌∷◌, ◌≡◌, ◌≤◌}
use Rattle.urb_world.proofs.steps.DraftedRecords.{AllKept, leads-refuses}
use Rattle.urb_world.proofs.steps.Arrivals.{leads-arrives}
use Rattle.urb_world.proofs.steps.JoinedRecord.{own_acks-kept}
use Rattle.urb_world.proofs.steps.ShortPayloads.{images-short, opened-short, run-short}
use Rattle.urb_world.proofs.steps.Growth.{run-goes_on, step-goes_on}
use Rattle.urb_world.proofs.steps.OneNodeStep.{Leads, StepKept, leads-same, nodes-step}
use Rattle.urb_world.proofs.steps.ConfirmedPackets.{borne-pair}
use Rattle.urb_world.specs.World.{stored}
use Rattle.urb_names.specs.declared.refusal.Rule.{Rule}
use Rattle.urb_names.specs.declared.refusal.Rule.TheVariants.{A, B, C, D}
use Rattle.urb_stable.specs.Fitting.{broken, keeps_b}
use Rattle.urb_stable.specs.declared.fitting.Misfit.{Misfit}
use Rattle.urb_world.proofs.steps.StepCases.{OutcomeCases, node_of, outcome-cases, outcome_of}
use Rattle.urb_world.proofs.steps.StepCases.{step-cases}
use Rattle.urb_world.proofs.steps.Submits.{leads-alone, leads-among}
use Rattle.urb_world.proofs.steps.Commits.{leads-goes_down, leads-stored, leads-up_joined}
use Rattle.urb_world.proofs.steps.Commits.{leads-up_same}
use Rattle.urb_world.proofs.steps.Ticks.{leads-resends}
use Rattle.urb_world.specs.EventEffects.{event_node}

-- ---- one step

-- if all nodes of a world meet the rules, the stored records of each node meet them
pub all_kept : (w : World) → NodesKept w → AllKept w.size (stored w)
all_kept w kept q = (kept q).kept

-- after an event all nodes still meet the rules, and each packet of the reply is truthful
pub step-keeps : (w : World) (event : Event) → NodesKept w → StepKept (step w event)
step-keeps w event kept =
    step-cases StepKept w event (λ r. record { nodes = kept; told = tt })
    (λ is. nodes-step w (event_node event) (outcome_of w event) kept
    (outcome-cases (Leads w.size (stored w) (event_node event)) w event (cases is)))
  where
    p : ℕ
    p = event_node event

    node : Node
    node = node_of w event

    cases : is_node w.size.n p ≡ true → OutcomeCases (Leads w.size (stored w) p) w event
    cases is =
        record {
          refused = λ r. leads-refuses w.size (stored w) p node r refl (kept p);
          again =
              λ x ready. leads-same w.size (stored w) p (Same (Accepted x), node) refl (kept p) tt;
          alone = λ m new one. leads-alone w.size (stored w) p m node refl is (kept p) new one;
          among = λ m new _. leads-among w.size (stored w) p m node refl is (kept p) new;
          arrived = λ packet e ready t.
              leads-arrives w.size (stored w)
              (all_kept w kept) p packet.source packet.name packet.message packet.flags node
              refl (kept p) (borne-pair (stored w packet.source) packet t);
          ticked = λ e ready. leads-resends w.size (stored w) p node refl (kept p);
          stored = λ position entry held cause e f.
              let k =
              subst (λ (s : State). StateKept w.size (stored w) p node.records s) f
              (kept p).state in leads-stored w.size (stored w) p node held cause refl
              (kept p) k.0 k.1;
          down = λ e up. leads-goes_down w.size (stored w) p node refl (kept p);
          up = λ image doubtful e f. leads-up_same w.size (stored w) p node refl (kept p);
          joined =
              λ image r e f. leads-up_joined w.size (stored w) p node refl (kept p) r
              (subst (λ (s : State). StateKept w.size (stored w) p node.records s) f
              (kept p).state);
        }

-- ---- what was sent

-- an event adds the packets of its reply to the packets ever sent
pub step-sends : (w : World) (event : Event)
    → (step w event).1.sent ≡ w.sent ++ packets_in (step w event).0
step-sends w event =
    step-cases (λ (o : Reply × World). o.1.sent ≡ w.sent ++ packets_in o.0) w event
    (λ _. sym (append-nil w.sent)) (λ _. refl)

step-truthful : (w : World) (event : Event) → NodesKept w → AllTruthful w
    → AllTruthful (step w event).1
step-truthful w event kept h =
    subst (λ (packets : List Carried).
    AllByRecursion (λ packet. truthful (step w event).1 packet ≡ true) packets)
    (sym (step-sends w event))
    (all_append _ w.sent (packets_in (step w event).0)
    (all_weaker (λ packet. truthful w packet ≡ true)
    (λ packet. truthful (step w event).1 packet ≡ true) w.sent (step-goes_on w event).truth h)
    (step-keeps w event kept).told)

run-keeps : (w : World) (events : List Event) → NodesKept w → NodesKept (run w events).1
unfolding run
run-keeps w [] kept = kept
run-keeps w (event ∷ events) kept =
    run-keeps (step w event).1 events (step-keeps w event kept).nodes

-- what was sent before a run and in it is truthful after it
pub run-truthful : (w : World) (events : List Event) → NodesKept w → AllTruthful w
    → AllTruthful (run w events).1
unfolding run
run-truthful w [] kept h = h
run-truthful w (event ∷ events) kept h =
    run-truthful (step w event).1 events (step-keeps w event kept).nodes
    (step-truthful w event kept h)

-- the packets in its replies are truthful too
pub run-tells : (w : World) (events : List Event) → NodesKept w
    → ToldTruth (run w events).1 (run w events).0
unfolding run
run-tells w [] kept = tt
run-tells w (event ∷ events) kept = (
  all_weaker (λ packet. truthful (step w event).1 packet ≡ true)
      (λ packet. truthful (run (step w event).1 events).1 packet ≡ true)
      (packets_in (step w event).0)
      (run-goes_on (step w event).1 (run (step w event).1 events).1 events
      (run (step w event).1 events).0 refl).truth (step-keeps w event kept).told,
  run-tells (step w event).1 events (step-keeps w event kept).nodes,
)

-- ---- the start

-- nodes that are opened from records that meet the rules meet the rules
pub opened-keeps : (size : Limits) (images : ℕ → List Entry) → AllKept size images
    → NodesKept (opened size images)
opened-keeps size images all p =
    record {
      kept = all p;
      state = tt;
      acks = own_acks-kept images p (images p) refl;
      broadcast =
          refl;
    }

-- ---- images that fit

nothing_left : {X : Type 0} (xs ys : List X) → xs ++ ys ≡ [] → (xs ≡ []) × (ys ≡ [])
nothing_left [] ys e = (refl, e)
nothing_left (x ∷ xs) ys e = cc

unbroken : (size : Limits) (images : ℕ → List Entry) (p : ℕ) (earlier : List Entry) (r : Entry)
    → broken size images p earlier r ≡ [] → Rules size images p earlier r
unbroken size images p earlier r e =
    let parts =
    go (keeps_a size earlier r) (keeps_b p earlier r) (keeps_c images p r)
    (keeps_d size.n images earlier r) e in
    record { a = parts.0; b = parts.1; c = parts.2; d = parts.3 }
  where
    go : (a b c d : Bool) → map {A = Rule} {B = Misfit}
        (λ rule. record { rule = rule; node = p; name = name_of r })
        (cond (not a) (A ∷ cond (not b)
        (B ∷ cond (not c) (C ∷ cond (not d) (D ∷ []) []) (cond (not d) (D ∷ []) []))
        (cond (not c) (C ∷ cond (not d) (D ∷ []) []) (cond (not d) (D ∷ []) [])))
        (cond (not b) (B ∷ cond (not c) (C ∷ cond (not d) (D ∷ []) []) (cond (not d) (D ∷ []) []))
        (cond (not c) (C ∷ cond (not d) (D ∷ []) []) (cond (not d) (D ∷ []) [])))) ≡ []
        → (a ≡ true) × (b ≡ true) × (c ≡ true) × (d ≡ true)
    go true true true true e = (refl, refl, refl, refl)
    go false b c d e = cc
    go true false c d e = cc
    go true true false d e = cc
    go true true true false e = cc

kept-behind : (size : Limits) (images : ℕ → List Entry) (p : ℕ) (earlier rs : List Entry)
    → misfits_behind size images p earlier rs ≡ [] → Kept size images p earlier rs
kept-behind size images p earlier [] e = tt
kept-behind size images p earlier (r ∷ rs) e =
    let parts =
    nothing_left (broken size images p earlier r)
    (misfits_behind size images p (earlier ++ r ∷ []) rs) e in (
      unbroken size images p earlier r parts.0,
      kept-behind size images p (earlier ++ r ∷ []) rs parts.1,
    )

each_node : (f : ℕ → List Misfit) (a k : ℕ) → flat_map f (numbers_from a k) ≡ [] → (p : ℕ) → a ≤ p
    → p < a + k → f p ≡ []
each_node f a zero e p h l = absurd (omega arith)
each_node f a (suc k) e p h l =
    let parts = nothing_left (f a) (flat_map f (numbers_from (suc a) k)) e in
    ⊎_elim (λ same. subst (λ (i : ℕ). f i ≡ []) same parts.0)
    (λ other. each_node f (suc a) k parts.1 p (omega arith) (omega arith)) (cases_eq a p)

-- nothing is after the last element
pub past_end : {A : Type 0} (xs : List A) (i : ℕ) (d : A) → length xs ≤ i
    → slice_index_or xs i d ≡ d
past_end [] i d h = refl
past_end (x ∷ xs) zero d h = absurd (omega arith)
past_end (x ∷ xs) (suc i) d h = past_end xs i d (omega arith)

-- the image of a node keeps the rules if all images fit
pub node-kept : (size : Limits) (images : ℕ → List Entry) → Fits size images → (p : ℕ) → 1 ≤ p
    → p < suc size.n → Kept size images p [] (images p)
node-kept size images fits p low high =
    kept-behind size images p [] (images p)
    (each_node (λ p. misfits_behind size images p [] (images p)) 1 size.n fits p low
    (omega (arith, high)))

-- images that fit together meet the rules
pub fitting-kept : (size : Limits) (images : List (List Entry)) → length images ≡ size.n
    → Fits size (image_of images) → AllKept size (image_of images)
fitting-kept size images e fits zero = tt
fitting-kept size images e fits (suc i) =
    ⊎_elim (λ l. node-kept size (image_of images) fits (suc i) (omega arith) (omega arith))
    (λ l. subst (λ (rs : List Entry). Kept size (image_of images) (suc i) [] rs)
    (sym (past_end images i [] (omega arith))) tt)
    (cases_lt i size.n)

-- ---- any run

-- the world of a new group keeps the rules and the limit on payloads
pub new-kept : (size : Limits) → IsKept (started size)
new-kept size = record {
  nodes = opened-keeps size (λ p. []) (λ q. tt);
  short =
      opened-short size (λ p. []) (λ p x m h. absurd (false≢true h));
}

-- the world that is opened from images that fit together keeps the rules and the limit on payloads
pub opened-kept : (size : Limits) (images : List (List Entry)) → AreImages size images
    → Fits size (image_of images) → IsKept (opened size (image_of images))
opened-kept size images are fits =
    record {
      nodes = opened-keeps size (image_of images) (fitting-kept size images are.one_each fits);
      short = opened-short size (image_of images) (images-short images are.limits);
    }

start-keeps : (w : World) → IsStart w → IsKept w × AllTruthful w
start-keeps w (Of_new size) = (new-kept size, tt)
start-keeps w (Of_images size images are fits) = (opened-kept size images are fits, tt)

-- a world that keeps the rules and the limit on payloads keeps them after any run
pub run-kept : (w : World) (events : List Event) → IsKept w → IsKept (run w events).1
run-kept w events kept = record
    { nodes = run-keeps w events kept.nodes; short = run-short w events kept.short }

-- every world of a run keeps the rules and the limit on payloads, and all packets ever sent are
-- truthful
pub reached-keeps : (w : World) → IsReached w → IsKept w × AllTruthful w
reached-keeps w r =
    let s = start-keeps r.start r.is_start in
    subst (λ (v : List Reply × World). IsKept v.1 × AllTruthful v.1) r.ran
    (run-kept r.start r.events s.0, run-truthful r.start r.events s.0.nodes s.1)

-- ---- records that keep the rules fit

keeps-rules : (size : Limits) (images : ℕ → List Entry) (p : ℕ) (earlier : List Entry) (r : Entry)
    → Rules size images p earlier r → broken size images p earlier r ≡ []
keeps-rules size images p earlier r h =
    go (keeps_a size earlier r) (keeps_b p earlier r) (keeps_c images p r)
    (keeps_d size.n images earlier r) h.a h.b h.c h.d
  where
    go : (a b c d : Bool) → a ≡ true → b ≡ true → c ≡ true → d ≡ true
        → map {A = Rule} {B = Misfit} (λ rule. record { rule = rule; node = p; name = name_of r })
        (cond (not a) (A ∷ cond (not b)
        (B ∷ cond (not c) (C ∷ cond (not d) (D ∷ []) []) (cond (not d) (D ∷ []) []))
        (cond (not c) (C ∷ cond (not d) (D ∷ []) []) (cond (not d) (D ∷ []) [])))
        (cond (not b) (B ∷ cond (not c) (C ∷ cond (not d) (D ∷ []) []) (cond (not d) (D ∷ []) []))
        (cond (not c) (C ∷ cond (not d) (D ∷ []) []) (cond (not d) (D ∷ []) [])))) ≡ []
    go true true true true a b c d = refl
    go false b c d h i j k = cc
    go true false c d h i j k = cc
    go true true false d h i j k = cc
    go true true true false h i j k = cc

kept-misfits : (size : Limits) (images : ℕ → List Entry) (p : ℕ) (earlier rs : List Entry)
    → Kept size images p earlier rs → misfits_behind size images p earlier rs ≡ []
kept-misfits size images p earlier [] h = refl
kept-misfits size images p earlier (r ∷ rs) h =
    ap₂ (λ xs ys. xs ++ ys) (keeps-rules size images p earlier r h.0)
    (kept-misfits size images p (earlier ++ r ∷ []) rs h.1)

no_misfits : (f : ℕ → List Misfit) → ((p : ℕ) → f p ≡ []) → (ps : List ℕ) → flat_map f ps ≡ []
no_misfits f h [] = refl
no_misfits f h (p ∷ ps) = ap₂ (λ xs ys. xs ++ ys) (h p) (no_misfits f h ps)

-- images that meet the rules fit together
pub kept-fits : (size : Limits) (images : ℕ → List Entry) → AllKept size images → Fits size images
kept-fits size images all =
    no_misfits (λ p. misfits_behind size images p [] (images p))
    (λ p. kept-misfits size images p [] (images p) (all p)) (nodes size.n)
