-- What the algorithm's worlds show is a service: each event is one of its steps, and a stop and a
-- start are its start.
use Rattle.urb_show.proofs.Common.{Arrive, Bool, Carried, Commit, Content, Crash, Does, Down, Err}
use Rattle.urb_show.proofs.Common.{Event, Fail, Join, Limits, List, NodesKept, Ok, Option, Ready}
use Rattle.urb_show.proofs.Common.{Refusal, Refused, Reply, Restart, Result, Resumes, Service}
use Rattle.urb_show.proofs.Common.{ShowsStep, Starts, Storing, Submit, Tick, World, [], all_kept}
use Rattle.urb_show.proofs.Common.{ap, ap₂, cond-true, doubt, eqb-true, false, false≢true, has_pair}
use Rattle.urb_show.proofs.Common.{inl, inr, is_node, is_none, listed, log, message_of, ne_eqb, own}
use Rattle.urb_show.proofs.Common.{pend, pend-append, refl, shown_node, step-size, stored}
use Rattle.urb_show.proofs.Common.{submit_answer, submits, subst, sym, to_sender, true, write_of, ℕ}
use Rattle.urb_show.proofs.Common.{◌++◌, ◌==◌, ◌∙◌, ◌∷◌, ◌≡◌}
use Rattle.std.proofs.Common.{append-nil}
use Rattle.urb_world.proofs.steps.ConfirmedPackets.{borne-pair}
use Rattle.urb_world.proofs.steps.DraftedRecords.{AllKept}
use Rattle.urb_world.proofs.steps.DraftsInSteps.{step-elsewhere}
use Rattle.urb_world.proofs.steps.Growth.{step-goes_on}
use Rattle.urb_world.proofs.steps.OneNodeStep.{updated-at}
use Rattle.urb_world.proofs.steps.Runs.{opened-keeps, step-keeps}
use Rattle.urb_world.proofs.steps.StepCases.{IsNoArrival, outcome_of, packet-cases, step-cases}
use Rattle.urb_world.proofs.steps.StepCases.{step-here, step-outcome}
use Rattle.urb_world.proofs.stops.StoppedWorlds.{left-kept, survives}
use Rattle.urb_world.specs.EventEffects.{event_node}
use Rattle.urb_world.specs.ProcessStops.{MayLeave}
use Rattle.urb_world.specs.RunInvariant.{IsKept, StateKept}
use Rattle.urb_world.specs.Step.{step, world_after}
use Rattle.urb_world.specs.World.{opened, truthful}
use Rattle.urb_names.proofs.FoundPairs.{no_pair, none_found, own-append}
use Rattle.urb_names.specs.ListPrefixes.{Begins}
use Rattle.urb_names.specs.declared.refusal.PacketFault.{PacketFault}
use Rattle.urb_node.specs.Part.{Node as Part, State as PartState}
use Rattle.urb_show.proofs.ServiceJoins.{logs-join}
use Rattle.urb_show.proofs.ServiceNodes.{Grown, InTurn, arrive-seen, commit-seen, crash-seen}
use Rattle.urb_show.proofs.ServiceNodes.{fail-seen, ready_with, restart-seen, submit-seen}
use Rattle.urb_show.proofs.ServiceNodes.{tick-seen}
use Rattle.urb_show.specs.ShownServices.{ShowsRun, act_of, shown}
use Rattle.urb_stable.proofs.Contents.{IsEither, contents-either}
use Rattle.urb_stable.specs.Entries.{Entry}
use Rattle.urb_show.specs.Service as seen

-- ---- one event

module _ (w : World) (inv : NodesKept w) where
  kept_after : (event : Event) → NodesKept (step w event).1
  kept_after event = (step-keeps w event inv).nodes

  -- the log of the event's node grows by names that join it
  log_grown : (event : Event) → Grown (shown (step w event).1) (w.node (event_node event))
      ((step w event).1.node (event_node event))
  log_grown event =
      let p = event_node event in
      let more = (step-goes_on w event).delivered p in (
        more.0,
        logs-join (step w event).1 (kept_after event) p (log (stored w p)) more.0 more.1,
        sym more.1,
      )

  in_turn : (p : ℕ) → InTurn p (w.node p).broadcast (w.node p).state
  in_turn p = at (w.node p).state (inv p).state
    where
      at : (t : PartState) → StateKept w.size (stored w) p (w.node p).records t
          → InTurn p (w.node p).broadcast t
      at Ready k = tt
      at (Storing held cause) k =
          subst (λ (ms : List Content). InTurn p ms (Storing held cause)) (sym (inv p).broadcast)
          k.0.b
      at (Down doubtful) k = tt

  -- what the event does to its node, if it isn't an arrival
  abbrev Here : Event → Type 0
  Here event =
      Does (shown (step w event).1) (act_of event (outcome_of w event).0)
      (shown_node (event_node event) (w.node (event_node event)))
      (shown_node (event_node event) (outcome_of w event).1)

  module _ (event : Event) (other : IsNoArrival event)
      (is : is_node w.size.n (event_node event) ≡ true) where
    happened : step w event ≡ world_after w (event_node event) (outcome_of w event)
    happened =
        step-outcome w event other ∙ cond-true (is_node w.size.n (event_node event)) _ _ is

    node_after : (step w event).1.node (event_node event) ≡ (outcome_of w event).1
    node_after =
        ap (λ (o : Reply × World). o.1.node (event_node event)) happened
        ∙ updated-at w.node (event_node event) (outcome_of w event).1

    grown : Grown (shown (step w event).1) (w.node (event_node event)) (outcome_of w event).1
    grown =
        subst (λ (n : Part). Grown (shown (step w event).1) (w.node (event_node event)) n)
        node_after (log_grown event)

    from_outcome : Here event → Does (shown (step w event).1) (act_of event (step w event).0)
        (shown_node (event_node event) (w.node (event_node event)))
        (shown_node (event_node event) ((step w event).1.node (event_node event)))
    from_outcome h =
        subst (λ (r : Reply). Does (shown (step w event).1) (act_of event r)
        (shown_node (event_node event) (w.node (event_node event)))
        (shown_node (event_node event) ((step w event).1.node (event_node event))))
        (sym (ap (λ (o : Reply × World). o.0) happened))
        (subst (λ (n : Part).
        Does (shown (step w event).1) (act_of event (outcome_of w event).0)
        (shown_node (event_node event) (w.node (event_node event)))
        (shown_node (event_node event) n)) (sym node_after) h)

  -- a pair that the node lacks isn't its own
  foreign : (p : ℕ) (packet : Carried) → truthful w packet ≡ true
      → is_none (message_of (pend (w.node p).records) packet.name) ≡ true
      → (packet.name.sender == p) ≡ false
  foreign p packet t none = at (packet.name.sender == p) refl
    where
      all : AllKept w.size (stored w)
      all = all_kept w inv

      at : (b : Bool) → (packet.name.sender == p) ≡ b → b ≡ false
      at false e = refl
      at true e =
          absurd (no_pair (pend (w.node p).records) packet.name packet.message (none_found _ none)
          (subst (λ (i : ℕ). has_pair (pend (stored w i)) packet.name packet.message ≡ true)
          (eqb-true packet.name.sender p e)
          (to_sender w.size (stored w) all packet.source packet.name packet.message
          (borne-pair (stored w packet.source) packet t))))

  -- what an arrival does to its node
  arrival : (s : Service) (p : ℕ) (bytes : Result Carried PacketFault)
      → Does s (write_of (step w (Arrive p bytes)).0) (shown_node p (w.node p))
      (shown_node p ((step w (Arrive p bytes)).1.node p))
  arrival s p bytes =
      step-here (λ (o : Reply × Part). Does s (write_of o.0) (shown_node p (w.node p))
      (shown_node p o.1)) w (Arrive p bytes) (λ _. refl) (at bytes)
    where
      at : (given : Result Carried PacketFault)
          → Does s (write_of (outcome_of w (Arrive p given)).0) (shown_node p (w.node p))
          (shown_node p (outcome_of w (Arrive p given)).1)
      at (Err fault) = refl
      at (Ok packet) =
          packet-cases (λ (o : Reply × Part). Does s (write_of o.0) (shown_node p (w.node p))
          (shown_node p o.1)) w p packet (λ _. refl)
          (λ ready t. arrive-seen s w.size p packet.source packet.name packet.message packet.flags
          (w.node p) ready (foreign p packet t))

  submitted : (p : ℕ) (m : Content) → Here (Submit p m)
  submitted p m =
      subst (λ (size : Limits). Does (shown (step w (Submit p m)).1)
      (seen.Submit m (submit_answer (submits size p m (w.node p)).0))
      (shown_node p (w.node p)) (shown_node p (submits size p m (w.node p)).1))
      (step-size w (Submit p m)) (submit-seen (shown (step w (Submit p m)).1) p m (w.node p))

  here : (event : Event) → is_node w.size.n (event_node event) ≡ true
      → Does (shown (step w event).1) (act_of event (step w event).0)
      (shown_node (event_node event) (w.node (event_node event)))
      (shown_node (event_node event) ((step w event).1.node (event_node event)))
  here (Submit p m) is = from_outcome (Submit p m) tt is (submitted p m)
  here (Arrive p bytes) is = arrival (shown (step w (Arrive p bytes)).1) p bytes
  here (Tick p) is =
      from_outcome (Tick p) tt is
      (tick-seen (shown (step w (Tick p)).1) w.size.n p (w.node p))
  here (Commit p position entry) is =
      from_outcome (Commit p position entry) tt is
      (commit-seen (shown (step w (Commit p position entry)).1) p w.size.n position entry
      (w.node p) (in_turn p) (grown (Commit p position entry) tt is))
  here (Fail p) is =
      from_outcome (Fail p) tt is (fail-seen (shown (step w (Fail p)).1) p (w.node p))
  here (Crash p) is =
      from_outcome (Crash p) tt is (crash-seen (shown (step w (Crash p)).1) p (w.node p))
  here (Restart p image) is =
      from_outcome (Restart p image) tt is
      (restart-seen (shown (step w (Restart p image)).1) p image (w.node p)
      (grown (Restart p image) tt is))

  -- from a world that meets the rules, each event at a node of the group is a step of the service
  -- that a user sees, with the same answer
  pub step-shown : (event : Event) → is_node w.size.n (event_node event) ≡ true
      → ShowsStep w event
  step-shown event is =
      record {
        size = step-size w event;
        here = here event is;
        others = λ q apart.
            ap (shown_node q) (step-elsewhere w event q (ne_eqb q (event_node event) apart));
      }

-- an event at no node of the group is refused and changes nothing
elsewhere : (w : World) (event : Event) → is_node w.size.n (event_node event) ≡ false
    → ((why : Refusal) × ((step w event).0 ≡ Refused why)) × ((step w event).1 ≡ w)
elsewhere w event none =
    step-cases (λ (o : Reply × World). ((why : Refusal) × (o.0 ≡ Refused why)) × (o.1 ≡ w)) w event
    (λ why. ((why, refl), refl)) (λ is. absurd (false≢true (sym none ∙ is)))

-- from a world that meets the rules, a user sees each run as steps of the service, with the same
-- answers
pub run-shown : (w : World) (events : List Event) → NodesKept w → ShowsRun w events
run-shown w [] inv = tt
run-shown w (event ∷ events) inv = (
  record { at_node = step-shown w inv event; at_none = elsewhere w event },
  run-shown (step w event).1 events (step-keeps w event inv).nodes,
)

-- ---- a stop and a start

-- from a world that keeps the rules and the limits, a user sees a stop and a start of the service
pub start-shown : (w : World) → IsKept w → (images : ℕ → List Entry)
    → ((p : ℕ) → MayLeave (w.node p) (images p)) → Starts (shown w) (shown (opened w.size images))
start-shown w kept images left = (refl, nodes)
  where
    all : AllKept w.size images
    all = left-kept w kept.nodes images left

    nodes : (p : ℕ) → Resumes (shown (opened w.size images)) (shown_node p (w.node p))
        (shown_node p ((opened w.size images).node p))
    nodes p = at (contents-either (stored w p) (doubt (w.node p).state) (images p) (left p))
      where
        broadcast : own p (pend (stored w p)) ≡ (w.node p).broadcast
        broadcast = sym (kept.nodes p).broadcast

        more : Begins (log (stored w p)) (log (images p))
        more = (survives w kept images left).delivered p

        join : Join (shown (opened w.size images)) (log (stored w p)) more.0
        join =
            logs-join (opened w.size images) (opened-keeps w.size images all) p
            (log (stored w p)) more.0 more.1

        at : IsEither (stored w p) (doubt (w.node p).state) (images p)
            → Resumes (shown (opened w.size images)) (shown_node p (w.node p))
            (shown_node p ((opened w.size images).node p))
        at (inl e) =
            inl (
              more.0,
              join,
              ap₂ ready_with (ap (λ rs. own p (pend rs)) e
                  ∙ (broadcast ∙ sym (append-nil (w.node p).broadcast))) (sym more.1),
            )
        at (inr e) =
            inr (
              more.0,
              join,
              ap₂ ready_with (ap (λ rs. own p (pend rs)) e.2
                  ∙ (ap (own p) (pend-append (stored w p) (e.0 ∷ []))
                  ∙ (own-append p (pend (stored w p)) (pend (e.0 ∷ []))
                  ∙ ap₂ (λ (ms os : List Content). ms ++ os) broadcast
                  (ap (λ (o : Option Entry). own p (pend (listed o))) (sym e.1)))))
                  (sym more.1),
            )
