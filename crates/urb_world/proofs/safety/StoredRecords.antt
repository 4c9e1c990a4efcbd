-- Which events store a record, and how much of a log a stored record releases.
use Rattle.urb_world.proofs.Common.{Commit, Done, Down, Entry, Event, Node, Ready, Refused, Reply}
use Rattle.urb_world.proofs.Common.{State, Stored, Storing, World, [], ap, arith, commits}
use Rattle.urb_world.proofs.Common.{cond_both, done, is_node, keeps_record, length, log}
use Rattle.urb_world.proofs.Common.{next_position, refl, same_record, step, subst, sym, world_after}
use Rattle.urb_world.proofs.Common.{ℕ, ◌&&◌, ◌++◌, ◌+◌, ◌==◌, ◌∷◌, ◌≡◌}
use Rattle.std.proofs.Common.{length-append}
use Rattle.urb_world.proofs.steps.ArrivalCases.{arrive-cases}
use Rattle.urb_world.proofs.steps.Growth.{log-begins}
use Rattle.urb_world.proofs.steps.OneNodeStep.{updated-at}
use Rattle.urb_world.specs.EventEffects.{StoresNothing, event_node}
use Rattle.urb_world.specs.World.{stored}
use Rattle.urb_world.proofs.steps.StepCases.{OutcomeCases, node_of, outcome-cases, step-nodes}
use Rattle.urb_names.specs.declared.refusal.Refusal.TheVariants as refusal

-- ---- events that store nothing

-- the node has the same records as before
abbrev Stays : Node → Reply × Node → Type 0
Stays node outcome = outcome.1.records ≡ node.records

-- an event that stores no record changes no node's records
pub step-stored : (w : World) (event : Event) → StoresNothing event → (q : ℕ)
    → stored (step w event).1 q ≡ stored w q
step-stored w event quiet =
    step-nodes (λ q n. n.records ≡ stored w q) w event (λ q. refl)
    (outcome-cases (Stays node) w event cases)
  where
    node : Node
    node = node_of w event

    cases : OutcomeCases (Stays node) w event
    cases =
        record {
          refused = λ r. refl;
          again = λ x ready. refl;
          alone = λ m new one. refl;
          among = λ m new one. refl;
          arrived = λ packet e ready t.
              arrive-cases (Stays node) w.size
              (event_node event) packet.source packet.name packet.message packet.flags node
              (λ cause. refl) (λ cause. refl) (λ acks heard cause. refl)
              (λ acks heard told. refl);
          ticked = λ e ready. refl;
          stored = λ position entry held cause e f. absurd (subst StoresNothing e quiet);
          down = λ e up. refl;
          up = λ image doubtful e f. refl;
          joined = λ image r e f. absurd (subst StoresNothing e quiet);
        }

-- ---- a stored record

module _ (told : Done) where
  -- if a record was stored, the log grew by the number released
  abbrev Releases : Node → Reply × Node → Type 0
  Releases node outcome =
      outcome.0 ≡ Stored told → length (log outcome.1.records) ≡ length
      (log node.records) + told.released

  commits-release : (n p position : ℕ) (entry : Entry) (node : Node) (s : State)
      → Releases node (commits n p position entry node s)
  commits-release n p position entry node Ready = λ h. cc
  commits-release n p position entry node (Down doubtful) = λ h. cc
  commits-release n p position entry node (Storing held cause) =
      cond_both ((position == next_position node) && same_record entry held)
      (Stored (done n p held cause node), keeps_record p held cause node)
      (Refused refusal.Stale, node) (Releases node)
      (λ _ h. when_stored h) (λ _ h. cc)
    where
      when_stored : Stored (done n p held cause node) ≡ Stored told
          → length (log (node.records ++ held ∷ [])) ≡ length (log node.records) + told.released
      when_stored h =
          let same : done n p held cause node ≡ told = cc in
          let released = ap (λ (d : Done). d.released) same in
          let grown = log-begins node.records (node.records ++ held ∷ []) (held ∷ [], refl) in
          let longer = ap length grown.1 in
          omega (arith, released, longer, length-append (log node.records) grown.0)

  -- a stored record adds exactly as many names to its node's log as the reply says
  pub commit-released : (w : World) (p position : ℕ) (entry : Entry)
      → (step w (Commit p position entry)).0 ≡ Stored told
      → length (log (stored (step w (Commit p position entry)).1 p)) ≡ length
      (log (stored w p)) + told.released
  unfolding step
  commit-released w p position entry =
      cond_both (is_node w.size.n p)
      (world_after w p (commits w.size.n p position entry (w.node p) (w.node p).state))
      (Refused refusal.BadNode, w)
      (λ o. o.0 ≡ Stored told → length (log (stored o.1 p)) ≡ length
      (log (stored w p)) + told.released)
      (λ _ h. subst (λ (n : Node). length (log n.records) ≡ length
      (log (stored w p)) + told.released)
      (sym (updated-at w.node p (commits w.size.n p position entry (w.node p)
      (w.node p).state).1))
      (commits-release w.size.n p position entry (w.node p) (w.node p).state h))
      (λ _ h. cc)
