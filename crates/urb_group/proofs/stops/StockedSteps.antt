-- Events that add no record to a node's list: what a stop may leave of the node stays, or grows by
-- a held record.
use Rattle.urb_group.proofs.Common.{Commit, Entry, Event, Ghosts, IsContents, IsStoreOf, LeavesOf}
use Rattle.urb_group.proofs.Common.{List, MayLeave, Node, None, Option, Ready, Restart, Some, World}
use Rattle.urb_group.proofs.Common.{ap, doubt, false, inl, inr, is_down, refl, subst, sym, ℕ}
use Rattle.urb_group.proofs.Common.{⊎_elim, ◌∙◌, ◌≡◌, ◌⊎◌}
use Rattle.urb_world.proofs.steps.ArrivalCases.{arrive-cases}
use Rattle.urb_world.proofs.steps.StepCases.{OutcomeCases, node_of, outcome-cases, step-nodes}
use Rattle.urb_world.specs.EventEffects.{event_node}
use Rattle.urb_world.specs.Step.{step}
use Rattle.urb_node.specs.Replies.{Reply}

-- The node has the same records. If anything was held or in doubt, it still is. The node isn't up
-- if it was down.
pub record Stays (old new : Node) : Type 0 where
  -- the stored records stay
  pub records : new.records ≡ old.records
  -- the record in doubt stays, unless there was none
  pub doubt : (doubt old.state ≡ None) ⊎ (doubt new.state ≡ doubt old.state)
  -- a node that is up afterwards was up before
  pub up : is_down new.state ≡ false → is_down old.state ≡ false

abbrev Leaves : Node → Reply × Node → Type 0
Leaves node outcome = Stays node outcome.1

same : (node : Node) → Stays node node
same node = record { records = refl; doubt = inr refl; up = λ e. e }

-- this event adds no record to a list
abbrev pub IsQuiet : Event → Type 0
IsQuiet (Commit p position entry) = ⊥
IsQuiet (Restart p image) = ⊥
IsQuiet event = Unit {0}

-- an event other than a receipt or a restart stores no record and brings no node up
pub quiet-stays : (w : World) (event : Event) → IsQuiet event → (q : ℕ)
    → Stays (w.node q) ((step w event).1.node q)
quiet-stays w event quiet =
    step-nodes (λ q n. Stays (w.node q) n) w event (λ q. same (w.node q))
    (outcome-cases (Leaves node) w event cases)
  where
    node : Node
    node = node_of w event

    -- the node was ready, and its records are the same
    from_ready : (new : Node) → node.state ≡ Ready → new.records ≡ node.records → Stays node new
    from_ready new ready e =
        record { records = e; doubt = inl (ap doubt ready); up = λ _. ap is_down ready }

    cases : OutcomeCases (Leaves node) w event
    cases =
        record {
          refused = λ r. same node;
          again = λ x ready. same node;
          alone = λ m new one. from_ready _ new.ready refl;
          among = λ m new one. from_ready _ new.ready refl;
          arrived = λ packet e ready t.
              arrive-cases (Leaves node) w.size
              (event_node event) packet.source packet.name packet.message packet.flags node
              (λ cause. from_ready _ ready refl) (λ cause. from_ready _ ready refl)
              (λ acks heard cause. from_ready _ ready refl)
              (λ acks heard told. from_ready _ ready refl);
          ticked = λ e ready. from_ready _ ready refl;
          stored = λ position entry held cause e f. absurd (subst IsQuiet e quiet);
          down = λ e up. record { records = refl; doubt = inr refl; up = λ _. up };
          up = λ image doubtful e f. absurd (subst IsQuiet e quiet);
          joined = λ image r e f. absurd (subst IsQuiet e quiet);
        }

-- ---- the store of a node that stays

leaves-more : (old new : Node) → Stays old new → (records : List Entry) → MayLeave old records
    → MayLeave new records
leaves-more old new s records may =
    ⊎_elim (λ none. grown (doubt new.state)
    (subst (λ (o : Option Entry). IsContents old.records o records) none may))
    (λ e. subst (λ (o : Option Entry). IsContents new.records o records) (sym e)
    (subst (λ (rs : List Entry). IsContents rs (doubt old.state) records) (sym s.records) may))
    s.doubt
  where
    grown : (o : Option Entry) → IsContents old.records None records
        → IsContents new.records o records
    grown None e = e ∙ sym s.records
    grown (Some r) e = inl (e ∙ sym s.records)

-- if a stop leaves in the store what it may leave of the node, this stays so
pub leaves-stay : {S A : Type 0} (g : Ghosts S A) (old new : Node) (store : S) → Stays old new
    → LeavesOf g old store → LeavesOf g new store
leaves-stay g old new store s l =
    record {
      certain = l.certain;
      doubtful = l.doubtful;
      only = l.only;
      may =
          λ records c. leaves-more old new s records (l.may records c);
    }

-- a store that belongs to the node before belongs to it afterwards
pub store-stays : {S A : Type 0} (g : Ghosts S A) (old new : Node) (store : S) → Stays old new
    → IsStoreOf g old store → IsStoreOf g new store
store-stays g old new store s h =
    record {
      contents = λ honest records c. leaves-more old new s records (h.contents honest records c);
      left = λ honest. leaves-stay g old new store s (h.left honest);
      up = λ honest e. (let was = h.up honest (s.up e) in (was.0 ∙ sym s.records, was.1));
      sure = λ e. h.sure (s.up e);
    }
