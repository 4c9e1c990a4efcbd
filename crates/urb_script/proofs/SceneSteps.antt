-- What each event leaves of the stores' agreement with a scene.
use Rattle.urb_script.proofs.Common.{Bool, Cause, Commit, Content, Down, Entry, Event, IsContents}
use Rattle.urb_script.proofs.Common.{IsHeldBy, List, Memory, Node, None, Option, Reply, Some, State}
use Rattle.urb_script.proofs.Common.{World, [], ap, arith, cond_both, doubt, eqb-true, event_node}
use Rattle.urb_script.proofs.Common.{false, false≢true, inl, inr, is_down, keeps_record, length}
use Rattle.urb_script.proofs.Common.{length-append, log, not, pend, refl, restarts_with, step}
use Rattle.urb_script.proofs.Common.{subst, sym, true, with_doubt, ℕ, ◌&&◌, ◌++◌, ◌==◌, ◌∙◌, ◌∷◌}
use Rattle.urb_script.proofs.Common.{◌≡◌, ◌⊎◌}
use Rattle.urb_stable.specs.Records.{cert}
use Rattle.urb_node.specs.Steps.{broadcast_after, comes_up, same_list, same_names, same_pairs, says}
use Rattle.urb_node.specs.Steps.{takes}
use Rattle.urb_world.specs.Step.{Arrive, Crash, Fail, Restart, Submit, Tick}
use Rattle.urb_world.proofs.steps.StepCases.{OutcomeCases, node_of, outcome-cases, step-nodes}
use Rattle.urb_world.proofs.steps.ArrivalCases.{arrive-cases}

-- ---- events that leave storage as it is

-- the node stays, or it was up and has the same records
abbrev Quiet : Node → Node → Type 0
Quiet old new = (new ≡ old) ⊎ ((is_down old.state ≡ false) × (new.records ≡ old.records))

abbrev Leaves : Node → Reply × Node → Type 0
Leaves old outcome = Quiet old outcome.1

certain_contents : (records storage : List Entry) (d : Option Entry) → storage ≡ records
    → IsContents records d storage
certain_contents records storage None e = e
certain_contents records storage (Some entry) e = inl e

up_storage : (node : Node) (storage : List Entry) (m : Memory) → IsHeldBy node storage m
    → is_down node.state ≡ false → storage ≡ node.records
up_storage node storage m h up =
    h.holds ∙ ap (λ (d : Option Entry). with_doubt m.certain d) (h.certain up).1 ∙ (h.certain up).0

-- a store that holds what it should still does after a quiet change of its node
pub quiet_held : (old new : Node) (storage : List Entry) (m : Memory) → Quiet old new
    → IsHeldBy old storage m → IsHeldBy new storage m
quiet_held old new storage m (inl e) h = subst (λ (node : Node). IsHeldBy node storage m) (sym e) h
quiet_held old new storage m (inr q) h = record {
  holds = h.holds;
  contents =
      certain_contents new.records storage (doubt new.state)
      (up_storage old storage m h q.0 ∙ sym q.1);
  certain = λ up. ((h.certain q.0).0 ∙ sym q.1, (h.certain q.0).1);
}

-- an event that leaves all storage as it is
abbrev pub IsQuiet : Event → Type 0
IsQuiet (Submit p m) = Unit {0}
IsQuiet (Arrive p bytes) = Unit {0}
IsQuiet (Tick p) = Unit {0}
IsQuiet (Commit p position entry) = ⊥
IsQuiet (Fail p) = Unit {0}
IsQuiet (Crash p) = Unit {0}
IsQuiet (Restart p image) = ⊥

step-quiet : (w : World) (e : Event) (q : ℕ) → IsQuiet e → Quiet (w.node q) ((step w e).1.node q)
step-quiet w e q i =
    step-nodes (λ q n. Quiet (w.node q) n) w e (λ q. inl refl)
    (outcome-cases (Leaves node) w e cases) q
  where
    node : Node
    node = node_of w e

    cases : OutcomeCases (Leaves node) w e
    cases =
        record {
          refused = λ r. inl refl;
          again = λ x ready. inl refl;
          alone = λ m new one. inr (ap is_down new.ready, refl);
          among = λ m new one. inr (ap is_down new.ready, refl);
          arrived = λ packet f ready t.
              arrive-cases (Leaves node) w.size
              (event_node e) packet.source packet.name packet.message packet.flags node
              (λ cause. inr (ap is_down ready, refl)) (λ cause. inr (ap is_down ready, refl))
              (λ acks heard cause. inr (ap is_down ready, refl))
              (λ acks heard told. inr (ap is_down ready, refl));
          ticked = λ f ready. inr (ap is_down ready, refl);
          stored = λ position entry held cause f g. absurd (subst IsQuiet f i);
          down = λ f up. inr (up, refl);
          up = λ image doubtful f g. absurd (subst IsQuiet f i);
          joined = λ image r f g. absurd (subst IsQuiet f i);
        }

-- after an event that leaves storage as it is, each store still holds what it should
pub quiet_step : (w : World) (e : Event) (q : ℕ) (storage : List Entry) (m : Memory) → IsQuiet e
    → IsHeldBy (w.node q) storage m → IsHeldBy ((step w e).1.node q) storage m
quiet_step w e q storage m i h =
    quiet_held (w.node q) ((step w e).1.node q) storage m (step-quiet w e q i) h

-- ---- a store that takes or loses the held record

-- a store that took its node's record holds the storage with this record
pub stored_held : (p : ℕ) (entry : Entry) (cause : Option Cause) (node : Node)
    (storage : List Entry) (before after : Memory) → is_down node.state ≡ false
    → IsHeldBy node storage before
    → after.certain ≡ before.certain ++ entry ∷ [] → after.doubt ≡ None
    → IsHeldBy (keeps_record p entry cause node) (storage ++ entry ∷ []) after
stored_held p entry cause node storage before after up h takes clear =
    let same : storage ≡ node.records = up_storage node storage before h up in
    let joined : after.certain ≡ node.records ++ entry ∷ [] =
    takes ∙ ap (λ (rs : List Entry). rs ++ entry ∷ []) (h.certain up).0 in
    record {
      holds =
          ap (λ (rs : List Entry). rs ++ entry ∷ []) same
          ∙ sym (ap (λ (d : Option Entry). with_doubt after.certain d) clear ∙ joined);
      contents = ap (λ (rs : List Entry). rs ++ entry ∷ []) same;
      certain = λ _. (joined, clear);
    }

-- a store that lost its node's record still holds the storage, and the node went down
pub lost_held : (node new : Node) (storage : List Entry) (before after : Memory)
    → is_down node.state ≡ false → new.records ≡ node.records → is_down new.state ≡ true
    → IsHeldBy node storage before
    → after.certain ≡ before.certain → after.doubt ≡ None → IsHeldBy new storage after
lost_held node new storage before after up records down h certain clear = record {
  holds =
      up_storage node storage before h up ∙ sym ((h.certain up).0)
      ∙ sym (ap (λ (d : Option Entry). with_doubt after.certain d) clear ∙ certain);
  contents =
      certain_contents new.records storage (doubt new.state)
      (up_storage node storage before h up ∙ sym records);
  certain = λ not. absurd (false≢true (sym not ∙ down));
}

-- a store that kept a record in doubt holds the storage with this record, and the node went down
pub kept_held : (entry : Entry) (node new : Node) (storage : List Entry) (before after : Memory)
    → is_down node.state ≡ false → new.records ≡ node.records → is_down new.state ≡ true
    → doubt new.state ≡ Some entry
    → IsHeldBy node storage before → after.certain ≡ before.certain → after.doubt ≡ Some entry
    → IsHeldBy new (storage ++ entry ∷ []) after
kept_held entry node new storage before after up records down doubtful h certain left =
    let same : storage ≡ node.records = up_storage node storage before h up in
    let joined : storage ++ entry ∷ [] ≡ new.records ++ entry ∷ [] =
    ap (λ (rs : List Entry). rs ++ entry ∷ []) (same ∙ sym records) in
    record {
      holds =
          ap (λ (rs : List Entry). rs ++ entry ∷ []) (same ∙ sym (h.certain up).0 ∙ sym certain)
          ∙ sym (ap (λ (d : Option Entry). with_doubt after.certain d) left);
      contents =
          subst (λ (d : Option Entry). IsContents new.records d (storage ++ entry ∷ []))
          (sym doubtful) (inr joined);
      certain = λ not. absurd (false≢true (sym not ∙ down));
    }

-- ---- a restart with what the storage holds

and-last : (a b c d : Bool) → (a && (b && (c && d))) ≡ true → d ≡ true
and-last true true true d e = e
and-last true true false d e = absurd (false≢true e)
and-last true false c d e = absurd (false≢true e)
and-last false b c d e = absurd (false≢true e)

says-length : (image records : List Entry) → says image records ≡ true
    → length image ≡ length records
says-length image records e =
    eqb-true (length image) (length records)
    (and-last (same_pairs (pend image) (pend records)) (same_names (cert image) (cert records))
    (same_list (log image) (log records)) (length image == length records) e)

longer : (records : List Entry) (entry : Entry) → length records ≡ length (records ++ entry ∷ [])
    → ⊥
longer records entry e = omega (arith, e, length-append records (entry ∷ []))

up_held : (p : ℕ) (records image : List Entry) (messages : List Content) (after : Memory)
    → image ≡ records → after.certain ≡ image → after.doubt ≡ None
    → IsHeldBy (comes_up p records messages).1 image after
up_held p records image messages after same certain clear = record {
  holds = sym (ap (λ (d : Option Entry). with_doubt after.certain d) clear ∙ certain);
  contents = same;
  certain = λ _. (certain ∙ same, clear);
}

read_held : (node : Node) (image : List Entry) (after : Memory) → is_down node.state ≡ true
    → IsContents node.records (doubt node.state) image → after.certain ≡ image → after.doubt ≡ None
    → IsHeldBy node image after
read_held node image after down contents certain clear = record {
  holds = sym (ap (λ (d : Option Entry). with_doubt after.certain d) clear ∙ certain);
  contents = contents;
  certain = λ not. absurd (false≢true (sym not ∙ down));
}

-- a store that gave all of its storage holds what it should after the restart with it
pub restart_with : (p : ℕ) (image : List Entry) (node : Node) (d : Option Entry) (after : Memory)
    → node.state ≡ Down d → IsContents node.records d image → after.certain ≡ image
    → after.doubt ≡ None
    → IsHeldBy (restarts_with p image node d).1 image after
restart_with p image node None after state contents certain clear =
    cond_both (says image node.records) _ _ (λ (o : Reply × Node). IsHeldBy o.1 image after)
    (λ _. up_held p node.records image node.broadcast after contents certain clear)
    (λ _. read_held node image after (ap is_down state)
    (subst (λ (s : State). IsContents node.records (doubt s) image) (sym state) contents)
    certain clear)
restart_with p image node (Some entry) after state (inl same) certain clear =
    cond_both (says image node.records) _ _ (λ (o : Reply × Node). IsHeldBy o.1 image after)
    (λ _. up_held p node.records image node.broadcast after same certain clear)
    (λ _. cond_both (says image (node.records ++ entry ∷ [])) _ _
    (λ (o : Reply × Node). IsHeldBy o.1 image after)
    (λ is. absurd (longer node.records entry
    (sym (ap (λ (rs : List Entry). length rs) same)
    ∙ says-length image (node.records ++ entry ∷ []) is)))
    (λ _. read_held node image after (ap is_down state)
    (subst (λ (s : State). IsContents node.records (doubt s) image) (sym state) (inl same))
    certain clear))
restart_with p image node (Some entry) after state (inr same) certain clear =
    cond_both (says image node.records) _ _ (λ (o : Reply × Node). IsHeldBy o.1 image after)
    (λ is. absurd (longer node.records entry
    (sym (says-length image node.records is) ∙ ap (λ (rs : List Entry). length rs) same)))
    (λ _. cond_both (says image (node.records ++ entry ∷ [])) _ _
    (λ (o : Reply × Node). IsHeldBy o.1 image after)
    (λ _. up_held p (node.records ++ entry ∷ []) image
    (broadcast_after p entry node.broadcast) after same certain clear)
    (λ _. read_held node image after (ap is_down state)
    (subst (λ (s : State). IsContents node.records (doubt s) image) (sym state) (inr same))
    certain clear))
