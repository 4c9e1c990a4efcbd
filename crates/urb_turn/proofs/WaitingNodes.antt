-- A node to which nothing happened except a crash; and what an event says about a node that holds a
-- draft or is down.
use Rattle.urb_turn.proofs.Common.{AreElsewhere, Arrive, Bool, Commit, Crash, Done, Down, Entry}
use Rattle.urb_turn.proofs.Common.{Event, Fail, GroupView, HasRested, HouseView, IsLedTo, Limits}
use Rattle.urb_turn.proofs.Common.{List, Node, Option, Placed, Refused, Restart, Shows, Some, Stays}
use Rattle.urb_turn.proofs.Common.{Stored, Submit, Tick, WentDown, World, [], after, after-append}
use Rattle.urb_turn.proofs.Common.{ap, cond-false, doubt, eq-eqb, eqb-true, event_node, false}
use Rattle.urb_turn.proofs.Common.{false≢true, goes_down, inl, inr, is_down, is_node, is_own}
use Rattle.urb_turn.proofs.Common.{length, quiet-stays, refl, refuses, run, step, step-size, subst}
use Rattle.urb_turn.proofs.Common.{suc, sym, true, world_after, ℕ, ⊎_elim, ◌&&◌, ◌==◌, ◌∙◌, ◌∷◌}
use Rattle.urb_turn.proofs.Common.{◌≡◌, ◌⊎◌}
use Rattle.std.proofs.lemmas.Bool.{and_from, cond-true, cond_both}
use Rattle.urb_stable.proofs.KeptRules.{Grows}
use Rattle.urb_world.proofs.steps.DraftsInSteps.{step-elsewhere}
use Rattle.urb_world.proofs.steps.Growth.{pair-begins, step-goes_on}
use Rattle.urb_world.proofs.steps.OneNodeStep.{updated-at}
use Rattle.urb_world.specs.Step.{at_node}
use Rattle.urb_world.specs.World.{stored}
use Rattle.urb_node.proofs.RestartReplies.{same_record-same}
use Rattle.urb_node.specs.Part.{State, Storing}
use Rattle.urb_node.specs.Replies.{Reply}
use Rattle.urb_node.specs.Steps.{commits, crashes, done, fails, keeps_record, next_position}
use Rattle.urb_node.specs.Steps.{same_record}
use Rattle.urb_node.specs.declared.cause.Cause.{Cause}
use Rattle.urb_world.proofs.stops.StockedNodes.{node-after}
use Rattle.urb_names.specs.declared.refusal.Refusal.TheVariants as refusal

-- ---- what one event says about its node

reply-at : (w : World) (p : ℕ) (outcome : Reply × Node) → is_node w.size.n p ≡ true
    → (at_node w p outcome).0 ≡ outcome.0
reply-at w p outcome there =
    ap (λ (o : Reply × World). o.0)
    (cond-true (is_node w.size.n p) (world_after w p outcome) (Refused refusal.BadNode, w) there)

-- node n of this world holds this draft
pub record HoldsAt (w : World) (n : ℕ) (draft : Placed) : Type 0 where
  pub cause : Option Cause
  pub there : is_node w.size.n n ≡ true
  pub storing : (w.node n).state ≡ Storing draft.entry cause
  pub position : draft.pos ≡ suc (length (w.node n).records)

-- the node takes the draft's receipt
pub held-commits : (w : World) (n : ℕ) (draft : Placed) → HoldsAt w n draft
    → (told : Done) × ((step w (Commit n draft.pos draft.entry)).0 ≡ Stored told)
unfolding step
held-commits w n draft h = (
  done w.size.n n draft.entry h.cause (w.node n),
  reply-at w n (commits w.size.n n draft.pos draft.entry (w.node n) (w.node n).state) h.there
      ∙ (ap (λ (s : State). (commits w.size.n n draft.pos draft.entry (w.node n) s).0) h.storing
      ∙ ap (λ (o : Reply × Node). o.0)
      (cond-true ((draft.pos == next_position (w.node n)) && same_record draft.entry draft.entry) (
        Stored (done w.size.n n draft.entry h.cause (w.node n)),
        keeps_record n draft.entry h.cause (w.node n),
      ) (refuses (w.node n) refusal.Stale)
      (and_from (draft.pos == next_position (w.node n)) _
      (eq-eqb draft.pos (next_position (w.node n)) h.position)
      (same_record-same draft.entry)))),
)

-- the draft's failure takes the node down
pub held-fails : (w : World) (n : ℕ) (draft : Placed) → HoldsAt w n draft
    → (step w (Fail n)).0 ≡ WentDown n
unfolding step
held-fails w n draft h =
    reply-at w n (fails n (w.node n) (w.node n).state) h.there
    ∙ ap (λ (s : State). (fails n (w.node n) s).0) h.storing

-- a node that is down takes no receipt and no failure
pub down-commits : (w : World) (n : ℕ) (draft : Placed) (o : Option Entry)
    → is_node w.size.n n ≡ true → (w.node n).state ≡ Down o
    → (step w (Commit n draft.pos draft.entry)).0 ≡ Refused refusal.Down
unfolding step
down-commits w n draft o there down =
    reply-at w n (commits w.size.n n draft.pos draft.entry (w.node n) (w.node n).state) there
    ∙ ap (λ (s : State). (commits w.size.n n draft.pos draft.entry (w.node n) s).0) down

-- a node that is down refuses a failure as down
pub down-fails : (w : World) (n : ℕ) (o : Option Entry) → is_node w.size.n n ≡ true
    → (w.node n).state ≡ Down o → (step w (Fail n)).0 ≡ Refused refusal.Down
unfolding step
down-fails w n o there down =
    reply-at w n (fails n (w.node n) (w.node n).state) there
    ∙ ap (λ (s : State). (fails n (w.node n) s).0) down

-- ---- a crash

-- a crash of a node that holds a draft
pub record FellWith (old new : Node) (draft : Placed) : Type 0 where
  pub records : new.records ≡ old.records
  pub down : new.state ≡ Down (Some draft.entry)

-- a node that holds a draft, and crashes, goes down with the draft in doubt
pub crash-held : (w : World) (n : ℕ) (draft : Placed) → HoldsAt w n draft
    → FellWith (w.node n) ((step w (Crash n)).1.node n) draft
unfolding step
crash-held w n draft h =
    record {
      records = ap (λ (node : Node). node.records) is;
      down = ap (λ (node : Node). node.state) is ∙ ap (λ (s : State). Down (doubt s)) h.storing;
    }
  where
    is : (at_node w n (crashes n (w.node n))).1.node n ≡ (goes_down n (w.node n)).1
    is =
        node-after w n (crashes n (w.node n)) h.there
        ∙ ap (λ (o : Reply × Node). o.1)
        (cond-false (is_down (w.node n).state) (refuses (w.node n) refusal.Down)
        (goes_down n (w.node n)) (ap is_down h.storing))

-- a crash of a node that is down
pub crash-down : (w : World) (n : ℕ) → is_down (w.node n).state ≡ true
    → (step w (Crash n)).1.node n ≡ w.node n
unfolding step
crash-down w n down =
    cond_both (is_node w.size.n n) (world_after w n (crashes n (w.node n)))
    (Refused refusal.BadNode, w) (λ (o : Reply × World). o.1.node n ≡ w.node n)
    (λ there. updated-at w.node n (crashes n (w.node n)).1
    ∙ ap (λ (o : Reply × Node). o.1)
    (cond-true (is_down (w.node n).state) (refuses (w.node n) refusal.Down)
    (goes_down n (w.node n)) down))
    (λ _. refl)

-- ---- a node that waited

-- each node keeps the pairs that it has stored
pub step-grows : (w : World) (event : Event) → Grows (stored w) (stored (step w event).1)
step-grows w event q x m h =
    pair-begins (stored w q) (stored (step w event).1 q) ((step-goes_on w event).records q) x m h

-- From one world to the next nothing happened to node n, except that it may have crashed. Other
-- nodes may have stored more.
pub record Waited (n : ℕ) (w v : World) : Type 0 where
  pub size : v.size ≡ w.size
  pub grows : Grows (stored w) (stored v)
  pub node : (v.node n ≡ w.node n) ⊎ (v.node n ≡ (step w (Crash n)).1.node n)

-- a node stays as it is
pub unchanged : (node : Node) → Stays node node
unchanged node = record { records = refl; doubt = inr refl; up = λ e. e }

-- a node that waited has the same records, and is up only if it was
pub waited-stays : (n : ℕ) (w v : World) → Waited n w v → Stays (w.node n) (v.node n)
waited-stays n w v h =
    ⊎_elim (λ e. subst (λ (node : Node). Stays (w.node n) node) (sym e) (unchanged (w.node n)))
    (λ e. subst (λ (node : Node). Stays (w.node n) node) (sym e) (quiet-stays w (Crash n) tt n))
    h.node

-- a node of the group is still one after it waited
pub waited-there : (n : ℕ) (w v : World) → Waited n w v → is_node w.size.n n ≡ true
    → is_node v.size.n n ≡ true
waited-there n w v h there = subst (λ (l : Limits). is_node l.n n ≡ true) (sym h.size) there

-- a node that held a draft still holds it, or went down with it
pub waited-held : (n : ℕ) (w v : World) (draft : Placed) → Waited n w v → HoldsAt w n draft
    → HoldsAt v n draft ⊎ FellWith (w.node n) (v.node n) draft
waited-held n w v draft h held =
    ⊎_elim (λ e. inl (still e)) (λ e.
    inr (subst (λ (node : Node). FellWith (w.node n) node draft) (sym e)
    (crash-held w n draft held))) h.node
  where
    still : v.node n ≡ w.node n → HoldsAt v n draft
    still e =
        record {
          cause = held.cause;
          there = waited-there n w v h held.there;
          storing = ap (λ (node : Node). node.state) e ∙ held.storing;
          position = held.position ∙ ap (λ (node : Node). suc (length node.records)) (sym e);
        }

-- a node that was down is unchanged
pub waited-down : (n : ℕ) (w v : World) → Waited n w v → is_down (w.node n).state ≡ true
    → v.node n ≡ w.node n
waited-down n w v h down = ⊎_elim (λ e. e) (λ e. e ∙ crash-down w n down) h.node

-- two crashes have the effect of one
crashed-twice : (n : ℕ) (w v : World) → v.size ≡ w.size → v.node n ≡ (step w (Crash n)).1.node n
    → (step v (Crash n)).1.node n ≡ (step w (Crash n)).1.node n
unfolding step
crashed-twice n w v size e = at (is_node w.size.n n) refl
  where
    in_v : is_node v.size.n n ≡ is_node w.size.n n
    in_v = ap (λ (l : Limits). is_node l.n n) size

    at : (b : Bool) → is_node w.size.n n ≡ b
        → (at_node v n (crashes n (v.node n))).1.node n
        ≡ (at_node w n (crashes n (w.node n))).1.node n
    at true there =
        crash-down v n (subst (λ (node : Node). is_down node.state ≡ true)
        (sym (e ∙ node-after w n (crashes n (w.node n)) there))
        (fallen (is_down (w.node n).state) refl)) ∙ e
      where
        fallen : (b : Bool) → is_down (w.node n).state ≡ b
            → is_down (crashes n (w.node n)).1.state ≡ true
        fallen true down =
            ap (λ (o : Reply × Node). is_down o.1.state)
            (cond-true (is_down (w.node n).state) (refuses (w.node n) refusal.Down)
            (goes_down n (w.node n)) down) ∙ down
        fallen false up =
            ap (λ (o : Reply × Node). is_down o.1.state)
            (cond-false (is_down (w.node n).state) (refuses (w.node n) refusal.Down)
            (goes_down n (w.node n)) up)
    at false none =
        ap (λ (o : Reply × World). o.1.node n)
        (cond-false (is_node v.size.n n) (world_after v n (crashes n (v.node n)))
        (Refused refusal.BadNode, v) (in_v ∙ none)) ∙ e

-- a crash of an equal node
crash-alike : (n : ℕ) (v w : World) → v.size ≡ w.size → v.node n ≡ w.node n
    → (step v (Crash n)).1.node n ≡ (step w (Crash n)).1.node n
unfolding step
crash-alike n v w size e = at (is_node w.size.n n) refl
  where
    at : (b : Bool) → is_node w.size.n n ≡ b
        → (at_node v n (crashes n (v.node n))).1.node n
        ≡ (at_node w n (crashes n (w.node n))).1.node n
    at true there =
        node-after v n (crashes n (v.node n)) (ap (λ (l : Limits). is_node l.n n) size ∙ there)
        ∙ (ap (λ (node : Node). (crashes n node).1) e
        ∙ sym (node-after w n (crashes n (w.node n)) there))
    at false none =
        ap (λ (o : Reply × World). o.1.node n)
        (cond-false (is_node v.size.n n) (world_after v n (crashes n (v.node n)))
        (Refused refusal.BadNode, v) (ap (λ (l : Limits). is_node l.n n) size ∙ none))
        ∙ (e ∙ sym (ap (λ (o : Reply × World). o.1.node n)
        (cond-false (is_node w.size.n n) (world_after w n (crashes n (w.node n)))
        (Refused refusal.BadNode, w) none)))

-- a node that waited twice, one time after the other, waited all along
pub waited-on : (n : ℕ) (w v u : World) → Waited n w v → Waited n v u → Waited n w u
waited-on n w v u one two =
    record {
      size = two.size ∙ one.size;
      grows = λ q x m h. two.grows q x m (one.grows q x m h);
      node = ⊎_elim same crashed two.node;
    }
  where
    same : u.node n ≡ v.node n → (u.node n ≡ w.node n) ⊎ (u.node n ≡ (step w (Crash n)).1.node n)
    same e = ⊎_elim (λ f. inl (e ∙ f)) (λ f. inr (e ∙ f)) one.node

    crashed : u.node n ≡ (step v (Crash n)).1.node n
        → (u.node n ≡ w.node n) ⊎ (u.node n ≡ (step w (Crash n)).1.node n)
    crashed e =
        ⊎_elim (λ f. inr (e ∙ crash-alike n v w one.size f))
        (λ f. inr (e ∙ crashed-twice n w v one.size f)) one.node

-- ---- events elsewhere

-- a number that differs from another, compared the other way round
turned : (n p : ℕ) → (p == n) ≡ false → (n == p) ≡ false
turned n p e = at (n == p) refl
  where
    at : (b : Bool) → (n == p) ≡ b → (n == p) ≡ false
    at false f = f
    at true f =
        let same : n ≡ p = eqb-true n p f in
        absurd (false≢true (sym e ∙ eq-eqb p n (sym same)))

-- an event of another node
other-waited : (n : ℕ) (w : World) (event : Event) → (event_node event == n) ≡ false
    → Waited n w (step w event).1
other-waited n w event apart =
    record {
      size = step-size w event;
      grows = step-grows w event;
      node = inl (step-elsewhere w event n (turned n (event_node event) apart));
    }

-- a crash of any node
crash-waited : (n p : ℕ) (w : World) → Waited n w (step w (Crash p)).1
crash-waited n p w = at (p == n) refl
  where
    at : (b : Bool) → (p == n) ≡ b → Waited n w (step w (Crash p)).1
    at false apart = other-waited n w (Crash p) apart
    at true same =
        let here : p ≡ n = eqb-true p n same in
        record {
          size = step-size w (Crash p);
          grows = step-grows w (Crash p);
          node =
              inr (subst (λ (i : ℕ). (step w (Crash i)).1.node n ≡ (step w (Crash n)).1.node n)
              (sym here) refl);
        }

event-waited : (n : ℕ) (w : World) (event : Event) → is_own n event ≡ false
    → Waited n w (step w event).1
event-waited n w (Crash p) h = crash-waited n p w
event-waited n w (Submit p m) h = other-waited n w (Submit p m) h
event-waited n w (Arrive p bytes) h = other-waited n w (Arrive p bytes) h
event-waited n w (Tick p) h = other-waited n w (Tick p) h
event-waited n w (Commit p position entry) h = other-waited n w (Commit p position entry) h
event-waited n w (Fail p) h = other-waited n w (Fail p) h
event-waited n w (Restart p image) h = other-waited n w (Restart p image) h

-- a node waits while all events are elsewhere
pub elsewhere-waited : (n : ℕ) (events : List Event) (w : World) → AreElsewhere n events
    → Waited n w (after w events)
unfolding run
elsewhere-waited n [] w h = record { size = refl; grows = λ q x m k. k; node = inl refl }
elsewhere-waited n (event ∷ events) w h =
    waited-on n w (step w event).1 (after (step w event).1 events) (event-waited n w event h.0)
    (elsewhere-waited n events (step w event).1 h.1)

-- ---- a world of a house

-- The past of the house leads from the start to this world, and the group of the house shows it.
pub record IsWorldOf (start : World) (house : HouseView) (w : World) : Type 0 where
  pub led : w ≡ after start house.past
  pub shows : Shows house.group w

-- a world of the later house, in which node n has waited
pub record HasWaited (start : World) (n : ℕ) (w : World) (later : HouseView) : Type 0 where
  pub world : World
  pub ties : IsWorldOf start later world
  pub waited : Waited n w world

-- from one moment to another nothing happened to node n, except that it may have crashed
abbrev pub Waits : World → ℕ → HouseView → HouseView → Type 0
Waits start n earlier later =
    (w : World) → IsWorldOf start earlier w → HasWaited start n w later

-- a node waits from one moment to another if it rested
pub rested-waits : (opened : GroupView) (start : World) (n : ℕ) (earlier later : HouseView)
    → Shows opened start → HasRested n earlier.past later.past
    → IsLedTo opened later.past later.group → Waits start n earlier later
rested-waits opened start n earlier later opening rested leads w h =
    record {
      world = after start later.past;
      ties = record { led = refl; shows = leads start opening };
      waited =
          subst (λ (v : World). Waited n w v) (sym same)
          (elsewhere-waited n rested.between w rested.elsewhere);
    }
  where
    same : after start later.past ≡ after w rested.between
    same =
        ap (after start) rested.later_is
        ∙ (after-append start earlier.past rested.between
        ∙ ap (λ (v : World). after v rested.between) (sym h.led))
