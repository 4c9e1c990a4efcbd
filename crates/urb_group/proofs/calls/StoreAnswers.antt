-- Why the store of a node is not asked, and what a store's answer leads to.
use Rattle.urb_group.proofs.Common.{Answers, AreTruthful, Bool, Carried, Cause, Commit, Commits}
use Rattle.urb_group.proofs.Common.{Crash, Done, Entry, Err, Event, Fail, GoesDown, GroupView}
use Rattle.urb_group.proofs.Common.{Happens, IsOk, IsRefusedAs, IsSound, IsTrue, IsUnfallen}
use Rattle.urb_group.proofs.Common.{IsUnstored, Limits, List, Node, None, Ok, Option, Placed}
use Rattle.urb_group.proofs.Common.{Refusal, Refused, Restart, Result, Shows, Some, Steps, Stored}
use Rattle.urb_group.proofs.Common.{WentDown, World, and_from, ap, ap₂, at_node, commits, cond}
use Rattle.urb_group.proofs.Common.{cond-false, cond-true, eq-eqb, false, held_draft, held_in, inl}
use Rattle.urb_group.proofs.Common.{inr, is_down, is_node, next_position, packets_in, refl}
use Rattle.urb_group.proofs.Common.{same_record, state_of, subst, suc, sym, true, truthful, view_of}
use Rattle.urb_group.proofs.Common.{world_after, ℕ, ◌&&◌, ◌==◌, ◌∙◌, ◌≡◌, ◌⊎◌}
use Rattle.urb_group.specs.internal.CallReplies.{unfallen_in, unstored_in}
use Rattle.urb_world.specs.Step.{step}
use Rattle.urb_group.specs.declared.state.State.{State}
use Rattle.urb_node.proofs.RestartReplies.{same_record-same}
use Rattle.urb_node.specs.CallEffects.{MayGrow}
use Rattle.urb_node.specs.Replies.{Reply}
use Rattle.urb_node.specs.Steps.{done, fails, goes_down, keeps_record, refuses, restarts}
use Rattle.urb_names.specs.declared.refusal.Refusal.TheVariants as refusal
use Rattle.urb_node.specs.Part as part

-- ---- replies by what the group holds

-- if a sound group is asked for a node's state, it answers with the state that it shows
answers-state : (group : GroupView) (p : ℕ) (result : Option State) → IsSound group
    → Answers (λ w. Some (state_of (w.node p).state)) group p result
    → result ≡ cond (is_node group.size.n p) (Some (state_of (view_of group p).state)) None
answers-state group p result sound h =
    h sound.world sound.shows
    ∙ ap₂ (λ (n : ℕ) (s : part.State). cond (is_node n p) (Some (state_of s)) None)
    (ap (λ (l : Limits). l.n) (sym sound.shows.size)) (sym (sound.shows.nodes p).state)

module _ (group : GroupView) (p : ℕ) (w : World) (shows : Shows group w) where
  node-there : is_node group.size.n p ≡ true → is_node w.size.n p ≡ true
  node-there e = subst (λ (l : Limits). is_node l.n p ≡ true) shows.size e

  node-missing : is_node group.size.n p ≡ false → is_node w.size.n p ≡ false
  node-missing e = subst (λ (l : Limits). is_node l.n p ≡ false) shows.size e

  no-node-reply : (outcome : Reply × Node) → is_node group.size.n p ≡ false
      → (at_node w p outcome).0 ≡ Refused refusal.BadNode
  no-node-reply outcome e =
      ap (λ (o : Reply × World). o.0)
      (cond-false (is_node w.size.n p) (world_after w p outcome) (Refused refusal.BadNode, w)
      (node-missing e))

  node-reply : (outcome : Reply × Node) → is_node group.size.n p ≡ true
      → (at_node w p outcome).0 ≡ outcome.0
  node-reply outcome e =
      ap (λ (o : Reply × World). o.0)
      (cond-true (is_node w.size.n p) (world_after w p outcome) (Refused refusal.BadNode, w)
      (node-there e))

  state-is : (s : part.State) → (view_of group p).state ≡ s → (w.node p).state ≡ s
  state-is s e = sym (shows.nodes p).state ∙ e

  fail-missing : is_node group.size.n p ≡ false → (step w (Fail p)).0 ≡ Refused refusal.BadNode
  unfolding step
  fail-missing e = no-node-reply (fails p (w.node p) (w.node p).state) e

  fail-reply : (s : part.State) → is_node group.size.n p ≡ true → (view_of group p).state ≡ s
      → (step w (Fail p)).0 ≡ (fails p (w.node p) s).0
  unfolding step
  fail-reply s e f =
      node-reply (fails p (w.node p) (w.node p).state) e
      ∙ ap (λ (t : part.State). (fails p (w.node p) t).0) (state-is s f)

  restart-missing : (image : List Entry) → is_node group.size.n p ≡ false
      → (step w (Restart p image)).0 ≡ Refused refusal.BadNode
  unfolding step
  restart-missing image e = no-node-reply (restarts p image (w.node p) (w.node p).state) e

  restart-reply : (image : List Entry) (s : part.State) → is_node group.size.n p ≡ true
      → (view_of group p).state ≡ s
      → (step w (Restart p image)).0 ≡ (restarts p image (w.node p) s).0
  unfolding step
  restart-reply image s e f =
      node-reply (restarts p image (w.node p) (w.node p).state) e
      ∙ ap (λ (t : part.State). (restarts p image (w.node p) t).0) (state-is s f)

-- ---- why a store is not asked

-- the state of a node says whether it holds a draft, or why a failed store of it is refused
pub unstored-is : (group : GroupView) (p : ℕ) (result : Option State) → IsSound group
    → Answers (λ w. Some (state_of (w.node p).state)) group p result
    → IsUnstored group p (unstored_in result)
unstored-is group p result sound h =
    subst (λ (o : Option State). IsUnstored group p (unstored_in o))
    (sym (answers-state group p result sound h))
    (at (is_node group.size.n p) (view_of group p).state refl refl)
  where
    at : (b : Bool) (s : part.State) → is_node group.size.n p ≡ b → (view_of group p).state ≡ s
        → IsUnstored group p (unstored_in (cond b (Some (state_of s)) None))
    at false s e f = (
      ap (λ (b : Bool). cond b (held_in (view_of group p).state p (view_of group p).count) None)
          e,
      (λ w shows. fail-missing group p w shows e, refl),
    )
    at true part.Ready e f = (
      ap₂ (λ (b : Bool) (s : part.State). cond b (held_in s p (view_of group p).count) None) e f,
      (λ w shows. fail-reply group p w shows part.Ready e f, refl),
    )
    at true (part.Storing entry cause) e f = (
      record { node = p; pos = suc (view_of group p).count; entry = entry },
      ap₂ (λ (b : Bool) (s : part.State). cond b (held_in s p (view_of group p).count) None)
          e f,
    )
    at true (part.Down d) e f = (
      ap₂ (λ (b : Bool) (s : part.State). cond b (held_in s p (view_of group p).count) None) e f,
      (λ w shows. fail-reply group p w shows (part.Down d) e f, refl),
    )

-- the state of a node says whether it is down, or why a restart of it is refused
pub unfallen-is : (group : GroupView) (p : ℕ) (result : Option State) → IsSound group
    → Answers (λ w. Some (state_of (w.node p).state)) group p result
    → IsUnfallen group p (unfallen_in result)
unfallen-is group p result sound h =
    subst (λ (o : Option State). IsUnfallen group p (unfallen_in o))
    (sym (answers-state group p result sound h))
    (at (is_node group.size.n p) (view_of group p).state refl refl)
  where
    at : (b : Bool) (s : part.State) → is_node group.size.n p ≡ b → (view_of group p).state ≡ s
        → IsUnfallen group p (unfallen_in (cond b (Some (state_of s)) None))
    at false s e f = (
      ap (λ (b : Bool). b && is_down (view_of group p).state) e,
      (λ image. (λ w shows. restart-missing group p w shows image e, refl)),
    )
    at true part.Ready e f = (
      ap₂ (λ (b : Bool) (s : part.State). b && is_down s) e f,
      (λ image. (λ w shows. restart-reply group p w shows image part.Ready e f, refl)),
    )
    at true (part.Storing entry cause) e f = (
      ap₂ (λ (b : Bool) (s : part.State). b && is_down s) e f,
      (λ image. (
        λ w shows. restart-reply group p w shows image
            (part.Storing entry cause) e f,
        refl,
      )),
    )
    at true (part.Down d) e f = (
      ap₂ (λ (b : Bool) (s : part.State). b && is_down s) e f,
      ap₂ (λ (b : Bool) (s : part.State). cond b (held_in s p (view_of group p).count) None)
          e f,
    )

-- ---- a draft that is held

-- if a draft is held, it is the draft of the state
pub record IsHeldAs (group : GroupView) (p : ℕ) (draft : Placed) : Type 0 where
  -- the group has such a node
  pub there : is_node group.size.n p ≡ true
  -- the draft is this node's
  pub node : draft.node ≡ p
  -- the packet that caused it, if there is one
  pub cause : Option Cause
  -- the node holds the draft's record
  pub state : (view_of group p).state ≡ part.Storing draft.entry cause
  -- the draft is for the next position
  pub position : draft.pos ≡ suc (view_of group p).count

-- the draft that a node of the group holds is that of its state
pub held-as : (group : GroupView) (p : ℕ) (draft : Placed) → held_draft group p ≡ Some draft
    → IsHeldAs group p draft
held-as group p draft h = at (is_node group.size.n p) (view_of group p).state refl refl h
  where
    at : (b : Bool) (s : part.State) → is_node group.size.n p ≡ b → (view_of group p).state ≡ s
        → cond b (held_in s p (view_of group p).count) None ≡ Some draft → IsHeldAs group p draft
    at false s e f k = cc
    at true part.Ready e f k = cc
    at true (part.Storing entry cause) e f k =
        let same : record { node = p; pos = suc (view_of group p).count; entry = entry } ≡ draft =
        cc in
        record {
          there = e;
          node = ap (λ (d : Placed). d.node) (sym same);
          cause = cause;
          state = f ∙ ap (λ (d : Placed). part.Storing d.entry cause) same;
          position = ap (λ (d : Placed). d.pos) (sym same);
        }
    at true (part.Down d) e f k = cc

-- a refusal is the reply's own, or for memory if the call may need it
pub refused-as : (reply : Reply) (r : Refusal) → IsRefusedAs reply r
    → MayGrow reply ⊎ (reply ≡ Refused r)
refused-as reply refusal.NoMemory h = inl h
refused-as reply r h = inr h

module _ (group : GroupView) (draft : Placed) (held : held_draft group draft.node ≡ Some draft)
    (w : World) (shows : Shows group w) where
  is_as : IsHeldAs group draft.node draft
  is_as = held-as group draft.node draft held

  -- the held draft's receipt is accepted
  pub commit-stored : (told : Done)
      × ((step w (Commit draft.node draft.pos draft.entry)).0 ≡ Stored told)
  unfolding step
  commit-stored = (
    done w.size.n draft.node draft.entry is_as.cause (w.node draft.node),
    node-reply group draft.node w shows
        (commits w.size.n draft.node draft.pos draft.entry (w.node draft.node)
        (w.node draft.node).state) is_as.there
        ∙ (ap (λ (t : part.State). (commits w.size.n draft.node draft.pos draft.entry
        (w.node draft.node) t).0) (state-is group draft.node w shows
        (part.Storing draft.entry is_as.cause) is_as.state)
        ∙ ap (λ (o : Reply × Node). o.0)
        (cond-true ((draft.pos == next_position (w.node draft.node))
        && same_record draft.entry draft.entry) (
          Stored (done w.size.n draft.node draft.entry is_as.cause (w.node draft.node)),
          keeps_record draft.node draft.entry is_as.cause (w.node draft.node),
        )
        (refuses (w.node draft.node) refusal.Stale)
        (and_from (draft.pos == next_position (w.node draft.node)) _
        (eq-eqb draft.pos (next_position (w.node draft.node))
        (is_as.position ∙ ap (λ (i : ℕ). suc i) (shows.nodes draft.node).count))
        (same_record-same draft.entry)))),
  )

  -- the held draft's failure takes the node down
  pub fail-down : (step w (Fail draft.node)).0 ≡ WentDown draft.node
  fail-down =
      fail-reply group draft.node w shows
      (part.Storing draft.entry is_as.cause) is_as.there is_as.state

  -- a crash takes the node down too, and leads to the same world
  crash-fails : step w (Crash draft.node) ≡ step w (Fail draft.node)
  unfolding step
  crash-fails =
      ap (λ (o : Reply × Node). at_node w draft.node o)
      (cond-false (is_down (w.node draft.node).state) (refuses (w.node draft.node) refusal.Down)
      (goes_down draft.node (w.node draft.node)) (ap is_down is)
      ∙ sym (ap (λ (t : part.State). fails draft.node (w.node draft.node) t) is))
    where
      is : (w.node draft.node).state ≡ part.Storing draft.entry is_as.cause
      is = state-is group draft.node w shows (part.Storing draft.entry is_as.cause) is_as.state

-- a receipt of a held draft is never refused
pub commit-taken : (old new : GroupView) (draft : Placed) (result : Result Done (Placed × Refusal))
    → IsSound old → held_draft old draft.node ≡ Some draft → Commits old draft result new
    → IsOk result
commit-taken old new draft (Ok told) sound held h = refl
commit-taken old new draft (Err e) sound held h =
    let taken = commit-stored old draft held sound.world sound.shows in
    absurd (never (refused-as (step sound.world (Commit draft.node draft.pos draft.entry)).0 e.1
    (h.0.0 sound.world sound.shows)) taken.0 taken.1)
  where
    event : Event
    event = Commit draft.node draft.pos draft.entry

    never : MayGrow (step sound.world event).0 ⊎ ((step sound.world event).0 ≡ Refused e.1)
        → (told : Done) → (step sound.world event).0 ≡ Stored told → ⊥
    never (inl g) told f = subst MayGrow f g
    never (inr g) told f = cc

-- if a node holds a draft, neither its store's failure nor its crash is refused
down-taken : (old new : GroupView) (draft : Placed) (event : Event)
    (result : Result (Unit {0}) Refusal) → IsSound old → held_draft old draft.node ≡ Some draft
    → ((w : World) → Shows old w → (step w event).0 ≡ WentDown draft.node)
    → GoesDown old draft.node event result new → IsOk result
down-taken old new draft event (Ok told) sound held downs h = refl
down-taken old new draft event (Err r) sound held downs h =
    absurd (never (refused-as (step sound.world event).0 r (h.0 sound.world sound.shows))
    (downs sound.world sound.shows))
  where
    never : MayGrow (step sound.world event).0 ⊎ ((step sound.world event).0 ≡ Refused r)
        → (step sound.world event).0 ≡ WentDown draft.node → ⊥
    never (inl g) f = subst MayGrow f g
    never (inr g) f = cc

-- the failure of a node's held draft is taken
pub fail-taken : (old new : GroupView) (p : ℕ) (draft : Placed) (result : Result (Unit {0}) Refusal)
    → IsSound old → draft.node ≡ p → held_draft old draft.node ≡ Some draft
    → GoesDown old p (Fail p) result new → IsOk result
fail-taken old new p draft result sound e held =
    subst (λ (i : ℕ). GoesDown old i (Fail i) result new → IsOk result) e
    (down-taken old new draft (Fail draft.node) result sound held
    (λ w s. fail-down old draft held w s))

-- a crash of a node that holds a draft is accepted too
pub crash-taken : (old new : GroupView) (p : ℕ) (draft : Placed)
    (result : Result (Unit {0}) Refusal) → IsSound old → draft.node ≡ p
    → held_draft old draft.node ≡ Some draft → GoesDown old p (Crash p) result new → IsOk result
crash-taken old new p draft result sound e held =
    subst (λ (i : ℕ). GoesDown old i (Crash i) result new → IsOk result) e
    (down-taken old new draft (Crash draft.node) result sound held
    (λ w s. ap (λ (o : Reply × World). o.0) (crash-fails old draft held w s)
    ∙ fail-down old draft held w s))

-- a crash of a node that holds a draft is the failure of its store
pub crash-as-fail : (old new : GroupView) (p : ℕ) (draft : Placed) → draft.node ≡ p
    → held_draft old draft.node ≡ Some draft → Steps old (Crash p) (λ told. told ≡ WentDown p) new
    → Steps old (Fail p) (λ told. told ≡ WentDown p) new
crash-as-fail old new p draft e held =
    subst (λ (i : ℕ). Steps old (Crash i) (λ told. told ≡ WentDown i) new
    → Steps old (Fail i) (λ told. told ≡ WentDown i) new) e
    (λ h w s. at w (crash-fails old draft held w s) (h w s))
  where
    at : (w : World) → step w (Crash draft.node) ≡ step w (Fail draft.node)
        → Happens (Crash draft.node) (λ told. told ≡ WentDown draft.node) new w
        → Happens (Fail draft.node) (λ told. told ≡ WentDown draft.node) new w
    at w f h =
        record {
          told = subst (λ (o : Reply × World). o.0 ≡ WentDown draft.node) f h.told;
          shows = subst (λ (o : Reply × World). Shows new o.1) f h.shows;
          truth =
              subst (λ (o : Reply × World). (packet : Carried) → IsTrue (truthful w packet)
              → IsTrue (truthful o.1 packet)) f h.truth;
          sent = subst (λ (o : Reply × World). AreTruthful o.1 (packets_in o.0)) f h.sent;
        }
