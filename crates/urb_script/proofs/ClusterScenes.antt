-- A cluster whose stores are in memory goes from scene to scene.
use Rattle.urb_script.proofs.Common.{Bool, Cause, Clustered, Commit, Down, Entry, Event, GroupView}
use Rattle.urb_script.proofs.Common.{IsContents, IsHeldBy, Limits, List, Memory, New, Node, None}
use Rattle.urb_script.proofs.Common.{Old, Option, Placed, Ready, Refusal, Refused, Reply, Scene}
use Rattle.urb_script.proofs.Common.{Shows, ShowsScene, Some, State, Steps, StoreMoves, Storing}
use Rattle.urb_script.proofs.Common.{World, [], answer, ap, ap₂, arith, at_node, commits, cond}
use Rattle.urb_script.proofs.Common.{cond-false, cond-true, cond_both, doubt, eq-eqb, eqb-true}
use Rattle.urb_script.proofs.Common.{fails, false, false≢true, goes_down, happens, happens_with}
use Rattle.urb_script.proofs.Common.{held_by, held_draft, is_down, is_node, keeps_record, length}
use Rattle.urb_script.proofs.Common.{receipt, refl, reply_text, restarts_with, slice_set, step}
use Rattle.urb_script.proofs.Common.{step-size, subst, suc, sym, true, updated, updated-at}
use Rattle.urb_script.proofs.Common.{with_doubt, world_after, zero, ℕ, ◌&&◌, ◌++◌, ◌-◌, ◌<◌, ◌==◌}
use Rattle.urb_script.proofs.Common.{◌∙◌, ◌∷◌, ◌≡◌, ◌≢◌}
use Rattle.std.proofs.Common.{slice_get}
use Rattle.std.proofs.lemmas.List.{length-set}
use Rattle.urb_node.specs.CallEffects.{IsRefusedAs}
use Rattle.urb_node.specs.Replies.{Drafted, Same, Sent, Stored, Up, WentDown}
use Rattle.urb_node.specs.Steps.{done, next_position, restarts, same_record}
use Rattle.urb_node.proofs.RestartReplies.{same_record-same}
use Rattle.urb_group.specs.GroupViews.{view_of}
use Rattle.urb_world.specs.Step.{Fail, Restart}
use Rattle.urb_world.proofs.safety.Refusals.{refused-stays}
use Rattle.urb_group.specs.GroupStores.{held_in}
use Rattle.urb_group.specs.ClusterCalls.{Reacts}
use Rattle.urb_script.specs.internal.ShownScenes.{AreHeldBy}
use Rattle.urb_script.proofs.SceneSteps.{IsQuiet, kept_held, lost_held, quiet_step, restart_with}
use Rattle.urb_script.proofs.SceneSteps.{stored_held}
use Rattle.urb_group.proofs.stops.NodeStoreInvariant.{down-in}
use Rattle.urb_script.proofs.ReopenedClusters.{some_same}
use Rattle.urb_names.specs.declared.refusal.Refusal.TheVariants as refusal
use Rattle.urb_script.specs.Commands as command

-- ---- a reply, and the world that is shown after it

refusal_is : (said : Reply) (why : Refusal) → IsRefusedAs said why → why ≢ refusal.NoMemory
    → said ≡ Refused why
refusal_is said refusal.NoMemory r not = absurd (not refl)
refusal_is said why r not = r

abbrev Tells : GroupView → Event → Reply → World → Type 0
Tells new e said w = ((step w e).0 ≡ said) × Shows new (step w e).1

-- if the group took a step, each world that it showed gives the same reply, and its next world is
-- shown
pub happened : (old new : GroupView) (e : Event) (said : Reply) (w : World) → Shows old w
    → Steps old e (λ told. told ≡ said) new → Tells new e said w
happened old new e said w s steps = let h = steps w s in (h.told, h.shows)

-- unless memory is refused, each world that the group showed gives its reply, and its next world is
-- shown
pub reacted : (old new : GroupView) (e : Event) (said : Reply) (w : World) → Shows old w
    → said ≢ Refused refusal.NoMemory → Reacts old e said new → Tells new e said w
reacted old new e (Drafted x position) w s not r = happened old new e (Drafted x position) w s r
reacted old new e (Same told) w s not r = happened old new e (Same told) w s r
reacted old new e (Stored told) w s not r = happened old new e (Stored told) w s r
reacted old new e (Sent packets) w s not r = happened old new e (Sent packets) w s r
reacted old new e (WentDown p) w s not r = happened old new e (WentDown p) w s r
reacted old new e (Up p) w s not r = happened old new e (Up p) w s r
reacted old new e (Refused why) w s not r =
    let is : (step w e).0 ≡ Refused why =
    refusal_is (step w e).0 why (r.0 w s) (λ same. not (ap Refused same)) in (
      is,
      subst (λ (v : World). Shows new v) (sym (refused-stays w e why is))
          (subst (λ (group : GroupView). Shows group w) (sym r.1) s),
    )

-- the answer of a reply
told_so : (storage : ℕ → List Entry) (e : Event) (said : Reply) (scene : Scene)
    → (step scene.world e).0 ≡ said
    → ◌≡◌ {A = List ℕ × Scene} (reply_text said, (happens_with storage e scene).1)
    (happens_with storage e scene)
told_so storage e said scene is =
    ap (λ (r : Reply). let o : List ℕ × Scene = (reply_text r, (happens_with storage e scene).1) in
    o) (sym is)

-- from a scene, it goes to the scene that an answer leads to
abbrev pub GoesTo : Limits → Clustered Memory → List ℕ × Scene → List ℕ → Type 0
GoesTo size new given text =
    (◌≡◌ {A = List ℕ × Scene} (text, given.1) given) × ShowsScene size new given.1

-- ---- events that ask no store

-- unless memory is refused, an event that asks no store is answered, and a scene that it leads to
-- is shown
pub quiet_scene : (size : Limits) (old new : Clustered Memory) (scene : Scene) (e : Event)
    (said : Reply) → IsQuiet e → ShowsScene size old scene → said ≢ Refused refusal.NoMemory
    → Reacts old.group e said new.group → new.stores ≡ old.stores
    → GoesTo size new (happens e scene) (reply_text said)
quiet_scene size old new scene e said i s not r same =
    let tells = reacted old.group new.group e said scene.world s.group not r in (
      told_so scene.storage e said scene tells.0,
      record {
        size = step-size scene.world e ∙ s.size;
        group = tells.1;
        stores =
            λ p m is found. quiet_step scene.world e p (scene.storage p) m i
            (s.stores p m is (subst (λ (xs : List Memory). slice_get xs (p - 1) ≡ Some m)
            same found));
        counted = ap length same ∙ s.counted;
        beyond = s.beyond;
      },
    )

-- ---- one store moves

set-same : {X : Type 0} (xs : List X) (i : ℕ) (old new found : X) → slice_get xs i ≡ Some old
    → slice_get (slice_set xs i new) i ≡ Some found → new ≡ found
set-same [] zero old new found e f = absurd (cc)
set-same [] (suc i) old new found e f = absurd (cc)
set-same (x ∷ xs) zero old new found e f = some_same f
set-same (x ∷ xs) (suc i) old new found e f = set-same xs i old new found e f

set-other : {X : Type 0} (xs : List X) (i k : ℕ) (new found : X) → (i ≡ k → ⊥)
    → slice_get (slice_set xs i new) k ≡ Some found → slice_get xs k ≡ Some found
set-other [] i k new found not f = f
set-other (x ∷ xs) zero zero new found not f = absurd (not refl)
set-other (x ∷ xs) zero (suc k) new found not f = f
set-other (x ∷ xs) (suc i) zero new found not f = f
set-other (x ∷ xs) (suc i) (suc k) new found not f =
    set-other xs i k new found (λ e. not (ap suc e)) f

from_one : (n p : ℕ) → is_node n p ≡ true → 0 < p
from_one n zero e = absurd (cc)
from_one n (suc p) e = omega arith

apart : (n p q : ℕ) → is_node n p ≡ true → is_node n q ≡ true → (q == p) ≡ false → p - 1 ≡ q - 1 → ⊥
apart n p q i j not e =
    let some : 0 < p = from_one n p i in
    let other : 0 < q = from_one n q j in
    let same : q ≡ p = omega (arith, e, some, other) in
    absurd (cc (eq-eqb q p same, not))

moved : (n : ℕ) (nodes after_nodes : ℕ → Node) (storage after_storage : ℕ → List Entry)
    (stores after_stores : List Memory) (p : ℕ) (before after : Memory)
    → is_node n p ≡ true → StoreMoves stores p before after after_stores
    → AreHeldBy n nodes storage stores
    → ((q : ℕ) → (q == p) ≡ false → after_nodes q ≡ nodes q)
    → ((q : ℕ) → (q == p) ≡ false → after_storage q ≡ storage q)
    → IsHeldBy (after_nodes p) (after_storage p) after
    → AreHeldBy n after_nodes after_storage after_stores
moved n nodes after_nodes storage after_storage stores after_stores p before after i m held
    same_node same_storage h q found j e = at (q == p) refl
  where
    there : slice_get (slice_set stores (p - 1) after) (q - 1) ≡ Some found
    there = subst (λ (xs : List Memory). slice_get xs (q - 1) ≡ Some found) m.is e

    at : (b : Bool) → (q == p) ≡ b → IsHeldBy (after_nodes q) (after_storage q) found
    at true is =
        let same : q ≡ p = eqb-true q p is in
        let one : after ≡ found =
        set-same stores (p - 1) before after found m.was
        (subst (λ (k : ℕ). slice_get (slice_set stores (p - 1) after) (k - 1) ≡ Some found)
        same there) in
        subst (λ (k : ℕ). IsHeldBy (after_nodes k) (after_storage k) found) (sym same)
        (subst (IsHeldBy (after_nodes p) (after_storage p)) one h)
    at false is =
        let old =
        held q found j (set-other stores (p - 1) (q - 1) after found (apart n p q i j is) there)
        in
        subst (λ (node : Node). IsHeldBy node (after_storage q) found) (sym (same_node q is))
        (subst (λ (rs : List Entry). IsHeldBy (nodes q) rs found) (sym (same_storage q is)) old)

-- a function that is changed at one number is the same at all others
pub elsewhere : {X : Type 0} (f : ℕ → X) (p q : ℕ) (x : X) → (q == p) ≡ false
    → updated f p x q ≡ f q
elsewhere f p q x e = cond-false (q == p) x (f q) e

at_one : (w : World) (p q : ℕ) (o outcome : Reply × Node) → is_node w.size.n p ≡ true → o ≡ outcome
    → (at_node w p o).1.node q ≡ updated w.node p outcome.1 q
at_one w p q o outcome is same =
    ap (λ (v : Reply × World). v.1.node q)
    (cond-true (is_node w.size.n p) (world_after w p o) (Refused refusal.BadNode, w) is)
    ∙ ap (λ (v : Reply × Node). updated w.node p v.1 q) same

-- ---- the draft that a node holds

in_held : (b : Bool) (s : State) (p count : ℕ) (draft : Placed)
    → cond b (held_in s p count) None ≡ Some draft
    → (cause : Option Cause) × (b ≡ true) × (s ≡ Storing draft.entry cause) × (draft.node ≡ p)
    × (draft.pos ≡ suc count)
in_held false s p count draft e = absurd (cc)
in_held true Ready p count draft e = absurd (cc)
in_held true (Storing entry cause) p count draft e =
    let same = some_same e in (
      cause,
      refl,
      ap (λ (d : Placed). Storing d.entry cause) same,
      sym (ap (λ (d : Placed). d.node) same),
      sym (ap (λ (d : Placed). d.pos) same),
    )
in_held true (Down doubtful) p count draft e = absurd (cc)

-- in the world
pub record Holds (w : World) (p : ℕ) (draft : Placed) : Type 0 where
  cause : Option Cause
  is : is_node w.size.n p ≡ true
  state : (w.node p).state ≡ Storing draft.entry cause
  node : draft.node ≡ p
  position : draft.pos ≡ next_position (w.node p)

-- the draft that a group holds for p is held at p in each world that it shows
pub held : (group : GroupView) (w : World) (p : ℕ) (draft : Placed) → Shows group w
    → held_draft group p ≡ Some draft → Holds w p draft
held group w p draft s e =
    let h =
    in_held (is_node group.size.n p) (view_of group p).state p
    (view_of group p).count draft e in
    record {
      cause = h.0;
      is = subst (λ (l : Limits). is_node l.n p ≡ true) s.size h.1;
      state = sym (s.nodes p).state ∙ h.2;
      node = h.3;
      position = h.4 ∙ ap suc (s.nodes p).count;
    }

-- ---- a store that takes or loses the held record

-- a receipt of the held draft adds its record at p, and changes no other node
pub commit_node : (w : World) (p q : ℕ) (entry : Entry) (cause : Option Cause)
    → is_node w.size.n p ≡ true → (w.node p).state ≡ Storing entry cause
    → (step w (Commit p (next_position (w.node p)) entry)).1.node q ≡ updated w.node p
    (keeps_record p entry cause (w.node p)) q
unfolding step
commit_node w p q entry cause is state =
    at_one w p q _ (
      Stored (done w.size.n p entry cause (w.node p)),
      keeps_record p entry cause (w.node p),
    ) is
    (ap (λ (s : State). commits w.size.n p (next_position (w.node p)) entry (w.node p) s) state
    ∙ cond-true ((next_position (w.node p) == next_position (w.node p)) && same_record entry entry)
    _ _ (ap₂ (λ (a b : Bool). a && b)
    (eq-eqb (next_position (w.node p)) (next_position (w.node p)) refl)
    (same_record-same entry)))

-- a failure of the held draft takes p down, and changes no other node
pub fail_node : (w : World) (p q : ℕ) (entry : Entry) (cause : Option Cause)
    → is_node w.size.n p ≡ true → (w.node p).state ≡ Storing entry cause
    → (step w (Fail p)).1.node q ≡ updated w.node p (goes_down p (w.node p)).1 q
unfolding step
fail_node w p q entry cause is state =
    at_one w p q _ (goes_down p (w.node p)) is (ap (λ (s : State). fails p (w.node p) s) state)

-- a restart of p, which is down, restarts p with the image, and changes no other node
pub restart_node : (w : World) (p q : ℕ) (image : List Entry) (d : Option Entry)
    → is_node w.size.n p ≡ true → (w.node p).state ≡ Down d
    → (step w (Restart p image)).1.node q ≡ updated w.node p
    (restarts_with p image (w.node p) d).1 q
unfolding step
restart_node w p q image d is state =
    at_one w p q _ (restarts_with p image (w.node p) d) is
    (ap (λ (s : State). restarts p image (w.node p) s) state)

-- a number that is no node differs from a node's
other_node : (n p q : ℕ) → is_node n p ≡ true → is_node n q ≡ false → (q == p) ≡ false
other_node n p q is not = at (q == p) refl
  where
    at : (b : Bool) → (q == p) ≡ b → (q == p) ≡ false
    at true e = absurd (false≢true (sym not ∙ ap (is_node n) (eqb-true q p e) ∙ is))
    at false e = e

-- the scene after a step that moved one node and its storage
one_moved : (size : Limits) (old new : Clustered Memory) (scene : Scene) (e : Event) (p : ℕ)
    (node : Node) (storage : ℕ → List Entry) (before after : Memory)
    → is_node scene.world.size.n p ≡ true → ShowsScene size old scene
    → Shows new.group (step scene.world e).1 → StoreMoves old.stores p before after new.stores
    → ((q : ℕ) → (step scene.world e).1.node q ≡ updated scene.world.node p node q)
    → ((q : ℕ) → (q == p) ≡ false → storage q ≡ scene.storage q)
    → IsHeldBy node (storage p) after
    → ShowsScene size new (record { world = (step scene.world e).1; storage = storage })
one_moved size old new scene e p node storage before after is s shows m nodes stays h = record {
  size = step-size scene.world e ∙ s.size;
  group = shows;
  stores =
      moved size.n scene.world.node
      (step scene.world e).1.node scene.storage storage old.stores new.stores p before after
      (subst (λ (l : Limits). is_node l.n p ≡ true) s.size is) m s.stores
      (λ q not. nodes q ∙ elsewhere scene.world.node p q node not) stays
      (subst (λ (n : Node). IsHeldBy n (storage p) after)
      (sym (nodes p ∙ updated-at scene.world.node p node)) h);
  counted = ap length m.is ∙ length-set old.stores (p - 1) after ∙ s.counted;
  beyond =
      λ q not. stays q (other_node size.n p q
      (subst (λ (l : Limits). is_node l.n p ≡ true) s.size is) not) ∙ s.beyond q not;
}

-- what a store held before
held_before : (size : Limits) (old : Clustered Memory) (scene : Scene) (p : ℕ)
    (before after : Memory) (stores : List Memory) → is_node scene.world.size.n p ≡ true
    → ShowsScene size old scene → StoreMoves old.stores p before after stores
    → IsHeldBy (scene.world.node p) (scene.storage p) before
held_before size old scene p before after stores is s m =
    s.stores p before (subst (λ (l : Limits). is_node l.n p ≡ true) s.size is) m.was

moves_at : (old new : List Memory) (p q : ℕ) (before after : Memory) → p ≡ q
    → StoreMoves old p before after new → StoreMoves old q before after new
moves_at old new p q before after e m = subst (λ (k : ℕ). StoreMoves old k before after new) e m

-- the store took the record
pub took : (size : Limits) (old new : Clustered Memory) (scene : Scene) (p : ℕ) (draft : Placed)
    (said : Reply) (before after : Memory)
    → ShowsScene size old scene → held_draft old.group p ≡ Some draft
    → StoreMoves old.stores draft.node before after new.stores
    → Steps old.group (Commit draft.node draft.pos draft.entry) (λ told. told ≡ said) new.group
    → after.certain ≡ before.certain ++ draft.entry ∷ [] → after.doubt ≡ None
    → GoesTo size new (answer scene (command.Stored p)) (reply_text said)
took size old new scene p draft said before after s e m steps takes clear =
    let w : World = scene.world in
    let h = held old.group w p draft s.group e in
    let event : Event = Commit p (next_position (w.node p)) draft.entry in
    let same : Commit draft.node draft.pos draft.entry ≡ event =
    ap₂ (λ (n k : ℕ). Commit n k draft.entry) h.node h.position in
    let tells : Tells new.group event said w =
    subst (λ (v : Event). Tells new.group v said w) same
    (happened old.group new.group
    (Commit draft.node draft.pos draft.entry) said w s.group steps) in
    let moves = moves_at old.stores new.stores draft.node p before after h.node m in
    let was = held_before size old scene p before after new.stores h.is s moves in
    let records : List Entry = scene.storage p ++ draft.entry ∷ [] in
    let storage : ℕ → List Entry = updated scene.storage p records in
    let node : Node = keeps_record p draft.entry h.cause (w.node p) in
    let there : IsHeldBy node (storage p) after =
    subst (λ (rs : List Entry). IsHeldBy node rs after)
    (sym (updated-at scene.storage p records))
    (stored_held p draft.entry h.cause (w.node p) (scene.storage p) before after
    (ap is_down h.state) was takes clear) in
    let next =
    one_moved size old new scene event p node storage before after h.is s tells.1 moves
    (λ q. commit_node w p q draft.entry h.cause h.is h.state)
    (λ q not. elsewhere scene.storage p q records not) there in
    let at : GoesTo size new (happens_with storage event scene) (reply_text said) =
    (told_so storage event said scene tells.0, next) in
    let F : State → Type 0 =
    λ s. GoesTo size new (happens_with (updated scene.storage p (scene.storage p ++ held_by s))
    (receipt p (w.node p) s) scene) (reply_text said) in
    subst F (sym h.state) at

-- the store failed, and has kept nothing
pub lost : (size : Limits) (old new : Clustered Memory) (scene : Scene) (p : ℕ) (draft : Placed)
    (said : Reply) (before after : Memory)
    → ShowsScene size old scene → held_draft old.group p ≡ Some draft
    → StoreMoves old.stores draft.node before after new.stores
    → Steps old.group (Fail draft.node) (λ told. told ≡ said) new.group
    → after.certain ≡ before.certain → after.doubt ≡ None
    → GoesTo size new (answer scene (command.Fail p Old)) (reply_text said)
lost size old new scene p draft said before after s e m steps certain clear =
    let w : World = scene.world in
    let h = held old.group w p draft s.group e in
    let tells : Tells new.group (Fail p) said w =
    subst (λ (k : ℕ). Tells new.group (Fail k) said w) h.node
    (happened old.group new.group (Fail draft.node) said w s.group steps) in
    let moves = moves_at old.stores new.stores draft.node p before after h.node m in
    let was = held_before size old scene p before after new.stores h.is s moves in
    let node : Node = (goes_down p (w.node p)).1 in
    let next =
    one_moved size old new scene (Fail p) p node scene.storage before after h.is s tells.1 moves
    (λ q. fail_node w p q draft.entry h.cause h.is h.state) (λ q not. refl)
    (lost_held (w.node p) node (scene.storage p) before after
    (ap is_down h.state) refl refl was certain clear) in
    (told_so scene.storage (Fail p) said scene tells.0, next)

-- the store failed, and has kept the record
pub kept : (size : Limits) (old new : Clustered Memory) (scene : Scene) (p : ℕ) (draft : Placed)
    (said : Reply) (before after : Memory)
    → ShowsScene size old scene → held_draft old.group p ≡ Some draft
    → StoreMoves old.stores draft.node before after new.stores
    → Steps old.group (Fail draft.node) (λ told. told ≡ said) new.group
    → after.certain ≡ before.certain → after.doubt ≡ Some draft.entry
    → GoesTo size new (answer scene (command.Fail p New)) (reply_text said)
kept size old new scene p draft said before after s e m steps certain left =
    let w : World = scene.world in
    let h = held old.group w p draft s.group e in
    let tells : Tells new.group (Fail p) said w =
    subst (λ (k : ℕ). Tells new.group (Fail k) said w) h.node
    (happened old.group new.group (Fail draft.node) said w s.group steps) in
    let moves = moves_at old.stores new.stores draft.node p before after h.node m in
    let was = held_before size old scene p before after new.stores h.is s moves in
    let records : List Entry = scene.storage p ++ draft.entry ∷ [] in
    let storage : ℕ → List Entry = updated scene.storage p records in
    let node : Node = (goes_down p (w.node p)).1 in
    let there : IsHeldBy node (storage p) after =
    subst (λ (rs : List Entry). IsHeldBy node rs after) (sym (updated-at scene.storage p records))
    (kept_held draft.entry (w.node p) node (scene.storage p) before after
    (ap is_down h.state) refl refl (ap doubt h.state) was certain left) in
    let next =
    one_moved size old new scene (Fail p) p node storage before after h.is s tells.1 moves
    (λ q. fail_node w p q draft.entry h.cause h.is h.state)
    (λ q not. elsewhere scene.storage p q records not) there in
    let at : GoesTo size new (happens_with storage (Fail p) scene) (reply_text said) =
    (told_so storage (Fail p) said scene tells.0, next) in
    let F : State → Type 0 =
    λ s. GoesTo size new (happens_with (updated scene.storage p (scene.storage p ++ held_by s))
    (Fail p) scene) (reply_text said) in
    subst F (sym h.state) at

-- ---- restarts

-- the store gave what it holds, all of it
pub read : (size : Limits) (old new : Clustered Memory) (scene : Scene) (p : ℕ) (image : List Entry)
    (said : Reply) (before after : Memory)
    → ShowsScene size old scene → is_node scene.world.size.n p ≡ true
    → is_down (scene.world.node p).state ≡ true
    → StoreMoves old.stores p before after new.stores → said ≢ Refused refusal.NoMemory
    → Reacts old.group (Restart p image) said new.group
    → image ≡ with_doubt before.certain before.doubt → after.certain ≡ image
    → after.doubt ≡ None
    → GoesTo size new (answer scene (command.Restart p)) (reply_text said)
read size old new scene p image said before after s is down m not r given certain clear =
    let w : World = scene.world in
    let was = held_before size old scene p before after new.stores is s m in
    let d = down-in (w.node p).state down in
    let same : image ≡ scene.storage p = given ∙ sym was.holds in
    let tells =
    reacted old.group new.group (Restart p (scene.storage p)) said w s.group not
    (subst (λ (rs : List Entry). Reacts old.group (Restart p rs) said new.group) same r) in
    let node : Node = (restarts_with p (scene.storage p) (w.node p) d.0).1 in
    let contents : IsContents (w.node p).records d.0 (scene.storage p) =
    subst (λ (v : State). IsContents (w.node p).records (doubt v) (scene.storage p))
    d.1 was.contents in
    let next =
    one_moved size old new scene (Restart p (scene.storage p))
    p node scene.storage before after is s tells.1 m
    (λ q. restart_node w p q (scene.storage p) d.0 is d.1) (λ q not. refl)
    (restart_with p (scene.storage p) (w.node p) d.0 after d.1 contents (certain ∙ same) clear) in
    (told_so scene.storage (Restart p (scene.storage p)) said scene tells.0, next)

up_stays : (p : ℕ) (image : List Entry) (node : Node) (s : State) → is_down s ≡ false
    → (restarts p image node s).1 ≡ node
up_stays p image node Ready e = refl
up_stays p image node (Storing entry cause) e = refl
up_stays p image node (Down d) e = absurd (cc)

-- an outcome that leaves p as it was leaves each node as it was
pub same_at : (w : World) (p q : ℕ) (o : Reply × Node) → o.1 ≡ w.node p
    → (world_after w p o).1.node q ≡ w.node q
same_at w p q o e =
    cond_both (q == p) o.1 (w.node q) (λ (n : Node). n ≡ w.node q)
    (λ is. e ∙ ap w.node (sym (eqb-true q p is))) (λ _. refl)

-- a restart of what isn't a node that is down leaves each node as it was
pub restart_stays : (w : World) (p q : ℕ) (image : List Entry)
    → (is_node w.size.n p && is_down (w.node p).state) ≡ false
    → (step w (Restart p image)).1.node q ≡ w.node q
unfolding step
restart_stays w p q image e =
    cond_both (is_node w.size.n p) (world_after w p (restarts p image (w.node p) (w.node p).state))
    (Refused refusal.BadNode, w) (λ (o : Reply × World). o.1.node q ≡ w.node q)
    (λ is. same_at w p q (restarts p image (w.node p) (w.node p).state)
    (up_stays p image (w.node p) (w.node p).state
    (up (is_node w.size.n p) (is_down (w.node p).state) is e))) (λ _. refl)
  where
    up : (a b : Bool) → a ≡ true → (a && b) ≡ false → b ≡ false
    up true b i e = e
    up false b i e = absurd (cc)

-- a restart of a node that isn't down
pub not_down : (size : Limits) (old new : Clustered Memory) (scene : Scene) (p : ℕ) (said : Reply)
    → ShowsScene size old scene → (is_node scene.world.size.n p
    && is_down (scene.world.node p).state) ≡ false → said ≢ Refused refusal.NoMemory
    → Reacts old.group (Restart p (scene.storage p)) said new.group → new.stores ≡ old.stores
    → GoesTo size new (answer scene (command.Restart p)) (reply_text said)
not_down size old new scene p said s calm not r same =
    let w : World = scene.world in
    let e : Event = Restart p (scene.storage p) in
    let tells = reacted old.group new.group e said w s.group not r in (
      told_so scene.storage e said scene tells.0,
      record {
        size = step-size w e ∙ s.size;
        group = tells.1;
        stores =
            λ q m is found. subst (λ (n : Node). IsHeldBy n (scene.storage q) m)
            (sym (restart_stays w p q (scene.storage p) calm))
            (s.stores q m is (subst (λ (xs : List Memory). slice_get xs (q - 1) ≡ Some m)
            same found));
        counted = ap length same ∙ s.counted;
        beyond = s.beyond;
      },
    )

-- if a node holds a draft, nothing is in doubt
pub sure_before : (size : Limits) (old : Clustered Memory) (scene : Scene) (p : ℕ) (draft : Placed)
    (before after : Memory) (stores : List Memory)
    → ShowsScene size old scene → held_draft old.group p ≡ Some draft
    → StoreMoves old.stores draft.node before after stores → before.doubt ≡ None
sure_before size old scene p draft before after stores s e m =
    let h = held old.group scene.world p draft s.group e in
    let was =
    held_before size old scene p before after stores h.is s
    (moves_at old.stores stores draft.node p before after h.node m) in
    (was.certain (ap is_down h.state)).1
