-- What every line preserves in a scene.
use Rattle.urb_script.proofs.Common.{Answers, Bool, Cause, Command, Commit, Down, Entry, Event}
use Rattle.urb_script.proofs.Common.{Group, IsContents, IsHeldBy, Limits, List, Memory, Misfit, New}
use Rattle.urb_script.proofs.Common.{Node, None, Old, Option, Plays, Ready, Refused, Reply, Scene}
use Rattle.urb_script.proofs.Common.{Some, State, Storing, Takes, World, [], answer, ap, append-nil}
use Rattle.urb_script.proofs.Common.{at_node, commits, cond_both, doubt, empty_memory, eqb-true}
use Rattle.urb_script.proofs.Common.{event_node, fails, false, false≢true, first_misfit, goes_down}
use Rattle.urb_script.proofs.Common.{happens, happens_with, held_by, inl, inr, is_down, is_node}
use Rattle.urb_script.proofs.Common.{keeps_record, new_scene, pend, receipt, refl, reopens}
use Rattle.urb_script.proofs.Common.{restarts_with, step, step-size, stored, subst, sym, true}
use Rattle.urb_script.proofs.Common.{updated, updated-at, world_after, ℕ, ◌&&◌, ◌++◌, ◌==◌, ◌∙◌}
use Rattle.urb_script.proofs.Common.{◌∷◌, ◌≡◌}
use Rattle.urb_world.proofs.steps.Runs.{new-kept, opened-keeps, run-kept}
use Rattle.urb_world.proofs.steps.ShortPayloads.{opened-short, short-append}
use Rattle.urb_world.proofs.stops.StoppedWorlds.{left-kept}
use Rattle.urb_world.specs.RunInvariant.{AreShort, DoubtShort, IsKept}
use Rattle.urb_world.specs.Step.{Arrive, Crash, Fail, Restart, Submit, Tick, run}
use Rattle.urb_script.proofs.SceneSteps.{IsQuiet, kept_held, quiet_step, restart_with, stored_held}
use Rattle.urb_script.proofs.ClusterScenes.{commit_node, elsewhere, fail_node, restart_node}
use Rattle.urb_script.proofs.ClusterScenes.{restart_stays}
use Rattle.urb_world.proofs.steps.StepCases.{outcome_of, step-cases}
use Rattle.urb_names.specs.declared.refusal.Refusal.TheVariants as refusal
use Rattle.urb_script.specs.Commands as command

-- The world meets its rules. Each storage is what some store of its node may hold. A number that is
-- no node is idle.
pub record IsKeptScene (scene : Scene) : Type 0 where
  pub kept : IsKept scene.world
  pub holds : (p : ℕ) → (m : Memory) × IsHeldBy (scene.world.node p) (scene.storage p) m
  pub idle : (p : ℕ) → is_node scene.world.size.n p ≡ false → (scene.world.node p).state ≡ Ready

-- ---- a world after an event

step_kept : (w : World) (e : Event) → IsKept w → IsKept (step w e).1
unfolding run
step_kept w e k = run-kept w (e ∷ []) k

step_idle : (w : World) (e : Event) (q : ℕ) → is_node w.size.n q ≡ false
    → (step w e).1.node q ≡ w.node q
step_idle w e q not =
    step-cases (λ (o : Reply × World). o.1.node q ≡ w.node q) w e (λ _. refl)
    (λ is. elsewhere w.node (event_node e) q (outcome_of w e).1
    (apart is (q == event_node e) refl))
  where
    apart : is_node w.size.n (event_node e) ≡ true → (b : Bool) → (q == event_node e) ≡ b
        → (q == event_node e) ≡ false
    apart is true f =
        absurd (false≢true (sym not ∙ ap (is_node w.size.n) (eqb-true q (event_node e) f) ∙ is))
    apart is false f = f

-- the scene after an event, if each storage is what some store may hold
after : (scene : Scene) (e : Event) (storage : ℕ → List Entry) → IsKeptScene scene
    → ((p : ℕ) → (m : Memory) × IsHeldBy ((step scene.world e).1.node p) (storage p) m)
    → IsKeptScene (happens_with storage e scene).1
after scene e storage k holds = record {
  kept = step_kept scene.world e k.kept;
  holds = holds;
  idle =
      λ p not. let was : is_node scene.world.size.n p ≡ false =
      subst (λ (l : Limits). is_node l.n p ≡ false) (step-size scene.world e) not in
      ap (λ (n : Node). n.state) (step_idle scene.world e p was) ∙ k.idle p was;
}

abbrev Holds : ℕ → Scene → Type 0
Holds p scene = (m : Memory) × IsHeldBy (scene.world.node p) (scene.storage p) m

-- an event that changed nothing of a node and its storage
same_holds : (p : ℕ) (scene : Scene) (node : Node) (records : List Entry) → Holds p scene
    → node ≡ scene.world.node p → records ≡ scene.storage p → (m : Memory) × IsHeldBy node records m
same_holds p scene node records h e f = (
  h.0,
  subst (λ (n : Node). IsHeldBy n records h.0) (sym e)
      (subst (λ (rs : List Entry). IsHeldBy (scene.world.node p) rs h.0) (sym f) h.1),
)

-- one node and its storage, and the others
one_holds : (scene : Scene) (p q : ℕ) (node : Node) (records : List Entry) → IsKeptScene scene
    → (m : Memory) × IsHeldBy node records m
    → (m : Memory) × IsHeldBy (updated scene.world.node p node q)
    (updated scene.storage p records q) m
one_holds scene p q node records k h = at (q == p) refl
  where
    at : (b : Bool) → (q == p) ≡ b
        → (m : Memory) × IsHeldBy (updated scene.world.node p node q)
        (updated scene.storage p records q) m
    at true e =
        subst (λ (r : ℕ). (m : Memory)
        × IsHeldBy (updated scene.world.node p node r) (updated scene.storage p records r) m)
        (sym (eqb-true q p e)) (
          h.0,
          subst (λ (n : Node). IsHeldBy n (updated scene.storage p records p) h.0)
              (sym (updated-at scene.world.node p node))
              (subst (λ (rs : List Entry). IsHeldBy node rs h.0)
              (sym (updated-at scene.storage p records)) h.1),
        )
    at false e =
        same_holds q scene (updated scene.world.node p node q) (updated scene.storage p records q)
        (k.holds q) (elsewhere scene.world.node p q node e) (elsewhere scene.storage p q records e)

kept_in : (f : ℕ → List Entry) (p q : ℕ) → updated f p (f p ++ []) q ≡ f q
kept_in f p q =
    cond_both (q == p) (f p ++ []) (f q) (λ (rs : List Entry). rs ≡ f q)
    (λ e. append-nil (f p) ∙ ap f (sym (eqb-true q p e))) (λ _. refl)

-- ---- a store that takes or keeps the held record

refused_same : (w : World) (p q : ℕ) (o : Reply × Node) → o.1 ≡ w.node p
    → (at_node w p o).1.node q ≡ w.node q
refused_same w p q o e =
    cond_both (is_node w.size.n p) (world_after w p o) (Refused refusal.BadNode, w)
    (λ (v : Reply × World). v.1.node q ≡ w.node q)
    (λ _. cond_both (q == p) o.1 (w.node q) (λ (n : Node). n ≡ w.node q)
    (λ same. e ∙ ap w.node (sym (eqb-true q p same))) (λ _. refl)) (λ _. refl)

ready_commit : (w : World) (p q position : ℕ) (entry : Entry) → (w.node p).state ≡ Ready
    → (step w (Commit p position entry)).1.node q ≡ w.node q
unfolding step
ready_commit w p q position entry e =
    refused_same w p q _ (ap (λ (s : State). (commits w.size.n p position entry (w.node p) s).1) e)

down_commit : (w : World) (p q position : ℕ) (entry : Entry) (d : Option Entry)
    → (w.node p).state ≡ Down d → (step w (Commit p position entry)).1.node q ≡ w.node q
unfolding step
down_commit w p q position entry d e =
    refused_same w p q _ (ap (λ (s : State). (commits w.size.n p position entry (w.node p) s).1) e)

ready_fail : (w : World) (p q : ℕ) → (w.node p).state ≡ Ready
    → (step w (Fail p)).1.node q ≡ w.node q
unfolding step
ready_fail w p q e = refused_same w p q _ (ap (λ (s : State). (fails p (w.node p) s).1) e)

down_fail : (w : World) (p q : ℕ) (d : Option Entry) → (w.node p).state ≡ Down d
    → (step w (Fail p)).1.node q ≡ w.node q
unfolding step
down_fail w p q d e = refused_same w p q _ (ap (λ (s : State). (fails p (w.node p) s).1) e)

-- p's storage keeps what p holds, and the event changed no node
nothing_held : (scene : Scene) (p : ℕ) (e : Event) → IsKeptScene scene
    → ((q : ℕ) → (step scene.world e).1.node q ≡ scene.world.node q)
    → IsKeptScene (happens_with (updated scene.storage p (scene.storage p ++ [])) e scene).1
nothing_held scene p e k same =
    after scene e (updated scene.storage p (scene.storage p ++ [])) k
    (λ q. same_holds q scene _ _ (k.holds q) (same q) (kept_in scene.storage p q))

-- p's node, and its storage with one more record
one_more : (scene : Scene) (p : ℕ) (e : Event) (node : Node) (entry : Entry) → IsKeptScene scene
    → ((q : ℕ) → (step scene.world e).1.node q ≡ updated scene.world.node p node q)
    → (m : Memory) × IsHeldBy node (scene.storage p ++ entry ∷ []) m
    → IsKeptScene (happens_with (updated scene.storage p (scene.storage p ++ entry ∷ []))
    e scene).1
one_more scene p e node entry k moves h =
    after scene e (updated scene.storage p (scene.storage p ++ entry ∷ [])) k
    (λ q. subst (λ (n : Node). (m : Memory)
    × IsHeldBy n (updated scene.storage p (scene.storage p ++ entry ∷ []) q) m) (sym (moves q))
    (one_holds scene p q node (scene.storage p ++ entry ∷ []) k h))

-- a number that is no node holds nothing, so one that holds something is a node
holder : (scene : Scene) (p : ℕ) (entry : Entry) (cause : Option Cause) → IsKeptScene scene
    → (scene.world.node p).state ≡ Storing entry cause → is_node scene.world.size.n p ≡ true
holder scene p entry cause k e = at (is_node scene.world.size.n p) refl
  where
    at : (b : Bool) → is_node scene.world.size.n p ≡ b → is_node scene.world.size.n p ≡ true
    at true is = is
    at false not = absurd (cc (k.idle p not, e))

keeps_one : (scene : Scene) (p : ℕ) (entry : Entry) (cause : Option Cause) → IsKeptScene scene
    → (scene.world.node p).state ≡ Storing entry cause
    → (m : Memory) × IsHeldBy (keeps_record p entry cause (scene.world.node p))
    (scene.storage p ++ entry ∷ []) m
keeps_one scene p entry cause k e =
    let h = k.holds p in
    let m : Memory = record {
      certain = h.0.certain ++ entry ∷ [];
      doubt = None;
      doubtful =
          false;
      failures = 0;
      armed = None;
    } in (
      m,
      stored_held p entry cause (scene.world.node p) (scene.storage p) h.0 m
          (ap is_down e) h.1 refl refl,
    )

doubts_one : (scene : Scene) (p : ℕ) (entry : Entry) (cause : Option Cause) → IsKeptScene scene
    → (scene.world.node p).state ≡ Storing entry cause
    → (m : Memory) × IsHeldBy (goes_down p (scene.world.node p)).1 (scene.storage p ++ entry ∷ []) m
doubts_one scene p entry cause k e =
    let h = k.holds p in
    let m : Memory = record {
      certain = h.0.certain;
      doubt = Some entry;
      doubtful = true;
      failures =
          0;
      armed = None;
    } in (
      m,
      kept_held entry (scene.world.node p) (goes_down p (scene.world.node p)).1
          (scene.storage p) h.0 m (ap is_down e) refl refl (ap doubt e) h.1 refl refl,
    )

stored_kept : (scene : Scene) (p : ℕ) → IsKeptScene scene
    → IsKeptScene (answer scene (command.Stored p)).1
stored_kept scene p k = at (scene.world.node p).state refl
  where
    at : (s : State) → (scene.world.node p).state ≡ s
        → IsKeptScene (happens_with (updated scene.storage p (scene.storage p ++ held_by s))
        (receipt p (scene.world.node p) s) scene).1
    at Ready e = nothing_held scene p _ k (λ q. ready_commit scene.world p q _ _ e)
    at (Storing entry cause) e =
        one_more scene p _ (keeps_record p entry cause (scene.world.node p)) entry k
        (λ q. commit_node scene.world p q entry cause (holder scene p entry cause k e) e)
        (keeps_one scene p entry cause k e)
    at (Down d) e = nothing_held scene p _ k (λ q. down_commit scene.world p q _ _ d e)

failed_kept : (scene : Scene) (p : ℕ) → IsKeptScene scene
    → IsKeptScene (answer scene (command.Fail p New)).1
failed_kept scene p k = at (scene.world.node p).state refl
  where
    at : (s : State) → (scene.world.node p).state ≡ s
        → IsKeptScene (happens_with (updated scene.storage p (scene.storage p ++ held_by s))
        (Fail p) scene).1
    at Ready e = nothing_held scene p (Fail p) k (λ q. ready_fail scene.world p q e)
    at (Storing entry cause) e =
        one_more scene p (Fail p) (goes_down p (scene.world.node p)).1 entry k
        (λ q. fail_node scene.world p q entry cause (holder scene p entry cause k e) e)
        (doubts_one scene p entry cause k e)
    at (Down d) e = nothing_held scene p (Fail p) k (λ q. down_fail scene.world p q d e)

-- ---- a restart

comes_back : (scene : Scene) (p : ℕ) (d : Option Entry) → IsKeptScene scene
    → is_node scene.world.size.n p ≡ true → (scene.world.node p).state ≡ Down d
    → IsKeptScene (answer scene (command.Restart p)).1
comes_back scene p d k is e =
    let h = k.holds p in
    let m : Memory = record {
      certain = scene.storage p;
      doubt = None;
      doubtful = false;
      failures =
          0;
      armed = None;
    } in
    let contents : IsContents (scene.world.node p).records d (scene.storage p) =
    subst (λ (s : State). IsContents (scene.world.node p).records (doubt s) (scene.storage p))
    e h.1.contents in
    let up : IsHeldBy (restarts_with p (scene.storage p) (scene.world.node p) d).1
    (scene.storage p) m = restart_with p (scene.storage p)
    (scene.world.node p) d m e contents refl refl in
    after scene (Restart p (scene.storage p)) scene.storage k
    (λ q. subst (λ (n : Node). (m : Memory) × IsHeldBy n (scene.storage q) m)
    (sym (restart_node scene.world p q (scene.storage p) d is e)) (here q m up (q == p) refl))
  where
    here : (q : ℕ) (m : Memory) → IsHeldBy
        (restarts_with p (scene.storage p) (scene.world.node p) d).1 (scene.storage p) m
        → (b : Bool) → (q == p) ≡ b
        → (m : Memory) × IsHeldBy (updated scene.world.node p
        (restarts_with p (scene.storage p) (scene.world.node p) d).1 q) (scene.storage q) m
    here q m up true same =
        subst (λ (r : ℕ). (m : Memory)
        × IsHeldBy (updated scene.world.node p
        (restarts_with p (scene.storage p) (scene.world.node p) d).1 r) (scene.storage r) m)
        (sym (eqb-true q p same)) (
          m,
          subst (λ (n : Node). IsHeldBy n (scene.storage p) m)
              (sym (updated-at scene.world.node p
              (restarts_with p (scene.storage p) (scene.world.node p) d).1)) up,
        )
    here q m up false not =
        same_holds q scene _ (scene.storage q) (k.holds q)
        (elsewhere scene.world.node p q
        (restarts_with p (scene.storage p) (scene.world.node p) d).1 not) refl

stays_away : (scene : Scene) (p : ℕ) → IsKeptScene scene
    → (is_node scene.world.size.n p && is_down (scene.world.node p).state) ≡ false
    → IsKeptScene (answer scene (command.Restart p)).1
stays_away scene p k e =
    after scene (Restart p (scene.storage p)) scene.storage k
    (λ q. same_holds q scene _ (scene.storage q) (k.holds q)
    (restart_stays scene.world p q (scene.storage p) e) refl)

restart_kept : (scene : Scene) (p : ℕ) → IsKeptScene scene
    → IsKeptScene (answer scene (command.Restart p)).1
restart_kept scene p k = at (is_node scene.world.size.n p) (scene.world.node p).state refl refl
  where
    at : (b : Bool) (s : State) → is_node scene.world.size.n p ≡ b → (scene.world.node p).state ≡ s
        → IsKeptScene (answer scene (command.Restart p)).1
    at true (Down d) is e = comes_back scene p d k is e
    at true Ready is e = stays_away scene p k (rw (is, e) refl)
    at true (Storing entry cause) is e = stays_away scene p k (rw (is, e) refl)
    at false s is e = stays_away scene p k (rw is refl)

-- ---- the whole process stops

left_short : (records : List Entry) (d : Option Entry) (image : List Entry)
    → AreShort (pend records) → DoubtShort d → IsContents records d image → AreShort (pend image)
left_short records None image s t c = subst (λ (rs : List Entry). AreShort (pend rs)) (sym c) s
left_short records (Some r) image s t (inl e) =
    subst (λ (rs : List Entry). AreShort (pend rs)) (sym e) s
left_short records (Some r) image s t (inr e) =
    subst (λ (rs : List Entry). AreShort (pend rs)) (sym e) (short-append records (r ∷ []) s t)

opened_kept : (scene : Scene) → IsKeptScene scene → IsKeptScene (reopens None scene).1
opened_kept scene k = record {
  kept = record {
    nodes =
        opened-keeps scene.world.size scene.storage
        (left-kept scene.world k.kept.nodes scene.storage (λ p. (k.holds p).1.contents));
    short =
        opened-short scene.world.size scene.storage
        (λ p. left_short (stored scene.world p) (doubt (scene.world.node p).state) (scene.storage p)
        (k.kept.short p).stored (k.kept.short p).doubtful (k.holds p).1.contents);
  };
  holds =
      λ p. (
        record {
          certain = scene.storage p;
          doubt = None;
          doubtful = false;
          failures =
              0;
          armed = None;
        },
        record { holds = refl; contents = refl; certain = λ up. (refl, refl) },
      );
  idle = λ p not. refl;
}

reopen_kept : (scene : Scene) → IsKeptScene scene → IsKeptScene (answer scene command.Reopen).1
reopen_kept scene k = at (first_misfit scene.world.size scene.storage)
  where
    at : (o : Option Misfit) → IsKeptScene (reopens o scene).1
    at None = opened_kept scene k
    at (Some misfit) = k

-- ---- each line

quiet_kept : (scene : Scene) (e : Event) → IsQuiet e → IsKeptScene scene
    → IsKeptScene (happens e scene).1
quiet_kept scene e i k =
    after scene e scene.storage k
    (λ q. let h = k.holds q in (h.0, quiet_step scene.world e q (scene.storage q) h.0 i h.1))

answer_kept : (scene : Scene) (asked : Command) → IsKeptScene scene
    → IsKeptScene (answer scene asked).1
answer_kept scene (command.Group limits) k = k
answer_kept scene (command.Submit p client number payload) k = quiet_kept scene _ tt k
answer_kept scene (command.Stored p) k = stored_kept scene p k
answer_kept scene (command.Fail p Old) k = quiet_kept scene (Fail p) tt k
answer_kept scene (command.Fail p New) k = failed_kept scene p k
answer_kept scene (command.Crash p) k = quiet_kept scene (Crash p) tt k
answer_kept scene (command.Restart p) k = restart_kept scene p k
answer_kept scene command.Reopen k = reopen_kept scene k
answer_kept scene (command.Arrive q p x) k = quiet_kept scene _ tt k
answer_kept scene (command.ArriveFlagged q p x flags) k = quiet_kept scene _ tt k
answer_kept scene (command.Raw p bytes) k = quiet_kept scene _ tt k
answer_kept scene (command.Tick p) k = quiet_kept scene (Tick p) tt k
answer_kept scene (command.Log p) k = k
answer_kept scene (command.Held x) k = k

-- the state so far is kept
abbrev pub IsKeptSo : Option Scene → Type 0
IsKeptSo None = Unit {0}
IsKeptSo (Some scene) = IsKeptScene scene

started_kept : (limits : Limits) → IsKeptScene (new_scene limits)
started_kept limits = record {
  kept = new-kept limits;
  holds =
      λ p. (empty_memory, record { holds = refl; contents = refl; certain = λ up. (refl, refl) });
  idle = λ p not. refl;
}

-- a line is answered as its scene says
pub plays_answer : (scene : Scene) (asked : Command) (text : List ℕ) (new : Scene)
    → Plays (Some scene) asked text new → ◌≡◌ {A = List ℕ × Scene} (text, new) (answer scene asked)
plays_answer scene (Group limits) text new t = absurd t
plays_answer scene asked text new t = t

plays_kept : (old : Option Scene) (asked : Command) (text : List ℕ) (new : Scene) → IsKeptSo old
    → Plays old asked text new → IsKeptScene new
plays_kept None (Group limits) text new k t = subst IsKeptScene (sym t.1) (started_kept limits)
plays_kept None asked text new k t = absurd t
plays_kept (Some scene) asked text new k t =
    subst IsKeptScene (sym (ap (λ (o : List ℕ × Scene). o.1) (plays_answer scene asked text new t)))
    (answer_kept scene asked k)

-- a line that is taken from a kept scene leads to a kept scene
pub takes_kept : (old : Option Scene) (asked : Command) (text : List ℕ) (new : Scene) → IsKeptSo old
    → Takes old asked text new → IsKeptScene new
takes_kept old asked text new k (inl t) = plays_kept old asked text new k t
takes_kept old asked text new k (inr t) = plays_kept old t.0 text new k t.2

-- lines that are answered from a kept scene lead to a kept scene
pub answers_kept : (old : Option Scene) (lines : List (List ℕ)) (output : List ℕ) (new : Scene)
    → IsKeptSo old → Answers Takes old lines output (Some new) → IsKeptScene new
answers_kept old [] output new k a = subst IsKeptSo (sym a.1) k
answers_kept old (line ∷ lines) output new k a =
    answers_kept (Some a.2) lines a.3 new (takes_kept old a.0 a.1 a.2 k a.5) a.7
