-- Log lines show safe logs, which agree.
use Rattle.urb_script.proofs.Common.{Answers, ArriveFlagged, Bool, Command, Content, Entry, Event}
use Rattle.urb_script.proofs.Common.{Group, Held, Label, List, Log, Misfit, New, None, Old, Option}
use Rattle.urb_script.proofs.Common.{Plays, Raw, Reopen, Scene, Some, Spells, Takes, World, []}
use Rattle.urb_script.proofs.Common.{answer, ap, append_assoc, entries, false, first_misfit, inl}
use Rattle.urb_script.proofs.Common.{inr, log, map, message_of, pend, refl, reopens, shown_log}
use Rattle.urb_script.proofs.Common.{step, stored, subst, sym, true, ℕ, ⊎_elim, ◌++◌, ◌==◌, ◌∙◌}
use Rattle.urb_script.proofs.Common.{◌∷◌, ◌≡◌}
use Rattle.std.proofs.Common.{filter}
use Rattle.std.proofs.lemmas.List.Elements.{filter-append}
use Rattle.urb_names.specs.ListPrefixes.{Begins, OneBegins}
use Rattle.urb_names.specs.Release.{part_of}
use Rattle.urb_stable.specs.DeliveredLogs.{entries_of}
use Rattle.urb_world.proofs.safety.AgreeingLogs.{agree-now, both_begin, entries-all_grow}
use Rattle.urb_world.proofs.steps.Growth.{begins-itself, begins-trans, step-goes_on}
use Rattle.urb_world.proofs.safety.SafeWorlds.{safe}
use Rattle.urb_world.proofs.stops.StoppedWorlds.{survives}
use Rattle.urb_world.specs.RunMoments.{EntriesGrow}
use Rattle.urb_world.specs.SafetyProperties.{Safe}
use Rattle.urb_script.specs.Commands.{Arrive, Crash, Fail, Restart, Stored, Submit, Tick}
use Rattle.urb_script.specs.LogLines.{LogsAgree, LogsAreSafe}
use Rattle.urb_script.specs.Scripts.{StaysSafe}
use Rattle.urb_script.proofs.Outcomes.{spells_one}
use Rattle.urb_script.proofs.SceneRules.{IsKeptScene, answers_kept, plays_answer, takes_kept}

-- ---- answers, cut in two

record Parted (first second : List (List ℕ)) (output : List ℕ)
    (old new : Option Scene) : Type 0 where
  mid : Option Scene
  said : List ℕ
  heard : List ℕ
  is : output ≡ said ++ heard
  before : Answers Takes old first said mid
  after : Answers Takes mid second heard new

parted : (first second : List (List ℕ)) (output : List ℕ) (old new : Option Scene)
    → Answers Takes old (first ++ second) output new → Parted first second output old new
parted [] second output old new a =
    record { mid = old; said = []; heard = output; is = refl; before = (refl, refl); after = a }
parted (line ∷ first) second output old new a =
    let k = parted first second a.3 (Some a.2) new a.7 in
    record {
      mid = k.mid;
      said = a.1 ++ 10 ∷ k.said;
      heard = k.heard;
      is =
          a.6 ∙ ap (λ (xs : List ℕ). a.1 ++ 10 ∷ xs) k.is
          ∙ sym (append_assoc a.1 (10 ∷ k.said) k.heard);
      before = (a.0, a.1, a.2, k.said, a.4, a.5, refl, k.before);
      after = k.after;
    }

-- ---- a log line

record Shows (scene : Scene) (p : ℕ) (later : List (List ℕ)) (output : List ℕ)
    (new : Option Scene) : Type 0 where
  rest : List ℕ
  is : output ≡ shown_log scene.world p ++ 10 ∷ rest
  after : Answers Takes (Some scene) later rest new

log_plays : (scene next : Scene) (p : ℕ) (text : List ℕ) → Takes (Some scene) (Log p) text next
    → (text ≡ shown_log scene.world p) × (next ≡ scene)
log_plays scene next p text (inl t) =
    (ap (λ (o : List ℕ × Scene). o.0) t, ap (λ (o : List ℕ × Scene). o.1) t)
log_plays scene next p text (inr t) = absurd t.1

record Starts (state : Option Scene) (p : ℕ) (later : List (List ℕ)) (output : List ℕ)
    (new : Option Scene) : Type 0 where
  scene : Scene
  was : state ≡ Some scene
  shows : Shows scene p later output new

log_shows : (state : Option Scene) (line : List ℕ) (p : ℕ) (later : List (List ℕ)) (output : List ℕ)
    (new : Option Scene) → Spells line (Log p) → Answers Takes state (line ∷ later) output new
    → Starts state p later output new
log_shows None line p later output new s a =
    let asked : a.0 ≡ Log p = spells_one line a.0 (Log p) a.4 s in
    absurd (none (subst (λ (c : Command). Takes None c a.1 a.2) asked a.5))
  where
    none : Takes None (Log p) a.1 a.2 → ⊥
    none (inl t) = t
    none (inr t) = t.1
log_shows (Some scene) line p later output new s a =
    let asked : a.0 ≡ Log p = spells_one line a.0 (Log p) a.4 s in
    let is =
    log_plays scene a.2 p a.1 (subst (λ (c : Command). Takes (Some scene) c a.1 a.2) asked a.5)
    in
    record {
      scene = scene;
      was = refl;
      shows = record {
        rest = a.3;
        is = a.6 ∙ ap (λ (xs : List ℕ). xs ++ 10 ∷ a.3) is.0;
        after = subst (λ (next : Scene). Answers Takes (Some next) later a.3 new) is.1 a.7;
      };
    }

-- ---- logs that are shown are safe

safe_scene : (scene : Scene) → IsKeptScene scene → Safe scene.world
safe_scene scene k = safe scene.world k.kept.nodes

-- whichever lines are answered, the world that they lead to is safe
pub stays_safe : StaysSafe
stays_safe lines output scene a = safe_scene scene (answers_kept None lines output scene tt a)

-- a log line shows a log of a safe world
pub logs_are_safe : LogsAreSafe
logs_are_safe earlier later line output p state s a =
    let k = parted earlier (line ∷ later) output None state a in
    let l = log_shows k.mid line p later k.heard state s k.after in
    let before : Answers Takes None earlier k.said (Some l.scene) =
    subst (λ (m : Option Scene). Answers Takes None earlier k.said m) l.was k.before in
    record {
      scene = l.scene;
      said = k.said;
      rest = l.shows.rest;
      before = before;
      shown = k.is ∙ ap (λ (xs : List ℕ). k.said ++ xs) l.shows.is;
      safe = safe_scene l.scene (answers_kept None earlier k.said l.scene tt before);
    }

-- ---- logs grow from line to line

-- each node's log, its names with their messages, only grows at its end
abbrev Grow : World → World → Type 0
Grow old new = EntriesGrow old new

grow_same : (w : World) → Grow w w
grow_same w p = begins-itself (entries (stored w p))

event_grows : (scene : Scene) (e : Event) → IsKeptScene scene
    → Grow scene.world (step scene.world e).1
event_grows scene e k =
    entries-all_grow scene.world (step scene.world e).1 (safe_scene scene k)
    (step-goes_on scene.world e)

reopen_grows : (scene : Scene) (o : Option Misfit) → IsKeptScene scene
    → Grow scene.world (reopens o scene).1.world
reopen_grows scene None k =
    (survives scene.world k.kept scene.storage (λ p. (k.holds p).1.contents)).entries
reopen_grows scene (Some misfit) k = grow_same scene.world

answer_grows : (scene : Scene) (asked : Command) → IsKeptScene scene
    → Grow scene.world (answer scene asked).1.world
answer_grows scene (Group limits) k = grow_same scene.world
answer_grows scene (Submit p client number payload) k = event_grows scene _ k
answer_grows scene (Stored p) k = event_grows scene _ k
answer_grows scene (Fail p Old) k = event_grows scene _ k
answer_grows scene (Fail p New) k = event_grows scene _ k
answer_grows scene (Crash p) k = event_grows scene _ k
answer_grows scene (Restart p) k = event_grows scene _ k
answer_grows scene Reopen k = reopen_grows scene (first_misfit scene.world.size scene.storage) k
answer_grows scene (Arrive q p x) k = event_grows scene _ k
answer_grows scene (ArriveFlagged q p x flags) k = event_grows scene _ k
answer_grows scene (Raw p bytes) k = event_grows scene _ k
answer_grows scene (Tick p) k = event_grows scene _ k
answer_grows scene (Log p) k = grow_same scene.world
answer_grows scene (Held x) k = grow_same scene.world

plays_grows : (scene : Scene) (asked : Command) (text : List ℕ) (new : Scene) → IsKeptScene scene
    → Plays (Some scene) asked text new → Grow scene.world new.world
plays_grows scene asked text new k t =
    subst (λ (next : Scene). Grow scene.world next.world)
    (sym (ap (λ (o : List ℕ × Scene). o.1) (plays_answer scene asked text new t)))
    (answer_grows scene asked k)

takes_grows : (scene : Scene) (asked : Command) (text : List ℕ) (new : Scene) → IsKeptScene scene
    → Takes (Some scene) asked text new → Grow scene.world new.world
takes_grows scene asked text new k (inl t) = plays_grows scene asked text new k t
takes_grows scene asked text new k (inr t) = plays_grows scene t.0 text new k t.2

answers_grow : (old : Scene) (lines : List (List ℕ)) (output : List ℕ) (new : Scene)
    → IsKeptScene old → Answers Takes (Some old) lines output (Some new) → Grow old.world new.world
answers_grow old [] output new k a =
    subst (λ (scene : Scene). Grow old.world scene.world) (some_same a.1) (grow_same old.world)
  where
    some_same : {x y : Scene} → Some x ≡ Some y → y ≡ x
    some_same e = cc
answers_grow old (line ∷ lines) output new k a = λ p.
    begins-trans _ _ _ (takes_grows old a.0 a.1 a.2 k a.5 p)
    (answers_grow a.2 lines a.3 new (takes_kept (Some old) a.0 a.1 a.2 k a.5) a.7 p)

-- ---- logs that are shown agree

-- one sender's entries are the entries of its names among all
of_sender : (s : ℕ) (xs : List Label) (f : Label → Option Content)
    → map (λ x. (x, f x)) (part_of s xs) ≡ filter (λ (e : Label × Option Content). e.0.sender == s)
    (map (λ x. (x, f x)) xs)
of_sender s [] f = refl
of_sender s (x ∷ xs) f = at (of_sender s xs f) (x.sender == s) refl
  where
    at : map (λ x. (x, f x)) (part_of s xs) ≡ filter
        (λ (e : Label × Option Content). e.0.sender == s) (map (λ x. (x, f x)) xs)
        → (b : Bool) → (x.sender == s) ≡ b
        → map (λ x. (x, f x)) (part_of s (x ∷ xs)) ≡ filter
        (λ (e : Label × Option Content). e.0.sender == s) (map (λ x. (x, f x)) (x ∷ xs))
    at rest true e = rw e (ap (λ (es : List (Label × Option Content)). (x, f x) ∷ es) rest)
    at rest false e = rw e rest

part_grows : (s : ℕ) (old new : List Entry) → Begins (entries old) (entries new)
    → Begins (entries_of s old) (entries_of s new)
part_grows s old new b =
    subst (λ (es : List (Label × Option Content)). Begins es (entries_of s new))
    (sym (of_sender s (log old) (message_of (pend old))))
    (subst (λ (es : List (Label × Option Content)).
    Begins (filter (λ e. e.0.sender == s) (entries old)) es)
    (sym (of_sender s (log new) (message_of (pend new)))) (
      filter (λ e. e.0.sender == s) b.0,
      sym (filter-append _ (entries old) b.0) ∙ ap (filter (λ e. e.0.sender == s)) b.1,
    ))

agree_on : (old new : World) (p q s : ℕ) → Grow old new → Safe new
    → OneBegins (entries_of s (stored old p)) (entries_of s (stored new q))
agree_on old new p q s g safe =
    let grown : Begins (entries_of s (stored old p)) (entries_of s (stored new p)) =
    part_grows s (stored old p) (stored new p) (g p) in
    ⊎_elim (λ h. inl (begins-trans _ _ _ grown h)) (λ h. both_begin _ _ _ grown h)
    (agree-now new safe p q s)

-- any two log lines of a script show logs that agree
pub logs_agree : LogsAgree
logs_agree earlier between later line other output p q state s o a =
    let k = parted earlier (line ∷ (between ++ other ∷ later)) output None state a in
    let l = log_shows k.mid line p (between ++ other ∷ later) k.heard state s k.after in
    let m = parted between (other ∷ later) l.shows.rest (Some l.scene) state l.shows.after in
    let n = log_shows m.mid other q later m.heard state o m.after in
    let before : Answers Takes None earlier k.said (Some l.scene) =
    subst (λ (x : Option Scene). Answers Takes None earlier k.said x) l.was k.before in
    let meanwhile : Answers Takes (Some l.scene) between m.said (Some n.scene) =
    subst (λ (x : Option Scene). Answers Takes (Some l.scene) between m.said x)
    n.was m.before in
    let kept : IsKeptScene l.scene = answers_kept None earlier k.said l.scene tt before in
    let later_kept : IsKeptScene n.scene =
    answers_kept (Some l.scene) between m.said n.scene kept meanwhile in
    record {
      old = l.scene;
      new = n.scene;
      said = k.said;
      heard = m.said;
      rest = n.shows.rest;
      before = before;
      meanwhile = meanwhile;
      shown =
          k.is ∙ ap (λ (xs : List ℕ). k.said ++ xs)
          (l.shows.is ∙ ap (λ (xs : List ℕ). shown_log l.scene.world p ++ 10 ∷ xs)
          (m.is ∙ ap (λ (xs : List ℕ). m.said ++ xs) n.shows.is));
      agree =
          λ s. agree_on l.scene.world n.scene.world p q s
          (answers_grow l.scene between m.said n.scene kept meanwhile)
          (safe_scene n.scene later_kept);
    }
