-- What a cluster with stores in memory answers is an answer to the line of the script.
use Rattle.urb_script.proofs.Common.{All, Bool, Carried, Clustered, Command, Content, Entry, Err}
use Rattle.urb_script.proofs.Common.{Event, Failure, Flags, Gives, IfOk, IsHeldBy, Label, Limits}
use Rattle.urb_script.proofs.Common.{List, Memory, New, None, Ok, Old, OnOk, Option, Placed, Plays}
use Rattle.urb_script.proofs.Common.{Refused, Reply, Result, Scene, Shows, ShowsScene, Some, State}
use Rattle.urb_script.proofs.Common.{Steps, StoreMoves, Takes, [], answer, ap, ap₂, empty_memory}
use Rattle.urb_script.proofs.Common.{false, happens, held_draft, in_memory, inl, inr, is_down}
use Rattle.urb_script.proofs.Common.{is_node, length, new_scene, opened_node, refl, refusal_of}
use Rattle.urb_script.proofs.Common.{reply_text, slice_index_or, subst, suc, sym, told_text, true}
use Rattle.urb_script.proofs.Common.{zero, ℕ, ◌&&◌, ◌++◌, ◌+◌, ◌-◌, ◌∙◌, ◌∷◌, ◌≡◌, ◌≢◌, ◌⊎◌}
use Rattle.std.proofs.Common.{slice_get}
use Rattle.urb_stable.specs.KeptDrafts.{Keeps}
use Rattle.urb_stable.specs.MemoryStores.{armed_with}
use Rattle.urb_stable.specs.StableStorage.{IsPlaced, is_out_of_place, is_place}
use Rattle.urb_stable.specs.declared.stable.StoreFault.{StoreFault}
use Rattle.urb_world.specs.Scenes.{flags_with, or_nothing}
use Rattle.urb_world.specs.Step.{Arrive, Crash, Submit, Tick}
use Rattle.urb_group.specs.ClusterCalls.{Alone, Applies, Breaks, FailsHeld, RestartsBy, Returns}
use Rattle.urb_group.specs.ClusterCalls.{StoresHeld, is_fallen, stored_as}
use Rattle.urb_group.specs.GroupCalls.{FindsMessage}
use Rattle.urb_script.specs.Commands.{Fail, Restart, Stored}
use Rattle.urb_script.specs.internal.ShownScenes.{StoresAsAsked}
use Rattle.urb_script.specs.Steps.{carried}
use Rattle.std.proofs.lemmas.Option.{slice_get_within}
use Rattle.urb_world.specs.World.{started}
use Rattle.urb_names.specs.declared.refusal.PacketFault.{PacketFault}
use Rattle.urb_names.specs.PacketGrammar.{IsPacket, packet_of, spelling}
use Rattle.urb_names.proofs.JudgedBytes.{packet_spelled}
use Rattle.urb_script.specs.internal.CommandLines.{line_of}
use Rattle.urb_script.specs.internal.ReplyTexts.{IsToldAs}
use Rattle.urb_script.proofs.SceneSteps.{IsQuiet}
use Rattle.urb_script.proofs.ClusterScenes.{GoesTo, kept, lost, not_down, quiet_scene, read}
use Rattle.urb_script.proofs.ClusterScenes.{sure_before, took}
use Rattle.std.proofs.lemmas.Bool.{and_parts}
use Rattle.urb_names.specs.declared.refusal.Refusal.TheVariants as refusal
use Rattle.urb_world.specs.Step as event
use Rattle.urb_script.specs.declared.answer_words.FixedAnswer.TheVariants as told
use Rattle.urb_script.specs.Commands as lines
use Rattle.urb_script.specs.internal.CommandLines as made
use Rattle.urb_group.specs.declared.command.Command as acts
use Rattle.urb_group.specs.declared.command.Command.TheVariants as act

-- the line has this answer, and a scene that it leads to is shown
abbrev pub TakesTo : Limits → Clustered Memory → Scene → Command → List ℕ → Type 0
TakesTo size new scene asked text =
    (after : Scene) × ShowsScene size new after × Takes (Some scene) asked text after

-- depending on what the command plays
abbrev IsPlayed : Scene → Command → Type 0
IsPlayed scene asked =
    (text : List ℕ) (new : Scene) → ◌≡◌ {A = List ℕ × Scene} (text, new) (answer scene asked)
    → Plays (Some scene) asked text new

as_asked : (size : Limits) (new : Clustered Memory) (scene : Scene) (asked : Command)
    (text : List ℕ) → IsPlayed scene asked → GoesTo size new (answer scene asked) text
    → TakesTo size new scene asked text
as_asked size new scene asked text plays g =
    ((answer scene asked).1, g.1, inl (plays text (answer scene asked).1 g.0))

-- ---- stores

-- an `Err` answer, by whether the store was out of place
failed_store : (size : Limits) (old new : Clustered Memory) (scene : Scene) (p : ℕ) (draft : Placed)
    (said : Reply) (before after : Memory)
    → ShowsScene size old scene → held_draft old.group p ≡ Some draft
    → StoreMoves old.stores draft.node before after new.stores
    → Steps old.group (event.Fail draft.node) (λ told. told ≡ said) new.group
    → after.certain ≡ before.certain
    → (after.doubt ≡ None) ⊎ (after.doubt ≡ Some draft.entry)
    → TakesTo size new scene (Stored p) (reply_text said)
failed_store size old new scene p draft said before after s e m steps certain (inl none) =
    let g = lost size old new scene p draft said before after s e m steps certain none in
    ((answer scene (Fail p Old)).1, g.1, inr (Fail p Old, inl refl, g.0))
failed_store size old new scene p draft said before after s e m steps certain (inr some) =
    let g = kept size old new scene p draft said before after s e m steps certain some in
    ((answer scene (Fail p New)).1, g.1, inr (Fail p New, inr refl, g.0))

-- what is in doubt once a store failed
left_doubt : (b : Bool) (before : Memory) (draft : Placed) (e : StoreFault) (after : Memory)
    → IsPlaced {A = Unit {0}} b (length before.certain + 1) (Err e) → (b ≡ true → after ≡ before)
    → before.doubt ≡ None
    → (is_place e ≡ false → (after.doubt ≡ None) ⊎ (after.doubt ≡ Some draft.entry))
    → (after.doubt ≡ None) ⊎ (after.doubt ≡ Some draft.entry)
left_doubt true before draft e after placed same none doubt =
    inl (ap (λ (m : Memory). m.doubt) (same refl) ∙ none)
left_doubt false before draft e after placed same none doubt = doubt placed.0

stored_by : (A : Type 0) (size : Limits) (old new : Clustered Memory) (scene : Scene) (p : ℕ)
    (draft : Placed) (said : Reply) (before after : Memory)
    (answered : Result (Unit {0}) StoreFault)
    → ShowsScene size old scene → held_draft old.group p ≡ Some draft
    → StoreMoves old.stores draft.node before after new.stores
    → Keeps (in_memory A) before draft answered after
    → Steps old.group (stored_as draft answered) (λ told. told ≡ said) new.group
    → TakesTo size new scene (Stored p) (reply_text said)
stored_by A size old new scene p draft said before after (Ok done) s e m k steps =
    as_asked size new scene (Stored p) (reply_text said) (λ text next is. is)
    (took size old new scene p draft said before after s e m steps (k.appended tt).stored
    k.doubted.clear.1)
stored_by A size old new scene p draft said before after (Err why) s e m k steps =
    failed_store size old new scene p draft said before after s e m steps (k.appended tt).failed
    (left_doubt (is_out_of_place before.doubtful (length before.certain + 1) draft.pos)
    before draft why after k.placed k.same
    (sure_before size old scene p draft before after new.stores s e m) k.doubted.doubt)

by_draft : (A : Type 0) (size : Limits) (old new : Clustered Memory) (scene : Scene) (p : ℕ)
    (draft : Option Placed) (said : Reply) → ShowsScene size old scene
    → said ≢ Refused refusal.NoMemory → held_draft old.group p ≡ draft
    → StoresHeld (in_memory A) old p draft said new
    → TakesTo size new scene (Stored p) (reply_text said)
by_draft A size old new scene p None said s not e r =
    let next = quiet_scene size old new scene (event.Fail p) said tt s not r.0 r.1 in
    ((answer scene (Fail p Old)).1, next.1, inr (Fail p Old, inl refl, next.0))
by_draft A size old new scene p (Some draft) said s not e r =
    stored_by A size old new scene p draft said r.before r.after r.stored.answer s e r.moves
    r.stored.keeps r.stored.event

-- unless memory is refused, the answer to `stored` is its reply, and a scene that it leads to is
-- shown
pub takes_stored : (A : Type 0) (size : Limits) (old new : Clustered Memory) (scene : Scene) (p : ℕ)
    (said : Reply) → ShowsScene size old scene → said ≢ Refused refusal.NoMemory
    → StoresHeld (in_memory A) old p (held_draft old.group p) said new
    → TakesTo size new scene (Stored p) (reply_text said)
takes_stored A size old new scene p said s not r =
    by_draft A size old new scene p (held_draft old.group p) said s not refl r

-- ---- stores that are asked to fail

-- a store that kept nothing
fails_old : (size : Limits) (old new : Clustered Memory) (scene : Scene) (p : ℕ) (failure : Failure)
    (text : List ℕ) → GoesTo size new (answer scene (Fail p Old)) text
    → TakesTo size new scene (Fail p failure) text
fails_old size old new scene p Old text g =
    as_asked size new scene (Fail p Old) text (λ said next is. is) g
fails_old size old new scene p New text g =
    ((answer scene (Fail p Old)).1, g.1, inr (Fail p Old, refl, g.0))

broken : (size : Limits) (old new : Clustered Memory) (scene : Scene) (p : ℕ) (draft : Placed)
    (failure : Failure) (said : Reply) (before after : Memory) (b : Bool)
    → ShowsScene size old scene → held_draft old.group p ≡ Some draft
    → StoreMoves old.stores draft.node before after new.stores
    → Steps old.group (event.Fail draft.node) (λ told. told ≡ said) new.group
    → before.doubt ≡ None → Breaks b failure (armed_with failure before) draft.entry after
    → TakesTo size new scene (Fail p failure) (reply_text said)
broken size old new scene p draft failure said before after true s e m steps none breaks =
    fails_old size old new scene p failure (reply_text said)
    (lost size old new scene p draft said before after s e m steps
    (ap (λ (a : Memory). a.certain) breaks) (ap (λ (a : Memory). a.doubt) breaks ∙ none))
broken size old new scene p draft Old said before after false s e m steps none (inl breaks) =
    fails_old size old new scene p Old (reply_text said)
    (lost size old new scene p draft said before after s e m steps
    (ap (λ (a : Memory). a.certain) breaks) (ap (λ (a : Memory). a.doubt) breaks))
broken size old new scene p draft Old said before after false s e m steps none (inr breaks) =
    fails_old size old new scene p Old (reply_text said)
    (lost size old new scene p draft said before after s e m steps
    (ap (λ (a : Memory). a.certain) breaks) (ap (λ (a : Memory). a.doubt) breaks ∙ none))
broken size old new scene p draft New said before after false s e m steps none (inl breaks) =
    as_asked size new scene (Fail p New) (reply_text said) (λ text next is. is)
    (kept size old new scene p draft said before after s e m steps
    (ap (λ (a : Memory). a.certain) breaks) (ap (λ (a : Memory). a.doubt) breaks))
broken size old new scene p draft New said before after false s e m steps none (inr breaks) =
    fails_old size old new scene p New (reply_text said)
    (lost size old new scene p draft said before after s e m steps
    (ap (λ (a : Memory). a.certain) breaks) (ap (λ (a : Memory). a.doubt) breaks ∙ none))

fails_draft : (size : Limits) (old new : Clustered Memory) (scene : Scene) (p : ℕ)
    (draft : Option Placed) (failure : Failure) (said : Reply) → ShowsScene size old scene
    → said ≢ Refused refusal.NoMemory
    → held_draft old.group p ≡ draft → FailsHeld old p draft failure said new
    → TakesTo size new scene (Fail p failure) (reply_text said)
fails_draft size old new scene p None failure said s not e r =
    fails_old size old new scene p failure (reply_text said)
    (quiet_scene size old new scene (event.Fail p) said tt s not r.0 r.1)
fails_draft size old new scene p (Some draft) failure said s not e r =
    broken size old new scene p draft failure said r.before r.after
    (is_out_of_place r.before.doubtful (length r.before.certain + 1) draft.pos)
    s e r.moves r.event (sure_before size old scene p draft r.before r.after new.stores s e
    r.moves) r.breaks

-- unless memory is refused, the answer to `fail` is its reply, and a scene that it leads to is
-- shown
pub takes_fail : (size : Limits) (old new : Clustered Memory) (scene : Scene) (p : ℕ)
    (failure : Failure) (said : Reply) → ShowsScene size old scene → said ≢ Refused refusal.NoMemory
    → FailsHeld old p (held_draft old.group p) failure said new
    → TakesTo size new scene (Fail p failure) (reply_text said)
takes_fail size old new scene p failure said s not r =
    fails_draft size old new scene p (held_draft old.group p) failure said s not refl r

-- ---- restarts

fallen_is : (size : Limits) (old : Clustered Memory) (scene : Scene) (p : ℕ)
    → ShowsScene size old scene → is_fallen old.group p
    ≡ (is_node scene.world.size.n p && is_down (scene.world.node p).state)
fallen_is size old scene p s =
    ap₂ (λ (l : Limits) (v : State). is_node l.n p && is_down v) s.group.size
    (s.group.nodes p).state

asked_store : (A : Type 0) (size : Limits) (old new : Clustered Memory) (scene : Scene) (p : ℕ)
    (said : Reply) (before after : Memory) (answered : Result (List Entry) StoreFault)
    → ShowsScene size old scene → said ≢ Refused refusal.NoMemory
    → (is_node scene.world.size.n p && is_down (scene.world.node p).state) ≡ true
    → StoreMoves old.stores p before after new.stores
    → Gives (in_memory A) before answered after → Returns old.group p answered said new.group
    → TakesTo size new scene (Restart p) (reply_text said)
asked_store A size old new scene p said before after (Ok image) s not down m k r =
    let is = and_parts (is_node scene.world.size.n p) (is_down (scene.world.node p).state) down in
    as_asked size new scene (Restart p) (reply_text said) (λ text next i. i)
    (read size old new scene p image said before after s is.0 is.1 m not r k.answers
    (k.retrieved tt).given.0 k.settled.clear.1)
asked_store A size old new scene p said before after (Err why) s not down m k r =
    absurd (not (r.0 ∙ ap (λ (f : StoreFault). Refused (refusal_of f)) k.answers))

by_state : (A : Type 0) (size : Limits) (old new : Clustered Memory) (scene : Scene) (p : ℕ)
    (said : Reply) (b : Bool) → ShowsScene size old scene
    → said ≢ Refused refusal.NoMemory
    → (is_node scene.world.size.n p && is_down (scene.world.node p).state) ≡ b
    → RestartsBy (in_memory A) b old p said new
    → TakesTo size new scene (Restart p) (reply_text said)
by_state A size old new scene p said false s not is r =
    let alone = r (scene.storage p) in
    as_asked size new scene (Restart p) (reply_text said) (λ text next i. i)
    (not_down size old new scene p said s is not alone.0 alone.1)
by_state A size old new scene p said true s not is r =
    asked_store A size old new scene p said r.before r.after r.reads.answer s not is r.moves
    r.reads.gives r.reads.returns

-- unless memory is refused, the answer to `restart` is its reply, and a scene that it leads to is
-- shown
pub takes_restart : (A : Type 0) (size : Limits) (old new : Clustered Memory) (scene : Scene)
    (p : ℕ) (said : Reply) → ShowsScene size old scene → said ≢ Refused refusal.NoMemory
    → RestartsBy (in_memory A) (is_fallen old.group p) old p said new
    → TakesTo size new scene (Restart p) (reply_text said)
takes_restart A size old new scene p said s not r =
    by_state A size old new scene p said (is_fallen old.group p) s not
    (sym (fallen_is size old scene p s)) r

-- ---- commands

-- an event that asks no store, and the line for it
alone : (size : Limits) (old new : Clustered Memory) (scene : Scene) (e : Event) (asked : Command)
    (said : Reply) → IsQuiet e → ShowsScene size old scene → said ≢ Refused refusal.NoMemory
    → Alone old e said new
    → happens e scene ≡ answer scene asked → IsPlayed scene asked
    → TakesTo size new scene asked (reply_text said)
alone size old new scene e asked said i s not r same plays =
    as_asked size new scene asked (reply_text said) plays
    (subst (λ (given : List ℕ × Scene). GoesTo size new given (reply_text said)) same
    (quiet_scene size old new scene e said i s not r.0 r.1))

takes_reply : {A : Type 0} (size : Limits) (old new : Clustered Memory) (scene : Scene)
    (what : acts.Command A) (said : Reply) → ShowsScene size old scene
    → said ≢ Refused refusal.NoMemory
    → Applies (in_memory A) old what said new
    → TakesTo size new scene (line_of what) (reply_text said)
takes_reply {A = A} size old new scene (act.Submit p client number payload) said s not r =
    alone size old new scene _ (line_of {A = A} (act.Submit p client number payload)) said tt s not r
    refl (λ text next is. is)
takes_reply {A = A} size old new scene (act.Arrive p bytes) said s not r =
    alone size old new scene _ (line_of (act.Arrive p bytes)) said tt s not r refl
    (λ text next is. is)
takes_reply {A = A} size old new scene (act.Tick p) said s not r =
    alone size old new scene (event.Tick p) (lines.Tick p) said tt s not r refl (λ text next is. is)
takes_reply {A = A} size old new scene (act.Store p) said s not r =
    takes_stored A size old new scene p said s not r
takes_reply {A = A} size old new scene (act.Crash p) said s not r =
    alone size old new scene (event.Crash p) (lines.Crash p) said tt s not r refl
    (λ text next is. is)
takes_reply {A = A} size old new scene (act.Restart p) said s not r =
    takes_restart A size old new scene p said s not r

-- what is asked of the stores
pub stores_asked : {A : Type 0} (what : acts.Command A) (said : Reply) (old new : Clustered Memory)
    → Applies (in_memory A) old what said new → StoresAsAsked A (line_of what) old new
stores_asked (act.Submit p client number payload) said old new r = tt
stores_asked (act.Arrive p bytes) said old new r = tt
stores_asked (act.Tick p) said old new r = tt
stores_asked (act.Store p) said old new r = (said, r)
stores_asked (act.Crash p) said old new r = tt
stores_asked (act.Restart p) said old new r = tt

-- what is written is the answer
told_from : {E : Type 0} (size : Limits) (old new : Clustered Memory) (asked : Command)
    (result : Result (Unit {0}) E) (said : Reply) (before text : List ℕ) → before ≡ []
    → OnOk result (IsToldAs said before text)
    → ((scene : Scene) → ShowsScene size old scene → said ≢ Refused refusal.NoMemory
    → TakesTo size new scene asked (reply_text said))
    → OnOk result ((scene : Scene) → ShowsScene size old scene
    → TakesTo size new scene asked text)
told_from size old new asked (Ok done) said before text fresh t f =
    let is : text ≡ reply_text said = t.0 ∙ ap (λ (b : List ℕ). b ++ reply_text said) fresh in
    λ scene s. subst (λ (said : List ℕ). TakesTo size new scene asked said) (sym is) (f scene s t.1)
told_from size old new asked (Err e) said before text fresh t f = tt

-- if a command was applied and its reply was written, this is the answer to its line
pub applies_from : {A E : Type 0} (size : Limits) (old new : Clustered Memory)
    (what : acts.Command A) (result : Result (Unit {0}) E) (said : Reply) (before text : List ℕ)
    → before ≡ [] → OnOk result (IsToldAs said before text)
    → Applies (in_memory A) old what said new
    → OnOk result ((scene : Scene) → ShowsScene size old scene
    → TakesTo size new scene (line_of what) text)
applies_from {A = A} size old new what result said before text fresh t r =
    told_from size old new (line_of what) result said before text fresh t
    (λ scene s not. takes_reply {A = A} size old new scene what said s not r)

-- if a store was made to fail and the reply was written, this is the answer to the `fail` line
pub fails_from : {E : Type 0} (size : Limits) (old new : Clustered Memory) (p : ℕ)
    (failure : Failure) (result : Result (Unit {0}) E) (said : Reply) (before text : List ℕ)
    → before ≡ [] → OnOk result (IsToldAs said before text)
    → FailsHeld old p (held_draft old.group p) failure said new
    → OnOk result ((scene : Scene) → ShowsScene size old scene
    → TakesTo size new scene (Fail p failure) text)
fails_from size old new p failure result said before text fresh t r =
    told_from size old new (Fail p failure) result said before text fresh t
    (λ scene s not. takes_fail size old new scene p failure said s not r)

-- ---- packets of what a node has stored

arrives_as : (scene after : Scene) (q p : ℕ) (x : Label) (flags : Option Flags)
    (bytes text : List ℕ) → packet_of bytes ≡ Ok (carried scene.world q p x flags)
    → Takes (Some scene) (lines.Raw p bytes) text after
    → Takes (Some scene) (made.arrival q p x flags) text after
arrives_as scene after q p x None bytes text e (inl t) =
    inl (t ∙ ap (λ (r : Result Carried PacketFault). happens (Arrive p r) scene) e)
arrives_as scene after q p x (Some flags) bytes text e (inl t) =
    inl (t ∙ ap (λ (r : Result Carried PacketFault). happens (Arrive p r) scene) e)
arrives_as scene after q p x flags bytes text e (inr t) = absurd t.1

-- if the bytes are those of a packet of what q has stored, their answer is that of the packet's
-- arrival
pub arrives_from : {E : Type 0} (size limits : Limits) (old new : Clustered Memory) (q p : ℕ)
    (x : Label) (flags : Option Flags) (found : Option Content) (bytes text : List ℕ)
    (result : Result (Unit {0}) E)
    → FindsMessage old.group q x found
    → packet_of bytes ≡ Ok (record {
      source = q;
      target = p;
      name = x;
      message = or_nothing found;
      flags =
          flags_with flags (or_nothing found);
    })
    → OnOk result ((scene : Scene) → ShowsScene size old scene
    → TakesTo limits new scene (lines.Raw p bytes) text)
    → OnOk result ((scene : Scene) → ShowsScene size old scene
    → TakesTo limits new scene (made.arrival q p x flags) text)
arrives_from size limits old new q p x flags found bytes text (Ok done) finds e t = λ scene s.
    let next = t scene s in
    let is : packet_of bytes ≡ Ok (carried scene.world q p x flags) =
    e ∙ ap (λ (m : Option Content). let packet : Carried =
    record {
      source = q;
      target = p;
      name = x;
      message = or_nothing m;
      flags =
          flags_with flags (or_nothing m);
    } in Ok packet) (finds scene.world s.group) in
    (next.0, next.1, arrives_as scene next.0 q p x flags bytes text is next.2)
arrives_from size limits old new q p x flags found bytes text (Err fault) finds e t = tt

-- the encoded bytes are that packet
pub bytes_spelled : {V E : Type 0} (items : V → List ℕ) (result : Result V E) (packet p : Carried)
    → packet ≡ p → IsPacket packet → IfOk result (λ v. items v ≡ spelling packet)
    → IfOk result (λ v. packet_of (items v) ≡ Ok p)
bytes_spelled items (Ok v) packet p e h is =
    packet_spelled (items v) packet h is ∙ ap (λ (c : Carried). Ok c) e
bytes_spelled items (Err fault) packet p e h is = tt

-- ---- a new cluster

get_index : {X : Type 0} (xs : List X) (k : ℕ) (d x : X) → slice_get xs k ≡ Some x
    → slice_index_or xs k d ≡ x
get_index [] zero d x e = absurd (cc)
get_index [] (suc k) d x e = absurd (cc)
get_index (y ∷ xs) zero d x e = cc
get_index (y ∷ xs) (suc k) d x e = get_index xs k d x e

new_held : (p : ℕ) (m : Memory) → m ≡ empty_memory → IsHeldBy (opened_node p []) [] m
new_held p m e =
    subst (IsHeldBy (opened_node p []) []) (sym e)
    (record { holds = refl; contents = refl; certain = λ up. (refl, refl) })

-- a new cluster with empty stores shows a scene to which the line `group` leads
pub opens : (limits : Limits) (cluster : Clustered Memory) (stores : List Memory)
    (before text : List ℕ) → Shows cluster.group (started limits) → cluster.stores ≡ stores
    → All (λ m. m ≡ empty_memory) stores
    → length stores ≡ limits.n → before ≡ [] → text ≡ before ++ told_text (told.Grouped limits)
    → (scene : Scene) × ShowsScene limits cluster scene
    × Takes None (lines.Group limits) text scene
opens limits cluster stores before text shows same blank count fresh written = (
  new_scene limits,
  record {
    size = refl;
    group = shows;
    stores = λ p m is found.
        let there : slice_get stores (p - 1) ≡ Some m =
        subst (λ (xs : List Memory). slice_get xs (p - 1) ≡ Some m) same found in
        new_held p m (sym (get_index stores (p - 1) m m there)
        ∙ blank (p - 1) m (slice_get_within stores (p - 1) m there));
    counted = ap length same ∙ count;
    beyond = λ p not. refl;
  },
  inl (written ∙ ap (λ (b : List ℕ). b ++ told_text (told.Grouped limits)) fresh, refl),
)

-- no condition on a result
pub nothing_asked : {V E : Type 0} (result : Result V E) → IfOk result (λ new. Unit {0})
nothing_asked (Ok new) = tt
nothing_asked (Err fault) = tt
