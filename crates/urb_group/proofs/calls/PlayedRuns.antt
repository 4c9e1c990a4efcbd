-- Commands that were applied one after the other are a run of events.
use Rattle.urb_group.proofs.Common.{Applies, AreEvents, AreTruthful, At_end, Bool, By_event}
use Rattle.urb_group.proofs.Common.{By_none, Clustered, Command, Commit, Entry, Err, Event, Fail}
use Rattle.urb_group.proofs.Common.{Ghosts, GroupView, IsEventOf, IsKept, IsRefusedAs, IsSound}
use Rattle.urb_group.proofs.Common.{IsUnread, List, NoMemory, None, Ok, Option, Placed, Plays}
use Rattle.urb_group.proofs.Common.{Reacts, Refusal, Restart, RestartsBy, Result, Returns, Run}
use Rattle.urb_group.proofs.Common.{Runs, Shows, Some, Steps, StoreFault, StoresHeld, Vec, World}
use Rattle.urb_group.proofs.Common.{[], ap, ap₂, arith, drop, false, get_or, held_draft, inl, inr}
use Rattle.urb_group.proofs.Common.{is_fallen, is_no_memory, kept-agree, kept-told, length, map}
use Rattle.urb_group.proofs.Common.{one_message, packets_in, refl, reply_of, run, safe, slice_get}
use Rattle.urb_group.proofs.Common.{slice_get_read, stored_as, subst, sym, take, true, ℕ, ⊎_elim}
use Rattle.urb_group.proofs.Common.{◌++◌, ◌+◌, ◌<◌, ◌∙◌, ◌∷◌, ◌≡◌, ◌⊎◌}
use Rattle.std.proofs.lemmas.List.{length-take-le, take-append-drop, take_more}
use Rattle.urb_group.proofs.shown.AgreeingWorlds.{sound-kept}
use Rattle.urb_group.proofs.calls.HeldDrafts.{steps-sound}
use Rattle.urb_world.proofs.safety.RunsOfKeptWorlds.{kept-grow}
use Rattle.urb_world.proofs.safety.Refusals.{refused-stays}
use Rattle.urb_group.proofs.calls.StoreCallEffects.{held-self}
use Rattle.urb_group.proofs.calls.StoreAnswers.{commit-stored, fail-down, held-as}
use Rattle.urb_group.specs.PlayedCommands.{EndsEarly, Follows, told_in}
use Rattle.urb_world.specs.PromisedWorlds.{IsPromised}
use Rattle.urb_world.specs.Step.{step}
use Rattle.urb_world.specs.TruthfulPackets.{ToldTruth}
use Rattle.urb_group.specs.declared.reply.Reply.{Reply}
use Rattle.urb_group.specs.declared.command.Command.TheVariants as command
use Rattle.urb_group.specs.declared.reply.Reply.TheVariants as reply
use Rattle.urb_names.specs.declared.refusal.Refusal.TheVariants as refusal
use Rattle.urb_node.specs.Replies as told

-- ---- one event

-- a reply that doesn't say that memory was refused
abbrev IsTold : told.Reply → Type 0
IsTold r = r ≡ told.Refused refusal.NoMemory → ⊥

-- a refusal that is not for memory is the reply's own
own-refusal : (r : told.Reply) (why : Refusal) → IsTold (told.Refused why) → IsRefusedAs r why
    → r ≡ told.Refused why
own-refusal r refusal.NoMemory other h = absurd (other refl)
own-refusal r why other h = h

-- the event, in one world
record Moved (w : World) (event : Event) (r : told.Reply) (new : GroupView) : Type 0 where
  -- the event has this reply
  pub reply : (step w event).0 ≡ r
  -- the group shows the world after it
  pub shows : Shows new (step w event).1

steps-moved : (old new : GroupView) (event : Event) (r : told.Reply)
    → Steps old event (λ seen. seen ≡ r) new → (w : World) → Shows old w → Moved w event r new
steps-moved old new event r h w s = record { reply = (h w s).told; shows = (h w s).shows }

reacts-moved : (old new : GroupView) (event : Event) (r : told.Reply) → Reacts old event r new
    → IsTold r → (w : World) → Shows old w → Moved w event r new
reacts-moved old new event (told.Refused why) h other w s =
    let is : (step w event).0 ≡ told.Refused why =
    own-refusal (step w event).0 why other (h.0 w s) in
    record {
      reply = is;
      shows =
          subst (λ (v : World). Shows new v) (sym (refused-stays w event why is))
          (subst (λ (group : GroupView). Shows group w) (sym h.1) s);
    }
reacts-moved old new event r h other w s = steps-moved old new event r h w s

reacts-sound : (old new : GroupView) (event : Event) (r : told.Reply) → Reacts old event r new
    → IsSound old → IsSound new
reacts-sound old new event (told.Refused why) h sound = subst IsSound (sym h.1) sound
reacts-sound old new event r h sound = steps-sound old new event _ sound h

-- ---- one command

-- what a command was, in one world: an event, or nothing
record IsPlayed {A : Type 0} (w : World) (old : GroupView) (command : Command A) (r : told.Reply)
    (new : GroupView) : Type 0 where
  -- the group is sound afterwards
  pub sound : IsSound new
  -- the command was an event, or a restart whose store gave a fault, which changes nothing
  pub was : ((event : Event) × IsEventOf command event × Moved w event r new)
      ⊎ (IsUnread command r × (new ≡ old))

by_event : {A : Type 0} (w : World) (old : GroupView) (command : Command A) (r : told.Reply)
    (new : GroupView) (event : Event) → IsEventOf command event → Reacts old event r new
    → IsSound old → IsTold r → Shows old w
    → IsPlayed w old command r new
by_event w old command r new event is h sound other s =
    record {
      sound = reacts-sound old new event r h sound;
      was =
          inl (event, is, reacts-moved old new event r h other w s);
    }

abbrev to_store : (A : Type 0) → ℕ → Command A
to_store A p = command.Store p

abbrev to_restart : (A : Type 0) → ℕ → Command A
to_restart A p = command.Restart p

stored-event : (A : Type 0) (p : ℕ) (draft : Placed) (answer : Result (Unit {0}) StoreFault)
    → draft.node ≡ p → IsEventOf (to_store A p) (stored_as draft answer)
stored-event A p draft (Ok done) e =
    inl (draft.pos, draft.entry, ap (λ (i : ℕ). Commit i draft.pos draft.entry) e)
stored-event A p draft (Err fault) e = inr (ap Fail e)

-- ---- runs

run-none : (w : World) → Run w [] [] w
unfolding run
run-none w = refl

run-more : (w : World) (event : Event) (events : List Event) (r : told.Reply)
    (seen : List told.Reply) (after : World) → (step w event).0 ≡ r
    → Run (step w event).1 events seen after → Run w (event ∷ events) (r ∷ seen) after
unfolding run
run-more w event events r seen after e ran =
    ap₂ (λ (x : told.Reply) (rest : List told.Reply × World). (x ∷ rest.0, rest.1)) e ran

module _ {S A : Type 0} (g : Ghosts S A) where
  stored-played : (old new : Clustered S) (p : ℕ) (r : told.Reply) (o : Option Placed)
      → held_draft old.group p ≡ o → StoresHeld g old p o r new → IsSound old.group → IsTold r
      → (w : World) → Shows old.group w
      → IsPlayed w old.group (to_store A p) r new.group
  stored-played old new p r None e h sound other w s =
      by_event w old.group (to_store A p) r new.group (Fail p) (inr refl) h.0 sound other s
  stored-played old new p r (Some draft) e h sound other w s =
      let event : Event = stored_as draft h.stored.answer in
      record {
        sound = steps-sound old.group new.group event (λ seen. seen ≡ r) sound h.stored.event;
        was =
            inl (
              event,
              stored-event A p draft h.stored.answer (held-as old.group p draft e).node,
              steps-moved old.group new.group event r h.stored.event w s,
            );
      }

  returned-played : (old new : GroupView) (p : ℕ) (r : told.Reply)
      (answer : Result (List Entry) StoreFault) → Returns old p answer r new → IsSound old
      → IsTold r → (w : World) → Shows old w
      → IsPlayed w old (to_restart A p) r new
  returned-played old new p r (Ok image) h sound other w s =
      by_event w old (to_restart A p) r new (Restart p image) (image, refl) h sound other s
  returned-played old new p r (Err fault) h sound other w s =
      record { sound = subst IsSound (sym h.1) sound; was = inr ((fault, h.0), h.1) }

  restarted-played : (old new : Clustered S) (p : ℕ) (r : told.Reply) (b : Bool)
      → RestartsBy g b old p r new → IsSound old.group → IsTold r → (w : World) → Shows old.group w
      → IsPlayed w old.group (to_restart A p) r new.group
  restarted-played old new p r false h sound other w s =
      by_event w old.group (to_restart A p) r new.group (Restart p []) ([], refl)
      (h []).0 sound other s
  restarted-played old new p r true h sound other w s =
      returned-played old.group new.group p r h.reads.answer h.reads.returns sound other w s

  applied-played : (old new : Clustered S) (what : Command A) (r : told.Reply)
      → Applies g old what r new → IsSound old.group → IsTold r → (w : World) → Shows old.group w
      → IsPlayed w old.group what r new.group
  applied-played old new (command.Store p) r h sound other w s =
      stored-played old new p r (held_draft old.group p) refl h sound other w s
  applied-played old new (command.Restart p) r h sound other w s =
      restarted-played old new p r (is_fallen old.group p) h sound other w s
  applied-played old new what r h sound other w s =
      by_event w old.group _ r new.group _ refl h.0 sound other s

  -- ---- a command that was refused

  stored-refused : (old new : Clustered S) (p : ℕ) (why : Refusal) (o : Option Placed)
      → held_draft old.group p ≡ o → StoresHeld g old p o (told.Refused why) new → IsSound old.group
      → new.group ≡ old.group
  stored-refused old new p why None e h sound = h.0.1
  stored-refused old new p why (Some draft) e h sound = never h.stored.answer h.stored.event
    where
      held : held_draft old.group draft.node ≡ Some draft
      held = held-self old.group p draft e

      never : (answer : Result (Unit {0}) StoreFault)
          → Steps old.group (stored_as draft answer) (λ seen. seen ≡ told.Refused why) new.group
          → new.group ≡ old.group
      never (Ok done) steps =
          let is = commit-stored old.group draft held sound.world sound.shows in
          let taken : (step sound.world (Commit draft.node draft.pos draft.entry)).0
          ≡ told.Stored is.0 = is.1 in
          let refused : (step sound.world (Commit draft.node draft.pos draft.entry)).0
          ≡ told.Refused why = (steps sound.world sound.shows).told in
          cc
      never (Err fault) steps =
          let down : (step sound.world (Fail draft.node)).0 ≡ told.WentDown draft.node =
          fail-down old.group draft held sound.world sound.shows in
          let refused : (step sound.world (Fail draft.node)).0 ≡ told.Refused why =
          (steps sound.world sound.shows).told in
          cc

  returned-refused : (old new : GroupView) (p : ℕ) (why : Refusal)
      (answer : Result (List Entry) StoreFault) → Returns old p answer (told.Refused why) new
      → new ≡ old
  returned-refused old new p why (Ok image) h = h.1
  returned-refused old new p why (Err fault) h = h.1

  restarted-refused : (old new : Clustered S) (p : ℕ) (why : Refusal) (b : Bool)
      → RestartsBy g b old p (told.Refused why) new → new.group ≡ old.group
  restarted-refused old new p why false h = (h []).0.1
  restarted-refused old new p why true h =
      returned-refused old.group new.group p why h.reads.answer h.reads.returns

  -- a refused command leaves the group
  applied-refused : (old new : Clustered S) (what : Command A) (why : Refusal)
      → Applies g old what (told.Refused why) new → IsSound old.group → new.group ≡ old.group
  applied-refused old new (command.Store p) why h sound =
      stored-refused old new p why (held_draft old.group p) refl h sound
  applied-refused old new (command.Restart p) why h sound =
      restarted-refused old new p why (is_fallen old.group p) h
  applied-refused old new what why h sound = h.0.1

  -- ---- many commands

  -- what the commands were, in one world
  pub record IsRun (w : World) (commands : List (Command A)) (replies : List (Reply A))
      (new : GroupView) : Type 0 where
    -- the group is sound at the end
    pub sound : IsSound new
    -- the commands that are events
    pub events : List Event
    -- their replies
    pub seen : List told.Reply
    -- the world at the end
    pub after : World
    -- the commands with their replies are these events with theirs
    pub are : AreEvents commands (map reply_of replies) events seen
    -- the events lead to the world at the end
    pub ran : Run w events seen after
    -- the group shows that world
    pub shows : Shows new after

  not_short : (r : Reply A) → is_no_memory r ≡ false → IsTold (reply_of r)
  not_short (reply.Refused refusal.NoMemory) e f = cc
  not_short r e f = cc

  is-short : (r : Reply A) → is_no_memory r ≡ true → reply_of r ≡ told.Refused refusal.NoMemory
  is-short (reply.Refused refusal.NoMemory) e = refl
  is-short r e = cc

  -- a command before them
  run-on : (w : World) (old next new : GroupView) (what : Command A) (commands : List (Command A))
      (r : Reply A) (replies : List (Reply A)) → IsPlayed w old what (reply_of r) next
      → ((v : World) → Shows next v → IsRun v commands replies new) → Shows old w
      → IsRun w (what ∷ commands) (r ∷ replies) new
  run-on w old next new what commands r replies played go s = at played.was
    where
      at : ((event : Event) × IsEventOf what event × Moved w event (reply_of r) next)
          ⊎ (IsUnread what (reply_of r) × (next ≡ old))
          → IsRun w (what ∷ commands) (r ∷ replies) new
      at (inl (event, is, moved)) =
          let rest = go (step w event).1 moved.shows in
          record {
            sound = rest.sound;
            events = event ∷ rest.events;
            seen = reply_of r ∷ rest.seen;
            after = rest.after;
            are =
                By_event what commands (reply_of r)
                (map reply_of replies) event rest.events rest.seen is rest.are;
            ran =
                run-more w event rest.events (reply_of r) rest.seen rest.after moved.reply rest.ran;
            shows = rest.shows;
          }
      at (inr (unread, same)) =
          let rest = go w (subst (λ (group : GroupView). Shows group w) (sym same) s) in
          record {
            sound = rest.sound;
            events = rest.events;
            seen = rest.seen;
            after = rest.after;
            are =
                By_none what commands (reply_of r)
                (map reply_of replies) rest.events rest.seen unread rest.are;
            ran = rest.ran;
            shows = rest.shows;
          }

  follows-run : (old new : Clustered S) (commands : List (Command A)) (replies : List (Reply A))
      → Follows g old commands replies new → IsSound old.group → (w : World) → Shows old.group w
      → IsRun w commands replies new.group
  follows-run old new commands [] h sound w s =
      record {
        sound = subst (λ (c : Clustered S). IsSound c.group) (sym h) sound;
        events = [];
        seen = [];
        after = w;
        are = At_end commands;
        ran = run-none w;
        shows = subst (λ (c : Clustered S). Shows c.group w) (sym h) s;
      }
  follows-run old new [] (r ∷ replies) h sound w s = absurd h
  follows-run old new (what ∷ commands) (r ∷ replies) h sound w s =
      let played = applied-played old h.0 what (reply_of r) h.1 sound (not_short r h.2) w s in
      run-on w old.group h.0.group new.group what commands r replies played
      (λ v t. follows-run h.0 new commands replies h.3 played.sound v t) s

  -- ---- what a run of them promises

  unread-truth : (w : World) (what : Command A) (r : told.Reply) → IsUnread what r
      → AreTruthful w (packets_in r)
  unread-truth w (command.Restart p) r h =
      subst (λ (x : told.Reply). AreTruthful w (packets_in x)) (sym h.1) tt
  unread-truth w what r h = absurd h

  events-truth : (w : World) (commands : List (Command A)) (replies : List told.Reply)
      (events : List Event) (seen : List told.Reply) → AreEvents commands replies events seen
      → ToldTruth w seen → ToldTruth w replies
  events-truth w _ _ _ _ (At_end commands) h = tt
  events-truth w _ _ _ _ (By_event what commands r replies event events seen is are) h =
      (h.0, events-truth w commands replies events seen are h.1)
  events-truth w _ _ _ _ (By_none what commands r replies events seen unread are) h =
      (unread-truth w what r unread, events-truth w commands replies events seen are h)

  runs-of : (old : GroupView) (new : GroupView) (commands : List (Command A))
      (replies : List (Reply A)) (w : World) → IsKept w → IsRun w commands replies new
      → Runs w commands (map reply_of replies) new
  runs-of old new commands replies w kept is =
      record {
        events = is.events;
        seen = is.seen;
        after = is.after;
        are = is.are;
        ran = is.ran;
        shows = is.shows;
        truth =
            events-truth is.after commands (map reply_of replies) is.events is.seen is.are
            (kept-told w is.after is.events is.seen kept is.ran);
        grow = kept-grow w is.after is.events is.seen kept is.ran;
        agree = kept-agree w is.after is.events is.seen kept is.ran;
      }

  -- if memory was refused, the group is the one after the last command that was applied
  last-group : (old new : Clustered S) (commands : List (Command A)) (replies : List (Reply A))
      → (early : EndsEarly g old commands replies new) → IsSound early.last.group
      → new.group ≡ early.last.group
  last-group old new commands replies early sound =
      ⊎_elim (λ e. ap (λ (c : Clustered S). c.group) e)
      (λ h. applied-refused early.last new early.command refusal.NoMemory h sound) early.refused

  -- commands that were played are a run of events, from any world that the group showed
  pub plays-runs : (old new : Clustered S) (commands : List (Command A))
      (result : Result (Vec (Reply A) A) (Vec (Reply A) A × NoMemory))
      → Plays g old commands result new → IsSound old.group
      → (w : World) → Shows old.group w → Runs w commands (told_in result) new.group
  plays-runs old new commands (Ok replies) h sound w s =
      runs-of old.group new.group commands replies.items w (sound-kept old.group w sound s)
      (follows-run old new commands replies.items h.0 sound w s)
  plays-runs old new commands (Err e) h sound w s =
      let is = follows-run old h.last commands e.0.items h.follows sound w s in
      subst (λ (group : GroupView). Runs w commands (map reply_of e.0.items) group)
      (sym (last-group old new commands e.0.items h is.sound))
      (runs-of old.group h.last.group commands e.0.items w (sound-kept old.group w sound s) is)

  -- a sound group is sound after the commands that were played
  pub plays-sound : (old new : Clustered S) (commands : List (Command A))
      (result : Result (Vec (Reply A) A) (Vec (Reply A) A × NoMemory))
      → Plays g old commands result new → IsSound old.group → IsSound new.group
  plays-sound old new commands (Ok replies) h sound =
      (follows-run old new commands replies.items h.0 sound sound.world sound.shows).sound
  plays-sound old new commands (Err e) h sound =
      let is = follows-run old h.last commands e.0.items h.follows sound sound.world sound.shows in
      subst IsSound (sym (last-group old new commands e.0.items h is.sound)) is.sound

  -- ---- the loop

  follows-push : (old mid new : Clustered S) (commands : List (Command A))
      (replies : List (Reply A)) (what : Command A) (r : Reply A) → length replies ≡ length commands
      → Follows g old commands replies mid → Applies g mid what (reply_of r) new
      → is_no_memory r ≡ false → Follows g old (commands ++ what ∷ []) (replies ++ r ∷ []) new
  follows-push old mid new [] [] what r l h applies told_is =
      (new, subst (λ (c : Clustered S). Applies g c what (reply_of r) new) h applies, told_is, refl)
  follows-push old mid new [] (x ∷ replies) what r l h applies told_is = absurd h
  follows-push old mid new (c ∷ commands) [] what r l h applies told_is = cc
  follows-push old mid new (c ∷ commands) (x ∷ replies) what r l h applies told_is = (
    h.0,
    h.1,
    h.2,
    follows-push h.0 mid new commands replies what r
        (omega arith) h.3 applies told_is,
  )

  follows-more : (old new : Clustered S) (commands more : List (Command A))
      (replies : List (Reply A)) → Follows g old commands replies new
      → Follows g old (commands ++ more) replies new
  follows-more old new commands more [] h = h
  follows-more old new [] more (x ∷ replies) h = absurd h
  follows-more old new (c ∷ commands) more (x ∷ replies) h =
      (h.0, h.1, h.2, follows-more h.0 new commands more replies h.3)

module _ {S A : Type 0} (g : Ghosts S A) (old last new : Clustered S) (commands : List (Command A))
    (replies : List (Reply A)) (i : ℕ) (what : Command A) (within : i < length commands)
    (is : what ≡ get_or commands i what)
    (follows : Follows g old (take i commands) replies last) (count : length replies ≡ i) where
  follows-all : Follows g old commands replies last
  follows-all =
      subst (λ (cs : List (Command A)). Follows g old cs replies last) (take-append-drop i commands)
      (follows-more g old last (take i commands) (drop i commands) replies follows)

  behind-is : slice_get commands (length replies) ≡ Some what
  behind-is =
      ap (λ (j : ℕ). slice_get commands j) count
      ∙ slice_get_read commands (length commands) i what refl within is

  -- the next command was not applied
  pub ends-before : EndsEarly g old commands replies last
  ends-before = record {
    last = last;
    command = what;
    follows = follows-all;
    behind =
        behind-is;
    refused = inl refl;
  }

  -- it was applied, and was refused for memory
  pub ends-short : (r : Reply A) → Applies g last what (reply_of r) new → is_no_memory r ≡ true
      → EndsEarly g old commands replies new
  ends-short r applies short =
      record {
        last = last;
        command = what;
        follows = follows-all;
        behind = behind-is;
        refused =
            inr (subst (λ (x : told.Reply). Applies g last what x new)
            (is-short g r short) applies);
      }

  -- it was applied, and the next one comes
  pub follows-next : (r : Reply A) → Applies g last what (reply_of r) new → is_no_memory r ≡ false
      → Follows g old (take (i + 1) commands) (replies ++ r ∷ []) new
  follows-next r applies told_is =
      subst (λ (cs : List (Command A)). Follows g old cs (replies ++ r ∷ []) new)
      (sym (take_more commands i what within
      ∙ ap (λ (c : Command A). take i commands ++ c ∷ []) (sym is)))
      (follows-push g old last new (take i commands) replies what r
      (count ∙ sym (length-take-le i commands (omega arith))) follows applies told_is)

-- `IsPromised` holds for every world that a sound group shows
pub sound-holds : (group : GroupView) (w : World) → IsSound group → Shows group w → IsPromised w
sound-holds group w sound s =
    record {
      safe = safe w kept.nodes;
      agree = λ p q i. kept-agree w w [] [] kept (run-none w) p q i;
      one_message = one_message w kept.nodes;
    }
  where
    kept : IsKept w
    kept = sound-kept group w sound s
