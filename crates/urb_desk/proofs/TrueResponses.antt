-- What a response says about a request's job, judged by the job's result, is true.
use Rattle.urb_desk.proofs.Common.{Asked, Bool, Carried, Content, DeskView, Err, Event, GroupView}
use Rattle.urb_desk.proofs.Common.{HasAccepted, HasStored, IfOk, IsJobOf, IsLedTo, IsPrefix}
use Rattle.urb_desk.proofs.Common.{IsSound, Label, List, LoansView, Node, None, Ok, Option}
use Rattle.urb_desk.proofs.Common.{Result, Said, Sees, Shows, Some, Status, TellsStatus, Up, Vec}
use Rattle.urb_desk.proofs.Common.{WentDown, Works, World, [], after, ap, false, false≢true, inl}
use Rattle.urb_desk.proofs.Common.{inr, length, name, pend, prefix_trans, refl, step, subst}
use Rattle.urb_desk.proofs.Common.{sym, told_of, true, view_of, ℕ, ⊎_elim, ◌++◌, ◌∙◌, ◌∷◌, ◌≡◌}
use Rattle.std.specs.declared.alloc.Global.{Global}
use Rattle.urb_client.specs.Requests.{Ask, Read, Submit, Wait}
use Rattle.urb_client.specs.declared.request.Control.{Control}
use Rattle.urb_client.specs.Responses.{Refused as IsRefused}
use Rattle.urb_world.proofs.safety.AcceptedSubmits.{accepted-stored, committed-stored}
use Rattle.urb_group.proofs.shown.AgreeingWorlds.{sound-kept}
use Rattle.urb_world.specs.Acceptance.{StoresOwn}
use Rattle.urb_group.specs.GroupCalls.{ComesUp, Commits, GoesDown, Happens, HoldsDraft, Steps}
use Rattle.urb_group.specs.GroupCalls.{Takes}
use Rattle.urb_world.specs.Step.{Commit, Crash as CrashOf, Restart as RestartOf, Submit as SubmitOf}
use Rattle.urb_group.specs.declared.reply.Reply.{Reply}
use Rattle.urb_group.specs.declared.state.State.{State}
use Rattle.urb_group.specs.declared.taken.Taken.{Taken}
use Rattle.urb_names.proofs.OrderedPairs.{has_pair-first}
use Rattle.urb_names.specs.Pairs.{has_pair}
use Rattle.urb_names.specs.RefusalReports.{detail_of, number_of}
use Rattle.urb_names.specs.declared.refusal.Refusal.{Refusal}
use Rattle.urb_node.specs.Replies.{Done, Drafted, Reply as Told, Same, Stored}
use Rattle.urb_node.specs.declared.answer.Answer.{Answer}
use Rattle.urb_node.specs.declared.cause.Cause.{Cause}
use Rattle.urb_show.proofs.PastEvents.{after_one_more}
use Rattle.urb_show.proofs.PastPrefixes.{prefix_same}
use Rattle.urb_show.proofs.Prefixes.{prefix_length}
use Rattle.urb_show.proofs.ToldReplies.{reply_stands}
use Rattle.urb_show.specs.Houses.{HouseView}
use Rattle.urb_show.specs.Pasts.{IsToldAt}
use Rattle.urb_stable.specs.Doubts.{Doubted}
use Rattle.urb_stable.specs.Entries.{Entry, name_of}
use Rattle.urb_stable.specs.PlacedRecords.{Placed}
use Rattle.urb_stable.specs.StableStorage.{refusal_of}
use Rattle.urb_stable.specs.declared.record.Record.TheVariants.{Cert, Pend, PendCert}
use Rattle.urb_stable.specs.declared.stable.StoreFault.{StoreFault}
use Rattle.urb_turn.proofs.GrowingPasts.{begins_grow, ends_grow, settled_past}
use Rattle.urb_turn.proofs.TurnLoans.{one_loan}
use Rattle.urb_desk.specs.Desks.{AnswersAt, Tells, control_job}
use Rattle.urb_desk.specs.internal.Desks.{IsWork}
use Rattle.urb_turn.specs.Jobs.{node_of}
use Rattle.urb_turn.specs.Loans.{IsLoan}
use Rattle.urb_turn.specs.Settlings.{Published}
use Rattle.urb_turn.specs.Stages.{commit_reply, crash_stage, fail_reply, image_stage, kept_stage}
use Rattle.urb_turn.specs.Stages.{restart_reply, restart_stage, status_reply, taken_stage}
use Rattle.urb_turn.specs.Turns.{CameOf, Counts, Ends, Goes, HasBegun, IsKeptOf, has_released}
use Rattle.urb_turn.specs.declared.job.Job.{Job}
use Rattle.urb_turn.specs.declared.turn_stages.Stage.{Stage}
use Rattle.urb_world.proofs.steps.StepCases.{step-here}
use Rattle.urb_node.proofs.SubmitCases.{submits-cases}
use Rattle.urb_client.specs.declared.request.Control.TheVariants as control
use Rattle.urb_group.specs.declared.reply.Reply.TheVariants as reply
use Rattle.urb_group.specs.declared.state.State.TheVariants as state
use Rattle.urb_group.specs.declared.taken.Taken.TheVariants as taken
use Rattle.urb_names.specs.declared.refusal.Refusal.TheVariants as refusal
use Rattle.urb_node.specs.Part as part
use Rattle.urb_node.specs.declared.answer.Answer.TheVariants as answer
use Rattle.urb_turn.specs.declared.job.Job.TheVariants as job
use Rattle.urb_turn.specs.declared.turn_stages.Stage.TheVariants as stage

-- ---- the draft of a submit

-- the record carries this message
abbrev Bears : Entry → Content → Type 0
Bears (Pend x o) m = o ≡ m
Bears (PendCert x o) m = o ≡ m
Bears (Cert x) m = ⊥

-- if this outcome drafts, the record that the node then holds carries this message
abbrev DraftsIt : Content → Entry → Option Cause → Label → ℕ → Told × Node → Type 0
DraftsIt m entry cause x pos outcome =
    outcome.0 ≡ Drafted x pos → outcome.1.state ≡ part.Storing entry cause → Bears entry m

module _ (m : Content) (entry : Entry) (cause : Option Cause) (x : Label) (pos : ℕ) where
  abbrev It : Told × Node → Type 0
  It = DraftsIt m entry cause x pos

  certified : (y : Label) (c : Option Cause)
      → part.Storing (PendCert y m) c ≡ part.Storing entry cause → Bears entry m
  certified y c e = let is : PendCert y m ≡ entry = cc in subst (λ (r : Entry). Bears r m) is refl

  plain : (y : Label) (c : Option Cause) → part.Storing (Pend y m) c ≡ part.Storing entry cause
      → Bears entry m
  plain y c e = let is : Pend y m ≡ entry = cc in subst (λ (r : Entry). Bears r m) is refl

  -- the draft of a submit has its message
  pub submit-bears : (w : World) (p : ℕ) → (step w (SubmitOf p m)).0 ≡ Drafted x pos
      → ((step w (SubmitOf p m)).1.node p).state ≡ part.Storing entry cause → Bears entry m
  submit-bears w p =
      step-here It w (SubmitOf p m) (λ r f s. cc)
      (submits-cases It w.size p m (w.node p) (λ r f s. cc) (λ first a f s. cc)
      (λ new one f s. certified _ _ s) (λ new one f s. plain _ _ s))

-- the one message of such a record
borne : (entry : Entry) (x : Label) (m o : Content) → Bears entry m
    → has_pair (pend (entry ∷ [])) x o ≡ true → o ≡ m
borne (Pend y q) x m o is h =
    ⊎_elim (λ e. sym e.1 ∙ is) (λ none. absurd (false≢true none)) (has_pair-first (y, q) [] x o h)
borne (PendCert y q) x m o is h =
    ⊎_elim (λ e. sym e.1 ∙ is) (λ none. absurd (false≢true none)) (has_pair-first (y, q) [] x o h)
borne (Cert y) x m o is h = absurd is

-- ---- what is stored

named : (p : ℕ) (x : Label) → x.sender ≡ p → x ≡ name p x.seq
named p x e = ap (λ (s : ℕ). name s x.seq) e

-- all worlds that a group shows have the same stored pairs
shown-alike : (group : GroupView) (v w : World) (p : ℕ) (x : Label) (m : Content) → Shows group v
    → Shows group w → HasStored v p x m → HasStored w p x m
shown-alike group v w p x m first second h =
    (h.0, sym ((second.nodes p).pairs x m) ∙ ((first.nodes p).pairs x m ∙ h.1))

-- ---- a turn and the history

-- The House was lent in the first of these states, behind all that had been seen, and given back in
-- the second, before the history ended.
record AtTurn (opened : GroupView) (seen history : List Event) (old new : HouseView) : Type 0 where
  sound : IsSound opened
  leads : IsLedTo opened old.past old.group
  behind : IsPrefix seen old.past
  grows : IsPrefix old.past new.past
  within : IsPrefix new.past history

-- an event of the turn is at its place
turn_told : (opened : GroupView) (seen history : List Event) (old new : HouseView) (event : Event)
    (reply : Told) (after_it : HouseView) → AtTurn opened seen history old new
    → Steps old.group event (λ told. told ≡ reply) after_it.group
    → IsPrefix (old.past ++ event ∷ []) new.past
    → IsToldAt opened history (length old.past) event reply
turn_told opened seen history old new event reply after_it at steps begins =
    reply_stands opened old.group after_it.group old.past history event reply at.leads steps
    (prefix_trans (old.past ++ event ∷ []) new.past history begins at.within)

module _ (opened : GroupView) (seen history : List Event) (p : ℕ) (m : Content) where
  -- a repeat
  again-accepted : (old new : HouseView) (x : Label) → IsSound old.group
      → AtTurn opened seen history old new
      → Steps old.group (SubmitOf p m) (λ told. told ≡ Same (answer.Accepted x)) new.group
      → HasAccepted opened seen history p m x.seq
  again-accepted old new x sound at steps =
      record {
        sound = at.sound;
        past = old.past;
        behind = at.behind;
        within = prefix_trans old.past new.past history at.grows at.within;
        stored = λ w shows. there (after w old.past) (at.leads w shows);
      }
    where
      there : (w : World) → Shows old.group w → HasStored w p (name p x.seq) m
      there w shows =
          let here : HasStored w p x m =
          accepted-stored w (sound-kept old.group w sound shows).nodes p m x (steps w shows).told in
          subst (λ (y : Label). HasStored w p y m) (named p x here.0) here

  -- a record of this message that was stored
  stored-accepted : (old between new : HouseView) (draft : Placed) (done : Done)
      → IsSound old.group → AtTurn opened seen history old new
      → between.past ≡ old.past ++ Commit draft.node draft.pos draft.entry ∷ []
      → new.past ≡ between.past → draft.node ≡ p → Bears draft.entry m → done.accepted ≡ true
      → Steps old.group (Commit draft.node draft.pos draft.entry) (λ told. told ≡ Stored done)
      between.group
      → HasAccepted opened seen history p m done.name.seq
  stored-accepted old between new draft done sound at longer same e bears own steps =
      record {
        sound = at.sound;
        past = new.past;
        behind = prefix_trans seen old.past new.past at.behind at.grows;
        within = at.within;
        stored = λ w shows. there (after w new.past) (shown w shows);
      }
    where
      event : Event
      event = Commit draft.node draft.pos draft.entry

      all : new.past ≡ old.past ++ event ∷ []
      all = same ∙ longer

      shown : (w : World) → Shows opened w → Shows between.group (after w new.past)
      shown w shows =
          subst (λ (v : World). Shows between.group v)
          (sym (ap (λ (l : List Event). after w l) all ∙ after_one_more w old.past event))
          (steps (after w old.past) (at.leads w shows)).shows

      first : World
      first = (step sound.world event).1

      keeps : StoresOwn first draft.node draft.entry done
      keeps =
          committed-stored sound.world draft.node draft.pos draft.entry done
          (steps sound.world sound.shows).told own

      is : keeps.0 ≡ m
      is = borne draft.entry done.name m keeps.0 bears keeps.1

      here : HasStored first p done.name m
      here =
          subst (λ (i : ℕ). HasStored first i done.name m) e
          (subst (λ (o : Content). HasStored first draft.node done.name o) is keeps.2)

      there : (w : World) → Shows between.group w → HasStored w p (name p done.name.seq) m
      there w shows =
          subst (λ (y : Label). HasStored w p y m) (named p done.name here.0)
          (shown-alike between.group first w p done.name m (steps sound.world sound.shows).shows
          shows here)

-- the message of a draft that a submit caused
drafted-bears : (old new : GroupView) (p : ℕ) (m : Content) (draft : Placed) → IsSound old
    → Steps old (SubmitOf p m) (λ told. told ≡ Drafted (name_of draft.entry) draft.pos) new
    → draft.node ≡ p → HoldsDraft new draft
    → Bears draft.entry m
drafted-bears old new p m draft sound steps here holds =
    submit-bears m draft.entry holds.cause
    (name_of draft.entry) draft.pos sound.world p happened.told
    (sym (happened.shows.nodes p).state
    ∙ subst (λ (i : ℕ). (view_of new i).state ≡ part.Storing draft.entry holds.cause)
    here holds.state)
  where
    happened : Happens (SubmitOf p m)
        (λ told. told ≡ Drafted (name_of draft.entry) draft.pos) new sound.world
    happened = steps sound.world sound.shows

-- ---- what a response says

refused_tells : (opened : GroupView) (seen history : List Event) (p : ℕ) (asked : Asked)
    (number detail : ℕ) → Tells opened seen history p asked (IsRefused number detail)
refused_tells opened seen history p (Submit c n b) number detail = tt
refused_tells opened seen history p (Read place max) number detail = tt
refused_tells opened seen history p (Ask control) number detail = tt
refused_tells opened seen history p (Wait place max millis) number detail = tt

module _ (opened : GroupView) (seen history : List Event) (p : ℕ) (old new : HouseView)
    (sound : IsSound old.group) (last : AtTurn opened seen history old new) (j : Job)
    (said : Reply Global) (status : Option Status) (settling : Published) (events : ℕ) where
  abbrev TellsHere : Asked → Said → Type 0
  TellsHere asked answered = Tells opened seen history p asked answered

  refused_here : (asked : Asked) (number detail : ℕ) → TellsHere asked (IsRefused number detail)
  refused_here asked number detail = refused_tells opened seen history p asked number detail

  tells_as : (asked : Asked) (answered : Reply Global) (state : Option Status)
      → said ≡ answered → status ≡ state → TellsHere asked (told_of answered state)
      → TellsHere asked (told_of said status)
  tells_as asked answered state is was tells =
      subst (λ (s : Option Status). TellsHere asked (told_of said s)) (sym was)
      (subst (λ (r : Reply Global). TellsHere asked (told_of r state)) (sym is) tells)

  abbrev Ending : Stage → Type 0
  Ending at = Ends old j at new said status settling events

  refusal_ends : (asked : Asked) (r : Refusal) → Ending (stage.Answered (reply.Refused r))
      → TellsHere asked (told_of said status)
  refusal_ends asked r e =
      tells_as asked (reply.Refused r) None e.1 e.2
      (refused_here asked (number_of r) (detail_of r))

  module _ (c n : ℕ) (b : List ℕ) where
    abbrev message : Content
    message = record { client = c; number = n; payload = b }

    abbrev TellsIt : Type 0
    TellsIt = TellsHere (Submit c n b) (told_of said status)

    stored_tells : (draft : Placed) (done : Done) (between : HouseView) → draft.node ≡ p
        → Bears draft.entry message
        → between.past ≡ old.past ++ Commit draft.node draft.pos draft.entry ∷ []
        → new.past ≡ between.past
        → Steps old.group (Commit draft.node draft.pos draft.entry)
        (λ told. told ≡ Stored done) between.group
        → (own : Bool) → done.accepted ≡ own
        → TellsHere (Submit c n b) (told_of (reply.Stored done) None)
    stored_tells draft done between e bears longer same steps true is =
        rw is (stored-accepted opened seen history p message old between new draft done sound last
        longer same e bears is steps)
    stored_tells draft done between e bears longer same steps false is = rw is tt

    committed_tells : (draft : Placed) (r : Result Done (Placed × Refusal)) (between : HouseView)
        → draft.node ≡ p → Bears draft.entry message → Commits old.group draft r between.group
        → Counts (Commit draft.node draft.pos draft.entry) r old between
        → new.past ≡ between.past → said ≡ commit_reply r → status ≡ None → TellsIt
    committed_tells draft (Ok done) between e bears steps counts same is was =
        tells_as (Submit c n b) (reply.Stored done) None is was
        (stored_tells draft done between e bears counts.past same steps done.accepted refl)
    committed_tells draft (Err refused) between e bears steps counts same is was =
        tells_as (Submit c n b) (reply.Refused refusal.Stale) None is was tt

    failed_tells : (fault : StoreFault) (r : Result (Unit {0}) Refusal) → said ≡ fail_reply fault r
        → status ≡ None → TellsIt
    failed_tells fault (Ok done) is was =
        tells_as (Submit c n b) (reply.Refused (refusal_of fault)) None is was tt
    failed_tells fault (Err e) is was =
        tells_as (Submit c n b) (reply.Refused refusal.Stale) None is was tt

    kept_tells : (draft : Placed) (r : Result Placed Doubted) → IsKeptOf draft r → draft.node ≡ p
        → Bears draft.entry message → Ending (kept_stage r) → TellsIt
    kept_tells draft (Ok receipt) kept e bears ends =
        committed_tells draft ends.0 ends.1 e bears
        (subst (λ (d : Placed). Commits old.group d ends.0 ends.1.group) kept ends.2)
        (subst (λ (d : Placed). Counts (Commit d.node d.pos d.entry) ends.0 old ends.1) kept
        ends.3)
        (settled_past (has_released ends.0) receipt.node ends.1 new settling ends.4)
        ends.5 ends.6
    kept_tells draft (Err doubt) kept e bears ends = failed_tells doubt.fault ends.0 ends.3 ends.4

    drafted_tells : (draft : Placed) (at : Stage) → draft.node ≡ p → Bears draft.entry message
        → Goes (stage.Drafted draft) at → Ending at → TellsIt
    drafted_tells draft at e bears (inl same) ends =
        let none : ⊥ = subst Ending same ends in absurd none
    drafted_tells draft at e bears (inr kept) ends =
        kept_tells draft kept.0 kept.1 e bears (subst Ending kept.2 ends)

    same_tells : (first second : HouseView) (a : Answer (List Carried)) → IsSound first.group
        → AtTurn opened seen history first second
        → Steps first.group (SubmitOf p message) (λ reply. reply ≡ Same a) second.group
        → Ending (stage.Answered (reply.Same a)) → TellsIt
    same_tells first second (answer.Accepted x) good at steps e =
        tells_as (Submit c n b) (reply.Same (answer.Accepted x)) None e.1 e.2
        (again-accepted opened seen history p message first second x good at steps)
    same_tells first second (answer.Noted x) good at steps e =
        tells_as (Submit c n b) (reply.Same (answer.Noted x)) None e.1 e.2 tt
    same_tells first second (answer.Again x) good at steps e =
        tells_as (Submit c n b) (reply.Same (answer.Again x)) None e.1 e.2 tt
    same_tells first second (answer.Answered x packets) good at steps e =
        tells_as (Submit c n b) (reply.Same (answer.Answered x packets)) None e.1 e.2 tt

    submit_tells : (first second : HouseView) (r : Result (Taken Global) Refusal) (at : Stage)
        → IsSound first.group → AtTurn opened seen history first second
        → Takes first.group p (SubmitOf p message) r second.group → Goes (taken_stage r) at
        → Ending at → TellsIt
    submit_tells first second (Ok (taken.Same a)) at good turn takes goes e =
        same_tells first second a good turn takes (subst Ending goes e)
    submit_tells first second (Ok (taken.Store draft)) at good turn takes goes e =
        drafted_tells draft at takes.1
        (drafted-bears first.group second.group p message draft good takes.0 takes.1 takes.2)
        goes e
    submit_tells first second (Err r) at good turn takes goes e =
        refusal_ends (Submit c n b) r (subst Ending goes e)

  crash_tells : (first second : HouseView) (r : Result (Unit {0}) Refusal) (at : Stage)
      → AtTurn opened seen history first second → GoesDown first.group p (CrashOf p) r second.group
      → Counts (CrashOf p) r first second → Goes (crash_stage p r) at → Ending at
      → TellsHere (Ask control.Crash) (told_of said status)
  crash_tells first second (Ok tt) at turn steps counts goes e =
      let f = subst Ending goes e in
      tells_as (Ask control.Crash) (reply.WentDown p) None f.1 f.2
      (record {
        sound = turn.sound;
        place = length first.past;
        behind = prefix_length seen first.past turn.behind;
        crash =
            turn_told opened seen history first second (CrashOf p) (WentDown p) second turn steps
            (prefix_same (first.past ++ CrashOf p ∷ []) second.past (sym counts.past));
      })
  crash_tells first second (Err r) at turn steps counts goes e =
      refusal_ends (Ask control.Crash) r (subst Ending goes e)

  restarted_tells : (image : List Entry) (between : HouseView) (r : Result (Unit {0}) Refusal)
      → ComesUp old.group p (RestartOf p image) r between.group
      → Counts (RestartOf p image) r old between → new.past ≡ between.past
      → said ≡ restart_reply p r → status ≡ None
      → TellsHere (Ask control.Restart) (told_of said status)
  restarted_tells image between (Ok tt) comes counts same is was =
      tells_as (Ask control.Restart) (reply.Up p) None is was
      (record {
        sound = last.sound;
        place = length old.past;
        behind = prefix_length seen old.past last.behind;
        image = image;
        restart =
            turn_told opened seen history old new (RestartOf p image) (Up p) between last comes
            (prefix_same (old.past ++ RestartOf p image ∷ []) new.past
            (sym (same ∙ counts.past)));
      })
  restarted_tells image between (Err r) comes counts same is was =
      tells_as (Ask control.Restart) (reply.Refused r) None is was tt

  image_tells : (r : Result (Vec Entry Global) StoreFault) → node_of j ≡ p → Ending (image_stage r)
      → TellsHere (Ask control.Restart) (told_of said status)
  image_tells (Ok image) e ends =
      restarted_tells image.items ends.1 ends.0
      (subst (λ (i : ℕ). ComesUp old.group i (RestartOf i image.items) ends.0 ends.1.group)
      e ends.2)
      (subst (λ (i : ℕ). Counts (RestartOf i image.items) ends.0 old ends.1) e ends.3)
      (settled_past _ _ ends.1 new settling ends.4)
      (subst (λ (i : ℕ). said ≡ restart_reply i ends.0) e ends.5) ends.6
  image_tells (Err fault) e ends =
      tells_as (Ask control.Restart) (reply.Refused (refusal_of fault)) None ends.1 ends.2 tt

  restart_tells : (s : Option State) (at : Stage) → node_of j ≡ p → Goes (restart_stage s) at
      → Ending at → TellsHere (Ask control.Restart) (told_of said status)
  restart_tells (Some state.Down) at e (inl same) ends =
      let none : ⊥ = subst Ending same ends in absurd none
  restart_tells (Some state.Down) at e (inr given) ends =
      image_tells given.0 e (subst Ending given.1 ends)
  restart_tells (Some state.Ready) at e goes ends =
      refusal_ends (Ask control.Restart) refusal.NotDown (subst Ending goes ends)
  restart_tells (Some state.Storing) at e goes ends =
      refusal_ends (Ask control.Restart) refusal.NotDown (subst Ending goes ends)
  restart_tells None at e goes ends =
      refusal_ends (Ask control.Restart) refusal.BadNode (subst Ending goes ends)

  asked_tells : (s : Option Status) → status ≡ s → TellsStatus old.group p s
      → said ≡ status_reply p s → TellsHere (Ask control.Status) (told_of said status)
  asked_tells (Some s) was tells is =
      subst (λ (o : Option Status). TellsHere (Ask control.Status) (told_of said o)) (sym was)
      (record {
        sound = last.sound;
        past = old.past;
        behind = last.behind;
        within = prefix_trans old.past new.past history last.grows last.within;
        group = old.group;
        leads = last.leads;
        status = s;
        tells = tells;
        told = refl;
      })
  asked_tells None was tells is =
      tells_as (Ask control.Status) (status_reply p None) None is was tt

-- ---- any result of the job

module _ (opened : GroupView) (seen : List Event) (j : Job) (said : Reply Global)
    (status : Option Status) (settling : Published) (loans : LoansView)
    (came : CameOf opened j said status settling (Some loans))
    (behind : IsPrefix seen loans.first.lent) where
  begun : HasBegun opened j came.0 came.4
  begun = came.6

  first_is : IsLoan begun.0 begun.1 loans.first
  first_is = one_loan came.4 loans.first begun.0 begun.1 begun.8 came.10.first_is

  last_is : IsLoan came.1 came.2 loans.last
  last_is = came.10.last_is

  begins_behind : IsPrefix seen begun.0.past
  begins_behind = subst (λ (l : List Event). IsPrefix seen l) first_is.lent_at behind

  begins_on : IsPrefix begun.0.past begun.1.past
  begins_on = begins_grow begun.0 j begun.1 begun.2 begun.3 begun.5

  later : IsPrefix begun.1.past came.1.past
  later =
      subst (λ (l : List Event). IsPrefix l came.1.past) first_is.back_at
      (subst (λ (l : List Event). IsPrefix loans.first.back l) last_is.lent_at came.10.later)

  ends_on : IsPrefix came.1.past came.2.past
  ends_on = ends_grow came.1 j came.0 came.2 said status settling came.3 came.7

  ends_there : IsPrefix came.2.past loans.last.back
  ends_there = prefix_same came.2.past loans.last.back (sym last_is.back_at)

  -- the first loan of the turn
  first_turn : AtTurn opened seen loans.last.back begun.0 begun.1
  first_turn = record {
    sound = came.8;
    leads = begun.7;
    behind = begins_behind;
    grows = begins_on;
    within =
        prefix_trans begun.1.past came.1.past loans.last.back later
        (prefix_trans came.1.past came.2.past loans.last.back ends_on ends_there);
  }

  -- the last one
  last_turn : AtTurn opened seen loans.last.back came.1 came.2
  last_turn = record {
    sound = came.8;
    leads = came.9;
    behind =
        prefix_trans seen begun.1.past came.1.past
        (prefix_trans seen begun.0.past begun.1.past begins_behind begins_on) later;
    grows = ends_on;
    within = ends_there;
  }

  -- what a desk has seen is a prefix of what it sees after the turn
  pub seen_grows : IsPrefix seen loans.last.back
  seen_grows = prefix_trans seen came.1.past loans.last.back last_turn.behind
      (prefix_trans came.1.past came.2.past loans.last.back ends_on ends_there)

-- what a turn of a request without fields answers is true
control_tells : (opened : GroupView) (seen : List Event) (c : Control) (p : ℕ)
    (said : Reply Global) (status : Option Status) (settling : Published) (loans : LoansView)
    → CameOf opened (control_job p c) said status settling (Some loans)
    → IsPrefix seen loans.first.lent
    → Tells opened seen loans.last.back p (Ask c) (told_of said status)
unfolding begun
control_tells opened seen control.Crash p said status settling loans came behind =
    let begun = came.6 in
    crash_tells opened seen loans.last.back p came.1 came.2 came.5
    (last_turn opened seen (job.Crash p) said status settling loans came behind)
    (job.Crash p) said status settling came.3 begun.0 begun.1 begun.5.0 came.0
    (first_turn opened seen (job.Crash p) said status settling loans came behind)
    begun.5.1 begun.5.2
    (subst (λ (s : Stage). Goes s came.0) begun.5.3 begun.6) came.7
control_tells opened seen control.Restart p said status settling loans came behind =
    let begun = came.6 in
    restart_tells opened seen loans.last.back p came.1 came.2 came.5
    (last_turn opened seen (job.Restart p) said status settling loans came behind)
    (job.Restart p) said status settling came.3 begun.5.0 came.0 refl
    (subst (λ (s : Stage). Goes s came.0) begun.5.3 begun.6) came.7
control_tells opened seen control.Status p said status settling loans came behind =
    let begun = came.6 in
    let asking : came.0 ≡ stage.Asking = subst (λ (s : Stage). Goes s came.0) begun.5.1 begun.6 in
    let ended =
    subst (λ (s : Stage). Ends came.1 (job.Status p) s came.2 said status settling came.3)
    asking came.7 in
    asked_tells opened seen loans.last.back p came.1 came.2 came.5
    (last_turn opened seen (job.Status p) said status settling loans came behind)
    (job.Status p) said status settling came.3 status refl ended.1 ended.2

came_tells : (opened : GroupView) (seen : List Event) (asked : Asked) (p : ℕ) (done : Job)
    (said : Reply Global) (status : Option Status) (settling : Published) (loans : LoansView)
    → IsJobOf p asked done → CameOf opened done said status settling (Some loans)
    → IsPrefix seen loans.first.lent
    → Tells opened seen loans.last.back p asked (told_of said status)
unfolding begun
came_tells opened seen (Submit c n bytes) p (job.Submit q of ranked payload) said status settling
    loans is came behind =
    let begun = came.6 in
    let tells : Tells opened seen loans.last.back q (Submit of ranked payload)
    (told_of said status) =
    submit_tells opened seen loans.last.back q came.1 came.2 came.5
    (last_turn opened seen (job.Submit q of ranked payload) said status settling loans came behind)
    (job.Submit q of ranked payload)
    said status settling came.3 of ranked payload begun.0 begun.1 begun.5.0 came.0
    begun.4
    (first_turn opened seen (job.Submit q of ranked payload) said status settling loans came behind)
    begun.5.1
    (subst (λ (s : Stage). Goes s came.0) begun.5.3 begun.6) came.7 in
    subst (λ (i : ℕ). Tells opened seen loans.last.back i (Submit c n bytes) (told_of said status))
    is.0
    (subst (λ (b : List ℕ).
    Tells opened seen loans.last.back q (Submit c n b) (told_of said status)) is.3
    (subst (λ (i : ℕ).
    Tells opened seen loans.last.back q (Submit c i payload) (told_of said status)) is.2
    (subst (λ (i : ℕ).
    Tells opened seen loans.last.back q (Submit i ranked payload) (told_of said status)) is.1
    tells)))
came_tells opened seen (Ask control) p done said status settling loans is came behind =
    control_tells opened seen control p said status settling loans
    (subst (λ (j : Job). CameOf opened j said status settling (Some loans)) is came) behind
came_tells opened seen asked p done said status settling loans is came behind = absurd is

outcome_tells : (opened : GroupView) (seen history : List Event) (asked : Asked) (p : ℕ)
    (done : Job) (said : Reply Global) (status : Option Status) (settling : Published)
    (loans : Option LoansView)
    → IsJobOf p asked done → CameOf opened done said status settling loans
    → Sees seen loans history → Tells opened seen history p asked (told_of said status)
outcome_tells opened seen history asked p done said status settling (Some loans) is came sees =
    subst (λ (l : List Event). Tells opened seen l p asked (told_of said status)) (sym sees.1)
    (came_tells opened seen asked p done said status settling loans is came sees.0)
outcome_tells opened seen history asked p done said status settling None is came sees = absurd sees

-- What a desk responds by the result of its worker is true of the desk's node.
pub works_tells : (opened : GroupView) (before after : DeskView) (asked : Asked) (said : Said)
    → Works opened before asked said after
    → Tells opened before.past after.past before.node asked said
works_tells opened before after asked said (inl w) =
    subst (Tells opened before.past after.past before.node asked) (sym w.8)
    (outcome_tells opened before.past after.past asked before.node w.0 w.1 w.2 w.3 w.4 w.5 w.6 w.9)
works_tells opened before after asked said (inr w) =
    subst (Tells opened before.past after.past before.node asked) (sym w.2)
    (refused_tells opened before.past after.past before.node asked 3 0)

outcome_grows : (opened : GroupView) (seen history : List Event) (done : Job)
    (said : Reply Global) (status : Option Status) (settling : Published)
    (loans : Option LoansView) → CameOf opened done said status settling loans
    → Sees seen loans history → IsPrefix seen history
outcome_grows opened seen history done said status settling (Some loans) came sees =
    subst (λ (l : List Event). IsPrefix seen l) (sym sees.1)
    (seen_grows opened seen done said status settling loans came sees.0)
outcome_grows opened seen history done said status settling None came sees = absurd sees

-- what a desk has seen only grows
pub works_grows : (opened : GroupView) (before after : DeskView) (asked : Asked) (said : Said)
    → Works opened before asked said after → IsPrefix before.past after.past
works_grows opened before after asked said (inl w) =
    outcome_grows opened before.past after.past w.0 w.1 w.2 w.3 w.4 w.6 w.9
works_grows opened before after asked said (inr w) =
    prefix_same before.past after.past (sym w.1)

-- So a response by the worker's result is one that the desk may give, if memory was not refused.
pub answers_by_work : {X E : Type 0} (opened : GroupView) (before after : DeskView) (asked : Asked)
    (said : X → Said) (result : Result X E) → IsWork asked
    → IfOk result (λ r. (after.node ≡ before.node) × Works opened before asked (said r) after)
    → IfOk result (λ r. AnswersAt opened before asked (said r) after)
answers_by_work opened before after (Submit client number payload) said (Ok r) work works = (
  works.0,
  works.1,
  works_tells opened before after (Submit client number payload) (said r) works.1,
  works_grows opened before after (Submit client number payload) (said r) works.1,
)
answers_by_work opened before after (Ask control) said (Ok r) work works = (
  works.0,
  works.1,
  works_tells opened before after (Ask control) (said r) works.1,
  works_grows opened before after (Ask control) (said r) works.1,
)
answers_by_work opened before after (Read place max) said (Ok r) work works = absurd work
answers_by_work opened before after (Wait place max millis) said (Ok r) work works = absurd work
answers_by_work opened before after asked said (Err refused) work works = tt
