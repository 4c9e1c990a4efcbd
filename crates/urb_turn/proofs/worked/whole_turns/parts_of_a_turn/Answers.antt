-- Turns in a new group whose parts do not fit, and one whose parts fit.
use Rattle.urb_turn.proofs.Common.{AreElsewhere, Bool, Carried, Commit, Crash, Down, Ends, Entry}
use Rattle.urb_turn.proofs.Common.{Err, Event, FinishedView, GoesDown, GroupView, HasRested}
use Rattle.urb_turn.proofs.Common.{HouseView, IsLedTo, IsRefused, IsSound, IsStoreAfter, IsTurn}
use Rattle.urb_turn.proofs.Common.{IsTurnAt, Keeps, Label, LeavesAfter, Limits, List, Node, None}
use Rattle.urb_turn.proofs.Common.{NothingNew, Ok, Ready, Refusal, Refused, Restart, Result, Shows}
use Rattle.urb_turn.proofs.Common.{ShowsNode, Some, Stage, StoreFault, Stores, Submit, WentDown}
use Rattle.urb_turn.proofs.Common.{World, [], after, arith, cond-false, crash_stage, drafts_in_none}
use Rattle.urb_turn.proofs.Common.{empty_memory, ended, eqb-true, false, first_of_one, four}
use Rattle.urb_turn.proofs.Common.{holding, house_of, house_of_four, house_of_none, if◌then◌else◌}
use Rattle.urb_turn.proofs.Common.{inl, inr, is_node, length, limits, log, memory, name, new-kept}
use Rattle.urb_turn.proofs.Common.{new_four, new_status, no_view, nothing_released, opened_node}
use Rattle.urb_turn.proofs.Common.{pending, refl, run, shows_none, state_of, status_of, step, subst}
use Rattle.urb_turn.proofs.Common.{suc, sym, true, view_of, zero, ℕ, ◌-◌, ◌==◌, ◌∷◌, ◌≡◌}
use Rattle.urb_world.specs.World.{stored}
use Rattle.urb_names.specs.LabelsAndContents.{Content}
use Rattle.urb_names.specs.Pairs.{own}
use Rattle.urb_node.specs.Part.{State}
use Rattle.urb_node.specs.Steps.{restarts}
use Rattle.urb_show.specs.Statuses.{TellsStatus}
use Rattle.urb_stable.specs.MemoryStores.{Memory}
use Rattle.urb_stable.specs.Records.{pend}
use Rattle.urb_turn.specs.internal.TurnExamples.{around_a_restart, in_doubt}
use Rattle.urb_group.specs.declared.reply.Reply.TheVariants as reply
use Rattle.urb_group.specs.declared.state.State.TheVariants as state
use Rattle.urb_group.specs.declared.taken.Taken.TheVariants as taken
use Rattle.urb_names.specs.declared.refusal.Refusal.TheVariants as refusal
use Rattle.urb_turn.specs.declared.job.Job.TheVariants as job
use Rattle.urb_turn.specs.declared.turn_stages.Stage.TheVariants as stage
use Rattle.urb_turn.proofs.worked.whole_turns.parts_of_a_turn.Goals as goal

new_node : (p : ℕ) → ShowsNode (limits 4 10) p no_view (opened_node p [])
new_node p = record {
  pairs = λ x m. refl;
  certified = λ x. refl;
  log = refl;
  count = refl;
  state = refl;
  cursor = refl;
  acks = λ x q e. refl;
  heard = λ x q. refl;
  rules = tt;
  broadcast = refl;
}

-- a new group shows a new world
shows_new : Shows new_four four
shows_new = record { size = refl; nodes = at }
  where
    at : (p : ℕ) → ShowsNode (limits 4 10) p (view_of new_four p) (opened_node p [])
    at zero = new_node zero
    at (suc before) = new_node (suc before)

no_name : (records : List Entry) → 0 ≡ length records → name 1 1 ∷ [] ≡ log records → ⊥
no_name [] count logged = cc
no_name (r ∷ records) count logged = omega (arith, count)

-- the group shows no world
no_world : (w : World) → Shows shows_none w → ⊥
no_world w shows = let node = shows.nodes 1 in no_name (stored w 1) node.count node.log

-- a new group shows a world that keeps the rules
sound : IsSound new_four
sound = record { world = four; shows = shows_new; kept = new-kept (limits 4 10) }

-- the events of the turn: the submit, and the receipt
abbrev submitted : Event
submitted = Submit 1 (record { client = 7; number = 1; payload = [] })

abbrev received : Event
received = Commit 1 1 (pending 1 1)

-- the House in which node 1 holds its draft, and the one in which its record is stored
abbrev drafted : HouseView
drafted = house_of drafts_in_none (submitted ∷ [])

abbrev ended-house : HouseView
ended-house = house_of_four (submitted ∷ received ∷ [])

kept : Keeps memory empty_memory first_of_one (Ok tt) holding
kept = record {
  answers = inl refl;
  placed = tt;
  same = λ out. absurd (false-true out);
  counted = λ honest. refl;
  appended = λ honest. record { stored = refl; failed = tt };
  doubted = record { clear = (refl, refl); doubtful = tt; doubt = tt };
  stop = λ honest clean records is. inr is;
  rest = λ honest records is. is;
  counts = record { device = λ e. absurd (ok-err _ _ e); grows = omega arith };
  trust = record {
    clean = λ clean. tt;
    honest = λ honest. tt;
    alive = λ honest clean. tt;
    shut = λ honest clean. inl tt;
  };
  ahead = refl;
}
  where
    false-true : false ≡ true → ⊥
    false-true e = cc

    ok-err : (done : Unit {0}) (it : StoreFault) → Ok done ≡ Err it → ⊥
    ok-err done it e = cc

stored_turn : IsTurnAt memory shows_none 1 (job.Submit 1 7 1 []) empty_memory holding
    (ended (job.Submit 1 7 1 []) (reply.Stored nothing_released) 2)
stored_turn = record {
  turn = record {
    lent = house_of_none [];
    given_back = drafted;
    lent_again = house_of_none (submitted ∷ []);
    left = ended-house;
    at = stage.Drafted first_of_one;
    new = stage.Kept first_of_one;
    events = 1;
    begins = (
      Ok (taken.Store first_of_one),
      (
        λ w shows. absurd (no_world w shows),
        refl,
        record { cause = None; state = refl; position = refl },
      ),
      record { published = refl; prepared = refl; events = refl; past = refl },
      refl,
      refl,
    );
    stores = (Ok first_of_one, refl, kept, refl);
    finishes = (
      Ok nothing_released,
      ended-house,
      λ w shows. absurd (no_world w shows),
      record { published = refl; prepared = refl; events = refl; past = refl },
      (refl, refl),
      refl,
      refl,
      refl,
    );
    leads = λ w shows. absurd (no_world w shows);
    leads_again = λ w shows. absurd (no_world w shows);
    loans = tt;
  };
  sound = sound;
  keeps = λ start shows. absurd (no_world start shows);
  leaves = λ start shows. absurd (no_world start shows);
}

-- a turn that asks for a status
asked : (opened : GroupView) (before after : Memory) (done : FinishedView)
    (turn : IsTurn memory opened (job.Status 1) before after done) → turn.new ≡ stage.Asking
asked opened before after done turn =
    (subst (λ it. Stores memory before it after turn.new) turn.begins.1 turn.stores).1

down-refused : (p : ℕ) (r : Refusal) → WentDown p ≡ Refused r → ⊥
down-refused p r e = cc

no-status : None ≡ Some (status_of four 1) → ⊥
no-status e = cc

-- a crash of a new node isn't refused
down : (r : Result (Unit {0}) Refusal) (group later : GroupView) (again left : HouseView)
    (new : Stage) (events : ℕ) → Shows group four → GoesDown group 1 (Crash 1) r later
    → Stores memory empty_memory (crash_stage 1 r) empty_memory new
    → Ends again (job.Crash 1) new left (reply.Refused refusal.Down) None NothingNew events → ⊥
unfolding step
down (Ok done) group later again left new events shows crashes stores ends =
    let said = (subst (λ (it : Stage). Ends again (job.Crash 1) it left
    (reply.Refused refusal.Down) None NothingNew events) stores.1 ends).1 in cc
down (Err r) group later again left new events shows crashes stores ends =
    let said : reply.Refused refusal.Down ≡ reply.Refused r =
    (subst (λ (it : Stage). Ends again (job.Crash 1) it left
    (reply.Refused refusal.Down) None NothingNew events) stores.1 ends).1 in
    let e : refusal.Down ≡ r = cc in
    down-refused _ _ ((subst (λ r. IsRefused group (Crash 1) r later) (sym e) crashes).0 four shows)

pub returns-clause-a_refused_crash_at_the_opening : goal.returns-clause-a_refused_crash_at_the_opening
unfolding run
returns-clause-a_refused_crash_at_the_opening c t =
    down t.begins.0 t.lent.group t.given_back.group t.lent_again t.left t.new _
    (subst (λ past. IsLedTo new_four past t.lent.group) (sym t.loans.first_is.lent_at) t.leads four
    shows_new)
    t.begins.1
    (subst (λ it. Stores memory empty_memory it empty_memory t.new) t.begins.3 t.stores)
    t.finishes

pub returns-clause-a_missing_node_at_the_opening : goal.returns-clause-a_missing_node_at_the_opening
unfolding run
returns-clause-a_missing_node_at_the_opening c t =
    let ended = subst (λ (it : Stage). Ends t.lent_again (job.Status 1) it t.left
    (reply.Refused refusal.BadNode) None NothingNew (0 - t.events)) (asked _ _ _ _ t) t.finishes in
    no-status (ended.1 four (subst (λ past. IsLedTo new_four past t.lent_again.group)
    (sym t.loans.last_is.lent_at) t.leads_again four shows_new))

pub returns-clause-a_submit_that_is_stored : goal.returns-clause-a_submit_that_is_stored
returns-clause-a_submit_that_is_stored c = stored_turn

some-none : {A : Type 0} (x : A) (xs : List A) → x ∷ xs ≡ [] → ⊥
some-none x xs e = cc

-- a stop leaves no pair of node 1 in the store of node 2
not-left : (past : List Event) → submitted ∷ [] ≡ past → LeavesAfter memory four past 2 holding → ⊥
unfolding run step
not-left past is leaves =
    let left = subst (λ past. LeavesAfter memory four past 2 holding) (sym is) leaves in
    some-none (pending 1 1) [] ((left tt).may (pending 1 1 ∷ []) ((left tt).only (pending 1 1 ∷ []) refl))

-- node 2's store is empty at the opening
matches : IsStoreAfter memory four [] 2 empty_memory
unfolding run
matches = record {
  contents = record {
    contents = λ honest records is. is;
    left = λ honest. record {
      certain = [];
      doubtful = None;
      only = λ records is. is;
      may = λ records is. is;
    };
    up = λ honest up. (refl, refl);
    sure = λ up. refl;
  };
  lasting = record {
    left = λ clean. record {
      certain = [];
      doubtful = None;
      only = λ records is. is;
      may = λ records is. is;
    };
    known = λ clean. inl tt;
  };
  tail = λ clean. inl refl;
}

pub returns-clause-a_pair_that_a_stop_leaves_of_another : goal.returns-clause-a_pair_that_a_stop_leaves_of_another
returns-clause-a_pair_that_a_stop_leaves_of_another c t =
    not-left t.turn.given_back.past t.turn.loans.first_is.back_at
    (t.leaves four shows_new
    (subst (λ past. IsStoreAfter memory four past 2 empty_memory) t.turn.loans.first_is.lent_at
    matches))

no-record : (records : List Entry) → 0 ≡ length records → records ≡ []
no-record [] e = refl
no-record (r ∷ records) e = absurd (omega (arith, e))

told-of : (size : Limits) (st : State) (own : List Content) (logged : List Label)
    → limits 4 10 ≡ size → Ready ≡ st → [] ≡ own → [] ≡ logged
    → Some new_status ≡ (if is_node size.n 1 then Some (record {
      state = state_of st;
      own = length own;
      logged = length logged;
    }) else None)
told-of size st own logged a b c d =
    subst (λ (it : Limits). Some new_status ≡ (if is_node it.n 1 then Some (record {
      state = state_of st;
      own = length own;
      logged = length logged;
    }) else None)) a
    (subst (λ (it : State). Some new_status ≡ Some (record {
      state = state_of it;
      own = length own;
      logged = length logged;
    })) b
    (subst (λ (it : List Content). Some new_status ≡ Some (record {
      state = state.Ready;
      own = length it;
      logged = length logged;
    })) c
    (subst (λ (it : List Label). Some new_status ≡ Some (record {
      state = state.Ready;
      own = 0;
      logged = length it;
    })) d refl)))

-- the status of node 1 of each world that a new group shows
tells-new : TellsStatus new_four 1 (Some new_status)
tells-new w shows =
    let node = shows.nodes 1 in
    let none : (w.node 1).records ≡ [] = no-record (w.node 1).records node.count in
    told-of w.size (w.node 1).state (w.node 1).broadcast (log (stored w 1)) shows.size node.state
    (sym (subst (λ records. (w.node 1).broadcast ≡ own 1 (pend records)) none node.broadcast))
    node.log

-- a node without records that is down, and may have stored its first one, comes up with none
comes-new : (node : Node) (st : State) (records : List Entry) (told : List Content)
    → Down (Some (pending 1 1)) ≡ st → [] ≡ records → [] ≡ told
    → ShowsNode (limits 4 10) 1 no_view
    (restarts 1 [] (record node { records = records; broadcast = told }) st).1
comes-new node st records told a b c =
    subst (λ (it : State). ShowsNode (limits 4 10) 1 no_view
    (restarts 1 [] (record node { records = records; broadcast = told }) it).1) a
    (subst (λ (it : List Entry). ShowsNode (limits 4 10) 1 no_view
    (restarts 1 [] (record node { records = it; broadcast = told })
    (Down (Some (pending 1 1)))).1) b
    (subst (λ (it : List Content). ShowsNode (limits 4 10) 1 no_view
    (restarts 1 [] (record node { records = []; broadcast = it })
    (Down (Some (pending 1 1)))).1) c (new_node 1)))

abbrev restart : Event
restart = Restart 1 []

-- a node behind the first one isn't the first one
not-first : (more : ℕ) → (suc (suc more) == 1) ≡ false
not-first more = at (suc (suc more) == 1) refl
  where
    none : suc (suc more) ≡ 1 → ⊥
    none e = omega (arith, e)

    at : (b : Bool) → (suc (suc more) == 1) ≡ b → (suc (suc more) == 1) ≡ false
    at true e = absurd (none (eqb-true (suc (suc more)) 1 e))
    at false e = e

-- the group shows each world that the doubtful one showed, once node 1 has restarted
shows-after : (size : Limits) (node : ℕ → Node) (sent : List Carried) → limits 4 10 ≡ size
    → ((p : ℕ) → ShowsNode (limits 4 10) p (view_of in_doubt p) (node p))
    → Shows new_four (after (record { size = size; node = node; sent = sent }) (restart ∷ []))
unfolding step run
shows-after size node sent a shown =
    subst (λ (it : Limits). Shows new_four
    (after (record { size = it; node = node; sent = sent }) (restart ∷ []))) a
    (record { size = refl; nodes = at })
  where
    none : (node 1).records ≡ []
    none = no-record (node 1).records (shown 1).count

    at : (p : ℕ) → ShowsNode (limits 4 10) p (view_of new_four p)
        ((after (record { size = limits 4 10; node = node; sent = sent }) (restart ∷ [])).node p)
    at zero = shown 0
    at (suc zero) =
        comes-new (node 1) (node 1).state (node 1).records (node 1).broadcast (shown 1).state
        (sym none)
        (sym (subst (λ records. (node 1).broadcast ≡ own 1 (pend records)) none
        (shown 1).broadcast))
    at (suc (suc more)) =
        subst (λ (it : Node). ShowsNode (limits 4 10) (suc (suc more)) no_view it)
        (sym (cond-false (suc (suc more) == 1) (restarts 1 [] (node 1) (node 1).state).1
        (node (suc (suc more))) (not-first more)))
        (shown (suc (suc more)))

led-again : IsLedTo in_doubt (restart ∷ []) new_four
led-again w shows = shows-after w.size w.node w.sent shows.size
    (subst (λ (it : Limits). (p : ℕ) → ShowsNode it p (view_of in_doubt p) (w.node p))
    (sym shows.size) shows.nodes)

-- the group is led to itself by no event
led : IsLedTo in_doubt [] in_doubt
unfolding run
led w shows = shows

own-none : true ≡ false → ⊥
own-none e = cc

-- the node has not rested between the two loans
not-rested : HasRested 1 [] (restart ∷ []) → ⊥
not-rested h =
    own-none (subst (λ (it : List Event). AreElsewhere 1 it) (sym h.later_is) h.elsewhere).0

asked-in-doubt : IsTurnAt memory in_doubt 1 (job.Status 1) holding holding
    (record (ended (job.Status 1) (reply.Up 1) 0)
    { status = Some new_status; loans = Some around_a_restart })
asked-in-doubt = record {
  turn = record {
    lent = house_of in_doubt [];
    given_back = house_of in_doubt [];
    lent_again = house_of new_four (restart ∷ []);
    left = house_of new_four (restart ∷ []);
    at = stage.Asking;
    new = stage.Asking;
    events = 0;
    begins = (refl, refl, refl);
    stores = (refl, refl);
    finishes = (refl, tells-new, refl, refl, refl);
    leads = led;
    leads_again = led-again;
    loans = record {
      first_is = record { lent_at = refl; back_at = refl };
      last_is = record { lent_at = refl; back_at = refl };
      later = (restart ∷ [], refl);
    };
  };
  sound = sound;
  keeps = λ start shows matches rested. absurd (not-rested rested);
  leaves = λ start shows matches clean. matches.lasting.left clean;
}

pub returns-clause-a_restart_between_the_loans : goal.returns-clause-a_restart_between_the_loans
returns-clause-a_restart_between_the_loans c = asked-in-doubt
