-- What a turn does to the nodes of other workers, and what a stored record says about its store.
use Rattle.urb_turn.proofs.Common.{AreElsewhere, Arrive, Begins, Carried, Counts, Done, Doubted}
use Rattle.urb_turn.proofs.Common.{Ends, Entry, Err, Event, FinishedView, Ghosts, Global, Goes}
use Rattle.urb_turn.proofs.Common.{GroupView, HasRested, HouseView, IsKeptOf, IsSound, IsStoreAfter}
use Rattle.urb_turn.proofs.Common.{IsTurn, Job, Keeps, LeavesAfter, Limits, List, MayLeave, None}
use Rattle.urb_turn.proofs.Common.{Ok, Option, Placed, Published, Refusal, Result, Shows, ShowsNode}
use Rattle.urb_turn.proofs.Common.{Some, Stage, Status, Stays, StoreFault, Stores, Submit, Taken}
use Rattle.urb_turn.proofs.Common.{Takes, Vec, World, [], after, after-append, answer_of, ap}
use Rattle.urb_turn.proofs.Common.{append_assoc, crash_stage, eqb-true, false, image_stage, inl}
use Rattle.urb_turn.proofs.Common.{inr, is_own, kept_stage, leaves-stay, node_of, packet_of, refl}
use Rattle.urb_turn.proofs.Common.{refusal_of, restart_stage, runs_at, subst, sym, taken_stage}
use Rattle.urb_turn.proofs.Common.{tick_stage, true, view_of, ℕ, ◌++◌, ◌-◌, ◌==◌, ◌∙◌, ◌∷◌, ◌≡◌}
use Rattle.urb_turn.proofs.Common.{◌≢◌}
use Rattle.std.proofs.lemmas.List.{append-nil}
use Rattle.std.proofs.lemmas.Bool.{ne_eqb}
use Rattle.urb_group.proofs.shown.AgreeingWorlds.{sound-kept}
use Rattle.urb_world.proofs.stops.StoppedWorlds.{survives}
use Rattle.urb_world.specs.ProcessStops.{GoesOnIn}
use Rattle.urb_group.specs.declared.reply.Reply.{Reply}
use Rattle.urb_group.specs.declared.state.State.{State}
use Rattle.urb_turn.proofs.GrowingPasts.{settled_past}
use Rattle.urb_turn.proofs.LastingStores.{stays}
use Rattle.urb_turn.proofs.TurnSteps.{goes_on, goes_still}
use Rattle.urb_turn.proofs.FollowingTails.{tail-waits}
use Rattle.urb_turn.proofs.WaitingNodes.{Waited, elsewhere-waited, waited-stays}
use Rattle.urb_turn.specs.NodeStores.{WouldHaveTail}
use Rattle.urb_turn.specs.Stages.{state_reply, status_reply}
use Rattle.urb_group.specs.declared.reply.Reply.TheVariants as reply
use Rattle.urb_group.specs.declared.state.State.TheVariants as state
use Rattle.urb_group.specs.declared.taken.Taken.TheVariants as taken
use Rattle.urb_names.specs.declared.refusal.Refusal.TheVariants as refusal
use Rattle.urb_turn.specs.declared.job.Job.TheVariants as job
use Rattle.urb_turn.specs.declared.turn_stages.Stage.TheVariants as stage

-- ---- a node rests

-- a node rests from a moment to the same moment
pub rests-none : (n : ℕ) (past : List Event) → HasRested n past past
rests-none n past = record { between = []; later_is = sym (append-nil past); elsewhere = tt }

both-elsewhere : (n : ℕ) (first second : List Event) → AreElsewhere n first
    → AreElsewhere n second → AreElsewhere n (first ++ second)
both-elsewhere n [] second one two = two
both-elsewhere n (event ∷ first) second one two = (one.0, both-elsewhere n first second one.1 two)

-- a node that rested twice, one time after the other, rested all along
pub rests-on : (n : ℕ) (first second third : List Event) → HasRested n first second
    → HasRested n second third → HasRested n first third
rests-on n first second third one two =
    record {
      between = one.between ++ two.between;
      later_is =
          two.later_is
          ∙ (ap (λ (l : List Event). l ++ two.between) one.later_is
          ∙ append_assoc first one.between two.between);
      elsewhere = both-elsewhere n one.between two.between one.elsewhere two.elsewhere;
    }

rests-same : (n : ℕ) (old new : HouseView) → new ≡ old → HasRested n old.past new.past
rests-same n old new e =
    subst (λ (house : HouseView). HasRested n old.past house.past) (sym e) (rests-none n old.past)

rests-settled : (n : ℕ) (old between new : HouseView) → HasRested n old.past between.past
    → new.past ≡ between.past → HasRested n old.past new.past
rests-settled n old between new rested same =
    subst (λ (past : List Event). HasRested n old.past past) (sym same) rested

-- each node rests while a node crashes, and while another node has an event
counts-rest : {T E : Type 0} (n : ℕ) (event : Event) (r : Result T E) (old new : HouseView)
    → is_own n event ≡ false → Counts event r old new → HasRested n old.past new.past
counts-rest n event (Ok done) old new apart next =
    record { between = event ∷ []; later_is = next.past; elsewhere = (apart, tt) }
counts-rest n event (Err refused) old new apart same = rests-same n old new same

-- ---- the event before the store

module _ (n m : ℕ) (other : n ≢ m) where
  -- a number that is m isn't n
  apart : (p : ℕ) → p ≡ m → (p == n) ≡ false
  apart p here = ne_eqb p n (λ e. other (sym e ∙ here))

  -- the turn's event before its store is none of node n itself
  pub begins-rest : (j : Job) (old new : HouseView) (at : Stage) (events : ℕ) → runs_at m j ≡ true
      → Begins old j new at events → HasRested n old.past new.past
  begins-rest (job.Submit p client number payload) old new at events runs
      (r, takes, counts, is, rest) = counts-rest n _ r old new (apart p (eqb-true p m runs)) counts
  begins-rest (job.Arrive p bytes) old new at events runs (r, takes, counts, is, rest) =
      counts-rest n _ r old new (apart p (eqb-true p m runs)) counts
  begins-rest (job.Tick p) old new at events runs (r, ticks, counts, is, rest) =
      counts-rest n _ r old new (apart p (eqb-true p m runs)) counts
  begins-rest (job.Crash p) old new at events runs (r, crashes, counts, is, rest) =
      counts-rest n _ r old new refl counts
  begins-rest (job.Restart p) old new at events runs (s, answers, same, is, rest) =
      rests-same n old new same
  begins-rest (job.Status p) old new at events runs (same, is, rest) = rests-same n old new same

-- ---- the event after it

module _ (n m : ℕ) (other : n ≢ m) (j : Job) (again left : HouseView) (said : Reply Global)
    (status : Option Status) (settling : Published) (count : ℕ) where
  abbrev Ending : Stage → Type 0
  Ending at = Ends again j at left said status settling count

  kept-rest : (draft : Placed) (r : Result Placed Doubted) → draft.node ≡ m → IsKeptOf draft r
      → Ending (kept_stage r) → HasRested n again.past left.past
  kept-rest draft (Ok receipt) here is
      (r, between, commits, counts, settles, is_said, is_status, is_count) =
      rests-settled n again between left
      (counts-rest n _ r again between
      (apart n m other receipt.node (ap (λ (d : Placed). d.node) is ∙ here)) counts)
      (settled_past _ _ between left settling settles)
  kept-rest draft (Err doubt) here is (r, fails, counts, is_said, is_status, is_told, is_count) =
      counts-rest n _ r again left (apart n m other doubt.node (is ∙ here)) counts

  -- a draft that the store has kept, or may not have
  drafted-rest : (draft : Placed) (t : Stage) → draft.node ≡ m → Goes (stage.Drafted draft) t
      → Ending t → HasRested n again.past left.past
  drafted-rest draft t here (inl still) ends = absurd (subst Ending still ends)
  drafted-rest draft t here (inr (r, kept, leads)) ends =
      kept-rest draft r here kept (subst Ending leads ends)

  image-rest : (r : Result (Vec Entry Global) StoreFault) → node_of j ≡ m → Ending (image_stage r)
      → HasRested n again.past left.past
  image-rest (Ok image) here (r, between, rises, counts, settles, is_said, is_status, is_count) =
      rests-settled n again between left
      (counts-rest n _ r again between (apart n m other (node_of j) here) counts)
      (settled_past _ _ between left settling settles)
  image-rest (Err fault) here ends = rests-same n again left ends.0

  answered-rest : (r : Reply Global) → Ending (stage.Answered r) → HasRested n again.past left.past
  answered-rest r ends = rests-same n again left ends.0

  taken-rest : (p : ℕ) (event : Event) (old new : GroupView) (r : Result (Taken Global) Refusal)
      (t : Stage) → p ≡ m → Takes old p event r new → Goes (taken_stage r) t → Ending t
      → HasRested n again.past left.past
  taken-rest p event old new (Ok (taken.Same answer)) t here takes goes ends =
      answered-rest _ (subst Ending goes ends)
  taken-rest p event old new (Err r) t here takes goes ends =
      answered-rest _ (subst Ending goes ends)
  taken-rest p event old new (Ok (taken.Store draft)) t here takes goes ends =
      drafted-rest draft t (takes.1 ∙ here) goes ends

  restart-rest : (s : Option State) (t : Stage) → node_of j ≡ m → Goes (restart_stage s) t
      → Ending t → HasRested n again.past left.past
  restart-rest (Some state.Down) t here (inl still) ends = absurd (subst Ending still ends)
  restart-rest (Some state.Down) t here (inr (r, leads)) ends =
      image-rest r here (subst Ending leads ends)
  restart-rest (Some state.Ready) t here goes ends = answered-rest _ (subst Ending goes ends)
  restart-rest (Some state.Storing) t here goes ends = answered-rest _ (subst Ending goes ends)
  restart-rest None t here goes ends = answered-rest _ (subst Ending goes ends)

  tick-rest : (r : Result (List Carried) Refusal) (t : Stage) → Goes (tick_stage r) t → Ending t
      → HasRested n again.past left.past
  tick-rest (Ok packets) t goes ends = answered-rest _ (subst Ending goes ends)
  tick-rest (Err r) t goes ends = answered-rest _ (subst Ending goes ends)

  crash-rest : (p : ℕ) (r : Result (Unit {0}) Refusal) (t : Stage) → Goes (crash_stage p r) t
      → Ending t → HasRested n again.past left.past
  crash-rest p (Ok done) t goes ends = answered-rest _ (subst Ending goes ends)
  crash-rest p (Err r) t goes ends = answered-rest _ (subst Ending goes ends)

-- the turn's event after its store is none of node n itself
pub ends-rest : (n m : ℕ) → n ≢ m → (j : Job) → runs_at m j ≡ true
    → (lent given_back again left : HouseView) (at t : Stage) (events count : ℕ)
    (said : Reply Global) (status : Option Status) (settling : Published)
    → Begins lent j given_back at events → Goes at t
    → Ends again j t left said status settling count → HasRested n again.past left.past
ends-rest n m other (job.Submit p client number payload) runs lent given_back again left at t events
    count said status settling (r, takes, counts, is, rest) goes ends =
    taken-rest n m other (job.Submit p client number payload) again left said status settling count
    p (Submit p (record { client = client; number = number; payload = payload }))
    lent.group given_back.group r t (eqb-true p m runs) takes
    (subst (λ (s : Stage). Goes s t) is goes) ends
ends-rest n m other (job.Arrive p bytes) runs lent given_back again left at t events count said
    status settling (r, takes, counts, is, rest) goes ends =
    taken-rest n m other (job.Arrive p bytes) again left said status settling count p
    (Arrive p (packet_of bytes.items)) lent.group given_back.group r t (eqb-true p m runs) takes
    (subst (λ (s : Stage). Goes s t) is goes) ends
ends-rest n m other (job.Tick p) runs lent given_back again left at t events count said status
    settling (r, ticks, counts, is, rest) goes ends =
    tick-rest n m other (job.Tick p) again left said status settling count r t
    (subst (λ (s : Stage). Goes s t) is goes) ends
ends-rest n m other (job.Crash p) runs lent given_back again left at t events count said status
    settling (r, crashes, counts, is, rest) goes ends =
    crash-rest n m other (job.Crash p) again left said status settling count p r t
    (subst (λ (s : Stage). Goes s t) is goes) ends
ends-rest n m other (job.Restart p) runs lent given_back again left at t events count said status
    settling (s, answers, same, is, rest) goes ends =
    restart-rest n m other (job.Restart p) again left said status settling count s t
    (eqb-true p m runs) (subst (λ (u : Stage). Goes u t) is goes) ends
ends-rest n m other (job.Status p) runs lent given_back again left at t events count said status
    settling (same, is, rest) goes ends =
    let asking : t ≡ stage.Asking = subst (λ (s : Stage). Goes s t) is goes in
    rests-same n again left
    (subst (λ (s : Stage). Ends again (job.Status p) s left said status settling count) asking
    ends).0

-- While a worker holds the House in its turn, other nodes rest.
pub others-rest : {S A : Type 0} (g : Ghosts S A) (opened : GroupView) (n m : ℕ) (j : Job)
    (before after : S) (came : FinishedView) (turn : IsTurn g opened j before after came)
    → runs_at m j ≡ true → n ≢ m
    → HasRested n turn.lent.past turn.given_back.past
    × HasRested n turn.lent_again.past turn.left.past
others-rest g opened n m j before after came turn runs other = (
  begins-rest n m other j turn.lent turn.given_back turn.at turn.events runs turn.begins,
  ends-rest n m other j runs turn.lent turn.given_back turn.lent_again turn.left
      turn.at turn.new turn.events (came.events - turn.events)
      came.reply came.status came.settling turn.begins
      (goes_on g before after turn.at turn.at turn.new (goes_still turn.at) turn.stores)
      turn.finishes,
)

-- ---- the store of a node that rests

-- from the earlier world to the later one
rested-world : (n : ℕ) (earlier later : List Event) (start : World) → HasRested n earlier later
    → Waited n (after start earlier) (after start later)
rested-world n earlier later start h =
    subst (λ (w : World). Waited n (after start earlier) w)
    (sym (ap (after start) h.later_is ∙ after-append start earlier h.between))
    (elsewhere-waited n h.between (after start earlier) h.elsewhere)

-- the node after the later events
rested-node : (n : ℕ) (earlier later : List Event) (start : World) → HasRested n earlier later
    → Stays ((after start earlier).node n) ((after start later).node n)
rested-node n earlier later start h =
    waited-stays n (after start earlier) (after start later) (rested-world n earlier later start h)

module _ {S A : Type 0} (g : Ghosts S A) (start : World) (n : ℕ)
    (earlier later : List Event) (store : S) (rested : HasRested n earlier later) where
  -- while a node rests, its store matches it
  pub rested-store : IsStoreAfter g start earlier n store → IsStoreAfter g start later n store
  rested-store h =
      let kept =
      stays g ((after start earlier).node n) ((after start later).node n) store
      (rested-node n earlier later start rested) (h.contents, h.lasting) in
      record {
        contents = kept.0;
        lasting = kept.1;
        tail =
            tail-waits g (after start earlier) (after start later) n store
            (rested-world n earlier later start rested) h.tail;
      }

  -- while a node rests, a stop leaves in its store what it may leave of the node
  pub rested-leaves : LeavesAfter g start earlier n store → LeavesAfter g start later n store
  rested-leaves h clean =
      leaves-stay g ((after start earlier).node n) ((after start later).node n) store
      (rested-node n earlier later start rested) (h clean)

  -- while a node rests, the records ahead may still follow its own
  pub rested-tail : WouldHaveTail g (after start earlier) n store
      → WouldHaveTail g (after start later) n store
  rested-tail h =
      tail-waits g (after start earlier) (after start later) n store
      (rested-world n earlier later start rested) h

-- ---- a stop of all nodes

-- If a stop may leave each of the images, the group goes on from one world with all of them.
pub all-survive : (group : GroupView) (images : ℕ → List Entry) → IsSound group
    → ((p : ℕ) → (w : World) × Shows group w × MayLeave (w.node p) (images p))
    → (w : World) × Shows group w × GoesOnIn w images
all-survive group images sound each =
    (w, shows, survives w (sound-kept group w sound shows) images (λ p. (each p).2))
  where
    w : World
    w = record { size = group.size; node = λ p. (each p).0.node p; sent = [] }

    shows : Shows group w
    shows =
        record {
          size = refl;
          nodes =
              λ p. subst (λ (l : Limits). ShowsNode l p (view_of group p) ((each p).0.node p))
              (sym (each p).1.size) ((each p).1.nodes p);
        }

-- ---- a record that is reported as stored

-- what was drafted and kept is in the store
pub record IsKeptIn {S A : Type 0} (g : Ghosts S A) (before after : S)
    (at new : Stage) : Type 0 where
  pub draft : Placed
  pub drafted : at ≡ stage.Drafted draft
  pub kept : new ≡ stage.Kept draft
  pub certain : g.is_honest after → g.certain after ≡ g.certain before ++ draft.entry ∷ []

module _ {S A : Type 0} (g : Ghosts S A) (before after : S) (j : Job) (again left : HouseView)
    (status : Option Status) (settling : Published) (count : ℕ) (done : Done) where
  abbrev StoredAt : Stage → Type 0
  StoredAt t = Ends again j t left (reply.Stored done) status settling count

  not-refused : (r : Refusal) → ◌≡◌ {A = Reply Global} (reply.Stored done) (reply.Refused r) → ⊥
  not-refused r e = cc

  kept-in : (at t : Stage) (draft : Placed) (r : Result Placed Doubted) → at ≡ stage.Drafted draft
      → t ≡ kept_stage r → IsKeptOf draft r → Keeps g before draft (answer_of r) after
      → StoredAt (kept_stage r) → IsKeptIn g before after at t
  kept-in at t draft (Ok receipt) e f is keeps ends =
      record {
        draft = draft;
        drafted = e;
        kept = f ∙ ap stage.Kept is;
        certain =
            λ honest. (keeps.appended honest).stored;
      }
  kept-in at t draft (Err doubt) e f is keeps
      (Ok d, fails, counts, said, is_status, is_told, is_count) = absurd (not-refused _ said)
  kept-in at t draft (Err doubt) e f is keeps
      (Err r, fails, counts, said, is_status, is_told, is_count) = absurd (not-refused _ said)

  -- in the other stages no reply says that a record is stored, if the job began with this reply
  answered-not : (r : Reply Global) → (◌≡◌ {A = Reply Global} (reply.Stored done) r → ⊥)
      → StoredAt (stage.Answered r) → ⊥
  answered-not r other ends = other ends.1

  taken-in : (at t : Stage) (r : Result (Taken Global) Refusal) → at ≡ taken_stage r
      → Stores g before (taken_stage r) after t → StoredAt t → IsKeptIn g before after at t
  taken-in at t (Ok (taken.Same answer)) e stores ends =
      absurd (answered-not (reply.Same answer) (λ f. cc) (subst StoredAt stores.1 ends))
  taken-in at t (Err r) e stores ends =
      absurd (answered-not (reply.Refused r) (λ f. cc) (subst StoredAt stores.1 ends))
  taken-in at t (Ok (taken.Store draft)) e (r, kept, keeps, leads) ends =
      kept-in at t draft r e leads kept keeps (subst StoredAt leads ends)

-- If the reply says that a record is stored, the turn drafted it, and the store has kept it.
pub stored-in : {S A : Type 0} (g : Ghosts S A) (before after : S) (j : Job)
    (lent given_back again left : HouseView) (at t : Stage) (events count : ℕ)
    (status : Option Status) (settling : Published) (done : Done)
    → Begins lent j given_back at events → Stores g before at after t
    → Ends again j t left (reply.Stored done) status settling count
    → IsKeptIn g before after at t
stored-in g before after (job.Submit p client number payload)
    lent given_back again left at t events count status settling done
    (r, takes, counts, is, rest) stores ends =
    taken-in g before after (job.Submit p client number payload)
    again left status settling count done at t r is
    (subst (λ (s : Stage). Stores g before s after t) is stores) ends
stored-in g before after (job.Arrive p bytes)
    lent given_back again left at t events count status settling done
    (r, takes, counts, is, rest) stores ends =
    taken-in g before after (job.Arrive p bytes) again left status settling count done at t r is
    (subst (λ (s : Stage). Stores g before s after t) is stores) ends
stored-in g before after (job.Tick p)
    lent given_back again left at t events count status settling done
    (Ok packets, ticks, counts, is, rest) stores ends =
    let stored = subst (λ (s : Stage). Stores g before s after t) is stores in
    let said =
    (subst (λ (s : Stage). Ends again (job.Tick p) s left
    (reply.Stored done) status settling count) stored.1 ends).1 in
    absurd (cc)
stored-in g before after (job.Tick p)
    lent given_back again left at t events count status settling done
    (Err r, ticks, counts, is, rest) stores ends =
    let stored = subst (λ (s : Stage). Stores g before s after t) is stores in
    let said =
    (subst (λ (s : Stage). Ends again (job.Tick p) s left
    (reply.Stored done) status settling count) stored.1 ends).1 in
    absurd (cc)
stored-in g before after (job.Crash p)
    lent given_back again left at t events count status settling done
    (Ok down, crashes, counts, is, rest) stores ends =
    let stored = subst (λ (s : Stage). Stores g before s after t) is stores in
    let said =
    (subst (λ (s : Stage). Ends again (job.Crash p) s left
    (reply.Stored done) status settling count) stored.1 ends).1 in
    absurd (cc)
stored-in g before after (job.Crash p)
    lent given_back again left at t events count status settling done
    (Err r, crashes, counts, is, rest) stores ends =
    let stored = subst (λ (s : Stage). Stores g before s after t) is stores in
    let said =
    (subst (λ (s : Stage). Ends again (job.Crash p) s left
    (reply.Stored done) status settling count) stored.1 ends).1 in
    absurd (cc)
stored-in g before after (job.Restart p)
    lent given_back again left at t events count status settling done
    (s, answers, same, is, rest) stores ends =
    restarted s (subst (λ (u : Stage). Stores g before u after t) is stores)
  where
    refused : (r : Refusal) → (after ≡ before) × (t ≡ stage.Answered (reply.Refused r))
        → IsKeptIn g before after at t
    refused r stored =
        absurd (answered-not g before after (job.Restart p) again left status settling count done
        (reply.Refused r) (λ f. cc) (subst
        (λ (s : Stage). Ends again (job.Restart p) s left (reply.Stored done) status settling count)
        stored.1 ends))

    never-told : (r : Reply Global) → (◌≡◌ {A = Reply Global} (reply.Stored done) r → ⊥)
        → ◌≡◌ {A = Reply Global} (reply.Stored done) r → ⊥
    never-told r other said = other said

    image : (r : Result (Vec Entry Global) StoreFault)
        → Ends again (job.Restart p) (image_stage r) left (reply.Stored done) status settling count
        → ⊥
    image (Ok i) (Ok up, between, comes, counts_, settles, said, is_status, is_count) =
        never-told (reply.Up p) (λ f. cc) said
    image (Ok i) (Err e, between, comes, counts_, settles, said, is_status, is_count) =
        never-told (reply.Refused e) (λ f. cc) said
    image (Err fault) (same_, said, is_status, is_told, is_count) =
        never-told (reply.Refused (refusal_of fault)) (λ f. cc) said

    restarted : (s : Option State) → Stores g before (restart_stage s) after t
        → IsKeptIn g before after at t
    restarted (Some state.Down) (r, gives, leads) =
        absurd (image r (subst (λ (s : Stage).
        Ends again (job.Restart p) s left (reply.Stored done) status settling count) leads ends))
    restarted (Some state.Ready) stored = refused refusal.NotDown stored
    restarted (Some state.Storing) stored = refused refusal.NotDown stored
    restarted None stored = refused refusal.BadNode stored
stored-in g before after (job.Status p)
    lent given_back again left at t events count status settling done (same, is, rest) stores ends =
    let stored = subst (λ (s : Stage). Stores g before s after t) is stores in
    absurd (asked (subst (λ (s : Stage).
    Ends again (job.Status p) s left (reply.Stored done) status settling count) stored.1 ends))
  where
    states : (s : State) → ◌≡◌ {A = Reply Global} (reply.Stored done) (state_reply p s) → ⊥
    states state.Down e = cc
    states state.Ready e = cc
    states state.Storing e = cc

    of-status : (o : Option Status) → ◌≡◌ {A = Reply Global} (reply.Stored done) (status_reply p o)
        → ⊥
    of-status None e = cc
    of-status (Some o) e = states o.state e

    asked : Ends again (job.Status p) stage.Asking left (reply.Stored done) status settling count
        → ⊥
    asked e = of-status status e.2
