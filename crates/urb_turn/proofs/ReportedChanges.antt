-- What is reported of a turn has happened, and a store's failure is reported.
use Rattle.urb_turn.proofs.Common.{Arrive, Begins, Bool, ComesUp, Doubted, Ends, Entry, Err, Event}
use Rattle.urb_turn.proofs.Common.{Fail, Ghosts, Global, GoesDown, GroupView, HouseView, IsKeptOf}
use Rattle.urb_turn.proofs.Common.{Job, List, None, Ok, Option, Placed, Published, Refusal, Restart}
use Rattle.urb_turn.proofs.Common.{Result, Some, Stage, Status, StoreFault, Stores, Submit, Taken}
use Rattle.urb_turn.proofs.Common.{Takes, Vec, arith, change_by, count_of, eqb-true, false}
use Rattle.urb_turn.proofs.Common.{if◌then◌else◌, image_stage, kept_stage, packet_of, refl}
use Rattle.urb_turn.proofs.Common.{refusal_of, restart_stage, subst, sym, taken_stage, true, ℕ, ◌-◌}
use Rattle.urb_turn.proofs.Common.{◌==◌, ◌∙◌, ◌≡◌, ◌≢◌}
use Rattle.urb_group.specs.declared.reply.Reply.{Reply}
use Rattle.urb_group.specs.declared.state.State.{State}
use Rattle.urb_turn.proofs.StoreKeeping.{settled_group}
use Rattle.urb_turn.specs.Changes.{HasChanged, crash_by, failure_by, return_by}
use Rattle.urb_turn.specs.declared.change.Change.{Change}
use Rattle.urb_turn.proofs.EventCounts.{few}
use Rattle.urb_group.specs.declared.reply.Reply.TheVariants as reply
use Rattle.urb_group.specs.declared.state.State.TheVariants as state
use Rattle.urb_group.specs.declared.taken.Taken.TheVariants as taken
use Rattle.urb_names.specs.declared.refusal.Refusal.TheVariants as refusal
use Rattle.urb_turn.specs.declared.change.Change.TheVariants as change
use Rattle.urb_turn.specs.declared.job.Job.TheVariants as job
use Rattle.urb_turn.specs.declared.turn_stages.Stage.TheVariants as stage

-- ---- what a report says of its turn

-- a reported failure is a refusal after two events
pub record IsFailure (p : ℕ) (said : Reply Global) (events : ℕ) (c : Change) : Type 0 where
  pub refusal : Refusal
  pub is : said ≡ reply.Refused refusal
  pub two : events ≡ 2
  pub what : c ≡ change.Failed p refusal

failure-of : (p : ℕ) (said : Reply Global) (events : ℕ) (c : Change)
    → failure_by p said events ≡ Some c → IsFailure p said events c
failure-of p (reply.Refused r) events c e = at (events == 2) refl e
  where
    at : (b : Bool) → (events == 2) ≡ b → (if b then Some (change.Failed p r) else None) ≡ Some c
        → IsFailure p (reply.Refused r) events c
    at true two is = record { refusal = r; is = refl; two = eqb-true events 2 two; what = cc }
    at false two is = absurd (cc)
failure-of p (reply.Drafted x position) events c e = absurd (cc)
failure-of p (reply.Same answer) events c e = absurd (cc)
failure-of p (reply.Stored done) events c e = absurd (cc)
failure-of p (reply.Sent packets) events c e = absurd (cc)
failure-of p (reply.WentDown q) events c e = absurd (cc)
failure-of p (reply.Up q) events c e = absurd (cc)

crash-of : (p : ℕ) (said : Reply Global) (c : Change) → crash_by p said ≡ Some c
    → (q : ℕ) × (said ≡ reply.WentDown q) × (c ≡ change.Crashed p)
crash-of p (reply.WentDown q) c e = (q, refl, cc)
crash-of p (reply.Refused r) c e = absurd (cc)
crash-of p (reply.Drafted x position) c e = absurd (cc)
crash-of p (reply.Same answer) c e = absurd (cc)
crash-of p (reply.Stored done) c e = absurd (cc)
crash-of p (reply.Sent packets) c e = absurd (cc)
crash-of p (reply.Up q) c e = absurd (cc)

return-of : (p : ℕ) (said : Reply Global) (c : Change) → return_by p said ≡ Some c
    → (q : ℕ) × (said ≡ reply.Up q) × (c ≡ change.CameBack p)
return-of p (reply.Up q) c e = (q, refl, cc)
return-of p (reply.WentDown q) c e = absurd (cc)
return-of p (reply.Refused r) c e = absurd (cc)
return-of p (reply.Drafted x position) c e = absurd (cc)
return-of p (reply.Same answer) c e = absurd (cc)
return-of p (reply.Stored done) c e = absurd (cc)
return-of p (reply.Sent packets) c e = absurd (cc)

-- ---- what happened in the turn

module _ {S A : Type 0} (g : Ghosts S A) (before after : S) (j : Job) (again left : HouseView)
    (said : Reply Global) (status : Option Status) (settling : Published) (k : ℕ) where
  abbrev Ending : Stage → Type 0
  Ending at = Ends again j at left said status settling k

  -- if a draft was given to the store, and the reply is a refusal, the store failed
  kept-failed : (p : ℕ) (draft : Placed) (r : Result Placed Doubted) (refused : Refusal)
      → draft.node ≡ p → IsKeptOf draft r → said ≡ reply.Refused refused → (k ≡ 0 → ⊥)
      → Ending (kept_stage r)
      → (fault : StoreFault) × (refused ≡ refusal_of fault)
      × GoesDown again.group p (Fail p) (Ok tt) left.group
  kept-failed p draft (Ok receipt) refused e kept is late
      (Ok done, between, commits, counts, settles, is_said, is_status, is_count) =
      let other : ◌≡◌ {A = Reply Global} (reply.Stored done) (reply.Refused refused) =
      sym is_said ∙ is in absurd (cc)
  kept-failed p draft (Ok receipt) refused e kept is late
      (Err r, between, commits, counts, settles, is_said, is_status, is_count) =
      absurd (late is_count)
  kept-failed p draft (Err doubt) refused e kept is late
      (Ok tt, fails, counts, is_said, is_status, is_settled, is_count) =
      let same : ◌≡◌ {A = Reply Global} (reply.Refused refused)
      (reply.Refused (refusal_of doubt.fault)) = sym is ∙ is_said in (
        doubt.fault,
        cc,
        subst (λ (i : ℕ). GoesDown again.group i (Fail i) (Ok tt) left.group)
            (kept ∙ e) fails,
      )
  kept-failed p draft (Err doubt) refused e kept is late
      (Err r, fails, counts, is_said, is_status, is_settled, is_count) = absurd (late is_count)

  -- the same for a submit or an arrival
  taken-failed : (p : ℕ) (event : Event) (first second : GroupView)
      (r : Result (Taken Global) Refusal) (t : Stage) (refused : Refusal)
      → Takes first p event r second → Stores g before (taken_stage r) after t
      → said ≡ reply.Refused refused → (k ≡ 0 → ⊥) → Ending t
      → (fault : StoreFault) × (refused ≡ refusal_of fault)
      × GoesDown again.group p (Fail p) (Ok tt) left.group
  taken-failed p event first second (Ok (taken.Same answer)) t refused takes stores is late ends =
      absurd (late (subst Ending stores.1 ends).4)
  taken-failed p event first second (Err r) t refused takes stores is late ends =
      absurd (late (subst Ending stores.1 ends).4)
  taken-failed p event first second (Ok (taken.Store draft)) t refused takes
      (r, kept, keeps, leads) is late ends =
      kept-failed p draft r refused takes.1 kept is late (subst Ending leads ends)

  -- the node came up if a restart was not refused
  returned : (p q : ℕ) (i : Vec Entry Global) → said ≡ reply.Up q
      → Ends again (job.Restart p) (stage.Retrieved i) left said status settling k
      → ComesUp again.group p (Restart p i.items) (Ok tt) left.group
  returned p q i is (Ok tt, between, comes, counts, settles, is_said, is_status, is_count) =
      subst (λ (h : GroupView). ComesUp again.group p (Restart p i.items) (Ok tt) h)
      (sym (settled_group _ _ between left settling settles)) comes
  returned p q i is (Err r, between, comes, counts, settles, is_said, is_status, is_count) =
      let other : ◌≡◌ {A = Reply Global} (reply.Refused r) (reply.Up q) =
      sym is_said ∙ is in absurd (cc)

  image-returned : (p q : ℕ) (r : Result (Vec Entry Global) StoreFault) → said ≡ reply.Up q
      → Ends again (job.Restart p) (image_stage r) left said status settling k
      → (image : List Entry) × ComesUp again.group p (Restart p image) (Ok tt) left.group
  image-returned p q (Ok i) is ends = (i.items, returned p q i is ends)
  image-returned p q (Err fault) is ends =
      let other : ◌≡◌ {A = Reply Global} (reply.Refused (refusal_of fault)) (reply.Up q) =
      sym ends.1 ∙ is in absurd (cc)

  refused-returned : (p q : ℕ) (r : Refusal) (t : Stage) → t ≡ stage.Answered (reply.Refused r)
      → said ≡ reply.Up q → Ends again (job.Restart p) t left said status settling k → ⊥
  refused-returned p q r t leads is ends =
      let other : ◌≡◌ {A = Reply Global} (reply.Refused r) (reply.Up q) =
      sym (subst (λ (s : Stage). Ends again (job.Restart p) s left said status settling k)
      leads ends).1 ∙ is in cc

  restart-returned : (p q : ℕ) (s : Option State) (t : Stage)
      → Stores g before (restart_stage s) after t → said ≡ reply.Up q
      → Ends again (job.Restart p) t left said status settling k
      → (image : List Entry) × ComesUp again.group p (Restart p image) (Ok tt) left.group
  restart-returned p q (Some state.Down) t (r, gives, leads) is ends =
      image-returned p q r is (subst
      (λ (s : Stage). Ends again (job.Restart p) s left said status settling k) leads ends)
  restart-returned p q (Some state.Ready) t stores is ends =
      absurd (refused-returned p q refusal.NotDown t stores.1 is ends)
  restart-returned p q (Some state.Storing) t stores is ends =
      absurd (refused-returned p q refusal.NotDown t stores.1 is ends)
  restart-returned p q None t stores is ends =
      absurd (refused-returned p q refusal.BadNode t stores.1 is ends)

  -- ---- a failure is reported

  -- a store that failed for a draft, but for a node that went down meanwhile
  pub doubt-refuses : (doubt : Doubted) → said ≢ reply.Refused refusal.Stale
      → Ending (stage.Doubtful doubt) → (said ≡ reply.Refused (refusal_of doubt.fault)) × (k ≡ 1)
  doubt-refuses doubt other (Ok tt, fails, counts, is_said, is_status, is_settled, is_count) =
      (is_said, is_count)
  doubt-refuses doubt other (Err r, fails, counts, is_said, is_status, is_settled, is_count) =
      absurd (other is_said)

-- a turn that ended with a doubt had drafted at the doubt's node, by one event
doubted : {S A : Type 0} (g : Ghosts S A) (before after : S) (p : ℕ) (event : Event)
    (first second : GroupView) (r : Result (Taken Global) Refusal) (t : Stage) (doubt : Doubted)
    → Takes first p event r second
    → Stores g before (taken_stage r) after t → t ≡ stage.Doubtful doubt
    → (doubt.node ≡ p) × (count_of r ≡ 1)
doubted g before after p event first second (Ok (taken.Same answer)) t doubt takes stores is =
    let other : stage.Answered (reply.Same answer) ≡ stage.Doubtful doubt = sym stores.1 ∙ is in
    absurd (cc)
doubted g before after p event first second (Err r) t doubt takes stores is =
    let other : stage.Answered (reply.Refused r) ≡ stage.Doubtful doubt = sym stores.1 ∙ is in
    absurd (cc)
doubted g before after p event first second (Ok (taken.Store draft)) t doubt takes
    (Ok receipt, kept, keeps, leads) is = let other : stage.Kept receipt ≡ stage.Doubtful doubt =
    sym leads ∙ is in absurd (cc)
doubted g before after p event first second (Ok (taken.Store draft)) t doubt takes
    (Err d, kept, keeps, leads) is =
    let same : stage.Doubtful d ≡ stage.Doubtful doubt = sym leads ∙ is in
    let one : d ≡ doubt = cc in
    (subst (λ (x : Doubted). x.node ≡ p) one (kept ∙ takes.1), refl)

-- the report of a refusal after two events
failure-is : (p q : ℕ) (said : Reply Global) (r : Refusal) (n : ℕ) → q ≡ p → said ≡ reply.Refused r
    → n ≡ 2 → failure_by p said n ≡ Some (change.Failed q r)
failure-is p q said r n e is two = rw (e, is, two) refl

-- ---- whatever the job

module _ {S A : Type 0} (g : Ghosts S A) (before after : S) (lent given_back again left : HouseView)
    (at t : Stage) (events n : ℕ) (said : Reply Global) (status : Option Status)
    (settling : Published) where
  abbrev Leads : Job → Change → Type 0
  Leads j c =
      Begins lent j given_back at events → Stores g before at after t
      → Ends again j t left said status settling (n - events) → change_by j said n ≡ Some c
      → HasChanged c lent.group given_back.group again.group left.group

  late : {T E : Type 0} (r : Result T E) → events ≡ count_of r → n ≡ 2 → n - events ≡ 0 → ⊥
  late r is two none = let low = few r in omega arith

  taken-so : (j : Job) (p : ℕ) (event : Event) (r : Result (Taken Global) Refusal) (c : Change)
      → Takes lent.group p event r given_back.group → at ≡ taken_stage r → events ≡ count_of r
      → Stores g before at after t
      → Ends again j t left said status settling (n - events) → failure_by p said n ≡ Some c
      → HasChanged c lent.group given_back.group again.group left.group
  taken-so j p event r c takes is counted stores ends told =
      let f = failure-of p said n c told in
      subst (λ (x : Change). HasChanged x lent.group given_back.group again.group left.group)
      (sym f.what)
      (taken-failed g before after j again left said status settling
      (n - events) p event lent.group given_back.group r t f.refusal takes
      (subst (λ (s : Stage). Stores g before s after t) is stores) f.is (late r counted f.two) ends)

  -- A change that is reported of a turn has happened in it.
  pub reported-so : (j : Job) (c : Change) → Leads j c
  reported-so (job.Submit p client number payload) c
      (r, takes, counts, is, counted) stores ends told =
      taken-so (job.Submit p client number payload) p
      (Submit p (record { client = client; number = number; payload = payload }))
      r c takes is counted stores ends told
  reported-so (job.Arrive p bytes) c (r, takes, counts, is, counted) stores ends told =
      taken-so (job.Arrive p bytes) p
      (Arrive p (packet_of bytes.items)) r c takes is counted stores ends told
  reported-so (job.Tick p) c begins stores ends told = absurd (cc)
  reported-so (job.Crash p) c (Ok tt, crashes, counts, is, counted) stores ends told =
      subst (λ (x : Change). HasChanged x lent.group given_back.group again.group left.group)
      (sym (crash-of p said c told).2) crashes
  reported-so (job.Crash p) c (Err r, crashes, counts, is, counted) stores ends told =
      let stored = subst (λ (s : Stage). Stores g before s after t) is stores in
      let ended =
      subst (λ (s : Stage). Ends again (job.Crash p) s left said status settling (n - events))
      stored.1 ends in
      let other : ◌≡◌ {A = Reply Global} (reply.Refused r)
      (reply.WentDown (crash-of p said c told).0) = sym ended.1 ∙ (crash-of p said c told).1 in
      absurd (cc)
  reported-so (job.Restart p) c (s, answers, same, is, counted) stores ends told =
      let f = return-of p said c told in
      subst (λ (x : Change). HasChanged x lent.group given_back.group again.group left.group)
      (sym f.2)
      (restart-returned g before after (job.Restart p) again left said status settling
      (n - events) p f.0 s t (subst (λ (u : Stage). Stores g before u after t) is stores)
      f.1 ends)
  reported-so (job.Status p) c begins stores ends told = absurd (cc)

  taken-told : (j : Job) (p : ℕ) (event : Event) (r : Result (Taken Global) Refusal)
      (doubt : Doubted) → Takes lent.group p event r given_back.group → at ≡ taken_stage r
      → events ≡ count_of r → Stores g before at after t
      → Ends again j t left said status settling (n - events) → t ≡ stage.Doubtful doubt
      → said ≢ reply.Refused refusal.Stale
      → failure_by p said n ≡ Some (change.Failed doubt.node (refusal_of doubt.fault))
  taken-told j p event r doubt takes is counted stores ends here other =
      let found =
      doubted g before after p event lent.group given_back.group r t doubt takes
      (subst (λ (s : Stage). Stores g before s after t) is stores) here in
      let refused =
      doubt-refuses g before after j again left said status settling (n - events) doubt other
      (subst (λ (s : Stage). Ends again j s left said status settling (n - events)) here ends)
      in
      let one : events ≡ 1 = counted ∙ found.1 in
      let last : n - events ≡ 1 = refused.1 in
      failure-is p doubt.node said (refusal_of doubt.fault) n found.0 refused.0 (omega arith)

  not-answered : (r : Reply Global) (doubt : Doubted) → t ≡ stage.Answered r
      → t ≡ stage.Doubtful doubt → ⊥
  not-answered r doubt is here =
      let other : stage.Answered r ≡ stage.Doubtful doubt = sym is ∙ here in cc

  restart-not : (s : Option State) (doubt : Doubted) → Stores g before (restart_stage s) after t
      → t ≡ stage.Doubtful doubt → ⊥
  restart-not (Some state.Down) doubt (Ok i, gives, leads) here =
      let other : stage.Retrieved i ≡ stage.Doubtful doubt = sym leads ∙ here in cc
  restart-not (Some state.Down) doubt (Err fault, gives, leads) here =
      let other : stage.Unread fault ≡ stage.Doubtful doubt = sym leads ∙ here in cc
  restart-not (Some state.Ready) doubt stores here = not-answered _ doubt stores.1 here
  restart-not (Some state.Storing) doubt stores here = not-answered _ doubt stores.1 here
  restart-not None doubt stores here = not-answered _ doubt stores.1 here

  -- A store's failure for a draft is reported, unless the turn is refused as stale.
  pub failure-reported : (j : Job) (doubt : Doubted) → Begins lent j given_back at events
      → Stores g before at after t → Ends again j t left said status settling (n - events)
      → t ≡ stage.Doubtful doubt
      → said ≢ reply.Refused refusal.Stale
      → change_by j said n ≡ Some (change.Failed doubt.node (refusal_of doubt.fault))
  failure-reported (job.Submit p client number payload) doubt
      (r, takes, counts, is, counted) stores ends here other =
      taken-told (job.Submit p client number payload) p
      (Submit p (record { client = client; number = number; payload = payload }))
      r doubt takes is counted stores ends here other
  failure-reported (job.Arrive p bytes) doubt
      (r, takes, counts, is, counted) stores ends here other =
      taken-told (job.Arrive p bytes) p
      (Arrive p (packet_of bytes.items)) r doubt takes is counted stores ends here other
  failure-reported (job.Tick p) doubt
      (Ok packets, ticks, counts, is, counted) stores ends here other =
      absurd (not-answered _ doubt (subst (λ (s : Stage). Stores g before s after t) is stores).1
      here)
  failure-reported (job.Tick p) doubt (Err r, ticks, counts, is, counted) stores ends here other =
      absurd (not-answered _ doubt (subst (λ (s : Stage). Stores g before s after t) is stores).1
      here)
  failure-reported (job.Crash p) doubt
      (Ok tt, crashes, counts, is, counted) stores ends here other =
      absurd (not-answered _ doubt (subst (λ (s : Stage). Stores g before s after t) is stores).1
      here)
  failure-reported (job.Crash p) doubt
      (Err r, crashes, counts, is, counted) stores ends here other =
      absurd (not-answered _ doubt (subst (λ (s : Stage). Stores g before s after t) is stores).1
      here)
  failure-reported (job.Restart p) doubt (s, answers, same, is, counted) stores ends here other =
      absurd (restart-not s doubt (subst (λ (u : Stage). Stores g before u after t) is stores) here)
  failure-reported (job.Status p) doubt (same, is, counted) stores ends here other =
      let stored = subst (λ (s : Stage). Stores g before s after t) is stores in
      let different : stage.Asking ≡ stage.Doubtful doubt = sym stored.1 ∙ here in
      absurd (cc)
