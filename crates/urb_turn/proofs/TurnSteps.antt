-- A turn from one stage to the next, and the whole turn.
use Rattle.urb_turn.proofs.Common.{AreLoans, Begins, CameOf, Ends, Err, FinishedView}
use Rattle.urb_turn.proofs.Common.{Finishes, Ghosts, Global, Goes, GroupView, HasBegun, HasRested}
use Rattle.urb_turn.proofs.Common.{HouseView, IfSome, IsLedTo, IsLoan, IsSound, IsStoreAfter}
use Rattle.urb_turn.proofs.Common.{IsTurn, IsTurnAt, Job, LoanView, LoansView, Ok, Option, Placed}
use Rattle.urb_turn.proofs.Common.{Published, Shows, Stage, Status, Stores, TurnView, World}
use Rattle.urb_turn.proofs.Common.{false≢true, inl, inr, refl, runs_at, subst, true, ℕ, ◌-◌, ◌≡◌}
use Rattle.urb_group.specs.declared.reply.Reply.{Reply}
use Rattle.urb_turn.proofs.StoreKeeping.{from-world, left-from, tail-from, to-world, turn-keeps}
use Rattle.urb_turn.proofs.StoreKeeping.{turn-leaves}
use Rattle.urb_turn.proofs.WaitingNodes.{rested-waits}
use Rattle.urb_turn.proofs.TurnLoans.{loans_of}
use Rattle.urb_turn.specs.NodeStores.{WouldHaveTail}
use Rattle.urb_turn.specs.Stages.{is_stored}
use Rattle.urb_world.specs.RecoveryPlans as plans
use Rattle.urb_turn.specs.declared.turn_stages.Stage.TheVariants as stage

-- ---- stages

-- a turn that has just begun
pub goes_still : (at : Stage) → Goes at at
goes_still (stage.Drafted draft) = inl refl
goes_still stage.Retrieving = inl refl
goes_still (stage.Kept receipt) = refl
goes_still (stage.Doubtful doubt) = refl
goes_still (stage.Retrieved image) = refl
goes_still (stage.Unread fault) = refl
goes_still stage.Asking = refl
goes_still (stage.Answered reply) = refl

-- a turn has begun once its first call was made
pub just_begun : (opened : GroupView) (old new : HouseView) (j : Job) (at : Stage) (events : ℕ)
    (loan : Option LoanView) → IsSound old.group → Begins old j new at events
    → IsLedTo opened old.past old.group → IfSome loan (λ l. IsLoan old new l)
    → HasBegun opened j at loan
just_begun opened old new j at events loan sound begins leads is =
    (old, new, at, events, sound, begins, goes_still at, leads, is)

module _ {S A : Type 0} (g : Ghosts S A) (before after : S) where
  from_draft : (draft : Placed) (s t : Stage) → Goes (stage.Drafted draft) s
      → Stores g before s after t → Goes (stage.Drafted draft) t
  from_draft draft s t (inl e) stores =
      let stored = subst (λ (u : Stage). Stores g before u after t) e stores in
      inr (stored.0, stored.1, stored.3)
  from_draft draft s t (inr (Ok receipt, kept, e)) stores =
      inr (Ok receipt, kept, (subst (λ (u : Stage). Stores g before u after t) e stores).1)
  from_draft draft s t (inr (Err doubt, kept, e)) stores =
      inr (Err doubt, kept, (subst (λ (u : Stage). Stores g before u after t) e stores).1)

  from_retrieving : (s t : Stage) → Goes stage.Retrieving s → Stores g before s after t
      → Goes stage.Retrieving t
  from_retrieving s t (inl e) stores =
      let stored = subst (λ (u : Stage). Stores g before u after t) e stores in
      inr (stored.0, stored.2)
  from_retrieving s t (inr (Ok image, e)) stores =
      inr (Ok image, (subst (λ (u : Stage). Stores g before u after t) e stores).1)
  from_retrieving s t (inr (Err fault, e)) stores =
      inr (Err fault, (subst (λ (u : Stage). Stores g before u after t) e stores).1)

  -- the store does its part
  pub goes_on : (at s t : Stage) → Goes at s → Stores g before s after t → Goes at t
  goes_on (stage.Drafted draft) s t goes stores = from_draft draft s t goes stores
  goes_on stage.Retrieving s t goes stores = from_retrieving s t goes stores
  goes_on (stage.Kept receipt) s t goes stores =
      (subst (λ (u : Stage). Stores g before u after t) goes stores).1
  goes_on (stage.Doubtful doubt) s t goes stores =
      (subst (λ (u : Stage). Stores g before u after t) goes stores).1
  goes_on (stage.Retrieved image) s t goes stores =
      (subst (λ (u : Stage). Stores g before u after t) goes stores).1
  goes_on (stage.Unread fault) s t goes stores =
      (subst (λ (u : Stage). Stores g before u after t) goes stores).1
  goes_on stage.Asking s t goes stores =
      (subst (λ (u : Stage). Stores g before u after t) goes stores).1
  goes_on (stage.Answered reply) s t goes stores =
      (subst (λ (u : Stage). Stores g before u after t) goes stores).1

  -- a turn that has begun still has after the store did its part
  pub begun_on : (opened : GroupView) (loan : Option LoanView) (j : Job) (s t : Stage)
      → HasBegun opened j s loan → Stores g before s after t → HasBegun opened j t loan
  begun_on opened loan j s t begun stores = (
    begun.0,
    begun.1,
    begun.2,
    begun.3,
    begun.4,
    begun.5,
    goes_on begun.2 s t begun.6 stores,
    begun.7,
    begun.8,
  )

  -- a stage in which the store has done its part
  pub stores_none : (at : Stage) → is_stored at ≡ true → Stores g before at before at
  stores_none (stage.Drafted draft) e = absurd (false≢true e)
  stores_none stage.Retrieving e = absurd (false≢true e)
  stores_none (stage.Kept receipt) e = (refl, refl)
  stores_none (stage.Doubtful doubt) e = (refl, refl)
  stores_none (stage.Retrieved image) e = (refl, refl)
  stores_none (stage.Unread fault) e = (refl, refl)
  stores_none stage.Asking e = (refl, refl)
  stores_none (stage.Answered reply) e = (refl, refl)

-- ---- the end

-- a turn that has begun, and then ended, came to the results that it ended with
pub came_on : (opened : GroupView) (old new : HouseView) (j : Job) (at : Stage)
    (said : Reply Global) (status : Option Status) (settling : Published) (events : ℕ)
    (first : Option LoanView) (loans : Option LoansView) → IsSound old.group
    → HasBegun opened j at first → Ends old j at new said status settling events → IsSound opened
    → IsLedTo opened old.past old.group → IfSome loans (λ l. AreLoans first old new l)
    → CameOf opened j said status settling loans
came_on opened old new j at said status settling events first loans sound begun ends start leads
    are = (at, old, new, events, first, sound, begun, ends, start, leads, are)

module _ {S A : Type 0} (g : Ghosts S A) (opened : GroupView) (n : ℕ) where
  -- A turn that began, did its store's part, and finished is a whole turn at its node.
  pub whole : (j : Job) (before after : S) (done : FinishedView)
      (lent given_back again left : HouseView) (begun stored : TurnView) → runs_at n j ≡ true
      → stored.job ≡ j → stored.events ≡ begun.events → stored.loan ≡ begun.loan
      → IsSound left.group → IsLedTo opened lent.past lent.group
      → IsLedTo opened again.past again.group
      → IfSome begun.loan (λ l. IsLoan lent given_back l)
      → IfSome done.loans (λ l. AreLoans stored.loan again left l)
      → Begins lent j given_back begun.stage begun.events
      → Stores g before begun.stage after stored.stage → Finishes again stored left done
      → IsTurnAt g opened n j before after done
  whole j before after done lent given_back again left begun stored runs same count loan sound
      leads leads_again first loans begins stores ends =
      record {
        turn =
            record {
              lent = lent;
              given_back = given_back;
              lent_again = again;
              left = left;
              at = begun.stage;
              new = stored.stage;
              events = begun.events;
              begins = begins;
              stores = stores;
              finishes = finishes;
              leads = leads;
              leads_again = leads_again;
              loans =
                  loans_of begun.loan lent given_back again left done.loans first
                  (subst (λ (o : Option LoanView).
                  IfSome done.loans (λ l. AreLoans o again left l)) loan loans);
            };
        sound = sound;
        keeps = λ start opening is rested.
            from-world g start n left after
            (turn-keeps g start n before after lent given_back again left begun.stage stored.stage
            begun.events done.reply done.status done.settling
            (done.events - begun.events) j runs begins stores finishes
            (to-world g start n lent before (leads start opening) is)
            (rested-waits opened start n given_back again opening rested leads_again));
        leaves = λ start opening is.
            left-from g start n given_back after
            (turn-leaves g start n before after lent given_back again left begun.stage
            stored.stage begun.events done.reply done.status done.settling
            (done.events - begun.events) j runs begins stores
            (to-world g start n lent before (leads start opening) is));
      }
    where
      finishes : Ends again j stored.stage left done.reply done.status done.settling
          (done.events - begun.events)
      finishes =
          subst (λ (k : ℕ). Ends again j stored.stage left done.reply done.status done.settling
          (done.events - k)) count
          (subst (λ (i : Job). Ends again i stored.stage left done.reply done.status done.settling
          (done.events - stored.events)) same ends)

  -- While the store of a turn works, the records that it holds ahead may follow those of its node.
  pub working_tail : (j : Job) (before after : S) (done : FinishedView)
      (turn : IsTurn g opened j before after done) → runs_at n j ≡ true → (start : World)
      → Shows opened start → IsStoreAfter g start turn.lent.past n before
      → WouldHaveTail g (plans.after start turn.given_back.past) n after
  working_tail j before after done turn runs start opening is =
      tail-from g start n turn.given_back after
      (turn-leaves g start n before after turn.lent turn.given_back turn.lent_again turn.left
      turn.at turn.new turn.events done.reply done.status done.settling
      (done.events - turn.events) j runs turn.begins turn.stores
      (to-world g start n turn.lent before (turn.leads start opening) is))

  -- After a whole turn the store matches its node, if the node rested while the store worked.
  pub whole_keeps : (j : Job) (before after : S) (done : FinishedView)
      (lent given_back again left : HouseView) (begun stored : TurnView) → runs_at n j ≡ true
      → stored.job ≡ j → stored.events ≡ begun.events → stored.loan ≡ begun.loan
      → IsSound left.group → IsLedTo opened lent.past lent.group
      → IsLedTo opened again.past again.group
      → IfSome begun.loan (λ l. IsLoan lent given_back l)
      → IfSome done.loans (λ l. AreLoans stored.loan again left l)
      → Begins lent j given_back begun.stage begun.events
      → Stores g before begun.stage after stored.stage → Finishes again stored left done
      → (start : World) → Shows opened start → IsStoreAfter g start lent.past n before
      → HasRested n given_back.past again.past → IsStoreAfter g start left.past n after
  unfolding whole
  whole_keeps j before after done lent given_back again left begun stored runs same count loan sound
      leads leads_again first loans begins stores ends =
      (whole j before after done lent given_back again left begun stored runs same count loan sound
      leads leads_again first loans begins stores ends).keeps
