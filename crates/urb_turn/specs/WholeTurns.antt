-- What a worker does with a job: the whole of its turn, with the store of its node.
use Rattle.std.specs.Prelude.{Bool, IfSome, None, false, true, ℕ, ◌-◌, ◌≡◌}
use Rattle.urb_names.specs.declared.refusal.Refusal.TheVariants as refusal
use Rattle.urb_stable.specs.declared.stable.Stable.{Ghosts}
use Rattle.urb_group.specs.GroupViews.{GroupView, IsSound, Shows}
use Rattle.urb_world.specs.World.{World}
use Rattle.urb_group.specs.declared.reply.Reply.TheVariants as reply
use Rattle.urb_show.specs.Houses.{HouseView}
use Rattle.urb_show.specs.Pasts.{IsLedTo}
use Rattle.urb_turn.specs.Loans.{AreLoansOf}
use Rattle.urb_turn.specs.NodeStores.{HasRested, IsStoreAfter, LeavesAfter}
use Rattle.urb_turn.specs.Settlings.{NothingNew}
use Rattle.urb_turn.specs.Turns.{Begins, Ends, Stores}
use Rattle.urb_turn.specs.Views.{FinishedView}
use Rattle.urb_turn.specs.declared.job.Job.{Job}
use Rattle.urb_turn.specs.declared.turn_stages.Stage.{Stage}

-- the result of a job for another node than its worker's: it is refused, and did not run
abbrev pub misrouted : Job → FinishedView
misrouted job =
    record {
      job = job;
      reply = reply.Refused refusal.BadNode;
      status = None;
      settling = NothingNew;
      ran = false;
      events = 0;
      loans = None;
    }

module _ {S A : Type 0} (g : Ghosts S A) where
  -- The whole turn of a job. The worker locked the House and unlocked it. The store did its part.
  -- The worker locked the House again, and left it in this state. Each time, the past of the House
  -- led to its group. If the House gave its moments, these are the turn's loans.
  pub record IsTurn (opened : GroupView) (job : Job) (before after : S)
      (done : FinishedView) : Type 0 where
    pub lent : HouseView
    pub given_back : HouseView
    pub lent_again : HouseView
    pub left : HouseView
    pub at : Stage
    pub new : Stage
    pub events : ℕ
    pub begins : Begins lent job given_back at events
    pub stores : Stores g before at after new
    pub finishes : Ends lent_again job new left done.reply done.status done.settling
        (done.events - events)
    pub leads : IsLedTo opened lent.past lent.group
    pub leads_again : IsLedTo opened lent_again.past lent_again.group
    pub loans : IfSome done.loans (λ l. AreLoansOf lent given_back lent_again left l)

  -- The whole turn of a job at the worker of node n, after any world that was shown at the opening.
  -- The store still matches node n if other workers meanwhile did no more to this node than crash
  -- it. A stop in between leaves in the store what it may leave of the node.
  pub record IsTurnAt (opened : GroupView) (n : ℕ) (job : Job) (before after : S)
      (done : FinishedView) : Type 0 where
    pub turn : IsTurn opened job before after done
    pub sound : IsSound turn.left.group
    pub keeps : (start : World) → Shows opened start
        → IsStoreAfter g start turn.lent.past n before
        → HasRested n turn.given_back.past turn.lent_again.past
        → IsStoreAfter g start turn.left.past n after
    pub leaves : (start : World) → Shows opened start
        → IsStoreAfter g start turn.lent.past n before
        → LeavesAfter g start turn.given_back.past n after

  -- what the worker of node n does with a job: its turn if the job runs there, and else nothing
  abbrev pub Does : GroupView → ℕ → Bool → Job → S → S → FinishedView → Type 0
  Does opened n true job before after done = IsTurnAt opened n job before after done
  Does opened n false job before after done = (after ≡ before) × (done ≡ misrouted job)
