-- What contracts see of a turn, and of the result of a job.
use Rattle.std.specs.Prelude.{Bool, Option, ℕ}
use Rattle.std.specs.declared.alloc.Global.{Global}
use Rattle.urb_group.specs.declared.reply.Reply.{Reply}
use Rattle.urb_show.specs.declared.status.Status.{Status}
use Rattle.urb_turn.specs.Loans.{LoanView, LoansView}
use Rattle.urb_turn.specs.Settlings.{Published}
use Rattle.urb_turn.specs.declared.job.Job.{Job}
use Rattle.urb_turn.specs.declared.turn_stages.Stage.{Stage}

-- A job that has begun, its stage, and its number of events. Also its first loan of the House, if
-- the House gave its moments.
pub record TurnView : Type 0 where
  pub job : Job
  pub stage : Stage
  pub events : ℕ
  pub loan : Option LoanView

-- A job, its reply, whether it ran, and its number of events. Also its node's status if the job
-- asked for it, whether the names that the turn released were published, and its two loans of the
-- House.
pub record FinishedView : Type 0 where
  pub job : Job
  pub reply : Reply Global
  pub status : Option Status
  pub settling : Published
  pub ran : Bool
  pub events : ℕ
  pub loans : Option LoansView
