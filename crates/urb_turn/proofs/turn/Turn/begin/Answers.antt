use Rattle.urb_turn.proofs.Common.{Begins, rules}
use Rattle.urb_turn.proofs.EventCounts.{begins_few}
use Rattle.urb_turn.proofs.TurnLoans.{is_loan}
use Rattle.urb_turn.proofs.TurnSteps.{just_begun}
use Rattle.urb_turn.proofs.turn.Turn.begin.Goals as goal

pub invariant_of-result : goal.invariant_of-result
invariant_of-result g c =
    let begins : Begins c.args.house.now c.args.job c.match-job.house c.match-job.stage.0
    c.match-job.stage.1 = search rules in (
      begins_few c.args.house.now c.args.job c.match-job.house c.match-job.stage.0
          c.match-job.stage.1 begins,
      just_begun g.K.HouseName.origin c.args.house.now c.match-job.house c.args.job
          c.match-job.stage.0 c.match-job.stage.1 c.new-loan.result c.recall.ensures.sound begins
          c.recall.ensures.past
          (is_loan c.mark-lent.result c.mark.result c.args.house.now c.match-job.house
          c.new-loan.result c.mark-lent.ensures.moment c.mark.ensures.moment c.new-loan.ensures),
    )
