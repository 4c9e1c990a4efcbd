use Rattle.urb_turn.proofs.TurnSteps.{begun_on}
use Rattle.urb_turn.proofs.turn.Turn.store.Goals as goal

-- the turn began as before, and its store has done its part
pub invariant_of-result : goal.invariant_of-result
invariant_of-result g c = (
  c.self.invariant.0,
  begun_on g.S.Stable c.args.store.now c.run_store.new.store g.K.HouseName.origin
      c.self.inside.loan c.self.inside.job c.self.inside.stage c.run_store.result c.self.invariant.1
      c.run_store.ensures.step,
)
