use Rattle.std.proofs.Common.{◌≡◌, ◌+◌, ◌-◌, arith}
use Rattle.urb_turn.proofs.EventCounts.{marked_end_counts}
use Rattle.urb_turn.specs.Settlings.{published_by}
use Rattle.urb_turn.proofs.turn.Turn.finish.Goals as goal

-- only the events of the last call
pub returns-clause-step : goal.returns-clause-step
returns-clause-step g c =
    let alone : c.self.inside.count + c.finish_event-reply.result.events - c.self.inside.count
    ≡ c.finish_event-reply.result.events = omega arith in
    rw (← c.self.view_is, alone, c.mark.ensures.same, ← c.mark-lent.ensures.same)
    c.finish_event-reply.ensures.step

-- the same number of events
pub returns-clause-counted : goal.returns-clause-counted
returns-clause-counted g c =
    let alone : c.self.inside.count + c.finish_event-reply.result.events - c.self.inside.count
    ≡ c.finish_event-reply.result.events = omega arith in
    rw (← c.self.view_is)
    (marked_end_counts c.args.house.now c.mark-lent.new.self c.finish_event-reply.new.house
    c.mark.new.self c.self.inside.job c.self.inside.stage c.finish_event-reply.result.reply
    c.finish_event-reply.result.status (published_by c.finish_event-reply.result.settling)
    c.finish_event-reply.result.events
    (c.self.inside.count + c.finish_event-reply.result.events - c.self.inside.count)
    c.mark-lent.ensures.same c.mark.ensures.same
    c.finish_event-reply.ensures.step alone)

-- the turn that began
pub returns-clause-begun : goal.returns-clause-begun
returns-clause-begun g c = rw (← c.self.view_is) c.self.invariant.1
