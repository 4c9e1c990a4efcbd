use Rattle.urb_show.proofs.GroupReports.{log_is_short}
use Rattle.urb_show.proofs.house.House.status.Goals as goal

pub overflow_cast-logged : goal.overflow_cast-logged
overflow_cast-logged g c = record {
  fits = log_is_short c.self.inside.group c.recall_deliveries.ensures.sound c.args.node
      c.recall_deliveries.ensures.agree c.in_ok-logged.field-0.now c.in_ok-logged.ensures;
}
