use Rattle.urb_show.proofs.GroupReports.{log_is_told, log_length}
use Rattle.urb_show.proofs.group_entries.entry_count.Goals as goal

pub unreachable-requires : goal.unreachable-requires
unreachable-requires c =
    log_is_told c.args.group.now c.recall_deliveries.ensures.sound c.args.node c.recall.ensures.0
    c.requires (rw c.in-None.is at c.log.ensures)

pub returns : goal.returns
returns c =
    log_length c.args.group.now c.recall_deliveries.ensures.sound c.args.node c.recall.ensures.0
    c.requires c.in-Some.log.now (rw c.in-Some.is at c.log.ensures)
