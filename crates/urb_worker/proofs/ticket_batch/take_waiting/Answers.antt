use Rattle.std.proofs.Common.{length, rules, ◌<◌}
use Rattle.urb_foresight.specs.declared.foresight.TheConstants.{MAX_BATCH}
use Rattle.urb_worker.proofs.TicketBatches.{goes_on}
use Rattle.urb_worker.proofs.ticket_batch.take_waiting.Goals as goal

pub loop-hopes-preserved-in-Ok-look : goal.loop-hopes-preserved-in-Ok-look
loop-hopes-preserved-in-Ok-look g c =
    let few : length c.loop-hopes.tickets.items < MAX_BATCH = search rules in
    record {
      batch =
          goes_on (λ ticket. ticket.job) c.args.first.job c.loop-hopes.tickets.items
          c.push_reserved-in-Ok-look.new.self.items c.in-Ok-look.ticket
          c.loop-hopes.invariant.batch few c.push_reserved-in-Ok-look.ensures.items;
      most = search rules;
      room = search rules;
    }
