use Rattle.std.proofs.Common.{Err, Ok, refl}
use Rattle.urb_group.proofs.stores.restart_from_store.Goals as goal

pub returns-in-Ok-clause-reads : goal.returns-in-Ok-clause-reads
returns-in-Ok-clause-reads g c =
    record {
      answer = Ok c.in-Ok.image.items;
      gives =
          record {
            answers = c.in-Ok.ensures.answers;
            retrieved = c.in-Ok.ensures.retrieved;
            settled = c.in-Ok.ensures.settled;
            allowed = c.in-Ok.ensures.allowed;
            stop = c.in-Ok.ensures.stop;
            rest = c.in-Ok.ensures.rest;
            counts = c.in-Ok.ensures.counts;
            trust = c.in-Ok.ensures.trust;
            refuses = c.in-Ok.ensures.refuses;
            lasts = c.in-Ok.ensures.lasts;
            ahead = c.in-Ok.ensures.ahead;
          };
      returns = c.restart_with.ensures.event;
    }

pub returns-in-Err-clause-reads : goal.returns-in-Err-clause-reads
returns-in-Err-clause-reads g c =
    record {
      answer = Err c.in-Err.fault;
      gives =
          record {
            answers = c.in-Err.ensures.answers;
            retrieved = c.in-Err.ensures.retrieved;
            settled = c.in-Err.ensures.settled;
            allowed = c.in-Err.ensures.allowed;
            stop = c.in-Err.ensures.stop;
            rest = c.in-Err.ensures.rest;
            counts = c.in-Err.ensures.counts;
            trust = c.in-Err.ensures.trust;
            refuses = c.in-Err.ensures.refuses;
            lasts = c.in-Err.ensures.lasts;
            ahead = c.in-Err.ensures.ahead;
          };
      returns = (rw c.refusal.ensures refl, refl);
    }
