use Rattle.std.proofs.Common.{refl}
use Rattle.std.proofs.lemmas.List.{map_push}
use Rattle.urb_worker.proofs.NodeFeeds.{learns_more}
use Rattle.urb_worker.proofs.ServedStores.{works_more}
use Rattle.urb_worker.specs.internal.ServedStores.{each}
use Rattle.urb_worker.proofs.worker_loop.do_batch.Goals as goal

pub loop-ticket-init : goal.loop-ticket-init
loop-ticket-init g c =
    record { works = (refl, refl); keeps = c.keep_ahead-tally.ensures.keeps; own = refl }

pub loop-ticket-preserved : goal.loop-ticket-preserved
loop-ticket-preserved g c =
    record {
      works =
          rw (map_push (λ ticket. ticket.job) c.loop-ticket.yielded c.in-Some.ticket)
          (works_more g.S.Stable g.K.HouseName.origin c.args.node
          (each c.loop-ticket.yielded (λ ticket. ticket.job)) c.in-Some.ticket.job
          c.keep_ahead-tally.new.store c.loop-ticket.store c.do_ticket-tally.new.store
          c.run_short.new.self c.loop-ticket.outlets c.do_ticket-tally.new.outlets
          c.loop-ticket.invariant.works c.do_ticket-tally.ensures.work);
      keeps = λ start opening h.
          c.do_ticket-tally.ensures.keeps start opening
          (c.loop-ticket.invariant.keeps start opening h);
      own =
          rw (map_push (λ ticket. ticket.job) c.loop-ticket.yielded c.in-Some.ticket)
          (learns_more g.K.HouseName.origin c.args.setting.now.mends c.args.node
          (each c.loop-ticket.yielded (λ ticket. ticket.job)) c.in-Some.ticket.job
          c.args.state.now.own c.loop-ticket.state.own c.do_ticket-tally.new.state.own
          c.loop-ticket.invariant.own c.do_ticket-tally.ensures.own);
    }
