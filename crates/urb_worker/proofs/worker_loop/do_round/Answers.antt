use Rattle.urb_worker.proofs.ServedStores.{then_own}
use Rattle.urb_worker.proofs.worker_loop.do_round.Goals as goal

pub returns-in-Some-clause-served : goal.returns-in-Some-clause-served
returns-in-Some-clause-served g c =
    then_own g.S.Stable g.K.HouseName.origin c.args.node c.args.store.now c.do_tickets-tally.new.store
    c.do_own_job.new.store c.args.outlets.now c.do_tickets-tally.new.outlets
    c.do_own_job.new.outlets c.do_tickets-tally.ensures.served c.do_own_job.ensures.work
