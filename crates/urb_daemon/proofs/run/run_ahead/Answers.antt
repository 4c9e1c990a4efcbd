use Rattle.urb_daemon.proofs.AheadRuns.{ran_ahead, ran_unasked}
use Rattle.urb_daemon.specs.Runs.{limits_of}
use Rattle.urb_daemon.proofs.run.run_ahead.Goals as goal

pub returns-in_default-clause-ran : goal.returns-in_default-clause-ran
returns-in_default-clause-ran g c =
    ran_unasked g.S.Stable (limits_of c.args.serving) c.args.stores.items c.args.console.now.is_told

pub returns-clause-ran : goal.returns-clause-ran
returns-clause-ran g c =
    let wrap = c.wrap_all-stores in
    let run = c.run_stores-lasts in
    ran_ahead g.S.Stable (limits_of c.args.serving) c.args.stores.items run.new.console.is_told
    run.result.1 c.unwrap_all.result.items wrap.result.1.items run.result.0.items
    wrap.ensures.wrapped run.ensures.order run.ensures.ends run.ensures.goes_on
    c.unwrap_all.ensures.sound c.unwrap_all.ensures.stores
