use Rattle.std.proofs.Common.{Err, Ok, inl, refl, rules, subst, ◌≡◌}
use Rattle.urb_worker.proofs.ServedStores.{unserved}
use Rattle.urb_daemon.proofs.RunsAfterStop.{as-opened, ends-by-events, ends-opened}
use Rattle.urb_daemon.proofs.RunsAfterStop.{ends-without-network}
use Rattle.urb_daemon.proofs.RunsAfterStop.{refused-after-stop, served-after-stop, stops-if-ended}
use Rattle.urb_daemon.proofs.StoresComeBack.{come_back, come_back_at_once}
use Rattle.urb_daemon.specs.Runs.{limits_of}
use Rattle.urb_daemon.specs.declared.serve_fault.ServeFault.TheVariants.{Network, Unopened}
use Rattle.urb_daemon.specs.internal.Runs.{end_of}
use Rattle.urb_folder.specs.AskedStores.{OpensTogether}
use Rattle.urb_daemon.proofs.run.run_stores.Goals as goal

pub returns-in-Ok-open_network-clause-order : goal.returns-in-Ok-open_network-clause-order
returns-in-Ok-open_network-clause-order g c =
    let asked = c.open_group-stores.result.0.items in
    let opens =
    subst (λ result. OpensTogether g.S.Stable c.config.result c.args.stores.items result asked)
    c.in-Ok.is c.open_group-stores.ensures.opens in
    come_back g.S.Stable c.config.result c.args.stores.items
    (Ok c.in-Ok.group) asked c.run_group_at-stores.result.0.items c.in-Ok.group opens
    c.run_group_at-stores.ensures.order

pub returns-in-Err-open_network-clause-order : goal.returns-in-Err-open_network-clause-order
returns-in-Err-open_network-clause-order g c =
    let asked = c.open_group-stores.result.0.items in
    let opens =
    subst (λ result. OpensTogether g.S.Stable c.config.result c.args.stores.items result asked)
    c.in-Ok.is c.open_group-stores.ensures.opens in
    come_back_at_once g.S.Stable c.config.result c.args.stores.items (Ok c.in-Ok.group) asked opens

pub returns-in-Err-clause-order : goal.returns-in-Err-clause-order
returns-in-Err-clause-order g c =
    let asked = c.open_group-stores.result.0.items in
    let opens =
    subst (λ result. OpensTogether g.S.Stable c.config.result c.args.stores.items result asked)
    c.in-Err.is c.open_group-stores.ensures.opens in
    come_back_at_once g.S.Stable c.config.result c.args.stores.items
    (Err c.in-Err.refusal) asked opens

pub returns-in-Ok-open_network-clause-ends : goal.returns-in-Ok-open_network-clause-ends
returns-in-Ok-open_network-clause-ends g c =
    let call = c.open_group-stores in
    let run = c.run_group_at-stores in
    let same : c.config.result ≡ limits_of c.args.serving = search rules in
    let judged : c.judge_end.result ≡ end_of run.result.1 run.new.watch.is_told = search rules in
    let from =
    as-opened g.S.Stable c.config.result (limits_of c.args.serving) c.args.stores.items
    call.result.1 c.in-Ok.group call.result.0.items same c.in-Ok.is call.ensures.opens in
    ends-opened g.S.Stable (limits_of c.args.serving) c.args.stores.items c.in-Ok.group
    call.result.0.items run.result.0.items from run.new.watch.is_told c.judge_end.result
    run.ensures.order
    (stops-if-ended g.S.Stable (limits_of c.args.serving) c.args.stores.items c.in-Ok.group
    call.result.0.items run.result.0.items from run.result.1 run.new.watch.is_told
    c.judge_end.result run.ensures.whole judged)
    (ends-by-events run.result.1 run.new.watch.is_told c.judge_end.result judged)

pub returns-in-Err-open_network-clause-ends : goal.returns-in-Err-open_network-clause-ends
returns-in-Err-open_network-clause-ends g c =
    let call = c.open_group-stores in
    let fault = c.in-Err-open_network.fault in
    let same : c.config.result ≡ limits_of c.args.serving = search rules in
    let from =
    as-opened g.S.Stable c.config.result (limits_of c.args.serving) c.args.stores.items
    call.result.1 c.in-Ok.group call.result.0.items same c.in-Ok.is call.ensures.opens in
    ends-opened g.S.Stable (limits_of c.args.serving) c.args.stores.items c.in-Ok.group
    call.result.0.items call.result.0.items from c.args.console.now.is_told (Err (Network fault))
    (unserved g.S.Stable c.in-Ok.group call.result.0.items) (λ known none. tt)
    (ends-without-network fault c.args.console.now.is_told)

pub returns-in-Err-clause-ends : goal.returns-in-Err-clause-ends
returns-in-Err-clause-ends g c =
    let asked = c.open_group-stores.result.0.items in
    let opens =
    subst (λ result. OpensTogether g.S.Stable c.config.result c.args.stores.items result asked)
    c.in-Err.is c.open_group-stores.ensures.opens in
    let same : c.config.result ≡ limits_of c.args.serving = search rules in
    inl (record {
      why = c.in-Err.refusal;
      opens =
          subst (λ size. OpensTogether g.S.Stable size c.args.stores.items
          (Err c.in-Err.refusal) asked) same opens;
      ends = refl;
    })

pub returns-in-Ok-open_network-clause-goes_on : goal.returns-in-Ok-open_network-clause-goes_on
returns-in-Ok-open_network-clause-goes_on g c =
    let call = c.open_group-stores in
    let run = c.run_group_at-stores in
    let same : c.config.result ≡ limits_of c.args.serving = search rules in
    let judged : c.judge_end.result ≡ end_of run.result.1 run.new.watch.is_told = search rules in
    let from =
    as-opened g.S.Stable c.config.result (limits_of c.args.serving) c.args.stores.items
    call.result.1 c.in-Ok.group call.result.0.items same c.in-Ok.is call.ensures.opens in
    served-after-stop g.S.Stable c.config.result (limits_of c.args.serving) c.args.stores.items
    call.result.1 c.in-Ok.group call.result.0.items run.result.0.items from run.new.watch.is_told
    c.judge_end.result same c.in-Ok.is c.recall.ensures.sound call.ensures.goes_on run.ensures.order
    (stops-if-ended g.S.Stable (limits_of c.args.serving) c.args.stores.items c.in-Ok.group
    call.result.0.items run.result.0.items from run.result.1 run.new.watch.is_told
    c.judge_end.result run.ensures.whole judged)
    (ends-by-events run.result.1 run.new.watch.is_told c.judge_end.result judged)

pub returns-in-Err-open_network-clause-goes_on : goal.returns-in-Err-open_network-clause-goes_on
returns-in-Err-open_network-clause-goes_on g c =
    let call = c.open_group-stores in
    let fault = c.in-Err-open_network.fault in
    let same : c.config.result ≡ limits_of c.args.serving = search rules in
    let from =
    as-opened g.S.Stable c.config.result (limits_of c.args.serving) c.args.stores.items
    call.result.1 c.in-Ok.group call.result.0.items same c.in-Ok.is call.ensures.opens in
    served-after-stop g.S.Stable c.config.result (limits_of c.args.serving) c.args.stores.items
    call.result.1 c.in-Ok.group call.result.0.items call.result.0.items from
    c.args.console.now.is_told (Err (Network fault)) same c.in-Ok.is c.recall.ensures.sound
    call.ensures.goes_on
    (unserved g.S.Stable c.in-Ok.group call.result.0.items)
    (λ known none. tt) (ends-without-network fault c.args.console.now.is_told)

pub returns-in-Err-clause-goes_on : goal.returns-in-Err-clause-goes_on
returns-in-Err-clause-goes_on g c =
    let call = c.open_group-stores in
    let same : c.config.result ≡ limits_of c.args.serving = search rules in
    refused-after-stop g.S.Stable c.config.result (limits_of c.args.serving) c.args.stores.items
    call.result.1 c.in-Err.refusal call.result.0.items c.args.console.now.is_told
    (Err (Unopened c.in-Err.refusal)) same c.in-Err.is call.ensures.goes_on refl
