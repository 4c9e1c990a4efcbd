use Rattle.urb_stubborn.proofs.Common.{IsTick, MAX_NODES, Resending, ap, arith, length, rules, ◌∙◌}
use Rattle.urb_stubborn.proofs.Common.{◌≡◌, ◌≤◌}
use Rattle.urb_stubborn.proofs.LoneNodes.{tick_alone}
use Rattle.urb_stubborn.proofs.TickProgress.{few_sent}
use Rattle.urb_stubborn.proofs.resend.Resend.tick.Goals as goal

pub returns-then-n-eq1-clause-packets : goal.returns-then-n-eq1-clause-packets
returns-then-n-eq1-clause-packets g c =
    let r : Resending = c.args.self.now in
    let group : r.limits.n ≡ 1 = search rules in
    let low : 1 ≤ r.node = search rules in
    let high : r.node ≤ r.limits.n = search rules in
    let node : r.node ≡ 1 = omega (arith, low, high, group) in
    c.empty.ensures ∙ (tick_alone r c.args.pending.now.pairs c.args.certified.now.names group
    node).0

pub returns-then-n-eq1-clause-ok : goal.returns-then-n-eq1-clause-ok
returns-then-n-eq1-clause-ok g c =
    let r : Resending = c.args.self.now in
    let group : r.limits.n ≡ 1 = search rules in
    let low : 1 ≤ r.node = search rules in
    let high : r.node ≤ r.limits.n = search rules in
    let node : r.node ≡ 1 = omega (arith, low, high, group) in
    (tick_alone r c.args.pending.now.pairs c.args.certified.now.names group node).1

pub of-requires : goal.of-requires
of-requires g c =
    let r : Resending = c.args.self.now in
    let low : 1 ≤ r.node = search rules in
    let high : r.node ≤ r.limits.n = search rules in
    let most : r.limits.n ≤ MAX_NODES = search rules in
    let tick : IsTick r c.args.pending.now.pairs c.args.certified.now.names c.in_ok-turn.turn
    c.go_round.new.packets.items = c.in_ok-turn.ensures in
    omega (
      arith,
      c.go_round.new.packets.ok.0,
      ap length tick.packets,
      few_sent r c.args.pending.now.pairs c.args.certified.now.names low high most,
    )

pub returns-clause-packets : goal.returns-clause-packets
returns-clause-packets g c =
    let r : Resending = c.args.self.now in
    let tick : IsTick r c.args.pending.now.pairs c.args.certified.now.names c.in_ok-turn.turn
    c.go_round.new.packets.items = c.in_ok-turn.ensures in
    c.of.ensures ∙ tick.packets

pub returns-clause-ok : goal.returns-clause-ok
returns-clause-ok g c =
    let r : Resending = c.args.self.now in
    let tick : IsTick r c.args.pending.now.pairs c.args.certified.now.names c.in_ok-turn.turn
    c.go_round.new.packets.items = c.in_ok-turn.ensures in
    ap (λ (s : Resending). record s { cursor = c.in_ok-turn.turn.cursor }) c.self.view_is
    ∙ ap (λ o. record r { cursor = o }) tick.cursor
