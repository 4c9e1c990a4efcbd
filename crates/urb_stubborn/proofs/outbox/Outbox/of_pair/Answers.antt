use Rattle.urb_stubborn.proofs.Common.{Content, Label, MAX_NODES, ap, arith, is_heard_of, length}
use Rattle.urb_stubborn.proofs.Common.{rules, to_others, ◌≡◌, ◌≤◌}
use Rattle.urb_stubborn.proofs.SentPackets.{at_most_to_all}
use Rattle.urb_stubborn.proofs.outbox.Outbox.of_pair.Goals as goal

pub invariant_of-result : goal.invariant_of-result
invariant_of-result g c =
    let most : c.args.config.n ≤ MAX_NODES = search rules in
    let pair : Label × Content = (c.args.name, c.args.message.now) in
    let sent : c.push_to_others.new.packets.items
    ≡ to_others c.args.config.n c.args.node c.args.certified c.args.heard pair = search rules in
    let few : length (to_others c.args.config.n c.args.node c.args.certified c.args.heard pair)
    ≤ c.args.config.n = at_most_to_all c.args.node
    (λ q. record { certified = c.args.certified; heard = is_heard_of c.args.heard q })
    c.args.config.n pair in
    omega (arith, c.push_to_others.new.packets.ok.0, few, most, ap length sent)
