use Rattle.urb_node.proofs.Common.{Resending, added, ap, rules, sym, ◌∙◌, ◌≡◌}
use Rattle.urb_node.proofs.JoinedLayers.{pair-kept}
use Rattle.urb_node.proofs.storing.join_pair.Goals as goal

pub returns-clause-kept : goal.returns-clause-kept
returns-clause-kept g c =
    let joined : c.add.new.self ≡ added c.args.name c.args.message c.args.held.now.pending =
    search rules in
    pair-kept c.args.held.now c.add.new.self c.count_acks.new.acks c.hear.new.resend c.args.name
    c.args.message c.requires.kept joined c.count_acks.ensures.same c.requires.room.2
    (c.hear.ensures ∙ ap (λ heard. record c.args.held.now.resend { heard = heard })
    (sym (ap (λ (r : Resending). r.heard) c.hear.ensures)))
