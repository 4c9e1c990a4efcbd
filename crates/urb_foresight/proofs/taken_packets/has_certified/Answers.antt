use Rattle.std.proofs.Common.{ap, rules, ◌∙◌, ◌≡◌}
use Rattle.urb_names.specs.LabelsAndContents.{Limits}
use Rattle.urb_names.specs.Nodes.{is_majority}
use Rattle.urb_foresight.proofs.HeldPackets.{certified-if, not-certified}
use Rattle.urb_foresight.proofs.taken_packets.has_certified.Goals as goal

pub returns-then-may_follow : goal.returns-then-may_follow
returns-then-may_follow g c w shows kept =
    not-certified c.args.group.now w shows kept c.args.node c.args.name c.args.message.now
    (c.requires w shows) (rw c.if-may_follow.true at c.may_follow.ensures)

pub returns : goal.returns
returns g c w shows kept =
    let size : c.n.result ≡ c.args.group.now.size.n = search rules in
    (c.is_majority.ensures
    ∙ ap (is_majority c.count_holders.result) (size ∙ ap (λ (l : Limits). l.n) shows.size))
    ∙ certified-if c.args.group.now w shows kept c.args.node c.args.name c.args.message.now
    (c.requires w shows) c.count_holders.result (c.count_holders.ensures w shows)
    (rw c.if-may_follow.false at c.may_follow.ensures)
