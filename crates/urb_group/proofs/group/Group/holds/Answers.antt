use Rattle.urb_group.proofs.Common.{is_node, message_of, pend, stored, ◌∙◌}
use Rattle.urb_group.proofs.shown.NodeAnswers.{answers_some}
use Rattle.urb_group.proofs.group.Group.holds.Goals as goal

pub returns : goal.returns
returns g c =
    λ w s. c.is_some.ensures ∙ answers_some (λ m. m.now)
    (is_node w.size.n c.args.node) c.message.result
    (message_of (pend (stored w c.args.node)) c.args.name) (c.message.ensures w s)
