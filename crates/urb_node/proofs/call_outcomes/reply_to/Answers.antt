use Rattle.std.proofs.Common.{sym, ◌∙◌}
use Rattle.urb_node.proofs.call_outcomes.reply_to.Goals as goal

pub new-reply-requires-clause-apart : goal.new-reply-requires-clause-apart
new-reply-requires-clause-apart g c same =
    c.recall.ensures.apart (sym (c.requires.target ∙ (same ∙ c.source.ensures)))
