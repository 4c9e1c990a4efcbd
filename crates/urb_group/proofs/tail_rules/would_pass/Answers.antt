use Rattle.std.proofs.Common.{ap, ℕ, ◌∙◌}
use Rattle.urb_names.specs.Nodes.{is_majority}
use Rattle.urb_group.proofs.tail_rules.would_pass.Goals as goal

pub returns : goal.returns
returns g c =
    λ v s. rw c.n.ensures.value at c.is_majority.ensures
    ∙ ap (λ (k : ℕ). is_majority k c.args.config.n) (c.count_holders.ensures v s)
