use Rattle.urb_node.proofs.Common.{Resending, ap}
use Rattle.urb_node.proofs.OutcomeResults.{resend-kept}
use Rattle.urb_node.proofs.down.bring_up.Goals as goal

pub invariant_of-result : goal.invariant_of-result
invariant_of-result g c =
    resend-kept c.args.held c.rewind.new.self c.requires (
      ap (λ (r : Resending). r.limits) c.rewind.ensures,
      ap (λ (r : Resending). r.node) c.rewind.ensures,
      ap (λ (r : Resending). r.roomy) c.rewind.ensures,
    )
