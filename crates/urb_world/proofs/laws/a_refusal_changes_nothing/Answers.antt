use Rattle.urb_world.proofs.safety.Refusals.{refused-stays}
use Rattle.urb_world.proofs.laws.a_refusal_changes_nothing.Goals as goal

pub returns : goal.returns
returns c = refused-stays
