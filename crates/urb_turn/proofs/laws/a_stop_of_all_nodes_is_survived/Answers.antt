use Rattle.urb_turn.proofs.OtherNodes.{all-survive}
use Rattle.urb_turn.proofs.laws.a_stop_of_all_nodes_is_survived.Goals as goal

pub returns : goal.returns
returns c group images sound each = all-survive group images sound each
