use Rattle.urb_group.proofs.stops.AheadGroups.{all-survive-ahead}
use Rattle.urb_group.proofs.laws.a_stop_of_all_nodes_ahead_is_survived.Goals as goal

pub returns : goal.returns
returns c group images sound each = all-survive-ahead group images sound each
