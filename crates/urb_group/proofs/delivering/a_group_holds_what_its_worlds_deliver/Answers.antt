use Rattle.urb_group.proofs.shown.Deliveries.{deliveries-known, entries-alike}
use Rattle.urb_group.proofs.delivering.a_group_holds_what_its_worlds_deliver.Goals as goal

pub returns-clause-held : goal.returns-clause-held
returns-clause-held c = deliveries-known

pub returns-clause-alike : goal.returns-clause-alike
returns-clause-alike c = entries-alike
