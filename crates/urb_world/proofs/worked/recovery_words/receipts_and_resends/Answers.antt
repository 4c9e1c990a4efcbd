-- The receipt of a node's own message.
use Rattle.urb_world.proofs.Common.{message, refl}
use Rattle.urb_world.proofs.worked.recovery_words.receipts_and_resends.Goals as goal

pub returns-clause-its_own : goal.returns-clause-its_own
returns-clause-its_own c = (message 7 1 "", refl, (refl, refl))
