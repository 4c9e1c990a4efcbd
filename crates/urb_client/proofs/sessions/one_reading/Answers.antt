use Rattle.urb_client.proofs.SingleReading.{is_read_once}
use Rattle.urb_client.proofs.sessions.one_reading.Goals as goal

pub returns : goal.returns
returns c = is_read_once
