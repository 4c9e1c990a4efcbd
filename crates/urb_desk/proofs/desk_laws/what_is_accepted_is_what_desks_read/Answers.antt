use Rattle.urb_desk.proofs.AcceptedReads.{accepted_read}
use Rattle.urb_desk.proofs.desk_laws.what_is_accepted_is_what_desks_read.Goals as goal

pub returns : goal.returns
returns c opened seen history p m seq before after e accepted looked one there is =
    accepted_read opened seen history p m seq before after e accepted looked one there is
