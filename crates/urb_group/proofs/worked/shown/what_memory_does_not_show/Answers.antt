-- Memory that lies in one thing doesn't show the node.
use Rattle.urb_group.proofs.Common.{false≢true, name, refl}
use Rattle.urb_world.specs.internal.Examples.{filled}
use Rattle.urb_world.specs.internal.Scripts.{message}
use Rattle.urb_group.proofs.worked.shown.what_memory_does_not_show.Goals as goal

pub returns-clause-no_pairs : goal.returns-clause-no_pairs
returns-clause-no_pairs c shows = false≢true (shows.pairs (name 1 1) (message 7 1 ""))

pub returns-clause-no_certificates : goal.returns-clause-no_certificates
returns-clause-no_certificates c shows = false≢true (shows.certified (name 1 1))

pub returns-clause-no_acknowledgements : goal.returns-clause-no_acknowledgements
returns-clause-no_acknowledgements c shows = false≢true (shows.acks (name 1 2) 1 refl)

pub returns-clause-nothing_heard : goal.returns-clause-nothing_heard
returns-clause-nothing_heard c shows = false≢true (shows.heard (name 1 1) 2)

pub returns-clause-no_long_payload : goal.returns-clause-no_long_payload
returns-clause-no_long_payload c shows = false≢true (shows.pairs (name 1 1) (filled 7 1 1001))
