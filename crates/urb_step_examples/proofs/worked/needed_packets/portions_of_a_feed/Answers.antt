-- A new group needs no packet.
use Rattle.urb_foresight.specs.internal.ForesightExamples.{four_nodes}
use Rattle.urb_step_examples.proofs.worked.needed_packets.portions_of_a_feed.Goals as goal

pub returns-clause-no_packet_that_is_not_needed : goal.returns-clause-no_packet_that_is_not_needed
returns-clause-no_packet_that_is_not_needed c shows h = let none = h.needed four_nodes shows in cc
