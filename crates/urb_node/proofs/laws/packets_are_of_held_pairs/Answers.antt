use Rattle.urb_node.proofs.SentPackets.{answer-from}
use Rattle.urb_names.proofs.SentPairs.{resent-from, to_others-from}
use Rattle.urb_node.proofs.laws.packets_are_of_held_pairs.Goals as goal

pub returns-clause-pair : goal.returns-clause-pair
returns-clause-pair c = to_others-from

pub returns-clause-tick : goal.returns-clause-tick
returns-clause-tick c = resent-from

pub returns-clause-answer : goal.returns-clause-answer
returns-clause-answer c = answer-from
