-- The premises are true of small worlds and lists.
use Rattle.urb_group.proofs.Common.{is_node, refl}
use Rattle.urb_world.proofs.rounds.BusyRounds.{round-busy}
use Rattle.urb_world.proofs.rounds.JudgedRounds.{judged-among}
use Rattle.urb_group.proofs.worked.played_rounds.what_laws_suppose.Goals as goal

pub returns-clause-seven_play_a_round : goal.returns-clause-seven_play_a_round
returns-clause-seven_play_a_round g c = judged-among 7 _ _ refl

pub returns-clause-seven_play_a_busy_round : goal.returns-clause-seven_play_a_busy_round
returns-clause-seven_play_a_busy_round g c = round-busy (is_node 7) _ _ (judged-among 7 _ _ refl)
