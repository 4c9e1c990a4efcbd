-- The premises are true of small worlds and lists.
use Rattle.urb_world.proofs.Common.{Act, List, [], and_from, and_parts, arith, inl, lt-ltb}
use Rattle.urb_world.proofs.Common.{ltb-true, map, nat_lt, nodes, refl, ◌++◌}
use Rattle.urb_world.proofs.rounds.JudgedRounds.{of-nodes}
use Rattle.urb_world.specs.Rounds.{Ticks, ticks_of}
use Rattle.urb_world.proofs.worked.premises.what_laws_suppose.Goals as goal

pub returns-clause-all_seven_are_up : goal.returns-clause-all_seven_are_up
returns-clause-all_seven_are_up c p is = refl

pub returns-clause-four_of_seven_are_up : goal.returns-clause-four_of_seven_are_up
returns-clause-four_of_seven_are_up c p is =
    let parts = and_parts (nat_lt 0 p) (nat_lt p 5) is in
    let high = ltb-true p 5 parts.1 in
    (and_from (nat_lt 0 p) (nat_lt p 8) parts.0 (lt-ltb p 8 (omega (arith, high))), refl)

pub returns-clause-four_are_a_majority : goal.returns-clause-four_are_a_majority
returns-clause-four_are_a_majority c = (refl, refl, refl, refl)

pub returns-clause-the_last_of_seven_holds : goal.returns-clause-the_last_of_seven_holds
returns-clause-the_last_of_seven_holds c = (7, refl, refl)

pub returns-clause-seven_tick_twice : goal.returns-clause-seven_tick_twice
returns-clause-seven_tick_twice c p is =
    let acts : List Act = map (λ q. Ticks q []) (nodes 7 ++ nodes 7) in
    let l = ltb-true 1 (ticks_of p acts) (of-nodes 7 (λ q. nat_lt 1 (ticks_of q acts)) refl p is) in
    omega (arith, l)

pub returns-clause-an_answer_arrives : goal.returns-clause-an_answer_arrives
returns-clause-an_answer_arrives c = ((inl refl, tt), (tt, tt))

pub returns-clause-one_of_two_is_due : goal.returns-clause-one_of_two_is_due
returns-clause-one_of_two_is_due c = record { rises = refl; among = (refl, tt); there = refl }

pub returns-clause-a_sent_packet_comes : goal.returns-clause-a_sent_packet_comes
returns-clause-a_sent_packet_comes c = ((0, refl), (tt, (tt, tt)))
