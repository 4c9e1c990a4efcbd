use Rattle.urb_turn.proofs.Common.{AllRestSince, IsTrue, events_in, length, ◌≡◌}
use Rattle.urb_turn.proofs.counting.counted_house.CountedHouse.close.Given as goal

abbrev pub invariant-loop-tally : goal.invariant-loop-tally
invariant-loop-tally g l = record {
  parts : l.all.parts ≡ length l.yielded;
  amount : l.all.amount ≡ events_in l.yielded;
  place : l.place ≡ length l.yielded;
  rested : IsTrue l.is_known → AllRestSince 1 l.yielded l.house.past;
}
