use Rattle.std.proofs.Common.{arith, sym, ◌∙◌}
use Rattle.std.proofs.lemmas.List.{length_push}
use Rattle.urb_turn.proofs.LastLoans.{events_push, known_push}
use Rattle.urb_turn.proofs.counting.counted_house.CountedHouse.close.Goals as goal

-- one more tally
pub loop-tally-preserved : goal.loop-tally-preserved
loop-tally-preserved g c = record {
  parts =
      rw (length_push c.loop-tally.yielded c.in-Some.tally)
      (omega (
        arith,
        c.merge.ensures.parts,
        c.into_share.ensures.parts,
        c.loop-tally.invariant.parts,
      ));
  amount =
      omega (
        arith,
        c.merge.ensures.amount,
        c.into_share.ensures.amount,
        c.loop-tally.invariant.amount,
        events_push c.loop-tally.yielded c.in-Some.tally,
      );
  place =
      rw (length_push c.loop-tally.yielded c.in-Some.tally)
      (omega (arith, c.loop-tally.invariant.place));
  rested =
      known_push c.loop-tally.yielded c.in-Some.tally c.self.inside.house.past c.self.inside.last
      c.loop-tally.is_known c.has_ended_at-is_known.result c.loop-tally.place
      c.loop-tally.invariant.place c.loop-tally.invariant.rested
      (λ e. let it = c.has_ended_at-is_known.ensures e in (it.0, sym c.last-end.ensures ∙ it.1, it.2))
      c.self.invariant;
}
