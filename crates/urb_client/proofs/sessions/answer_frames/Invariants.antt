use Rattle.urb_client.proofs.Common.{LONGEST_REQUEST, length, ◌≡◌}
use Rattle.urb_client.proofs.SessionProgress.{GoingFor}
use Rattle.urb_client.proofs.sessions.answer_frames.Given as goal

-- what was read is answered, and the answers are written
abbrev pub invariant-loop : goal.invariant-loop
invariant-loop g l = record {
  room : length l.body ≡ LONGEST_REQUEST;
  going : GoingFor g.D.Desk.answers l.counter (g.R.Read.remaining l.fn.reader)
      (g.R.Read.remaining l.reader) l.fn.desk l.desk (g.W.Write.contents l.fn.writer)
      (g.W.Write.contents l.writer);
}
