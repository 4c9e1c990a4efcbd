use Rattle.urb_script.proofs.Common.{IfSome, vec_capacity, ◌≤◌}
use Rattle.urb_script.specs.declared.input.TheConstants.{TOO_LONG}
use Rattle.urb_script.proofs.Progress.{Going}
use Rattle.urb_script.proofs.runs.run_lines.Given as goal

-- what was read is answered, the answers are written, and what is there so far keeps what it has to
abbrev pub invariant-loop-before : goal.invariant-loop-before
invariant-loop-before g l = record {
  room : TOO_LONG ≤ vec_capacity l.line;
  going : IfSome (g.R.Read.remaining l.fn.reader) (λ input.
      Going g.P.Play.shows input (g.W.Write.contents l.fn.writer) (g.W.Write.contents l.writer)
      (g.R.Read.remaining l.reader) l.before l.state);
  kept : IfSome l.state (λ it. g.P.Play.keeps it);
}
