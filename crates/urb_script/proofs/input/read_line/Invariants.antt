use Rattle.urb_script.proofs.Common.{All, Consumes, false, length, vec_capacity, ◌==◌, ◌≡◌}
use Rattle.urb_script.proofs.input.read_line.Given as goal

-- what is read so far has no LF
abbrev pub invariant-loop : goal.invariant-loop
invariant-loop g l = record {
  count : length l.line.items ≡ l.counter;
  room : vec_capacity l.line ≡ vec_capacity l.fn.line;
  plain : All (λ byte. (byte == 10) ≡ false) l.line.items;
  bytes : Consumes (g.R.Read.remaining l.fn.reader) (g.R.Read.remaining l.reader) l.line.items;
}
