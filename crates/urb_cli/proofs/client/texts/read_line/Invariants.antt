use Rattle.std.proofs.Common.{◌≡◌, ◌==◌, false, length}
use Rattle.std.specs.List.{All}
use Rattle.std.specs.Io.KnownBytes.{Consumes}
use Rattle.urb_cli.proofs.client.texts.read_line.Given as goal

-- what is read so far has no LF
abbrev pub invariant-loop : goal.invariant-loop
invariant-loop g l = record {
  count : length l.line.items ≡ l.counter;
  plain : All (λ byte. (byte == 10) ≡ false) l.line.items;
  bytes : Consumes (g.R.Read.remaining l.fn.reader) (g.R.Read.remaining l.reader) l.line.items;
}
