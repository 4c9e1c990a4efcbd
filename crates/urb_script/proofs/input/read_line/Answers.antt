use Rattle.std.proofs.Common.{rules}
use Rattle.std.proofs.KnownBytes.{Consumes-trans}
use Rattle.urb_script.proofs.LinesAndWords.{read_whole, read_last, read_long, plain_more, took_last}
use Rattle.urb_script.proofs.LinesAndWords.{took_whole, took_long}
use Rattle.urb_script.proofs.input.read_line.Goals as goal

pub returns-else-is_empty-clause-line : goal.returns-else-is_empty-clause-line
returns-else-is_empty-clause-line g c =
    read_last (g.R.Read.remaining c.args.reader.now)
    _ _ c.loop.line.items c.loop.invariant.plain c.loop.invariant.bytes (search rules)
    (search rules) (search rules)

pub returns-then-byte-eq10-clause-line : goal.returns-then-byte-eq10-clause-line
returns-then-byte-eq10-clause-line g c =
    read_whole (g.R.Read.remaining c.args.reader.now)
    _ _ c.loop.line.items c.loop.invariant.plain c.loop.invariant.bytes (search rules)

pub loop-preserved : goal.loop-preserved
loop-preserved g c = record {
  count = search rules;
  room = search rules;
  plain =
      plain_more c.loop.line.items _ c.in-Some.byte c.loop.invariant.plain c.if-byte-eq10.false
      c.push_reserved.ensures.items;
  bytes = search (rules, Consumes-trans);
}

pub returns-clause-line : goal.returns-clause-line
returns-clause-line g c =
    read_long (g.R.Read.remaining c.args.reader.now)
    _ c.loop.line.items c.loop.invariant.plain c.loop.invariant.bytes (search rules)

pub returns-else-is_empty-clause-took : goal.returns-else-is_empty-clause-took
returns-else-is_empty-clause-took g c =
    took_last (g.R.Read.remaining c.args.reader.now)
    _ _ c.loop.line.items c.loop.invariant.plain c.loop.invariant.bytes (search rules)

pub returns-then-byte-eq10-clause-took : goal.returns-then-byte-eq10-clause-took
returns-then-byte-eq10-clause-took g c =
    took_whole (g.R.Read.remaining c.args.reader.now)
    _ _ c.loop.line.items c.loop.invariant.plain c.loop.invariant.bytes (search rules)

pub returns-clause-took : goal.returns-clause-took
returns-clause-took g c =
    took_long (g.R.Read.remaining c.args.reader.now)
    _ c.loop.line.items c.loop.invariant.plain c.loop.invariant.bytes
