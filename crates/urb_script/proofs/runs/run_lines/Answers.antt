use Rattle.std.proofs.Common.{None, rules, sym, arith}
use Rattle.std.proofs.lemmas.Result.{err_from_is_err_and}
use Rattle.urb_script.specs.Lines.{IsPlain, IsOneLine}
use Rattle.urb_script.proofs.Progress.{nothing_yet, one_more, closes_at, bad_end_at, bad_long}
use Rattle.urb_script.proofs.Progress.{bad_command, breaks_off, breaks_between, cuts_off}
use Rattle.urb_script.proofs.Progress.{bad_breaks, same_contents}
use Rattle.urb_script.proofs.runs.run_lines.Goals as goal

pub loop-before-init : goal.loop-before-init
loop-before-init g c = record
    { room = search rules; going = nothing_yet g.P.Play.shows _ _; kept = search rules }

pub returns-in_err-line-clause-broken_off : goal.returns-in_err-line-clause-broken_off
returns-in_err-line-clause-broken_off g c =
    let p = err_from_is_err_and c.from_residual.result c.from_residual.ensures.1 in
    rw (p.1, p.2) (breaks_between g.P.Play.shows IsOneLine None
    (g.R.Read.remaining c.args.reader.now) (g.W.Write.contents c.args.writer.now)
    (g.W.Write.contents c.args.writer.now) (g.R.Read.remaining c.args.reader.now) 0
    (nothing_yet g.P.Play.shows _ _) (omega arith))

pub returns-in_err-text-clause-broken_off : goal.returns-in_err-text-clause-broken_off
returns-in_err-text-clause-broken_off g c =
    let p =
    err_from_is_err_and c.from_residual-in_err-text.result
    c.from_residual-in_err-text.ensures.1 in
    rw (p.1, p.2) (breaks_between g.P.Play.shows IsOneLine None
    (g.R.Read.remaining c.args.reader.now) (g.W.Write.contents c.args.writer.now)
    (g.W.Write.contents c.args.writer.now) (g.R.Read.remaining c.args.reader.now) 0
    (nothing_yet g.P.Play.shows _ _) (omega arith))

pub returns-in_err-read_line-clause-broken_off : goal.returns-in_err-read_line-clause-broken_off
returns-in_err-read_line-clause-broken_off g c =
    let p =
    err_from_is_err_and c.from_residual-in_err-read_line.result
    c.from_residual-in_err-read_line.ensures.1 in
    rw (p.1, p.2) (breaks_off g.P.Play.shows IsPlain c.loop-before.state
    (g.R.Read.remaining c.args.reader.now) _ _ (g.R.Read.remaining c.loop-before.reader)
    (g.R.Read.remaining c.read_line.new.reader)
    _ c.loop-before.invariant.going c.in_err-read_line.ensures.err)

pub returns-then-is_some-clause-whole : goal.returns-then-is_some-clause-whole
returns-then-is_some-clause-whole g c =
    closes_at g.P.Play.shows c.loop-before.state _ _ _ (g.R.Read.remaining c.loop-before.reader)
    (g.R.Read.remaining c.read_line.new.reader) _ c.read_line.new.line.items
    (sym c.if-is_some.ensures) c.loop-before.invariant.going
    (rw c.in-End.is at c.in_ok-read_line.ensures.line) c.in_ok-read_line.ensures.took

pub returns-in-End-clause-whole : goal.returns-in-End-clause-whole
returns-in-End-clause-whole g c =
    bad_end_at g.P.Play.shows c.loop-before.state _ _ _ _ (g.R.Read.remaining c.loop-before.reader)
    (g.R.Read.remaining c.read_line.new.reader) _ c.read_line.new.line.items
    (sym c.if-is_some.ensures) c.loop-before.invariant.going
    (rw c.in-End.is at c.in_ok-read_line.ensures.line)
    c.in_ok-read_line.ensures.took c.in_ok-write_bad_line-in-End.ensures.ok

pub returns-in_err-write_bad_line-in-End-clause-broken_off :
    goal.returns-in_err-write_bad_line-in-End-clause-broken_off
returns-in_err-write_bad_line-in-End-clause-broken_off g c =
    let p =
    err_from_is_err_and c.from_residual-in_err-write_bad_line-in-End.result
    c.from_residual-in_err-write_bad_line-in-End.ensures.1 in
    rw (p.1, p.2) (bad_breaks g.P.Play.shows c.loop-before.state _
    (g.R.Read.remaining c.args.reader.now) _ _ _ (g.R.Read.remaining c.loop-before.reader)
    (g.R.Read.remaining c.read_line.new.reader)
    _ c.loop-before.invariant.going c.in_ok-read_line.ensures.took
    (same_contents g.W.Write.contents _ _ _ c.in_err-write_bad_line-in-End.ensures.err))

pub returns-in-Long-clause-whole : goal.returns-in-Long-clause-whole
returns-in-Long-clause-whole g c =
    bad_long g.P.Play.shows c.loop-before.state _ _ _ _ (g.R.Read.remaining c.loop-before.reader)
    (g.R.Read.remaining c.read_line.new.reader)
    _ c.read_line.new.line.items c.loop-before.invariant.going
    (rw c.in-Long.is at c.in_ok-read_line.ensures.line)
    c.in_ok-read_line.ensures.took c.in_ok-write_bad_line-in-Long.ensures.ok

pub returns-in_err-write_bad_line-in-Long-clause-broken_off :
    goal.returns-in_err-write_bad_line-in-Long-clause-broken_off
returns-in_err-write_bad_line-in-Long-clause-broken_off g c =
    let p =
    err_from_is_err_and c.from_residual-in_err-write_bad_line-in-Long.result
    c.from_residual-in_err-write_bad_line-in-Long.ensures.1 in
    rw (p.1, p.2) (bad_breaks g.P.Play.shows c.loop-before.state _
    (g.R.Read.remaining c.args.reader.now) _ _ _ (g.R.Read.remaining c.loop-before.reader)
    (g.R.Read.remaining c.read_line.new.reader)
    _ c.loop-before.invariant.going c.in_ok-read_line.ensures.took
    (same_contents g.W.Write.contents _ _ _ c.in_err-write_bad_line-in-Long.ensures.err))

pub returns-in_err-next-clause-broken_off : goal.returns-in_err-next-clause-broken_off
returns-in_err-next-clause-broken_off g c =
    let p =
    err_from_is_err_and c.from_residual-in_err-next.result
    c.from_residual-in_err-next.ensures.1 in
    rw (p.1, p.2) (breaks_off g.P.Play.shows IsOneLine c.loop-before.state
    (g.R.Read.remaining c.args.reader.now) _ _ (g.R.Read.remaining c.loop-before.reader)
    (g.R.Read.remaining c.read_line.new.reader)
    _ c.loop-before.invariant.going c.in_ok-read_line.ensures.took)

pub returns-in_default-clause-whole : goal.returns-in_default-clause-whole
returns-in_default-clause-whole g c =
    bad_command g.P.Play.shows c.loop-before.state _ _ _ _ (g.R.Read.remaining c.loop-before.reader)
    (g.R.Read.remaining c.read_line.new.reader)
    _ c.read_line.new.line.items c.answer_line.new.text.items c.loop-before.invariant.going
    (rw c.in-Whole.is at c.in_ok-read_line.ensures.line) c.in_ok-read_line.ensures.took
    (search rules) c.in_ok-write_bad_line.ensures.ok

pub returns-in_err-write_bad_line-clause-broken_off :
    goal.returns-in_err-write_bad_line-clause-broken_off
returns-in_err-write_bad_line-clause-broken_off g c =
    let p =
    err_from_is_err_and c.from_residual-in_err-write_bad_line.result
    c.from_residual-in_err-write_bad_line.ensures.1 in
    rw (p.1, p.2) (bad_breaks g.P.Play.shows c.loop-before.state _
    (g.R.Read.remaining c.args.reader.now) _ _ _ (g.R.Read.remaining c.loop-before.reader)
    (g.R.Read.remaining c.read_line.new.reader)
    _ c.loop-before.invariant.going c.in_ok-read_line.ensures.took
    (same_contents g.W.Write.contents _ _ _ c.in_err-write_bad_line.ensures.err))

pub returns-in_err-extend_from_slice-clause-broken_off :
    goal.returns-in_err-extend_from_slice-clause-broken_off
returns-in_err-extend_from_slice-clause-broken_off g c =
    let p =
    err_from_is_err_and c.from_residual-in_err-extend_from_slice.result
    c.from_residual-in_err-extend_from_slice.ensures.1 in
    rw (p.1, p.2) (breaks_off g.P.Play.shows IsOneLine c.loop-before.state
    (g.R.Read.remaining c.args.reader.now) _ _ (g.R.Read.remaining c.loop-before.reader)
    (g.R.Read.remaining c.read_line.new.reader)
    _ c.loop-before.invariant.going c.in_ok-read_line.ensures.took)

pub returns-in_err-write_and_flush-clause-broken_off :
    goal.returns-in_err-write_and_flush-clause-broken_off
returns-in_err-write_and_flush-clause-broken_off g c =
    let p =
    err_from_is_err_and c.from_residual-in_err-write_and_flush.result
    c.from_residual-in_err-write_and_flush.ensures.1 in
    rw (p.1, p.2, c.in_err-write_and_flush.ensures.err)
    (cuts_off g.P.Play.shows c.loop-before.state (g.R.Read.remaining c.args.reader.now)
    (g.W.Write.contents c.args.writer.now) (g.W.Write.contents c.loop-before.writer)
    (g.W.Write.contents c.write_and_flush.new.writer) (g.R.Read.remaining c.loop-before.reader)
    (g.R.Read.remaining c.read_line.new.reader)
    _ c.loop-before.invariant.going c.in_ok-read_line.ensures.took)

pub loop-before-preserved : goal.loop-before-preserved
loop-before-preserved g c = record {
  room = search rules;
  going =
      one_more g.P.Play.shows c.loop-before.state _ _ _ _ _
      (g.R.Read.remaining c.loop-before.reader)
      (g.R.Read.remaining c.read_line.new.reader)
      _ c.read_line.new.line.items c.answer_line.new.text.items c.loop-before.invariant.going
      (rw c.in-Whole.is at c.in_ok-read_line.ensures.line) (search rules) (search rules);
  kept = search rules;
}

pub returns-clause-broken_off : goal.returns-clause-broken_off
returns-clause-broken_off g c =
    breaks_between g.P.Play.shows IsPlain c.loop-before.state
    (g.R.Read.remaining c.args.reader.now) _ _
    (g.R.Read.remaining c.loop-before.reader) _ c.loop-before.invariant.going (search rules)
