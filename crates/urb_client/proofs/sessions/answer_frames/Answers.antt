use Rattle.urb_client.proofs.Common.{MOST_FRAMES, arith, err_from_is_err_and, refl, rules, said_by}
use Rattle.urb_client.proofs.Common.{◌≡◌}
use Rattle.urb_client.proofs.SessionProgress.{breaks, broken_taken, going, no_frame_yet}
use Rattle.urb_client.proofs.SessionProgress.{not_answered, not_written, one_more, too_many}
use Rattle.urb_client.proofs.SessionProgress.{unwritten, whole_met, whole_refused}
use Rattle.urb_client.proofs.sessions.answer_frames.Goals as goal

pub returns-in-Broken-clause-ended : goal.returns-in-Broken-clause-ended
returns-in-Broken-clause-ended g c =
    let piece = rw c.in-Broken.is at c.in_ok-read_frame.ensures.piece in
    breaks g.D.Desk.answers (g.R.Read.remaining c.args.reader.now)
    _ _ _ _ _ _ _ _ (going g.D.Desk.answers _ _ _ _ _ _ _ c.loop.invariant.going) piece
    (rw c.refused-refused.ensures at c.in_ok-write_response-in-Broken.ensures.ok)

pub returns-in_err-write_response-in-Broken-clause-broken_off :
    goal.returns-in_err-write_response-in-Broken-clause-broken_off
returns-in_err-write_response-in-Broken-clause-broken_off g c =
    let p =
    err_from_is_err_and c.from_residual-in_err-write_response-in-Broken.result
    c.from_residual-in_err-write_response-in-Broken.ensures.1 in
    let piece = rw c.in-Broken.is at c.in_ok-read_frame.ensures.piece in
    rw (p.1, p.2) (not_written g.D.Desk.answers g.D.Desk.refuses
    (g.R.Read.remaining c.args.reader.now)
    c.in_err-write_response-in-Broken.field-0.0 _ _ _ _ _ _ _ _
    (going g.D.Desk.answers _ _ _ _ _ _ _ c.loop.invariant.going)
    (broken_taken _ _ _ _ piece refl)
    (unwritten g.W.Write.contents _ _ _ c.in_err-write_response-in-Broken.ensures.err))

pub returns-in_err-response-in-Whole-clause-broken_off :
    goal.returns-in_err-response-in-Whole-clause-broken_off
returns-in_err-response-in-Whole-clause-broken_off g c =
    let p =
    err_from_is_err_and c.from_residual-in_err-response-in-Whole.result
    c.from_residual-in_err-response-in-Whole.ensures.1 in
    let piece = rw c.in-Whole.is at c.in_ok-read_frame.ensures.piece in
    rw (p.1, p.2) (not_answered g.D.Desk.answers g.D.Desk.refuses
    (g.R.Read.remaining c.args.reader.now) _ _ _ c.respond.new.desk _ _ _ _
    (going g.D.Desk.answers _ _ _ _ _ _ _ c.loop.invariant.going)
    (whole_refused g.D.Desk.answers g.D.Desk.refuses _ c.respond.new.desk _ _ _ piece.2
    (search rules) (search rules) c.in_err-response-in-Whole.ensures.refused))

pub returns-in_err-write_response-in-Whole-clause-broken_off :
    goal.returns-in_err-write_response-in-Whole-clause-broken_off
returns-in_err-write_response-in-Whole-clause-broken_off g c =
    let p =
    err_from_is_err_and c.from_residual-in_err-write_response-in-Whole.result
    c.from_residual-in_err-write_response-in-Whole.ensures.1 in
    let piece = rw c.in-Whole.is at c.in_ok-read_frame.ensures.piece in
    rw (p.1, p.2) (not_written g.D.Desk.answers g.D.Desk.refuses
    (g.R.Read.remaining c.args.reader.now)
    c.in_err-write_response-in-Whole.field-0.0 _ _ _ _ _ _ _ _
    (going g.D.Desk.answers _ _ _ _ _ _ _ c.loop.invariant.going)
    (whole_met g.D.Desk.answers _ c.respond.new.desk _ _ _
    (said_by c.in_ok-response-in-Whole.response) piece.2 (search rules)
    (search rules) c.in_ok-response-in-Whole.ensures.answered)
    (unwritten g.W.Write.contents _ _ _ c.in_err-write_response-in-Whole.ensures.err))

pub loop-preserved : goal.loop-preserved
loop-preserved g c =
    let piece = rw c.in-Whole.is at c.in_ok-read_frame.ensures.piece in record {
      room = search rules;
      going =
          one_more g.D.Desk.answers _ (g.R.Read.remaining c.args.reader.now)
          _ _ _ _ _ _ _ _ _ _ c.loop.invariant.going piece.2 (search rules)
          (search rules) c.in_ok-response-in-Whole.ensures.answered
          c.in_ok-write_response-in-Whole.ensures.ok;
    }

pub loop-init : goal.loop-init
loop-init g c = record {
  room = refl;
  going = no_frame_yet g.D.Desk.answers _ _ _;
}

pub returns-clause-broken_off : goal.returns-clause-broken_off
returns-clause-broken_off g c =
    let all : c.loop.counter ≡ MOST_FRAMES =
    omega (arith, c.loop-test.false, c.loop.auto.counter-end) in
    too_many g.D.Desk.answers g.D.Desk.refuses _ _ _ _ _ _ (rw all at c.loop.invariant.going)
