use Rattle.std.proofs.Common.{◌≡◌, rules, arith, inr, length, take, length-take-le}
use Rattle.urb_client.proofs.FramePieces.{Length, bad_length, cut_inside, whole_frame, part_inside}
use Rattle.urb_client.proofs.FramePieces.{on_err}
use Rattle.urb_client.proofs.sessions.read_frame.Goals as goal

pub returns-then-len-gt-LONGEST_REQUEST-clause-piece :
    goal.returns-then-len-gt-LONGEST_REQUEST-clause-piece
returns-then-len-gt-LONGEST_REQUEST-clause-piece g c =
    let header : Length c.read_full.new.buffer c.in_ok-got.got c.length_of-len.result =
    record {
      two = search rules;
      within = c.in_ok-got.ensures.bound;
      some =
          c.if-got-eq0.false;
      more = c.if-got-eq1.false;
      says = c.length_of-len.ensures;
      below =
          search rules;
    } in
    bad_length _ _ _ _ _ header c.in_ok-got.ensures.bytes (inr c.if-len-gt-LONGEST_REQUEST.true)

pub returns-in_err-got-2-clause-err : goal.returns-in_err-got-2-clause-err
returns-in_err-got-2-clause-err g c =
    let header : Length c.read_full.new.buffer c.in_ok-got.got c.length_of-len.result =
    record {
      two = search rules;
      within = c.in_ok-got.ensures.bound;
      some =
          c.if-got-eq0.false;
      more = c.if-got-eq1.false;
      says = c.length_of-len.ensures;
      below =
          search rules;
    } in
    let len : length (take c.length_of-len.result c.args.body.now) ≡ c.length_of-len.result =
    length-take-le _ _ (omega (arith, c.if-len-gt-LONGEST_REQUEST.false, c.requires)) in
    on_err _ _ (part_inside _ _ _ _ _ _ header c.in_ok-got.ensures.bytes c.if-len-eq0.false
    c.if-len-gt-LONGEST_REQUEST.false (rw len at c.in_err-got-2.ensures.err))

pub returns-then-got-len-clause-piece : goal.returns-then-got-len-clause-piece
returns-then-got-len-clause-piece g c =
    let header : Length c.read_full.new.buffer c.in_ok-got.got c.length_of-len.result =
    record {
      two = search rules;
      within = c.in_ok-got.ensures.bound;
      some =
          c.if-got-eq0.false;
      more = c.if-got-eq1.false;
      says = c.length_of-len.ensures;
      below =
          search rules;
    } in
    cut_inside _ _ _ _ _ _ _ _ header c.in_ok-got.ensures.bytes c.in_ok-got-2.ensures.bytes
    (c.in_ok-got-2.ensures.end (search rules))
    c.if-len-eq0.false c.if-len-gt-LONGEST_REQUEST.false c.if-got-len.true

pub returns-clause-piece : goal.returns-clause-piece
returns-clause-piece g c =
    let header : Length c.read_full.new.buffer c.in_ok-got.got c.length_of-len.result =
    record {
      two = search rules;
      within = c.in_ok-got.ensures.bound;
      some =
          c.if-got-eq0.false;
      more = c.if-got-eq1.false;
      says = c.length_of-len.ensures;
      below =
          search rules;
    } in (
      omega (arith, c.if-len-eq0.false),
      c.if-len-gt-LONGEST_REQUEST.false,
      whole_frame _ _ _ _ _ _ _ _ _ header c.in_ok-got.ensures.bytes c.in_ok-got-2.ensures.bytes
          (search rules) (search rules),
    )
