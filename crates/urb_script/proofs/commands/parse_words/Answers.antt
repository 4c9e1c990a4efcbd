use Rattle.urb_script.proofs.Common.{codes, words_left, ◌≡◌}
use Rattle.urb_script.proofs.Spellings.{none_arrive, none_arrive_flagged, none_fail, none_group}
use Rattle.urb_script.proofs.Spellings.{none_held, none_other, none_raw, none_reopen, none_submit}
use Rattle.urb_script.proofs.Spellings.{not_word, some_as}
use Rattle.urb_script.proofs.commands.parse_words.Goals as goal

pub returns-then-is_word : goal.returns-then-is_word
returns-then-is_word c =
    let e : c.args.word.now ≡ codes "group" = c.is_word.ensures.0 c.if-is_word.true in
    record {
      some =
          some_as c.parse_group.result c.args.word.now (codes "group") (words_left c.args.rest) e
          c.parse_group.ensures.some;
      none =
          none_group c.parse_group.result c.args.word.now (words_left c.args.rest) e
          c.parse_group.ensures.none;
    }

pub returns-then-is_word-2 : goal.returns-then-is_word-2
returns-then-is_word-2 c =
    let e : c.args.word.now ≡ codes "submit" = c.is_word-2.ensures.0 c.if-is_word-2.true in
    record {
      some =
          some_as c.parse_submit.result c.args.word.now (codes "submit") (words_left c.args.rest) e
          c.parse_submit.ensures.some;
      none =
          none_submit c.parse_submit.result c.args.word.now (words_left c.args.rest) e
          c.parse_submit.ensures.none;
    }

pub returns-then-is_word-3 : goal.returns-then-is_word-3
returns-then-is_word-3 c =
    let e : c.args.word.now ≡ codes "fail" = c.is_word-3.ensures.0 c.if-is_word-3.true in
    record {
      some =
          some_as c.parse_fail.result c.args.word.now (codes "fail") (words_left c.args.rest) e
          c.parse_fail.ensures.some;
      none =
          none_fail c.parse_fail.result c.args.word.now (words_left c.args.rest) e
          c.parse_fail.ensures.none;
    }

pub returns-then-is_word-4 : goal.returns-then-is_word-4
returns-then-is_word-4 c =
    let e : c.args.word.now ≡ codes "reopen" = c.is_word-4.ensures.0 c.if-is_word-4.true in
    record {
      some =
          some_as c.parse_reopen.result c.args.word.now (codes "reopen") (words_left c.args.rest) e
          c.parse_reopen.ensures.some;
      none =
          none_reopen c.parse_reopen.result c.args.word.now (words_left c.args.rest) e
          c.parse_reopen.ensures.none;
    }

pub returns-then-is_word-5 : goal.returns-then-is_word-5
returns-then-is_word-5 c =
    let e : c.args.word.now ≡ codes "arrive" = c.is_word-5.ensures.0 c.if-is_word-5.true in
    record {
      some =
          some_as c.parse_arrive.result c.args.word.now (codes "arrive") (words_left c.args.rest) e
          c.parse_arrive.ensures.some;
      none =
          none_arrive c.parse_arrive.result c.args.word.now (words_left c.args.rest) e
          c.parse_arrive.ensures.none;
    }

pub returns-then-is_word-6 : goal.returns-then-is_word-6
returns-then-is_word-6 c =
    let e : c.args.word.now ≡ codes "arrive2" = c.is_word-6.ensures.0 c.if-is_word-6.true in
    record {
      some =
          some_as c.parse_arrive_flagged.result c.args.word.now (codes "arrive2") (words_left c.args.rest) e
          c.parse_arrive_flagged.ensures.some;
      none =
          none_arrive_flagged c.parse_arrive_flagged.result c.args.word.now (words_left c.args.rest) e
          c.parse_arrive_flagged.ensures.none;
    }

pub returns-then-is_word-7 : goal.returns-then-is_word-7
returns-then-is_word-7 c =
    let e : c.args.word.now ≡ codes "raw" = c.is_word-7.ensures.0 c.if-is_word-7.true in
    record {
      some =
          some_as c.parse_raw.result c.args.word.now (codes "raw") (words_left c.args.rest) e
          c.parse_raw.ensures.some;
      none =
          none_raw c.parse_raw.result c.args.word.now (words_left c.args.rest) e
          c.parse_raw.ensures.none;
    }

pub returns-then-is_word-8 : goal.returns-then-is_word-8
returns-then-is_word-8 c =
    let e : c.args.word.now ≡ codes "held" = c.is_word-8.ensures.0 c.if-is_word-8.true in
    record {
      some =
          some_as c.parse_held.result c.args.word.now (codes "held") (words_left c.args.rest) e
          c.parse_held.ensures.some;
      none =
          none_held c.parse_held.result c.args.word.now (words_left c.args.rest) e
          c.parse_held.ensures.none;
    }

pub returns-clause-none : goal.returns-clause-none
returns-clause-none c =
    none_other c.parse_node_command.result c.args.word.now (words_left c.args.rest)
    (record {
      group =
          not_word c.is_word.result (c.args.word.now ≡ codes "group") c.is_word.ensures
          c.if-is_word.false;
      submit =
          not_word c.is_word-2.result (c.args.word.now ≡ codes "submit") c.is_word-2.ensures
          c.if-is_word-2.false;
      fail =
          not_word c.is_word-3.result (c.args.word.now ≡ codes "fail") c.is_word-3.ensures
          c.if-is_word-3.false;
      reopen =
          not_word c.is_word-4.result (c.args.word.now ≡ codes "reopen") c.is_word-4.ensures
          c.if-is_word-4.false;
      arrive =
          not_word c.is_word-5.result (c.args.word.now ≡ codes "arrive") c.is_word-5.ensures
          c.if-is_word-5.false;
      arrive_flagged =
          not_word c.is_word-6.result (c.args.word.now ≡ codes "arrive2") c.is_word-6.ensures
          c.if-is_word-6.false;
      raw =
          not_word c.is_word-7.result (c.args.word.now ≡ codes "raw") c.is_word-7.ensures
          c.if-is_word-7.false;
      held =
          not_word c.is_word-8.result (c.args.word.now ≡ codes "held") c.is_word-8.ensures
          c.if-is_word-8.false;
    })
    c.parse_node_command.ensures.none
