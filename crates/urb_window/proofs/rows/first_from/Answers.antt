use Rattle.urb_window.proofs.Common.{None, Some, ap, arith, length, name, option_map, pairs_of}
use Rattle.urb_window.proofs.Common.{rules, slice_get, sym, ◌<◌, ◌∙◌, ◌≡◌}
use Rattle.urb_window.proofs.NumberedValues.{pairs_over}
use Rattle.urb_window.proofs.RemainingEntries.{first_within, no_first, pair_over}
use Rattle.urb_window.proofs.rows.first_from.Goals as goal

pub invariant_of-result : goal.invariant_of-result
invariant_of-result g c =
    let row = c.index-rows-i.result in
    let got : slice_get (pairs_of row) 0 ≡ Some (c.in-Some.seq, c.in-Some.field-0-1.now) =
    sym c.in-Some.ensures in
    pair_over 0 (pairs_of row) 0 (c.in-Some.seq, c.in-Some.field-0-1.now)
    (pairs_over row c.recall.ensures) got

pub returns-in-Some : goal.returns-in-Some
returns-in-Some g c =
    let rows = c.args.rows.now in
    let i = c.loop-i.i in
    let row = c.index-rows-i.result in
    let within : i < length rows = search rules in
    let got : slice_get (pairs_of row) 0 ≡ Some (c.in-Some.seq, c.in-Some.field-0-1.now) =
    sym c.in-Some.ensures in
    ap (λ s. Some (name s c.in-Some.seq)) c.sender_at-sender.ensures
    ∙ ap (option_map (λ entry. entry.0))
    (sym (first_within rows i row
    (c.in-Some.seq, c.in-Some.field-0-1.now) within c.index-rows-i.is got)
    ∙ c.loop-i.invariant.first)

pub loop-i-preserved : goal.loop-i-preserved
loop-i-preserved g c =
    let rows = c.args.rows.now in
    let i = c.loop-i.i in
    let row = c.index-rows-i.result in
    let within : i < length rows = search rules in
    let got : slice_get (pairs_of row) 0 ≡ None = search rules in
    record {
      from = omega (arith, c.loop-i.invariant.from);
      first =
          sym (no_first rows i row within c.index-rows-i.is got) ∙ c.loop-i.invariant.first;
    }
