use Rattle.urb_window.proofs.Common.{Some, ap, length, name, option_map, pairs_of, rules, slice_get}
use Rattle.urb_window.proofs.Common.{sym, ◌+◌, ◌-◌, ◌<◌, ◌∙◌, ◌≡◌, ◌≤◌}
use Rattle.urb_window.proofs.NumberedValues.{pairs_over}
use Rattle.urb_window.proofs.RemainingEntries.{entries_at, entry_behind, entry_within, pair_over}
use Rattle.urb_window.proofs.rows.entry_of.Goals as goal

pub invariant_of-result : goal.invariant_of-result
invariant_of-result g c =
    let row = c.index-rows-i.result in
    let got : slice_get (pairs_of row) c.loop-i.left ≡ Some
    (c.in_ok-seq.seq, c.in_ok-seq.value.now) = sym c.in_ok-seq.ensures in
    pair_over 0 (pairs_of row) c.loop-i.left (c.in_ok-seq.seq, c.in_ok-seq.value.now)
    (pairs_over row c.recall.ensures) got

pub returns-then-left-count : goal.returns-then-left-count
returns-then-left-count g c =
    let rows = c.args.rows.now in
    let i = c.loop-i.i in
    let j = c.loop-i.left in
    let row = c.index-rows-i.result in
    let within : i < length rows = search rules in
    let few : j < length (pairs_of row) = search rules in
    let got : slice_get (pairs_of row) j ≡ Some (c.in_ok-seq.seq, c.in_ok-seq.value.now) =
    sym c.in_ok-seq.ensures in
    ap (λ s. Some (name s c.in_ok-seq.seq, c.in_ok-seq.value.now)) c.sender_at-sender.ensures
    ∙ (sym (entry_within rows i row j within c.index-rows-i.is few
    ∙ ap (option_map (λ p. (name (i + 1) p.0, p.1))) got) ∙ c.loop-i.invariant)

pub loop-i-preserved : goal.loop-i-preserved
loop-i-preserved g c =
    let rows = c.args.rows.now in
    let i = c.loop-i.i in
    let j = c.loop-i.left in
    let row = c.index-rows-i.result in
    let within : i < length rows = search rules in
    let behind : length (pairs_of row) ≤ j = search rules in
    let count : c.count-count.result ≡ length (pairs_of row) = c.count-count.ensures.value in
    ap (λ n. slice_get (entries_at (i + 1) rows) (j - n)) count
    ∙ (sym (entry_behind rows i row j within c.index-rows-i.is behind) ∙ c.loop-i.invariant)
