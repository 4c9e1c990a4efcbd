use Rattle.urb_window.proofs.Common.{Some, ap, false, get_or, holds_at, length, nat_lt, numbered}
use Rattle.urb_window.proofs.Common.{pairs_of, prefix_len, rules, sym, true, ◌+◌, ◌-◌, ◌<◌, ◌∙◌}
use Rattle.urb_window.proofs.Common.{◌≡◌, ◌≤◌}
use Rattle.urb_window.proofs.NumberedValues.{above_over, numbered_behind, numbered_low}
use Rattle.urb_window.proofs.BinarySearches.{holds_within, numbered_absent, numbered_found}
use Rattle.urb_window.proofs.window.Window.get.Goals as goal

pub place_of-place-requires : goal.place_of-place-requires
place_of-place-requires g c = above_over _ c.self.invariant.row

pub returns-then-index-len : goal.returns-then-index-len
returns-then-index-len g c =
    let low = c.self.inside.low.items in
    let above = c.self.inside.above.items in
    let n = c.args.number in
    let d = c.index.result.now in
    let within : n < 1 + length low = search rules in
    let read : d ≡ get_or low (n - 1) d = search rules in
    ap (λ v. Some v) read ∙ (sym (numbered_low 1 low above n d c.requires within)
    ∙ ap (λ r. numbered (pairs_of r) n) c.self.view_is)

pub index-requires-then-is_at : goal.index-requires-then-is_at
index-requires-then-is_at g c =
    let above = c.self.inside.above.items in
    let held : holds_at above c.place_of-place.result c.args.number ≡ true = search rules in
    let within : c.place_of-place.result < length above =
    holds_within above c.place_of-place.result c.args.number held in
    search rules

pub returns-then-is_at : goal.returns-then-is_at
returns-then-is_at g c =
    let low = c.self.inside.low.items in
    let above = c.self.inside.above.items in
    let n = c.args.number in
    let d = c.index-then-is_at.result.now in
    let place : c.place_of-place.result ≡ prefix_len (λ p. nat_lt p.0 n) above = search rules in
    let held : holds_at above (prefix_len (λ p. nat_lt p.0 n) above) n ≡ true =
    ap (λ i. holds_at above i n) (sym place) ∙ search rules in
    let read : d ≡ get_or above (prefix_len (λ p. nat_lt p.0 n) above) d = search rules in
    let behind : 1 + length low ≤ n = search rules in
    ap (λ p. Some p.1) read
    ∙ (sym (numbered_found above n d held)
    ∙ (sym (numbered_behind 1 low above n behind)
    ∙ ap (λ r. numbered (pairs_of r) n) c.self.view_is))

pub returns : goal.returns
returns g c =
    let low = c.self.inside.low.items in
    let above = c.self.inside.above.items in
    let n = c.args.number in
    let place : c.place_of-place.result ≡ prefix_len (λ p. nat_lt p.0 n) above = search rules in
    let missed : holds_at above (prefix_len (λ p. nat_lt p.0 n) above) n ≡ false =
    ap (λ i. holds_at above i n) (sym place) ∙ search rules in
    let behind : 1 + length low ≤ n = search rules in
    sym (numbered_absent 0 above n (above_over _ c.self.invariant.row) missed)
    ∙ (sym (numbered_behind 1 low above n behind)
    ∙ ap (λ r. numbered (pairs_of r) n) c.self.view_is)
