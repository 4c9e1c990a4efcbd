use Rattle.urb_window.proofs.Common.{Some, ap, arith, find, get_or, length, nat_lt, option_map}
use Rattle.urb_window.proofs.Common.{pairs_of, prefix_len, rules, slice_get, slice_get-get_or}
use Rattle.urb_window.proofs.Common.{slice_get_past, suc, sym, ◌+◌, ◌<◌, ◌^◌, ◌∙◌, ◌≡◌, ◌≤◌}
use Rattle.urb_window.proofs.NumberedValues.{above_over, after_behind, after_low, after_none}
use Rattle.urb_window.proofs.NumberedValues.{after_place, pairs_over}
use Rattle.urb_window.proofs.window.Window.after.Goals as goal

pub place_of-requires : goal.place_of-requires
place_of-requires g c = above_over _ c.self.invariant.row

pub returns-then-number-len : goal.returns-then-number-len
returns-then-number-len g c =
    let low = c.self.inside.low.items in
    let above = c.self.inside.above.items in
    let n = c.args.number in
    let within : suc n < 1 + length low = search rules in
    let next : n + 1 ≡ suc n = omega arith in
    ap (λ i. Some i) next ∙ (sym (after_low 1 low above n (omega arith) within)
    ∙ ap (λ r. option_map (λ pair. pair.0) (find (λ pair. nat_lt n pair.0) (pairs_of r)))
    c.self.view_is)

pub returns-then-number-eq4294967295 : goal.returns-then-number-eq4294967295
returns-then-number-eq4294967295 g c =
    let n = c.args.number in
    let last : 2 ^ 32 ≤ suc n = search rules in
    sym (ap (option_map (λ pair. pair.0))
    (after_none 0 _ n (pairs_over _ c.self.invariant.row) last))
    ∙ ap (λ r. option_map (λ pair. pair.0) (find (λ pair. nat_lt n pair.0) (pairs_of r)))
    c.self.view_is

pub returns-in-Some : goal.returns-in-Some
returns-in-Some g c =
    let low = c.self.inside.low.items in
    let above = c.self.inside.above.items in
    let n = c.args.number in
    let d = c.in-Some.pair.now in
    let behind : 1 + length low ≤ suc n = search rules in
    let next : n + 1 ≡ suc n = omega arith in
    let place : c.place_of.result ≡ prefix_len (λ p. nat_lt p.0 (suc n)) above =
    c.place_of.ensures.place ∙ ap (λ i. prefix_len (λ p. nat_lt p.0 i) above) next in
    let within : c.place_of.result < length above = search rules in
    let read : d ≡ get_or above c.place_of.result d = search rules in
    ap (λ p. Some p.0) read
    ∙ (ap (option_map (λ pair. pair.0))
    (sym (slice_get-get_or above c.place_of.result d within)
    ∙ (ap (slice_get above) place
    ∙ (sym (after_place above n) ∙ sym (after_behind 1 low above n behind))))
    ∙ ap (λ r. option_map (λ pair. pair.0) (find (λ pair. nat_lt n pair.0) (pairs_of r)))
    c.self.view_is)

pub returns-in-None : goal.returns-in-None
returns-in-None g c =
    let low = c.self.inside.low.items in
    let above = c.self.inside.above.items in
    let n = c.args.number in
    let behind : 1 + length low ≤ suc n = search rules in
    let next : n + 1 ≡ suc n = omega arith in
    let place : c.place_of.result ≡ prefix_len (λ p. nat_lt p.0 (suc n)) above =
    c.place_of.ensures.place ∙ ap (λ i. prefix_len (λ p. nat_lt p.0 i) above) next in
    let beyond : length above ≤ c.place_of.result = search rules in
    ap (option_map (λ pair. pair.0))
    (sym (slice_get_past above c.place_of.result beyond)
    ∙ (ap (slice_get above) place
    ∙ (sym (after_place above n) ∙ sym (after_behind 1 low above n behind))))
    ∙ ap (λ r. option_map (λ pair. pair.0) (find (λ pair. nat_lt n pair.0) (pairs_of r)))
    c.self.view_is
