use Rattle.urb_window.proofs.Common.{AreOver, HasRoom, None, Some, ap, arith, counted_from}
use Rattle.urb_window.proofs.Common.{deque_capacity, deque_len, length, number_lt, numbered}
use Rattle.urb_window.proofs.Common.{pairs_of, placed, refl, rules, subst, sym, ◌++◌, ◌+◌, ◌<◌, ◌^◌}
use Rattle.urb_window.proofs.Common.{◌∙◌, ◌≡◌, ◌≤◌}
use Rattle.std.proofs.Common.{vec_capacity, vec_len}
use Rattle.urb_window.proofs.NumberedValues.{above_over, numbered_behind}
use Rattle.urb_window.proofs.ElementPlaces.{absent_low, over_placed, placed_above}
use Rattle.urb_window.proofs.PreservedRows.{roomy_bigger, roomy_unreserved}
use Rattle.urb_window.proofs.window.Window.insert.Goals as goal

-- the lower part's allocation was refused
pub invariant_of-self : goal.invariant_of-self
invariant_of-self g c =
    let kept = c.in_err-extend.ensures in
    roomy_bigger c.self.inside _ refl kept.err.1 kept.room.0 kept.room.1
    (ap (λ q. q.items) kept.err.2) (ap (λ q. deque_len q) kept.err.2)
    (let same : deque_capacity c.extend.new.above ≡ deque_capacity c.self.inside.above =
    ap (λ q. deque_capacity q) kept.err.2 in omega arith) c.self.invariant

pub put_above-requires : goal.put_above-requires
put_above-requires g c = above_over _ c.self.invariant.row

pub returns-in_err-extend-clause-reserved : goal.returns-in_err-extend-clause-reserved
returns-in_err-extend-clause-reserved g c =
    λ same.
    let a = c.self.inside in
    let reserved : a.reserved ≡ Some c.args.number = ap (λ r. r.reserved) c.self.view_is ∙ same in
    let room : HasRoom a c.args.number = c.self.invariant.room c.args.number reserved in
    let next : c.args.number ≡ length a.low.items + 1 = search rules in
    let enough : vec_len a.low + deque_len a.above + 1 ≤ vec_capacity a.low = room.next next in
    let ok = c.extend.ensures.roomy enough in
    search rules

-- the upper part's allocation was refused
pub invariant_of-self-in_err-put_above : goal.invariant_of-self-in_err-put_above
invariant_of-self-in_err-put_above g c =
    let kept = c.in_err-put_above.ensures in
    roomy_bigger c.self.inside _ refl refl refl
    (omega arith) kept.err.1 kept.err.2 kept.err.3 c.self.invariant

pub returns-in_err-put_above-clause-reserved : goal.returns-in_err-put_above-clause-reserved
returns-in_err-put_above-clause-reserved g c =
    λ same.
    let a = c.self.inside in
    let reserved : a.reserved ≡ Some c.args.number = ap (λ r. r.reserved) c.self.view_is ∙ same in
    let room : HasRoom a c.args.number = c.self.invariant.room c.args.number reserved in
    let other : c.args.number ≡ length a.low.items + 1 → ⊥ = search rules in
    let enough : deque_len a.above < deque_capacity a.above = room.other other in
    let ok = c.put_above.ensures.roomy enough in
    search rules

pub invariant_of-self-2 : goal.invariant_of-self-2
invariant_of-self-2 g c =
    let a = c.self.inside in
    let low = a.low.items in
    let above = a.above.items in
    let n = c.args.number in
    let absent : numbered (counted_from 1 low ++ above) n ≡ None =
    ap (λ r. numbered (pairs_of r) n) c.self.view_is ∙ c.requires.absent in
    let behind : 1 + length low ≤ n = absent_low 1 low above n c.requires.from absent in
    let other : n ≡ length low + 1 → ⊥ = search rules in
    let none : numbered above n ≡ None = sym (numbered_behind 1 low above n behind) ∙ absent in
    let fits : n < 2 ^ 32 = c.ranges.number.fits in
    let over : AreOver (length low + 1) (placed number_lt above (n, c.args.value)) =
    over_placed (length low + 1) above n c.args.value
    (omega arith) fits none c.self.invariant.row.above in
    roomy_unreserved _ (record {
      low = c.self.invariant.row.low;
      above =
          subst (AreOver (length low + 1)) (sym c.in_ok-put_above.ensures.ok) over;
    }) refl

pub returns-clause-ok : goal.returns-clause-ok
returns-clause-ok g c =
    let a = c.self.inside in
    let low = a.low.items in
    let above = a.above.items in
    let n = c.args.number in
    let v = c.args.value in
    let absent : numbered (counted_from 1 low ++ above) n ≡ None =
    ap (λ r. numbered (pairs_of r) n) c.self.view_is ∙ c.requires.absent in
    let behind : 1 + length low ≤ n = absent_low 1 low above n c.requires.from absent in
    record {
      pairs =
          ap (λ ps. counted_from 1 low ++ ps) c.in_ok-put_above.ensures.ok
          ∙ (sym (placed_above 1 low above n v behind)
          ∙ ap (λ r. placed number_lt (pairs_of r) (n, v)) c.self.view_is);
      reserved = refl;
    }
