use Rattle.urb_window.proofs.Common.{AreOver, IsSome, Some, ap, arith, counted_from, get_or}
use Rattle.urb_window.proofs.Common.{holds_at, length, length-set, nat_lt, numbered, pairs_of}
use Rattle.urb_window.proofs.Common.{prefix_len, refl, renumbered, rules, slice_set, subst, sym}
use Rattle.urb_window.proofs.Common.{true, ◌++◌, ◌+◌, ◌-◌, ◌<◌, ◌^◌, ◌∙◌, ◌≡◌, ◌≤◌}
use Rattle.urb_window.proofs.NumberedValues.{above_over, numbered_behind, numbered_low}
use Rattle.urb_window.proofs.BinarySearches.{holds_within}
use Rattle.urb_window.proofs.ReplacedValues.{IsFound, finds, over_renumbered, renumbered_behind}
use Rattle.urb_window.proofs.ReplacedValues.{renumbered_low, stands}
use Rattle.urb_window.proofs.PreservedRows.{roomy_as}
use Rattle.urb_window.proofs.window.Window.replace.Goals as goal

-- a value of the lower part
pub invariant_of-self : goal.invariant_of-self
invariant_of-self g c =
    let a = c.self.inside in
    let long : length (slice_set a.low.items (c.args.number - 1) c.replace.new.dest)
    ≡ length a.low.items = length-set a.low.items (c.args.number - 1) c.replace.new.dest in
    roomy_as a _
    (record {
      low = subst (λ n. n < 2 ^ 32) (sym long) c.self.invariant.row.low;
      above = subst (λ n. AreOver (n + 1) a.above.items) (sym long) c.self.invariant.row.above;
    })
    refl long refl (omega arith) refl (omega arith) c.self.invariant

pub returns-then-index-len-clause-old : goal.returns-then-index-len-clause-old
returns-then-index-len-clause-old g c =
    let low = c.self.inside.low.items in
    let above = c.self.inside.above.items in
    let n = c.args.number in
    let d = c.replace.result in
    let within : n < 1 + length low = search rules in
    let read : d ≡ get_or low (n - 1) d = search rules in
    sym (ap (λ r. numbered (pairs_of r) n) c.self.view_is)
    ∙ (numbered_low 1 low above n d c.requires.from within ∙ sym (ap (λ v. Some v) read))

pub returns-then-index-len-clause-new : goal.returns-then-index-len-clause-new
returns-then-index-len-clause-new g c =
    let low = c.self.inside.low.items in
    let above = c.self.inside.above.items in
    let n = c.args.number in
    let v = c.args.value in
    let put : c.replace.new.dest ≡ v = search rules in
    let within : n < 1 + length low = search rules in
    record {
      pairs =
          ap (λ w. counted_from 1 (slice_set low (n - 1) w) ++ above) put
          ∙ (sym (renumbered_low 1 low above n
          (length low + 1) v c.requires.from within c.self.invariant.row.above (omega arith))
          ∙ ap (λ r. renumbered (pairs_of r) n v) c.self.view_is);
      reserved = ap (λ r. r.reserved) c.self.view_is;
    }

pub place_of-place-requires : goal.place_of-place-requires
place_of-place-requires g c = above_over _ c.self.invariant.row

pub index_mut-requires-2 : goal.index_mut-requires-2
index_mut-requires-2 g c =
    let low = c.self.inside.low.items in
    let above = c.self.inside.above.items in
    let n = c.args.number in
    let behind : 1 + length low ≤ n = search rules in
    let there : numbered above n ≡ numbered (pairs_of c.args.self.now) n =
    sym (numbered_behind 1 low above n behind)
    ∙ ap (λ r. numbered (pairs_of r) n) c.self.view_is in
    let some : IsSome (numbered above n) = subst (λ o. IsSome o) (sym there) c.requires.present in
    let held : holds_at above (prefix_len (λ p. nat_lt p.0 n) above) n ≡ true =
    stands 0 above n (above_over _ c.self.invariant.row) some in
    let within : prefix_len (λ p. nat_lt p.0 n) above < length above =
    holds_within above (prefix_len (λ p. nat_lt p.0 n) above) n held in
    search rules

-- a value of the upper part
pub invariant_of-self-2 : goal.invariant_of-self-2
invariant_of-self-2 g c =
    let a = c.self.inside in
    let low = a.low.items in
    let above = a.above.items in
    let n = c.args.number in
    let d = c.index_mut-2.result.now in
    let w = c.replace-2.new.dest in
    let behind : 1 + length low ≤ n = search rules in
    let some : IsSome (numbered (counted_from 1 low ++ above) n) =
    subst (λ r. IsSome (numbered (pairs_of r) n)) (sym c.self.view_is) c.requires.present in
    let found : IsFound low above n w c.place_of-place.result d =
    finds low above n w c.place_of-place.result d
    (above_over _ c.self.invariant.row)
    behind some c.place_of-place.ensures.place c.index_mut-2.ensures.value in
    roomy_as a _
    (record {
      low = c.self.invariant.row.low;
      above =
          subst (AreOver (length low + 1)) (sym found.set)
          (over_renumbered (length low + 1) above n w c.self.invariant.row.above);
    })
    refl refl refl (omega arith) refl (omega arith) c.self.invariant

pub returns-clause-old : goal.returns-clause-old
returns-clause-old g c =
    let low = c.self.inside.low.items in
    let above = c.self.inside.above.items in
    let n = c.args.number in
    let d = c.index_mut-2.result.now in
    let behind : 1 + length low ≤ n = search rules in
    let some : IsSome (numbered (counted_from 1 low ++ above) n) =
    subst (λ r. IsSome (numbered (pairs_of r) n)) (sym c.self.view_is) c.requires.present in
    let found : IsFound low above n c.args.value c.place_of-place.result d =
    finds low above n c.args.value c.place_of-place.result d
    (above_over _ c.self.invariant.row)
    behind some c.place_of-place.ensures.place c.index_mut-2.ensures.value in
    sym (ap (λ r. numbered (pairs_of r) n) c.self.view_is)
    ∙ (found.old ∙ sym (ap (λ v. Some v) c.replace-2.ensures.value))

pub returns-clause-new : goal.returns-clause-new
returns-clause-new g c =
    let low = c.self.inside.low.items in
    let above = c.self.inside.above.items in
    let n = c.args.number in
    let v = c.args.value in
    let d = c.index_mut-2.result.now in
    let behind : 1 + length low ≤ n = search rules in
    let some : IsSome (numbered (counted_from 1 low ++ above) n) =
    subst (λ r. IsSome (numbered (pairs_of r) n)) (sym c.self.view_is) c.requires.present in
    let found : IsFound low above n v c.place_of-place.result d =
    finds low above n v c.place_of-place.result d
    (above_over _ c.self.invariant.row)
    behind some c.place_of-place.ensures.place c.index_mut-2.ensures.value in
    record {
      pairs =
          ap (λ w. counted_from 1 low ++ slice_set above c.place_of-place.result (d.0, w))
          c.replace-2.ensures.after
          ∙ (ap (λ ps. counted_from 1 low ++ ps) found.set
          ∙ (sym (renumbered_behind 1 low above n v behind)
          ∙ ap (λ r. renumbered (pairs_of r) n v) c.self.view_is));
      reserved = ap (λ r. r.reserved) c.self.view_is;
    }
