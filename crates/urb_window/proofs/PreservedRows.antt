-- A row preserves its order and its space.
use Rattle.urb_window.proofs.Common.{AreOver, HasRoom, IsRow, List, None, ap, arith, deque_capacity}
use Rattle.urb_window.proofs.Common.{deque_len, length, subst, sym, ℕ, ◌+◌, ◌<◌, ◌^◌, ◌∙◌, ◌≡◌, ◌≤◌}
use Rattle.std.specs.Vec.{vec_capacity, vec_len}
use Rattle.urb_window.specs.internal.RowInvariant.{IsRoomy, row_of}
use Rattle.urb_window.specs.declared.window.Window.TheInside.{Inside}

module _ {T A : Type 0} where
  same_row : (a b : Inside T A) → b.low.items ≡ a.low.items → b.above.items ≡ a.above.items
      → IsRow (row_of a) → IsRow (row_of b)
  same_row a b low above row = record {
    low = subst (λ (vs : List T). length vs < 2 ^ 32) (sym low) row.low;
    above =
        subst (λ (vs : List T). AreOver (length vs + 1) b.above.items) (sym low)
        (subst (λ (ps : List (ℕ × T)). AreOver (length a.low.items + 1) ps) (sym above) row.above);
  }

  -- a row keeps its promised space if its parts are as long as before, and have no less space
  pub roomy_as : (a b : Inside T A) → IsRow (row_of b) → b.reserved ≡ a.reserved
      → length b.low.items ≡ length a.low.items → vec_len b.low ≡ vec_len a.low
      → vec_capacity a.low ≤ vec_capacity b.low
      → deque_len b.above ≡ deque_len a.above → deque_capacity a.above ≤ deque_capacity b.above
      → IsRoomy a → IsRoomy b
  roomy_as a b row reserved low low_len low_room above_len above_room roomy = record {
    row = row;
    room = λ n e.
        let room : HasRoom a n = roomy.room n (sym reserved ∙ e) in
        record {
          next =
              λ f. let old : vec_len a.low + deque_len a.above + 1 ≤ vec_capacity a.low =
              room.next (f ∙ ap (λ (k : ℕ). k + 1) low) in omega arith;
          other =
              λ f. let old : deque_len a.above < deque_capacity a.above =
              room.other (λ h. f (h ∙ sym (ap (λ (k : ℕ). k + 1) low))) in omega arith;
        };
  }

  -- a row keeps its promised space if only the capacities grow
  pub roomy_bigger : (a b : Inside T A) → b.reserved ≡ a.reserved
      → b.low.items ≡ a.low.items → vec_len b.low ≡ vec_len a.low
      → vec_capacity a.low ≤ vec_capacity b.low
      → b.above.items ≡ a.above.items → deque_len b.above ≡ deque_len a.above
      → deque_capacity a.above ≤ deque_capacity b.above
      → IsRoomy a → IsRoomy b
  roomy_bigger a b reserved low low_len low_room above above_len above_room roomy =
      roomy_as a b (same_row a b low above roomy.row) reserved
      (ap (λ (vs : List T). length vs) low) low_len low_room above_len above_room roomy

  -- a row that promises no space meets its invariant if it is well formed
  pub roomy_unreserved : (a : Inside T A) → IsRow (row_of a) → a.reserved ≡ None → IsRoomy a
  roomy_unreserved a row none = record { row = row; room = λ n e. absurd cc }
