use Rattle.urb_folder.proofs.Common.{AreOpened, IsFoundAt, OpensIn, Some, length, slice_get}
use Rattle.urb_folder.proofs.Common.{vec_capacity, ℕ, ◌≡◌, ◌≤◌}
use Rattle.urb_folder.proofs.parallel.open_in_order.Given as goal

-- the places so far are open, what was found at the others is still there, and there is room for
-- all
abbrev pub invariant-loop-place : goal.invariant-loop-place
invariant-loop-place g l =
    let held = g.D.NodeDisk.held in
    AreOpened (OpensIn _ held) l.place l.all.items
    × ((at : ℕ) (it : _) → l.place ≤ at → slice_get l.found at ≡ Some it
    → IsFoundAt (OpensIn _ held) at it)
    × (length l.found ≡ length l.fn.found) × (length l.fn.found ≤ vec_capacity l.all)
