-- The node of an event that is not refused is one of the House's group.
use Rattle.urb_turn.proofs.Common.{ComesUp, Commit, Commits, Done, Entry, GroupView, IsSound, List}
use Rattle.urb_turn.proofs.Common.{Ok, Placed, Restart, Stored, Up, arith, ℕ, ◌≡◌, ◌≤◌}
use Rattle.urb_group.proofs.calls.DraftsInCalls.{node-bounds, steps-node}

-- the node of a receipt that is not refused is at most the number of nodes
pub committed_node : (old new : GroupView) (receipt : Placed) (done : Done) (n : ℕ) → IsSound old
    → old.size.n ≡ n → Commits old receipt (Ok done) new → receipt.node ≤ n
committed_node old new receipt done n sound size h =
    let bounds =
    node-bounds old.size.n receipt.node
    (steps-node old new (Commit receipt.node receipt.pos receipt.entry) (Stored done) sound h
    (λ r f. cc)) in
    let high : receipt.node ≤ old.size.n = bounds.1 in
    omega arith

-- the node of a restart that is not refused is at most the number of nodes
pub restarted_node : (old new : GroupView) (p : ℕ) (image : List Entry) (n : ℕ) → IsSound old
    → old.size.n ≡ n → ComesUp old p (Restart p image) (Ok tt) new → p ≤ n
restarted_node old new p image n sound size h =
    let bounds =
    node-bounds old.size.n p (steps-node old new (Restart p image) (Up p) sound h (λ r f. cc))
    in
    let high : p ≤ old.size.n = bounds.1 in
    omega arith
