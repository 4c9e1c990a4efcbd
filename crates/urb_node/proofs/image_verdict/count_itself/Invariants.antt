use Rattle.urb_node.proofs.Common.{Label, acked, self_acks, take, ℕ, ◌||◌, ◌≡◌}
use Rattle.urb_node.proofs.image_verdict.count_itself.Given as goal

-- the node is counted for the names so far
abbrev pub invariant-loop-index : goal.invariant-loop-index
invariant-loop-index g l = record {
  limits : l.acks.limits ≡ l.fn.acks.limits;
  certified : l.acks.certified ≡ l.fn.acks.certified;
  counted : (x : Label) (q : ℕ)
      → acked l.acks.counted x q ≡ (acked (self_acks l.node (take l.index l.pending.pairs)) x q
      || acked l.fn.acks.counted x q);
}
