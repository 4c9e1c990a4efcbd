use Rattle.urb_sqlite.proofs.Common.{HasCleanDisk, IsFoundIn, IsHonestJournal, Some, file_state}
use Rattle.urb_sqlite.proofs.Common.{records_of, slice_get, suc, vec_capacity, vec_len, ℕ, ◌≡◌, ◌≤◌}
use Rattle.urb_sqlite.proofs.node_journals.open_nodes.Given as goal

-- there is a journal for each node so far, and room for all
abbrev pub invariant-loop : goal.invariant-loop
invariant-loop g l = record {
  count : vec_len l.journals ≡ l.counter;
  given : l.claims ≡ l.counter;
  room : l.n ≤ vec_capacity l.journals;
  found : (i : ℕ) (journal : _) → slice_get l.journals.items i ≡ Some journal
      → IsFoundIn (g.D.NodeDisk.held (suc i))
      (HasCleanDisk (file_state journal.conn)) (IsHonestJournal (file_state journal.conn))
      (records_of (file_state journal.conn).now);
}
