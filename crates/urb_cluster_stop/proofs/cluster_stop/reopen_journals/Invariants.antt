use Rattle.std.proofs.Common.{length, vec_capacity, vec_len, ◌++◌, ◌≡◌, ◌≤◌}
use Rattle.sqlite.specs.Files.{file_state}
use Rattle.urb_cluster_stop.specs.internal.ReopenedStores.{AreReopened}
use Rattle.urb_cluster_stop.proofs.cluster_stop.reopen_journals.Given as goal

-- the journals so far are opened again, and there is room for all
abbrev pub invariant-loop-journal : goal.invariant-loop-journal
invariant-loop-journal g l = record {
  all : l.fn.journals.items ≡ l.yielded ++ l.journal-iterator.rest.items;
  opened : AreReopened l.yielded l.again.items (λ j. file_state j.conn);
  count : vec_len l.again ≡ length l.yielded;
  room : length l.fn.journals.items ≤ vec_capacity l.again;
}
