use Rattle.urb_group.proofs.Common.{drop, length, of_client, own, pend, ◌+◌, ◌≡◌, ◌≤◌}
use Rattle.urb_group.proofs.tail_records.count_own.Given as goal

-- what was counted, and what is left, are all
abbrev pub invariant-loop-entry : goal.invariant-loop-entry
invariant-loop-entry g l =
    record {
      all : l.own + length (own l.node (pend (drop l.entry-index l.records)))
          ≡ length (own l.node (pend l.records));
      ours : l.of_client + of_client l.client (own l.node (pend (drop l.entry-index l.records)))
          ≡ of_client l.client (own l.node (pend l.records));
      few : l.own ≤ l.entry-index;
      fewer : l.of_client ≤ l.entry-index;
    }
