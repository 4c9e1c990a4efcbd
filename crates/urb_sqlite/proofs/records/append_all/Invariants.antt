use Rattle.std.proofs.Common.{◌++◌, ◌≡◌}
use Rattle.urb_sqlite.proofs.records.append_all.Given as goal

-- those appended so far come after the first list
abbrev pub invariant-loop-record : goal.invariant-loop-record
invariant-loop-record l = record {
  all : l.fn.more.items ≡ l.yielded ++ l.record-iterator.rest.items;
  grown : l.records.items ≡ l.fn.records.items ++ l.yielded;
}
