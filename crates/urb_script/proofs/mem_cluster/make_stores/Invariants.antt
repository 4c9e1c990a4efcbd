use Rattle.urb_script.proofs.Common.{All, empty_memory, length, ◌≡◌}
use Rattle.urb_script.proofs.mem_cluster.make_stores.Given as goal

-- as many new stores as were made
abbrev pub invariant-loop : goal.invariant-loop
invariant-loop g l = record {
  made : length l.stores.items ≡ l.counter;
  blank : All (λ m. m ≡ empty_memory) l.stores.items;
}
