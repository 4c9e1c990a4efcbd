use Rattle.urb_script.proofs.Common.{All-push, empty_memory, rules, ◌≡◌}
use Rattle.urb_script.proofs.mem_cluster.make_stores.Goals as goal

pub loop-preserved : goal.loop-preserved
loop-preserved g c = record {
  made = search rules;
  blank =
      rw c.in_ok-push.ensures.items
      (All-push (λ m. m ≡ empty_memory)
      c.loop.stores.items c.new.result c.loop.invariant.blank c.new.ensures);
}
