use Rattle.urb_script.proofs.LogTexts.{log_told}
use Rattle.urb_script.proofs.mem_cluster.MemCluster.push_log.Goals as goal

pub returns-in_ok-push_log_head-in-Some : goal.returns-in_ok-push_log_head-in-Some
returns-in_ok-push_log_head-in-Some g c =
    log_told c.push_entries.result c.args.self.now.cluster.group c.args.node c.in-Some.names.now
    c.args.text.now.items c.push_log_head.new.text.items c.push_entries.new.text.items
    (rw c.group.ensures.value at c.in-Some.ensures)
    c.in_ok-push_log_head-in-Some.ensures c.push_entries.ensures
