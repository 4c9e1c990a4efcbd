use Rattle.urb_script.proofs.LogTexts.{tells_yes, tells_no}
use Rattle.urb_script.proofs.mem_cluster.MemCluster.push_if_holder.Goals as goal

pub returns-then-holds : goal.returns-then-holds
returns-then-holds g c =
    tells_yes c.push_holder.result c.args.self.now.cluster.group c.args.node c.args.name
    c.holds.result c.args.text.now.items c.push_holder.new.text.items
    (rw c.group.ensures.value at c.holds.ensures) c.if-holds.true c.push_holder.ensures

pub returns : goal.returns
returns g c =
    tells_no c.args.self.now.cluster.group c.args.node c.args.name c.holds.result
    c.args.text.now.items (rw c.group.ensures.value at c.holds.ensures) c.if-holds.false
