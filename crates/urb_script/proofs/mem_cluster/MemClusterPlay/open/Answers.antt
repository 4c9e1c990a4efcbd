use Rattle.std.proofs.Common.{◌∙◌}
use Rattle.urb_script.proofs.ClusterAnswers.{opens}
use Rattle.urb_script.proofs.mem_cluster.MemClusterPlay.open.Goals as goal

pub returns-clause-shown : goal.returns-clause-shown
returns-clause-shown g c =
    opens c.args.config c.in-Ok.cluster c.in_ok-stores.stores.items c.args.text.now.items
    c.push_told.new.text.items c.in-Ok.ensures.started.0 c.in-Ok.ensures.started.1
    c.in_ok-stores.ensures.1 (c.in_ok-stores.ensures.0 ∙ c.n.ensures.value)
    c.requires c.in_ok-push_told.ensures
