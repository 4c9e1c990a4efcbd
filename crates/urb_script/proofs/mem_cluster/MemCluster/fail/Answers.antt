use Rattle.urb_group.specs.Commands.{reply_of}
use Rattle.urb_script.proofs.ClusterAnswers.{fails_from}
use Rattle.urb_script.proofs.mem_cluster.MemCluster.fail.Goals as goal

pub returns-clause-shown : goal.returns-clause-shown
returns-clause-shown g c =
    fails_from c.args.self.now.config c.args.self.now.cluster c.fail-reply.new.self c.args.node
    c.args.failure c.push_told_reply.result
    (reply_of c.fail-reply.result)
    c.args.text.now.items c.push_told_reply.new.text.items c.requires c.push_told_reply.ensures
    c.fail-reply.ensures.failed
