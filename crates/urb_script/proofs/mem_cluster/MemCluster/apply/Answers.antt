use Rattle.urb_group.specs.Commands.{reply_of}
use Rattle.urb_script.proofs.ClusterAnswers.{applies_from, stores_asked}
use Rattle.urb_script.proofs.mem_cluster.MemCluster.apply.Goals as goal

pub returns-clause-shown : goal.returns-clause-shown
returns-clause-shown g c =
    applies_from c.args.self.now.config c.args.self.now.cluster c.apply-reply.new.self
    c.args.command.now c.push_told_reply.result
    (reply_of c.apply-reply.result)
    c.args.text.now.items c.push_told_reply.new.text.items c.requires c.push_told_reply.ensures
    c.apply-reply.ensures.applied

pub returns-clause-stores : goal.returns-clause-stores
returns-clause-stores g c =
    stores_asked c.args.command.now
    (reply_of c.apply-reply.result)
    c.args.self.now.cluster c.apply-reply.new.self c.apply-reply.ensures.applied
