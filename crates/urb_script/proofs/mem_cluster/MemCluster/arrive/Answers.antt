use Rattle.std.specs.Option.{option_map}
use Rattle.urb_script.proofs.ClusterAnswers.{arrives_from}
use Rattle.urb_script.proofs.mem_cluster.MemCluster.arrive.Goals as goal

pub returns-clause-shown : goal.returns-clause-shown
returns-clause-shown g c =
    arrives_from c.args.self.now.config c.apply.new.self.config c.args.self.now.cluster
    c.apply.new.self.cluster c.args.source c.args.node c.args.name c.args.flags
    (option_map (λ m. m.now) c.message-stored.result)
    c.in_ok-bytes.bytes.items c.apply.new.text.items c.apply.result
    (rw c.group.ensures.value at c.message-stored.ensures)
    (rw c.in_ok-message.ensures at c.in_ok-bytes.ensures) c.apply.ensures.shown
