use Rattle.std.proofs.Common.{inl, refl}
use Rattle.urb_script.proofs.ReopenedClusters.{may-start-again, opens_again, refused_for_memory}
use Rattle.urb_script.proofs.mem_cluster.MemCluster.reopen.Goals as goal

pub expect_no_memory-requires : goal.expect_no_memory-requires
expect_no_memory-requires g c =
    refused_for_memory c.args.self.cluster.group.size c.args.self.cluster.stores _
    c.in-Err.refused.1 c.in-Err.ensures.opened
    ((c.in-Err.ensures.goes_on c.requires.kept).1
    (may-start-again _ _ c.requires.kept.shows.size) (inl (λ i store within. tt)))

pub returns-clause-shown : goal.returns-clause-shown
returns-clause-shown g c =
    opens_again c.args.self.config c.args.self.cluster.group.size c.args.self.cluster
    c.in-Ok.cluster c.args.text.now.items c.push_told.new.text.items refl c.in-Ok.ensures.opened
    c.requires.fresh c.in_ok-push_told.ensures
