use Rattle.urb_script.proofs.ClusterAnswers.{nothing_asked}
use Rattle.urb_script.proofs.ReopenedClusters.{other_command}
use Rattle.urb_script.proofs.mem_cluster.MemClusterPlay.play.Goals as goal

pub do_command-requires : goal.do_command-requires
do_command-requires g c = record {
  fresh = c.requires.fresh;
  later = c.requires.later;
  range = c.requires.range;
  goes_on =
      other_command c.args.found c.in_default.not-Reopen;
}

pub returns-in_ok-do_command-in_default : goal.returns-in_ok-do_command-in_default
returns-in_ok-do_command-in_default g c =
    record {
      shown = c.in_ok-do_command-in_default.ensures.shown;
      kept =
          c.in_ok-do_command-in_default.ensures.kept c.requires.kept;
      stores =
          c.in_ok-do_command-in_default.ensures.stores;
    }

pub returns-in-Reopen-clause-stores : goal.returns-in-Reopen-clause-stores
returns-in-Reopen-clause-stores g c = rw c.in-Reopen.is (nothing_asked c.reopen.result)
