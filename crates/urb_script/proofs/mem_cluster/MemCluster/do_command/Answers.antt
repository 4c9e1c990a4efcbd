use Rattle.urb_script.proofs.mem_cluster.MemCluster.do_command.Goals as goal

pub returns-in-Submit-clause-shown : goal.returns-in-Submit-clause-shown
returns-in-Submit-clause-shown g c = rw c.in-Submit.is c.submit.ensures.shown

pub returns-in-Stored-clause-shown : goal.returns-in-Stored-clause-shown
returns-in-Stored-clause-shown g c = rw c.in-Stored.is c.apply.ensures.shown

pub returns-in-Fail-clause-shown : goal.returns-in-Fail-clause-shown
returns-in-Fail-clause-shown g c = rw c.in-Fail.is c.fail.ensures.shown

pub returns-in-Crash-clause-shown : goal.returns-in-Crash-clause-shown
returns-in-Crash-clause-shown g c = rw c.in-Crash.is c.apply-in-Crash.ensures.shown

pub returns-in-Restart-clause-shown : goal.returns-in-Restart-clause-shown
returns-in-Restart-clause-shown g c = rw c.in-Restart.is c.apply-in-Restart.ensures.shown

pub returns-in-Arrive-clause-shown : goal.returns-in-Arrive-clause-shown
returns-in-Arrive-clause-shown g c = rw c.in-Arrive.is c.arrive.ensures.shown

pub returns-in-ArriveFlagged-clause-shown : goal.returns-in-ArriveFlagged-clause-shown
returns-in-ArriveFlagged-clause-shown g c =
    rw c.in-ArriveFlagged.is c.arrive-in-ArriveFlagged.ensures.shown

pub returns-in-Raw-clause-shown : goal.returns-in-Raw-clause-shown
returns-in-Raw-clause-shown g c = rw c.in-Raw.is c.bring_bytes.ensures.shown

pub returns-in-Tick-clause-shown : goal.returns-in-Tick-clause-shown
returns-in-Tick-clause-shown g c = rw c.in-Tick.is c.apply-in-Tick.ensures.shown
