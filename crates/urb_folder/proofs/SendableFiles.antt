-- What may go to a thread: the kinds of file, and a journal in such a file.
use Rattle.urb_folder.proofs.Common.{List, Result, StoreFault}
use denote.RattleType.{RattleType}
use denote.Param.Send.{IsSend, sendable}
use Rattle.std.proofs.Crossing.{crosses}
use Rattle.urb_folder.proofs.journal.Journal.TheSendSync.{the_field_send}
use Rattle.urb_sqlite.specs.declared.claims.NodeClaim.{NodeClaim}
use Rattle.urb_folder.specs.declared.journal.Journal.{Journal}
use Rattle.std.specs.contracts.result.Result as result
use Rattle.sqlite_disk.specs.declared.Disk as disk
use Rattle.sqlite_std_file.specs.contracts.host.Host as Host
use Rattle.urb_stable.specs.contracts.stable.StoreFault as Fault
use Rattle.urb_sqlite.specs.contracts.node_file.Unnamed as Unnamed
use Rattle.urb_sqlite.specs.contracts.claims.NodeClaim as Claim
use Rattle.urb_folder.specs.contracts.journal.Journal as Row

-- the type of the operating system's files may go to a thread
pub host_send : IsSend Host.the_field.row
host_send = search (crosses, sendable) depth 100 fits 100000

-- `Unnamed`, which says nothing about what files held, may go to a thread
pub unnamed_send : IsSend Unnamed.the_field.row
unnamed_send = search (crosses, sendable) depth 100 fits 100000

-- a journal, if its file may
pub journal_send : (D : RattleType) (g : disk.Ghosts D.Denot) → IsSend D
    → IsSend (Row.the_row D g)
journal_send D g s = search (the_field_send, crosses, sendable) depth 100 fits 100000

-- what is at a place, a journal or a claim, if the file may
pub found_send : {D : RattleType} → IsSend D → {g : disk.Ghosts D.Denot}
    → List (Result (Result (Journal D.Denot g) StoreFault) (NodeClaim D.Denot))
    → IsSend (result.the_row (result.the_row (Row.the_row D g) Fault.the_row) (Claim.the_row D))
found_send {D} s {g} found =
    let j = journal_send D g s in search (crosses, sendable) depth 200 fits 1000000
