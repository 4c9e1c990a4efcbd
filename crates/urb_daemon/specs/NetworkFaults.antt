-- Why the sockets of a group can't be opened.
use Rattle.std.specs.Prelude.{ℕ}
use Rattle.std_io.specs.declared.io.kind.ErrorKind.{ErrorKind}
use Rattle.std_io.specs.declared.io.kind.ErrorKind.TheVariants as kind
use Rattle.urb_daemon.specs.declared.network_fault.NetworkFault.{NetworkFault}
use Rattle.urb_daemon.specs.declared.network_fault.NetworkFault.TheVariants as fault
use Rattle.urb_daemon.specs.declared.network_fault.Port.{Port}
use Rattle.urb_daemon.specs.declared.socket_fault.SocketCause.{SocketCause}
use Rattle.urb_daemon.specs.declared.socket_fault.SocketCause.TheVariants as cause

-- The fault that an error of this kind means, when a group that needs that number of descriptors opens
-- this port. An error without a kind of its own is a lack of sockets.
abbrev pub fault_at : Port → ℕ → ErrorKind → NetworkFault
fault_at port needed kind.OutOfMemory = fault.NoMemory
fault_at port needed kind.AddrInUse = fault.InUse port
fault_at port needed kind.PermissionDenied = fault.NotAllowed port
fault_at port needed _ = fault.NoSocket needed

-- The fault that a cause means, if the Unix socket of the node with this number can't be made. A
-- lack of memory is no fault of the socket.
abbrev pub fault_of_socket : ℕ → SocketCause → NetworkFault
fault_of_socket node cause.NoMemory = fault.NoMemory
fault_of_socket node why = fault.Socket node why
