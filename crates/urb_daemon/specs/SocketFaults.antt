-- Why the Unix socket of a node can't be made.
use Rattle.std.specs.Prelude.{Option, Some, None}
use Rattle.std_io.specs.declared.io.kind.ErrorKind.{ErrorKind}
use Rattle.std_io.specs.declared.io.kind.ErrorKind.TheVariants as kind
use Rattle.urb_daemon.specs.declared.socket_fault.SocketCause.{SocketCause}
use Rattle.urb_daemon.specs.declared.socket_fault.SocketCause.TheVariants as cause

-- The cause that an error of this kind means, when a socket is made. An error without a kind of its
-- own means that the system makes no socket there.
abbrev pub cause_of : ErrorKind → SocketCause
cause_of kind.OutOfMemory = cause.NoMemory
cause_of kind.NotFound = cause.NoFolder
cause_of kind.NotADirectory = cause.NoFolder
cause_of kind.PermissionDenied = cause.NotAllowed
cause_of kind.ReadOnlyFilesystem = cause.NotAllowed
cause_of kind.AddrInUse = cause.InUse
cause_of kind.AlreadyExists = cause.InUse
cause_of _ = cause.NotMade

-- What a connection to a socket that is there says. A connection that was made means that a program
-- uses it, and a refused one that its program has ended. Every other error leaves that open.
abbrev pub probe_says : Option ErrorKind → Option SocketCause
probe_says None = Some cause.InUse
probe_says (Some kind.ConnectionRefused) = None
probe_says (Some kind.OutOfMemory) = Some cause.NoMemory
probe_says (Some _) = Some cause.Unclear
