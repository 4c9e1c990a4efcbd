-- Which socket a door is.
use Rattle.std.specs.Prelude.{Option, Some, None}
use Rattle.std.specs.declared.net.tcp.TcpListener.{TcpListener}
use Rattle.std.specs.declared.net.unix.UnixListener.{UnixListener}
use Rattle.urb_link.specs.declared.door.Door.{Door}
use Rattle.urb_link.specs.declared.door.Door.TheVariants as door

-- the TCP listener of a door, if it has one
abbrev pub tcp_listener : Door → Option TcpListener
tcp_listener (door.Tcp listener) = Some listener.now
tcp_listener (door.Unix listener) = None

-- the listener of a door's Unix socket, if it has one
abbrev pub unix_listener : Door → Option UnixListener
unix_listener (door.Tcp listener) = None
unix_listener (door.Unix listener) = Some listener.now
