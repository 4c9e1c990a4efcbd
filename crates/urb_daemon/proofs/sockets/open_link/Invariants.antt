use Rattle.std.proofs.Common.{◌≡◌, ◌≤◌, length, map, take, vec_capacity, vec_len}
use Rattle.urb_daemon.proofs.sockets.open_link.Given as goal

-- the ports so far, and room for all
abbrev pub invariant-loop-station : goal.invariant-loop-station
invariant-loop-station g l =
    (l.ports.items ≡ map (λ s. s.udp_port) (take l.station-index l.fn.stations))
    × (vec_len l.ports ≡ l.station-index) × (length l.fn.stations ≤ vec_capacity l.ports)
