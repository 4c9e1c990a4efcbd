use Rattle.std.proofs.Common.{◌≡◌, ◌≤◌, vec_len, vec_capacity}
use Rattle.urb_daemon.specs.Doors.{HaveDoors}
use Rattle.urb_daemon.proofs.sockets.open_stations.Given as goal

abbrev pub invariant-loop-place : goal.invariant-loop-place
invariant-loop-place g l =
    (vec_len l.stations ≡ l.place) × (l.nodes ≤ vec_capacity l.stations)
    × HaveDoors l.serving.doors l.stations.items
