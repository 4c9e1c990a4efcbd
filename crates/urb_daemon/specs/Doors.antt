-- The doors of a group's stations.
use Rattle.std.specs.Prelude.{◌≡◌, is_some, List}
use Rattle.std.specs.List.{All}
use Rattle.urb_options.specs.declared.door_options.DoorOptions.{DoorOptions}
use Rattle.urb_link.specs.declared.stations.Station.{Station}

-- the station takes clients over TCP, and at a Unix socket, exactly if the options say so
abbrev pub HasDoors : DoorOptions → Station → Type 0
HasDoors doors station =
    (is_some station.tcp ≡ doors.takes_tcp) × (is_some station.socket ≡ is_some doors.sockets)

-- each of the stations does
abbrev pub HaveDoors : DoorOptions → List Station → Type 0
HaveDoors doors stations = All (HasDoors doors) stations
