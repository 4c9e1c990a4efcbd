-- The doors of a group, and the address at which a client asks a node.
use Rattle.std.specs.Prelude.{◌+◌, ◌-◌, ◌*◌, ◌==◌, ◌&&◌, ℕ, Bool, true, false, not, nat_le}
use Rattle.std.specs.Prelude.{List, [], ◌∷◌, Option, Some, None, option_map, option_and_then}
use Rattle.std.specs.Prelude.{if◌then◌else◌}
use Rattle.clap.specs.Words.{Text}
use Rattle.urb_options.specs.Addresses.{Address, AtPort, AtSocket}
use Rattle.urb_options.specs.declared.door_options.DoorOptions.{DoorOptions}
use Rattle.urb_options.specs.declared.door_options.SocketOptions.{SocketOptions}
use Rattle.urb_options.specs.declared.limits.TheConstants.{STANDARD_SOCKET_MODE}

-- How the nodes take clients: over TCP or not, and at sockets in a folder, with a mode, or at none.
abbrev pub Doors : Type 0
Doors = Bool × Option (Text × ℕ)

-- a folder of sockets, and their mode
abbrev pub sockets_of : SocketOptions → Text × ℕ
sockets_of s = (s.dir.now, s.mode)

-- the doors that these options ask for
abbrev pub doors_of : DoorOptions → Doors
doors_of d = (d.takes_tcp, option_map sockets_of d.sockets)

-- the value of an octal digit: 0 has the code 48, and 7 the code 55
abbrev pub octal_value : ℕ → Option ℕ
octal_value digit = if nat_le 48 digit && nat_le digit 55 then Some (digit - 48) else None

-- the mode that three octal digits write: for the owner, the group, and others
abbrev pub mode_of : ℕ → ℕ → ℕ → Option ℕ
mode_of owner group others =
    option_and_then (λ o. option_and_then (λ g.
    option_map (λ s. 64 * o + 8 * g + s) (octal_value others)) (octal_value group))
    (octal_value owner)

-- the mode that a text writes: three octal digits, perhaps after a zero
abbrev pub mode_in : Text → Option ℕ
mode_in (owner ∷ group ∷ others ∷ []) = mode_of owner group others
mode_in (zero_digit ∷ owner ∷ group ∷ others ∷ []) =
    if zero_digit == 48 then mode_of owner group others else None
mode_in _ = None

-- The doors of a group. Without a folder of sockets there is TCP alone, and neither a mode nor a
-- wish for no TCP.
abbrev pub asked_doors : Bool → Option Text → Option Text → Option Doors
asked_doors false None None = Some (true, None)
asked_doors without_tcp (Some dir) None =
    Some (not without_tcp, Some (dir, STANDARD_SOCKET_MODE))
asked_doors without_tcp (Some dir) (Some mode) =
    option_map (λ m. (not without_tcp, Some (dir, m))) (mode_in mode)
asked_doors _ _ _ = None

-- the address of a node: its port or its socket, and not both
abbrev pub asked_address : Option ℕ → Option Text → Option Address
asked_address (Some port) None = Some (AtPort port)
asked_address None (Some path) = Some (AtSocket path)
asked_address _ _ = None
