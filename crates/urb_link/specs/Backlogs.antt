-- What a receiver keeps for its worker, and what counts against its bound.
use Rattle.std.specs.Prelude.{List, ℕ, ◌+◌, length, sum_by}
use Rattle.urb_link.specs.declared.backlog.TheConstants.{KEEPING}

-- the room that a waiting datagram takes: its bytes, and the memory beside them
abbrev pub room_of : List ℕ → ℕ
room_of datagram = length datagram + KEEPING

-- the room that all waiting datagrams take
abbrev pub room_of_all : List (List ℕ) → ℕ
room_of_all datagrams = sum_by room_of datagrams
