-- Which doors a group may have.
use Rattle.std.specs.Prelude.{◌≡◌, ◌||◌, Bool, true, Option, is_some}

-- a group takes clients over TCP, over sockets, or over both
abbrev pub AreDoors : {S : Type 0} → Bool → Option S → Type 0
AreDoors takes_tcp sockets = (is_some sockets || takes_tcp) ≡ true
