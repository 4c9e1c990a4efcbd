-- How calls are counted.
use Rattle.std.specs.Prelude.{◌+◌, ◌-◌, ◌^◌, min}
use Rattle.urb_refusing.specs.declared.fuse.Fuse.{Fuse}

-- one more call; the count stops at its greatest value
abbrev pub one_more : Fuse → Fuse
one_more fuse = record { asked = min (fuse.asked + 1) (2 ^ 64 - 1); refused = fuse.refused }
