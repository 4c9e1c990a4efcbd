-- Which of the counted calls fails.
use Rattle.std.specs.Prelude.{◌≡◌, ◌<◌, ◌≤◌}
use Rattle.urb_refusing.specs.declared.fuse.Fuse.{Fuse}

-- the failing call has been requested
abbrev pub IsMet : Fuse → Type 0
IsMet fuse = (0 < fuse.refused) × (fuse.refused ≤ fuse.asked)

-- the call requested last is the failing one
abbrev pub IsLast : Fuse → Type 0
IsLast fuse = (0 < fuse.refused) × (fuse.asked ≡ fuse.refused)
