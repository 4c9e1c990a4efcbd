-- What a refusal reports: its number and its detail.
use Rattle.std.specs.Prelude.{ℕ}
use Rattle.urb_names.specs.declared.refusal.Refusal.{Refusal}
use Rattle.urb_names.specs.declared.refusal.Refusal.TheVariants as is

-- the number of a refusal, from 1 to 19
abbrev pub number_of : Refusal → ℕ
number_of is.NoMemory = 1
number_of is.BadNode = 2
number_of is.Down = 3
number_of is.Busy = 4
number_of is.TooLong = 5
number_of is.Conflict = 6
number_of (is.Gap expected) = 7
number_of is.Full = 8
number_of is.Forged = 9
number_of (is.Packet fault) = 10
number_of is.Stale = 11
number_of is.NotDown = 12
number_of is.BadImage = 13
number_of (is.Inconsistent rule node name) = 14
number_of is.Device = 15
number_of (is.Place next) = 16
number_of (is.BadRow place) = 17
number_of (is.BadLine line) = 18
number_of (is.Frame code) = 19

-- the detail of a refusal: the number expected, the next place, the place or the code; 0 for every
-- other refusal
abbrev pub detail_of : Refusal → ℕ
detail_of (is.Gap expected) = expected
detail_of (is.Place next) = next
detail_of (is.BadRow place) = place
detail_of (is.Frame code) = code
detail_of _ = 0
