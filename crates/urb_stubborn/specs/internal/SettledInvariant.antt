-- The invariant of the fields of a node's resends: from which number on names may be due.
use Rattle.std.specs.Prelude.{◌≡◌, ◌-◌, ◌<◌, ◌≤◌, false, ℕ, List, length, slice_index_or}
use Rattle.urb_names.specs.declared.limits.TheConstants.{MAX_SENDERS}
use Rattle.urb_names.specs.CarriedPackets.{is_due}
use Rattle.urb_names.specs.LabelsAndContents.{Label}
use Rattle.urb_stubborn.specs.declared.resend.Resend.TheInside.{Inside}

-- the number up to which no name of the sender is due
abbrev pub settled_of : List ℕ → ℕ → ℕ
settled_of settled sender = slice_index_or settled (sender - 1) 0

-- the name's number is not above its sender's count
pub record IsSettledBy (settled : List ℕ) (x : Label) : Type 0 where
  pub sender : 0 < x.sender
  pub first : 0 < x.seq
  pub last : x.seq ≤ settled_of settled x.sender

-- The node belongs to the group. There is a count for each possible sender, and no name up to it
-- is due.
pub record IsKept {A : Type 0} (a : Inside A) : Type 0 where
  pub node : a.node ≤ a.config.n
  pub senders : length a.settled ≡ MAX_SENDERS
  pub settled : (x : Label) → IsSettledBy a.settled x
      → is_due a.config.n a.node a.heard.marks x ≡ false
