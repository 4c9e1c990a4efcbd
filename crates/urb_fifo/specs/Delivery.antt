-- The certified names and the log, as contracts see them, and their invariant.
use Rattle.std.specs.Prelude.{◌≡◌, ℕ, ◌*◌, ◌≤◌, true, IsTrue, List, length, Option}
use Rattle.urb_names.specs.declared.limits.TheConstants.{MAX_NODES}
use Rattle.urb_names.specs.LabelsAndContents.{Limits, IsLimits, Label, IsLabel}
use Rattle.urb_names.specs.Names.{has_name, name_lt}
use Rattle.urb_names.specs.RisingLists.{is_rising}
use Rattle.urb_names.specs.Release.{beginning, part_of, released}

-- the certified names in order, the log in its order, and the name for which space is reserved
pub record Delivery : Type 0 where
  pub limits : Limits
  pub certified : List Label
  pub log : List Label
  pub reserved : Option Label

-- the sender is one of the nodes, and the number is at most the cap
pub record IsNameOf (limits : Limits) (x : Label) : Type 0 where
  pub label : IsLabel x
  pub sender : x.sender ≤ limits.n
  pub seq : x.seq ≤ limits.cap

-- the log is the release of these certificates, the newest first, and exactly these names are
-- certified
pub record IsReleaseOf (certificates : List Label) (d : Delivery) : Type 0 where
  pub log : d.log ≡ released certificates
  pub certified : (x : Label) → has_name d.certified x ≡ has_name certificates x

-- The invariant. The certified names are in strictly rising order, and each is a name of the group.
-- The log is the release of certificates. For each sender it holds the certified names from 1 on
-- without a gap. Its length is at most MAX_NODES times the cap.
pub record IsDelivery (d : Delivery) : Type 0 where
  pub limits : IsLimits d.limits
  pub order : IsTrue (is_rising name_lt d.certified)
  pub within : (x : Label) → has_name d.certified x ≡ true → IsNameOf d.limits x
  pub released : (certificates : List Label) × IsReleaseOf certificates d
  pub parts : (sender : ℕ) → part_of sender d.log ≡ beginning sender d.certified
  pub few : length d.log ≤ MAX_NODES * d.limits.cap
