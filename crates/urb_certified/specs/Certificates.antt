-- Certified names, as contracts see them.
use Rattle.std.specs.Prelude.{Bool, IsTrue, if◌then◌else◌, List}
use Rattle.urb_names.specs.LabelsAndContents.{Label}
use Rattle.urb_names.specs.Names.{has_name, name_lt}
use Rattle.urb_names.specs.RisingLists.{is_rising, placed}

-- the certified names in order, and whether there is space for any one more
pub record Certificates : Type 0 where
  pub names : List Label
  pub room : Bool

-- the names are in strictly rising order
abbrev pub IsCertificates : Certificates → Type 0
IsCertificates c = IsTrue (is_rising name_lt c.names)

-- the names with one more at its place; nothing changes if it is there already
abbrev pub with_name : List Label → Label → List Label
with_name names x = if has_name names x then names else placed name_lt names x
