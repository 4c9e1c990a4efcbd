-- What one more certificate releases.
use Rattle.std.specs.Prelude.{not, if◌then◌else◌, List, ◌∷◌, ◌++◌, filter}
use Rattle.urb_names.specs.LabelsAndContents.{Label}
use Rattle.urb_names.specs.Names.{has_name, name_lt}
use Rattle.urb_names.specs.RisingLists.{placed, reserved_for}
use Rattle.urb_names.specs.Release.{beginning}
use Rattle.urb_fifo.specs.Delivery.{Delivery}

-- What a certificate adds to this log. These are the names of its sender that are now certified
-- from 1 on without a gap, and are not in the log yet.
abbrev pub newly_released : List Label → List Label → Label → List Label
newly_released log certified x =
    filter (λ y. not (has_name log y)) (beginning x.sender (x ∷ certified))

-- The value with the name certified. The name goes to its place, and the released names are
-- appended to the log. Nothing changes if the name is certified already.
abbrev pub certifying : Delivery → Label → Delivery
certifying d x =
    if has_name d.certified x then d
    else record d {
      certified = placed name_lt d.certified x;
      log =
          d.log ++ newly_released d.log d.certified x;
      reserved = reserved_for d.reserved x;
    }
