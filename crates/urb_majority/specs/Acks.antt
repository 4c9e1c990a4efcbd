-- Acknowledgements and certificates, as contracts see them.
use Rattle.std.specs.Prelude.{ℕ, IsTrue, List, Option}
use Rattle.urb_names.specs.LabelsAndContents.{Limits, Label}
use Rattle.urb_names.specs.Names.{name_lt}
pub use Rattle.urb_names.specs.Acknowledgements.{ack_lt}
use Rattle.urb_names.specs.RisingLists.{is_rising}

-- the counted pairs of a name and a node, the certified names, and the name for which space is
-- reserved
pub record AckSet : Type 0 where
  pub limits : Limits
  pub counted : List (Label × ℕ)
  pub certified : List Label
  pub reserved : Option Label

-- the counted pairs and the certified names are in strictly rising order
pub record IsAckSet (a : AckSet) : Type 0 where
  pub counted : IsTrue (is_rising ack_lt a.counted)
  pub certified : IsTrue (is_rising name_lt a.certified)
