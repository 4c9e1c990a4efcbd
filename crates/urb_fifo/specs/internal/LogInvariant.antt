-- The invariant of the fields, and space in the log for the reserved name.
use Rattle.std.specs.Prelude.{◌≡◌, true, false, ◌≤◌, ◌+◌, length}
use Rattle.std.specs.Vec.{vec_len, vec_capacity}
use Rattle.std.specs.Option.{ForSome}
use Rattle.urb_names.specs.LabelsAndContents.{Label}
use Rattle.urb_names.specs.Names.{has_name}
use Rattle.urb_fifo.specs.Delivery.{IsDelivery}
use Rattle.urb_fifo.specs.NewReleases.{newly_released}
use Rattle.urb_fifo.specs.declared.fifo.Fifo.TheInside.{Inside}
use Rattle.urb_fifo.specs.LogFields.{view_of}

-- if the name is not certified yet, there is space for it and for all that its certificate would
-- release
pub record HasRoom {A : Type 0} (a : Inside A) (x : Label) : Type 0 where
  pub certified : has_name a.certified.names x ≡ false → a.certified.room ≡ true
  pub log : has_name a.certified.names x ≡ false
      → vec_len a.log + length (newly_released a.log.items a.certified.names x) ≤ vec_capacity a.log

-- their value is a delivery, and there is the space that is promised
pub record IsKept {A : Type 0} (a : Inside A) : Type 0 where
  pub delivery : IsDelivery (view_of a)
  pub room : ForSome a.reserved (HasRoom a)
