-- What contracts see of the fields of a node's log.
use Rattle.urb_fifo.specs.Delivery.{Delivery}
use Rattle.urb_fifo.specs.declared.fifo.Fifo.TheInside.{Inside}

-- what contracts see of the fields
abbrev pub view_of : {A : Type 0} → Inside A → Delivery
view_of a = record {
  limits = a.config;
  certified = a.certified.names;
  log = a.log.items;
  reserved =
      a.reserved;
}
