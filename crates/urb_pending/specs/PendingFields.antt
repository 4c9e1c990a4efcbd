-- What contracts see of the fields of a pending set.
use Rattle.urb_pending.specs.PendingSet.{PendingSet}
use Rattle.urb_pending.specs.declared.pending.Pending.TheInside.{Inside}

-- the pairs are the entries of the windows
abbrev pub view_of : {A : Type 0} → Inside A → PendingSet
view_of a = record {
  limits = a.config;
  node = a.node;
  pairs = a.windows.entries;
  reserved =
      a.reserved;
}
