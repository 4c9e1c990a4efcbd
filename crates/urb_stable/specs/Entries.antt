-- A record, as contracts see it.
use Rattle.urb_names.specs.LabelsAndContents.{Label, Content, IsLabel, IsContent}
use Rattle.urb_stable.specs.declared.record.Record.{Record}
use Rattle.urb_stable.specs.declared.record.Record.TheVariants.{Pend, PendCert, Cert}

-- A record, wherever its message lies in memory. A message is pending; or it is pending and
-- certified at once; or a pending message is certified.
abbrev pub Entry : Type 0
Entry = Record Content

-- the name that a record is about
abbrev pub name_of : Entry → Label
name_of (Pend x m) = x
name_of (PendCert x m) = x
name_of (Cert x) = x

-- the record's name and message are within their limits
abbrev pub IsEntry : Entry → Type 0
IsEntry (Pend x m) = IsLabel x × IsContent m
IsEntry (PendCert x m) = IsLabel x × IsContent m
IsEntry (Cert x) = IsLabel x
