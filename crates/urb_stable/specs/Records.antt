-- What a list of records says: its pending pairs and its certificates.
use Rattle.std.specs.Prelude.{List, [], ◌∷◌}
use Rattle.urb_names.specs.LabelsAndContents.{Label, Content}
use Rattle.urb_stable.specs.Entries.{Entry}
use Rattle.urb_stable.specs.declared.record.Record.TheVariants.{Pend, PendCert, Cert}

-- the pairs of the Pend and PendCert records, in order: `pending` in the textbook
abbrev pub pend : List Entry → List (Label × Content)
pend [] = []
pend (Pend x m ∷ records) = (x, m) ∷ pend records
pend (PendCert x m ∷ records) = (x, m) ∷ pend records
pend (Cert x ∷ records) = pend records

-- the names of the PendCert and Cert records, in order: those in the textbook's `delivered`
abbrev pub cert : List Entry → List Label
cert [] = []
cert (Pend x m ∷ records) = cert records
cert (PendCert x m ∷ records) = x ∷ cert records
cert (Cert x ∷ records) = x ∷ cert records
