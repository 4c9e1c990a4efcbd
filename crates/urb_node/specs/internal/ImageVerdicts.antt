-- What an image is compared with: a memory's pairs and certificates, and a doubtful record's.
use Rattle.std.specs.Prelude.{◌≡◌, ℕ, List, [], ◌∷◌, ◌++◌, Option, None, Some, true, false}
use Rattle.urb_fifo.specs.Delivery.{Delivery}
use Rattle.urb_names.specs.Acknowledgements.{acked}
use Rattle.urb_names.specs.LabelsAndContents.{Label, Content}
use Rattle.urb_stable.specs.Entries.{Entry}
use Rattle.urb_stable.specs.Records.{pend}
use Rattle.urb_stable.specs.declared.record.Record.TheVariants.{Pend, PendCert, Cert}
use Rattle.urb_node.specs.internal.LayerAdditions.{certified_with, delivered_with, with_record}
use Rattle.urb_node.specs.Part.{self_acks}
use Rattle.urb_node.specs.Steps.{tells}
use Rattle.urb_node.specs.NodeMemories.{Memory}
use Rattle.urb_node.specs.declared.image_verdict.Verdict.{Verdict}
use Rattle.urb_node.specs.declared.image_verdict.Verdict.TheVariants.{Stored, WithDoubtful, Neither}

-- these pairs and the doubtful record's
abbrev pub pairs_with : List (Label × Content) → Option Entry → List (Label × Content)
pairs_with pairs None = pairs
pairs_with pairs (Some r) = pairs ++ pend (r ∷ [])

-- these certified names and the doubtful record's
abbrev pub certified_by : List Label → Option Entry → List Label
certified_by certified None = certified
certified_by certified (Some (Pend x m)) = certified
certified_by certified (Some (PendCert x m)) = certified_with certified x
certified_by certified (Some (Cert x)) = certified_with certified x

-- this log and what the doubtful record releases
abbrev pub delivered_by : List Label → List Label → Option Entry → List Label
delivered_by log certified None = log
delivered_by log certified (Some (Pend x m)) = log
delivered_by log certified (Some (PendCert x m)) = delivered_with log certified x
delivered_by log certified (Some (Cert x)) = delivered_with log certified x

-- the certificates and the log together with those of the doubtful record, if there is one
abbrev pub IsJoined : Delivery → Option Entry → Option Delivery → Type 0
IsJoined fifo None None = Unit {0}
IsJoined fifo None (Some joined) = ⊥
IsJoined fifo (Some r) None = ⊥
IsJoined fifo (Some r) (Some joined) =
    (joined.certified ≡ certified_by fifo.certified (Some r))
    × (joined.log ≡ delivered_by fifo.log fifo.certified (Some r))

-- the image says what the memory has
abbrev pub Says : List Entry → Memory → Type 0
Says image a = tells image a.pairs a.certified a.log a.count ≡ true

-- the image says something else
abbrev pub IsOther : List Entry → Memory → Type 0
IsOther image a = tells image a.pairs a.certified a.log a.count ≡ false

-- the image doesn't say what the memory would have with the doubtful record, if there is one
abbrev pub IsOtherThan : List Entry → Memory → Option Entry → Type 0
IsOtherThan image a None = Unit {0}
IsOtherThan image a (Some r) = IsOther image (with_record a r None)

-- the image says what the memory would have with the doubtful record
abbrev pub SaysWith : List Entry → Memory → Option Entry → Type 0
SaysWith image a None = ⊥
SaysWith image a (Some r) = Says image (with_record a r None)

-- what an image says about a memory and a doubtful record
abbrev pub IsVerdict : List Entry → Memory → Option Entry → Verdict → Type 0
IsVerdict image a doubt Stored = Says image a
IsVerdict image a doubt WithDoubtful = IsOther image a × SaysWith image a doubt
IsVerdict image a doubt Neither = IsOther image a × IsOtherThan image a doubt

-- these acknowledgements are exactly a node's own ones of its pending names
abbrev pub CountsItself : Memory → List (Label × ℕ) → Type 0
CountsItself a acks = (x : Label) (q : ℕ) → acked acks x q ≡ acked (self_acks a.node a.pairs) x q
