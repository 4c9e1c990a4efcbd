-- What the layers of a node's memory hold after one more acknowledgement, certificate or record.
use Rattle.std.specs.Prelude.{ℕ, suc, if◌then◌else◌, List, ◌++◌, Option, None, Some}
use Rattle.urb_names.specs.LabelsAndContents.{Label, Content}
use Rattle.urb_names.specs.Names.{has_name, name_lt}
use Rattle.urb_names.specs.CyclicOrder.{inserted}
use Rattle.urb_names.specs.Acknowledgements.{acked}
use Rattle.urb_names.specs.RisingLists.{placed}
use Rattle.urb_majority.specs.Acks.{ack_lt}
use Rattle.urb_fifo.specs.NewReleases.{newly_released}
use Rattle.urb_stable.specs.Entries.{Entry}
use Rattle.urb_stable.specs.declared.record.Record.TheVariants.{Pend, PendCert, Cert}
use Rattle.urb_node.specs.declared.cause.Cause.{Cause}
use Rattle.urb_node.specs.Steps.{heard_of}
use Rattle.urb_node.specs.NodeMemories.{Memory}

-- the acknowledgements once this node is counted for the name, at its place
abbrev pub counted_with : List (Label × ℕ) → Label → ℕ → List (Label × ℕ)
counted_with acks x q = if acked acks x q then acks else placed ack_lt acks (x, q)

-- the same for the node that caused a record, if there is one
abbrev pub counted_cause : List (Label × ℕ) → Label → Option Cause → List (Label × ℕ)
counted_cause acks x None = acks
counted_cause acks x (Some cause) = counted_with acks x cause.source

-- the certificates heard, once this node's certificate of the name, if there is one, is added at
-- its place
abbrev pub heard_with : List (Label × ℕ) → Label → Option ℕ → List (Label × ℕ)
heard_with heard x None = heard
heard_with heard x (Some q) = counted_with heard x q

-- the certified names with this one, at its place
abbrev pub certified_with : List Label → Label → List Label
certified_with certified x = if has_name certified x then certified else placed name_lt certified x

-- the log with what this certificate releases
abbrev pub delivered_with : List Label → List Label → Label → List Label
delivered_with log certified x =
    if has_name certified x then log else log ++ newly_released log certified x

-- the memory with one more pending pair, for which the node itself and the node that caused it are
-- counted
abbrev pub with_pair : Memory → Label → Content → Option Cause → Memory
with_pair a x m cause =
    record a {
      pairs = inserted (x, m) a.pairs;
      count = suc a.count;
      acks = counted_cause (counted_with a.acks x a.node) x cause;
      heard = heard_with a.heard x (heard_of cause);
    }

-- the memory with one more certificate
abbrev pub with_certificate : Memory → Label → Memory
with_certificate a x = record a
    { certified = certified_with a.certified x; log = delivered_with a.log a.certified x }

-- the memory once a record is stored
abbrev pub with_record : Memory → Entry → Option Cause → Memory
with_record a (Pend x m) cause = with_pair a x m cause
with_record a (PendCert x m) cause = with_certificate (with_pair a x m cause) x
with_record a (Cert x) cause = with_certificate (record a { count = suc a.count }) x

-- the memory once a doubtful record, if there is one, counts as stored
abbrev pub with_doubtful : Memory → Option Entry → Memory
with_doubtful a None = a
with_doubtful a (Some r) = with_record a r None
