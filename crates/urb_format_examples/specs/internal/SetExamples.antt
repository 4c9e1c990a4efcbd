-- Words of the worked examples: windows, marks, pending messages, acknowledgements and logs.
use Rattle.std.specs.Prelude.{List, None, Option, Some, [], ℕ, ◌∷◌}
use Rattle.urb_names.specs.LabelsAndContents.{Content, Label, Limits}
use Rattle.urb_names.specs.Names.{name}
use Rattle.urb_window.specs.Marks.{MarkSet}
use Rattle.urb_window.specs.WindowSet.{WindowSet}
use Rattle.urb_pending.specs.PendingSet.{PendingSet}
use Rattle.urb_fifo.specs.Delivery.{Delivery}
use Rattle.urb_majority.specs.Acks.{AckSet}
use Rattle.urb_format_examples.specs.internal.PacketExamples.{message}

-- a group of n nodes; each node may broadcast as many messages as the cap
abbrev pub limits : ℕ → ℕ → Limits
limits n cap = record { n = n; cap = cap }

-- windows with these entries, and no name reserved
abbrev pub windows : List (Label × ℕ) → WindowSet ℕ
windows entries = record { entries = entries; reserved = None }

-- three entries of node 1, with a gap before the last one
abbrev pub gapped : List (Label × ℕ)
gapped = (name 1 1, 5) ∷ (name 1 2, 6) ∷ (name 1 4, 7) ∷ []

-- marks of these nodes for these names, with space for these names
abbrev pub marked : List (Label × ℕ) → List Label → MarkSet
marked marks roomy = record { marks = marks; roomy = roomy; reserved = Some (name 1 2) }

-- what node 1 of a group with these limits holds as pending
abbrev pub holding : Limits → List Label → PendingSet
holding size [] = record { limits = size; node = 1; pairs = []; reserved = None }
holding size (x ∷ xs) =
    record (holding size xs) { pairs = (x, message 7 x.seq "") ∷ (holding size xs).pairs }

-- these acknowledgements in a group of three, these certificates, and a name reserved
abbrev pub counted : List (Label × ℕ) → List Label → AckSet
counted acks certified = record {
  limits = limits 3 10;
  counted = acks;
  certified = certified;
  reserved = Some (name 1 2);
}

-- a log with these certified names, in a group with these limits
abbrev pub logging : Limits → List Label → List Label → Delivery
logging size certified log = record {
  limits = size;
  certified = certified;
  log = log;
  reserved = None;
}
