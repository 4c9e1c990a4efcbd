-- The certificates that nodes have heard of belong to names that they have stored.
use Rattle.std.specs.Prelude.{is_some, true, ℕ, ◌≡◌}
use Rattle.urb_names.specs.Acknowledgements.{acked}
use Rattle.urb_names.specs.CarriedPackets.{Carried}
use Rattle.urb_names.specs.LabelsAndContents.{Label}
use Rattle.urb_names.specs.Pairs.{message_of}
use Rattle.urb_node.specs.Part.{Node}
use Rattle.urb_node.specs.Steps.{says_heard}
use Rattle.urb_stable.specs.Records.{pend}

-- each certificate that the node has heard belongs to a name that is pending there
abbrev pub HearsOfPending : Node → Type 0
HearsOfPending node =
    (x : Label) (q : ℕ) → acked node.heard x q ≡ true
    → is_some (message_of (pend node.records) x) ≡ true

-- the packet says that its target's certificate was heard exactly if the node has heard it
abbrev pub SaysWhatWasHeard : Node → Carried → Type 0
SaysWhatWasHeard node packet = says_heard packet.flags ≡ acked node.heard packet.name packet.target
