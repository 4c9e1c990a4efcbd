-- The invariant of every world of a run, which makes it safe.
use Rattle.std.specs.Prelude.{List, None, Option, Some, [], false, length, true, ℕ, ◌++◌, ◌∷◌, ◌≡◌}
use Rattle.std.specs.Prelude.{◌≤◌}
use Rattle.urb_world.specs.World.{World, stored, updated}
use Rattle.urb_names.specs.Acknowledgements.{acked}
use Rattle.urb_names.specs.Names.{has_name}
use Rattle.urb_names.specs.LabelsAndContents.{Content, Label, Limits}
use Rattle.urb_names.specs.Pairs.{has_pair, message_of, own}
use Rattle.urb_names.specs.declared.limits.TheConstants.{MAX_PAYLOAD}
use Rattle.urb_node.specs.Part.{Down, Node, Ready, State, Storing}
use Rattle.urb_node.specs.Steps.{doubt}
use Rattle.urb_stable.specs.Entries.{Entry}
use Rattle.urb_stable.specs.Fitting.{Kept, Rules}
use Rattle.urb_stable.specs.Records.{cert, pend}
use Rattle.urb_stable.specs.declared.record.Record.TheVariants.{Cert, Pend, PendCert}
use Rattle.urb_node.specs.declared.cause.Cause.{Cause}

-- If an arrival caused the storing of a pair, the node that it came from holds the pair.
abbrev pub IsCaused : (ℕ → List Entry) → Entry → Option Cause → Type 0
IsCaused images r None = Unit {0}
IsCaused images (Pend x m) (Some cause) = has_pair (pend (images cause.source)) x m ≡ true
IsCaused images (PendCert x m) (Some cause) = has_pair (pend (images cause.source)) x m ≡ true
IsCaused images (Cert x) (Some cause) = Unit {0}

-- the record would meet the rules if it were stored
abbrev pub MayJoin : Limits → (ℕ → List Entry) → ℕ → List Entry → Entry → Type 0
MayJoin size images p records r = Rules size (updated images p (records ++ r ∷ [])) p records r

-- a doubtful record would meet the rules too
abbrev pub DoubtKept : Limits → (ℕ → List Entry) → ℕ → List Entry → Option Entry → Type 0
DoubtKept size images p records None = Unit {0}
DoubtKept size images p records (Some r) = MayJoin size images p records r

-- a held record would meet the rules too, and it has its cause
abbrev pub StateKept : Limits → (ℕ → List Entry) → ℕ → List Entry → State → Type 0
StateKept size images p records Ready = Unit {0}
StateKept size images p records (Storing r cause) =
    MayJoin size images p records r × IsCaused images r cause
StateKept size images p records (Down doubtful) = DoubtKept size images p records doubtful

-- If a node is counted for a name that is not certified, it has the message that is pending here.
abbrev pub AcksKept : (ℕ → List Entry) → List Entry → List (Label × ℕ) → Type 0
AcksKept images records acks =
    (x : Label) (q : ℕ) → has_name (cert records) x ≡ false → acked acks x q ≡ true
    → (m : Content) × (message_of (pend records) x ≡ Some m)
    × (has_pair (pend (images q)) x m ≡ true)

-- A node's stored records meet the rules, and so does the record that it holds. What it has counted
-- and broadcast is true.
pub record NodeKept (size : Limits) (images : ℕ → List Entry) (p : ℕ) (node : Node) : Type 0 where
  pub kept : Kept size images p [] node.records
  pub state : StateKept size images p node.records node.state
  pub acks : AcksKept images node.records node.acks
  pub broadcast : node.broadcast ≡ own p (pend node.records)

-- all nodes meet it
abbrev pub NodesKept : World → Type 0
NodesKept w = (p : ℕ) → NodeKept w.size (stored w) p (w.node p)

-- each of these pairs has a payload of at most MAX_PAYLOAD bytes
abbrev pub AreShort : List (Label × Content) → Type 0
AreShort pairs =
    (x : Label) (m : Content) → has_pair pairs x m ≡ true → length m.payload ≤ MAX_PAYLOAD

-- the doubtful record, if there is one, has such a payload
abbrev pub DoubtShort : Option Entry → Type 0
DoubtShort None = Unit {0}
DoubtShort (Some r) = AreShort (pend (r ∷ []))

-- every payload that a node's storage holds or may turn out to hold is within the limit
pub record NodeShort (node : Node) : Type 0 where
  pub stored : AreShort (pend node.records)
  pub doubtful : DoubtShort (doubt node.state)

-- this is so for every node
abbrev pub NodesShort : World → Type 0
NodesShort w = (p : ℕ) → NodeShort (w.node p)

-- the world keeps its rules and its limits: the invariant of a run
pub record IsKept (w : World) : Type 0 where
  pub nodes : NodesKept w
  pub short : NodesShort w
