-- What a stop of the whole process may leave, and how an opened group goes on from it.
use Rattle.std.specs.Prelude.{IsTrue, List, ℕ, ◌≡◌}
use Rattle.urb_world.specs.Step.{Submit, step}
use Rattle.urb_world.specs.World.{World, opened, stored}
use Rattle.urb_names.specs.ListPrefixes.{Begins}
use Rattle.urb_names.specs.LabelsAndContents.{Content, Label, Limits}
use Rattle.urb_names.specs.Nodes.{is_node}
use Rattle.urb_names.specs.Pairs.{has_pair}
use Rattle.urb_node.specs.Part.{Node}
use Rattle.urb_node.specs.Replies.{Same}
use Rattle.urb_node.specs.Steps.{doubt}
use Rattle.urb_node.specs.declared.answer.Answer.TheVariants.{Accepted}
use Rattle.urb_stable.specs.Entries.{Entry}
use Rattle.urb_stable.specs.Fitting.{Fits}
use Rattle.urb_stable.specs.DeliveredLogs.{entries, log}
use Rattle.urb_stable.specs.Records.{pend}
use Rattle.urb_stable.specs.StableStorage.{IsContents}

-- what a stop may leave of a node's storage: its records, or these with the held or doubtful record
abbrev pub MayLeave : Node → List Entry → Type 0
MayLeave node image = IsContents node.records (doubt node.state) image

-- These images of the nodes open a group with these limits that goes on from this world. They fit
-- together. Each log begins with the node's log in that world, its names with their messages. If a
-- node had stored a message of its own, a submit of it is accepted under its name.
pub record GoesOnUnder (size : Limits) (w : World) (images : ℕ → List Entry) : Type 0 where
  pub fits : Fits size images
  pub delivered : (p : ℕ) → Begins (log (stored w p)) (log (images p))
  pub entries : (p : ℕ) → Begins (entries (stored w p)) (entries (images p))
  pub again : (p : ℕ) (x : Label) (m : Content) → IsTrue (is_node w.size.n p) → x.sender ≡ p
      → IsTrue (has_pair (pend (stored w p)) x m)
      → (step (opened size images) (Submit p m)).0 ≡ Same (Accepted x)

-- these images open such a group with the same limits
abbrev pub GoesOnIn : World → (ℕ → List Entry) → Type 0
GoesOnIn w images = GoesOnUnder w.size w images

-- this is so of whatever a stop leaves of the nodes
abbrev pub AlwaysLeaves : World → ((ℕ → List Entry) → Type 0) → Type 0
AlwaysLeaves w Are =
    (images : ℕ → List Entry) → ((p : ℕ) → MayLeave (w.node p) (images p)) → Are images

-- whatever a stop leaves of each node, the group that opens from it goes on from this world
abbrev pub SurvivesStop : World → Type 0
SurvivesStop w = AlwaysLeaves w (GoesOnIn w)
