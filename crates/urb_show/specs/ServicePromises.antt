-- What the service keeps, whatever happens.
use Rattle.std.specs.Prelude.{ℕ}
use Rattle.urb_names.specs.ListPrefixes.{Begins}
use Rattle.urb_show.specs.Service.{Node, Service}

-- what the node had accepted, and what its log had, stays, perhaps with more after it
pub record Keeps (before after : Node) : Type 0 where
  pub list : Begins before.list after.list
  pub log : Begins before.log after.log

-- this is so of every node
abbrev pub AllKeep : Service → Service → Type 0
AllKeep before after = (p : ℕ) → Keeps (before.node p) (after.node p)
