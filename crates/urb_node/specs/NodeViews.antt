-- What a node holds in memory, and which node of a world it shows.
use Rattle.std.specs.Prelude.{List, None, Option, [], false, length, ℕ, ◌≡◌}
use Rattle.urb_names.specs.Acknowledgements.{acked}
use Rattle.urb_names.specs.Names.{has_name}
use Rattle.urb_names.specs.LabelsAndContents.{Content, Label, Limits}
use Rattle.urb_names.specs.Pairs.{has_pair, own}
use Rattle.urb_node.specs.Part.{Node, Ready, State}
use Rattle.urb_stable.specs.Fitting.{KeepsOwn}
use Rattle.urb_stable.specs.DeliveredLogs.{log}
use Rattle.urb_stable.specs.Records.{cert, pend}

-- what a node holds in memory
pub record NodeView : Type 0 where
  pub pairs : List (Label × Content)  -- the pending pairs
  pub certified : List Label  -- the names that are certified
  pub log : List Label
  pub count : ℕ  -- how many records are stored
  pub state : State
  pub acks : List (Label × ℕ)  -- the acknowledgements of the names that are not certified
  pub heard : List (Label × ℕ)  -- the certificates heard
  pub cursor : Option Label

-- a node that holds nothing
abbrev pub no_view : NodeView
no_view = record {
  pairs = [];
  certified = [];
  log = [];
  count = 0;
  state = Ready;
  acks =
      [];
  heard = [];
  cursor = None;
}

-- The memory holds this node. Pairs, certified names, acknowledgements and certificates heard are
-- compared as sets.
pub record ShowsNode (size : Limits) (p : ℕ) (view : NodeView) (node : Node) : Type 0 where
  pub pairs : (x : Label) (m : Content) → has_pair view.pairs x m ≡ has_pair (pend node.records) x m
  pub certified : (x : Label) → has_name view.certified x ≡ has_name (cert node.records) x
  pub log : view.log ≡ log node.records
  pub count : view.count ≡ length node.records
  pub state : view.state ≡ node.state
  pub cursor : view.cursor ≡ node.cursor
  pub acks : (x : Label) (q : ℕ) → has_name (cert node.records) x ≡ false
      → acked view.acks x q ≡ acked node.acks x q
  pub heard : (x : Label) (q : ℕ) → acked view.heard x q ≡ acked node.heard x q
  pub rules : KeepsOwn size p [] node.records
  pub broadcast : node.broadcast ≡ own p (pend node.records)
