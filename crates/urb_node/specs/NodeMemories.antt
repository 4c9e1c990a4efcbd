-- A node in each of its three states, as contracts see it, and the nodes of a world that it shows.
use Rattle.std.specs.Prelude.{ℕ, suc, List, [], Option, None, ◌≡◌}
use Rattle.urb_names.specs.LabelsAndContents.{Limits, Label, Content}
use Rattle.urb_stable.specs.Entries.{Entry}
use Rattle.urb_stable.specs.PlacedRecords.{Placed}
use Rattle.urb_node.specs.Part.{Node, State, Ready, Storing, Down}
use Rattle.urb_node.specs.declared.cause.Cause.{Cause}
use Rattle.urb_node.specs.NodeViews.{NodeView, ShowsNode}

-- what a node holds in memory of what it has stored and counted
pub record Memory : Type 0 where
  pub limits : Limits  -- of its group
  pub node : ℕ
  pub pairs : List (Label × Content)  -- the pending pairs, in order of name
  pub certified : List Label  -- the certified names, in order
  pub log : List Label
  pub count : ℕ  -- how many records are stored
  pub acks : List (Label × ℕ)  -- the acknowledgements counted
  pub heard : List (Label × ℕ)  -- the certificates heard
  pub cursor : Option Label

-- a node that holds a record for its store to keep, and the packet that caused it
pub record Holding : Type 0 where
  pub memory : Memory
  pub entry : Entry
  pub cause : Option Cause

-- a node that is down, and the record that its store may have
pub record Fallen : Type 0 where
  pub memory : Memory
  pub doubt : Option Entry

-- what the memory shows of a node in this state
abbrev pub view_in : State → Memory → NodeView
view_in state a =
    record {
      pairs = a.pairs;
      certified = a.certified;
      log = a.log;
      count = a.count;
      state = state;
      acks = a.acks;
      heard = a.heard;
      cursor = a.cursor;
    }

-- the memory, in this state, shows this node of a world
abbrev pub ShowsIn : State → Memory → Node → Type 0
ShowsIn state a node = ShowsNode a.limits a.node (view_in state a) node

-- a ready node shows this node of a world
abbrev pub ShowsReady : Memory → Node → Type 0
ShowsReady a node = ShowsIn Ready a node

-- a node that holds a draft shows this node of a world
abbrev pub ShowsStoring : Holding → Node → Type 0
ShowsStoring h node = ShowsIn (Storing h.entry h.cause) h.memory node

-- a node that is down shows this node of a world
abbrev pub ShowsDown : Fallen → Node → Type 0
ShowsDown f node = ShowsIn (Down f.doubt) f.memory node

-- both belong to one node in one group
abbrev pub IsSameNode : Memory → Memory → Type 0
IsSameNode old new = (new.limits ≡ old.limits) × (new.node ≡ old.node)

-- the held draft
abbrev pub draft_of : Holding → Placed
draft_of h = record { node = h.memory.node; pos = suc h.memory.count; entry = h.entry }

-- the memory of a node of a group that has stored nothing
abbrev pub new_memory : Limits → ℕ → Memory
new_memory limits p = record {
  limits = limits;
  node = p;
  pairs = [];
  certified = [];
  log =
      [];
  count = 0;
  acks = [];
  heard = [];
  cursor = None;
}
