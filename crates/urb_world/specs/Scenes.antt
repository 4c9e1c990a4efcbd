-- A group's world together with the storage of its nodes, as scripts and reopenings use it.
use Rattle.std.specs.Prelude.{List, None, Option, Some, [], if◌then◌else◌, length, nat_lt, ℕ, ◌++◌}
use Rattle.std.specs.Prelude.{◌==◌, ◌||◌, ◌∷◌}
use Rattle.urb_world.specs.Step.{Commit, Event}
use Rattle.urb_world.specs.World.{World, updated}
use Rattle.urb_names.specs.Names.{name}
use Rattle.urb_names.specs.LabelsAndContents.{Content}
use Rattle.urb_names.specs.declared.flags.Flags.{Flags}
use Rattle.urb_names.specs.declared.limits.TheConstants.{MAX_PLAIN_PAYLOAD}
use Rattle.urb_node.specs.Part.{Down, Node, Ready, State, Storing}
use Rattle.urb_node.specs.Steps.{next_position}
use Rattle.urb_stable.specs.Entries.{Entry}
use Rattle.urb_stable.specs.declared.record.Record.TheVariants.{Cert}

-- The flags of this number: 1 if a certificate is reported, 2 if one was heard, 3 for both, 0 for
-- neither.
abbrev pub flags_of : ℕ → Flags
flags_of number = record {
  certified = (number == 1) || (number == 3);
  heard =
      (number == 2) || (number == 3);
}

-- a group's world, and what the storage of each node holds
pub record Scene : Type 0 where
  pub world : World
  pub storage : ℕ → List Entry

-- the record that a node holds
abbrev pub held_by : State → List Entry
held_by Ready = []
held_by (Storing entry cause) = entry ∷ []
held_by (Down doubtful) = []

-- what storage holds once it took the record that p holds
abbrev pub keeping : ℕ → Scene → ℕ → List Entry
keeping p scene = updated scene.storage p (scene.storage p ++ held_by (scene.world.node p).state)

-- the receipt of the held record, or of some record if none is held
abbrev pub receipt : ℕ → Node → State → Event
receipt p node Ready = Commit p 1 (Cert (name 1 1))
receipt p node (Storing entry cause) = Commit p (next_position node) entry
receipt p node (Down doubtful) = Commit p 1 (Cert (name 1 1))

-- this message, or one that nobody sent
abbrev pub or_nothing : Option Content → Content
or_nothing None = record { client = 1; number = 1; payload = [] }
or_nothing (Some m) = m

-- The flags of a packet of a message: these, or none. If none are given and the payload is too long
-- for version one, they are 0.
abbrev pub flags_with : Option Flags → Content → Option Flags
flags_with None m = if nat_lt MAX_PLAIN_PAYLOAD (length m.payload) then Some (flags_of 0) else None
flags_with (Some flags) m = Some flags
