-- Words for the worked examples: entries, and a group of one node.
use Prim.Native.String.{String}
use Rattle.std.specs.Prelude.{List, None, [], length, ℕ, ◌∷◌}
use Rattle.urb_world.specs.internal.Scripts.{message}
use Rattle.urb_group.specs.GroupViews.{GroupView}
use Rattle.urb_names.specs.Names.{name}
use Rattle.urb_names.specs.LabelsAndContents.{Content, Label}
use Rattle.urb_node.specs.Part.{Ready}
use Rattle.urb_show.specs.declared.entry.Entry.{Entry}

-- the entry of this sender and number, with this message
abbrev pub entry : ℕ → ℕ → Content → Entry
entry sender number m = record { name = name sender number; message = m }

-- the same entry, with a message of client 7 with this payload
abbrev pub told : ℕ → ℕ → String → Entry
told sender number letters = entry sender number (message 7 number letters)

-- a group of one node with these pairs and this log
abbrev pub group_of : List (Label × Content) → List Label → GroupView
group_of pairs log = record {
  size = record { n = 1; cap = 10 };
  nodes = record {
    pairs = pairs;
    certified = log;
    log = log;
    count = length pairs;
    state =
        Ready;
    acks = [];
    heard = [];
    cursor = None;
  } ∷ [];
}
