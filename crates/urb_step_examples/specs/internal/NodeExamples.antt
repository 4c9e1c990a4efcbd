-- Words of the worked examples: what one node of three holds in memory, in each of its states.
use Rattle.std.specs.Prelude.{List, None, Option, Some, [], false, true, ℕ, ◌∷◌}
use Rattle.urb_names.specs.CarriedPackets.{Carried}
use Rattle.urb_names.specs.Names.{name}
use Rattle.urb_node.specs.NodeMemories.{Fallen, Holding, Memory, new_memory}
use Rattle.urb_node.specs.Part.{Down, Node, Storing, opened_node}
use Rattle.urb_node.specs.Replies.{Done}
use Rattle.urb_stable.specs.Entries.{Entry}
use Rattle.urb_stable.specs.PlacedRecords.{Placed}
use Rattle.urb_world.specs.internal.Examples.{empty_packet, limits, pending}

-- what node p of three holds in memory that has stored nothing
abbrev pub new_node : ℕ → Memory
new_node p = new_memory (limits 3 10) p

-- what node 1 holds in memory that shows no node: it has stored no record, and has delivered a name
abbrev pub of_no_node : Memory
of_no_node = record (new_node 1) { log = name 1 1 ∷ [] }

-- this memory, with a draft of the first message of node 1
abbrev pub holding_first : Memory → Holding
holding_first memory = record { memory = memory; entry = pending 1 1; cause = None }

-- this memory, once its node is down, with this record in doubt
abbrev pub down_with : Memory → Option Entry → Fallen
down_with memory doubt = record { memory = memory; doubt = doubt }

-- a new node 1 that holds a draft of its first message
abbrev pub storing_first : Node
storing_first = record (opened_node 1 []) { state = Storing (pending 1 1) None }

-- a new node 1 that is down
abbrev pub fallen_node : Node
fallen_node = record (opened_node 1 []) { state = Down None }

-- a draft or a receipt of the first message of node 1, at this position
abbrev pub placed_at : ℕ → Placed
placed_at position = record { node = 1; pos = position; entry = pending 1 1 }

-- what is told of the first message of node 1 in a group of three once it is stored, with as many
-- names released
abbrev pub done_with : ℕ → Done
done_with released = record {
  accepted = true;
  name = name 1 1;
  sent = empty_packet 0 1 2 ∷ empty_packet 0 1 3 ∷ [];
  released = released;
}
