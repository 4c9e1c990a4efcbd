-- Words for the worked examples of predictions: worlds of four nodes.
use Rattle.std.specs.Prelude.{List, None, [], ◌∷◌}
use Rattle.urb_names.specs.Names.{name}
use Rattle.urb_node.specs.Part.{Down}
use Rattle.urb_stable.specs.Entries.{Entry}
use Rattle.urb_world.specs.World.{World, image_of, opened, started, updated}
use Rattle.urb_world.specs.internal.Examples.{limits, node_in, pending}

-- a new world of four nodes
abbrev pub four_nodes : World
four_nodes = started (limits 4 10)

-- four nodes that have stored these images
abbrev pub having_stored : List (List Entry) → World
having_stored images = opened (limits 4 10) (image_of images)

-- the same, and node 1 has counted nodes 1 and 2 for its first name
abbrev pub having_counted : List (List Entry) → World
having_counted images = record (having_stored images) {
  node = updated (having_stored images).node 1 (record ((having_stored images).node 1) {
    acks = (name 1 1, 1) ∷ (name 1 1, 2) ∷ [];
  });
}

-- four nodes that are down
abbrev pub all_down : World
all_down = record four_nodes { node = λ p. node_in (Down None) [] }

-- the image that has node 1's first record alone
abbrev pub the_first : List Entry
the_first = pending 1 1 ∷ []
