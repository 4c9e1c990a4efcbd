-- Words for the worked examples of readers: groups of four nodes, and what readers and houses know.
use Rattle.std.specs.Prelude.{List, None, [], ◌∷◌}
use Rattle.urb_group.specs.GroupViews.{GroupView}
use Rattle.urb_world.specs.Step.{Event}
use Rattle.urb_world.specs.World.{World, started}
use Rattle.urb_world.specs.internal.Examples.{limits, node_in}
use Rattle.urb_world.specs.internal.Scripts.{message}
use Rattle.urb_names.specs.Names.{name}
use Rattle.urb_node.specs.NodeViews.{no_view}
use Rattle.urb_node.specs.Part.{Storing}
use Rattle.urb_stable.specs.Entries.{Entry as Record}
use Rattle.urb_stable.specs.declared.record.Record.TheVariants.{PendCert}
use Rattle.urb_show.specs.Houses.{HouseView}
use Rattle.urb_show.specs.Lists.{Lists}
use Rattle.urb_show.specs.Readers.{ReaderView, ToldView}

-- a new group of four nodes
abbrev pub new_four : GroupView
new_four = record { size = limits 4 10; nodes = [] }

-- A group of four that shows no world: node 1 has a log, although it has stored nothing.
abbrev pub shows_none : GroupView
shows_none = record {
  size = limits 4 10;
  nodes = record no_view { log = name 1 1 ∷ [] } ∷ [];
}

-- a reader that saw the first lists, learnt the second ones, and knows these events
abbrev pub knowing : Lists → Lists → List Event → ReaderView
knowing seen told past = record { seen = seen; told = told; past = past }

-- a token for these lists and events
abbrev pub token_of : Lists → List Event → ToldView
token_of lists past = record { lists = lists; past = past }

-- a house that has published nothing, after these events
abbrev pub house_after : List Event → HouseView
house_after past =
    record { group = shows_none; published = []; prepared = []; events = 0; past = past }

-- a record of node 2's first message, certified
abbrev pub certified_of_two : Record
certified_of_two = PendCert (name 2 1) (message 7 1 "a")

-- a world of four whose nodes write this record, although node 2 has accepted no message
abbrev pub unaccepted : World
unaccepted = record (started (limits 4 10))
    { node = λ p. node_in (Storing certified_of_two None) [] }
