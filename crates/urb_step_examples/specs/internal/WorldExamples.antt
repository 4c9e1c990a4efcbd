-- Words of the worked examples: worlds and records of runs, or of no run, and feeds.
use Rattle.std.specs.Prelude.{[], ℕ}
use Rattle.urb_names.specs.Names.{name}
use Rattle.urb_stable.specs.Entries.{Entry}
use Rattle.urb_stable.specs.declared.record.Record.TheVariants.{Pend}
use Rattle.urb_feed.specs.Feeds.{FeedView}
use Rattle.urb_world.specs.World.{World, image_of, opened}
use Rattle.urb_world.specs.internal.Examples.{filled, held_by_three, limits}

-- a record of the first message of node 1, with a payload over the limit
abbrev pub long_pending : Entry
long_pending = Pend (name 1 1) (filled 7 1 16385)

-- a world of n nodes, of which the first three have certified the first message of node 1
abbrev pub held_in : ℕ → World
held_in n = opened (limits n 10) (image_of (held_by_three []))

-- a feed of node 1 that has done as many numbers as it ends with
abbrev pub fed : ℕ → FeedView
fed count = record { target = 1; after = count; end = count }
