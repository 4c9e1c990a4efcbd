-- Words for the worked examples of houses: one that is settled.
use Rattle.std.specs.Prelude.{[], ◌∷◌}
use Rattle.urb_names.specs.Names.{name}
use Rattle.urb_world.specs.Step.{Tick}
use Rattle.urb_world.specs.internal.Scripts.{message}
use Rattle.urb_group.specs.GroupViews.{GroupView}
use Rattle.urb_show.specs.Houses.{HouseView}
use Rattle.urb_show.specs.Lists.{Lists}
use Rattle.urb_show.specs.internal.Examples.{group_of, told}

-- a group whose node 1 has delivered its first message
abbrev pub first_of_one : GroupView
first_of_one = group_of ((name 1 1, message 7 1 "a") ∷ []) (name 1 1 ∷ [])

-- a list with that message, and one with node 2's first message
abbrev pub both_lists : Lists
both_lists = (told 1 1 "a" ∷ []) ∷ (told 2 1 "b" ∷ []) ∷ []

-- a house that has prepared node 2's first message, and published nothing
abbrev pub unsettled : HouseView
unsettled = record {
  group = first_of_one;
  published = [] ∷ [] ∷ [];
  prepared = [] ∷ (told 2 1 "b" ∷ []) ∷ [];
  events = 3;
  past = Tick 1 ∷ [];
}

-- the same once it is settled for node 1
abbrev pub settled : HouseView
settled = record unsettled { published = both_lists; prepared = both_lists }
