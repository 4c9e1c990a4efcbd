-- How the parts of a house belong together. This is for proofs.
use Rattle.std.specs.Prelude.{List, length, map, ℕ, ◌+◌, ◌-◌, ◌<◌, ◌^◌, ◌≡◌}
use Rattle.urb_group.specs.GroupViews.{GroupView, IsSound}
use Rattle.urb_world.specs.Step.{Event}
use Rattle.urb_show.specs.Houses.{Grew, HouseView}
use Rattle.urb_show.specs.Lists.{Begins, Lists, list_at, lists_in}
use Rattle.urb_show.specs.Pasts.{IsLedTo}

-- The group is sound, with a place for each node. What was prepared is a prefix of what its nodes
-- have delivered, with a list for each node. The house keeps the lengths of these lists.
pub record IsHouse (group : GroupView) (prepared : Lists) (counts : List ℕ) : Type 0 where
  pub sound : IsSound group
  pub counted : length group.nodes ≡ group.size.n
  pub begins : Begins prepared (lists_in group)
  pub lists : length prepared ≡ length group.nodes
  pub lengths : counts ≡ map length prepared

-- The group at the opening was sound, and the past leads from it to the group. Below its greatest
-- value the count is the past's length.
pub record HasPast (opened : GroupView) (past : List Event) (events : ℕ)
    (group : GroupView) : Type 0 where
  pub sound : IsSound opened
  pub leads : IsLedTo opened past group
  pub counted : events < 2 ^ 64 - 1 → events ≡ length past

-- not all entries of the node at this place are prepared yet
abbrev pub Lacks : ℕ → HouseView → Type 0
Lacks place house =
    length (list_at house.prepared place) < length (list_at (lists_in house.group) place)

-- one more entry of the node at this place was prepared
pub record GrewByOne (place : ℕ) (before after : HouseView) : Type 0 where
  pub grew : Grew place before after
  pub longer : length (list_at after.prepared place) ≡ length (list_at before.prepared place) + 1
