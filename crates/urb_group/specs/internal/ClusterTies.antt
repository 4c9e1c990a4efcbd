-- The draft at one place, and how the places are tied to the group.
use Rattle.std.specs.Prelude.{List, None, Option, length, slice_index_or, suc, zero, ℕ, ◌≡◌}
use Rattle.urb_stable.specs.PlacedRecords.{Placed}
use Rattle.urb_group.specs.GroupViews.{GroupView, IsSound}
use Rattle.urb_group.specs.GroupStores.{held_draft}

-- the draft that is kept for node p
abbrev pub draft_at : List (Option Placed) → ℕ → Option Placed
draft_at drafts zero = None
draft_at drafts (suc before) = slice_index_or drafts before None

-- there is a store and a place for each node, and its place has the draft that it holds
pub record IsTied (group : GroupView) (stores : ℕ) (drafts : List (Option Placed)) : Type 0 where
  pub sound : IsSound group
  pub all_stores : stores ≡ group.size.n
  pub all_places : length drafts ≡ group.size.n
  pub held : (p : ℕ) → draft_at drafts p ≡ held_draft group p
