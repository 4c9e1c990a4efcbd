-- What a house is, and what its calls do to it.
use Rattle.std.specs.Prelude.{List, [], if◌then◌else◌, ℕ, ◌+◌, ◌++◌, ◌-◌, ◌==◌, ◌^◌, ◌∷◌, ◌≡◌, ◌≢◌}
use Rattle.logbook.specs.Pages.{Book}
use Rattle.urb_group.specs.GroupViews.{GroupView}
use Rattle.urb_world.specs.Step.{Event}
use Rattle.urb_show.specs.Lists.{Lists, list_at, lists_in}
use Rattle.urb_show.specs.Readers.{ToldView}

-- The group, the lists that are published, the lists that were prepared for the next settling, the
-- number of events, and the events themselves.
pub record HouseView : Type 0 where
  pub group : GroupView
  pub published : Lists
  pub prepared : Lists
  pub events : ℕ
  pub past : List Event

-- what was opened: the group, and the two books that name its house, of its additions and of its
-- events
pub record OpenedView : Type 0 where
  pub group : GroupView
  pub book : Book
  pub history : Book

-- the count after one more event; it stays at its greatest value
abbrev pub next_count : ℕ → ℕ
next_count n = if n == 2 ^ 64 - 1 then n else n + 1

-- This event of the group is the last one of the past, and one more event is counted. What is
-- published and prepared stays.
pub record IsEvent (event : Event) (before after : HouseView) : Type 0 where
  pub published : after.published ≡ before.published
  pub prepared : after.prepared ≡ before.prepared
  pub events : after.events ≡ next_count before.events
  pub past : after.past ≡ before.past ++ event ∷ []

-- Entries of the node at this place may have been prepared, and nothing else changed.
pub record Grew (place : ℕ) (before after : HouseView) : Type 0 where
  pub group : after.group ≡ before.group
  pub events : after.events ≡ before.events
  pub past : after.past ≡ before.past
  pub published : after.published ≡ before.published
  pub others : (q : ℕ) → place ≢ q → list_at after.prepared q ≡ list_at before.prepared q

-- The node's published list is its entries, and each other list is the one that had been prepared.
-- The token names all lists that are published, and all events so far.
pub record Settled (place : ℕ) (before after : HouseView) (token : ToldView) : Type 0 where
  pub group : after.group ≡ before.group
  pub events : after.events ≡ before.events
  pub past : after.past ≡ before.past
  pub own : list_at after.published place ≡ list_at (lists_in after.group) place
  pub others : (q : ℕ) → place ≢ q → list_at after.published q ≡ list_at before.prepared q
  pub prepared : after.prepared ≡ after.published
  pub told : token.lists ≡ after.published
  pub until : token.past ≡ after.past

-- a house that was just opened: all that its group has delivered is published
abbrev pub opened_house : GroupView → Lists → HouseView
opened_house group base = record {
  group = group;
  published = base;
  prepared = base;
  events = 0;
  past = [];
}

-- what was opened has these books, these lists, and this group
pub record IsNamed (opened : OpenedView) (additions events : Book) (lists : Lists)
    (group : GroupView) : Type 0 where
  pub book : opened.book ≡ additions
  pub history : opened.history ≡ events
  pub base : lists_in opened.group ≡ lists
  pub origin : opened.group ≡ group
