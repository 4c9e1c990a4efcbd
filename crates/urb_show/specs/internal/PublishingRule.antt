-- The rule for publishing: nothing that was seen is taken back. A reader's view is the length of
-- the history that it saw.
use Rattle.std.specs.Prelude.{List, length, ℕ, ◌≡◌, ◌≤◌}
use Rattle.logbook.specs.Pages.{Book}
use Rattle.urb_group.specs.GroupViews.{GroupView, IsSound}
use Rattle.urb_show.specs.Additions.{lists_of}
use Rattle.urb_show.specs.DeliveredLists.{AreDeliveredBy}
use Rattle.urb_show.specs.declared.entry.Addition.{Addition}
use Rattle.urb_show.specs.internal.History.{Issue, events_of}
use Rattle.urb_show.specs.Lists.{Agree, Lists}
use lib.ListN.{get_elem?}
use mathlib.Core.List.{IsPrefix}
use mathlib.Core.Option.{some}

-- what the name of a house says: its two books, the group that it opened with, and its lists
pub record NameView : Type 0 where
  pub book : Book
  pub history : Book
  pub origin : GroupView
  pub base : Lists

-- The value belongs to this house. Its lists are the lists of its history, and they agree. The
-- nodes had delivered them by the events that are published with them.
pub record IsIssue (names : NameView) (x : Issue) : Type 0 where
  pub named : x.mark.book ≡ names.book
  pub lists : x.lists ≡ lists_of names.base x.mark.log
  pub agree : Agree x.lists
  pub sound : IsSound names.origin
  pub events_named : x.events.book ≡ names.history
  pub delivered : AreDeliveredBy names.origin x.events.log x.lists

-- the nodes had delivered these additions' lists by the events that come with the last one
pub record IsTimely (names : NameView) (log : List Addition) : Type 0 where
  pub named : (events_of names.history log).book ≡ names.history
  pub delivered : AreDeliveredBy names.origin (events_of names.history log).log
      (lists_of names.base log)

-- this is so after each of these additions
abbrev pub AreTimely : NameView → List Addition → Type 0
AreTimely names log = (part : List Addition) → IsPrefix part log → IsTimely names part

-- no view is above n
abbrev pub AllBelow : ℕ → List ℕ → Type 0
AllBelow n views = (seat v : ℕ) → get_elem? views seat ≡ some v → v ≤ n

-- the published history is no shorter than any that a reader has seen
abbrev pub Keeps : NameView → Issue → List ℕ → Type 0
Keeps names x views = IsIssue names x × AllBelow (length x.mark.log) views

-- The step from a reader's view before to its view after, by what was published before and after
-- the step.
abbrev pub Rises : NameView → ℕ → Issue → Issue → ℕ → Type 0
Rises names v x y w = IsIssue names x × (v ≤ length x.mark.log) × (w ≡ length y.mark.log)
