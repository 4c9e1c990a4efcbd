-- Histories, which exist only in proofs: the rule of a book, what a step says, and the history of
-- all additions.
use Rattle.std.specs.Prelude.{List, MatchBool, [], fold, length, true, ℕ, ◌++◌, ◌<◌, ◌==◌, ◌^◌, ◌∷◌}
use Rattle.std.specs.Prelude.{◌≡◌, ◌≤◌, ◌⊎◌}
use Rattle.logbook.specs.Pages.{Book, Cell, Named, Step, View}
use Rattle.urb_world.specs.Step.{Event}
use Rattle.urb_show.specs.Lists.{Lists}
use Rattle.urb_show.specs.declared.entry.Addition.{Addition}
use Rattle.urb_show.specs.Additions.{lists_of}
use Rattle.urb_show.specs.internal.Marks.{MarkView}

-- The first word of the book is the length of the history. The second word, which every book has,
-- stays 0.
pub record IsKept {E : Type 0} (cells : List Cell) (log : List E) : Type 0 where
  pub words : cells ≡ (length log, true) ∷ (0, true) ∷ []

-- the book's first word
abbrev pub head_of : Book → Named
head_of b = record { tracked = true; key = 0; book = b }

-- The entry was appended to all entries that had been seen. Or the history was longer than that,
-- and now the longer one is seen.
abbrev pub Adds : {E : Type 0} → Step E → View E ℕ → ℕ → View E ℕ → Type 0
Adds s v found w = MatchBool (found == s.old) (w.0 ≡ v.0 ++ s.ask ∷ []) (length w.0 ≡ found)

-- what is published: the lists, the history behind them, and the events until the last addition
pub record Issue : Type 0 where
  pub lists : Lists
  pub mark : MarkView Addition
  pub events : MarkView Event

-- the events until the last of these additions; none before the first one
abbrev pub events_of : Book → List Addition → MarkView Event
events_of history log =
    fold (λ events (a : Addition). a.events) (record { book = history; log = [] }) log

-- the lists of this history, in a house that has these two books and opened with these lists
abbrev pub issue_of : Book → Book → Lists → List Addition → Issue
issue_of book history base log = record {
  lists = lists_of base log;
  mark = record { book = book; log = log };
  events = events_of history log;
}

-- a history that can take no more entries
abbrev pub IsFull : {E : Type 0} → List E → Type 0
IsFull log = 2 ^ 62 ≤ length log

-- The longest history that the book was seen to have, and all additions of the publisher. Then
-- those that its writer has, and those that are published.
pub record PublisherView : Type 0 where
  pub known : List Addition
  pub all : List Addition
  pub queued : List Addition
  pub shown : List Addition

-- Nothing was added. The history is full, or the book was seen to have an addition that isn't the
-- publisher's.
pub record AddsNothing (before after : PublisherView) : Type 0 where
  pub kept : (after.all ≡ before.all) × (after.queued ≡ before.queued)
      × (after.shown ≡ before.shown)
  pub cause : IsFull before.all ⊎ (length before.all < length after.known)
