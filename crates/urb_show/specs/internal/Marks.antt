-- Prefixes of the histories of books, which exist only in proofs.
use Rattle.std.specs.Prelude.{List}
use Rattle.logbook.specs.Pages.{Book}

-- a prefix of the history of a book
pub record MarkView (E : Type 0) : Type 0 where
  pub book : Book
  pub log : List E
