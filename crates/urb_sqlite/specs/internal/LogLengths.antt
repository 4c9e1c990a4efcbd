-- How long a log gets.
use Rattle.std.specs.Prelude.{◌≡◌, ◌/◌, ℕ}
use Rattle.sqlite_wal.specs.PageSize.{IsPageSize}
use Rattle.urb_sqlite.specs.declared.node_journals.TheConstants.{LOG_BYTES, NEW_LOG_PAGES}

-- How many pages a log takes before they are copied into the database file. It is 16,384,000
-- divided by this page size, or 16,000 if no page has this size.
pub record AreLogPages (size pages : ℕ) : Type 0 where
  pub sized : IsPageSize size → pages ≡ LOG_BYTES / size
  pub new : ¬ IsPageSize size → pages ≡ NEW_LOG_PAGES
