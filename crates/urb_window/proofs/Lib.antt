-- Windows hold a value under each name, in a row for each sender. A row has the values of the
-- numbers 1, 2, 3, .. up to a gap, and numbered values above it. The value under a name is the one
-- in its sender's row (`value_rows`). A row with one more pair adds one entry at its place
-- (`placed_rows`), and the entries are in order of name (`rising_entries`). Marks are windows of
-- masks: a mask has a bit for each node. Marking a node for a name adds their pair at its place
-- (`marks_more`). Rows that promise space for a name preserve the invariant (`kept_reserved`), and
-- a name has space once space was made for it (`roomy_with`). All this rests on the order of names,
-- and on how far a sender's numbers go, both in `urb_names`. Read the files in the order of the
-- list below. Six are about one row, the next six about the rows of all senders, and the last six
-- about masks.
mod Common
pub mod BinarySearches
pub mod NumberedValues
pub mod ElementPlaces
pub mod ReplacedValues
pub mod GapClosings
pub mod PreservedRows
pub mod NameSearches
pub mod EntryParts
pub mod EntryOrder
pub mod RowChanges
pub mod PreservedWindows
pub mod RemainingEntries
pub mod NodeCounts
pub mod MaskBits
pub mod AckOrder
pub mod MaskPairs
pub mod NewMarks
pub mod MaskClearings
