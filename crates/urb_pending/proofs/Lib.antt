-- A node's pending pairs, in order of name, and an index of its own messages by client. Adding a
-- pair with a new name gives a pending set (`still_pending_set`). Adding it to the fields as well,
-- with its number in the index, preserves their invariant (`kept_with`). An index grows with the
-- messages (`index_grows`), and a binary search finds a client's row in it (`row_found`). A pending
-- set has at most as many pairs as the nodes times the cap (`length_bounded`). The next name in
-- cyclic order is the first after the cursor, or else the first of all (`first_cyclic`). All this
-- rests on the order of names and on rising lists, both in `urb_names`. Read the files in the order
-- of the list below. Five are about pairs, the next three about the rows of clients, and the last
-- two about what calls find and add.
mod Common
pub mod InsertedPairs
pub mod OwnPairs
pub mod PairLimits
pub mod NextNames
pub mod PreservedSets
pub mod ClientRowPlaces
pub mod IndexGrowth
pub mod ClientRowChanges
pub mod PairSearches
pub mod PreservedFields
