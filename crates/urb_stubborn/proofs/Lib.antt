-- A tick sends the packets of pairs that are due, in cyclic order from a cursor. A walk over the
-- due pairs sends their packets, and together they are the tick (`tick_around`, `tick_straight`). A
-- tick has at most OUTBOX_MAX packets (`few_sent`). The first name after the cursor is the first
-- due one if it is due (`first_due`). When more certificates were heard, no more names are due
-- (`due_less`). So a node counts for each sender up to which number no name is due, and these
-- counts remain right (`kept_heard`). All this rests on rising pairs in `urb_names` and
-- `urb_pending`. Read the files in the order of the list below. The first two are about packets and
-- due names. The next three are about the names that a tick visits, and the last two about a whole
-- tick.
mod Common
pub mod SentPackets
pub mod DueNames
pub mod PairsAfterCursor
pub mod SettledCounts
pub mod PairRanges
pub mod TickProgress
pub mod LoneNodes
