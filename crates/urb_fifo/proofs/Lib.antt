-- The log of a node is what its certificates release. One more certificate appends the names that
-- it releases to the log (`release_goes_on`), and one that is there already appends none
-- (`release_stays`). The log holds each sender's certified names from 1 on without a gap
-- (`parts_of_release`). So its length is limited (`all_parts`). The invariant of the fields, and
-- the space that is promised, remain when a name is certified (`kept_certified`) or space is
-- reserved (`kept_reserved`). All this rests on laws of `urb_names`: what a log holds for each
-- sender (`part-released`), and what one more certificate releases (`released-more`). Read the
-- files in the order of the list below: rows of names, the release, lengths, and the invariant with
-- its space.
mod Common
pub mod NameRows
pub mod LogReleases
pub mod LogLengths
pub mod PromisedSpace
