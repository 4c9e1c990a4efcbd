-- Certified names are held in two parts. The lower part has a number for each sender, up to which
-- its names have no gap. The upper part has the names above the gaps. A name is in one of the parts
-- (`all_true`). A new name closes a gap (`closes`), or it goes to its place above one (`puts`). The
-- next name extends its sender's reach (`reach_joins`), and any other leaves it as it is
-- (`reach_stays`). Parts that hold the same names are equal (`same_low`, `same_above`). All this
-- rests on sorted lists, which are equal if they have the same elements (`rising_same`), and on
-- binary search (`found_is`, `absent_is`). From `urb_names` come the order of names and the reach.
-- Read the files in the order of the list below: sorted lists first, then the two parts, then a new
-- name.
mod Common
pub mod RisingSets
pub mod NameOrder
pub mod BinarySearches
pub mod PartMembers
pub mod SenderReaches
pub mod CertifiedParts
pub mod EqualParts
