-- Whether records may follow the stored ones of a node. The checks of src/tail_records.rt and
-- src/tail_rules.rt go over lists (TailRecords) and over all nodes (TailHolders). TailAnswers joins
-- their answers about one record, and `follows-is` (FollowedRecords) those about one record after
-- another. This folder uses the folder shown.
pub mod TailRecords
pub mod TailHolders
pub mod TailAnswers
pub mod FollowedRecords
