pub mod FuseCounts
