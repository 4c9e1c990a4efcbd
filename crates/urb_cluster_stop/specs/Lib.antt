pub mod ClusterStops
pub mod internal
