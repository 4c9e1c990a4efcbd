pub mod SpaceInvariant
