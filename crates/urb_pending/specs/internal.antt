pub mod ClientRows
pub mod ClientIndex
pub mod FieldInvariant
