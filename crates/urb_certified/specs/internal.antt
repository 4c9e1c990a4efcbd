pub mod StrictOrders
pub mod PartInvariant
pub mod FieldInvariant
