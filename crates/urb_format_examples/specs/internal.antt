pub mod FrameExamples
pub mod PacketExamples
pub mod SetExamples
