pub mod ParsedResponses
pub mod SessionPieces
pub mod MissingFrames
