pub mod LineReads
pub mod HexDigits
pub mod CommandLines
pub mod ReplyTexts
pub mod ShownScenes
pub mod LineAnswers
