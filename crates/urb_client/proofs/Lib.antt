-- The protocol of clients. Bytes that are read as a request are its encoding (`asked_takes`). Bytes
-- that are read as a response are its encoding (`said_takes`), which is read as that response
-- (`said_again`). No input says two different things (`is_read_once`). A reader that asks on gets
-- every entry of the log once, in order (`is_read_whole`). A session answers one frame after the
-- other (`one_more`), and closes between two frames (`closes`) or breaks off. Read the encodings
-- first: ResponseParts, on which the others rest, RequestLaws, ResponseLaws and ResponseLimits.
-- Then read sessions: FramePieces, the file of `is_read_once`, SessionProgress, and ReceivedFrames
-- on the client's side. PageLists is about pages. FullReads, EntryLoop and EntryBytes are each
-- about one loop of the code.
mod Common
pub mod FullReads
pub mod EntryLoop
pub mod SingleReading
pub mod EntryBytes
pub mod ResponseParts
pub mod FramePieces
pub mod SessionProgress
pub mod RequestLaws
pub mod ResponseLaws
mod ResponseLimits
pub mod PageLists
mod ReceivedFrames
