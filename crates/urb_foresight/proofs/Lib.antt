-- Once the records before it are stored, a call does what was foreseen of it. A record that it
-- drafts is the one foreseen, and it is drafted exactly if it may follow. Read FollowingRecords
-- first: a record that may follow a node's records may join once the ones before it are stored
-- (`joins`), and another one may not (`joins-not`). Other nodes may have stored more by then, so
-- the second is about the images that they had (`images_then`). DraftedEvents says what an event
-- drafts, by its outcome. ForeseenSubmits and ForeseenArrivals have the cases of a submit and of a
-- packet. HeldPackets says which packets a node takes. A majority holds each certified pair, so a
-- certificate of such a pair is stored if it may not follow. ForeseenCalls puts all together
-- (`submit-foreseen`, `pair-answers`, `arrival-answers`). CallLists is about the calls of a list.
-- From urb_world come the rules of each world of a run, and that a node counts itself
-- (`reached-sound`).
mod CountedRecords
mod FollowingRecords
mod DraftedEvents
mod ForeseenSubmits
mod ForeseenArrivals
mod HeldPackets
pub mod ForeseenCalls
mod CallLists
