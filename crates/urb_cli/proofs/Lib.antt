-- The commands of a client. Proved here: what a client prints follows the responses one by one.
-- StepsMore adds one step to a list of steps, and FailedCalls one call to those without a response.
-- Read them first. FollowedPages and PublishedTexts do so for one more page (`one_more_page`) and
-- for one more text (`one_more_text`). AnsweredStatuses, NodeStatuses and StreamEnds say what a
-- status tells (`was_accepted`, `node_status`, `done_by_status`). PayloadDigits, PushedLines and
-- TextTests have one lemma each, on how bytes are shown.
mod Common
mod PayloadDigits
mod PushedLines
mod StepsMore
mod FailedCalls
mod TextTests
mod StreamEnds
mod AnsweredStatuses
mod NodeStatuses
mod FollowedPages
mod PublishedTexts
