-- Which nodes are counted for a name, and when they are a majority. Counting a new node makes a
-- majority exactly if one node more than those counted is one (`with_new`). A node above n makes no
-- difference (`with_other`). The four lemmas from `answer_again` on say what a call returns in each
-- case. Space that is promised for a name remains when a node is counted (`kept_noted`) and when a
-- name is certified (`kept_certified`). All this rests on counts of nodes in `urb_window`
-- (`count_one_more`) and on rising lists in `urb_names` (`any_insert`). Read the files in the order
-- of the list below: majorities, then the promised space.
pub mod Majorities
pub mod PromisedSpace
