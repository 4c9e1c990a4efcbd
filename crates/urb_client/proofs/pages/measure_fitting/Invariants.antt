use Rattle.urb_client.proofs.Common.{LISTING_HEAD, LONGEST_FRAME, take, ◌+◌, ◌≡◌, ◌≤◌}
use Rattle.urb_client.proofs.PageLists.{size}
use Rattle.urb_client.proofs.pages.measure_fitting.Given as goal

-- how many entries there are so far, and how many bytes they take, for which there is room
abbrev pub invariant-loop-message : goal.invariant-loop-message
invariant-loop-message g l = record {
  count : l.count ≡ l.message-index;
  used : LISTING_HEAD + size (take l.message-index l.entries) ≡ l.used;
  room : l.used ≤ LONGEST_FRAME;
}
