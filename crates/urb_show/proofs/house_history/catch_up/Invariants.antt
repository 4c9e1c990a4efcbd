use Rattle.urb_show.proofs.Common.{IsPrefix, length, ◌-◌, ◌≡◌}
use Rattle.urb_show.proofs.house_history.catch_up.Given as goal

-- the shared history is a prefix of the past
abbrev pub invariant-loop-told : goal.invariant-loop-told
invariant-loop-told g l = IsPrefix l.told l.past × (l.events ≡ length l.past)

abbrev pub decreases-loop-told : goal.decreases-loop-told
decreases-loop-told g l = l.events - length l.told
