-- What nodes did since their workers gave the House back last.
use Rattle.std.specs.Prelude.{IfSome, List, None, Option, Some, [], ℕ, ◌+◌, ◌∷◌, ◌≡◌}
use Rattle.urb_world.specs.Step.{Event}
use Rattle.urb_turn.specs.Counting.{TallyView}
use Rattle.urb_turn.specs.NodeStores.{HasRested}

-- the end of the last loan of node n's worker is known, and the node has rested since then
abbrev pub RestsSince : ℕ → Option (List Event) → List Event → Type 0
RestsSince n None past = ⊥
RestsSince n (Some end) past = HasRested n end past

-- these are the tallies of the workers of nodes from this number on, and each node has rested since
-- its worker's last loan
abbrev pub AllRestSince : ℕ → List TallyView → List Event → Type 0
AllRestSince first [] past = Unit {0}
AllRestSince first (tally ∷ tallies) past =
    RestsSince first tally.last past × AllRestSince (first + 1) tallies past

-- no worker has had a loan after this moment
abbrev pub AllBegin : List TallyView → List Event → Type 0
AllBegin [] past = Unit {0}
AllBegin (tally ∷ tallies) past =
    IfSome tally.last (λ end. end ≡ past) × AllBegin tallies past
