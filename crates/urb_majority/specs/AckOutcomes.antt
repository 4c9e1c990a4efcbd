-- What an acknowledgement and a certificate change, and what an acknowledgement returns.
use Rattle.std.specs.Prelude.{ℕ, Bool, not, ◌&&◌, if◌then◌else◌}
use Rattle.urb_names.specs.LabelsAndContents.{Label}
use Rattle.urb_names.specs.Names.{name_lt, has_name}
use Rattle.urb_names.specs.Nodes.{majority_passes}
use Rattle.urb_names.specs.Acknowledgements.{acked, with_ack}
use Rattle.urb_names.specs.RisingLists.{placed, reserved_for}
use Rattle.urb_majority.specs.Acks.{AckSet, ack_lt}
use Rattle.urb_majority.specs.declared.acks.Noted.{Noted}
use Rattle.urb_majority.specs.declared.acks.Noted.TheVariants.{Again, Counted, Reached}

-- whether the nodes counted for the name are a majority
abbrev pub has_majority : AckSet → Label → Bool
has_majority a x = majority_passes a.limits.n (acked a.counted x)

-- whether they are a majority once this node is counted too
abbrev pub has_majority_with : AckSet → Label → ℕ → Bool
has_majority_with a x q = majority_passes a.limits.n (acked (with_ack a.counted x q) x)

-- Again if the node is counted already; Reached if it completes a majority; otherwise Counted
abbrev pub answer_of : AckSet → Label → ℕ → Noted
answer_of a x q =
    if acked a.counted x q then Again
    else if has_majority_with a x q && not (has_majority a x) then Reached
    else Counted

-- the set with the node counted for the name: the pair goes to its place, and nothing changes if it
-- is there already
abbrev pub counting : AckSet → Label → ℕ → AckSet
counting a x q =
    if acked a.counted x q then a
    else record a { counted = placed ack_lt a.counted (x, q); reserved = reserved_for a.reserved x }

-- the set with the name certified: it goes to its place, and nothing changes if it is there already
abbrev pub certifying : AckSet → Label → AckSet
certifying a x =
    if has_name a.certified x then a
    else record a { certified = placed name_lt a.certified x; reserved = reserved_for a.reserved x }
