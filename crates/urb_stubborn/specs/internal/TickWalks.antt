-- How a tick visits the due names.
use Rattle.std.specs.Prelude.{◌≡◌, ◌-◌, ◌≤◌, ◌++◌, Bool, List, None, Option, Some, false, filter}
use Rattle.std.specs.Prelude.{flat_map, length, not, true}
use Rattle.urb_names.specs.CarriedPackets.{Carried, due_of, is_due, to_unheard}
use Rattle.urb_names.specs.CyclicOrder.{is_after, last_name, resent}
use Rattle.urb_names.specs.LabelsAndContents.{Content, Label}
use Rattle.urb_names.specs.Names.{name_lt}
use Rattle.urb_stubborn.specs.Resends.{Resending, tick_packets}
use Rattle.urb_stubborn.specs.declared.resend.TickTurn.{TickTurn}

-- the pending pairs that are due
abbrev pub due_pairs : Resending → List (Label × Content) → List (Label × Content)
due_pairs r pairs = due_of r.limits.n r.node r.heard pairs

-- the pairs after a cursor
abbrev pub behind : Option Label → List (Label × Content) → List (Label × Content)
behind cursor pairs = filter (λ pair. is_after cursor pair.0) pairs

-- whether a name doesn't come after the last one, if there is a last one
abbrev pub is_within : Option Label → Label → Bool
is_within None x = true
is_within (Some last) x = not (name_lt last x)

-- the pairs after a cursor that don't come after the last name
abbrev pub between : Option Label → Option Label → List (Label × Content) → List (Label × Content)
between from last pairs = filter (λ pair. is_within last pair.0) (behind from pairs)

-- from the name up to the end, no name of its sender is due
pub record IsPassed (r : Resending) (x end : Label) : Type 0 where
  pub sender : end.sender ≡ x.sender
  pub forward : x.seq ≤ end.seq
  pub settled : (y : Label) → y.sender ≡ x.sender → x.seq ≤ y.seq → y.seq ≤ end.seq
      → is_due r.limits.n r.node r.heard y ≡ false

-- the packets of these pairs were sent, and the turn has that many fewer names left
pub record IsWalked (r : Resending) (certified : List Label) (sent : List (Label × Content))
    (turn : TickTurn) (old : List Carried) (after : TickTurn) (new : List Carried) : Type 0 where
  pub packets : new ≡ old ++ flat_map (to_unheard r.limits.n r.node certified r.heard) sent
  pub left : after.left ≡ turn.left - length sent
  pub cursor : after.cursor ≡ last_name turn.cursor sent

-- these are the packets of a tick, and this is its last name
pub record IsTick (r : Resending) (pairs : List (Label × Content)) (certified : List Label)
    (after : TickTurn) (sent : List Carried) : Type 0 where
  pub packets : sent ≡ tick_packets r pairs certified
  pub cursor : after.cursor ≡ last_name r.cursor (resent r.cursor (due_pairs r pairs))
