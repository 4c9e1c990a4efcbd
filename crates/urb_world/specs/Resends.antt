-- Ticks over pairs that come and go. Each tick resends some of the pairs that are due at its time,
-- and moves the cursor on.
use Rattle.std.specs.Prelude.{Option, List, [], not, ℕ, ◌++◌, ◌∷◌, ◌≡◌, true}
use Rattle.std.specs.List.{AllByRecursion, prefix_len}
use Rattle.urb_names.specs.CyclicOrder.{are_rising, cyclic, last_name, resent}
use Rattle.urb_names.specs.Names.{same_name}
use Rattle.urb_names.specs.LabelsAndContents.{Content, Label}
use Rattle.urb_names.specs.Pairs.{has_pair}

-- the cursor after a tick, if these pairs were due
abbrev pub cursor_next : Option Label → List (Label × Content) → Option Label
cursor_next cursor due = last_name cursor (resent cursor due)

-- the pairs that ticks resend, one for each list of pairs that are due
abbrev pub resent_over : Option Label → List (List (Label × Content)) → List (Label × Content)
resent_over cursor [] = []
resent_over cursor (due ∷ dues) = resent cursor due ++ resent_over (cursor_next cursor due) dues

-- how many of all pairs come before this name in cyclic order
abbrev pub turn_of : List (Label × Content) → Option Label → Label → ℕ
turn_of all cursor x = prefix_len (λ pair. not (same_name pair.0 x)) (cyclic cursor all)

-- Some of all pairs are due, in rising order, and the pair of x and m is among them.
pub record IsDueAmong (all : List (Label × Content)) (x : Label) (m : Content)
    (due : List (Label × Content)) : Type 0 where
  pub rises : are_rising due ≡ true
  pub among : AllByRecursion (λ pair. has_pair all pair.0 pair.1 ≡ true) due
  pub there : has_pair due x m ≡ true
