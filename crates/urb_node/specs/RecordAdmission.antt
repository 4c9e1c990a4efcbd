-- Which record a node may store next, and which pair may come to it, given what it holds in memory.
use Rattle.std.specs.Prelude.{List, Some, true, ℕ, ◌≡◌, ◌≤◌}
use Rattle.urb_names.specs.LabelsAndContents.{Content, Label, Limits}
use Rattle.urb_names.specs.Pairs.{has_pair, message_of, own}
use Rattle.urb_stable.specs.Entries.{Entry}
use Rattle.urb_stable.specs.Fitting.{is_in_turn, is_new_to}

-- after these pending pairs and certified names of node p, the record keeps the rules about its own
-- image
pub record IsNext (size : Limits) (p : ℕ) (pairs : List (Label × Content)) (certified : List Label)
    (r : Entry) : Type 0 where
  pub new : is_new_to size pairs certified r ≡ true
  pub in_turn : is_in_turn p (own p pairs) r ≡ true

-- The pair may come to node p, which holds these pairs. Its name is in range. If the name is p's
-- own, p holds the pair. If p holds the name, it has this message.
pub record MayArrive (size : Limits) (p : ℕ) (pairs : List (Label × Content)) (x : Label)
    (m : Content) : Type 0 where
  pub sender : x.sender ≤ size.n
  pub seq : x.seq ≤ size.cap
  pub mine : x.sender ≡ p → has_pair pairs x m ≡ true
  pub same : (o : Content) → message_of pairs x ≡ Some o → o ≡ m
