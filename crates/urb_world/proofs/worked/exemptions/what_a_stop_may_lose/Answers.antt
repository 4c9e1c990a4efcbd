-- What was stored isn't a node's own pair, or isn't of a node of the group.
use Rattle.urb_world.proofs.Common.{Begins, Bool, Content, Entry, Label, List, Ready, [], entries}
use Rattle.urb_world.proofs.Common.{false, false≢true, has_pair, if◌then◌else◌, image_of, is_node}
use Rattle.urb_world.proofs.Common.{log, message, name, node_in, pend, refl, same_message}
use Rattle.urb_world.proofs.Common.{same_name, subst, suc, true, zero, ℕ, ◌&&◌, ◌==◌, ◌||◌, ◌∷◌}
use Rattle.urb_world.proofs.Common.{◌≡◌}
use Rattle.urb_world.specs.internal.Examples.{pending}
use Rattle.urb_world.proofs.worked.exemptions.what_a_stop_may_lose.Goals as goal

-- what a node of the group has stored, and what another one has
abbrev records_if : Bool → List Entry
records_if is =
    (if is then node_in Ready [] else node_in Ready (pending 8 1 ∷ [])).records

log_if : (is : Bool) → Begins (log (records_if is)) []
log_if true = ([], refl)
log_if false = ([], refl)

entries_if : (is : Bool) → Begins (entries (records_if is)) []
entries_if true = ([], refl)
entries_if false = ([], refl)

pub returns-clause-of_an_eighth_node : goal.returns-clause-of_an_eighth_node
returns-clause-of_an_eighth_node c = record {
  fits = refl;
  delivered = λ p. log_if (is_node 7 p);
  entries = λ p. entries_if (is_node 7 p);
  again = λ p x m is own has. absurd (false≢true
      (subst (λ (b : Bool). has_pair (pend (records_if b)) x m ≡ true) is has));
}

-- a pair of node 2
abbrev images : ℕ → List Entry
images = image_of ((pending 2 1 ∷ []) ∷ [])

log_at : (p : ℕ) → Begins (log (images p)) []
log_at zero = ([], refl)
log_at (suc zero) = ([], refl)
log_at (suc (suc p)) = ([], refl)

entries_at : (p : ℕ) → Begins (entries (images p)) []
entries_at zero = ([], refl)
entries_at (suc zero) = ([], refl)
entries_at (suc (suc p)) = ([], refl)

-- no node holds a pair of its own
none_own : (p : ℕ) (x : Label) (m : Content) → x.sender ≡ p
    → has_pair (pend (images p)) x m ≡ true → ⊥
none_own zero x m own has = false≢true has
none_own (suc zero) x m own has =
    false≢true (subst
    (λ (s : ℕ). (((2 == s) && (1 == x.seq)) && same_message (message 7 1 "") m || false) ≡ true)
    own has)
none_own (suc (suc p)) x m own has = false≢true has

pub returns-clause-of_another_sender : goal.returns-clause-of_another_sender
returns-clause-of_another_sender c = record {
  fits = refl;
  delivered = log_at;
  entries = entries_at;
  again = λ p x m is own has. absurd (none_own p x m own has);
}
