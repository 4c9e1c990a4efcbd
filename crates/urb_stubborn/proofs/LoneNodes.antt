-- A node alone in its group: nothing is ever due.
use Rattle.urb_stubborn.proofs.Common.{Content, Label, List, Resending, [], ap, due_pairs, filter}
use Rattle.urb_stubborn.proofs.Common.{flat_map, is_due, last_name, refl, resent, sym, tick_packets}
use Rattle.urb_stubborn.proofs.Common.{ℕ, ◌∙◌, ◌∷◌, ◌≡◌}
use Rattle.urb_stubborn.specs.Resends.{ticked}
use Rattle.urb_stubborn.proofs.TickProgress.{sends}

none_due : (r : Resending) (pairs : List (Label × Content)) → r.limits.n ≡ 1 → r.node ≡ 1
    → due_pairs r pairs ≡ []
none_due r [] e f = refl
none_due r (p ∷ ps) e f =
    ap (λ (n : ℕ). filter (λ pair. is_due n r.node r.heard pair.0) (p ∷ ps)) e
    ∙ (ap (λ (q : ℕ). filter (λ pair. is_due 1 q r.heard pair.0) (p ∷ ps)) f
    ∙ (sym (ap (λ (q : ℕ). filter (λ pair. is_due 1 q r.heard pair.0) ps) f)
    ∙ (sym (ap (λ (n : ℕ). filter (λ pair. is_due n r.node r.heard pair.0) ps) e)
    ∙ none_due r ps e f)))

-- a tick of the only node of a group sends nothing and changes nothing
pub tick_alone : (r : Resending) (pairs : List (Label × Content)) (certified : List Label)
    → r.limits.n ≡ 1 → r.node ≡ 1 → ([] ≡ tick_packets r pairs certified) × (r ≡ ticked r pairs)
tick_alone r pairs certified e f =
    let none : due_pairs r pairs ≡ [] = none_due r pairs e f in (
      sym (ap (λ ps. flat_map (sends r certified) (resent r.cursor ps)) none),
      sym (ap (λ ps. record r { cursor = last_name r.cursor (resent r.cursor ps) }) none),
    )
