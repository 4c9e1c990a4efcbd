-- A stop leaves the first record alone before the call, and both after it.
use Rattle.std.proofs.Common.{List, None, [], inr, refl, ◌∷◌, ◌≡◌}
use Rattle.urb_store_examples.specs.internal.SeenStores.{pending}
use Rattle.urb_store_examples.proofs.worked.given_records.what_a_store_gives.Goals as goal

two-one : {A : Type 0} (x y : A) → x ∷ y ∷ [] ≡ x ∷ [] → ⊥
two-one x y e = cc

pub returns-clause-more_that_a_stop_leaves : goal.returns-clause-more_that_a_stop_leaves
returns-clause-more_that_a_stop_leaves c h =
    two-one _ _ (((h.lasts refl (inr refl)).contents (pending 1 ∷ []) None (refl, tt)).0)
