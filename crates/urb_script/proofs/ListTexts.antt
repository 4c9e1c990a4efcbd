-- Lists written one element after the other.
use Rattle.std.proofs.Common.{◌≡◌, ℕ, ◌+◌, List, ◌++◌, Some, drop, sym, ap, ◌∙◌}
use Rattle.std.proofs.Common.{append_assoc, add-one}
use Rattle.std.specs.List.{flat_map, slice_get}
use Rattle.urb_names.proofs.Places.{drop_get}

-- one more is written
pub one_more : {X : Type 0} (f : X → List ℕ) (done whole : List ℕ) (xs : List X) (at : ℕ) (x : X)
    → slice_get xs at ≡ Some x
    → done ++ flat_map f (drop at xs) ≡ whole
    → (done ++ f x) ++ flat_map f (drop (at + 1) xs) ≡ whole
one_more f done whole xs at x e so_far =
    append_assoc done (f x) (flat_map f (drop (at + 1) xs))
    ∙ ap (λ (n : ℕ). done ++ (f x ++ flat_map f (drop n xs))) (add-one at)
    ∙ ap (λ ys. done ++ flat_map f ys) (sym (drop_get xs at x e))
    ∙ so_far
