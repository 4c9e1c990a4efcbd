-- Texts pushed one after the other, as a loop does.
use Rattle.urb_cli.proofs.Common.{List, add-one, ap, append_assoc, drop, drop-cons, flat_map}
use Rattle.urb_cli.proofs.Common.{flat_map-cons, get_or, length, suc, sym, ℕ, ◌++◌, ◌+◌, ◌<◌, ◌∙◌}
use Rattle.urb_cli.proofs.Common.{◌∷◌, ◌≡◌}

-- one more text is pushed
pub one_more : {X : Type 0} (f : X → List ℕ) (old new whole : List ℕ) (xs : List X) (i : ℕ) (x : X)
    → i < length xs → x ≡ get_or xs i x → new ≡ old ++ f x
    → old ++ flat_map f (drop i xs) ≡ whole → new ++ flat_map f (drop (i + 1) xs) ≡ whole
one_more f old new whole xs i x lt here pushed so_far =
    let left : drop i xs ≡ x ∷ drop (i + 1) xs =
    rw add-one (drop-cons xs i x lt ∙ ap (λ e. e ∷ drop (suc i) xs) (sym here)) in
    ap (λ text. text ++ flat_map f (drop (i + 1) xs)) pushed
    ∙ append_assoc old (f x) (flat_map f (drop (i + 1) xs))
    ∙ ap (λ text. old ++ text) (sym (ap (flat_map f) left ∙ flat_map-cons f x (drop (i + 1) xs)))
    ∙ so_far
