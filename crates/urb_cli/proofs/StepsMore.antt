-- One more step after others.
use Rattle.urb_cli.proofs.Common.{List, Steps, [], refl, subst, ◌++◌, ◌∷◌, ◌≡◌}

module _ {S X : Type 0} (step : S → X → S → Type 0) where
  -- one step after others is one more of them
  pub one_step_more : (old mid new : S) (xs : List X) (x : X) → Steps step old xs mid
      → step mid x new → Steps step old (xs ++ x ∷ []) new
  one_step_more old mid new [] x so_far more =
      (new, subst (λ (from : S). step from x new) so_far more, refl)
  one_step_more old mid new (first ∷ xs) x so_far more =
      (so_far.0, so_far.1, one_step_more so_far.0 mid new xs x so_far.2 more)
