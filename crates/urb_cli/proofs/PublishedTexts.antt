-- The texts that a publisher publishes, one after the other.
use Rattle.urb_cli.proofs.Common.{Asked, IsPublished, List, Option, Said, Steps, [], ℕ, ◌++◌, ◌∷◌}
use Rattle.urb_cli.specs.Publishing.{Progress}
use Rattle.urb_cli.proofs.StepsMore.{one_step_more}

module _ {T C : Type 0} (gives : T → List ℕ → T → Type 0) (ends : T → T → Type 0)
    (calls : C → Asked → Option Said → C → Type 0) (client : ℕ) where
  -- one more text is published
  pub one_more_text : (begin old new : Progress T C)
      → ((done : List (List ℕ × ℕ)) × Steps (IsPublished gives ends calls client) begin done old)
      → ((one : List ℕ × ℕ) × IsPublished gives ends calls client old one new)
      → ((done : List (List ℕ × ℕ)) × Steps (IsPublished gives ends calls client) begin done new)
  one_more_text begin old new so_far more = (
    so_far.0 ++ more.0 ∷ [],
    one_step_more (IsPublished gives ends calls client) begin old new so_far.0 more.0 so_far.1
        more.1,
  )
