-- A stop leaves nothing of a new group, and nothing fits together.
use Rattle.urb_world.proofs.Common.{Entry, List, SurvivesStop, [], entries, false≢true, flat_map}
use Rattle.urb_world.proofs.Common.{limits, log, misfits_behind, nodes, refl, started, subst, sym}
use Rattle.urb_world.proofs.Common.{ℕ, ◌++◌, ◌∷◌, ◌≡◌}
use Rattle.urb_world.proofs.worked.prospects.what_survives.Goals as goal

survives : (n : ℕ) → SurvivesStop (started (limits n 10))
survives n images left = record {
  fits = none (nodes n);
  delivered = λ p. (log (images p), refl);
  entries = λ p. (entries (images p), refl);
  again = λ p x m is own has. absurd (false≢true has);
}
  where
    none : (ps : List ℕ)
        → flat_map (λ p. misfits_behind (limits n 10) images p [] (images p)) ps ≡ []
    none [] = refl
    none (p ∷ ps) =
        subst (λ (rs : List Entry). misfits_behind (limits n 10) images p [] rs
        ++ flat_map (λ p. misfits_behind (limits n 10) images p [] (images p)) ps ≡ [])
        (sym (left p)) (none ps)

pub returns-clause-a_new_group_of_four : goal.returns-clause-a_new_group_of_four
returns-clause-a_new_group_of_four c = survives 4

pub returns-clause-a_new_group_of_seven : goal.returns-clause-a_new_group_of_seven
returns-clause-a_new_group_of_seven c = survives 7
