-- The first rule that one record breaks, as the passes find it.
use Rattle.std.specs.Prelude.{List, Option, [], find, not, ℕ, ◌∷◌}
use Rattle.urb_names.specs.LabelsAndContents.{Limits}
use Rattle.urb_names.specs.declared.refusal.Rule.{Rule}
use Rattle.urb_names.specs.declared.refusal.Rule.TheVariants.{A, B, C, D}
use Rattle.urb_stable.specs.Entries.{Entry}
use Rattle.urb_stable.specs.Fitting.{keeps}

-- the first rule that a record breaks, if it breaks one
abbrev pub first_broken : Limits → (ℕ → List Entry) → ℕ → List Entry → Entry → Option Rule
first_broken size images p earlier r =
    find (λ rule. not (keeps size images p earlier r rule)) (A ∷ B ∷ C ∷ D ∷ [])
