-- When a turn has a draft.
use Rattle.std.specs.Prelude.{Bool, true, false}
use Rattle.urb_turn.specs.declared.turn_stages.Stage.{Stage}
use Rattle.urb_turn.specs.declared.turn_stages.Stage.TheVariants as stage

-- whether the store has to keep a draft
abbrev pub is_drafted : Stage → Bool
is_drafted (stage.Drafted draft) = true
is_drafted _ = false
