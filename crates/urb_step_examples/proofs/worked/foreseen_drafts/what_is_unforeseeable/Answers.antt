-- What a tick of a ready node does isn't unforeseeable.
use Rattle.std.proofs.Common.{[], arith, inl, inr, refl, ◌≡◌}
use Rattle.urb_foresight.specs.ForeseenDrafts.{IsUnforeseeable}
use Rattle.urb_foresight.specs.internal.ForesightExamples.{four_nodes}
use Rattle.urb_group.specs.GroupViews.{Shows}
use Rattle.urb_step_examples.specs.internal.GroupExamples.{new_group}
use Rattle.urb_world.specs.Step.{Tick}
use Rattle.urb_step_examples.proofs.worked.foreseen_drafts.what_is_unforeseeable.Goals as goal

foreseeable : Shows (new_group 4) four_nodes → IsUnforeseeable (new_group 4) 1 [] (Tick 1) → ⊥
foreseeable shows (inl full) = let none : 0 ≡ 16 = full in absurd (omega (arith, none))
foreseeable shows (inr (inl down)) = down four_nodes shows (refl, refl)
foreseeable shows (inr (inr (inl hangs))) = hangs
foreseeable shows (inr (inr (inr says))) = says

pub returns-clause-no_tick_of_a_ready_node : goal.returns-clause-no_tick_of_a_ready_node
returns-clause-no_tick_of_a_ready_node c shows reached h = foreseeable shows h
