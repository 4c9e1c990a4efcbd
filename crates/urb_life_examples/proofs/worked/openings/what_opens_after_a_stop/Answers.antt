-- A new group opens from empty images, and no group opens from a payload that is too long.
use Rattle.std.proofs.Common.{List, [], ap, arith, length, refl, subst, suc, sym, zero, ℕ}
use Rattle.std.proofs.Common.{◌<◌, ◌∙◌, ◌∷◌, ◌≡◌, ◌≤◌}
use Rattle.urb_names.proofs.OrderedPairs.{has_pair-head}
use Rattle.urb_names.specs.LabelsAndContents.{Limits}
use Rattle.urb_names.specs.Names.{name}
use Rattle.urb_names.specs.declared.limits.TheConstants.{MAX_PAYLOAD}
use Rattle.urb_node.specs.NodeViews.{ShowsNode}
use Rattle.urb_node.specs.Part.{opened_node}
use Rattle.urb_stable.specs.Entries.{Entry}
use Rattle.urb_world.proofs.steps.Runs.{new-kept}
use Rattle.urb_world.specs.World.{image_of, opened}
use Rattle.urb_world.specs.internal.Examples.{limits, pending}
use Rattle.urb_group.proofs.shown.ShownWorlds.{shows-new}
use Rattle.urb_group.specs.GroupViews.{IsSound, Shows, view_of}
use Rattle.urb_turn.specs.internal.TurnExamples.{four, four_views}
use Rattle.urb_life_examples.specs.internal.RunExamples.{four_with, holding_payload}
use Rattle.urb_life_examples.proofs.worked.openings.what_opens_after_a_stop.Goals as goal

some-none : {A : Type 0} (x : A) (xs : List A) → x ∷ xs ≡ [] → ⊥
some-none x xs e = cc

abbrev four-empty : List (List Entry)
four-empty = [] ∷ [] ∷ [] ∷ [] ∷ []

none : (p : ℕ) → image_of four-empty p ≡ []
none zero = refl
none (suc zero) = refl
none (suc (suc zero)) = refl
none (suc (suc (suc zero))) = refl
none (suc (suc (suc (suc zero)))) = refl
none (suc (suc (suc (suc (suc p))))) = refl

-- new views show what is opened from empty images
shows-empty : Shows four_views (opened (limits 4 10) (image_of four-empty))
shows-empty = record {
  size = refl;
  nodes = λ p. subst (λ (rs : List Entry). ShowsNode (limits 4 10) p (view_of four_views p)
      (opened_node p rs)) (sym (none p)) ((shows-new (limits 4 10)).nodes p);
}

-- no sound group has such a payload
too-long : (payload : List ℕ) → MAX_PAYLOAD < length payload → IsSound (four_with payload) → ⊥
too-long payload long sound =
    let there = (sound.shows.nodes 1).pairs (name 1 1) (holding_payload payload) in
    let short = (sound.kept.short 1).stored (name 1 1) (holding_payload payload)
    (sym there ∙ has_pair-head (name 1 1, holding_payload payload) []) in
    absurd (omega (arith, long, short))

pub returns-clause-four_new_nodes : goal.returns-clause-four_new_nodes
returns-clause-four_new_nodes c = record {
  nodes = omega (arith);
  one_each = refl;
  left = none;
  fits = refl;
  sound = record { world = four; shows = shows-new (limits 4 10); kept = new-kept (limits 4 10) };
  shows = shows-empty;
}

pub returns-clause-not_a_node_less : goal.returns-clause-not_a_node_less
returns-clause-not_a_node_less c h =
    let more : 4 ≤ 3 = h.nodes in absurd (omega (arith, more))

pub returns-clause-not_without_an_image_for_each : goal.returns-clause-not_without_an_image_for_each
returns-clause-not_without_an_image_for_each c h =
    let same : 0 ≡ 4 = h.one_each in absurd (omega (arith, same))

pub returns-clause-not_with_a_record_more : goal.returns-clause-not_with_a_record_more
returns-clause-not_with_a_record_more c h = some-none (pending 1 1) [] (h.left 1)

pub returns-clause-not_as_another_group : goal.returns-clause-not_as_another_group
returns-clause-not_as_another_group c h =
    let same : 3 ≡ 4 = ap (λ (s : Limits). s.n) h.shows.size in absurd (omega (arith, same))

pub returns-clause-not_with_a_long_payload : goal.returns-clause-not_with_a_long_payload
returns-clause-not_with_a_long_payload c payload long h = too-long payload long h.sound
