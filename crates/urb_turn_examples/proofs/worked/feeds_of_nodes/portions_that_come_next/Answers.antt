-- Nothing is needed of no numbers.
use Rattle.std.proofs.Common.{List, [], ap, arith, refl, sym, ℕ, ◌∙◌, ◌∷◌, ◌≡◌}
use Rattle.std.specs.Prelude.{flat_map}
use Rattle.urb_feed.specs.MissingNames.{needed_from, needed_of}
use Rattle.urb_names.specs.CarriedPackets.{Carried}
use Rattle.urb_names.specs.LabelsAndContents.{Limits}
use Rattle.urb_names.specs.Nodes.{nodes}
use Rattle.urb_world.proofs.rounds.LastingCounts.{run-size}
use Rattle.urb_world.specs.RecoveryPlans.{after}
use Rattle.urb_world.specs.World.{World}
use Rattle.urb_world.specs.internal.Examples.{empty_packet, limits}
use Rattle.urb_turn_examples.proofs.worked.feeds_of_nodes.portions_that_come_next.Goals as goal

some-none : {A : Type 0} (x : A) (xs : List A) → x ∷ xs ≡ [] → ⊥
some-none x xs e = cc

-- whatever the senders are
needs-none : (w : World) (senders : List ℕ) → flat_map (needed_of w 1 1 0) senders ≡ []
needs-none w [] = refl
needs-none w (s ∷ senders) = needs-none w senders

pub returns-clause-no_packets_without_a_number : goal.returns-clause-no_packets_without_a_number
returns-clause-no_packets_without_a_number c h =
    some-none (empty_packet 0 2 1) []
    (h.portion.needed h.sound.world h.sound.shows
    ∙ needs-none h.sound.world (nodes h.sound.world.size.n))

pub returns-clause-not_of_another_target : goal.returns-clause-not_of_another_target
returns-clause-not_of_another_target c h =
    let same : 2 ≡ 1 = h.portion.same.0 in absurd (omega (arith, same))

pub returns-clause-no_packets_of_another_group : goal.returns-clause-no_packets_of_another_group
returns-clause-no_packets_of_another_group c w shows h =
    let v = after w h.past in
    let size : v.size ≡ limits 0 10 = run-size h.past w ∙ sym shows.size in
    let none : needed_from v 1 1 5 ≡ [] =
    ap (λ (s : Limits). flat_map (needed_of v 1 1 5) (nodes s.n)) size in
    some-none (empty_packet 0 2 1) [] (h.portion.needed v (h.leads w shows) ∙ none)
