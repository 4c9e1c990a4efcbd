-- A feed that begins has done no names, and ends with the last one.
use Rattle.std.proofs.Common.{List, [], ap, arith, length, sym, ℕ, ◌∙◌, ◌∷◌, ◌≡◌}
use Rattle.urb_feed.specs.Feeds.{FeedView, greatest, most_broadcast}
use Rattle.urb_names.specs.LabelsAndContents.{Limits}
use Rattle.urb_names.specs.Nodes.{nodes}
use Rattle.urb_names.specs.Names.{name}
use Rattle.urb_stable.specs.DeliveredLogs.{log}
use Rattle.urb_stable.specs.Entries.{Entry}
use Rattle.urb_turn.specs.internal.TurnExamples.{four}
use Rattle.urb_world.proofs.rounds.LastingCounts.{run-size}
use Rattle.urb_world.specs.RecoveryPlans.{after}
use Rattle.urb_world.specs.internal.Examples.{limits}
use Rattle.urb_turn_examples.proofs.worked.feeds_of_nodes.feeds_that_begin.Goals as goal

-- no node has delivered a name and stored no record
none : (records : List Entry) → 0 ≡ length records → name 1 1 ∷ [] ≡ log records → ⊥
none [] count delivered = absurd (cc)
none (r ∷ rs) count delivered = absurd (cc)

pub returns-clause-not_of_no_world : goal.returns-clause-not_of_no_world
returns-clause-not_of_no_world c h =
    let node = h.sound.shows.nodes 1 in none (h.sound.world.node 1).records node.count node.log

pub returns-clause-not_up_to_a_later_end : goal.returns-clause-not_up_to_a_later_end
returns-clause-not_up_to_a_later_end c shows h =
    let ends : 5 ≡ 0 = ap (λ (feed : FeedView). feed.end) (h.whole four shows) in
    absurd (omega (arith, ends))

pub returns-clause-not_behind_a_name : goal.returns-clause-not_behind_a_name
returns-clause-not_behind_a_name c h =
    let sound = h.begins.sound in
    let begins : 5 ≡ 0 =
    ap (λ (feed : FeedView). feed.after) (h.begins.whole sound.world sound.shows) in
    absurd (omega (arith, begins))

pub returns-clause-not_of_another_group : goal.returns-clause-not_of_another_group
returns-clause-not_of_another_group c w shows h =
    let v = after w h.past in
    let size : v.size ≡ limits 0 10 = run-size h.past w ∙ sym shows.size in
    let ends : 5 ≡ most_broadcast v =
    ap (λ (feed : FeedView). feed.end) (h.begins.whole v (h.leads w shows)) in
    let none : most_broadcast v ≡ 0 =
    ap (λ (s : Limits). greatest (λ (q : ℕ). length (v.node q).broadcast) (nodes s.n)) size in
    absurd (omega (arith, ends ∙ none))
