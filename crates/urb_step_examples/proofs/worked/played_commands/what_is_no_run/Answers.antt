-- No commands are no events, and end in the world where they begin.
use Rattle.std.proofs.Common.{Bool, List, Some, [], ap, arith, false, length, refl, subst, sym}
use Rattle.std.proofs.Common.{true, ⊎_elim, ◌∷◌, ◌≡◌}
use Rattle.std.proofs.lemmas.Bool.{false≢true}
use Rattle.std.proofs.lemmas.Grind.{common_steps}
use Rattle.std.specs.Prelude.{IsTrue, Option}
use Rattle.urb_names.specs.Names.{name}
use Rattle.urb_names.specs.LabelsAndContents.{Content, Label}
use Rattle.urb_node.specs.Replies.{Reply}
use Rattle.urb_group.specs.GroupViews.{GroupView}
use Rattle.urb_world.specs.Step.{Event, run}
use Rattle.urb_world.specs.World.{World, stored}
use Rattle.urb_world.specs.internal.Scripts.{message}
use Rattle.std.specs.Prelude.{◌&&◌}
use Rattle.urb_names.specs.ListPrefixes.{OneBegins}
use Rattle.urb_stable.specs.DeliveredLogs.{entries_of}
use Rattle.urb_group.specs.Commands.{AreEvents, At_end, By_event, By_none}
use Rattle.urb_group.specs.PlayedCommands.{Runs}
use Rattle.urb_group.specs.declared.command.Command.{Command}
use Rattle.urb_step_examples.specs.internal.GroupExamples.{disagreeing}
use Rattle.urb_step_examples.proofs.worked.played_commands.what_is_no_run.Goals as goal

-- no replies are no events
none : (commands : List (Command (Unit {0}))) (replies : List Reply) (events : List Event)
    (seen : List Reply) → replies ≡ [] → AreEvents commands replies events seen → events ≡ []
none _ _ _ _ e (At_end commands) = refl
none _ _ _ _ e (By_event what commands reply replies event events seen is are) = absurd (cc)
none _ _ _ _ e (By_none what commands reply replies events seen is are) = absurd (cc)

-- no events end where they begin
ended : (w v : World) (events : List Event) (seen : List Reply) → events ≡ []
    → run w events ≡ (seen, v) → w ≡ v
unfolding run
ended w v events seen e ran =
    ap (λ (end : List Reply × World). end.1)
    (subst (λ (es : List Event). run w es ≡ (seen, v)) e ran)

-- where no commands end
end-of : (w : World) (group : GroupView) (h : Runs {A = Unit {0}} w [] [] group) → w ≡ h.after
end-of w group h = ended w h.after h.events h.seen (none _ _ _ _ refl h.are) h.ran

-- two messages under one name
differ : (xs ys : List (Label × Option Content))
    → xs ≡ (name 1 1, Some (message 7 1 "")) ∷ [] → ys ≡ (name 1 1, Some (message 7 1 "b")) ∷ []
    → OneBegins xs ys → ⊥
differ xs ys first second h =
    ⊎_elim (λ one. let e = one.1 in grind (arith, common_steps, first, second, e))
    (λ other. let e = other.1 in grind (arith, common_steps, first, second, e)) h

-- what a node that hasn't stored a pair doesn't say
untrue : (has other : Bool) → false ≡ has → IsTrue (has && other) → ⊥
untrue true other none says = absurd (cc)
untrue false other none says = absurd (false≢true says)

pub returns-clause-a_message_of_another : goal.returns-clause-a_message_of_another
returns-clause-a_message_of_another c bytes is h =
    untrue _ _ ((h.shows.nodes 1).pairs (name 1 1) (message 7 1 "b")) h.truth.0.0

pub returns-clause-to_a_record : goal.returns-clause-to_a_record
returns-clause-to_a_record c h =
    let count =
    subst (λ (v : World). 1 ≡ length (v.node 1).records) (sym (end-of _ _ h))
    (h.shows.nodes 1).count in absurd (omega (arith, count))

pub returns-clause-to_nodes_that_disagree : goal.returns-clause-to_nodes_that_disagree
returns-clause-to_nodes_that_disagree c h =
    differ _ _ refl refl
    (subst (λ (v : World). OneBegins (entries_of 1 (stored disagreeing 1))
    (entries_of 1 (stored v 2))) (sym (end-of _ _ h)) (h.agree 1 2 1))
