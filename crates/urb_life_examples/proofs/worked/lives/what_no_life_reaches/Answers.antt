-- A life keeps each node's records, the rules, and at least as many nodes.
use Rattle.std.proofs.Common.{List, [], ap, arith, inl, inr, le_refl, le_trans, refl, subst, sym, ℕ}
use Rattle.std.proofs.Common.{◌∙◌, ◌∷◌, ◌≡◌, ◌≤◌}
use Rattle.std.proofs.lemmas.Bool.{false≢true}
use Rattle.urb_names.specs.LabelsAndContents.{Limits}
use Rattle.urb_names.specs.ListPrefixes.{Begins}
use Rattle.urb_stable.proofs.Contents.{IsEither, contents-either}
use Rattle.urb_stable.specs.Entries.{Entry}
use Rattle.urb_node.specs.Part.{Node}
use Rattle.urb_node.specs.Steps.{doubt}
use Rattle.urb_world.proofs.steps.DraftsInSteps.{step-size}
use Rattle.urb_world.proofs.steps.Growth.{begins-itself, begins-push, begins-trans, run-goes_on}
use Rattle.urb_world.proofs.steps.Runs.{new-kept, run-kept}
use Rattle.urb_world.specs.ProcessStops.{MayLeave}
use Rattle.urb_world.specs.RecoveryPlans.{after}
use Rattle.urb_world.specs.RunInvariant.{IsKept}
use Rattle.urb_world.specs.Step.{Event, run, step}
use Rattle.urb_world.specs.World.{World, image_of, opened, started, stored}
use Rattle.urb_world.specs.internal.Examples.{limits, pending}
use Rattle.urb_group.proofs.shown.AgreeingWorlds.{sound-kept}
use Rattle.urb_group.proofs.stops.StoredWorlds.{stored-begins, stored-kept}
use Rattle.urb_daemon.specs.Lives.{Lives, Runs, Starts, Stays, Stores}
use Rattle.urb_life_examples.specs.internal.ExampleWorlds.{holding_one}
use Rattle.urb_life_examples.proofs.worked.lives.what_no_life_reaches.Goals as goal

-- a run changes no limits
run-size : (w : World) (events : List Event) → (after w events).size.n ≡ w.size.n
unfolding run
run-size w [] = refl
run-size w (event ∷ events) =
    run-size (step w event).1 events ∙ ap (λ (s : Limits). s.n) (step-size w event)

-- no node is lost
lives-size : (w v : World) → Lives w v → w.size.n ≤ v.size.n
lives-size w _ Stays = le_refl w.size.n
lives-size w _ (Runs v events l) =
    subst (λ (n : ℕ). w.size.n ≤ n) (sym (run-size v events)) (lives-size w v l)
lives-size w _ (Stores v u l is) =
    subst (λ (s : Limits). w.size.n ≤ s.n) (sym is.size) (lives-size w v l)
lives-size w _ (Starts v size images group l h) = le_trans (lives-size w v l) h.nodes

-- what a stop leaves of a node begins with its records
left-begins : (node : Node) (image : List Entry) → MayLeave node image
    → Begins node.records image
left-begins node image left = at (contents-either node.records (doubt node.state) image left)
  where
    at : IsEither node.records (doubt node.state) image → Begins node.records image
    at (inl e) =
        subst (λ (rs : List Entry). Begins node.records rs) (sym e) (begins-itself node.records)
    at (inr e) =
        subst (λ (rs : List Entry). Begins node.records rs) (sym e.2)
        (begins-push node.records e.0)

-- no record is lost
lives-begin : (w v : World) → Lives w v → (p : ℕ) → Begins (stored w p) (stored v p)
lives-begin w _ Stays p = begins-itself (stored w p)
lives-begin w _ (Runs v events l) p =
    begins-trans (stored w p) (stored v p) (stored (after v events) p) (lives-begin w v l p)
    ((run-goes_on v (after v events) events (run v events).0 refl).records p)
lives-begin w _ (Stores v u l is) p =
    begins-trans (stored w p) (stored v p) (stored u p) (lives-begin w v l p)
    (stored-begins v u is p)
lives-begin w _ (Starts v size images group l h) p =
    begins-trans (stored w p) (stored v p) (image_of images p) (lives-begin w v l p)
    (left-begins (v.node p) (image_of images p) (h.left p))

-- no record is a misfit
lives-kept : (w v : World) → Lives w v → IsKept w → IsKept v
lives-kept w _ Stays kept = kept
lives-kept w _ (Runs v events l) kept = run-kept v events (lives-kept w v l kept)
lives-kept w _ (Stores v u l is) kept = stored-kept v u is (lives-kept w v l kept)
lives-kept w _ (Starts v size images group l h) kept =
    sound-kept group (opened size (image_of images)) h.sound h.shows

none-some : (r : Entry) (rs : List Entry) → [] ≡ r ∷ rs → ⊥
none-some r rs e = cc

not-lost : (n : ℕ) → Lives (holding_one n) (started (limits n 10)) → ⊥
not-lost n l =
    let begins = lives-begin (holding_one n) (started (limits n 10)) l 1 in
    none-some (pending 1 1) begins.0 (sym begins.1)

pub returns-clause-a_record_of_three_is_lost : goal.returns-clause-a_record_of_three_is_lost
returns-clause-a_record_of_three_is_lost c l = not-lost 3 l

pub returns-clause-a_record_of_four_is_lost : goal.returns-clause-a_record_of_four_is_lost
returns-clause-a_record_of_four_is_lost c l = not-lost 4 l

pub returns-clause-a_record_of_seven_is_lost : goal.returns-clause-a_record_of_seven_is_lost
returns-clause-a_record_of_seven_is_lost c l = not-lost 7 l

pub returns-clause-a_misfit_of_four : goal.returns-clause-a_misfit_of_four
returns-clause-a_misfit_of_four c l =
    false≢true ((lives-kept (started (limits 4 10)) _ l (new-kept (limits 4 10))).nodes 1).kept.0.d

pub returns-clause-the_second_alone_of_six : goal.returns-clause-the_second_alone_of_six
returns-clause-the_second_alone_of_six c l =
    false≢true ((lives-kept (started (limits 6 10)) _ l (new-kept (limits 6 10))).nodes 1).kept.0.b

pub returns-clause-fewer_nodes_than_three : goal.returns-clause-fewer_nodes_than_three
returns-clause-fewer_nodes_than_three c l =
    let more : 3 ≤ 2 = lives-size (started (limits 3 10)) (started (limits 2 10)) l in
    absurd (omega (arith, more))

pub returns-clause-fewer_nodes_than_four : goal.returns-clause-fewer_nodes_than_four
returns-clause-fewer_nodes_than_four c l =
    let more : 4 ≤ 3 = lives-size (started (limits 4 10)) (started (limits 3 10)) l in
    absurd (omega (arith, more))
