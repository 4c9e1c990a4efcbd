-- Groups of four that are opened over no store or a broken one.
use Rattle.std.proofs.Common.{Err, List, Ok, Result, [], arith, false, inl}
use Rattle.std.proofs.Common.{length, refl, subst, suc, sym, true}
use Rattle.std.proofs.Common.{zero, ℕ, ◌<◌, ◌∙◌, ◌∷◌, ◌≡◌}
use Rattle.urb_names.proofs.OrderedPairs.{has_pair-head}
use Rattle.urb_names.specs.ListPrefixes.{Begins}
use Rattle.urb_names.specs.Names.{name}
use Rattle.urb_names.specs.Pairs.{has_pair}
use Rattle.urb_names.specs.declared.limits.TheConstants.{MAX_PAYLOAD}
use Rattle.urb_node.specs.NodeViews.{ShowsNode}
use Rattle.urb_node.specs.Part.{opened_node}
use Rattle.urb_stable.specs.Entries.{Entry}
use Rattle.urb_stable.specs.MemoryStores.{Memory, empty_memory}
use Rattle.urb_stable.specs.Records.{pend}
use Rattle.urb_stable.specs.RetrievedRecords.{Gives}
use Rattle.urb_stable.specs.declared.stable.StoreFault.{StoreFault}
use Rattle.urb_stable.specs.declared.stable.StoreFault.TheVariants as store_fault
use Rattle.urb_world.proofs.steps.Growth.{run-goes_on}
use Rattle.urb_world.specs.RecoveryPlans.{after}
use Rattle.urb_world.specs.Step.{run}
use Rattle.urb_world.specs.World.{World, image_of, opened, stored}
use Rattle.urb_world.specs.internal.Examples.{limits}
use Rattle.urb_group.proofs.shown.ShownWorlds.{shows-new}
use Rattle.urb_group.specs.GroupViews.{GroupView, IsSound, Shows, view_of}
use Rattle.urb_group.specs.StoreOpenings.{AllGive}
use Rattle.urb_turn.specs.internal.TurnExamples.{four_views, memory}
use Rattle.urb_worker.specs.ServedStores.Serves.{Rests}
use Rattle.urb_daemon.specs.Runs.{HaveServed}
use Rattle.urb_life_examples.specs.internal.RunExamples.{broken, holding_payload}
use Rattle.urb_life_examples.specs.internal.RunExamples.{store_with, with_payload}
use Rattle.urb_life_examples.proofs.worked.resumed_runs.runs_that_resume.Goals as goal

ok-err : (records : List Entry) (fault : StoreFault)
    → ◌≡◌ {A = Result (List Entry) StoreFault} (Ok records) (Err fault) → ⊥
ok-err records fault e = cc

none-of-one : (p : ℕ) → image_of ([] ∷ []) p ≡ []
none-of-one zero = refl
none-of-one (suc zero) = refl
none-of-one (suc (suc p)) = refl

-- new views show what is opened from empty images
shows-empty : (images : ℕ → List Entry) → ((p : ℕ) → images p ≡ [])
    → Shows four_views (opened (limits 4 10) images)
shows-empty images none = record {
  size = refl;
  nodes = λ p. subst (λ (rs : List Entry). ShowsNode (limits 4 10) p (view_of four_views p)
      (opened_node p rs)) (sym (none p)) ((shows-new (limits 4 10)).nodes p);
}

-- an empty store gives its list, although it is broken
gives-broken : Gives broken empty_memory (Ok []) empty_memory
gives-broken = record {
  answers = refl;
  retrieved = λ honest. absurd honest;
  settled = record { clear = (refl, refl); kept = tt };
  allowed = record { faults = tt; sound = λ known clean. tt };
  stop = λ honest clean. absurd honest;
  rest = λ honest. absurd honest;
  counts = record { device = λ e. absurd (ok-err [] store_fault.Device e); grows = omega (arith) };
  trust = record {
    clean = λ clean. clean;
    honest = λ honest. honest;
    alive = λ honest clean. honest;
    shut = λ honest clean. inl honest;
  };
  refuses = λ shut clean. absurd shut;
  lasts = λ clean known. record { contents = λ certain doubtful h. h; together = λ entries certain doubtful h. h };
  ahead = inl (record { ahead = refl; base = refl });
}

-- no sound group shows a world whose node 1 has a payload that is too long
too-long : (payload : List ℕ) → MAX_PAYLOAD < length payload → (group : GroupView) (w : World)
    → Begins (with_payload payload ∷ []) (stored w 1) → Shows group w → IsSound group → ⊥
too-long payload long group w begins shows sound =
    let pair : has_pair (pend (stored w 1)) (name 1 1) (holding_payload payload) ≡ true =
    subst (λ (rs : List Entry). has_pair (pend rs) (name 1 1) (holding_payload payload) ≡ true)
    begins.1 (has_pair-head (name 1 1, holding_payload payload) (pend begins.0)) in
    let here = (shows.nodes 1).pairs (name 1 1) (holding_payload payload) in
    let there = (sound.shows.nodes 1).pairs (name 1 1) (holding_payload payload) in
    let short = (sound.kept.short 1).stored (name 1 1) (holding_payload payload)
    (sym there ∙ here ∙ pair) in
    absurd (omega (arith, long, short))

-- a store gives its record
gave-one : (payload : List ℕ) (images : List (List Entry)) (asked : List Memory)
    → AllGive broken (store_with payload ∷ []) images asked
    → image_of images 1 ≡ with_payload payload ∷ []
gave-one payload [] asked h = absurd h
gave-one payload (image ∷ images) [] h = absurd h
gave-one payload (image ∷ images) (a ∷ asked) h = h.0.answers

-- no stores give no images
none-given : (images : List (List Entry)) (asked : List Memory) → AllGive memory [] images asked
    → length images ≡ 0
none-given [] asked h = refl
none-given (image ∷ images) asked h = absurd h

-- a store that was asked comes back
comes-back : (group : GroupView) (images : List (List Entry)) (asked : List Memory)
    → AllGive broken (empty_memory ∷ []) images asked → HaveServed broken group asked [] → ⊥
comes-back group [] asked h served = absurd h
comes-back group (image ∷ images) [] h served = absurd h
comes-back group (image ∷ images) (a ∷ asked) h served = served

pub returns-clause-over_a_broken_store : goal.returns-clause-over_a_broken_store
returns-clause-over_a_broken_store c = record {
  group = four_views;
  asked = empty_memory ∷ [];
  opens = record {
    images = [] ∷ [];
    given = (gives-broken, tt);
    opens = (refl, shows-empty (image_of ([] ∷ [])) none-of-one);
  };
  after = λ clean. absurd (clean 0 empty_memory (omega (arith)));
  goes_on = λ clean. absurd (clean 0 empty_memory (omega (arith)));
  served = (∣ ([], Rests empty_memory []) ∣₁, tt);
  leaves = tt;
  ends = tt;
}

pub returns-clause-not_without_its_store : goal.returns-clause-not_without_its_store
returns-clause-not_without_its_store c h =
    comes-back h.group h.opens.images h.asked h.opens.given h.served

pub returns-clause-not_reported_and_untold : goal.returns-clause-not_reported_and_untold
returns-clause-not_reported_and_untold c h = let e : true ≡ false = h.ends in absurd (cc)

pub returns-clause-not_without_an_image_for_each : goal.returns-clause-not_without_an_image_for_each
returns-clause-not_without_an_image_for_each c h =
    let four-images = (h.after (λ k store less. tt)).one_each in
    absurd (omega (arith, four-images, none-given h.opens.images h.asked h.opens.given))

pub returns-clause-not_with_a_long_payload : goal.returns-clause-not_with_a_long_payload
returns-clause-not_with_a_long_payload c payload long h =
    let start = opened (limits 4 10) (image_of h.opens.images) in
    let stops = h.leaves in
    too-long payload long stops.later (after start stops.history)
    (subst (λ (rs : List Entry). Begins rs (stored (after start stops.history) 1))
    (gave-one payload h.opens.images h.asked h.opens.given)
    ((run-goes_on start (after start stops.history) stops.history (run start stops.history).0
    refl).records 1))
    (stops.leads start h.opens.opens.1) stops.stopped.sound
