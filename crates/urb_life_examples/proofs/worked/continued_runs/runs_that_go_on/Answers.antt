-- Groups of four that are opened again over no store or one, and go on.
use Rattle.std.proofs.Common.{Err, List, Ok, Result, Some, [], arith, false, inl}
use Rattle.std.proofs.Common.{inr, length, refl, slice_get, subst, suc, sym, true}
use Rattle.std.proofs.Common.{zero, ℕ, ◌<◌, ◌∙◌, ◌∷◌, ◌≡◌, ◌⊎◌}
use Rattle.urb_names.proofs.OrderedPairs.{has_pair-head}
use Rattle.urb_names.specs.ListPrefixes.{Begins}
use Rattle.urb_names.specs.Names.{name}
use Rattle.urb_names.specs.Pairs.{has_pair}
use Rattle.urb_names.specs.declared.limits.TheConstants.{MAX_PAYLOAD}
use Rattle.urb_node.specs.NodeViews.{ShowsNode}
use Rattle.urb_node.specs.Part.{opened_node}
use Rattle.urb_stable.specs.Entries.{Entry}
use Rattle.urb_stable.specs.MemoryStores.{Memory, empty_memory}
use Rattle.urb_stable.specs.Records.{pend}
use Rattle.urb_stable.specs.RetrievedRecords.{Gives}
use Rattle.urb_stable.specs.declared.stable.StoreFault.{StoreFault}
use Rattle.urb_stable.specs.declared.stable.StoreFault.TheVariants as store_fault
use Rattle.std.proofs.lemmas.Bool.{false≢true}
use Rattle.std.specs.List.{All}
use Rattle.urb_node.specs.Part.{Ready}
use Rattle.urb_stable.specs.DeliveredLogs.{entries, log}
use Rattle.urb_stable.specs.Fitting.{Fits}
use Rattle.urb_stable.specs.StableStorage.{IsContents}
use Rattle.urb_world.proofs.steps.Growth.{begins-itself}
use Rattle.urb_world.specs.ProcessStops.{GoesOnUnder}
use Rattle.urb_folder.specs.GroupsAfterStop.{AreIntact}
use Rattle.urb_world.proofs.steps.Runs.{new-kept}
use Rattle.urb_world.specs.Step.{run}
use Rattle.urb_world.specs.World.{World, image_of, opened, stored}
use Rattle.urb_world.specs.internal.Examples.{limits, pending}
use Rattle.urb_group.proofs.shown.ShownWorlds.{shows-new}
use Rattle.urb_group.specs.GroupViews.{GroupView, IsSound, Shows, view_of}
use Rattle.urb_group.specs.StoreOpenings.{AllGive}
use Rattle.urb_turn.specs.internal.TurnExamples.{four, four_views, lying, memory}
use Rattle.urb_worker.specs.ServedStores.Serves.{Rests}
use Rattle.urb_daemon.specs.Runs.{HaveServed}
use Rattle.urb_life_examples.specs.internal.RunExamples.{ahead_of_another, forgetful, holding_payload}
use Rattle.urb_life_examples.specs.internal.RunExamples.{store_with, with_payload}
use Rattle.urb_life_examples.proofs.worked.continued_runs.runs_that_go_on.Goals as goal

some-none : {A : Type 0} (x : A) (xs : List A) → x ∷ xs ≡ [] → ⊥
some-none x xs e = cc

none-at : (i : ℕ) (store : Memory) → slice_get [] i ≡ Some store → ⊥
none-at zero store e = cc
none-at (suc i) store e = cc

ok-err : (records : List Entry) (fault : StoreFault)
    → ◌≡◌ {A = Result (List Entry) StoreFault} (Ok records) (Err fault) → ⊥
ok-err records fault e = cc

none-of-none : (p : ℕ) → image_of [] p ≡ []
none-of-none zero = refl
none-of-none (suc p) = refl

none-of-one : (p : ℕ) → image_of ([] ∷ []) p ≡ []
none-of-one zero = refl
none-of-one (suc zero) = refl
none-of-one (suc (suc p)) = refl

stays-ready : (p : ℕ) → (view_of four_views p).state ≡ Ready
stays-ready zero = refl
stays-ready (suc zero) = refl
stays-ready (suc (suc zero)) = refl
stays-ready (suc (suc (suc zero))) = refl
stays-ready (suc (suc (suc (suc zero)))) = refl
stays-ready (suc (suc (suc (suc (suc p))))) = refl

-- new views show what is opened from empty images
shows-empty : (images : ℕ → List Entry) → ((p : ℕ) → images p ≡ [])
    → Shows four_views (opened (limits 4 10) images)
shows-empty images none = record {
  size = refl;
  nodes = λ p. subst (λ (rs : List Entry). ShowsNode (limits 4 10) p (view_of four_views p)
      (opened_node p rs)) (sym (none p)) ((shows-new (limits 4 10)).nodes p);
}

-- a new group goes on from a new world
goes-on : (images : ℕ → List Entry) → Fits (limits 4 10) images
    → GoesOnUnder (limits 4 10) four images
goes-on images fits = record {
  fits = fits;
  delivered = λ p. (log (images p), refl);
  entries = λ p. (entries (images p), refl);
  again = λ p x m is own pair. absurd (false≢true pair);
}

-- an empty store gives its list, whether it is honest or not
gives-forgetful : Gives forgetful empty_memory (Ok []) empty_memory
gives-forgetful = record {
  answers = refl;
  retrieved = λ honest. absurd honest;
  settled = record { clear = (refl, refl); kept = tt };
  allowed = record { faults = tt; sound = λ known clean. tt };
  stop = λ honest clean. absurd honest;
  rest = λ honest. absurd honest;
  counts = record { device = λ e. absurd (ok-err [] store_fault.Device e); grows = omega (arith) };
  trust = record {
    clean = λ clean. clean;
    honest = λ honest. honest;
    alive = λ honest clean. honest;
    shut = λ honest clean. inl honest;
  };
  refuses = λ shut clean. absurd shut;
  lasts = λ clean known. record { contents = λ certain doubtful h. h; together = λ entries certain doubtful h. h };
  ahead = inl (record { ahead = refl; base = refl });
}

gives-ahead : Gives ahead_of_another empty_memory (Ok []) empty_memory
gives-ahead = record {
  answers = refl;
  retrieved = λ honest. record { given = (refl, refl); failed = tt };
  settled = record { clear = (refl, refl); kept = tt };
  allowed = record { faults = tt; sound = λ known clean. tt };
  stop = λ honest clean records is. is;
  rest = λ honest records is. is;
  counts = record { device = λ e. absurd (ok-err [] store_fault.Device e); grows = omega (arith) };
  trust = record {
    clean = λ clean. clean;
    honest = λ honest. honest;
    alive = λ honest clean. honest;
    shut = λ honest clean. inl honest;
  };
  refuses = λ shut clean. absurd shut;
  lasts = λ clean known. record { contents = λ certain doubtful h. h; together = λ entries certain doubtful h. h };
  ahead = inl (record { ahead = refl; base = refl });
}

-- no sound group shows a world whose node 1 has a payload that is too long
too-long : (payload : List ℕ) → MAX_PAYLOAD < length payload → (group : GroupView) (w : World)
    → Begins (with_payload payload ∷ []) (stored w 1) → Shows group w → IsSound group → ⊥
too-long payload long group w begins shows sound =
    let pair : has_pair (pend (stored w 1)) (name 1 1) (holding_payload payload) ≡ true =
    subst (λ (rs : List Entry). has_pair (pend rs) (name 1 1) (holding_payload payload) ≡ true)
    begins.1 (has_pair-head (name 1 1, holding_payload payload) (pend begins.0)) in
    let here = (shows.nodes 1).pairs (name 1 1) (holding_payload payload) in
    let there = (sound.shows.nodes 1).pairs (name 1 1) (holding_payload payload) in
    let short = (sound.kept.short 1).stored (name 1 1) (holding_payload payload)
    (sym there ∙ here ∙ pair) in
    absurd (omega (arith, long, short))

-- a store gives its record
gave-one : (payload : List ℕ) (images : List (List Entry)) (asked : List Memory)
    → AllGive lying (store_with payload ∷ []) images asked
    → image_of images 1 ≡ with_payload payload ∷ []
gave-one payload [] asked h = absurd h
gave-one payload (image ∷ images) [] h = absurd h
gave-one payload (image ∷ images) (a ∷ asked) h = h.0.answers

-- no stores give nothing
gave-none : (images : List (List Entry)) (asked : List Memory) → AllGive memory [] images asked
    → asked ≡ []
gave-none [] [] h = refl
gave-none [] (a ∷ asked) h = absurd h
gave-none (image ∷ images) asked h = absurd h

-- no store is dishonest if there is none
all-none : (P : Memory → Type 0) → All P []
all-none P k store less = absurd (omega (arith, less))

neither : ⊥ ⊎ ⊥ → ⊥
neither (inl h) = h
neither (inr h) = h

not-intact : AreIntact forgetful (empty_memory ∷ []) (empty_memory ∷ []) → ⊥
not-intact (inl honest) = honest 0 empty_memory (omega (arith))
not-intact (inr both) = neither (both.0 0 empty_memory (omega (arith)) tt)

-- the only store and the only image
chosen-one : (i : ℕ) (store : Memory) (image : List Entry)
    → slice_get (empty_memory ∷ []) i ≡ Some store → slice_get ([] ∷ []) i ≡ Some image
    → Unit {0} × IsContents store.certain store.doubt image
chosen-one zero store image at here =
    let same : empty_memory ≡ store = cc in
    let empty : [] ≡ image = cc in
    (tt, subst (λ (m : Memory). IsContents m.certain m.doubt image) same (sym empty))
chosen-one (suc i) store image at here = absurd (none-at i store at)

-- nothing was delivered if there is no image
lost : (images : List (List Entry)) → length images ≡ 0
    → Begins (name 1 1 ∷ []) (log (image_of images 1)) → ⊥
lost [] count begins = some-none (name 1 1) begins.0 begins.1
lost (image ∷ images) count begins = absurd (omega (arith, count))

pub returns-clause-over_no_stores : goal.returns-clause-over_no_stores
unfolding run
returns-clause-over_no_stores c = record {
  group = four_views;
  asked = [];
  opens = record { images = []; given = tt; opens = (refl, shows-empty (image_of []) none-of-none) };
  sound = record { world = four; shows = shows-new (limits 4 10); kept = new-kept (limits 4 10) };
  goes_on = λ intact. record {
    images = [];
    chosen = record { one_each = refl; each = λ i store image at here. absurd (none-at i store at) };
    goes_on = goes-on (image_of []) refl;
    opens = shows-empty (image_of []) none-of-none;
    ready = stays-ready;
  };
  served = tt;
  leaves = λ known none. record {
    history = [];
    later = four_views;
    leads = λ w shows. shows;
    stopped = record {
      sound = record { world = four; shows = shows-new (limits 4 10); kept = new-kept (limits 4 10) };
      counted = refl;
      nodes = omega (arith);
      shown = opened (limits 4 10) (image_of []);
      shows = shows-empty (image_of []) none-of-none;
      stands = record { size = refl; nodes = λ p. inl refl };
      holds = λ i store at. absurd (none-at i store at);
    };
    left = λ i store at. absurd (none-at i store at);
    tails = λ i store at. absurd (none-at i store at);
  };
  ends = refl;
}

pub returns-clause-not_unreported : goal.returns-clause-not_unreported
returns-clause-not_unreported c h = let e : false ≡ true = h.ends in absurd (cc)

pub returns-clause-not_with_a_store_more : goal.returns-clause-not_with_a_store_more
returns-clause-not_with_a_store_more c h =
    subst (λ (asked : List Memory). HaveServed memory h.group asked (empty_memory ∷ []))
    (gave-none h.opens.images h.asked h.opens.given) h.served

pub returns-clause-not_without_what_was_delivered : goal.returns-clause-not_without_what_was_delivered
returns-clause-not_without_what_was_delivered c h =
    let goes = h.goes_on (inl (λ k store less. tt)) in
    lost goes.images goes.chosen.one_each (goes.goes_on.delivered 1)

pub returns-clause-over_a_store_that_is_not_honest : goal.returns-clause-over_a_store_that_is_not_honest
returns-clause-over_a_store_that_is_not_honest c = record {
  group = four_views;
  asked = empty_memory ∷ [];
  opens = record {
    images = [] ∷ [];
    given = (gives-forgetful, tt);
    opens = (refl, shows-empty (image_of ([] ∷ [])) none-of-one);
  };
  sound = record { world = four; shows = shows-new (limits 4 10); kept = new-kept (limits 4 10) };
  goes_on = λ intact. absurd (not-intact intact);
  served = (∣ ([], Rests empty_memory []) ∣₁, tt);
  leaves = λ known none. absurd (neither (known 0 empty_memory (omega (arith)) tt));
  ends = refl;
}

pub returns-clause-over_a_store_with_a_record_ahead : goal.returns-clause-over_a_store_with_a_record_ahead
returns-clause-over_a_store_with_a_record_ahead c = record {
  group = four_views;
  asked = empty_memory ∷ [];
  opens = record {
    images = [] ∷ [];
    given = (gives-ahead, tt);
    opens = (refl, shows-empty (image_of ([] ∷ [])) none-of-one);
  };
  sound = record { world = four; shows = shows-new (limits 4 10); kept = new-kept (limits 4 10) };
  goes_on = λ intact. record {
    images = [] ∷ [];
    chosen = record { one_each = refl; each = chosen-one };
    goes_on = goes-on (image_of ([] ∷ [])) refl;
    opens = shows-empty (image_of ([] ∷ [])) none-of-one;
    ready = stays-ready;
  };
  served = (∣ ([], Rests empty_memory []) ∣₁, tt);
  leaves = λ known none. absurd (some-none (pending 1 2) [] (none 0 empty_memory refl));
  ends = refl;
}

pub returns-clause-not_with_a_long_payload : goal.returns-clause-not_with_a_long_payload
returns-clause-not_with_a_long_payload c payload long h =
    let start = opened (limits 4 10) (image_of h.opens.images) in
    too-long payload long h.group start
    (subst (λ (rs : List Entry). Begins rs (stored start 1))
    (gave-one payload h.opens.images h.asked h.opens.given) (begins-itself (stored start 1)))
    h.opens.opens.1 h.sound
