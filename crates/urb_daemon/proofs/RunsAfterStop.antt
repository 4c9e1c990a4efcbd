-- How a run of a group ends, also over stores that a stop had left.
use Rattle.std.proofs.Common.{Bool, Err, IfSome, List, None, Ok, Option, Result, Some, [], ap}
use Rattle.std.proofs.Common.{arith, false, inl, inr, refl, subst, suc, sym, true, ℕ, ⊎_elim, ◌∙◌}
use Rattle.std.proofs.Common.{◌≡◌}
use Rattle.std.proofs.lemmas.List.Elements.{recursion_from_All}
use Rattle.std.specs.List.{All}
use Rattle.std.specs.Prelude.{slice_get, slice_index_or}
use Rattle.urb_names.specs.LabelsAndContents.{Limits}
use Rattle.urb_names.specs.declared.refusal.Refusal.{Refusal}
use Rattle.urb_stable.specs.declared.stable.Stable.{Ghosts}
use Rattle.urb_group.proofs.stops.OpenedClusters.{given-at, given-store}
use Rattle.urb_group.proofs.stops.SecuredClusters.{lasting-honest, read-honest}
use Rattle.urb_group.proofs.stops.StockedPlays.{all-at}
use Rattle.urb_group.specs.StoreContents.{IsKnown, IsLasting, IsSecured, IsStoreOf}
use Rattle.urb_group.specs.StoreOpenings.{HasStopped}
use Rattle.urb_group.specs.GroupViews.{GroupView, IsSound}
use Rattle.urb_world.specs.World.{World, image_of, opened}
use Rattle.urb_daemon.specs.declared.serve_fault.ServeFault.{ServeFault}
use Rattle.urb_daemon.specs.declared.serve_fault.ServeFault.TheVariants.{Network, Unopened}
use Rattle.urb_daemon.specs.declared.network_fault.NetworkFault.{NetworkFault}
use Rattle.urb_folder.specs.GroupsAfterStop.{ContinuesTogether, beside_stores}
use Rattle.urb_folder.specs.AskedStores.{OpensTogether}
use Rattle.urb_daemon.specs.RunsAfterStop.{EndsAfterStop}
use Rattle.urb_daemon.specs.Runs.{EndsAs, EndsFrom, HaveServed, StopsIfEnded}
use Rattle.urb_daemon.specs.internal.Runs.{end_of}
use Rattle.urb_turn.specs.NodeStores.{HoldNoneAhead}
use Rattle.urb_worker.proofs.EndedRuns.{leaves_stopped, leaves_would, tails_would}
use Rattle.urb_worker.specs.ServedStores.{EndsWhole}

-- ---- how a run ends

-- the end of a run whose group ran, judged by the count of its events
pub ends-by-events :
    (events : Option ℕ) (told : Bool) (end : Result ℕ ServeFault)
    → end ≡ end_of events told → EndsAs told end
ends-by-events events told end is = subst (λ e. EndsAs told e) (sym is) (go events told)
  where
    go : (events : Option ℕ) (told : Bool) → EndsAs told (end_of events told)
    go (Some events) true = refl
    go (Some events) false = refl
    go None told = tt

-- the end of a run that got no network
pub ends-without-network :
    (why : NetworkFault) (told : Bool) → EndsAs told (Err (Network why))
ends-without-network why told = tt

-- what an opening says of its group, under the limits that its caller names
pub as-opened :
    {S A : Type 0} (g : Ghosts S A) (size own : Limits) (stores : List S)
    (result : Result GroupView Refusal) (group : GroupView) (asked : List S)
    → size ≡ own → result ≡ Ok group → OpensTogether g size stores result asked
    → OpensTogether g own stores (Ok group) asked
as-opened g size own stores result group asked same is opens =
    subst (λ l. OpensTogether g l stores (Ok group) asked) same
    (subst (λ r. OpensTogether g size stores r asked) is opens)

-- what a run leaves that came to its end
pub stops-if-ended :
    {S A : Type 0} (g : Ghosts S A) (own : Limits) (stores : List S) (group : GroupView)
    (asked lasts : List S) (from : OpensTogether g own stores (Ok group) asked)
    (events : Option ℕ) (told : Bool) (end : Result ℕ ServeFault)
    → IfSome events (λ count. EndsWhole g group asked lasts) → end ≡ end_of events told
    → All (IsKnown g) stores → HoldNoneAhead g stores
    → StopsIfEnded g end own group (opened own (image_of from.images)) lasts
stops-if-ended {S} g own stores group asked lasts from events told end whole ends known none =
    subst (λ e. StopsIfEnded g e own group start lasts) (sym ends) (at events told whole)
  where
    start : World
    start = opened own (image_of from.images)

    -- a store that gave its list belongs to the node that was opened from it
    beside : (i : ℕ) (store : S) → slice_get asked i ≡ Some store
        → IsStoreOf g (start.node (suc i)) store × IsLasting g (start.node (suc i)) store
    beside i store got =
        let one = given-at g stores from.images asked from.given i store got in
        let image = slice_index_or from.images i [] in
        let of = given-store g (suc i) image one.0 store one.2 in
        let was =
        all-at (IsKnown g) stores (recursion_from_All (IsKnown g) stores known) i one.0 one.1 in (
          of,
          lasting-honest g (start.node (suc i)) store of
              (read-honest g one.0 store image one.2 was),
        )

    secured : IsSecured g (beside_stores group asked)
    secured =
        record {
          stocked =
              record {
                world = start;
                shows = from.opens.1;
                stores = λ i store got. (beside i store got).0;
              };
          lasting = λ i store got. (beside i store got).1;
        }

    -- nor does it hold records ahead
    bare : HoldNoneAhead g asked
    bare i store got =
        let one = given-at g stores from.images asked from.given i store got in
        ⊎_elim (λ keeps. keeps.ahead ∙ none i one.0 one.1) (λ drops. drops) one.2.ahead

    at : (events : Option ℕ) (told : Bool)
        → IfSome events (λ count. EndsWhole g group asked lasts)
        → StopsIfEnded g (end_of events told) own group start lasts
    at None told w = tt
    at (Some count) false w = tt
    at (Some count) true w =
        let nodes = ap (λ (l : Limits). l.n) from.opens.1.size in
        record {
          history = w.history;
          later = w.group;
          leads = w.leads;
          stopped =
              leaves_stopped g (beside_stores group asked) own lasts secured bare w
              (omega (arith, nodes));
          left = leaves_would g (beside_stores group asked) lasts secured bare w;
          tails = tails_would g (beside_stores group asked) lasts secured bare w;
        }

-- the end of a run of a group that was opened from these stores
pub ends-opened :
    {S A : Type 0} (g : Ghosts S A) (own : Limits) (stores : List S) (group : GroupView)
    (asked lasts : List S) (from : OpensTogether g own stores (Ok group) asked) (told : Bool)
    (end : Result ℕ ServeFault)
    → HaveServed g group asked lasts
    → (All (IsKnown g) stores → HoldNoneAhead g stores
    → StopsIfEnded g end own group (opened own (image_of from.images)) lasts)
    → EndsAs told end
    → EndsFrom g own stores told end lasts
ends-opened g own stores group asked lasts from told end served leaves ends =
    inr (record {
      group = group;
      asked = asked;
      opens = from;
      served = served;
      leaves = leaves;
      ends = ends;
    })

-- ---- how a run over what a stop had left ends

-- over intact stores, a run whose group opened after a stop goes on from the stopped world until
-- the run ends
pub served-after-stop :
    {S A : Type 0} (g : Ghosts S A) (size own : Limits) (stores : List S)
    (result : Result GroupView Refusal) (group : GroupView) (asked lasts : List S)
    (from : OpensTogether g own stores (Ok group) asked) (told : Bool) (end : Result ℕ ServeFault)
    → size ≡ own → result ≡ Ok group → IsSound group
    → ((old : GroupView) (w : World) → HasStopped g old w size stores
    → ContinuesTogether g old w size stores result asked)
    → HaveServed g group asked lasts
    → (All (IsKnown g) stores → HoldNoneAhead g stores
    → StopsIfEnded g end own group (opened own (image_of from.images)) lasts)
    → EndsAs told end
    → (old : GroupView) (w : World) → HasStopped g old w own stores
    → EndsAfterStop g old w own stores told end lasts
served-after-stop g size own stores result group asked lasts from told end same is sound goes_on
    served leaves ends old w stopped =
    let was = subst (λ l. HasStopped g old w l stores) (sym same) stopped in
    inr (record {
      group = group;
      asked = asked;
      opens = from;
      sound = sound;
      goes_on = subst (λ r. ContinuesTogether g old w size stores r asked) is (goes_on old w was);
      served = served;
      leaves = leaves;
      ends = ends;
    })

-- a run whose group didn't open over what a stop had left ends with that refusal
pub refused-after-stop :
    {S A : Type 0} (g : Ghosts S A) (size own : Limits) (stores : List S)
    (result : Result GroupView Refusal) (why : Refusal) (asked : List S) (told : Bool)
    (end : Result ℕ ServeFault)
    → size ≡ own → result ≡ Err why
    → ((old : GroupView) (w : World) → HasStopped g old w size stores
    → ContinuesTogether g old w size stores result asked)
    → end ≡ Err (Unopened why)
    → (old : GroupView) (w : World) → HasStopped g old w own stores
    → EndsAfterStop g old w own stores told end asked
refused-after-stop g size own stores result why asked told end same is goes_on ends old w stopped =
    let was = subst (λ l. HasStopped g old w l stores) (sym same) stopped in
    let stays = subst (λ r. ContinuesTogether g old w size stores r asked) is (goes_on old w was) in
    inl (record {
      why = why;
      stays = subst (λ l. ContinuesTogether g old w l stores (Err why) asked) same stays;
      ends = ends;
    })
