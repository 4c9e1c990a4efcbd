-- The stores at the end of a run.
use Rattle.std.proofs.Common.{Bool, IfSome, IsTrue, List, None, Option, Some, [], arith, false}
use Rattle.std.proofs.Common.{if◌then◌else◌, inl, length, option_map, refl, subst, suc, sym, true}
use Rattle.std.proofs.Common.{zero, ℕ, ◌+◌, ◌∙◌, ◌∷◌, ◌≡◌, ◌≤◌}
use Rattle.std.specs.Prelude.{slice_get}
use Rattle.urb_names.specs.LabelsAndContents.{Limits}
use Rattle.urb_group.proofs.stops.StoredWorlds.{as-itself}
use Rattle.urb_group.specs.GroupStores.{Clustered}
use Rattle.urb_group.specs.GroupViews.{GroupView, IsSound, Shows}
use Rattle.urb_world.specs.RecoveryPlans.{after}
use Rattle.urb_group.specs.StoreContents.{HoldsOf, IsLasting, IsSecured, IsStoreOf, LeavesOf}
use Rattle.urb_group.specs.StoreContents.{WouldLeave}
use Rattle.urb_group.specs.StoreOpenings.{HasStopped}
use Rattle.urb_world.specs.Step.{Event}
use Rattle.urb_world.specs.World.{World}
use Rattle.urb_show.specs.Houses.{HouseView}
use Rattle.urb_show.specs.Pasts.{IsLedTo}
use Rattle.urb_stable.specs.declared.stable.Stable.{Ghosts}
use Rattle.urb_turn.proofs.OtherNodes.{rested-store}
use Rattle.urb_turn.specs.Counting.{TallyView}
use Rattle.urb_turn.specs.LastLoans.{AllRestSince, RestsSince}
use Rattle.urb_turn.specs.NodeStores.{AreStoresAfter, HaveTails, HoldNoneAhead, IsStoreAfter}
use Rattle.urb_turn.specs.NodeStores.{IsStoreSince, WouldHaveTail}
use Rattle.urb_worker.specs.ServedStores.{EndsWhole, numbers_from}
use Rattle.urb_worker.specs.internal.ServedStores.{AllKeepUp, ClosesAt, KeepsUp}
use Rattle.urb_world.proofs.recovery.EventPlans.{after-none}

-- a house that is closed
pub closes_at : (opened : GroupView) (n : ℕ) (tallies : List TallyView) (house : HouseView)
    → IsSound house.group → length house.group.nodes ≡ n → house.group.size.n ≡ n
    → IsLedTo opened house.past house.group → AllRestSince 1 tallies house.past
    → ClosesAt opened n tallies
closes_at opened n tallies house sound nodes size leads rest =
    record {
      history = house.past;
      group = house.group;
      sound = sound;
      nodes = nodes;
      size = size;
      leads = leads;
      rest = rest;
    }

module _ {S A : Type 0} (g : Ghosts S A) (opened : GroupView) (history : List Event) (start : World)
    (opening : Shows opened start) where
  -- one node's store
  one_kept : (n : ℕ) (first last : S) (tally : TallyView) → KeepsUp g opened n first last tally
      → RestsSince n tally.last history → IsStoreAfter g start [] n first
      → IsStoreAfter g start history n last
  one_kept n first last tally keeps rests h = at tally.last rests (keeps start opening h)
    where
      at : (o : Option (List Event)) → RestsSince n o history → IsStoreSince g start o n last
          → IsStoreAfter g start history n last
      at None r s = absurd r
      at (Some end) r s = rested-store g start n end history last r s

  -- the stores of all nodes from this number on
  all_kept : (from : ℕ) (firsts lasts : List S) (tallies : List TallyView)
      → AllKeepUp g opened (numbers_from from (length firsts)) firsts lasts tallies
      → AllRestSince from tallies history → AreStoresAfter g start [] from firsts
      → AreStoresAfter g start history from lasts
  all_kept from [] [] tallies keeps rest all = tt
  all_kept from [] (l ∷ ls) tallies keeps rest all = absurd keeps
  all_kept from (f ∷ fs) [] tallies keeps rest all = absurd keeps
  all_kept from (f ∷ fs) (l ∷ ls) [] keeps rest all = absurd keeps
  all_kept from (f ∷ fs) (l ∷ ls) (t ∷ ts) keeps rest all = (
    one_kept from f l t keeps.0 rest.0 all.0,
    all_kept (from + 1) fs ls ts keeps.1 rest.1 all.1,
  )

-- a run that came to its end
pub ends_whole : {S A : Type 0} (g : Ghosts S A) (opened : GroupView) (n : ℕ)
    (firsts lasts : List S) (tallies : List TallyView) → ClosesAt opened n tallies
    → n ≡ opened.size.n
    → AllKeepUp g opened (numbers_from 1 (length firsts)) firsts lasts tallies
    → EndsWhole g opened firsts lasts
ends_whole g opened n firsts lasts tallies closes number keeps =
    record {
      history = closes.history;
      group = closes.group;
      sound = closes.sound;
      nodes = closes.nodes ∙ number;
      size = closes.size ∙ number;
      leads = closes.leads;
      stores = λ start opening all.
          all_kept g opened closes.history start opening 1 firsts lasts tallies keeps closes.rest
          all;
    }

-- the same, if the count of its events says so
pub ends_whole_if : {S A R : Type 0} (g : Ghosts S A) (opened : GroupView) (n : ℕ)
    (firsts lasts : List S) (tallies : List TallyView) (run : Option R) (known : Bool) (events : ℕ)
    (count : Option ℕ) → count ≡ option_map (λ (ended : R). events) (if known then run else None)
    → (IsTrue known → ClosesAt opened n tallies) → n ≡ opened.size.n
    → AllKeepUp g opened (numbers_from 1 (length firsts)) firsts lasts tallies
    → IfSome count (λ it. EndsWhole g opened firsts lasts)
ends_whole_if g opened n firsts lasts tallies run known events None is closes number keeps = tt
ends_whole_if g opened n firsts lasts tallies run true events (Some it) is closes number keeps =
    ends_whole g opened n firsts lasts tallies (closes refl) number keeps
ends_whole_if g opened n firsts lasts tallies run false events (Some it) is closes number keeps =
    absurd (cc)

-- ---- what the next start takes

module _ {S A : Type 0} (g : Ghosts S A) (start : World) where
  -- stores that match their nodes one by one
  all_after : (from : ℕ) (past : List Event) (stores : List S)
      → ((i : ℕ) (store : S) → slice_get stores i ≡ Some store
      → IsStoreAfter g start past (from + i) store)
      → AreStoresAfter g start past from stores
  all_after from past [] each = tt
  all_after from past (store ∷ stores) each =
      let first : from + zero ≡ from = omega arith in (
        subst (λ (n : ℕ). IsStoreAfter g start past n store) first (each zero store refl),
        all_after (from + 1) past stores (λ i s got.
            subst (λ (n : ℕ). IsStoreAfter g start past n s) (omega arith) (each (suc i) s got)),
      )

  -- one of these stores
  one_after : (from : ℕ) (past : List Event) (stores : List S)
      → AreStoresAfter g start past from stores → (i : ℕ) (store : S)
      → slice_get stores i ≡ Some store → IsStoreAfter g start past (from + i) store
  one_after from past [] all i store got = absurd (cc)
  one_after from past (s ∷ stores) all zero store got =
      let first : from ≡ from + zero = omega arith in
      let same : s ≡ store = cc in
      subst (λ (x : S). IsStoreAfter g start past (from + zero) x) same
      (subst (λ (n : ℕ). IsStoreAfter g start past n s) first all.0)
  one_after from past (s ∷ stores) all (suc i) store got =
      let next : from + 1 + i ≡ from + suc i = omega arith in
      subst (λ (n : ℕ). IsStoreAfter g start past n store) next
      (one_after (from + 1) past stores all.1 i store got)

-- the stores of a cluster at its opening
pub secured_stores : {S A : Type 0} (g : Ghosts S A) (cluster : Clustered S)
    (secured : IsSecured g cluster) (none : HoldNoneAhead g cluster.stores)
    → AreStoresAfter g secured.stocked.world [] 1 cluster.stores
secured_stores g cluster secured none =
    all_after g w 1 [] cluster.stores (λ i store got.
    record {
      contents =
          subst (λ (v : World). IsStoreOf g (v.node (1 + i)) store) (sym (after-none w))
          (subst (λ (n : ℕ). IsStoreOf g (w.node n) store) (omega arith)
          (secured.stocked.stores i store got));
      lasting =
          subst (λ (v : World). IsLasting g (v.node (1 + i)) store) (sym (after-none w))
          (subst (λ (n : ℕ). IsLasting g (w.node n) store) (omega arith)
          (secured.lasting i store got));
      tail = λ clean. inl (none i store got);
    })
  where
    w : World
    w = secured.stocked.world

-- A stop after a run's end leaves in each store what it may leave of its node.
pub leaves_would : {S A : Type 0} (g : Ghosts S A) (cluster : Clustered S) (lasts : List S)
    (secured : IsSecured g cluster) (none : HoldNoneAhead g cluster.stores)
    (ended : EndsWhole g cluster.group cluster.stores lasts)
    → WouldLeave g (after secured.stocked.world ended.history) lasts
leaves_would g cluster lasts secured none ended i store got clean =
    subst (λ (n : ℕ). LeavesOf g ((after w ended.history).node n) store) (omega arith)
    ((one_after g w 1 ended.history lasts
    (ended.stores w secured.stocked.shows (secured_stores g cluster secured none)) i store
    got).lasting.left clean)
  where
    w : World
    w = secured.stocked.world

-- If a run came to its end, what each store holds ahead may follow its node's records.
pub tails_would : {S A : Type 0} (g : Ghosts S A) (cluster : Clustered S) (lasts : List S)
    (secured : IsSecured g cluster) (none : HoldNoneAhead g cluster.stores)
    (ended : EndsWhole g cluster.group cluster.stores lasts)
    → HaveTails g (after secured.stocked.world ended.history) lasts
tails_would g cluster lasts secured none ended i store got =
    subst (λ (n : ℕ). WouldHaveTail g (after w ended.history) n store) (omega arith)
    (one_after g w 1 ended.history lasts
    (ended.stores w secured.stocked.shows (secured_stores g cluster secured none)) i store
    got).tail
  where
    w : World
    w = secured.stocked.world

-- A run that came to its end leaves what the next start takes.
pub leaves_stopped : {S A : Type 0} (g : Ghosts S A) (cluster : Clustered S) (limits : Limits)
    (lasts : List S) (secured : IsSecured g cluster) (none : HoldNoneAhead g cluster.stores)
    (ended : EndsWhole g cluster.group cluster.stores lasts) → cluster.group.size.n ≤ limits.n
    → HasStopped g ended.group (after secured.stocked.world ended.history) limits lasts
leaves_stopped g cluster limits lasts secured none ended nodes =
    record {
      sound = ended.sound;
      counted = ended.nodes ∙ sym ended.size;
      nodes = omega (arith, ended.size, nodes);
      shown = after w ended.history;
      shows = ended.leads w secured.stocked.shows;
      stands = as-itself (after w ended.history);
      holds = λ i store got.
          subst (λ (n : ℕ). HoldsOf g ((after w ended.history).node n) store) (omega arith)
          (one_after g w 1 ended.history lasts all i store got).contents.contents;
    }
  where
    w : World
    w = secured.stocked.world

    all : AreStoresAfter g w ended.history 1 lasts
    all = ended.stores w secured.stocked.shows (secured_stores g cluster secured none)
