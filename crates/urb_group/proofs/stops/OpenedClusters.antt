-- A cluster that is opened over stores is stocked. If its stores are honest, it goes on from the
-- cluster that was stocked with them.
use Rattle.urb_group.proofs.Common.{All, AllByRecursion, AllGive, AllHold, AreChosen, Clustered}
use Rattle.urb_group.proofs.Common.{Continues, Entry, Err, FirstFails, Fits, Ghosts, Gives}
use Rattle.urb_group.proofs.Common.{GroupView, HoldsOf, IfOk, IsContents, IsKept, IsKnown}
use Rattle.urb_group.proofs.Common.{IsStocked, IsStoreOf, LeavesOf, Limits, List, MayLeave, Node}
use Rattle.urb_group.proofs.Common.{Ok, Opens, OpensFrom, OpensStores, Option, Refusal, RestLeaves}
use Rattle.urb_group.proofs.Common.{Result, Shows, Some, StopLeaves, StoreFault, Vec, World, [], ap}
use Rattle.urb_group.proofs.Common.{append-nil, arith, false, false≢true, fitting-kept, inl, inr}
use Rattle.urb_group.proofs.Common.{is_place, length, opened, opened_node, recursion_from_All, refl}
use Rattle.urb_group.proofs.Common.{slice_get, slice_index_or, stores_in, subst, suc, sym, zero, ℕ}
use Rattle.urb_group.proofs.Common.{⊎_elim, ◌++◌, ◌∙◌, ◌∷◌, ◌≡◌, ◌≤◌, ◌⊎◌}
use Rattle.std.proofs.lemmas.List.Elements.{All-from_recursion}
use Rattle.urb_stable.specs.Images.{image_of}
use Rattle.urb_stable.specs.StableStorage.{is_bad_row, refusal_of}
use Rattle.urb_group.proofs.moves.FittingImages.{misfit-unfit}
use Rattle.urb_group.proofs.stops.NodeStoreInvariant.{one-store}
use Rattle.urb_group.proofs.stops.SecuredClusters.{read-honest}
use Rattle.urb_group.proofs.stops.StockedClusters.{asked-left, leaves-held}
use Rattle.urb_world.proofs.stops.LimitChanges.{starts-on}
use Rattle.urb_group.proofs.stops.StockedPlays.{chosen-left}
use Rattle.urb_world.proofs.stops.StoppedWorlds.{goes-on-under}
use Rattle.urb_group.proofs.stops.StoredWorlds.{outside-stored, stored-kept}
use Rattle.urb_group.proofs.shown.AgreeingWorlds.{sound-kept}
use Rattle.urb_group.specs.StoreOpenings.{AreRefused, ContinuesFrom, HasStopped, OpensGiven}
use Rattle.urb_world.specs.ProcessStops.{GoesOnUnder}
use Rattle.urb_world.specs.StartLimits.{MayStartWith}
use Rattle.urb_names.specs.declared.refusal.Refusal.TheVariants as refusal
use Rattle.urb_stable.specs.declared.stable.StoreFault.TheVariants as fault

-- ---- stores that were asked one after the other

-- if some stores gave their lists, and one more store gives its list, then all of them gave theirs
pub give-more : {S A : Type 0} (g : Ghosts S A) (stores : List S) (images : List (List Entry))
    (asked : List S) (before after : S) (image : List Entry) → AllGive g stores images asked
    → Gives g before (Ok image) after
    → AllGive g (stores ++ before ∷ []) (images ++ image ∷ []) (asked ++ after ∷ [])
give-more g [] [] [] before after image h one = (one, tt)
give-more g (s ∷ stores) (i ∷ images) (a ∷ asked) before after image h one =
    (h.0, give-more g stores images asked before after image h.1 one)
give-more g _ _ _ before after image h one = absurd h

-- stores that gave their lists gave one list each
pub given-count : {S A : Type 0} (g : Ghosts S A) (stores : List S) (images : List (List Entry))
    (asked : List S) → AllGive g stores images asked → length images ≡ length stores
given-count g [] [] [] h = refl
given-count g (s ∷ stores) (i ∷ images) (a ∷ asked) h =
    ap suc (given-count g stores images asked h.1)
given-count g _ _ _ h = absurd h

-- a group that is opened from all lists, or is not
pub given-opens : {S A : Type 0} (g : Ghosts S A) (size : Limits) (stores asked : List S)
    (images : List (List Entry)) (result : Result GroupView Refusal) → AllGive g stores images asked
    → Opens size images result → OpensFrom g size stores result asked
given-opens g size stores asked images (Ok group) given opens =
    record { images = images; given = given; opens = opens }
given-opens g size stores asked images (Err why) given opens =
    inr (record { images = images; given = given; opens = opens })

-- the store in a place gave the list in that place
pub given-at : {S A : Type 0} (g : Ghosts S A) (stores : List S) (images : List (List Entry))
    (asked : List S) → AllGive g stores images asked → (i : ℕ) (store : S)
    → slice_get asked i ≡ Some store
    → (before : S) × (slice_get stores i ≡ Some before)
    × Gives g before (Ok (slice_index_or images i [])) store
given-at g [] [] [] h i store e = absurd (cc)
given-at g (s ∷ stores) (im ∷ images) (a ∷ asked) h zero store e =
    (let f : a ≡ store = cc in (s, refl, subst (λ (t : _). Gives g s (Ok im) t) f h.0))
given-at g (s ∷ stores) (im ∷ images) (a ∷ asked) h (suc i) store e =
    given-at g stores images asked h.1 i store e
given-at g _ _ _ h i store e = absurd h

-- if all are honest then, each list is one that its store may have held
given-chosen : {S A : Type 0} (g : Ghosts S A) (stores : List S) (images : List (List Entry))
    (asked : List S) → AllGive g stores images asked → AllByRecursion g.is_honest asked
    → (i : ℕ) (store : S) (image : List Entry) → slice_get stores i ≡ Some store
    → slice_get images i ≡ Some image
    → g.is_honest store × IsContents (g.certain store) (g.doubt store) image
given-chosen g [] [] [] h honest i store image e f = absurd (cc)
given-chosen g (s ∷ stores) (im ∷ images) (a ∷ asked) h honest zero store image e f =
    let one : s ≡ store = cc in
    let two : im ≡ image = cc in
    subst (λ (t : _). g.is_honest t × IsContents (g.certain t) (g.doubt t) image) one
    (subst (λ (records : List Entry). g.is_honest s
    × IsContents (g.certain s) (g.doubt s) records) two
    (h.0.trust.honest honest.0, (h.0.retrieved honest.0).given.1))
given-chosen g (s ∷ stores) (im ∷ images) (a ∷ asked) h honest (suc i) store image e f =
    given-chosen g stores images asked h.1 honest.1 i store image e f
given-chosen g _ _ _ h honest i store image e f = absurd h

-- ---- the opened cluster is stocked

-- a store that gave this list belongs to the node that is opened from it
pub given-store : {S A : Type 0} (g : Ghosts S A) (p : ℕ) (image : List Entry) (before after : S)
    → Gives g before (Ok image) after → IsStoreOf g (opened_node p image) after
given-store g p image before after gives =
    record {
      contents = holds;
      left = leaves-held g (opened_node p image) after holds gives.rest;
      up = λ honest e. ((gives.retrieved honest).given.0, gives.settled.clear.1);
      sure = λ e. gives.settled.clear.0;
    }
  where
    holds : HoldsOf g (opened_node p image) after
    holds honest records c =
        subst (λ (o : Option Entry). IsContents (g.certain after) o records) gives.settled.clear.1 c
        ∙ (gives.retrieved honest).given.0

-- a cluster that is opened over stores is stocked
pub opens-stocked : {S A : Type 0} (g : Ghosts S A) (size : Limits) (stores : List S)
    (result : Result (Clustered S) (Vec S A × Refusal)) → OpensStores g size stores result
    → IfOk result (λ cluster. IsStocked g cluster)
opens-stocked g size stores (Ok cluster) h =
    record {
      world = opened size (image_of h.images);
      shows = h.opens.1;
      stores =
          λ i store got. (let one = given-at g stores h.images cluster.stores h.given i store got in
          given-store g (suc i) (slice_index_or h.images i []) one.0 store one.2);
    }
opens-stocked g size stores (Err e) h = tt

-- ---- stores that were asked still hold what a stop may leave of their nodes

-- If the store holds what a stop may leave of a node, it still does after the call. A stop inside
-- the call leaves in it what a stop before the call might have left.
record StaysOf {S A : Type 0} (g : Ghosts S A) (before after : S) : Type 0 where
  -- if all that the store may hold is what a stop may leave of a node, this stays so
  pub holds : (node : Node) → HoldsOf g node before → HoldsOf g node after
  -- a stop during the call leaves what a stop may leave of the node, if a stop before the call did
  pub leaves : (node : Node) → HoldsOf g node before → (g.is_honest before → LeavesOf g node before)
      → g.is_honest before → g.is_clean after → LeavesOf g node after

-- a store that gave its list
gave-stays : {S A : Type 0} (g : Ghosts S A) (before after : S) (image : List Entry)
    → Gives g before (Ok image) after → StaysOf g before after
gave-stays g before after image gives =
    record {
      holds = λ node holds honest records c.
          (let same : records ≡ image =
          subst (λ (o : Option Entry). IsContents (g.certain after) o records)
          gives.settled.clear.1 c
          ∙ (gives.retrieved honest).given.0 in
          holds (gives.trust.honest honest) records
          (subst (λ (rs : List Entry). IsContents (g.certain before) (g.doubt before) rs)
          (sym same) (gives.retrieved honest).given.1));
      leaves = λ node holds rest. asked-left g node before after gives.stop holds;
    }

-- a store that answered with a fault
failed-stays : {S A : Type 0} (g : Ghosts S A) (before after : S) (fault : StoreFault)
    → Gives g before (Err fault) after → StaysOf g before after
failed-stays g before after fault gives =
    record {
      holds = λ node holds honest records c.
          holds (gives.trust.honest honest) records
          (subst (λ (certain : List Entry). IsContents certain (g.doubt before) records)
          (gives.retrieved honest).failed (subst (λ (o : Option Entry).
          IsContents (g.certain after) o records) gives.settled.kept.1 c));
      leaves = λ node holds rest. asked-left g node before after gives.stop holds;
    }

-- each store in its place stays like this
record StayIn {S A : Type 0} (g : Ghosts S A) (stores asked : List S) (i : ℕ)
    (store : S) : Type 0 where
  -- the store before it was asked
  pub before : S
  -- it had the same place
  pub was : slice_get stores i ≡ Some before
  -- what it may hold stays
  pub stays : StaysOf g before store

AllStay : {S A : Type 0} → Ghosts S A → List S → List S → Type 0
AllStay g stores asked =
    (i : ℕ) (store : _) → slice_get asked i ≡ Some store → StayIn g stores asked i store

same-stay : {S A : Type 0} (g : Ghosts S A) (stores : List S) → AllStay g stores stores
unfolding AllStay
same-stay g stores =
    λ i store e. record {
      before = store;
      was = e;
      stays =
          record { holds = λ node h. h; leaves = λ node h rest honest clean. rest honest };
    }

one-stays : {S A : Type 0} (g : Ghosts S A) (before after : S) (stores asked : List S)
    → StaysOf g before after → AllStay g stores asked → AllStay g (before ∷ stores) (after ∷ asked)
unfolding AllStay
one-stays {S} g before after stores asked stays all = at
  where
    at : (i : ℕ) (store : S) → slice_get (after ∷ asked) i ≡ Some store
        → StayIn g (before ∷ stores) (after ∷ asked) i store
    at zero store e = record {
      before = before;
      was = refl;
      stays =
          subst (λ (s : S). StaysOf g before s) (let f : after ≡ store = cc in f) stays;
    }
    at (suc i) store e =
        (let one = all i store e in record
        { before = one.before; was = one.was; stays = one.stays })

given-stay : {S A : Type 0} (g : Ghosts S A) (stores : List S) (images : List (List Entry))
    (asked : List S) → AllGive g stores images asked → (later rest : List S) → AllStay g later rest
    → AllStay g (stores ++ later) (asked ++ rest)
given-stay g [] [] [] h later rest all = all
given-stay g (s ∷ stores) (im ∷ images) (a ∷ asked) h later rest all =
    one-stays g s a (stores ++ later) (asked ++ rest) (gave-stays g s a im h.0)
    (given-stay g stores images asked h.1 later rest all)
given-stay g _ _ _ h later rest all = absurd h

all-given-stay : {S A : Type 0} (g : Ghosts S A) (stores : List S) (images : List (List Entry))
    (asked : List S) → AllGive g stores images asked → AllStay g stores asked
all-given-stay {S} g stores images asked h =
    subst (λ (xs : List S). AllStay g xs asked) (append-nil stores)
    (subst (λ (xs : List S). AllStay g (stores ++ []) xs) (append-nil asked)
    (given-stay g stores images asked h [] [] (same-stay g [])))

refused-stay : {S A : Type 0} (g : Ghosts S A) (stores asked : List S) (why : Refusal)
    → AreRefused g stores why asked → AllStay g stores asked
refused-stay {S} g stores asked why h =
    ⊎_elim first (λ short. subst (λ (xs : List S). AllStay g stores xs) (sym short.0)
    (same-stay g stores)) h
  where
    first : (fault : StoreFault) × FirstFails g stores fault asked × (why ≡ refusal_of fault)
        → AllStay g stores asked
    first f =
        subst (λ (xs : List S). AllStay g xs asked) (sym f.1.were)
        (subst (λ (xs : List S). AllStay g (f.1.earlier ++ f.1.before ∷ f.1.later) xs) (sym f.1.are)
        (given-stay g f.1.earlier f.1.images f.1.gave f.1.given (f.1.before ∷ f.1.later)
        (f.1.after ∷ f.1.later) (one-stays g f.1.before f.1.after f.1.later f.1.later
        (failed-stays g f.1.before f.1.after f.0 f.1.failed) (same-stay g f.1.later))))

-- this is so for all of them
stay-held : {S A : Type 0} (g : Ghosts S A) (w : World) (stores asked : List S)
    → AllStay g stores asked → AllHold g w stores → AllHold g w asked
unfolding AllStay
stay-held g w stores asked all hold =
    λ i store got. (let one = all i store got in
    one.stays.holds (w.node (suc i)) (hold i one.before one.was))

-- a stop inside the call leaves no more in them
stay-left : {S A : Type 0} (g : Ghosts S A) (w : World) (stores asked : List S)
    → AllStay g stores asked → AllHold g w stores → RestLeaves g w stores
    → StopLeaves g w stores asked
unfolding AllStay
stay-left g w stores asked all hold rest =
    λ i before after was is honest clean.
    (let one = all i after is in
    let same : before ≡ one.before = one-store stores i was one.was in
    one.stays.leaves (w.node (suc i)) (hold i one.before one.was) (rest i one.before one.was)
    (subst g.is_honest same honest) clean)

-- the stores of a cluster that was opened, or of one that was not
open-stays : {S A : Type 0} (g : Ghosts S A) (size : Limits) (stores : List S)
    (result : Result (Clustered S) (Vec S A × Refusal)) → OpensStores g size stores result
    → AllStay g stores (stores_in result)
open-stays g size stores (Ok cluster) h = all-given-stay g stores h.images cluster.stores h.given
open-stays g size stores (Err e) h =
    ⊎_elim (λ k. refused-stay g stores e.0.items e.1 k)
    (λ k. all-given-stay g stores k.images e.0.items k.given) h

-- a stop during an opening leaves in each honest store what a stop may leave of the world's node
pub opens-leaves : {S A : Type 0} (g : Ghosts S A) (size : Limits) (stores : List S)
    (result : Result (Clustered S) (Vec S A × Refusal)) → OpensStores g size stores result
    → (w : World) → AllHold g w stores → RestLeaves g w stores
    → StopLeaves g w stores (stores_in result)
opens-leaves g size stores result h w =
    stay-left g w stores (stores_in result) (open-stays g size stores result h)

-- ---- it goes on

-- the fault of an honest store says that memory was refused, or that its device failed
honest-fault : (e : StoreFault) → is_place e ≡ false → is_bad_row e ≡ false
    → (refusal_of e ≡ refusal.NoMemory) ⊎ (refusal_of e ≡ refusal.Device)
honest-fault fault.NoMemory p b = inl refl
honest-fault fault.Device p b = inr refl
honest-fault (fault.Place next) p b = absurd (false≢true (sym p))
honest-fault (fault.BadRow place) p b = absurd (false≢true (sym b))

-- what holds for all stores holds for the one after some others
every-behind : {S : Type 0} (P : S → Type 0) (earlier later : List S) (s : S)
    → AllByRecursion P (earlier ++ s ∷ later) → P s
every-behind P [] later s h = h.0
every-behind P (x ∷ earlier) later s h = every-behind P earlier later s h.1

-- stores that gave their lists are honest
given-honest : {S A : Type 0} (g : Ghosts S A) (stores : List S) (images : List (List Entry))
    (asked : List S) → AllGive g stores images asked → AllByRecursion (IsKnown g) stores
    → AllByRecursion g.is_clean asked → AllByRecursion g.is_honest asked
given-honest g [] [] [] h known clean = tt
given-honest g (s ∷ stores) (i ∷ images) (a ∷ asked) h known clean = (
  read-honest g s a i h.0 known.0 clean.0,
  given-honest g stores images asked h.1 known.1 clean.1,
)
given-honest g _ _ _ h known clean = absurd h

module _ {S A : Type 0} (g : Ghosts S A) (old : GroupView) (w : World) (size : Limits)
    (stores : List S) (stopped : HasStopped g old w size stores) where
  kept : IsKept w
  kept =
      stored-kept stopped.shown w stopped.stands
      (sound-kept old stopped.shown stopped.sound stopped.shows)

  same-size : old.size ≡ w.size
  same-size = stopped.shows.size ∙ sym stopped.stands.size

  more : w.size.n ≤ size.n
  more = let same = ap (λ (l : Limits). l.n) same-size in omega (arith, same, stopped.nodes)

  -- each list is what a stop may leave of its node
  left : length stores ≡ size.n → (images : List (List Entry)) → AreChosen g stores images
      → (p : ℕ) → MayLeave (w.node p) (image_of images p)
  left count images =
      chosen-left g old w stores images
      (outside-stored old stopped.shown w stopped.shows stopped.counted stopped.stands) stopped.holds
      (omega (arith, count, stopped.counted, stopped.nodes))

  chosen : (images : List (List Entry)) (asked : List S) → AllGive g stores images asked
      → All g.is_honest asked → AreChosen g stores images
  chosen images asked given honest =
      record {
        one_each = given-count g stores images asked given;
        each =
            λ i store image e f. given-chosen g stores images asked given
            (recursion_from_All g.is_honest asked honest) i store image e f;
      }

  goes-on-from : length stores ≡ size.n → (new : Clustered S)
      → OpensGiven g size stores new.stores (Ok new.group) → All g.is_honest new.stores
      → ContinuesFrom g w stores new.group
  goes-on-from count new h honest =
      let all = chosen h.images new.stores h.given honest in
      let same : size ≡ new.group.size = sym h.opens.1.size in
      record {
        images = h.images;
        chosen = all;
        goes_on =
            subst (λ (l : Limits). GoesOnUnder l w (image_of h.images)) same
            (goes-on-under w kept size more (image_of h.images) (left count h.images all)
            (fitting-kept size h.images (all.one_each ∙ count) h.opens.0));
        opens =
            subst (λ (l : Limits). Shows new.group (opened l (image_of h.images))) same h.opens.1;
        ready = λ p. (h.opens.1.nodes p).state;
      }

  -- lists that such stores gave fit together under limits that the group may start with
  not-inconsistent : length stores ≡ size.n → (asked : List S) (why : Refusal)
      → OpensGiven g size stores asked (Err why) → MayStartWith size w → All g.is_honest asked
      → (why ≡ refusal.NoMemory) ⊎ (why ≡ refusal.Device)
  not-inconsistent count asked why h may honest = at why h.opens
    where
      fit : Fits size (image_of h.images)
      fit =
          (starts-on w kept size may (image_of h.images)
          (left count h.images (chosen h.images asked h.given honest))).fits

      at : (r : Refusal) → Opens size h.images (Err r)
          → (r ≡ refusal.NoMemory) ⊎ (r ≡ refusal.Device)
      at refusal.NoMemory opens = inl refl
      at (refusal.Inconsistent rule node name) opens =
          absurd (misfit-unfit size (image_of h.images)
          (record { rule = rule; node = node; name = name }) opens fit)
      at _ opens = absurd opens

  refused-so : (asked : List S) (why : Refusal) → AreRefused g stores why asked
      → All g.is_honest asked → (why ≡ refusal.NoMemory) ⊎ (why ≡ refusal.Device)
  refused-so asked why h honest = ⊎_elim first (λ short. inl short.1) h
    where
      first : (fault : StoreFault) × FirstFails g stores fault asked × (why ≡ refusal_of fault)
          → (why ≡ refusal.NoMemory) ⊎ (why ≡ refusal.Device)
      first f =
          let was : AllByRecursion g.is_honest (f.1.gave ++ f.1.after ∷ f.1.later) =
          subst (λ (xs : List S). AllByRecursion g.is_honest xs) f.1.are
          (recursion_from_All g.is_honest asked honest) in
          let told =
          honest-fault f.0 f.1.failed.allowed.faults.0
          (f.1.failed.allowed.faults.1
          (every-behind g.is_honest f.1.gave f.1.later f.1.after was)) in
          subst (λ (r : Refusal). (r ≡ refusal.NoMemory) ⊎ (r ≡ refusal.Device)) (sym f.2) told

  -- a store that answered with this fault was honest, or shut
  refused-known : (asked : List S) (why : Refusal) → AreRefused g stores why asked
      → All (IsKnown g) stores → All g.is_clean asked
      → (why ≡ refusal.NoMemory) ⊎ (why ≡ refusal.Device)
  refused-known asked why h known clean = ⊎_elim first (λ short. inl short.1) h
    where
      first : (fault : StoreFault) × FirstFails g stores fault asked × (why ≡ refusal_of fault)
          → (why ≡ refusal.NoMemory) ⊎ (why ≡ refusal.Device)
      first f =
          let were : AllByRecursion (IsKnown g) (f.1.earlier ++ f.1.before ∷ f.1.later) =
          subst (λ (xs : List S). AllByRecursion (IsKnown g) xs) f.1.were
          (recursion_from_All (IsKnown g) stores known) in
          let are : AllByRecursion g.is_clean (f.1.gave ++ f.1.after ∷ f.1.later) =
          subst (λ (xs : List S). AllByRecursion g.is_clean xs) f.1.are
          (recursion_from_All g.is_clean asked clean) in
          let now : g.is_clean f.1.after =
          every-behind g.is_clean f.1.gave f.1.later f.1.after are in
          let was =
          every-behind (IsKnown g) f.1.earlier f.1.later f.1.before were
          (f.1.failed.trust.clean now) in
          subst (λ (r : Refusal). (r ≡ refusal.NoMemory) ⊎ (r ≡ refusal.Device)) (sym f.2)
          (honest-fault f.0 f.1.failed.allowed.faults.0 (f.1.failed.allowed.sound was now))

  -- a store that gave its list is honest
  all-honest : (images : List (List Entry)) (asked : List S) → AllGive g stores images asked
      → All (IsKnown g) stores → All g.is_clean asked → All g.is_honest asked
  all-honest images asked given known clean =
      All-from_recursion g.is_honest asked
      (given-honest g stores images asked given (recursion_from_All (IsKnown g) stores known)
      (recursion_from_All g.is_clean asked clean))

  -- over honest stores, a cluster opened after a stop goes on from the stopped world, and a refused
  -- opening can be tried again
  pub opens-goes_on : length stores ≡ size.n → (result : Result (Clustered S) (Vec S A × Refusal))
      → OpensStores g size stores result → Continues g old w size stores result
  opens-goes_on count (Ok new) h = goes-on-from count new h
  opens-goes_on count (Err e) h =
      let stay = open-stays g size stores (Err e) h in (
        record {
          sound = stopped.sound;
          counted = stopped.counted;
          nodes = stopped.nodes;
          shown =
              stopped.shown;
          shows = stopped.shows;
          stands = stopped.stands;
          holds = stay-held g w stores e.0.items stay stopped.holds;
        },
        λ may. ⊎_elim (λ honest. ⊎_elim (λ k. refused-so e.0.items e.1 k honest)
            (λ k. not-inconsistent count e.0.items e.1 k may honest) h)
            (λ known. ⊎_elim (λ k. refused-known e.0.items e.1 k known.0 known.1)
            (λ k. not-inconsistent count e.0.items e.1 k may
            (all-honest k.images e.0.items k.given known.0 known.1)) h),
      )
