-- What is known of a group that is opened over stores asked in parallel. It goes on from the world
-- before the stop. A stop inside the call leaves no more in the stores than a stop before it.
use Rattle.urb_folder.proofs.Common.{All, AllAnswer, AllGive, Entry, Err, Ghosts, Gives, GroupView}
use Rattle.urb_folder.proofs.Common.{HasStopped, IfOk, IsContents, IsKnown, Limits, List, Node, Ok}
use Rattle.urb_folder.proofs.Common.{Option, Result, RetrievesTogether, Some, StoreFault, Vec}
use Rattle.urb_folder.proofs.Common.{World, [], false, get_or_from_slice_get, get_some, inl, inr}
use Rattle.urb_folder.proofs.Common.{length, list_in, map, refl, refusal_of, slice_get}
use Rattle.urb_folder.proofs.Common.{slice_index_or, subst, suc, sym, zero, ℕ, ◌++◌, ◌∙◌, ◌∷◌, ◌≡◌}
use Rattle.urb_folder.proofs.Common.{◌⊎◌}
use Rattle.std.proofs.lemmas.Bool.{false≢true}
use Rattle.std.proofs.lemmas.List.Elements.{recursion_from_All}
use Rattle.urb_names.specs.declared.refusal.Refusal.{Refusal}
use Rattle.urb_stable.specs.StableStorage.{is_bad_row, is_place}
use Rattle.urb_group.proofs.stops.NodeStoreInvariant.{one-store}
use Rattle.urb_group.proofs.stops.OpenedClusters.{given-at, opens-goes_on, opens-leaves}
use Rattle.urb_group.proofs.stops.OpenedClusters.{opens-stocked}
use Rattle.urb_group.proofs.stops.SecuredClusters.{read-honest}
use Rattle.urb_group.proofs.stops.SecuredOpenings.{opens-secured}
use Rattle.urb_group.proofs.stops.StockedClusters.{asked-left}
use Rattle.urb_group.proofs.stops.StockedPlays.{all-at}
use Rattle.urb_group.specs.GroupCalls.{Opens}
use Rattle.urb_group.specs.StoreContents.{AllHold, HoldsOf, IsSecured, IsStocked, RestLeaves}
use Rattle.urb_group.specs.StoreContents.{StopLeaves}
use Rattle.urb_folder.specs.GroupsAfterStop.{AreIntact, ContinuesTogether, beside_stores}
use Rattle.urb_folder.specs.AskedStores.{AreRefusedTogether, OpensTogether}
use Rattle.urb_names.specs.declared.refusal.Refusal.TheVariants as refusal
use Rattle.urb_stable.specs.declared.stable.StoreFault.TheVariants as fault

-- ---- each store was asked

-- the store that is in this place now is the earlier one after it was asked
record WasAsked {S A : Type 0} (g : Ghosts S A) (stores : List S) (i : ℕ) (after : S) : Type 0 where
  pub before : S
  pub answer : Result (List Entry) StoreFault
  pub was : slice_get stores i ≡ Some before
  pub gives : Gives g before answer after

was-asked :
    {S A : Type 0} (g : Ghosts S A) (stores : List S)
    (answers : List (Result (Vec Entry A) StoreFault)) (asked : List S)
    → AllAnswer g stores answers asked
    → (i : ℕ) (store : S) → slice_get asked i ≡ Some store → WasAsked g stores i store
was-asked g [] [] [] h i store e = absurd (cc)
was-asked g [] [] (a ∷ asked) h i store e = absurd h
was-asked g [] (n ∷ answers) asked h i store e = absurd h
was-asked g (s ∷ stores) [] asked h i store e = absurd h
was-asked g (s ∷ stores) (n ∷ answers) [] h i store e = absurd h
was-asked g (s ∷ stores) (n ∷ answers) (a ∷ asked) h zero store e =
    let f : a ≡ store = cc in
    record {
      before = s;
      answer = list_in n;
      was = refl;
      gives = subst (λ (t : _). Gives g s (list_in n) t) f h.0;
    }
was-asked g (s ∷ stores) (n ∷ answers) (a ∷ asked) h (suc i) store e =
    let one = was-asked g stores answers asked h.1 i store e in
    record { before = one.before; answer = one.answer; was = one.was; gives = one.gives }

-- ---- it still holds what a stop may leave of its node

still-holds :
    {S A : Type 0} (g : Ghosts S A) (node : Node) (before after : S)
    (answer : Result (List Entry) StoreFault)
    → Gives g before answer after → HoldsOf g node before → HoldsOf g node after
still-holds g node before after (Ok image) gives holds = λ honest records c.
    let none =
    subst (λ (o : Option Entry). IsContents (g.certain after) o records) gives.settled.clear.1 c in
    let same : records ≡ image = none ∙ (gives.retrieved honest).given.0 in
    holds (gives.trust.honest honest) records
    (subst (λ rs. IsContents (g.certain before) (g.doubt before) rs) (sym same)
    (gives.retrieved honest).given.1)
still-holds g node before after (Err fault) gives holds = λ honest records c.
    let kept =
    subst (λ (o : Option Entry). IsContents (g.certain after) o records) gives.settled.kept.1 c in
    holds (gives.trust.honest honest) records
    (subst (λ certain. IsContents certain (g.doubt before) records)
    (gives.retrieved honest).failed kept)

-- this is so for all of them
answer-held :
    {S A : Type 0} (g : Ghosts S A) (w : World) (stores : List S)
    (answers : List (Result (Vec Entry A) StoreFault)) (asked : List S)
    → AllAnswer g stores answers asked → AllHold g w stores → AllHold g w asked
answer-held g w stores answers asked h hold = λ i store got.
    (let one = was-asked g stores answers asked h i store got in
    let held = hold i one.before one.was in
    still-holds g (w.node (suc i)) one.before store one.answer one.gives held)

-- and a stop inside the call leaves no more in them
answer-left :
    {S A : Type 0} (g : Ghosts S A) (w : World) (stores : List S)
    (answers : List (Result (Vec Entry A) StoreFault)) (asked : List S)
    → AllAnswer g stores answers asked → AllHold g w stores → StopLeaves g w stores asked
answer-left g w stores answers asked h hold = λ i before after was is honest clean.
    (let one = was-asked g stores answers asked h i after is in
    let same : before ≡ one.before = one-store stores i was one.was in
    let held = hold i one.before one.was in
    asked-left g (w.node (suc i)) one.before after one.gives.stop held
    (subst g.is_honest same honest) clean)

refused-held :
    {S A : Type 0} (g : Ghosts S A) (w : World) (stores : List S) (why : Refusal) (asked : List S)
    → AreRefusedTogether g stores why asked → AllHold g w stores → AllHold g w asked
refused-held g w stores why asked (inl h) hold =
    answer-held g w stores h.answers asked h.answered hold
refused-held g w stores why asked (inr same) hold =
    subst (λ xs. AllHold g w xs) (sym same.0) hold

refused-left :
    {S A : Type 0} (g : Ghosts S A) (w : World) (stores : List S) (why : Refusal) (asked : List S)
    → AreRefusedTogether g stores why asked
    → AllHold g w stores → RestLeaves g w stores → StopLeaves g w stores asked
refused-left g w stores why asked (inl h) hold rest =
    answer-left g w stores h.answers asked h.answered hold
refused-left {S} g w stores why asked (inr same) hold rest =
    subst (λ (xs : List S). StopLeaves g w stores xs) (sym same.0)
    (λ i before after was is honest clean.
    (let one : before ≡ after = one-store stores i was is in
    rest i after is (subst g.is_honest one honest)))

-- ---- why the stores did not give all their lists

-- a store answered this fault
record Failed {S A : Type 0} (g : Ghosts S A) (stores asked : List S)
    (why : StoreFault) : Type 0 where
  pub place : ℕ
  pub before : S
  pub after : S
  pub was : slice_get stores place ≡ Some before
  pub is : slice_get asked place ≡ Some after
  pub gives : Gives g before (Err why) after

one-failed :
    {S A : Type 0} (g : Ghosts S A) (earlier later : List (Result (Vec Entry A) StoreFault))
    (why : StoreFault) (stores asked : List S)
    → AllAnswer g stores (earlier ++ Err why ∷ later) asked → Failed g stores asked why
one-failed g [] later why [] asked h = absurd h
one-failed g [] later why (s ∷ stores) [] h = absurd h
one-failed g [] later why (s ∷ stores) (a ∷ asked) h =
    record { place = 0; before = s; after = a; was = refl; is = refl; gives = h.0 }
one-failed g (n ∷ earlier) later why [] asked h = absurd h
one-failed g (n ∷ earlier) later why (s ∷ stores) [] h = absurd h
one-failed g (n ∷ earlier) later why (s ∷ stores) (a ∷ asked) h =
    let one = one-failed g earlier later why stores asked h.1 in
    record {
      place = suc one.place;
      before = one.before;
      after = one.after;
      was = one.was;
      is = one.is;
      gives = one.gives;
    }

-- memory was refused, or a device failed
IsOfMachine : Refusal → Type 0
IsOfMachine why = (why ≡ refusal.NoMemory) ⊎ (why ≡ refusal.Device)

-- the fault of an honest store is one of these
honest-fault : (e : StoreFault) → is_place e ≡ false → is_bad_row e ≡ false
    → IsOfMachine (refusal_of e)
unfolding IsOfMachine
honest-fault fault.NoMemory p b = inl refl
honest-fault fault.Device p b = inr refl
honest-fault (fault.Place next) p b = absurd (false≢true (sym p))
honest-fault (fault.BadRow place) p b = absurd (false≢true (sym b))

failed-so :
    {S A : Type 0} (g : Ghosts S A) (stores asked : List S) (e : StoreFault)
    → Failed g stores asked e → AreIntact g stores asked → IsOfMachine (refusal_of e)
failed-so g stores asked e one (inl honest) =
    let are = recursion_from_All g.is_honest asked honest in
    let now = all-at g.is_honest asked are one.place one.after one.is in
    honest-fault e one.gives.allowed.faults.0 (one.gives.allowed.faults.1 now)
failed-so g stores asked e one (inr known) =
    let are = recursion_from_All g.is_clean asked known.1 in
    let were = recursion_from_All (IsKnown g) stores known.0 in
    let now = all-at g.is_clean asked are one.place one.after one.is in
    let was =
    all-at (IsKnown g) stores were one.place one.before one.was (one.gives.trust.clean now) in
    honest-fault e one.gives.allowed.faults.0 (one.gives.allowed.sound was now)

refused-so :
    {S A : Type 0} (g : Ghosts S A) (stores : List S) (why : Refusal) (asked : List S)
    → AreRefusedTogether g stores why asked → AreIntact g stores asked → IsOfMachine why
unfolding IsOfMachine
refused-so g stores why asked (inr short) known = inl short.1
refused-so g stores why asked (inl h) known = elim h.told [
  | inr none ↦ inl none
  | inl told ↦
      (let first = told.1 in
      let are = subst (λ them. AllAnswer g stores them asked) first.were h.answered in
      let one = one-failed g first.earlier first.later told.0 stores asked are in
      subst IsOfMachine (sym told.2) (failed-so g stores asked told.0 one known))
]

-- ---- the group that is opened

-- lists that were returned, and the group that was opened from them
opened-of :
    {S A : Type 0} (g : Ghosts S A) (size : Limits) (stores : List S) (images : List (List Entry))
    (result : Result GroupView Refusal) (asked : List S)
    → AllGive g stores images asked → Opens size images result
    → OpensTogether g size stores result asked
opened-of g size stores images (Ok group) asked given opens =
    record { images = images; given = given; opens = opens }
opened-of g size stores images (Err why) asked given opens =
    inr (record { images = images; given = given; opens = opens })

-- if all stores gave their lists, the group is opened from them, or refused because of them
pub opened-together :
    {S A : Type 0} (g : Ghosts S A) (size : Limits) (stores : List S)
    (answer : Result (Vec (Vec Entry A) A) Refusal) (asked : List S) (images : Vec (Vec Entry A) A)
    (result : Result GroupView Refusal)
    → RetrievesTogether g stores answer asked → answer ≡ Ok images
    → Opens size (map (λ image. image.items) images.items) result
    → OpensTogether g size stores result asked
opened-together g size stores answer asked images result gives is =
    opened-of g size stores (map (λ image. image.items) images.items) result asked
    (subst (λ them. RetrievesTogether g stores them asked) is gives)

-- if the stores did not give all their lists, the group is refused for the same cause
pub unopened-together :
    {S A : Type 0} (g : Ghosts S A) (size : Limits) (stores : List S)
    (answer : Result (Vec (Vec Entry A) A) Refusal) (asked : List S) (why : Refusal)
    → RetrievesTogether g stores answer asked → answer ≡ Err why
    → OpensTogether g size stores (Err why) asked
unopened-together g size stores answer asked why gives is =
    inl (subst (λ them. RetrievesTogether g stores them asked) is gives)

-- intact stores that gave their lists are honest
intact-honest :
    {S A : Type 0} (g : Ghosts S A) (stores : List S) (images : List (List Entry)) (asked : List S)
    → AllGive g stores images asked → AreIntact g stores asked → All g.is_honest asked
intact-honest g stores images asked given (inl honest) = honest
intact-honest g stores images asked given (inr known) = λ k d low.
    (let one = get_some asked k low in
    let from = given-at g stores images asked given k one.0 one.1 in
    let was = all-at (IsKnown g) stores (recursion_from_All (IsKnown g) stores known.0) k from.0
    from.1 in
    let clean = all-at g.is_clean asked (recursion_from_All g.is_clean asked known.1) k one.0 one.1 in
    subst g.is_honest (sym (get_or_from_slice_get asked k one.0 d one.1))
    (read-honest g from.0 one.0 (slice_index_or images k []) from.2 was clean))

-- A group that is opened after a stop goes on from the world before it, if its stores are intact.
pub goes-on-together :
    {S A : Type 0} (g : Ghosts S A) (size : Limits) (stores : List S)
    (result : Result GroupView Refusal) (asked : Vec S A)
    → OpensTogether g size stores result asked.items → length stores ≡ size.n
    → (old : GroupView) (w : World) → HasStopped g old w size stores
    → ContinuesTogether g old w size stores result asked.items
unfolding IsOfMachine
goes-on-together g size stores (Ok group) asked h count old w stopped = λ intact.
    opens-goes_on g old w size stores stopped count (Ok (beside_stores group asked.items)) h
    (intact-honest g stores h.images asked.items h.given intact)
goes-on-together g size stores (Err why) asked (inr h) count old w stopped =
    opens-goes_on g old w size stores stopped count (Err (asked, why)) (inr h)
goes-on-together g size stores (Err why) asked (inl h) count old w stopped = (
  record {
    sound = stopped.sound;
    counted = stopped.counted;
    nodes = stopped.nodes;
    shown = stopped.shown;
    shows = stopped.shows;
    stands = stopped.stands;
    holds = refused-held g w stores why asked.items h stopped.holds;
  },
  λ may. refused-so g stores why asked.items h,
)

-- a stop while the stores are asked leaves in them what a stop may leave of the world's nodes
pub leaves-together :
    {S A : Type 0} (g : Ghosts S A) (size : Limits) (stores : List S)
    (result : Result GroupView Refusal) (asked : Vec S A)
    → OpensTogether g size stores result asked.items
    → (w : World) → AllHold g w stores → RestLeaves g w stores → StopLeaves g w stores asked.items
leaves-together g size stores (Ok group) asked h =
    opens-leaves g size stores (Ok (beside_stores group asked.items)) h
leaves-together g size stores (Err why) asked (inr h) =
    opens-leaves g size stores (Err (asked, why)) (inr h)
leaves-together g size stores (Err why) asked (inl h) =
    λ w hold rest. refused-left g w stores why asked.items h hold rest

-- a group that was opened is stocked, with the stores that were asked
pub stocked-together :
    {S A : Type 0} (g : Ghosts S A) (size : Limits) (stores : List S)
    (result : Result GroupView Refusal) (asked : List S)
    → OpensTogether g size stores result asked
    → IfOk result (λ group. IsStocked g (beside_stores group asked))
stocked-together g size stores (Ok group) asked h =
    opens-stocked g size stores (Ok (beside_stores group asked)) h
stocked-together g size stores (Err why) asked h = tt

-- if each store was honest or shut by a failure, the opened group is secured, with these stores
pub secured-together :
    {S A : Type 0} (g : Ghosts S A) (size : Limits) (stores : List S)
    (result : Result GroupView Refusal) (asked : List S)
    → OpensTogether g size stores result asked → All (IsKnown g) stores
    → IfOk result (λ group. IsSecured g (beside_stores group asked))
secured-together g size stores (Ok group) asked h known =
    opens-secured g size stores (Ok (beside_stores group asked)) h known
secured-together g size stores (Err why) asked h known = tt
