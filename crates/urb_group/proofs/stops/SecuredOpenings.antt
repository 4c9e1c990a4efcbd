-- The stores of new clusters, and of clusters that were opened, last.
use Rattle.urb_group.proofs.Common.{All, Clustered, Err, Ghosts, IfOk, IsBlank, IsKnown, IsSecured}
use Rattle.urb_group.proofs.Common.{Limits, List, NoMemory, Ok, OpensStores, Refusal, Result, Some}
use Rattle.urb_group.proofs.Common.{Starts, Vec, [], get_or_from_slice_get, get_some, opened}
use Rattle.urb_group.proofs.Common.{opened_node, recursion_from_All, slice_get, slice_index_or}
use Rattle.urb_group.proofs.Common.{started, subst, suc, sym, ℕ, ◌≡◌}
use Rattle.urb_group.proofs.stops.OpenedClusters.{given-at, given-store}
use Rattle.urb_group.proofs.stops.SecuredClusters.{IsLastingOf, lasting-honest, lasting-known}
use Rattle.urb_group.proofs.stops.SecuredClusters.{read-honest, secured-beside}
use Rattle.urb_group.proofs.stops.StockedPlays.{all-at, blank-store}
use Rattle.urb_group.specs.StoreContents.{IsGenuine}
use Rattle.urb_world.specs.World.{image_of}

-- a new cluster over blank stores is secured, if each store is honest while its storage is clean
pub starts-secured : {S A T : Type 0} (g : Ghosts S A) (size : Limits) (stores : List S)
    (passed : T) (result : Result (Clustered S) (T × NoMemory)) → All (IsBlank g) stores
    → All (IsGenuine g) stores → Starts size stores passed result
    → IfOk result (λ cluster. IsSecured g cluster)
starts-secured {S} g size stores passed (Err e) blank genuine h = tt
starts-secured {S} g size stores passed (Ok cluster) blank genuine h =
    secured-beside g cluster (record { world = started size; shows = h.0; stores = at })
  where
    at : (i : ℕ) (store : S) → slice_get cluster.stores i ≡ Some store
        → IsLastingOf g ((started size).node (suc i)) store
    at i store got =
        let was = subst (λ xs. slice_get xs i ≡ Some store) h.1 got in
        let of =
        blank-store g size (suc i) store
        (all-at (IsBlank g) stores (recursion_from_All (IsBlank g) stores blank) i store was) in (
          of,
          lasting-honest g ((started size).node (suc i)) store of
              (all-at (IsGenuine g) stores (recursion_from_All (IsGenuine g) stores genuine)
              i store was),
        )

-- an opened cluster is secured, if each store is honest or shut while its storage is clean
pub opens-secured : {S A : Type 0} (g : Ghosts S A) (size : Limits) (stores : List S)
    (result : Result (Clustered S) (Vec S A × Refusal)) → OpensStores g size stores result
    → All (IsKnown g) stores
    → IfOk result (λ cluster. IsSecured g cluster)
opens-secured {S} g size stores (Err e) h known = tt
opens-secured {S} g size stores (Ok cluster) h known =
    secured-beside g cluster (record
    { world = opened size (image_of h.images); shows = h.opens.1; stores = at })
  where
    at : (i : ℕ) (store : S) → slice_get cluster.stores i ≡ Some store
        → IsLastingOf g ((opened size (image_of h.images)).node (suc i)) store
    at i store got =
        let one = given-at g stores h.images cluster.stores h.given i store got in
        let of = given-store g (suc i) (slice_index_or h.images i []) one.0 store one.2 in (
          of,
          lasting-honest g (opened_node (suc i) (slice_index_or h.images i [])) store of
              (read-honest g one.0 store (slice_index_or h.images i []) one.2
              (all-at (IsKnown g) stores (recursion_from_All (IsKnown g) stores known)
              i one.0 one.1)),
        )

-- each store of a secured cluster is honest, or a failure has shut it
pub secured-known : {S A : Type 0} (g : Ghosts S A) (cluster : Clustered S) → IsSecured g cluster
    → All (IsKnown g) cluster.stores
secured-known g cluster h k d low =
    let one = get_some cluster.stores k low in
    subst (λ store. IsKnown g store) (sym (get_or_from_slice_get cluster.stores k one.0 d one.1))
    (lasting-known g (h.stocked.world.node (suc k)) one.0 (h.lasting k one.0 one.1))
