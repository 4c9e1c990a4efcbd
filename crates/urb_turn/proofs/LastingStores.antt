-- One node and its store, whatever the store answers: as one of a cluster's stores, and if the node
-- went down meanwhile.
use Rattle.urb_turn.proofs.Common.{Down, Entry, Err, Ghosts, Gives, IsLasting, IsLastingOf}
use Rattle.urb_turn.proofs.Common.{IsStoreOf, Keeps, LeavesOf, List, MayLeave, Node, Ok, Option}
use Rattle.urb_turn.proofs.Common.{Placed, Ready, Result, Some, Stays, StoreFault, [], ap, doubt}
use Rattle.urb_turn.proofs.Common.{false, false≢true, inl, inr, is_down, leaves-draft, leaves-stay}
use Rattle.urb_turn.proofs.Common.{subst, sym, true, ⊎_elim, ◌++◌, ◌∙◌, ◌∷◌, ◌≡◌}
use Rattle.urb_group.proofs.stops.SecuredClusters.{asked-still, lasting-honest, lasting-known}
use Rattle.urb_group.proofs.stops.SecuredClusters.{read-honest, still-down}
use Rattle.urb_group.proofs.stops.StockedClusters.{leaves-held, left-by-draft, lost, rose, took}
use Rattle.urb_group.proofs.stops.StockedClusters.{unread}
use Rattle.urb_world.proofs.stops.StockedNodes.{Rises}
use Rattle.urb_group.proofs.stops.StockedSteps.{store-stays}
use Rattle.urb_group.specs.StoreContents.{HoldsOf}
use Rattle.urb_node.specs.Part.{State}
use Rattle.urb_stable.specs.StableStorage.{IsContents}

module _ {S A : Type 0} (g : Ghosts S A) where
  -- the store of a node that is up is honest
  pub honest-up : (node : Node) (store : S) → IsLasting g node store → is_down node.state ≡ false
      → g.is_clean store → g.is_honest store
  honest-up node store h up clean =
      ⊎_elim (λ honest. honest) (λ shut. absurd (false≢true (sym up ∙ shut.1))) (h.known clean)

  -- a store lasts while its node has the same records, and the same record held or in doubt
  pub stays : (old new : Node) (store : S) → Stays old new → IsLastingOf g old store
      → IsLastingOf g new store
  stays old new store s h = (
    store-stays g old new store s h.0,
    record {
      left = λ clean. leaves-stay g old new store s (h.1.left clean);
      known =
          λ clean. ⊎_elim (λ honest. inl honest) (λ shut. inr (shut.0, still-down old new s shut.1))
          (h.1.known clean);
    },
  )

  -- A store of a node that is up is asked to keep a draft. A stop inside this call leaves the
  -- node's records, or these and the draft's record.
  pub left-of-draft : (node : Node) (before after : S) (draft : Placed)
      (answer : Result (Unit {0}) StoreFault) → Keeps g before draft answer after
      → IsLastingOf g node before → is_down node.state ≡ false
      → g.is_clean after → g.leaves_only after (IsContents node.records (Some draft.entry))
  left-of-draft node before after draft answer keeps h up clean =
      left-by-draft g node before after draft answer keeps h.0 up
      (honest-up node before h.1 up (keeps.trust.clean clean)) clean

  -- a store that took the draft lasts beside the node that has the draft's record
  pub keeps-took : (node new : Node) (before after : S) (draft : Placed)
      → Keeps g before draft (Ok tt) after → IsLastingOf g node before → is_down node.state ≡ false
      → new.records ≡ node.records ++ draft.entry ∷ [] → new.state ≡ Ready → IsLastingOf g new after
  keeps-took node new before after draft keeps h up records ready =
      let store = took g node new before after draft keeps h.0 up records ready in (
        store,
        lasting-honest g new after store
            (λ clean. keeps.trust.alive
            (honest-up node before h.1 up (keeps.trust.clean clean)) clean),
      )

  -- the store took the draft of a node that went down meanwhile
  pub keeps-late : (node fell : Node) (before after : S) (draft : Placed)
      → Keeps g before draft (Ok tt) after → IsLastingOf g node before → is_down node.state ≡ false
      → fell.records ≡ node.records → fell.state ≡ Down (Some draft.entry)
      → IsLastingOf g fell after
  keeps-late node fell before after draft keeps h up records down = (
    store,
    lasting-honest g fell after store
        (λ clean. keeps.trust.alive
        (honest-up node before h.1 up (keeps.trust.clean clean)) clean),
  )
    where
      certain : g.is_honest after → g.certain after ≡ fell.records ++ draft.entry ∷ []
      certain honest =
          (keeps.appended honest).stored ∙ ap (λ rs. rs ++ draft.entry ∷ [])
          ((h.0.up (keeps.trust.honest honest) up).0 ∙ sym records)

      holds : HoldsOf g fell after
      holds honest image c =
          subst (λ (s : State). IsContents fell.records (doubt s) image) (sym down)
          (inr (subst (λ (o : Option Entry). IsContents (g.certain after) o image)
          keeps.doubted.clear.1 c
          ∙ certain honest))

      store : IsStoreOf g fell after
      store =
          record {
            contents = holds;
            left = leaves-held g fell after holds keeps.rest;
            up = λ honest e. absurd (false≢true (sym e ∙ ap is_down down));
            sure = λ e. absurd (false≢true (sym e ∙ ap is_down down));
          }

  -- a store that failed to take the draft lasts beside its node, which is down and in doubt about
  -- it
  pub keeps-lost : (node new : Node) (before after : S) (draft : Placed) (fault : StoreFault)
      → Keeps g before draft (Err fault) after → IsLastingOf g node before
      → is_down node.state ≡ false
      → new.records ≡ node.records → new.state ≡ Down (Some draft.entry) → IsLastingOf g new after
  keeps-lost node new before after draft fault keeps h up records down = (
    lost g node new before after draft fault keeps h.0 up records down,
    record {
      left = λ clean. leaves-draft g new after draft.entry (ap doubt down) (only clean);
      known =
          λ clean. ⊎_elim (λ honest. inl honest) (λ shut. inr (shut, ap is_down down))
          (keeps.trust.shut (was clean) clean);
    },
  )
    where
      was : g.is_clean after → g.is_honest before
      was clean = honest-up node before h.1 up (keeps.trust.clean clean)

      only : g.is_clean after → g.leaves_only after (IsContents new.records (Some draft.entry))
      only clean =
          subst (λ (xs : List Entry). g.leaves_only after (IsContents xs (Some draft.entry)))
          (sym records)
          (left-by-draft g node before after draft (Err fault) keeps h.0 up (was clean) clean)

  -- a store that gave its records lasts beside the node that was restarted with them
  pub gives-rose : (node new : Node) (before after : S) (image : List Entry)
      → Gives g before (Ok image) after → (MayLeave node image → Rises image new)
      → IsLastingOf g node before → IsLastingOf g new after
  gives-rose node new before after image gives rises h =
      let store = rose g node new before after image gives rises h.0 in (
        store,
        lasting-honest g new after store
            (read-honest g before after image gives (lasting-known g node before h.1)),
      )

  -- a store that gave a fault instead of its records lasts beside its node, which is down
  pub gives-unread : (node : Node) (before after : S) (fault : StoreFault)
      → Gives g before (Err fault) after → is_down node.state ≡ true → IsLastingOf g node before
      → IsLastingOf g node after
  gives-unread node before after fault gives down h = (
    unread g node before after fault gives h.0,
    record {
      left = asked-still g node before after (Err fault) gives h.1;
      known = λ clean.
          ⊎_elim (λ honest. ⊎_elim (λ still. inl still) (λ shut. inr (shut, down))
          (gives.trust.shut honest clean)) (λ shut. inr ((gives.refuses shut.0 clean).1, down))
          (h.1.known (gives.trust.clean clean));
    },
  )
