-- The stores of a cluster still match a world that its group shows, whatever a command does to
-- them.
use Rattle.urb_group.proofs.Common.{Applies, Bool, Clustered, Command, Down, Entry, Err, Ghosts}
use Rattle.urb_group.proofs.Common.{Gives, HoldsOf, IsContents, IsPlaced, IsStocked, IsStoreOf}
use Rattle.urb_group.proofs.Common.{Keeps, LeavesOf, List, MayLeave, Node, None, Ok, Option, Placed}
use Rattle.urb_group.proofs.Common.{Ready, Result, Rises, Some, StoreFault, [], ap, doubt, false}
use Rattle.urb_group.proofs.Common.{false≢true, inl, inr, is_down, is_out_of_place, is_place, refl}
use Rattle.urb_group.proofs.Common.{subst, sym, true, ⊎_elim, ◌++◌, ◌∙◌, ◌∷◌, ◌≡◌, ◌⊎◌}
use Rattle.urb_node.specs.Part.{State}
use Rattle.urb_node.specs.Replies.{Reply}
use Rattle.urb_group.proofs.stops.NodeStoreInvariant.{Beside, Lasts, applies-beside}
use Rattle.urb_group.proofs.stops.StockedSteps.{store-stays}

-- a stocked cluster, stated with a world that its group shows
abbrev pub beside-stocked : {S A : Type 0} (g : Ghosts S A) (cluster : Clustered S)
    → IsStocked g cluster → Beside (IsStoreOf g) cluster
beside-stocked g cluster h = record { world = h.world; shows = h.shows; stores = h.stores }

-- a cluster is stocked if each store belongs to its node in a world that the group shows
pub stocked-beside : {S A : Type 0} (g : Ghosts S A) (cluster : Clustered S)
    → Beside (IsStoreOf g) cluster → IsStocked g cluster
stocked-beside g cluster h = record { world = h.world; shows = h.shows; stores = h.stores }

-- ---- a store was asked to keep a draft

-- between two calls, a stop leaves what the store may turn out to hold
pub leaves-held : {S A : Type 0} (g : Ghosts S A) (node : Node) (store : S) → HoldsOf g node store
    → (g.is_honest store → g.leaves_only store (IsContents (g.certain store) (g.doubt store)))
    → g.is_honest store → LeavesOf g node store
leaves-held g node store holds rest honest =
    record {
      certain = g.certain store;
      doubtful = g.doubt store;
      only = rest honest;
      may =
          holds honest;
    }

-- inside a call that asks the store for its records, a stop leaves what the store might have turned
-- out to hold before
pub asked-left : {S A : Type 0} (g : Ghosts S A) (node : Node) (before after : S)
    → (g.is_honest before → g.is_clean after
    → g.leaves_only after (IsContents (g.certain before) (g.doubt before))) → HoldsOf g node before
    → g.is_honest before → g.is_clean after → LeavesOf g node after
asked-left g node before after stop holds honest clean =
    record {
      certain = g.certain before;
      doubtful = g.doubt before;
      only = stop honest clean;
      may =
          holds honest;
    }

-- the store took the draft
pub took : {S A : Type 0} (g : Ghosts S A) (node new : Node) (before after : S) (draft : Placed)
    → Keeps g before draft (Ok tt) after → IsStoreOf g node before → is_down node.state ≡ false
    → new.records ≡ node.records ++ draft.entry ∷ [] → new.state ≡ Ready → IsStoreOf g new after
took g node new before after draft keeps store up records ready =
    record {
      contents = holds;
      left = leaves-held g new after holds keeps.rest;
      up = λ honest e. (certain honest, keeps.doubted.clear.1);
      sure = λ e. keeps.doubted.clear.0;
    }
  where
    certain : g.is_honest after → g.certain after ≡ new.records
    certain honest =
        (keeps.appended honest).stored ∙ (ap (λ rs. rs ++ draft.entry ∷ [])
        (store.up (keeps.trust.honest honest) up).0 ∙ sym records)

    holds : HoldsOf g new after
    holds honest image c =
        subst (λ (s : State). IsContents new.records (doubt s) image) (sym ready)
        (subst (λ (o : Option Entry). IsContents (g.certain after) o image) keeps.doubted.clear.1 c
        ∙ certain honest)

-- The store's node went down while it held this record. The store has the node's records for
-- certain. It has the held record in doubt, or nothing of it.
pub fallen : {S A : Type 0} (g : Ghosts S A) (node new : Node) (after : S) (entry : Entry)
    → (g.is_honest after → g.certain after ≡ node.records)
    → (g.is_honest after → (g.doubt after ≡ None) ⊎ (g.doubt after ≡ Some entry))
    → (g.is_honest after → g.leaves_only after (IsContents (g.certain after) (g.doubt after)))
    → new.records ≡ node.records → new.state ≡ Down (Some entry) → IsStoreOf g new after
fallen g node new after entry kept in_doubt rest records down =
    record {
      contents = holds;
      left = leaves-held g new after holds rest;
      up = λ honest e. absurd (false≢true (sym e ∙ ap is_down down));
      sure = λ e. absurd (false≢true (sym e ∙ ap is_down down));
    }
  where
    certain : g.is_honest after → g.certain after ≡ new.records
    certain honest = kept honest ∙ sym records

    held : g.is_honest after → (image : List Entry)
        → (g.doubt after ≡ None) ⊎ (g.doubt after ≡ Some entry)
        → IsContents (g.certain after) (g.doubt after) image
        → (image ≡ new.records) ⊎ (image ≡ new.records ++ entry ∷ [])
    held honest image (inl e) c =
        inl (subst (λ (o : Option Entry). IsContents (g.certain after) o image) e c
        ∙ certain honest)
    held honest image (inr e) c =
        ⊎_elim (λ f. inl (f ∙ certain honest))
        (λ f. inr (f ∙ ap (λ rs. rs ++ entry ∷ []) (certain honest)))
        (subst (λ (o : Option Entry). IsContents (g.certain after) o image) e c)

    holds : HoldsOf g new after
    holds honest image c =
        subst (λ (s : State). IsContents new.records (doubt s) image) (sym down)
        (held honest image (in_doubt honest) c)

-- A store of a node that is up is asked to keep a draft. A stop inside the call leaves the node's
-- records, or these with the draft's record.
pub left-by-draft : {S A : Type 0} (g : Ghosts S A) (node : Node) (before after : S)
    (draft : Placed) (answer : Result (Unit {0}) StoreFault) → Keeps g before draft answer after
    → IsStoreOf g node before
    → is_down node.state ≡ false → g.is_honest before → g.is_clean after
    → g.leaves_only after (IsContents node.records (Some draft.entry))
left-by-draft g node before after draft answer keeps store up honest clean =
    let held = store.up honest up in
    subst (λ (certain : List Entry).
    g.leaves_only after (λ records. (records ≡ certain)
    ⊎ (records ≡ certain ++ draft.entry ∷ []))) held.0
    (subst (λ (o : Option Entry).
    g.leaves_only after (λ records. IsContents (g.certain before) o records
    ⊎ (records ≡ g.certain before ++ draft.entry ∷ []))) held.1 (keeps.stop honest clean))

-- the store failed for the draft
pub lost : {S A : Type 0} (g : Ghosts S A) (node new : Node) (before after : S) (draft : Placed)
    (fault : StoreFault) → Keeps g before draft (Err fault) after → IsStoreOf g node before
    → is_down node.state ≡ false
    → new.records ≡ node.records → new.state ≡ Down (Some draft.entry) → IsStoreOf g new after
lost g node new before after draft fault keeps store up records down =
    fallen g node new after draft.entry
    (λ honest. (keeps.appended honest).failed ∙ (store.up (keeps.trust.honest honest) up).0)
    (in_doubt (is_place fault) refl) keeps.rest records down
  where
    answer : Result (Unit {0}) StoreFault
    answer = Err fault

    -- if out of place, the store stayed; otherwise the record is in doubt, or lost
    in_doubt : (b : Bool) → is_place fault ≡ b → g.is_honest after
        → (g.doubt after ≡ None) ⊎ (g.doubt after ≡ Some draft.entry)
    in_doubt false e honest = keeps.doubted.doubt e
    in_doubt true e honest =
        at (is_out_of_place (g.is_doubtful before) (g.place before) draft.pos) refl
      where
        at : (b : Bool) → is_out_of_place (g.is_doubtful before) (g.place before) draft.pos ≡ b
            → (g.doubt after ≡ None) ⊎ (g.doubt after ≡ Some draft.entry)
        at true out =
            inl (ap g.doubt (keeps.same out) ∙ (store.up (keeps.trust.honest honest) up).1)
        at false out =
            absurd (false≢true (sym (subst
            (λ (b : Bool). IsPlaced b (g.place before) answer) out keeps.placed).0 ∙ e))

-- ---- a store was asked for its records

-- the node that it was for
pub rose : {S A : Type 0} (g : Ghosts S A) (node new : Node) (before after : S) (image : List Entry)
    → Gives g before (Ok image) after → (MayLeave node image → Rises image new)
    → IsStoreOf g node before → IsStoreOf g new after
rose g node new before after image gives rises store =
    record {
      contents = holds;
      left = leaves-held g new after holds gives.rest;
      up =
          λ honest e. (
            (gives.retrieved honest).given.0 ∙ (rises (may honest)).up e,
            gives.settled.clear.1,
          );
      sure = λ e. gives.settled.clear.0;
    }
  where
    may : g.is_honest after → MayLeave node image
    may honest = store.contents (gives.trust.honest honest) image (gives.retrieved honest).given.1

    holds : HoldsOf g new after
    holds honest records c =
        let same : records ≡ image =
        subst (λ (o : Option Entry). IsContents (g.certain after) o records) gives.settled.clear.1 c
        ∙ (gives.retrieved honest).given.0 in
        subst (λ (rs : List Entry). MayLeave new rs) (sym same) (rises (may honest)).may

-- a store that gave nothing
pub unread : {S A : Type 0} (g : Ghosts S A) (node : Node) (before after : S) (fault : StoreFault)
    → Gives g before (Err fault) after → IsStoreOf g node before → IsStoreOf g node after
unread g node before after fault gives store =
    record {
      contents = holds;
      left = leaves-held g node after holds gives.rest;
      up =
          λ honest e. (let was = store.up (gives.trust.honest honest) e in
          ((gives.retrieved honest).failed ∙ was.0, gives.settled.kept.1 ∙ was.1));
      sure = λ e. gives.settled.kept.0 ∙ store.sure e;
    }
  where
    holds : HoldsOf g node after
    holds honest records c =
        store.contents (gives.trust.honest honest) records
        (subst (λ (rs : List Entry). IsContents rs (g.doubt before) records)
        (gives.retrieved honest).failed
        (subst (λ (o : Option Entry). IsContents (g.certain after) o records)
        gives.settled.kept.1 c))

-- ---- a command

-- that a store belongs to its node lasts
pub stock-lasts : {S A : Type 0} (g : Ghosts S A) → Lasts g (IsStoreOf g)
stock-lasts g =
    record {
      stays = store-stays g;
      took = took g;
      lost = lost g;
      rose = rose g;
      unread =
          λ node before after fault gives fell store. unread g node before after fault gives store;
    }

-- a stocked cluster is stocked after any command
pub applies-stocked : {S A : Type 0} (g : Ghosts S A) (old new : Clustered S) (command : Command A)
    (reply : Reply) → Applies g old command reply new → IsStocked g old → IsStocked g new
applies-stocked g old new command reply h stocked =
    stocked-beside g new (applies-beside g (IsStoreOf g) (stock-lasts g) old new command reply h
    (beside-stocked g old stocked))
