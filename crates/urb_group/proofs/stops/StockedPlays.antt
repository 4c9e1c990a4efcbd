-- The stores of a new cluster, after a failure on request, and after commands that were played.
use Rattle.urb_group.proofs.Common.{All, AllByRecursion, AllHold, Applies, AreChosen, Clustered}
use Rattle.urb_group.proofs.Common.{Command, Entry, Err, Ghosts, GoesOnIn, GroupView, IfOk, IsBlank}
use Rattle.urb_group.proofs.Common.{IsContents, IsSound, IsStocked, IsStoreOf, Limits, List}
use Rattle.urb_group.proofs.Common.{MayLeave, NoMemory, NodeView, None, Ok, Option, Plays, Result}
use Rattle.urb_group.proofs.Common.{Shows, Some, Starts, Vec, World, [], and_from, ap, arith}
use Rattle.urb_group.proofs.Common.{cases_lt, doubt, get_or_from_slice_get, get_some, is_node}
use Rattle.urb_group.proofs.Common.{length, lt-ltb, nat_lt, no_view, recursion_from_All, refl}
use Rattle.urb_group.proofs.Common.{reply_of, slice_get, started, subst, suc, survives, sym, true}
use Rattle.urb_group.proofs.Common.{view_of, zero, ℕ, ⊎_elim, ◌<◌, ◌∙◌, ◌∷◌, ◌≡◌, ◌≤◌}
use Rattle.std.proofs.lemmas.List.{get_or_past}
use Rattle.urb_node.specs.Part.{State}
use Rattle.urb_group.specs.PlayedCommands.{Follows}
use Rattle.urb_group.specs.StoreContents.{ContentsFit}
use Rattle.urb_world.specs.World.{image_of}
use Rattle.urb_group.specs.declared.reply.Reply.{Reply}
use Rattle.urb_group.proofs.shown.AgreeingWorlds.{sound-kept}
use Rattle.urb_group.proofs.calls.DraftsInCalls.{node-bounds}
use Rattle.urb_names.specs.declared.refusal.Refusal.TheVariants as refusal
use Rattle.urb_node.specs.Replies as told

-- ---- a new cluster

-- what holds for all stores holds for the store in each place
pub all-at : {S : Type 0} (P : S → Type 0) (stores : List S) → AllByRecursion P stores
    → (i : ℕ) (store : S) → slice_get stores i ≡ Some store → P store
all-at P [] h i store e = absurd (cc)
all-at P (s ∷ stores) h zero store e = (let f : s ≡ store = cc in subst P f h.0)
all-at P (s ∷ stores) h (suc i) store e = all-at P stores h.1 i store e

-- a store in which nothing was stored belongs to a node that has stored nothing
pub blank-store : {S A : Type 0} (g : Ghosts S A) (size : Limits) (p : ℕ) (store : S)
    → IsBlank g store → IsStoreOf g ((started size).node p) store
blank-store g size p store blank =
    record {
      contents =
          λ honest records c. subst (λ (o : Option Entry). IsContents (g.certain store) o records)
          blank.doubt c ∙ blank.certain honest;
      left =
          λ honest. record {
            certain = [];
            doubtful = None;
            only = blank.rest honest;
            may =
                λ records c. c;
          };
      up = λ honest e. (blank.certain honest, blank.doubt);
      sure = λ e. blank.doubtful;
    }

-- a group that shows a new world is stocked with blank stores
pub new-stocked : {S A : Type 0} (g : Ghosts S A) (size : Limits) (stores : List S)
    (cluster : Clustered S) → All (IsBlank g) stores → Shows cluster.group (started size)
    → cluster.stores ≡ stores → IsStocked g cluster
new-stocked g size stores cluster blank shows same =
    record {
      world = started size;
      shows = shows;
      stores =
          λ i store got. blank-store g size (suc i) store
          (all-at (IsBlank g) stores (recursion_from_All (IsBlank g) stores blank) i store
          (subst (λ xs. slice_get xs i ≡ Some store) same got));
    }

-- a new cluster over blank stores is stocked
pub starts-stocked : {S A T : Type 0} (g : Ghosts S A) (size : Limits) (stores : List S)
    (passed : T) (result : Result (Clustered S) (T × NoMemory)) → All (IsBlank g) stores
    → Starts size stores passed result → IfOk result (λ cluster. IsStocked g cluster)
starts-stocked g size stores passed (Ok cluster) blank h =
    new-stocked g size stores cluster blank h.0 h.1
starts-stocked g size stores passed (Err e) blank h = tt

-- ---- commands that were played

module _ {S A : Type 0} (g : Ghosts S A) (Q : Clustered S → Type 0)
    (keeps : (old new : Clustered S) (command : Command A) (reply : told.Reply)
    → Applies g old command reply new → Q old → Q new) where
  follows-kept : (old new : Clustered S) (commands : List (Command A)) (replies : List (Reply A))
      → Follows g old commands replies new → Q old → Q new
  follows-kept old new commands [] h was = subst Q (sym h) was
  follows-kept old new [] (reply ∷ replies) h was = absurd h
  follows-kept old new (command ∷ commands) (reply ∷ replies) h was =
      follows-kept h.0 new commands replies h.3 (keeps old h.0 command (reply_of reply) h.1 was)

  -- what each command keeps is kept
  pub plays-kept : (old new : Clustered S) (commands : List (Command A))
      (result : Result (Vec (Reply A) A) (Vec (Reply A) A × NoMemory))
      → Plays g old commands result new → Q old → Q new
  plays-kept old new commands (Ok replies) h was =
      follows-kept old new commands replies.items h.0 was
  plays-kept old new commands (Err e) h was =
      let last = follows-kept old h.last commands e.0.items h.follows was in
      ⊎_elim (λ same. subst Q (sym same) last)
      (λ applied. keeps h.last new h.command (told.Refused refusal.NoMemory) applied last)
      h.refused

-- ---- all that the stores may turn out to hold

-- a node that the group has no place for has stored nothing
pub no-place : (group : GroupView) (w : World) (p : ℕ) → Shows group w → view_of group p ≡ no_view
    → MayLeave (w.node p) []
no-place group w p shows none = at ((w.node p).records) refl
  where
    at : (records : List Entry) → (w.node p).records ≡ records → MayLeave (w.node p) []
    at [] e =
        subst (λ (s : State). IsContents (w.node p).records (doubt s) [])
        (ap (λ (v : NodeView). v.state) (sym none) ∙ (shows.nodes p).state) (sym e)
    at (r ∷ records) e =
        (let count : 0 ≡ suc (length records) =
        ap (λ (v : NodeView). v.count) (sym none) ∙ ((shows.nodes p).count ∙ ap length e) in
        absurd (omega (arith, count)))

-- a node that the group doesn't have has stored nothing
pub outside-left : (group : GroupView) (w : World) → Shows group w → (p : ℕ)
    → (is_node (length group.nodes) p ≡ true → ⊥) → MayLeave (w.node p) []
outside-left group w shows zero out = no-place group w 0 shows refl
outside-left group w shows (suc i) out =
    no-place group w (suc i) shows (get_or_past group.nodes i no_view
    (⊎_elim (λ low. absurd (out (inside low))) (λ beyond. beyond)
    (cases_lt i (length group.nodes))))
  where
    inside : i < length group.nodes → is_node (length group.nodes) (suc i) ≡ true
    inside low =
        and_from (nat_lt 0 (suc i)) (nat_lt (suc i) (suc (length group.nodes)))
        (lt-ltb 0 (suc i) (omega arith))
        (lt-ltb (suc i) (suc (length group.nodes)) (omega (arith, low)))

-- a choice for each store is a choice for each node, if a node without a store may leave nothing
pub chosen-left : {S A : Type 0} (g : Ghosts S A) (group : GroupView) (w : World) (stores : List S)
    (images : List (List Entry))
    → ((p : ℕ) → (is_node (length group.nodes) p ≡ true → ⊥) → MayLeave (w.node p) [])
    → AllHold g w stores → length group.nodes ≤ length stores → AreChosen g stores images
    → (p : ℕ) → MayLeave (w.node p) (image_of images p)
chosen-left g group w stores images none hold places chosen zero =
    none 0 (λ is. let low = (node-bounds (length group.nodes) 0 is).0 in omega (arith, low))
chosen-left g group w stores images none hold places chosen (suc i) =
    ⊎_elim within past (cases_lt i (length images))
  where
    within : i < length images → MayLeave (w.node (suc i)) (image_of images (suc i))
    within less =
        let image = get_some images i less in
        let store = get_some stores i (let e = chosen.one_each in omega (arith, e, less)) in
        let one = chosen.each i store.0 image.0 store.1 image.1 in
        subst (λ (records : List Entry). MayLeave (w.node (suc i)) records)
        (sym (get_or_from_slice_get images i image.0 [] image.1))
        (hold i store.0 store.1 one.0 image.0 one.1)

    past : length images ≤ i → MayLeave (w.node (suc i)) (image_of images (suc i))
    past more =
        let beyond : length group.nodes ≤ i =
        (let e = chosen.one_each in omega (arith, e, places, more)) in
        subst (λ (records : List Entry). MayLeave (w.node (suc i)) records)
        (sym (get_or_past images i [] more))
        (none (suc i) (λ is.
        let high = (node-bounds (length group.nodes) (suc i) is).1 in omega (arith, high, beyond)))

-- the group goes on from there
pub held-fits : {S A : Type 0} (g : Ghosts S A) (group : GroupView) (w : World) (stores : List S)
    → IsSound group → Shows group w → AllHold g w stores → length stores ≡ length group.nodes
    → (images : List (List Entry)) → AreChosen g stores images → GoesOnIn w (image_of images)
held-fits g group w stores sound shows hold places images chosen =
    survives w (sound-kept group w sound shows) (image_of images)
    (chosen-left g group w stores images (outside-left group w shows) hold (omega (arith, places))
    chosen)

-- whatever the honest stores of a stocked cluster may hold fits together, and opens a group that
-- goes on
pub stocked-fits : {S A : Type 0} (g : Ghosts S A) (cluster : Clustered S) → IsSound cluster.group
    → length cluster.stores ≡ length cluster.group.nodes → IsStocked g cluster
    → ContentsFit g cluster
stocked-fits g cluster sound places h =
    record {
      world = h.world;
      shows = h.shows;
      fit =
          held-fits g cluster.group h.world cluster.stores sound h.shows
          (λ i store got. (h.stores i store got).contents) places;
    }
