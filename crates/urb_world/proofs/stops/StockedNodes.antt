-- A node whose record is stored, whose store fails, or that restarts, and what its store may hold
-- then.
use Rattle.urb_world.proofs.Common.{Bool, Cause, Commit, Content, Down, Entry, Fail, List, MayLeave}
use Rattle.urb_world.proofs.Common.{Node, None, Option, Ready, Refused, Reply, Restart, Some, State}
use Rattle.urb_world.proofs.Common.{Stored, Storing, World, [], and_from, and_parts, ap, arith}
use Rattle.urb_world.proofs.Common.{at_node, broadcast_after, cert, comes_up, commits, cond-false}
use Rattle.urb_world.proofs.Common.{cond-true, cond_both, done, doubt, eq-eqb, eqb-true, fails}
use Rattle.urb_world.proofs.Common.{false, false≢true, fun_ext, is_down, is_node, keeps_record}
use Rattle.urb_world.proofs.Common.{length, log, next_position, pend, refl, refuses, restarts}
use Rattle.urb_world.proofs.Common.{restarts_with, same_list, same_names, same_pairs, same_record}
use Rattle.urb_world.proofs.Common.{same_record-same, says, step, subst, suc, sym, true, updated}
use Rattle.urb_world.proofs.Common.{world_after, ℕ, ⊎_elim, ◌&&◌, ◌++◌, ◌+◌, ◌==◌, ◌∙◌, ◌∷◌, ◌≡◌}
use Rattle.urb_world.proofs.Common.{◌⊎◌}
use Rattle.std.proofs.Common.{length-append}
use Rattle.urb_world.proofs.recovery.ReturningNodes.{says-itself}
use Rattle.urb_stable.specs.StableStorage.{IsContents}
use Rattle.urb_world.proofs.steps.OneNodeStep.{updated-at}
use Rattle.urb_names.specs.declared.refusal.Refusal.TheVariants as refusal

-- ---- what records say of themselves

-- an image with one more record says something else
says-more : (records : List Entry) (r : Entry) → says (records ++ r ∷ []) records ≡ true → ⊥
says-more records r h =
    let names = and_parts (same_pairs (pend (records ++ r ∷ [])) (pend records)) _ h in
    let lists = and_parts (same_names (cert (records ++ r ∷ [])) (cert records)) _ names.1 in
    let counts = and_parts (same_list (log (records ++ r ∷ [])) (log records)) _ lists.1 in
    let same : length (records ++ r ∷ []) ≡ length records =
    eqb-true (length (records ++ r ∷ [])) (length records) counts.1 in
    let more : length (records ++ r ∷ []) ≡ length records + 1 = length-append records (r ∷ []) in
    absurd (omega (arith, same, more))

-- ---- the node's part of the world

-- after a step of a node, the world has that node as the step left it
pub node-after : (w : World) (p : ℕ) (outcome : Reply × Node) → is_node w.size.n p ≡ true
    → (at_node w p outcome).1.node p ≡ outcome.1
node-after w p outcome there =
    ap (λ (o : Reply × World). o.1.node p)
    (cond-true (is_node w.size.n p) (world_after w p outcome)
    (Refused refusal.BadNode, w) there) ∙ updated-at w.node p outcome.1

-- the node's held record is stored
pub commit-node : (w : World) (p position : ℕ) (entry : Entry) (cause : Option Cause)
    → is_node w.size.n p ≡ true → (w.node p).state ≡ Storing entry cause
    → position ≡ suc (length (w.node p).records)
    → (((step w (Commit p position entry)).1.node p).records ≡ (w.node p).records ++ entry ∷ [])
    × (((step w (Commit p position entry)).1.node p).state ≡ Ready)
unfolding step
commit-node w p position entry cause there held at =
    let is : (at_node w p (commits w.size.n p position entry (w.node p) (w.node p).state)).1.node p
    ≡ keeps_record p entry cause (w.node p) =
    node-after w p (commits w.size.n p position entry (w.node p) (w.node p).state) there
    ∙ ap (λ (o : Reply × Node). o.1) taken in (
      ap (λ (n : Node). n.records) is,
      ap (λ (n : Node). n.state) is,
    )
  where
    taken : commits w.size.n p position entry (w.node p) (w.node p).state
        ≡ (Stored (done w.size.n p entry cause (w.node p)), keeps_record p entry cause (w.node p))
    taken =
        ap (commits w.size.n p position entry (w.node p)) held
        ∙ cond-true ((position == next_position (w.node p)) && same_record entry entry) _ _
        (and_from (position == next_position (w.node p)) _
        (eq-eqb position (next_position (w.node p)) at) (same_record-same entry))

-- a failed store leaves the node's records, and brings it down with the held record in doubt
pub fail-node : (w : World) (p : ℕ) (entry : Entry) (cause : Option Cause)
    → is_node w.size.n p ≡ true → (w.node p).state ≡ Storing entry cause
    → (((step w (Fail p)).1.node p).records ≡ (w.node p).records)
    × (((step w (Fail p)).1.node p).state ≡ Down (Some entry))
unfolding step
fail-node w p entry cause there held =
    let is : (at_node w p (fails p (w.node p) (w.node p).state)).1.node p
    ≡ (fails p (w.node p) (w.node p).state).1 =
    node-after w p (fails p (w.node p) (w.node p).state) there in (
      ap (λ (n : Node). n.records) is ∙ ap (λ (s : State). (fails p (w.node p) s).1.records) held,
      ap (λ (n : Node). n.state) is
          ∙ (ap (λ (s : State). (fails p (w.node p) s).1.state) held
          ∙ ap (λ (s : State). Down (doubt s)) held),
    )

-- ---- a restart

-- A node that is down gets an image that a stop may leave. The image is then what the node may
-- leave. If the node is up, it is what the node has stored.
pub record Rises (image : List Entry) (new : Node) : Type 0 where
  -- a stop may leave the image of the node
  pub may : MayLeave new image
  -- if the node is up, it has stored exactly the image
  pub up : is_down new.state ≡ false → image ≡ new.records

stays-down : (image : List Entry) (node : Node) (doubtful : Option Entry)
    → node.state ≡ Down doubtful → MayLeave node image → Rises image node
stays-down image node doubtful down may =
    record { may = may; up = λ e. absurd (false≢true (sym e ∙ ap is_down down)) }

risen : (p : ℕ) (image records : List Entry) (messages : List Content) → image ≡ records
    → Rises image (comes_up p records messages).1
risen p image records messages e = record { may = e; up = λ _. e }

rises : (p : ℕ) (image : List Entry) (node : Node) (doubtful : Option Entry)
    → node.state ≡ Down doubtful → MayLeave node image
    → Rises image (restarts_with p image node doubtful).1
rises p image node None down may =
    cond_both (says image node.records) (comes_up p node.records node.broadcast)
    (refuses node refusal.BadImage) (λ (o : Reply × Node). Rises image o.1)
    (λ _. risen p image node.records node.broadcast
    (subst (λ (s : State). IsContents node.records (doubt s) image) down may))
    (λ _. stays-down image node None down may)
rises p image node (Some r) down may =
    cond_both (says image node.records) (comes_up p node.records node.broadcast) _
    (λ (o : Reply × Node). Rises image o.1)
    (λ told. risen p image node.records node.broadcast
    (⊎_elim (λ e. e) (λ e. absurd
    (says-more node.records r (subst (λ (i : List Entry). says i node.records ≡ true) e told)))
    either))
    (λ other. cond_both (says image (node.records ++ r ∷ []))
    (comes_up p (node.records ++ r ∷ []) (broadcast_after p r node.broadcast))
    (refuses node refusal.BadImage) (λ (o : Reply × Node). Rises image o.1)
    (λ told. risen p image (node.records ++ r ∷ []) (broadcast_after p r node.broadcast)
    (⊎_elim (λ e. absurd (false≢true
    (sym other ∙ (ap (λ (i : List Entry). says i node.records) e ∙ says-itself node.records))))
    (λ e. e) either))
    (λ _. stays-down image node (Some r) down may))
  where
    either : (image ≡ node.records) ⊎ (image ≡ node.records ++ r ∷ [])
    either = subst (λ (s : State). IsContents node.records (doubt s) image) down may

-- after a restart with an image that a stop may leave, a stop may still leave it, and a node that
-- is up has stored it
pub restart-node : (w : World) (p : ℕ) (image : List Entry) (doubtful : Option Entry)
    → is_node w.size.n p ≡ true → (w.node p).state ≡ Down doubtful → MayLeave (w.node p) image
    → Rises image ((step w (Restart p image)).1.node p)
unfolding step
restart-node w p image doubtful there down may =
    subst (λ (n : Node). Rises image n)
    (sym (node-after w p (restarts p image (w.node p) (w.node p).state) there
    ∙ ap (λ (s : State). (restarts p image (w.node p) s).1) down))
    (rises p image (w.node p) doubtful down may)

-- a node that isn't down refuses a restart
pub unfallen-stays : (w : World) (p : ℕ) (image : List Entry)
    → (is_node w.size.n p && is_down (w.node p).state) ≡ false
    → (step w (Restart p image)).1.node ≡ w.node
unfolding step
unfallen-stays w p image e = at (is_node w.size.n p) refl
  where
    refused : (s : State) → is_down s ≡ false → (restarts p image (w.node p) s).1 ≡ w.node p
    refused Ready f = refl
    refused (Storing entry cause) f = refl
    refused (Down o) f = absurd (false≢true (sym f))

    same : (n : Node) → n ≡ w.node p → updated w.node p n ≡ w.node
    same n f = fun_ext (λ q. each q (q == p) refl)
      where
        each : (q : ℕ) (b : Bool) → (q == p) ≡ b → updated w.node p n q ≡ w.node q
        each q true g = cond-true (q == p) n (w.node q) g ∙ (f ∙ ap w.node (sym (eqb-true q p g)))
        each q false g = cond-false (q == p) n (w.node q) g

    at : (b : Bool) → is_node w.size.n p ≡ b
        → (at_node w p (restarts p image (w.node p) (w.node p).state)).1.node ≡ w.node
    at true f =
        ap (λ (o : Reply × World). o.1.node)
        (cond-true (is_node w.size.n p)
        (world_after w p (restarts p image (w.node p) (w.node p).state))
        (Refused refusal.BadNode, w) f)
        ∙ same (restarts p image (w.node p) (w.node p).state).1
        (refused (w.node p).state (sym (ap (λ b. b && is_down (w.node p).state) f) ∙ e))
    at false f =
        ap (λ (o : Reply × World). o.1.node)
        (cond-false (is_node w.size.n p)
        (world_after w p (restarts p image (w.node p) (w.node p).state))
        (Refused refusal.BadNode, w) f)
