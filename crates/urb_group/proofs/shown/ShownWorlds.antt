-- How a new or opened group, and one that changes one node, shows a world.
use Rattle.urb_group.proofs.Common.{AreImages, Entry, Fits, GroupView, IsSound, KeepsOwn, Kept}
use Rattle.urb_group.proofs.Common.{Limits, List, Node, NodeView, Refused, Shows, ShowsNode, World}
use Rattle.urb_group.proofs.Common.{[], and_from, and_right, ap, arith, at_node, cases_eq, cond}
use Rattle.urb_group.proofs.Common.{cond-false, cond-true, eq-eqb, false, get_or-set_other}
use Rattle.urb_group.proofs.Common.{get_or-set_same, inl, inr, is_node, le-ltb, length, lt-ltb}
use Rattle.urb_group.proofs.Common.{nat_lt, ne_eqb, no_view, nothing-shows, opened, opened_node}
use Rattle.urb_group.proofs.Common.{refl, replicate, slice_index_or, slice_set, started, subst, suc}
use Rattle.urb_group.proofs.Common.{sym, true, updated, view_of, world_after, zero, ℕ, ◌++◌, ◌<◌}
use Rattle.urb_group.proofs.Common.{◌==◌, ◌∙◌, ◌∷◌, ◌≡◌, ◌⊎◌}
use Rattle.urb_world.proofs.steps.Runs.{new-kept, opened-kept}
use Rattle.urb_world.specs.World.{image_of}
use Rattle.urb_node.specs.Replies.{Reply}
use Rattle.urb_names.specs.declared.refusal.Refusal.TheVariants as refusal

-- ---- an opened group

-- what keeps all rules keeps those of its own image
pub kept-own : (size : Limits) (images : ℕ → List Entry) (p : ℕ) (earlier rs : List Entry)
    → Kept size images p earlier rs → KeepsOwn size p earlier rs
kept-own size images p earlier [] h = tt
kept-own size images p earlier (r ∷ rs) h =
    (h.0.a, h.0.b, kept-own size images p (earlier ++ r ∷ []) rs h.1)

-- a group that shows the opened world of images that fit is sound
pub sound-opened : (group : GroupView) (size : Limits) (images : List (List Entry))
    → AreImages size images → Fits size (image_of images)
    → Shows group (opened size (image_of images)) → IsSound group
sound-opened group size images are fits s =
    record {
      world = opened size (image_of images);
      shows = s;
      kept =
          opened-kept size images are fits;
    }

-- a group that shows the new world is sound too
pub sound-new : (group : GroupView) (size : Limits) → Shows group (started size) → IsSound group
sound-new group size s = record { world = started size; shows = s; kept = new-kept size }

-- ---- one changed node

-- the node of each place below n is one of n nodes
pub is-node : (n i : ℕ) → i < n → is_node n (suc i) ≡ true
is-node n i h =
    and_from (nat_lt 0 (suc i)) (nat_lt (suc i) (suc n)) (lt-ltb 0 (suc i) (omega arith))
    (lt-ltb (suc i) (suc n) (omega arith))

-- a number above n is none of n nodes
pub no-node : (n p : ℕ) → n < p → is_node n p ≡ false
no-node n p h = and_right (nat_lt 0 p) (nat_lt p (suc n)) (le-ltb p (suc n) (omega arith))

-- an event at a number above the group's size is refused as BadNode, and the world stays
pub at_no_node : (w : World) (p : ℕ) (outcome : Reply × Node) → w.size.n < p
    → at_node w p outcome ≡ (Refused refusal.BadNode, w)
at_no_node w p outcome h = cond-false (is_node w.size.n p) _ _ (no-node w.size.n p h)

-- an event at a node of the group has that node's outcome
pub at_some_node : (w : World) (i : ℕ) (outcome : Reply × Node) → i < w.size.n
    → at_node w (suc i) outcome ≡ world_after w (suc i) outcome
at_some_node w i outcome h = cond-true (is_node w.size.n (suc i)) _ _ (is-node w.size.n i h)

-- the node shows what comes out of it, so the group shows the world after
pub shows-after : (size : Limits) (nodes : List NodeView) (i : ℕ) (view : NodeView) (w : World)
    (outcome : Reply × Node) → i < length nodes
    → Shows (record { size = size; nodes = nodes }) w → ShowsNode w.size (suc i) view outcome.1
    → Shows (record { size = size; nodes = slice_set nodes i view })
    (world_after w (suc i) outcome).1
shows-after size nodes i view w outcome l s v = record { size = s.size; nodes = each }
  where
    each : (q : ℕ) → ShowsNode w.size q
        (view_of (record { size = size; nodes = slice_set nodes i view }) q)
        (updated w.node (suc i) outcome.1 q)
    each zero =
        subst (λ (n : Node). ShowsNode w.size 0 no_view n)
        (sym (cond-false (0 == suc i) outcome.1 (w.node 0) (ne_eqb 0 (suc i) (λ e. omega arith))))
        (s.nodes zero)
    each (suc j) = at (cases_eq j i)
      where
        at : (j ≡ i) ⊎ (j ≡ i → ⊥) → ShowsNode w.size (suc j)
            (slice_index_or (slice_set nodes i view) j no_view)
            (cond (suc j == suc i) outcome.1 (w.node (suc j)))
        at (inl e) =
            subst (λ (n : Node). ShowsNode w.size (suc j)
            (slice_index_or (slice_set nodes i view) j no_view) n)
            (sym (cond-true (suc j == suc i) outcome.1 (w.node (suc j))
            (eq-eqb (suc j) (suc i) (ap suc e))))
            (subst (λ (v : NodeView). ShowsNode w.size (suc j) v outcome.1)
            (sym (ap (λ k. slice_index_or (slice_set nodes i view) k no_view) e
            ∙ get_or-set_same nodes i view no_view l))
            (subst (λ (k : ℕ). ShowsNode w.size (suc k) view outcome.1) (sym e) v))
        at (inr e) =
            subst (λ (n : Node). ShowsNode w.size (suc j)
            (slice_index_or (slice_set nodes i view) j no_view) n)
            (sym (cond-false (suc j == suc i) outcome.1 (w.node (suc j))
            (ne_eqb (suc j) (suc i) (λ f. e (omega arith)))))
            (subst (λ (v : NodeView). ShowsNode w.size (suc j) v (w.node (suc j)))
            (sym (get_or-set_other nodes i j view no_view e)) (s.nodes (suc j)))

-- ---- a new group

all_same : (n j : ℕ) → slice_index_or (replicate n no_view) j no_view ≡ no_view
all_same zero j = refl
all_same (suc n) zero = refl
all_same (suc n) (suc j) = all_same n j

-- views that hold nothing, one for each node, show the world of a new group
pub shows-new : (size : Limits)
    → Shows (record { size = size; nodes = replicate size.n no_view }) (started size)
shows-new size = record { size = refl; nodes = each }
  where
    each : (q : ℕ) → ShowsNode size q
        (view_of (record { size = size; nodes = replicate size.n no_view }) q) (opened_node q [])
    each zero = nothing-shows size zero
    each (suc j) =
        subst (λ (v : NodeView). ShowsNode size (suc j) v (opened_node (suc j) []))
        (sym (all_same size.n j)) (nothing-shows size (suc j))
