-- A world as its stores have it meets the rules, and holds all that the world holds.
use Rattle.urb_group.proofs.Common.{Begins, Entry, GroupView, Grows, IsContents, IsKept, Kept}
use Rattle.urb_group.proofs.Common.{Limits, List, MayLeave, Node, NodeKept, NodeShort, None, Option}
use Rattle.urb_group.proofs.Common.{Shows, Some, World, [], ap, append-nil, append_assoc, inl, inr}
use Rattle.urb_group.proofs.Common.{is_node, length, pair-begins, refl, stored, subst, sym, true, ℕ}
use Rattle.urb_group.proofs.Common.{◌++◌, ◌∙◌, ◌∷◌, ◌≡◌}
use Rattle.urb_world.proofs.steps.JoinedRecord.{own_acks-kept}
use Rattle.urb_world.proofs.steps.OneNodeStep.{node-grows}
use Rattle.urb_world.proofs.stops.AheadWorlds.{ahead-kept}
use Rattle.urb_group.proofs.stops.StockedPlays.{outside-left}
use Rattle.urb_world.specs.StoresAhead.{IsAhead, IsAsStored, IsOrStandsFor}
use Rattle.urb_stable.proofs.KeptRules.{kept-grow}

-- the records with the whole tail are ahead
whole-ahead : (records tail : List Entry) → IsAhead records tail (records ++ tail)
whole-ahead records [] = append-nil records
whole-ahead records (r ∷ tail) =
    inr (subst (λ (image : List Entry). IsAhead (records ++ r ∷ []) tail image)
    (append_assoc records (r ∷ []) tail) (whole-ahead (records ++ r ∷ []) tail))

-- records that are certain are what storage may hold, whatever is in doubt
pub certain-contents : (certain : List Entry) (doubtful : Option Entry) (records : List Entry)
    → records ≡ certain → IsContents certain doubtful records
certain-contents certain None records e = e
certain-contents certain (Some r) records e = inl e

-- a world is the same as itself
pub as-itself : (w : World) → IsAsStored w w
as-itself w = record { size = refl; nodes = λ p. inl refl }

module _ (w v : World) (is : IsAsStored w v) where
  -- each node's records begin with those of the first world
  pub stored-begins : (p : ℕ) → Begins (stored w p) (stored v p)
  stored-begins p = at (is.nodes p)
    where
      at : IsOrStandsFor w p (v.node p) → Begins (stored w p) (stored v p)
      at (inl same) = ([], append-nil (stored w p) ∙ sym (ap (λ (n : Node). n.records) same))
      at (inr stands) = (stands.tail, sym (ap (λ (n : Node). n.records) stands.opened))

  grows : Grows (stored w) (stored v)
  grows q x m h = pair-begins (stored w q) (stored v q) (stored-begins q) x m h

  module _ (kept : IsKept w) where
    node-kept-in : (p : ℕ) → IsOrStandsFor w p (v.node p)
        → NodeKept w.size (stored v) p (v.node p)
    node-kept-in p (inl same) =
        subst (λ (n : Node). NodeKept w.size (stored v) p n) (sym same)
        (node-grows w.size (stored w) (stored v) p (w.node p) grows (kept.nodes p))
    node-kept-in p (inr stands) =
        subst (λ (n : Node). NodeKept w.size (stored v) p n) (sym stands.opened)
        (record {
          kept = subst (λ (rs : List Entry). Kept w.size (stored v) p [] rs) here all;
          state = tt;
          acks = own_acks-kept (stored v) p (stored w p ++ stands.tail) here;
          broadcast = refl;
        })
      where
        here : stored v p ≡ stored w p ++ stands.tail
        here = ap (λ (n : Node). n.records) stands.opened

        all : Kept w.size (stored v) p [] (stored v p)
        all =
            ahead-kept w (stored v) stored-begins p (stored w p) stands.tail
            (kept-grow w.size (stored w) (stored v) p [] (stored w p) grows (kept.nodes p).kept)
            stands.may
            (subst (λ (image : List Entry). IsAhead (stored w p) stands.tail image) (sym here)
            (whole-ahead (stored w p) stands.tail))

    short-in : (p : ℕ) → IsOrStandsFor w p (v.node p) → NodeShort (v.node p)
    short-in p (inl same) = subst NodeShort (sym same) (kept.short p)
    short-in p (inr stands) =
        subst NodeShort (sym stands.opened) (record { stored = stands.short; doubtful = tt })

    -- the world as its stores have it meets the rules
    pub stored-kept : IsKept v
    stored-kept = record {
      nodes = λ p. subst (λ (l : Limits). NodeKept l (stored v) p (v.node p)) (sym is.size)
          (node-kept-in p (is.nodes p));
      short = λ p. short-in p (is.nodes p);
    }

-- a node that the group doesn't have has stored nothing, and its store has nothing ahead
pub outside-stored : (group : GroupView) (w v : World) → Shows group w
    → length group.nodes ≡ group.size.n → IsAsStored w v → (p : ℕ)
    → (is_node (length group.nodes) p ≡ true → ⊥) → MayLeave (v.node p) []
outside-stored group w v shows counted as_stored p out = at (as_stored.nodes p)
  where
    at : IsOrStandsFor w p (v.node p) → MayLeave (v.node p) []
    at (inl same) =
        subst (λ (n : Node). MayLeave n []) (sym same) (outside-left group w shows p out)
    at (inr stands) =
        let size : length group.nodes ≡ w.size.n =
        counted ∙ ap (λ (l : Limits). l.n) shows.size in
        absurd (out (ap (λ (n : ℕ). is_node n p) size ∙ stands.is))
