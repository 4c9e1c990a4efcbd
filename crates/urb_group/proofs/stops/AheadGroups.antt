-- A stop of all nodes of a group, some of whose stores hold records ahead.
use Rattle.urb_group.proofs.Common.{Entry, GoesOnIn, GroupView, Grows, IsSound, Limits, List}
use Rattle.urb_group.proofs.Common.{MayFollow, Shows, ShowsNode, World, [], follow-grows, inl, inr}
use Rattle.urb_group.proofs.Common.{refl, stored, subst, sym, view_of, ℕ, ◌∙◌}
use Rattle.urb_group.proofs.shown.AgreeingWorlds.{sound-kept}
use Rattle.urb_world.proofs.stops.AheadWorlds.{survives-ahead}
use Rattle.urb_world.specs.StoresAhead.{MayLeaveAhead}

-- a stop of all nodes is survived, though each node is looked at in a world of its own
pub all-survive-ahead : (group : GroupView) (images : ℕ → List Entry) → IsSound group
    → ((p : ℕ) → (w : World) × Shows group w × MayLeaveAhead w p (images p))
    → (w : World) × Shows group w × GoesOnIn w images
all-survive-ahead group images sound each =
    (w, shows, survives-ahead w (sound-kept group w sound shows) images left)
  where
    w : World
    w = record { size = group.size; node = λ p. (each p).0.node p; sent = [] }

    shows : Shows group w
    shows =
        record {
          size = refl;
          nodes =
              λ p. subst (λ (l : Limits). ShowsNode l p (view_of group p) ((each p).0.node p))
              (sym (each p).1.size) ((each p).1.nodes p);
        }

    -- the node's own world has the pairs of this one
    grows : (p : ℕ) → Grows (stored (each p).0) (stored w)
    grows p q x m h =
        sym (((each q).1.nodes q).pairs x m) ∙ (((each p).1.nodes q).pairs x m ∙ h)

    ahead : (p : ℕ) (tail : List Entry)
        → MayFollow (each p).0.size (stored (each p).0) p (stored (each p).0 p) tail
        → MayFollow w.size (stored w) p (stored w p) tail
    ahead p tail may =
        follow-grows w.size (stored (each p).0) (stored w) p (stored w p) tail (grows p)
        (subst (λ (l : Limits). MayFollow l (stored (each p).0) p (stored w p) tail)
        (sym (each p).1.size) may)

    left : (p : ℕ) → MayLeaveAhead w p (images p)
    left p = at (each p).2
      where
        at : MayLeaveAhead (each p).0 p (images p) → MayLeaveAhead w p (images p)
        at (inl still) = inl still
        at (inr (tail, may, is)) = inr (tail, ahead p tail may, is)
