-- What a stop leaves of a store that is inside one with records ahead (`inside-leaves`).
use Rattle.std.proofs.Common.{List, None, Option, [], ap, append_assoc, arith, inl, inr, length}
use Rattle.std.proofs.Common.{◌<◌, subst, sym, ℕ, ⊎_elim, ◌++◌, ◌∙◌, ◌∷◌, ◌≡◌, ◌⊎◌}
use Rattle.std.proofs.lemmas.List.{append-nil, append_cancel_left}
use Rattle.urb_stable.proofs.Contents.{IsEither, contents-either}
use Rattle.urb_stable.specs.AheadStores.{AheadView, LeavesInner, ghosts_over}
use Rattle.urb_stable.specs.Entries.{Entry}
use Rattle.urb_stable.specs.Records.{pend}
use Rattle.urb_stable.specs.StableStorage.{IsContents}
use Rattle.urb_stable.specs.StoredTogether.{IsContentsOrAll}
use Rattle.urb_stable.specs.declared.stable.Stable.{Ghosts}
use Rattle.urb_node.specs.Steps.{doubt}
use Rattle.urb_world.specs.ProcessStops.{MayLeave}
use Rattle.urb_world.specs.RunInvariant.{AreShort}
use Rattle.urb_world.specs.StoresAhead.{MayFollow}
use Rattle.urb_world.specs.World.{World, stored}
use Rattle.urb_group.specs.StoreContents.{LeavesOf}
use Rattle.urb_turn.specs.NodeStores.{HasTail, WouldHaveTail}
use Rattle.urb_daemon.specs.internal.StoresInside.{LeavesInsideNode, LeavesTail}

-- A store has given out `base`, and holds more ahead. The base is a node's records, and perhaps one
-- given out after them. Those and the records ahead are the tail.
record IsSplit (records base ahead tail : List Entry) : Type 0 where
  given : List Entry
  base_is : base ≡ records ++ given
  tail_is : tail ≡ given ++ ahead

-- if the base is what storage may turn out to hold, it is so split
split : (records base ahead tail : List Entry) (doubtful : Option Entry)
    → IsContents records doubtful base → base ++ ahead ≡ records ++ tail
    → IsSplit records base ahead tail
split records base ahead tail doubtful contents all =
    at (contents-either records doubtful base contents)
  where
    at : IsEither records doubtful base → IsSplit records base ahead tail
    at (inl e) =
        record {
          given = [];
          base_is = e ∙ sym (append-nil records);
          tail_is =
              append_cancel_left records tail ahead
              (sym all ∙ ap (λ (rs : List Entry). rs ++ ahead) e);
        }
    at (inr (r, is, e)) =
        record {
          given = r ∷ [];
          base_is = e;
          tail_is =
              append_cancel_left records tail (r ∷ ahead)
              (sym all
              ∙ (ap (λ (rs : List Entry). rs ++ ahead) e ∙ append_assoc records (r ∷ []) ahead));
        }

module _ {S A : Type 0} (g : Ghosts S A) (w : World) (p : ℕ) (s : AheadView S) where
  -- no records are ahead: the base is what a stop may leave of the node
  none-ahead : s.ahead ≡ [] → LeavesInner (g.leaves_only s.store) s.base s.ahead
      → MayLeave (w.node p) s.base → LeavesOf g (w.node p) s.store
  none-ahead none (inr (some, only)) may =
      let impossible : 0 < length {A = Entry} [] = rw none at some in
      absurd (omega (arith, impossible))
  none-ahead none (inl only) may =
      record {
        certain = s.base ++ [];
        doubtful = None;
        only =
            subst (λ (rs : List Entry). g.leaves_only s.store (IsContents (s.base ++ rs) None)) none
            only;
        may =
            λ records e. subst (λ (rs : List Entry). MayLeave (w.node p) rs)
            (sym (e ∙ append-nil s.base)) may;
      }

  -- records are ahead: the tail of the node's records begins with those given out
  some-ahead : HasTail (ghosts_over g) w p s
      → LeavesInner (g.leaves_only s.store) s.base s.ahead → MayLeave (w.node p) s.base
      → LeavesTail g w p s.store
  some-ahead t only may =
      record {
        given = it.given;
        tail = s.ahead;
        may =
            subst (λ (rs : List Entry). MayFollow w.size (stored w) p (stored w p) rs) it.tail_is
            t.may;
        short =
            subst (λ (rs : List Entry). AreShort (pend (stored w p ++ rs))) it.tail_is t.short;
        only = inside only;
      }
    where
      it : IsSplit (stored w p) s.base s.ahead t.tail
      it = split (stored w p) s.base s.ahead t.tail (doubt (w.node p).state) may t.all

      inside : LeavesInner (g.leaves_only s.store) s.base s.ahead
          → g.leaves_only s.store (IsContents ((stored w p ++ it.given) ++ s.ahead) None)
          ⊎ g.leaves_only s.store (IsContentsOrAll s.ahead (stored w p ++ it.given) None)
      inside (inl h) =
          inl (subst (λ (rs : List Entry). g.leaves_only s.store (IsContents (rs ++ s.ahead) None))
          it.base_is h)
      inside (inr (some, h)) =
          inr (subst (λ (rs : List Entry). g.leaves_only s.store (IsContentsOrAll s.ahead rs None))
          it.base_is h)

  -- What a stop leaves of the inner store, if it leaves of the outer one what it may leave of node
  -- p. The inner store's storage has returned what was written.
  pub inside-leaves : g.is_clean s.store → LeavesOf (ghosts_over g) (w.node p) s
      → WouldHaveTail (ghosts_over g) w p s → LeavesInsideNode g w p s.store
  inside-leaves clean of tail = at of.only
    where
      at : (ghosts_over g).leaves_only s (IsContents of.certain of.doubtful)
          → LeavesInsideNode g w p s.store
      at (inl same) =
          inl (record {
            certain = of.certain;
            doubtful = of.doubtful;
            only = same.1;
            may = of.may;
          })
      at (inr held) =
          let may : MayLeave (w.node p) s.base = of.may s.base held.1 in
          ⊎_elim (λ none. inl (none-ahead none held.0 may))
          (λ t. inr (some-ahead t held.0 may)) (tail clean)
