-- A store that holds records ahead of its node, while the node drafts and commits them one by one.
use Rattle.urb_group.proofs.Common.{Begins, Bool, Cause, Commit, Entry, Event, Ghosts, Grows}
use Rattle.urb_group.proofs.Common.{HoldsOf, IsContents, IsStoreOf, Limits, List, MayFollow, Node}
use Rattle.urb_group.proofs.Common.{Option, Ready, Storing, World, [], ap, append-nil, append_assoc}
use Rattle.urb_group.proofs.Common.{commit-node, doubt, eqb-true, false, follow-grows, is_node}
use Rattle.urb_group.proofs.Common.{length, pair-begins, refl, step-elsewhere, step-size, stored}
use Rattle.urb_group.proofs.Common.{subst, suc, sym, true, ℕ, ◌++◌, ◌==◌, ◌∙◌, ◌∷◌, ◌≡◌}
use Rattle.urb_group.proofs.stops.StockedClusters.{leaves-held}
use Rattle.urb_group.proofs.stops.StockedSteps.{IsQuiet, quiet-stays}
use Rattle.urb_world.specs.StoresAhead.{IsAheadOf}
use Rattle.urb_world.specs.Step.{step}
use Rattle.urb_node.specs.Part.{State}

module _ {S A : Type 0} (g : Ghosts S A) where
  -- the node drafts the first record of the tail, and its receipt comes
  pub replay-one : (w : World) (p : ℕ) (event : Event) (r : Entry) (cause : Option Cause)
      (tail : List Entry) (store : S) → is_node w.size.n p ≡ true → IsQuiet event
      → IsAheadOf g w p (r ∷ tail) store → ((step w event).1.node p).state ≡ Storing r cause
      → IsAheadOf g (step (step w event).1 (Commit p (suc (length (stored w p))) r)).1 p tail store
  replay-one w p event r cause tail store there quiet h held =
      record {
        ready = taken.1;
        may = may;
        certain =
            λ honest. h.certain honest ∙ (sym (append_assoc (stored w p) (r ∷ []) tail)
            ∙ ap (λ (rs : List Entry). rs ++ tail) (sym records));
        sure = h.sure;
        rest = h.rest;
      }
    where
      mid : World
      mid = (step w event).1

      receipt : Event
      receipt = Commit p (suc (length (stored w p))) r

      last : World
      last = (step mid receipt).1

      same : (q : ℕ) → stored mid q ≡ stored w q
      same q = (quiet-stays w event quiet q).records

      taken : (stored last p ≡ stored mid p ++ r ∷ []) × ((last.node p).state ≡ Ready)
      taken =
          commit-node mid p (suc (length (stored w p))) r cause
          (subst (λ (size : Limits). is_node size.n p ≡ true) (sym (step-size w event)) there) held
          (ap (λ (rs : List Entry). suc (length rs)) (sym (same p)))

      records : stored last p ≡ stored w p ++ r ∷ []
      records = taken.0 ∙ ap (λ (rs : List Entry). rs ++ r ∷ []) (same p)

      grown : (q : ℕ) (e : Bool) → (q == p) ≡ e → Begins (stored w q) (stored last q)
      grown q true f =
          subst (λ (i : ℕ). Begins (stored w i) (stored last i)) (sym (eqb-true q p f))
          (r ∷ [], sym records)
      grown q false f = (
        [],
        append-nil (stored w q)
            ∙ sym (ap (λ (node : Node). node.records) (step-elsewhere mid receipt q f) ∙ same q),
      )

      grows : Grows (stored w) (stored last)
      grows q x m k = pair-begins (stored w q) (stored last q) (grown q (q == p) refl) x m k

      size : last.size ≡ w.size
      size = step-size mid receipt ∙ step-size w event

      may : MayFollow last.size (stored last) p (stored last p) tail
      may =
          subst (λ (s : Limits). MayFollow s (stored last) p (stored last p) tail) (sym size)
          (subst (λ (rs : List Entry). MayFollow w.size (stored last) p rs tail) (sym records)
          (follow-grows w.size (stored w) (stored last) p (stored w p ++ r ∷ []) tail grows
          h.may.1))

  -- a store with nothing ahead is that of its node
  pub replay-ends : (w : World) (p : ℕ) (store : S) → IsAheadOf g w p [] store
      → IsStoreOf g (w.node p) store
  replay-ends w p store h =
      record {
        contents = holds;
        left = leaves-held g (w.node p) store holds h.rest;
        up = λ honest e. (certain honest, h.sure.1);
        sure = λ e. h.sure.0;
      }
    where
      certain : g.is_honest store → g.certain store ≡ stored w p
      certain honest = h.certain honest ∙ append-nil (stored w p)

      holds : HoldsOf g (w.node p) store
      holds honest records c =
          subst (λ (s : State). IsContents (stored w p) (doubt s) records) (sym h.ready)
          (subst (λ (o : Option Entry). IsContents (g.certain store) o records) h.sure.1 c
          ∙ certain honest)
