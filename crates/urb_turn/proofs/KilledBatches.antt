-- A kill at any moment, also while a store is asked to hold records ahead. The store still matches
-- its node (`held-still`), and its inner store has all of the batch or none of it (`all-or-none`).
use Rattle.urb_turn.proofs.Common.{Bool, Entry, Err, Event, Ghosts, GroupView, HasRested}
use Rattle.urb_turn.proofs.Common.{IsLastingOf, IsSound, IsStoreAfter, LeavesAfter, List, None, Ok}
use Rattle.urb_turn.proofs.Common.{Option, Result, Shows, StoreFault, World, [], after}
use Rattle.urb_turn.proofs.Common.{after-append, ap, false, inl, inr, is_down, subst, suc, sym}
use Rattle.urb_turn.proofs.Common.{true, ℕ, ◌++◌, ◌∙◌, ◌≡◌, ◌⊎◌}
use Rattle.std.proofs.lemmas.List.{append-nil}
use Rattle.std.specs.Prelude.{MatchBool}
use Rattle.urb_group.proofs.shown.AgreeingWorlds.{sound-kept}
use Rattle.urb_group.specs.StoreContents.{WouldLeave}
use Rattle.urb_stable.specs.AheadStores.{AheadView, IsInside, LeavesLess, ghosts_over, given_out}
use Rattle.urb_stable.specs.RecordsAhead.{HoldsAhead, MayHoldAhead}
use Rattle.urb_stable.specs.KeptTails.{Rests}
use Rattle.urb_stable.specs.StableStorage.{IsContents, is_place}
use Rattle.urb_stable.specs.StoredTogether.{IsContentsOrAll}
use Rattle.urb_turn.proofs.HeldTails.{tail-held, tail-lasts}
use Rattle.urb_turn.proofs.LastingStores.{honest-up}
use Rattle.urb_turn.proofs.OtherNodes.{rested-leaves, rested-store, rested-tail}
use Rattle.urb_turn.proofs.TurnSteps.{working_tail}
use Rattle.urb_turn.proofs.WaitingNodes.{elsewhere-waited, waited-stays}
use Rattle.urb_turn.specs.KilledBatches.{AreKilledAt, Holding, Idle, IsHoldingAt, IsKilledAt}
use Rattle.urb_turn.specs.KilledBatches.{LeavesAllOrNone, Working}
use Rattle.urb_turn.specs.NodeStores.{HaveTails, WouldHaveTail}
use Rattle.urb_world.proofs.steps.Runs.{run-kept}
use Rattle.urb_world.proofs.steps.ShortPayloads.{short-append}
use Rattle.urb_world.specs.RunInvariant.{IsKept}
use Rattle.urb_world.specs.World.{stored}

-- a node that rests keeps its records
rested-stored : (n : ℕ) (earlier later : List Event) (start : World) → HasRested n earlier later
    → stored (after start later) n ≡ stored (after start earlier) n
rested-stored n earlier later start h =
    ap (λ (past : List Event). stored (after start past) n) h.later_is
    ∙ (ap (λ (w : World). stored w n) (after-append start earlier h.between)
    ∙ (waited-stays n (after start earlier) (after (after start earlier) h.between)
    (elsewhere-waited n h.between (after start earlier) h.elsewhere)).records)

-- a history of a sound group leads to a world that keeps the rules
pub past-kept : (opened : GroupView) (start : World) (past : List Event) → IsSound opened
    → Shows opened start → IsKept (after start past)
past-kept opened start past sound shows =
    run-kept start past (sound-kept opened start sound shows)

-- ---- a store that is asked to hold records ahead

module _ {S A : Type 0} (g : Ghosts S A) (opened : GroupView) (start : World) (past : List Event)
    (n : ℕ) (batch : List Entry) (before new : S) (sound : IsSound opened)
    (shows : Shows opened start)
    (it : IsHoldingAt g opened start past n batch before new) where
  -- the world in which the store was asked
  abbrev asked : World
  asked = after start it.earlier

  -- the node was ready then
  was-up : is_down (asked.node n).state ≡ false
  was-up = ap is_down (it.asks.may.ready asked (it.leads start shows))

  -- the store matched the node right after the call
  held-at-once : IsStoreAfter g start it.earlier n new
  held-at-once =
      record {
        contents = lasting.0;
        lasting = lasting.1;
        tail =
            tail-held g asked n batch it.asks.answer before new it.asks.keeps
            (it.matched.contents, it.matched.lasting) was-up
            (it.asks.may.may asked (it.leads start shows))
            (short-append (stored asked n) batch
            ((past-kept opened start it.earlier sound shows).short n).stored it.asks.may.short)
            it.matched.tail;
      }
    where
      lasting : IsLastingOf g (asked.node n) new
      lasting =
          tail-lasts g asked n batch it.asks.answer before new it.asks.keeps
          (it.matched.contents, it.matched.lasting) was-up

  -- a store that was asked to hold a batch still matches its node
  pub held-still : IsStoreAfter g start past n new
  held-still = rested-store g start n it.earlier past new it.rests held-at-once

  -- the store was honest, if its storage is clean
  was-honest : g.is_clean new → g.is_honest before
  was-honest clean =
      honest-up g (asked.node n) before it.matched.lasting was-up
      (it.asks.keeps.trust.clean clean)

-- ---- all records of a batch or none

module _ {S A : Type 0} (g : Ghosts S A) (opened : GroupView) (start : World) (past : List Event)
    (n : ℕ) (batch : List Entry) (before new : AheadView S) (sound : IsSound opened)
    (shows : Shows opened start)
    (it : IsHoldingAt (ghosts_over g) opened start past n batch before new)
    (clean : g.is_clean new.store) where
  abbrev records : List Entry
  records = stored (after start past) n

  abbrev Held : Type 0
  Held = HoldsAhead batch new.ahead ((ghosts_over g).certain before) new.base
      ((ghosts_over g).is_honest before) (Rests (ghosts_over g) new)

  was : (ghosts_over g).is_honest before
  was = was-honest (ghosts_over g) opened start past n batch before new sound shows it clean

  honest : (ghosts_over g).is_honest new
  honest = it.asks.keeps.trust.alive was clean

  -- the store held the node's records, and no record was in doubt
  certain-was : (ghosts_over g).certain before ≡ records
  certain-was =
      (it.matched.contents.up was
      (was-up (ghosts_over g) opened start past n batch before new sound shows it)).0
      ∙ sym (rested-stored n it.earlier past start it.rests)

  no-doubt : g.doubt new.store ≡ None
  no-doubt =
      it.asks.keeps.still.doubt
      ∙ (it.matched.contents.up was
      (was-up (ghosts_over g) opened start past n batch before new sound shows it)).1

  -- the store holds the batch ahead
  whole : Held → LeavesAllOrNone g (after start past) n batch new.store
  whole held = at (held.rest honest)
    where
      certain-is : given_out (g.certain new.store) new.base new.ahead ≡ records
      certain-is = it.asks.keeps.certain honest ∙ certain-was

      base-is : new.base ≡ records
      base-is = held.base was ∙ certain-was

      -- the batch is empty
      empty : new.ahead ≡ [] → records ++ batch ≡ records
      empty none =
          ap (λ (rs : List Entry). records ++ rs) (sym held.ahead ∙ none) ∙ append-nil records

      inside : (failing : Bool)
          → g.leaves_only new.store (IsInside failing new.base new.ahead)
          → LeavesAllOrNone g (after start past) n batch new.store
      inside false h =
          inl (subst (λ (rs : List Entry). g.leaves_only new.store (IsContents (rs ++ batch) None))
          base-is
          (subst
          (λ (rs : List Entry). g.leaves_only new.store (IsContents (new.base ++ rs) None))
          held.ahead h))
      inside true h =
          inr (subst
          (λ (rs : List Entry). g.leaves_only new.store (IsContentsOrAll batch rs None)) base-is
          (subst
          (λ (rs : List Entry). g.leaves_only new.store (IsContentsOrAll rs new.base None))
          held.ahead h))

      at : LeavesLess (g.leaves_only new.store) new.base new.ahead
          (IsContents (given_out (g.certain new.store) new.base new.ahead) (g.doubt new.store))
          → LeavesAllOrNone g (after start past) n batch new.store
      at (inl (none, h)) =
          inl (subst (λ (rs : List Entry). g.leaves_only new.store (IsContents rs None))
          (certain-is ∙ sym (empty none))
          (subst
          (λ (o : Option Entry). g.leaves_only new.store
          (IsContents (given_out (g.certain new.store) new.base new.ahead) o)) no-doubt h))
      at (inr (inl h, held)) = inside false h
      at (inr (inr h, held)) = inside true h.1

  -- A stop leaves all of the batch or none of it. Or the call was out of place, and the store is as
  -- before.
  pub all-or-none : (new ≡ before) ⊎ LeavesAllOrNone g (after start past) n batch new.store
  all-or-none = at it.asks.answer it.asks.keeps.holds
    where
      fails : (b : Bool) → MatchBool b (new ≡ before) Held
          → (new ≡ before) ⊎ LeavesAllOrNone g (after start past) n batch new.store
      fails true same = inl same
      fails false held = inr (whole held)

      at : (a : Result (Unit {0}) StoreFault) → MayHoldAhead before new Held a
          → (new ≡ before) ⊎ LeavesAllOrNone g (after start past) n batch new.store
      at (Ok done) held = inr (whole held)
      at (Err fault) holds = fails (is_place fault) holds

-- ---- any moment

module _ {S A : Type 0} (g : Ghosts S A) (opened : GroupView) (start : World) (past : List Event)
    (sound : IsSound opened) (shows : Shows opened start) where
  -- a kill leaves in a store what a stop may leave of its node
  pub killed-leaves : (n : ℕ) (store : S) → IsKilledAt g opened start past n store
      → LeavesAfter g start past n store
  killed-leaves n store (Idle last matched rests) =
      rested-leaves g start n last past store rests matched.lasting.left
  killed-leaves n store (Working job before came at runs matched rests) =
      rested-leaves g start n at.turn.given_back.past past store rests
      (at.leaves start shows matched)
  killed-leaves n store (Holding batch before it) =
      (held-still g opened start past n batch before store sound shows it).lasting.left

  -- what a store holds ahead at a kill may follow its node's records
  pub killed-tail : (n : ℕ) (store : S) → IsKilledAt g opened start past n store
      → WouldHaveTail g (after start past) n store
  killed-tail n store (Idle last matched rests) =
      rested-tail g start n last past store rests matched.tail
  killed-tail n store (Working job before came at runs matched rests) =
      rested-tail g start n at.turn.given_back.past past store rests
      (working_tail g opened n job before store came at.turn runs start shows matched)
  killed-tail n store (Holding batch before it) =
      (held-still g opened start past n batch before store sound shows it).tail

  -- a kill leaves in all stores what a stop may leave of their nodes
  pub killed-would : (stores : List S) → AreKilledAt g opened start past stores
      → WouldLeave g (after start past) stores
  killed-would stores killed i store got = killed-leaves (suc i) store (killed i store got)

  -- what all stores hold ahead may follow their nodes' records
  pub killed-tails : (stores : List S) → AreKilledAt g opened start past stores
      → HaveTails g (after start past) stores
  killed-tails stores killed i store got = killed-tail (suc i) store (killed i store got)
