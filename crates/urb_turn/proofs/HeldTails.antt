-- A store that is asked to hold records ahead still matches its node, whatever it answers.
use Rattle.urb_turn.proofs.Common.{Bool, Entry, Err, Event, Ghosts, GroupView, IsLastingOf}
use Rattle.urb_turn.proofs.Common.{IsLedTo, IsSound, IsStoreAfter, IsStoreOf, List}
use Rattle.urb_turn.proofs.Common.{None, Ok, Option, Result, Shows, Some, StoreFault}
use Rattle.urb_turn.proofs.Common.{World, [], after, ap, false, inl, inr, is_down, refl}
use Rattle.urb_turn.proofs.Common.{subst, sym, true, ℕ, ◌++◌, ◌∙◌, ◌∷◌, ◌≡◌}
use Rattle.std.proofs.Common.{length, ltb-true, nat_lt, ◌<◌, ◌⊎◌}
use Rattle.std.proofs.lemmas.Bool.{ltb-false}
use Rattle.urb_names.specs.declared.refusal.NoMemory.{NoMemory}
use Rattle.urb_turn.specs.declared.hub.TheConstants.{LEAST_AHEAD}
use Rattle.std.proofs.lemmas.List.Elements.{All-from_recursion}
use Rattle.std.specs.List.{All}
use Rattle.std.specs.Prelude.{MatchBool}
use Rattle.urb_group.proofs.shown.AgreeingWorlds.{sound-kept}
use Rattle.urb_group.proofs.stops.SecuredClusters.{lasting-honest}
use Rattle.urb_group.proofs.stops.StockedClusters.{leaves-held}
use Rattle.urb_group.specs.StoreContents.{HoldsOf}
use Rattle.urb_stable.specs.Entries.{IsEntry}
use Rattle.urb_stable.specs.Records.{pend}
use Rattle.urb_stable.specs.KeptTails.{KeepsTail, Rests}
use Rattle.urb_stable.specs.RecordsAhead.{HoldsAhead, MayHoldAhead}
use Rattle.urb_stable.specs.StableStorage.{IsContents, is_place}
use Rattle.urb_turn.proofs.LastingStores.{honest-up}
use Rattle.urb_turn.proofs.OtherNodes.{rested-store}
use Rattle.urb_foresight.specs.ForeseenDrafts.{MayBeNext}
use Rattle.urb_turn.specs.KeptTails.{AsksToHold, MayHold, Prepares}
use Rattle.urb_turn.specs.NodeStores.{IsStoreSince, MayHaveTail, WouldHaveTail}
use Rattle.urb_turn.specs.internal.LoanEnds.{IsNextLoan}
use Rattle.urb_world.proofs.steps.ShortPayloads.{images-short, short-append}
use Rattle.urb_world.specs.RunInvariant.{AreShort}
use Rattle.urb_world.specs.StoresAhead.{MayFollow}
use Rattle.urb_world.specs.World.{stored}

-- ---- what the House says

-- records within their limits have payloads within the limit
records-short : (records : List Entry) → All IsEntry records → AreShort (pend records)
records-short records h =
    images-short (records ∷ []) (All-from_recursion (All IsEntry) (records ∷ []) (h, tt)) 1

-- records that a node may store next may be held ahead
pub may_hold : (group shown : GroupView) (n : ℕ) (records told : List Entry) → shown ≡ group
    → records ≡ told → All IsEntry records → (0 < length told → MayBeNext shown n told)
    → 0 < length records → MayHold group n records
may_hold group shown n records told same is entries next some =
    record {
      ready = λ w shows. (all w shows).0;
      may = λ w shows. (all w shows).1;
      short = records-short records entries;
    }
  where
    all : MayBeNext group n records
    all =
        subst (λ (it : GroupView). MayBeNext it n records) same
        (subst (λ (rs : List Entry). MayBeNext shown n rs) (sym is)
        (next (subst (λ (rs : List Entry). 0 < length rs) is some)))

-- ---- the store

module _ {S A : Type 0} (g : Ghosts S A) (w : World) (n : ℕ) (records : List Entry)
    (answer : Result (Unit {0}) StoreFault) (before after : S)
    (keeps : KeepsTail g before records answer after) (h : IsLastingOf g (w.node n) before)
    (up : is_down (w.node n).state ≡ false) where
  was : g.is_clean after → g.is_honest before
  was clean = honest-up g (w.node n) before h.1 up (keeps.trust.clean clean)

  holds : HoldsOf g (w.node n) after
  holds honest image c =
      h.0.contents (keeps.trust.honest honest) image
      (subst (λ (rs : List Entry). IsContents rs (g.doubt before) image) (keeps.certain honest)
      (subst (λ (o : Option Entry). IsContents (g.certain after) o image) keeps.still.doubt c))

  abbrev Held : Type 0
  Held = HoldsAhead records (g.ahead after) (g.certain before) (g.base after) (g.is_honest before)
      (Rests g after)

  lasts : Rests g after → IsLastingOf g (w.node n) after
  lasts rest = (
    store,
    lasting-honest g (w.node n) after store (λ clean. keeps.trust.alive (was clean) clean),
  )
    where
      store : IsStoreOf g (w.node n) after
      store =
          record {
            contents = holds;
            left = leaves-held g (w.node n) after holds rest;
            up =
                λ honest e. (let held = h.0.up (keeps.trust.honest honest) e in
                (keeps.certain honest ∙ held.0, keeps.still.doubt ∙ held.1));
            sure = λ e. keeps.still.doubtful ∙ h.0.sure e;
          }

  -- the store is still that of the node, and it lasts
  pub tail-lasts : IsLastingOf g (w.node n) after
  tail-lasts = at answer keeps.holds
    where
      fails : (b : Bool) → MatchBool b (after ≡ before) Held → IsLastingOf g (w.node n) after
      fails true same = subst (λ (s : S). IsLastingOf g (w.node n) s) (sym same) h
      fails false held = lasts held.rest

      at : (a : Result (Unit {0}) StoreFault) → MayHoldAhead before after Held a
          → IsLastingOf g (w.node n) after
      at (Ok done) held = lasts held.rest
      at (Err fault) holds = fails (is_place fault) holds

  -- the records that it holds ahead may follow those of the node
  pub tail-held : MayFollow w.size (stored w) n (stored w n) records
      → AreShort (pend (stored w n ++ records)) → WouldHaveTail g w n before
      → WouldHaveTail g w n after
  tail-held may short tail clean = at answer keeps.holds
    where
      held : (g.certain before ≡ stored w n) × (g.doubt before ≡ None)
      held = h.0.up (was clean) up

      holding : Held → MayHaveTail g w n after
      holding hold =
          inr (record {
            tail = records;
            all =
                ap (λ (rs : List Entry). rs ++ g.ahead after) (hold.base (was clean) ∙ held.0)
                ∙ ap (λ (rs : List Entry). stored w n ++ rs) hold.ahead;
            may = may;
            short = short;
            based = λ honest. hold.base (was clean) ∙ sym (keeps.certain honest);
            sure = inl (keeps.still.doubt ∙ held.1);
          })

      fails : (b : Bool) → MatchBool b (after ≡ before) Held → MayHaveTail g w n after
      fails true same =
          subst (λ (s : S). MayHaveTail g w n s) (sym same) (tail (keeps.trust.clean clean))
      fails false hold = holding hold

      at : (a : Result (Unit {0}) StoreFault) → MayHoldAhead before after Held a
          → MayHaveTail g w n after
      at (Ok done) hold = holding hold
      at (Err fault) holds = fails (is_place fault) holds

module _ {S A : Type 0} (g : Ghosts S A) (opened : GroupView) (n : ℕ) (group : GroupView)
    (past : List Event) (start : World) (opening : Shows opened start) where
  -- A worker that looks at the House changes nothing there. Its store still matches its node.
  pub looked_since : (first last : Option (List Event)) (store : S)
      → IsNextLoan n first past past last → IsStoreSince g start first n store
      → IsStoreSince g start last n store
  looked_since first None store next h = tt
  looked_since None (Some end) store next h = absurd next.1
  looked_since (Some since) (Some end) store next h =
      subst (λ (events : List Event). IsStoreAfter g start events n store) (sym next.0)
      (rested-store g start n since past store next.1 h)

  held-after : (records : List Entry) (answer : Result (Unit {0}) StoreFault) (before new : S)
      → IsSound group → IsLedTo opened past group → MayHold group n records
      → KeepsTail g before records answer new → IsStoreAfter g start past n before
      → IsStoreAfter g start past n new
  held-after records answer before new sound leads may keeps h =
      let lasting = tail-lasts g w n records answer before new keeps (h.contents, h.lasting) up in
      record {
        contents = lasting.0;
        lasting = lasting.1;
        tail =
            tail-held g w n records answer before new keeps (h.contents, h.lasting) up
            (may.may w shows)
            (short-append (stored w n) records ((sound-kept group w sound shows).short n).stored
            may.short)
            h.tail;
      }
    where
      w : World
      w = after start past

      shows : Shows group w
      shows = leads start opening

      up : is_down (w.node n).state ≡ false
      up = ap is_down (may.ready w shows)

  -- the store since the worker's last loan, once it was asked to hold records ahead
  pub held_since : (records : List Entry) (answer : Result (Unit {0}) StoreFault)
      (before after : S) (first last : Option (List Event)) → IsSound group
      → IsLedTo opened past group → MayHold group n records
      → KeepsTail g before records answer after → IsNextLoan n first past past last
      → IsStoreSince g start first n before → IsStoreSince g start last n after
  held_since records answer before after first None sound leads may keeps next h = tt
  held_since records answer before after first (Some end) sound leads may keeps next h =
      subst (λ (events : List Event). IsStoreAfter g start events n after) (sym next.0)
      (held-after records answer before after sound leads may keeps
      (subst (λ (events : List Event). IsStoreAfter g start events n before) next.0
      (looked_since first (Some end) before next h)))

-- a store was asked to hold records ahead, or it stayed as it was
pub prepares-either : {S A : Type 0} (g : Ghosts S A) (opened : GroupView) (n : ℕ)
    (events : List Event) (refused : Option NoMemory) (before after : S)
    → (h : Prepares g opened n events refused before after)
    → (after ≡ before) ⊎ AsksToHold g h.group n h.holds.records before after
prepares-either g opened n events refused before after h =
    at (nat_lt (length h.holds.records) LEAST_AHEAD) refl
  where
    at : (b : Bool) → nat_lt (length h.holds.records) LEAST_AHEAD ≡ b
        → (after ≡ before) ⊎ AsksToHold g h.group n h.holds.records before after
    at true e = inl (h.holds.few (ltb-true (length h.holds.records) LEAST_AHEAD e))
    at false e = inr (h.holds.enough (ltb-false (length h.holds.records) LEAST_AHEAD e))
