-- The records that a store holds ahead may follow those of its node, whatever the nodes and the
-- store do.
use Rattle.urb_turn.proofs.Common.{Bool, Entry, Err, Event, Ghosts, Gives, IsLastingOf, Keeps}
use Rattle.urb_turn.proofs.Common.{Limits, List, Node, None, Ok, Option, Placed, Result, StoreFault}
use Rattle.urb_turn.proofs.Common.{World, [], ap, event_node, false, false≢true, inl, inr, is_down}
use Rattle.urb_turn.proofs.Common.{refl, step, step-size, subst, sym, true, ℕ, ⊎_elim, ◌++◌, ◌∙◌}
use Rattle.urb_turn.proofs.Common.{◌∷◌, ◌≡◌, ◌⊎◌, append_assoc}
use Rattle.std.proofs.lemmas.List.{append_cancel_left}
use Rattle.std.specs.Prelude.{MatchResult, OnOk}
use Rattle.urb_node.specs.Replies.{Reply}
use Rattle.urb_stable.proofs.KeptRules.{Grows}
use Rattle.urb_stable.specs.Records.{pend}
use Rattle.urb_stable.specs.RecordsAhead.{IsTaken, KeepsAhead, KeepsOrDrops, TakesAhead}
use Rattle.urb_stable.specs.StableStorage.{IsAppended, IsContents, IsPlaced, IsRetrieved}
use Rattle.urb_stable.specs.StableStorage.{LeavesDoubt, is_out_of_place, is_place}
use Rattle.urb_turn.proofs.LastingStores.{honest-up}
use Rattle.urb_turn.proofs.WaitingNodes.{Waited, step-grows, waited-stays}
use Rattle.urb_turn.specs.NodeStores.{HasTail, MayHaveTail, WouldHaveTail}
use Rattle.urb_world.proofs.steps.ArrivalCases.{arrive-cases}
use Rattle.urb_world.proofs.steps.StepCases.{OutcomeCases, node_of, outcome-cases, step-nodes}
use Rattle.urb_world.proofs.stops.AheadWorlds.{follow-grows}
use Rattle.urb_world.specs.RunInvariant.{AreShort}
use Rattle.urb_world.specs.StoresAhead.{MayFollow}
use Rattle.urb_world.specs.World.{stored}

-- ---- what an event stores

-- The node has the same records, or one more. In that case it is up.
abbrev pub Adds : Node → Node → Type 0
Adds old new =
    (new.records ≡ old.records)
    ⊎ ((r : Entry) × (new.records ≡ old.records ++ r ∷ []) × (is_down new.state ≡ false))

abbrev AddsTo : Node → Reply × Node → Type 0
AddsTo node outcome = Adds node outcome.1

-- an event stores at most one record of each node
pub step-adds : (w : World) (event : Event) (q : ℕ) → Adds (w.node q) ((step w event).1.node q)
step-adds w event =
    step-nodes (λ q n. Adds (w.node q) n) w event (λ q. inl refl)
    (outcome-cases (AddsTo node) w event cases)
  where
    node : Node
    node = node_of w event

    cases : OutcomeCases (AddsTo node) w event
    cases =
        record {
          refused = λ r. inl refl;
          again = λ x ready. inl refl;
          alone = λ m new e. inl refl;
          among = λ m new e. inl refl;
          arrived = λ packet e ready t.
              arrive-cases (AddsTo node) w.size
              (event_node event) packet.source packet.name packet.message packet.flags node
              (λ cause. inl refl) (λ cause. inl refl)
              (λ acks heard cause. inl refl) (λ acks heard told. inl refl);
          ticked = λ e ready. inl refl;
          stored = λ position entry held cause e f. inr (held, refl, refl);
          down = λ e up. inl refl;
          up = λ image doubtful e f. inl refl;
          joined = λ image r e f. inr (r, refl, refl);
        }

module _ {S A : Type 0} (g : Ghosts S A) where
  -- ---- the nodes

  -- a tail stays one while its node has the same records, and other nodes store more
  tail-same : (w v : World) (n : ℕ) (store : S) → v.size ≡ w.size → Grows (stored w) (stored v)
      → stored v n ≡ stored w n → HasTail g w n store → HasTail g v n store
  tail-same w v n store size grows same h =
      record {
        tail = h.tail;
        all = h.all ∙ ap (λ (rs : List Entry). rs ++ h.tail) (sym same);
        may =
            subst (λ (s : Limits). MayFollow s (stored v) n (stored v n) h.tail) (sym size)
            (subst (λ (rs : List Entry). MayFollow w.size (stored v) n rs h.tail) (sym same)
            (follow-grows w.size (stored w) (stored v) n (stored w n) h.tail grows h.may));
        short = subst (λ (rs : List Entry). AreShort (pend (rs ++ h.tail))) (sym same) h.short;
        based = h.based;
        sure = h.sure;
      }

  -- while a node waits, the tail of its store stays one
  pub tail-waits : (w v : World) (n : ℕ) (store : S) → Waited n w v → WouldHaveTail g w n store
      → WouldHaveTail g v n store
  tail-waits w v n store waited h clean =
      ⊎_elim (λ none. inl none)
      (λ t. inr (tail-same w v n store waited.size waited.grows (waited-stays n w v waited).records
      t)) (h clean)

  -- The first record of the tail is stored. The store has given it out.
  tail-shrinks : (w v : World) (n : ℕ) (store : S) (r : Entry) → v.size ≡ w.size
      → Grows (stored w) (stored v) → stored v n ≡ stored w n ++ r ∷ []
      → g.base store ≡ stored v n → HasTail g w n store → HasTail g v n store
  tail-shrinks w v n store r size grows more base h =
      record {
        tail = g.ahead store;
        all = ap (λ (rs : List Entry). rs ++ g.ahead store) base;
        may =
            subst (λ (s : Limits). MayFollow s (stored v) n (stored v n) (g.ahead store)) (sym size)
            (subst (λ (rs : List Entry). MayFollow w.size (stored v) n rs (g.ahead store))
            (sym more)
            (follow-grows w.size (stored w) (stored v) n (stored w n ++ r ∷ []) (g.ahead store)
            grows
            (subst (λ (rs : List Entry). MayFollow w.size (stored w) n (stored w n) rs) first
            h.may).1));
        short = subst (λ (rs : List Entry). AreShort (pend rs)) (sym behind ∙ whole) h.short;
        based = h.based;
        sure = h.sure;
      }
    where
      -- base and those ahead, as the later world has them
      whole : g.base store ++ g.ahead store ≡ stored v n ++ g.ahead store
      whole = ap (λ (rs : List Entry). rs ++ g.ahead store) base

      behind : g.base store ++ g.ahead store ≡ stored w n ++ h.tail
      behind = h.all

      first : h.tail ≡ r ∷ g.ahead store
      first =
          append_cancel_left (stored w n) h.tail (r ∷ g.ahead store)
          (sym behind ∙ (whole ∙ (ap (λ (rs : List Entry). rs ++ g.ahead store) more
          ∙ append_assoc (stored w n) (r ∷ []) (g.ahead store))))

  -- after an event, the tail of a store that lasts is one
  pub tail-steps : (w : World) (event : Event) (n : ℕ) (store : S)
      → IsLastingOf g ((step w event).1.node n) store → WouldHaveTail g w n store
      → WouldHaveTail g (step w event).1 n store
  tail-steps w event n store lasting h clean =
      ⊎_elim (λ none. inl none) (λ t. inr (at t (step-adds w event n))) (h clean)
    where
      v : World
      v = (step w event).1

      at : HasTail g w n store → Adds (w.node n) (v.node n) → HasTail g v n store
      at t (inl same) =
          tail-same w v n store (step-size w event) (step-grows w event) same t
      at t (inr (r, more, up)) =
          let honest = honest-up g (v.node n) store lasting.1 up clean in
          tail-shrinks w v n store r (step-size w event) (step-grows w event) more
          (t.based honest ∙ (lasting.0.up honest up).0) t

  -- ---- the store

  module _ (w : World) (n : ℕ) (before after : S) where
    -- the records ahead, and those that they follow, are as before
    tail-still : g.base after ≡ g.base before → g.ahead after ≡ g.ahead before
        → (g.is_honest after → g.base after ≡ g.certain after)
        → (g.doubt after ≡ None) ⊎ g.is_shut after → HasTail g w n before → HasTail g w n after
    tail-still base ahead based sure t =
        record {
          tail = t.tail;
          all =
              ap (λ (rs : List Entry). rs ++ g.ahead after) base
              ∙ (ap (λ (rs : List Entry). g.base before ++ rs) ahead ∙ t.all);
          may = t.may;
          short = t.short;
          based = based;
          sure = sure;
        }

    -- ---- it was asked to keep a draft

    module _ (draft : Placed) (answer : Result (Unit {0}) StoreFault)
        (keeps : Keeps g before draft answer after) (t : HasTail g w n before) where
      -- it took the first record ahead
      taken : (head : Entry) (rest : List Entry) → g.ahead before ≡ head ∷ rest
          → IsTaken head rest (g.base before) (g.ahead after) (g.base after) draft.entry answer
          → HasTail g w n after
      taken head rest was h =
          record {
            tail = t.tail;
            all =
                ap (λ (rs : List Entry). rs ++ g.ahead after) h.base
                ∙ (ap (λ (rs : List Entry). (g.base before ++ head ∷ []) ++ rs) h.ahead
                ∙ (append_assoc (g.base before) (head ∷ []) rest
                ∙ (ap (λ (rs : List Entry). g.base before ++ rs) (sym was) ∙ t.all)));
            may = t.may;
            short = t.short;
            based = based;
            sure =
                inl (subst (λ (a : Result (Unit {0}) StoreFault).
                LeavesDoubt (g.is_doubtful after) (g.doubt after) draft.entry a) h.ok
                keeps.doubted).clear.1;
          }
        where
          based : g.is_honest after → g.base after ≡ g.certain after
          based honest =
              h.base
              ∙ (ap (λ (rs : List Entry). rs ++ head ∷ []) (t.based (keeps.trust.honest honest))
              ∙ (ap (λ (r : Entry). g.certain before ++ r ∷ []) (sym h.first)
              ∙ sym (subst (λ (a : Result (Unit {0}) StoreFault).
              IsAppended (g.certain before) (g.certain after) draft.entry a) h.ok
              (keeps.appended honest)).stored))

      -- it was given another record, and fails
      another : (a : Result (Unit {0}) StoreFault)
          → IsAppended (g.certain before) (g.certain after) draft.entry a
          → MatchResult a (λ _. ⊥) (λ e. is_place e ≡ false) → g.certain after ≡ g.certain before
      another (Ok done) appended fails = absurd fails
      another (Err fault) appended fails = appended.failed

      -- it was out of place, and is as before
      missed : (a : Result (Unit {0}) StoreFault) (b : Bool)
          → is_out_of_place (g.is_doubtful before) (g.place before) draft.pos ≡ b
          → IsPlaced b (g.place before) a → MatchResult a (λ _. ⊥) (λ e. is_place e ≡ true)
          → after ≡ before
      missed a true out placed fails = keeps.same out
      missed (Ok done) false out placed fails = absurd fails
      missed (Err fault) false out placed fails = absurd (false≢true (sym placed.0 ∙ fails))

      some : (head : Entry) (rest : List Entry) → g.ahead before ≡ head ∷ rest
          → TakesAhead (head ∷ rest) (g.base before) (g.ahead after) (g.base after)
          (g.doubt after) draft.entry answer
          → MayHaveTail g w n after
      some head rest was (inl h) = inr (taken head rest was h)
      some head rest was (inr (inl h)) = inl h.ahead
      some head rest was (inr (inr (inl h))) =
          inr (tail-still h.keeps.base (h.keeps.ahead ∙ sym was)
          (λ honest. h.keeps.base ∙ (t.based (keeps.trust.honest honest)
          ∙ sym (another answer (keeps.appended honest) h.fails)))
          (inl h.sure) t)
      some head rest was (inr (inr (inr h))) =
          inr (subst (λ (s : S). HasTail g w n s)
          (sym (missed answer (is_out_of_place (g.is_doubtful before) (g.place before) draft.pos)
          refl keeps.placed h.fails)) t)

    -- the tail stays one when the store keeps a draft, and also when it fails
    pub tail-kept : (draft : Placed) (answer : Result (Unit {0}) StoreFault)
        → Keeps g before draft answer after → WouldHaveTail g w n before
        → WouldHaveTail g w n after
    tail-kept draft answer keeps h clean =
        at (g.ahead before) refl keeps.ahead (h (keeps.trust.clean clean))
      where
        Takes : List Entry → Type 0
        Takes was =
            TakesAhead was (g.base before) (g.ahead after) (g.base after) (g.doubt after)
            draft.entry answer

        at : (was : List Entry) → g.ahead before ≡ was → Takes was → MayHaveTail g w n before
            → MayHaveTail g w n after
        at [] e takes t = inl takes
        at (head ∷ rest) e takes (inl none) = absurd (cc (e, none))
        at (head ∷ rest) e takes (inr t) = some draft answer keeps t head rest e takes

    -- ---- it was asked for its records

    -- what is certain stays, since nothing was in doubt
    sure-given : (answer : Result (List Entry) StoreFault)
        → IsRetrieved (g.certain before) (g.doubt before) (g.certain after) answer
        → g.doubt before ≡ None → g.certain after ≡ g.certain before
    sure-given (Ok image) h none =
        h.given.0 ∙ subst (λ (o : Option Entry). IsContents (g.certain before) o image) none
        h.given.1
    sure-given (Err fault) h none = h.failed

    -- a shut store gives nothing
    shut-given : (answer : Result (List Entry) StoreFault)
        → IsRetrieved (g.certain before) (g.doubt before) (g.certain after) answer
        → OnOk answer ⊥ → g.certain after ≡ g.certain before
    shut-given (Ok image) h none = absurd none
    shut-given (Err fault) h none = h.failed

    -- the tail stays one when the store gives its records, and also when it fails
    pub tail-given : (answer : Result (List Entry) StoreFault) → Gives g before answer after
        → WouldHaveTail g w n before → WouldHaveTail g w n after
    tail-given answer gives h clean = at gives.ahead (h (gives.trust.clean clean))
      where
        still_sure : (a : Result (List Entry) StoreFault) → Gives g before a after
            → (g.doubt before ≡ None) ⊎ g.is_shut before
            → (g.doubt after ≡ None) ⊎ g.is_shut after
        still_sure (Ok image) it sure = inl it.settled.clear.1
        still_sure (Err fault) it (inl none) = inl (it.settled.kept.1 ∙ none)
        still_sure (Err fault) it (inr shut) = inr (it.refuses shut clean).1

        still : KeepsAhead (g.ahead before) (g.base before) (g.ahead after) (g.base after)
            → HasTail g w n before → HasTail g w n after
        still same t =
            tail-still same.base same.ahead
            (λ honest. same.base ∙ (t.based (gives.trust.honest honest)
            ∙ sym (⊎_elim (λ none. sure-given answer (gives.retrieved honest) none)
            (λ shut. shut-given answer (gives.retrieved honest) (gives.refuses shut clean).0)
            t.sure)))
            (still_sure answer gives t.sure) t

        at : KeepsOrDrops (g.ahead before) (g.base before) (g.ahead after) (g.base after)
            → MayHaveTail g w n before → MayHaveTail g w n after
        at (inr none) was = inl none
        at (inl same) (inl none) = inl (same.ahead ∙ none)
        at (inl same) (inr t) = inr (still same t)
