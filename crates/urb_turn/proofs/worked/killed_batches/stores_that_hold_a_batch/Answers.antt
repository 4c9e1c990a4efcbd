-- Batches that a store of a new node may be asked to hold.
use Rattle.urb_turn.proofs.Common.{Entry, Err, Event, GroupView, HasRested, IsLedTo, IsStoreAfter}
use Rattle.urb_turn.proofs.Common.{LeavesOf, Limits, List, None, Ok, Result, Shows, ShowsNode}
use Rattle.urb_turn.proofs.Common.{StoreFault, Tick, [], arith, empty_memory, false≢true, four}
use Rattle.urb_turn.proofs.Common.{holding, inl, inr, length, limits, memory, name, new_four}
use Rattle.urb_turn.proofs.Common.{no_view, opened_node, pending, refl, run, subst, suc, sym}
use Rattle.urb_turn.proofs.Common.{view_of, zero, ℕ, ⊎_elim, ◌++◌, ◌∷◌, ◌≡◌, ◌≤◌}
use Rattle.urb_names.proofs.OrderedPairs.{has_pair-first}
use Rattle.urb_names.specs.LabelsAndContents.{Content}
use Rattle.urb_names.specs.declared.limits.TheConstants.{MAX_PAYLOAD}
use Rattle.urb_stable.specs.KeptTails.{KeepsTail}
use Rattle.urb_stable.specs.Records.{pend}
use Rattle.urb_stable.specs.declared.stable.StoreFault.TheVariants.{Device}
use Rattle.urb_turn.specs.KeptTails.{MayHold}
use Rattle.urb_turn.specs.KilledBatches.{IsHoldingAt}
use Rattle.urb_turn.specs.internal.TurnExamples.{ahead_of}
use Rattle.urb_world.specs.RunInvariant.{AreShort, MayJoin}
use Rattle.urb_world.specs.StoresAhead.{MayFollow}
use Rattle.urb_world.specs.World.{stored}
use Rattle.urb_world.specs.internal.Scripts.{message}
use Rattle.urb_turn.proofs.worked.killed_batches.stores_that_hold_a_batch.Goals as goal

new_node : (p : ℕ) → ShowsNode (limits 4 10) p no_view (opened_node p [])
new_node p = record {
  pairs = λ x m. refl;
  certified = λ x. refl;
  log = refl;
  count = refl;
  state = refl;
  cursor = refl;
  acks = λ x q e. refl;
  heard = λ x q. refl;
  rules = tt;
  broadcast = refl;
}

-- a new group shows a new world
shows_new : Shows new_four four
shows_new = record { size = refl; nodes = at }
  where
    at : (p : ℕ) → ShowsNode (limits 4 10) p (view_of new_four p) (opened_node p [])
    at zero = new_node zero
    at (suc before) = new_node (suc before)

-- a list without a length is empty
no_length : (records : List Entry) → 0 ≡ length records → records ≡ []
no_length [] e = refl
no_length (r ∷ records) e = absurd (omega (arith, e))

-- the first pair of node 1 may follow nothing, whatever other nodes have stored
first-joins : (images : ℕ → List Entry) → MayJoin (limits 4 10) images 1 [] (pending 1 1)
first-joins images = record { a = refl; b = refl; c = refl; d = refl }

-- that pair has no payload
first-short : AreShort (pend (pending 1 1 ∷ []))
first-short x m e =
    ⊎_elim (λ f. subst (λ (v : Content). length v.payload ≤ MAX_PAYLOAD) f.1 (omega arith))
    (λ f. absurd (false≢true f)) (has_pair-first (name 1 1, message 7 1 "") [] x m e)

-- node 1 of a new group may hold its first pair ahead
may-hold-first : MayHold new_four 1 (pending 1 1 ∷ [])
may-hold-first =
    record {
      ready = λ w shows. sym (shows.nodes 1).state;
      may = λ w shows.
          subst (λ (size : Limits). MayFollow size (stored w) 1 (stored w 1) (pending 1 1 ∷ []))
          shows.size
          (subst
          (λ (rs : List Entry). MayFollow (limits 4 10) (stored w) 1 rs (pending 1 1 ∷ []))
          (sym (no_length (stored w 1) (shows.nodes 1).count)) (first-joins (stored w), tt));
      short = first-short;
    }

-- it may not hold its second pair ahead, before any event
not-second : (earlier between : List Event) (group : GroupView) → [] ≡ earlier ++ between
    → IsLedTo new_four earlier group → MayHold group 1 (pending 1 2 ∷ []) → ⊥
unfolding run
not-second [] between group e leads may =
    false≢true (may.may four (leads four shows_new)).0.b
not-second (event ∷ events) between group e leads may = cc

some-none : {A : Type 0} (x : A) (xs : List A) → x ∷ xs ≡ [] → ⊥
some-none x xs e = cc

-- a store with a pair matches no new node
not-matched : (earlier between : List Event) → [] ≡ earlier ++ between
    → IsStoreAfter memory four earlier 1 holding → ⊥
unfolding run
not-matched [] between e h = some-none (pending 1 1) [] (h.contents.up tt refl).0
not-matched (event ∷ events) between e h = cc

-- an empty store matches it, also if it holds the node's first pair ahead
matched-ahead : IsStoreAfter (ahead_of [] (pending 1 1 ∷ [])) four [] 1 empty_memory
unfolding run
matched-ahead = record {
  contents = record {
    contents = λ honest records is. is;
    left = λ honest. leaves;
    up = λ honest up. (refl, refl);
    sure = λ up. refl;
  };
  lasting = record { left = λ clean. leaves; known = λ clean. inl tt };
  tail = λ clean. inr (record {
    tail = pending 1 1 ∷ [];
    all = refl;
    may = (first-joins (stored four), tt);
    short = first-short;
    based = λ honest. refl;
    sure = inl refl;
  });
}
  where
    leaves : LeavesOf (ahead_of [] (pending 1 1 ∷ [])) (opened_node 1 []) empty_memory
    leaves =
        record { certain = []; doubtful = None; only = λ records is. is; may = λ records is. is }

no-device : ◌≡◌ {A = Result (Unit {0}) StoreFault} (Ok tt) (Err Device) → ⊥
no-device e = cc

keeps-first : KeepsTail (ahead_of [] (pending 1 1 ∷ [])) empty_memory (pending 1 1 ∷ []) (Ok tt)
    empty_memory
keeps-first = record {
  placed = tt;
  still = record { place = refl; doubtful = refl; doubt = refl };
  certain = λ honest. refl;
  trust = record {
    clean = λ clean. clean;
    honest = λ honest. honest;
    alive = λ honest clean. honest;
  };
  counts = record { device = λ e. absurd (no-device e); grows = omega arith };
  holds = record { ahead = refl; base = λ honest. refl; rest = λ honest records is. is };
}

-- node 1 holds its first pair, and rests
first-held : (past : List Event) → HasRested 1 [] past
    → IsHoldingAt (ahead_of [] (pending 1 1 ∷ [])) new_four four past 1 (pending 1 1 ∷ [])
    empty_memory empty_memory
unfolding run
first-held past rests = record {
  earlier = [];
  group = new_four;
  leads = λ w shows. shows;
  asks = record { may = may-hold-first; answer = Ok tt; keeps = keeps-first };
  matched = matched-ahead;
  rests = rests;
}

pub returns-clause-the_first_record : goal.returns-clause-the_first_record
returns-clause-the_first_record c =
    first-held [] (record { between = []; later_is = refl; elsewhere = tt })

pub returns-clause-while_another_node_ticks : goal.returns-clause-while_another_node_ticks
returns-clause-while_another_node_ticks c =
    first-held (Tick 2 ∷ [])
    (record { between = Tick 2 ∷ []; later_is = refl; elsewhere = (refl, tt) })

pub returns-clause-not_a_gap : goal.returns-clause-not_a_gap
returns-clause-not_a_gap c h =
    not-second h.earlier h.rests.between h.group h.rests.later_is h.leads h.asks.may

pub returns-clause-not_one_that_failed_before : goal.returns-clause-not_one_that_failed_before
returns-clause-not_one_that_failed_before c h =
    let grows : 1 ≤ 0 = h.asks.keeps.counts.grows in absurd (omega (arith, grows))

pub returns-clause-not_one_with_a_pair : goal.returns-clause-not_one_with_a_pair
returns-clause-not_one_with_a_pair c h =
    not-matched h.earlier h.rests.between h.rests.later_is h.matched
