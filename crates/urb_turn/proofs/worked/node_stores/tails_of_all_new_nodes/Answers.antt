-- Which records the stores of new nodes may hold ahead, each behind its own node's.
use Rattle.urb_turn.proofs.Common.{Entry, List, Some, [], arith, empty_memory, false≢true, four}
use Rattle.urb_turn.proofs.Common.{inl, inr, length, limits, name, pending, refl, subst, suc, sym}
use Rattle.urb_turn.proofs.Common.{zero, ℕ, ⊎_elim, ◌∷◌, ◌≡◌, ◌≤◌}
use Rattle.std.specs.Prelude.{slice_get}
use Rattle.urb_names.proofs.OrderedPairs.{has_pair-first}
use Rattle.urb_names.specs.LabelsAndContents.{Content}
use Rattle.urb_names.specs.declared.limits.TheConstants.{MAX_PAYLOAD}
use Rattle.urb_stable.specs.MemoryStores.{Memory}
use Rattle.urb_stable.specs.Records.{pend}
use Rattle.urb_turn.specs.NodeStores.{MayHaveTail}
use Rattle.urb_turn.specs.internal.TurnExamples.{ahead_of}
use Rattle.urb_world.specs.RunInvariant.{AreShort}
use Rattle.urb_world.specs.StoresAhead.{MayFollow}
use Rattle.urb_world.specs.World.{stored}
use Rattle.urb_world.specs.internal.Scripts.{message}
use Rattle.urb_turn.proofs.worked.node_stores.tails_of_all_new_nodes.Goals as goal

some-none : {A : Type 0} (x : A) (xs : List A) → x ∷ xs ≡ [] → ⊥
some-none x xs e = cc

-- the first pair of node 1 has no payload
first-short : AreShort (pend (pending 1 1 ∷ []))
first-short x m e =
    ⊎_elim (λ f. subst (λ (v : Content). length v.payload ≤ MAX_PAYLOAD) f.1 (omega arith))
    (λ f. absurd (false≢true f)) (has_pair-first (name 1 1, message 7 1 "") [] x m e)

-- the second pair of node 1 can't follow nothing
no-second : (tail : List Entry) → pending 1 2 ∷ [] ≡ tail
    → MayFollow (limits 4 10) (stored four) 1 [] tail → ⊥
no-second tail e may =
    false≢true (subst (λ (t : List Entry). MayFollow (limits 4 10) (stored four) 1 [] t) (sym e)
    may).0.b

-- nor can node 2 store a pair of node 1 that node 1 doesn't have
not-of-two : (tail : List Entry) → pending 1 1 ∷ [] ≡ tail
    → MayFollow (limits 4 10) (stored four) 2 [] tail → ⊥
not-of-two tail e may =
    false≢true (subst (λ (t : List Entry). MayFollow (limits 4 10) (stored four) 2 [] t) (sym e)
    may).0.c

no-gap : MayHaveTail (ahead_of [] (pending 1 2 ∷ [])) four 1 empty_memory → ⊥
no-gap (inl none) = some-none (pending 1 2) [] none
no-gap (inr h) = no-second h.tail h.all h.may

no-stranger : MayHaveTail (ahead_of [] (pending 1 1 ∷ [])) four 2 empty_memory → ⊥
no-stranger (inl none) = some-none (pending 1 1) [] none
no-stranger (inr h) = not-of-two h.tail h.all h.may

first-tail : MayHaveTail (ahead_of [] (pending 1 1 ∷ [])) four 1 empty_memory
first-tail = inr (record {
  tail = pending 1 1 ∷ [];
  all = refl;
  may = (record { a = refl; b = refl; c = refl; d = refl }, tt);
  short = first-short;
  based = λ honest. refl;
  sure = inl refl;
})

pub returns-clause-of_the_first : goal.returns-clause-of_the_first
returns-clause-of_the_first c i store got clean = at i store got
  where
    at : (i : ℕ) (store : Memory) → slice_get (empty_memory ∷ []) i ≡ Some store
        → MayHaveTail (ahead_of [] (pending 1 1 ∷ [])) four (suc i) store
    at zero store got =
        let same : empty_memory ≡ store = cc in
        subst (λ (s : Memory). MayHaveTail (ahead_of [] (pending 1 1 ∷ [])) four 1 s) same
        first-tail
    at (suc i) store got = absurd (cc)

pub returns-clause-not_a_gap : goal.returns-clause-not_a_gap
returns-clause-not_a_gap c h = no-gap (h 0 empty_memory refl tt)

pub returns-clause-not_the_same_of_the_second : goal.returns-clause-not_the_same_of_the_second
returns-clause-not_the_same_of_the_second c h = no-stranger (h 1 empty_memory refl tt)

pub returns-clause-one_is_ahead : goal.returns-clause-one_is_ahead
returns-clause-one_is_ahead c h = some-none (pending 1 1) [] (h 0 empty_memory refl)
