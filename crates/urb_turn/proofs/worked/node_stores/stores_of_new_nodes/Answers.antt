-- The stores of new nodes: an empty one matches, and no other one does.
use Rattle.urb_turn.proofs.Common.{IsStoreAfter, LeavesOf, List, None, [], empty_memory, false}
use Rattle.urb_turn.proofs.Common.{four, holding, inl, inr, memory, opened_node, pending, refl, run}
use Rattle.urb_turn.proofs.Common.{true, ℕ, ◌∷◌, ◌≡◌}
use Rattle.urb_turn.proofs.NewTails.{may-first, no-gap, pending-short}
use Rattle.urb_turn.specs.internal.TurnExamples.{ahead_of}
use Rattle.urb_turn.proofs.worked.node_stores.stores_of_new_nodes.Goals as goal

some-none : {A : Type 0} (x : A) (xs : List A) → x ∷ xs ≡ [] → ⊥
some-none x xs e = cc

true-false : true ≡ false → ⊥
true-false e = cc

-- a stop leaves no record of a new node in an empty store
leaves : (p : ℕ) → LeavesOf memory (opened_node p []) empty_memory
leaves p =
    record { certain = []; doubtful = None; only = λ records is. is; may = λ records is. is }

-- nor does it if the store holds a record ahead
leaves-ahead : (p : ℕ)
    → LeavesOf (ahead_of [] (pending 1 1 ∷ [])) (opened_node p []) empty_memory
leaves-ahead p =
    record { certain = []; doubtful = None; only = λ records is. is; may = λ records is. is }

empty : (p : ℕ) → IsStoreAfter memory four [] p empty_memory
unfolding run
empty p = record {
  contents = record {
    contents = λ honest records is. is;
    left = λ honest. leaves p;
    up = λ honest up. (refl, refl);
    sure = λ up. refl;
  };
  lasting = record { left = λ clean. leaves p; known = λ clean. inl tt };
  tail = λ clean. inl refl;
}

not-held : (p : ℕ) → IsStoreAfter memory four [] p holding → ⊥
unfolding run
not-held p h = some-none (pending 1 1) [] (h.contents.up tt refl).0

pub returns-clause-an_empty_one : goal.returns-clause-an_empty_one
returns-clause-an_empty_one c = empty 1

pub returns-clause-one_with_a_record_ahead : goal.returns-clause-one_with_a_record_ahead
unfolding run
returns-clause-one_with_a_record_ahead c = record {
  contents = record {
    contents = λ honest records is. is;
    left = λ honest. leaves-ahead 1;
    up = λ honest up. (refl, refl);
    sure = λ up. refl;
  };
  lasting = record { left = λ clean. leaves-ahead 1; known = λ clean. inl tt };
  tail = λ clean. inr (record {
    tail = pending 1 1 ∷ [];
    all = refl;
    may = may-first;
    short = pending-short (1 ∷ []);
    based = λ honest. refl;
    sure = inl refl;
  });
}

pub returns-clause-not_one_with_a_gap_ahead : goal.returns-clause-not_one_with_a_gap_ahead
unfolding run
returns-clause-not_one_with_a_gap_ahead c h = no-gap (h.tail tt)

pub returns-clause-none_in_doubt : goal.returns-clause-none_in_doubt
unfolding run
returns-clause-none_in_doubt c h = true-false (h.contents.sure refl)

pub returns-clause-empty_ones : goal.returns-clause-empty_ones
returns-clause-empty_ones c = (empty 1, (empty 2, tt))

pub returns-clause-not_one_with_a_pair : goal.returns-clause-not_one_with_a_pair
returns-clause-not_one_with_a_pair c h = not-held 1 h.0

pub returns-clause-not_the_second_with_a_pair : goal.returns-clause-not_the_second_with_a_pair
returns-clause-not_the_second_with_a_pair c h = not-held 2 h.1.0
