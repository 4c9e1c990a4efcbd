-- A read without memory takes lists or doesn't.
use Rattle.urb_show.proofs.Common.{Agree, List, ReaderView, Shows, Tick, World, [], ap, arith, inl}
use Rattle.urb_show.proofs.Common.{inr, length, log, name, refl, shows_none, stored, told, ⊎_elim}
use Rattle.urb_show.proofs.Common.{◌∷◌, ◌≡◌}
use Rattle.urb_stable.specs.Entries.{Entry}
use Rattle.urb_show.proofs.worked.readers.what_a_fault_leaves.Goals as goal

some-none : {A : Type 0} (x : A) (xs : List A) → x ∷ xs ≡ [] → ⊥
some-none x xs e = cc

none-some : {A : Type 0} (x : A) (xs : List A) → [] ≡ x ∷ xs → ⊥
none-some x xs e = cc

no_name : (records : List Entry) → 0 ≡ length records → name 1 1 ∷ [] ≡ log records → ⊥
no_name [] count logged = cc
no_name (r ∷ records) count logged = omega (arith, count)

-- the group shows no world
no_world : (w : World) → Shows shows_none w → ⊥
no_world w shows = let node = shows.nodes 1 in no_name (stored w 1) node.count node.log

empty_agree : Agree []
empty_agree = record {
  numbers = λ p s. refl;
  one_begins = λ p q s. inl ([], refl);
  short = λ p. omega arith;
}

pub returns-clause-all_as_it_was : goal.returns-clause-all_as_it_was
returns-clause-all_as_it_was c cause = inl refl

pub returns-clause-what_a_read_takes : goal.returns-clause-what_a_read_takes
returns-clause-what_a_read_takes c cause = inr (record {
  agree = empty_agree;
  seen = tt;
  told = tt;
  kept = refl;
  past = (Tick 1 ∷ [], refl);
  delivered = λ w shows. absurd (no_world w shows);
})

pub returns-clause-less_than_there_was : goal.returns-clause-less_than_there_was
returns-clause-less_than_there_was c cause leaves =
    ⊎_elim (λ same. none-some (Tick 1) [] (ap (λ (r : ReaderView). r.past) same))
    (λ takes. some-none (Tick 1) _ takes.past.1) leaves

pub returns-clause-all_of_a_closed_house : goal.returns-clause-all_of_a_closed_house
returns-clause-all_of_a_closed_house c = refl

pub returns-clause-a_closed_house_is_not_read : goal.returns-clause-a_closed_house_is_not_read
returns-clause-a_closed_house_is_not_read c same =
    some-none (Tick 1) [] (ap (λ (r : ReaderView). r.past) same)
