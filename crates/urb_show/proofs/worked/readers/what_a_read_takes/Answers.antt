-- What a read can't take.
use Rattle.urb_show.proofs.Common.{Agree, List, Lists, Shows, ShowsNode, Tick, World, [], arith}
use Rattle.urb_show.proofs.Common.{inl, length, limits, log, name, new_four, no_view, opened_node}
use Rattle.urb_show.proofs.Common.{refl, run, shows_none, started, stored, suc, told, view_of, zero}
use Rattle.urb_show.proofs.Common.{ℕ, ◌∷◌, ◌≡◌}
use Rattle.urb_show.specs.Lists.{Begins}
use Rattle.urb_stable.specs.Entries.{Entry}
use Rattle.urb_show.proofs.worked.readers.what_a_read_takes.Goals as goal

some-none : {A : Type 0} (x : A) (xs : List A) → x ∷ xs ≡ [] → ⊥
some-none x xs e = cc

-- an entry that is lost at the first node
lost : (xs ys : Lists) → Begins ((told 1 1 "a" ∷ []) ∷ xs) ([] ∷ ys) → ⊥
lost xs ys (first, rest) = some-none (told 1 1 "a") _ first.1

none-some : {A : Type 0} (x : A) (xs : List A) → [] ≡ x ∷ xs → ⊥
none-some x xs e = cc

new_node : (p : ℕ) → ShowsNode (limits 4 10) p no_view (opened_node p [])
new_node p = record {
  pairs = λ x m. refl;
  certified = λ x. refl;
  log = refl;
  count = refl;
  state = refl;
  cursor = refl;
  acks = λ x q e. refl;
  heard = λ x q. refl;
  rules = tt;
  broadcast = refl;
}

-- a new group shows a new world
shows_new : Shows new_four (started (limits 4 10))
shows_new = record { size = refl; nodes = at }
  where
    at : (p : ℕ) → ShowsNode (limits 4 10) p (view_of new_four p) (opened_node p [])
    at zero = new_node zero
    at (suc before) = new_node (suc before)

no_name : (records : List Entry) → 0 ≡ length records → name 1 1 ∷ [] ≡ log records → ⊥
no_name [] count logged = cc
no_name (r ∷ records) count logged = omega (arith, count)

-- the group shows no world
no_world : (w : World) → Shows shows_none w → ⊥
no_world w shows = let node = shows.nodes 1 in no_name (stored w 1) node.count node.log

empty_agree : Agree []
empty_agree = record {
  numbers = λ p s. refl;
  one_begins = λ p q s. inl ([], refl);
  short = λ p. omega arith;
}

pub returns-clause-nothing_new : goal.returns-clause-nothing_new
returns-clause-nothing_new c = record {
  agree = empty_agree;
  seen = tt;
  told = tt;
  kept = refl;
  past = ([], refl);
  delivered = λ w shows. absurd (no_world w shows);
}

pub returns-clause-lists_that_disagree : goal.returns-clause-lists_that_disagree
returns-clause-lists_that_disagree c takes = let e = takes.agree.numbers 0 1 in cc

pub returns-clause-less_than_it_saw : goal.returns-clause-less_than_it_saw
returns-clause-less_than_it_saw c takes = lost [] [] takes.seen

pub returns-clause-less_than_it_learnt : goal.returns-clause-less_than_it_learnt
returns-clause-less_than_it_learnt c takes = lost [] [] takes.told

pub returns-clause-it_forgets_what_it_learnt : goal.returns-clause-it_forgets_what_it_learnt
returns-clause-it_forgets_what_it_learnt c takes = none-some [] [] takes.kept

pub returns-clause-it_forgets_an_event : goal.returns-clause-it_forgets_an_event
returns-clause-it_forgets_an_event c takes = some-none (Tick 1) _ takes.past.1

pub returns-clause-what_no_node_delivered : goal.returns-clause-what_no_node_delivered
unfolding run
returns-clause-what_no_node_delivered c takes =
    let begins = takes.delivered (started (limits 4 10)) shows_new 0 in
    some-none _ _ begins.1
