-- A stop inside a call that stores a tail may leave nothing of it, or all of it.
use Rattle.urb_ahead_examples.proofs.Common.{AreShort, Content, Entry, Label, List, MAX_PAYLOAD, []}
use Rattle.urb_ahead_examples.proofs.Common.{arith, false≢true, has_pair-first, inl, inr, length}
use Rattle.urb_ahead_examples.proofs.Common.{message, name, pend, pending, refl, subst, ⊎_elim, ◌∷◌}
use Rattle.urb_ahead_examples.proofs.Common.{◌≤◌}
use Rattle.urb_ahead_examples.proofs.worked.stores_ahead.stops_inside_a_call.Goals as goal

-- two records of node 1
abbrev two : List Entry
two = pending 1 1 ∷ pending 1 2 ∷ []

zero-short : 0 ≤ MAX_PAYLOAD
zero-short = omega (arith)

-- a pair with a short payload before others
one-more : (y : Label) (o : Content) (pairs : List (Label × Content))
    → length o.payload ≤ MAX_PAYLOAD → AreShort pairs → AreShort ((y, o) ∷ pairs)
one-more y o pairs h k x m e =
    ⊎_elim (λ f. subst (λ (v : Content). length v.payload ≤ MAX_PAYLOAD) f.1 h) (λ f. k x m f)
    (has_pair-first (y, o) pairs x m e)

short-none : AreShort []
short-none x m e = absurd (false≢true e)

short-one : AreShort (pend (pending 1 1 ∷ []))
short-one = one-more (name 1 1) (message 7 1 "") [] zero-short short-none

short-two : AreShort (pend two)
short-two =
    one-more (name 1 1) (message 7 1 "") ((name 1 2, message 7 2 "") ∷ []) zero-short
    (one-more (name 1 2) (message 7 2 "") [] zero-short short-none)

pub returns-clause-all_of_two : goal.returns-clause-all_of_two
returns-clause-all_of_two c =
    record { is = refl; tail = two; may = search; short = short-two; only = λ records e. inr e }

pub returns-clause-all_or_none_in_three : goal.returns-clause-all_or_none_in_three
returns-clause-all_or_none_in_three c = record {
  is = refl;
  tail = two;
  may = search;
  short = short-two;
  only = (inl refl, inr refl);
}

pub returns-clause-all_or_none_in_four : goal.returns-clause-all_or_none_in_four
returns-clause-all_or_none_in_four c = record {
  is = refl;
  tail = two;
  may = search;
  short = short-two;
  only = (inl refl, inr refl);
}

pub returns-clause-behind_a_record : goal.returns-clause-behind_a_record
returns-clause-behind_a_record c = record {
  is = refl;
  tail = pending 1 2 ∷ [];
  may = search;
  short = short-two;
  only = (inl refl, inr refl);
}

pub returns-clause-of_a_node_that_is_down : goal.returns-clause-of_a_node_that_is_down
returns-clause-of_a_node_that_is_down c = record {
  is = refl;
  tail = pending 1 1 ∷ [];
  may = search;
  short = short-one;
  only = (inl refl, inr refl);
}
