-- A stop of a store that is ahead leaves what it may leave of a call, or of one node.
use Rattle.urb_ahead_examples.proofs.Common.{AreShort, Content, Entry, Label, List, MAX_PAYLOAD}
use Rattle.urb_ahead_examples.proofs.Common.{None, Some, Storing, [], arith, false≢true}
use Rattle.urb_ahead_examples.proofs.Common.{has_pair-first, inl, inr, length, message, name}
use Rattle.urb_ahead_examples.proofs.Common.{node_in, opened_node, pend, pending, refl, subst}
use Rattle.urb_ahead_examples.proofs.Common.{⊎_elim, ◌∷◌, ◌≤◌}
use Rattle.urb_ahead_examples.proofs.worked.stores_ahead.stops_of_stores_ahead.Goals as goal

-- two records of node 1
abbrev two : List Entry
two = pending 1 1 ∷ pending 1 2 ∷ []

zero-short : 0 ≤ MAX_PAYLOAD
zero-short = omega (arith)

-- a pair with a short payload before others
one-more : (y : Label) (o : Content) (pairs : List (Label × Content))
    → length o.payload ≤ MAX_PAYLOAD → AreShort pairs → AreShort ((y, o) ∷ pairs)
one-more y o pairs h k x m e =
    ⊎_elim (λ f. subst (λ (v : Content). length v.payload ≤ MAX_PAYLOAD) f.1 h) (λ f. k x m f)
    (has_pair-first (y, o) pairs x m e)

short-none : AreShort []
short-none x m e = absurd (false≢true e)

short-two : AreShort (pend two)
short-two =
    one-more (name 1 1) (message 7 1 "") ((name 1 2, message 7 2 "") ∷ []) zero-short
    (one-more (name 1 2) (message 7 2 "") [] zero-short short-none)

pub returns-clause-inside_a_call : goal.returns-clause-inside_a_call
returns-clause-inside_a_call c =
    inl record {
      is = refl;
      tail = two;
      may = search;
      short = short-two;
      only = (inl refl, inr refl);
    }

pub returns-clause-between_two_calls : goal.returns-clause-between_two_calls
returns-clause-between_two_calls c =
    inr (
      opened_node 1 two,
      inr record { is = refl; tail = two; may = search; short = short-two; opened = refl },
      record { certain = two; doubtful = None; only = λ records e. e; may = λ records e. e },
    )

pub returns-clause-of_the_node_as_it_is : goal.returns-clause-of_the_node_as_it_is
returns-clause-of_the_node_as_it_is c =
    inr (
      node_in (Storing (pending 1 1) None) [],
      inl refl,
      record {
        certain = [];
        doubtful = Some (pending 1 1);
        only = λ records e. e;
        may = λ records e. e;
      },
    )

pub returns-clause-of_no_node : goal.returns-clause-of_no_node
returns-clause-of_no_node c =
    inr (
      opened_node 5 [],
      inl refl,
      record { certain = []; doubtful = None; only = λ records e. e; may = λ records e. e },
    )
