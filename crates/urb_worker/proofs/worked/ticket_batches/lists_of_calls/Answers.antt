-- Lists of calls, of their events one by one.
use Rattle.std.proofs.Common.{List, [], ap, arith, length, suc, sym, ℕ, ◌∙◌, ◌∷◌, ◌≡◌}
use Rattle.urb_foresight.specs.ForeseenDrafts.{event_of}
use Rattle.urb_world.specs.Step.{Event, Submit}
use Rattle.urb_worker.specs.internal.WorkerExamples.{submitted}
use Rattle.urb_worker.proofs.worked.ticket_batches.lists_of_calls.Goals as goal

pub returns-clause-of_a_submit : goal.returns-clause-of_a_submit
returns-clause-of_a_submit c call is = ap (λ (event : Event). event ∷ []) is

pub returns-clause-left_out : goal.returns-clause-left_out
returns-clause-left_out c is = absurd (cc)

pub returns-clause-twice : goal.returns-clause-twice
returns-clause-twice c call is =
    let same : 2 ≡ 1 = ap (λ (events : List Event). length events) is in absurd (omega (arith, same))

-- the first events of two lists
first-of : (event other : Event) (events others : List Event) → event ∷ events ≡ other ∷ others
    → event ≡ other
first-of event other events others same = cc

-- the number of a submit
number_of : Event → ℕ
number_of (Submit p m) = m.number
number_of _ = 0

two-submits : (event : Event) → event ≡ submitted 1 2 → event ≡ submitted 1 1 → ⊥
unfolding number_of
two-submits event second first =
    let numbers : 2 ≡ 1 = ap number_of (sym second ∙ first) in absurd (omega (arith, numbers))

pub returns-clause-of_another_submit : goal.returns-clause-of_another_submit
returns-clause-of_another_submit c call is same =
    two-submits (event_of 1 call) is (first-of (event_of 1 call) (submitted 1 1) [] [] same)

pub returns-clause-cut_short : goal.returns-clause-cut_short
returns-clause-cut_short c call is refused =
    (submitted 1 2, [], ap (λ (event : Event). event ∷ submitted 1 2 ∷ []) is)

pub returns-clause-cut_in_front : goal.returns-clause-cut_in_front
returns-clause-cut_in_front c call is refused h =
    two-submits (event_of 1 call) is
    (first-of (event_of 1 call) (submitted 1 1) (h.0 ∷ h.1) (submitted 1 2 ∷ []) h.2)

pub returns-clause-cut_behind_all : goal.returns-clause-cut_behind_all
returns-clause-cut_behind_all c call refused h =
    let same : suc (suc (length h.1)) ≡ 1 = ap (λ (events : List Event). length events) h.2 in
    absurd (omega (arith, same))
