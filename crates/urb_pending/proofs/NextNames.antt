-- Cyclic order of names: the next name.
use Rattle.urb_pending.proofs.Common.{Bool, Content, Label, List, None, Some, [], cond, false}
use Rattle.urb_pending.proofs.Common.{filter, find, first_name, name_lt, not, option_map, option_or}
use Rattle.urb_pending.proofs.Common.{refl, true, ◌++◌, ◌∙◌, ◌∷◌, ◌≡◌}
use Rattle.urb_names.specs.CyclicOrder.{cyclic, is_after}

-- the first that passes, or else the first of the rest, is the first once those that pass are put
-- before the rest
first_in_front : (test : Label × Content → Bool) (ps rest : List (Label × Content))
    → option_or (option_map (λ pair. pair.0) (find test ps)) (first_name rest) ≡ first_name
    (filter test ps ++ rest)
first_in_front test [] rest = refl
first_in_front test (p ∷ ps) rest = step (first_in_front test ps rest) (test p)
  where
    step : option_or (option_map (λ pair. pair.0) (find test ps)) (first_name rest) ≡ first_name
        (filter test ps ++ rest) → (b : Bool)
        → option_or (option_map (λ pair. pair.0) (cond b (Some p) (find test ps))) (first_name rest)
        ≡ first_name (cond b (p ∷ filter test ps) (filter test ps) ++ rest)
    step ih true = refl
    step ih false = ih

-- if none passes, the first is the first of those that fail
first_of_rest : (test : Label × Content → Bool) (ps : List (Label × Content))
    → option_or (option_map (λ pair. pair.0) (find test ps)) (first_name ps) ≡ option_or
    (option_map (λ pair. pair.0) (find test ps))
    (first_name (filter (λ pair. not (test pair)) ps))
first_of_rest test [] = refl
first_of_rest test (p ∷ ps) = step (test p)
  where
    step : (b : Bool)
        → option_or (option_map (λ pair. pair.0) (cond b (Some p) (find test ps))) (Some p.0)
        ≡ option_or (option_map (λ pair. pair.0) (cond b (Some p) (find test ps)))
        (first_name (cond (not b) (p ∷ filter (λ pair. not (test pair)) ps)
        (filter (λ pair. not (test pair)) ps)))
    step true = refl
    step false = refl

-- the first name after a cursor, or else the first of all, is the next in cyclic order
pub first_cyclic : (cursor : Label) (ps : List (Label × Content))
    → option_or (option_map (λ pair. pair.0) (find (λ pair. name_lt cursor pair.0) ps))
    (first_name ps) ≡ first_name (cyclic (Some cursor) ps)
first_cyclic cursor ps =
    first_of_rest (λ pair. name_lt cursor pair.0) ps
    ∙ first_in_front (λ pair. name_lt cursor pair.0) ps
    (filter (λ pair. not (name_lt cursor pair.0)) ps)

-- without a cursor the first of all comes first
pub whole_cycle : (ps : List (Label × Content)) → first_name ps ≡ first_name (cyclic None ps)
whole_cycle [] = refl
whole_cycle (p ∷ ps) = refl

-- the name found first by a test is the first name of the pairs that pass it
pub first_passing : (test : Label × Content → Bool) (ps : List (Label × Content))
    → option_map (λ pair. pair.0) (find test ps) ≡ first_name (filter test ps)
first_passing test [] = refl
first_passing test (p ∷ ps) = step (first_passing test ps) (test p)
  where
    step : option_map (λ pair. pair.0) (find test ps) ≡ first_name (filter test ps) → (b : Bool)
        → option_map (λ pair. pair.0) (cond b (Some p) (find test ps)) ≡ first_name
        (cond b (p ∷ filter test ps) (filter test ps))
    step ih true = refl
    step ih false = ih

-- without a cursor, the first name of all pairs is the first after it
pub all_behind_none : (ps : List (Label × Content))
    → first_name ps ≡ first_name (filter (λ pair. is_after None pair.0) ps)
all_behind_none [] = refl
all_behind_none (p ∷ ps) = refl
