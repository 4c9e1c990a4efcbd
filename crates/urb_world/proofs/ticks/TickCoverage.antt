-- Tick after tick: in as many ticks as there are pairs, each pair has its turn.
use Rattle.urb_world.proofs.Common.{AllIn, Content, Label, List, NAMES_PER_TICK, Option, Some, []}
use Rattle.urb_world.proofs.Common.{all_append, ap, append-nil, append_assoc, are_rising, arith}
use Rattle.urb_world.proofs.Common.{cases_Bool, cases_lt, cyclic, drop, filter, in_resent, is_after}
use Rattle.urb_world.proofs.Common.{last_name, length, not, resent, subst, suc, sym, take}
use Rattle.urb_world.proofs.Common.{take-append-le, true, zero, ℕ, ⊎_elim, ◌++◌, ◌<◌, ◌∙◌, ◌∷◌, ◌≡◌}
use Rattle.urb_world.proofs.Common.{◌≤◌}
use Rattle.std.proofs.lemmas.List.{length-append, length-drop, take-append-drop}
use Rattle.urb_world.proofs.ticks.Membership.{IsIn, in-filter, in-left, in-right, in-split, in-take}
use Rattle.urb_world.proofs.ticks.CyclicOrder.{length-cyclic, turn}

-- the cursor after k ticks
abbrev pub cursor_after : ℕ → Option Label → List (Label × Content) → Option Label
cursor_after zero cursor pairs = cursor
cursor_after (suc k) cursor pairs = cursor_after k (last_name cursor (resent cursor pairs)) pairs

-- the pairs that they resend
abbrev pub turns : ℕ → Option Label → List (Label × Content) → List (Label × Content)
turns zero cursor pairs = []
turns (suc k) cursor pairs =
    resent cursor pairs ++ turns k (last_name cursor (resent cursor pairs)) pairs

-- cyclic order has the same pairs
pub in-cyclic : (cursor : Option Label) (d : Label × Content) (pairs : List (Label × Content))
    → IsIn d pairs → IsIn d (cyclic cursor pairs)
in-cyclic cursor d pairs h =
    ⊎_elim (λ e. in-left d (filter (λ pair. is_after cursor pair.0) pairs) _
    (in-filter (λ pair. is_after cursor pair.0) d pairs e h))
    (λ e. in-right d (filter (λ pair. is_after cursor pair.0) pairs) _
    (in-filter (λ pair. not (is_after cursor pair.0)) d pairs (ap not e) h))
    (cases_Bool (is_after cursor d.0))

-- turns take only pairs of the list
pub in-turns : (all : List (Label × Content)) (k : ℕ) (cursor : Option Label)
    (pairs : List (Label × Content)) → AllIn all pairs → AllIn all (turns k cursor pairs)
in-turns all zero cursor pairs h = tt
in-turns all (suc k) cursor pairs h =
    all_append _ (resent cursor pairs) _ (in_resent all cursor pairs h)
    (in-turns all k (last_name cursor (resent cursor pairs)) pairs h)

module _ (pairs : List (Label × Content)) (rises : are_rising pairs ≡ true) where
  -- once the cursor is after the first ones, they come last
  pub turned : (cursor : Option Label) (firsts rest : List (Label × Content))
      → cyclic cursor pairs ≡ firsts ++ rest
      → cyclic (last_name cursor firsts) pairs ≡ rest ++ firsts
  turned cursor [] rest e = e ∙ sym (append-nil rest)
  turned cursor (pair ∷ firsts) rest e =
      turned (Some pair.0) firsts (rest ++ pair ∷ [])
      (turn cursor pairs pair (firsts ++ rest) rises e ∙ append_assoc firsts rest (pair ∷ []))
      ∙ append_assoc rest (pair ∷ []) firsts

  -- a pair gets its turn if fewer pairs are before it than there are ticks
  turn-comes : (k : ℕ) (cursor : Option Label) (us : List (Label × Content)) (d : Label × Content)
      (vs : List (Label × Content)) → cyclic cursor pairs ≡ us ++ d ∷ vs → length us < k
      → IsIn d (turns k cursor pairs)
  turn-comes zero cursor us d vs e l = absurd (omega arith)
  turn-comes (suc k) cursor us d vs e l =
      ⊎_elim now (later (turn-comes k (last_name cursor (take NAMES_PER_TICK us))
      (drop NAMES_PER_TICK us) d (vs ++ take NAMES_PER_TICK us)))
      (cases_lt (length us) NAMES_PER_TICK)
    where
      now : length us < NAMES_PER_TICK → IsIn d (turns (suc k) cursor pairs)
      now h =
          in-left d (resent cursor pairs) _
          (subst (λ (ps : List (Label × Content)). IsIn d (take NAMES_PER_TICK ps)) (sym e)
          (in-take NAMES_PER_TICK us d vs h))

      later : (cyclic (last_name cursor (take NAMES_PER_TICK us)) pairs ≡ drop NAMES_PER_TICK us
          ++ d ∷ (vs ++ take NAMES_PER_TICK us) → length (drop NAMES_PER_TICK us) < k
          → IsIn d (turns k (last_name cursor (take NAMES_PER_TICK us)) pairs))
          → NAMES_PER_TICK ≤ length us → IsIn d (turns (suc k) cursor pairs)
      later ih h =
          in-right d (resent cursor pairs) _
          (subst (λ (ps : List (Label × Content)). IsIn d (turns k (last_name cursor ps) pairs))
          (sym first)
          (ih next (omega (arith, h, l, length-drop NAMES_PER_TICK us))))
        where
          first : resent cursor pairs ≡ take NAMES_PER_TICK us
          first = ap (take NAMES_PER_TICK) e ∙ take-append-le NAMES_PER_TICK us (d ∷ vs) h

          next : cyclic (last_name cursor (take NAMES_PER_TICK us)) pairs ≡ drop NAMES_PER_TICK us
              ++ d ∷ (vs ++ take NAMES_PER_TICK us)
          next =
              turned cursor (take NAMES_PER_TICK us) (drop NAMES_PER_TICK us ++ d ∷ vs)
              (e ∙ (ap (λ ps. ps ++ d ∷ vs) (sym (take-append-drop NAMES_PER_TICK us))
              ∙ append_assoc (take NAMES_PER_TICK us) (drop NAMES_PER_TICK us) (d ∷ vs)))
              ∙ append_assoc (drop NAMES_PER_TICK us) (d ∷ vs) (take NAMES_PER_TICK us)

  -- In as many ticks as there are pairs, each pair has its turn.
  pub all-turn : (k : ℕ) (cursor : Option Label) (d : Label × Content) → length pairs ≤ k
      → IsIn d pairs → IsIn d (turns k cursor pairs)
  all-turn k cursor d l h =
      let at = in-split d (cyclic cursor pairs) (in-cyclic cursor d pairs h) in
      turn-comes k cursor at.0 d at.1 at.2 (short at.0 at.1 at.2)
    where
      short : (us vs : List (Label × Content)) → cyclic cursor pairs ≡ us ++ d ∷ vs → length us < k
      short us vs e =
          let same : length (us ++ d ∷ vs) ≡ length pairs =
          sym (ap length e) ∙ length-cyclic cursor pairs in
          omega (arith, l, same, length-append us (d ∷ vs))
