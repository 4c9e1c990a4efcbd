-- What a store is asked to hold ahead for two submits, for one, and for none.
use Rattle.urb_turn.proofs.Common.{Bool, Entry, Err, List, None, Ok, Option, Result, Some, StoreFault}
use Rattle.urb_turn.proofs.Common.{[], ap, arith, empty_memory, false, holding, inl, inr, length, new_four}
use Rattle.urb_turn.proofs.Common.{pending, refl, run, subst, sym, true, ⊎_elim, ◌∙◌, ◌∷◌, ◌≡◌}
use Rattle.urb_turn.proofs.Common.{◌<◌, ◌≤◌, ◌⊎◌}
use Rattle.std.specs.Prelude.{MatchBool}
use Rattle.urb_names.specs.declared.refusal.NoMemory.{NoMemory}
use Rattle.urb_stable.specs.KeptTails.{Rests}
use Rattle.urb_stable.specs.MemoryStores.{Memory}
use Rattle.urb_stable.specs.RecordsAhead.{HoldsAhead, IsHoldRefused, MayHoldAhead}
use Rattle.urb_turn.proofs.NewSubmits.{both-alone, both-foreseen, both-held, one-alone}
use Rattle.urb_turn.proofs.NewTails.{first-number}
use Rattle.urb_turn.specs.KeptTails.{AsksToHold, HoldsForeseen}
use Rattle.urb_turn.specs.internal.TurnExamples.{all_ahead, holding_both, holding_others}
use Rattle.urb_turn.specs.internal.TurnExamples.{two_submits}
use Rattle.urb_turn.proofs.worked.kept_tails.stores_that_were_prepared.Goals as goal

-- the store was asked to hold both records, and holds them
holds-both : HoldsForeseen all_ahead new_four 1 two_submits None empty_memory holding_both
holds-both = record {
  records = pending 1 1 ∷ pending 1 2 ∷ [];
  foreseen = both-foreseen;
  few = λ h. absurd (omega (arith, h));
  enough = λ h. record {
    may = both-held;
    answer = Ok tt;
    keeps = record {
      placed = tt;
      still = record { place = refl; doubtful = refl; doubt = refl };
      certain = λ honest. refl;
      trust = record { clean = λ h. h; honest = λ h. h; alive = λ h clean. h };
      counts = record { device = λ e. cc; grows = omega arith };
      holds = record { ahead = refl; base = λ honest. refl; rest = λ honest. refl };
    };
  };
}

-- a store that was asked to hold records, and can hold them, holds just these
asked : (records : List Entry) (before after : Memory)
    → AsksToHold all_ahead new_four 1 records before after → after.certain ≡ records
asked records before after h = (at h.answer h.keeps.placed h.keeps.holds).ahead
  where
    Held : Type 0
    Held = HoldsAhead records (all_ahead.ahead after) (all_ahead.certain before)
        (all_ahead.base after) (all_ahead.is_honest before) (Rests all_ahead after)

    at : (a : Result (Unit {0}) StoreFault) → IsHoldRefused true a
        → MayHoldAhead before after Held a → Held
    at (Ok done) placed held = held
    at (Err fault) placed holds =
        subst (λ (b : Bool). MatchBool b (after ≡ before) Held) placed holds

some-none : {A : Type 0} (x : A) (xs : List A) → x ∷ xs ≡ [] → ⊥
some-none x xs e = cc

-- the records behind the first one
abbrev later : List Entry → List Entry
later [] = []
later (r ∷ rs) = rs

-- an empty store that holds other records than both was not asked to hold those
not-both : (after : Memory) → (after.certain ≡ pending 1 1 ∷ pending 1 2 ∷ [] → ⊥)
    → HoldsForeseen all_ahead new_four 1 two_submits None empty_memory after → ⊥
not-both after other h =
    let is = both-alone h.records h.foreseen in
    other (asked h.records empty_memory after (h.enough
    (subst (λ (rs : List Entry). 2 ≤ length rs) (sym is) (omega arith))) ∙ is)

changed : (after : Memory) (r : Entry) (rs : List Entry) → after.certain ≡ r ∷ rs
    → after ≡ empty_memory → ⊥
changed after r rs is e = some-none r rs (sym is ∙ ap (λ (s : Memory). s.certain) e)

pub returns-clause-both_records : goal.returns-clause-both_records
returns-clause-both_records c = holds-both

pub returns-clause-of_a_run : goal.returns-clause-of_a_run
unfolding run
returns-clause-of_a_run c =
    record { past = []; group = new_four; leads = λ w shows. shows; holds = holds-both }

pub returns-clause-not_the_first_alone : goal.returns-clause-not_the_first_alone
returns-clause-not_the_first_alone c h =
    not-both holding (λ e. some-none (pending 1 2) [] (sym (ap later e))) h

pub returns-clause-not_other_records : goal.returns-clause-not_other_records
returns-clause-not_other_records c h =
    not-both holding_others
    (λ e. let three : 3 ≡ 2 = ap (λ (rs : List Entry). first-number (later rs)) e in
    omega (arith, three)) h

pub returns-clause-not_as_before : goal.returns-clause-not_as_before
returns-clause-not_as_before c h =
    not-both empty_memory (λ e. some-none (pending 1 1) (pending 1 2 ∷ []) (sym e)) h

pub returns-clause-for_no_calls : goal.returns-clause-for_no_calls
returns-clause-for_no_calls c = record {
  records = [];
  foreseen = (refl, refl);
  few = λ h. refl;
  enough = λ h. absurd (omega (arith, h));
}

pub returns-clause-no_records_for_no_calls : goal.returns-clause-no_records_for_no_calls
returns-clause-no_records_for_no_calls c h =
    changed holding_both (pending 1 1) (pending 1 2 ∷ []) refl
    (h.few (subst (λ (rs : List Entry). length rs < 2) (sym h.foreseen.0) (omega arith)))

pub returns-clause-not_one_record : goal.returns-clause-not_one_record
returns-clause-not_one_record c h =
    changed holding (pending 1 1) [] refl
    (h.few (subst (λ (rs : List Entry). length rs < 2) (sym (one-alone h.records h.foreseen))
    (omega arith)))

some-refused : (refused : NoMemory) → ◌≡◌ {A = Option NoMemory} (Some refused) None → ⊥
some-refused refused e = cc

pub returns-clause-no_refusal_without_a_call : goal.returns-clause-no_refusal_without_a_call
returns-clause-no_refusal_without_a_call c refused h = some-refused refused h.foreseen.1
