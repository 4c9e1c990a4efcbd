-- A store isn't asked to hold records for which there is no room.
use Rattle.std.proofs.Common.{Bool, Err, List, Ok, Result, [], ap, arith, inl, inr, length, refl}
use Rattle.std.proofs.Common.{subst, sym, true, ◌<◌, ◌∙◌, ◌∷◌, ◌≡◌, ◌≤◌, ◌⊎◌}
use Rattle.std.proofs.lemmas.Bool.{false≢true}
use Rattle.std.specs.Prelude.{MatchBool}
use Rattle.urb_group.specs.GroupViews.{GroupView, Shows}
use Rattle.urb_names.specs.LabelsAndContents.{Limits}
use Rattle.urb_show.specs.Pasts.{IsLedTo}
use Rattle.urb_stable.specs.Entries.{Entry}
use Rattle.urb_stable.specs.KeptTails.{Rests}
use Rattle.urb_stable.specs.MemoryStores.{Memory, empty_memory}
use Rattle.urb_stable.specs.RecordsAhead.{HoldsAhead, IsHoldRefused, MayHoldAhead}
use Rattle.urb_stable.specs.declared.stable.StoreFault.{StoreFault}
use Rattle.urb_turn.specs.KeptTails.{AsksToHold, MayHold}
use Rattle.urb_turn.specs.internal.TurnExamples.{all_ahead, holding_both}
use Rattle.urb_turn_examples.specs.internal.TurnWords.{full_group}
use Rattle.urb_world.proofs.rounds.LastingCounts.{run-size}
use Rattle.urb_world.specs.RecoveryPlans.{after}
use Rattle.urb_world.specs.Step.{Event}
use Rattle.urb_world.specs.StoresAhead.{MayFollow}
use Rattle.urb_world.specs.World.{World, stored}
use Rattle.urb_world.specs.internal.Examples.{limits, pending}
use Rattle.urb_turn_examples.proofs.worked.held_records.records_that_are_prepared.Goals as goal

some-none : {A : Type 0} (x : A) (xs : List A) → x ∷ xs ≡ [] → ⊥
some-none x xs e = cc

-- a store that was asked to hold records, and can hold them, holds just these
asked : (group : GroupView) (records : List Entry) (before after : Memory)
    → AsksToHold all_ahead group 1 records before after → after.certain ≡ records
asked group records before after h = (at h.answer h.keeps.placed h.keeps.holds).ahead
  where
    Held : Type 0
    Held = HoldsAhead records (all_ahead.ahead after) (all_ahead.certain before)
        (all_ahead.base after) (all_ahead.is_honest before) (Rests all_ahead after)

    at : (a : Result (Unit {0}) StoreFault) → IsHoldRefused true a
        → MayHoldAhead before after Held a → Held
    at (Ok done) placed held = held
    at (Err fault) placed holds =
        subst (λ (b : Bool). MatchBool b (after ≡ before) Held) placed holds

-- there are fewer than two records, or more
fewer : (records : List Entry) → (length records < 2) ⊎ (2 ≤ length records)
fewer [] = inl (omega arith)
fewer (r ∷ []) = inl (omega arith)
fewer (r ∷ s ∷ rs) = inr (omega arith)

-- in no world to which a run leads from a full group, a record may follow
no-room : (group : GroupView) (past : List Event) (w : World) → Shows full_group w
    → IsLedTo full_group past group → (records : List Entry)
    → pending 1 1 ∷ pending 1 2 ∷ [] ≡ records → MayHold group 1 records → ⊥
no-room group past w shows leads records is may =
    let v = after w past in
    let size : v.size ≡ limits 4 0 = run-size past w ∙ sym shows.size in
    let both = subst (λ (rs : List Entry). MayFollow v.size (stored v) 1 (stored v 1) rs) (sym is)
    (may.may v (leads w shows)) in
    false≢true (subst (λ (size : Limits). MayFollow size (stored v) 1 (stored v 1)
    (pending 1 1 ∷ pending 1 2 ∷ [])) size both).0.a

changed : holding_both ≡ empty_memory → ⊥
changed e = some-none (pending 1 1) (pending 1 2 ∷ []) (ap (λ (s : Memory). s.certain) e)

pub returns-clause-no_change_for_no_calls : goal.returns-clause-no_change_for_no_calls
returns-clause-no_change_for_no_calls c h =
    some-none (pending 1 1) [] (ap (λ (s : Memory). s.certain) (h.holds.few
    (subst (λ (rs : List Entry). length rs < 2) (sym h.holds.foreseen.0) (omega arith))))

pub returns-clause-none_in_a_full_group : goal.returns-clause-none_in_a_full_group
returns-clause-none_in_a_full_group c w shows h = at (fewer h.holds.records)
  where
    at : (length h.holds.records < 2) ⊎ (2 ≤ length h.holds.records) → ⊥
    at (inl few) = changed (h.holds.few few)
    at (inr enough) =
        let asks = h.holds.enough enough in
        no-room h.group h.past w shows h.leads h.holds.records
        (asked h.group h.holds.records empty_memory holding_both asks) asks.may
