-- The past of a house after one more call.
use Rattle.urb_show.proofs.Common.{Bool, Err, Event, GroupView, IsLedTo, IsPrefix, IsSound, List}
use Rattle.urb_show.proofs.Common.{Ok, Reply, Result, Shows, World, [], after, after-append, ap}
use Rattle.urb_show.proofs.Common.{arith, eqb-true, false, if◌then◌else◌, is_ok, length}
use Rattle.urb_show.proofs.Common.{length-append, refl, run, subst, sym, true, ℕ, ◌++◌, ◌+◌, ◌-◌}
use Rattle.urb_show.proofs.Common.{◌<◌, ◌==◌, ◌^◌, ◌∙◌, ◌∷◌, ◌≡◌}
use Rattle.urb_world.specs.Step.{IsReached, step}
use Rattle.urb_show.proofs.GroupLists.{MayFollow}
use Rattle.urb_show.proofs.PastPrefixes.{prefix_more}
use Rattle.urb_show.specs.Houses.{next_count}
use Rattle.urb_show.specs.internal.PreparedLists.{HasPast}
use Rattle.urb_world.proofs.recovery.EventPlans.{after-none}

-- the world after one more event is the next step
pub after_one_more : (w : World) (events : List Event) (event : Event)
    → after w (events ++ event ∷ []) ≡ (step (after w events) event).1
unfolding step run
after_one_more w [] event = refl
after_one_more w (first ∷ events) event = after_one_more (step w first).1 events event

-- if a run leads to a world, a run leads to the world after these events
pub reached_after : (w : World) (past : List Event) → IsReached w → IsReached (after w past)
reached_after w past reached =
    let ran : after reached.start reached.events ≡ w =
    ap (λ (r : List Reply × World). r.1) reached.ran in
    record {
      start = reached.start;
      is_start = reached.is_start;
      events = reached.events ++ past;
      replies = (run reached.start (reached.events ++ past)).0;
      ran =
          ap (λ (v : World). ((run reached.start (reached.events ++ past)).0, v))
          (after-append reached.start reached.events past
          ∙ ap (λ (v : World). after v past) ran);
    }

-- the empty past leads to the group that was opened
pub led_by_none : (opened group : GroupView) (past : List Event) → past ≡ [] → group ≡ opened
    → IsLedTo opened past group
led_by_none opened group past none same w shows =
    subst (λ (v : World). Shows group v)
    (sym (ap (after w) none ∙ after-none w))
    (subst (λ (g : GroupView). Shows g w) (sym same) shows)

-- the first past of a house
pub has_no_past : (opened group : GroupView) (past : List Event) (events : ℕ) → IsSound group
    → past ≡ [] → events ≡ 0 → group ≡ opened → HasPast opened past events group
has_no_past opened group past events sound none zero same = record {
  sound = subst IsSound same sound;
  leads = led_by_none opened group past none same;
  counted = λ low. zero ∙ sym (ap length none);
}

counts_on : (events : ℕ) (past : List Event) (event : Event)
    → (events < 2 ^ 64 - 1 → events ≡ length past)
    → next_count events < 2 ^ 64 - 1 → next_count events ≡ length (past ++ event ∷ [])
counts_on events past event counted low = at (events == 2 ^ 64 - 1) refl low
  where
    at : (b : Bool) → (events == 2 ^ 64 - 1) ≡ b → (if b then events else events + 1) < 2 ^ 64 - 1
        → (if b then events else events + 1) ≡ length (past ++ event ∷ [])
    at true e low =
        let greatest : events ≡ 2 ^ 64 - 1 = eqb-true events (2 ^ 64 - 1) e in
        absurd (omega (arith, greatest, low))
    at false e low =
        let before : events ≡ length past = counted (omega (arith, low)) in
        omega (arith, before, length-append past (event ∷ []))

-- The past after a call of the group that may be refused: `longer` was made before it, and `kept`
-- and `more` are what is kept after it.
pub has_past_after : {T E : Type 0} (opened old new : GroupView) (event : Event) (r : Result T E)
    (past longer copied kept : List Event) (events more : ℕ) → HasPast opened past events old
    → longer ≡ past ++ event ∷ [] → copied ≡ past
    → kept ≡ (if is_ok r then longer else copied)
    → more ≡ (if is_ok r then next_count events else events) → MayFollow old event r new
    → HasPast opened kept more new
has_past_after opened old new event (Ok done) past longer copied kept events more has one same is
    counts follows =
    let all : kept ≡ past ++ event ∷ [] = is ∙ one in
    record {
      sound = has.sound;
      leads =
          λ w shows. subst (λ (v : World). Shows new v)
          (sym (ap (after w) all ∙ after_one_more w past event))
          (follows (after w past) (has.leads w shows));
      counted =
          subst (λ (n : ℕ). n < 2 ^ 64 - 1 → n ≡ length kept) (sym counts)
          (subst (λ (l : List Event). next_count events < 2 ^ 64 - 1 → next_count events ≡ length l)
          (sym all) (counts_on events past event has.counted));
    }
has_past_after opened old new event (Err why) past longer copied kept events more has one same is
    counts as_before =
    subst (λ (l : List Event). HasPast opened l more new) (sym (is ∙ same))
    (subst (λ (n : ℕ). HasPast opened past n new) (sym counts)
    (subst (λ (g : GroupView). HasPast opened past events g) (sym as_before) has))

-- the shared history is a prefix of the longer past too
pub told_after : {T E : Type 0} (told past longer copied kept : List Event) (event : Event)
    (r : Result T E) → IsPrefix told past → longer ≡ past ++ event ∷ [] → copied ≡ past
    → kept ≡ (if is_ok r then longer else copied) → IsPrefix told kept
told_after told past longer copied kept event (Ok done) begins one same is =
    subst (IsPrefix told) (sym (is ∙ one)) (prefix_more told past (event ∷ []) begins)
told_after told past longer copied kept event (Err why) begins one same is =
    subst (IsPrefix told) (sym (is ∙ same)) begins
