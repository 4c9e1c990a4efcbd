-- The place of an event in a history, and its reply there.
use Rattle.urb_show.proofs.Common.{Carried, ComesUp, Commit, Commits, Done, Err, Event, GoesDown}
use Rattle.urb_show.proofs.Common.{GroupView, IfOk, IsLedTo, IsPrefix, List, Ok, Placed, Refusal}
use Rattle.urb_show.proofs.Common.{Reply, Result, Sent, Some, Stored, Taken, Ticks, Up, WentDown}
use Rattle.urb_show.proofs.Common.{[], after, if◌then◌else◌, is_ok, length, refl, reply_to}
use Rattle.urb_show.proofs.Common.{slice_get, subst, suc, sym, take, zero, ℕ, ◌++◌, ◌∙◌, ◌∷◌, ◌≡◌}
use Rattle.std.proofs.lemmas.List.{append-nil}
use Rattle.urb_group.specs.GroupCalls.{Steps, Takes}
use Rattle.urb_world.specs.Step.{step}
use Rattle.urb_show.proofs.Prefixes.{prefix_get}
use Rattle.urb_show.specs.Pasts.{IsToldAt}
use Rattle.urb_group.specs.declared.taken.Taken.TheVariants as taken

last_get : (past : List Event) (event : Event)
    → slice_get (past ++ event ∷ []) (length past) ≡ Some event
last_get [] event = refl
last_get (x ∷ past) event = last_get past event

-- what stands before the event
take_before : (past moment : List Event) (event : Event) → IsPrefix (past ++ event ∷ []) moment
    → take (length past) moment ≡ past
take_before [] moment event p = refl
take_before (x ∷ past) [] event p = absurd (cc (p.1))
take_before (x ∷ past) (y ∷ moment) event p =
    let heads : x ≡ y = cc (p.1) in
    let rest = take_before past moment event (p.0, cc (p.1)) in cc (heads, rest)

-- a place of a list is one of each list that begins with it, and the same stands before it
take_within : (moment later : List Event) (place : ℕ) (event : Event) → IsPrefix moment later
    → slice_get moment place ≡ Some event → take place later ≡ take place moment
take_within [] later place event p at = absurd (cc (at))
take_within (x ∷ moment) [] place event p at = absurd (cc (p.1))
take_within (x ∷ moment) (y ∷ later) zero event p at = refl
take_within (x ∷ moment) (y ∷ later) (suc place) event p at =
    let heads : x ≡ y = cc (p.1) in
    let rest = take_within moment later place event (p.0, cc (p.1)) at in cc (heads, rest)

-- An event that is the last one of a past has its place and its reply in each history that begins
-- with this past.
pub reply_stands : (opened old new : GroupView) (past moment : List Event) (event : Event)
    (reply : Reply) → IsLedTo opened past old → Steps old event (λ told. told ≡ reply) new
    → IsPrefix (past ++ event ∷ []) moment → IsToldAt opened moment (length past) event reply
reply_stands opened old new past moment event reply leads steps begins = record {
  stands =
      prefix_get (past ++ event ∷ []) moment (length past) event begins (last_get past event);
  told =
      λ w shows. subst (λ (l : List Event). (step (after w l) event).0 ≡ reply)
      (sym (take_before past moment event begins)) (steps (after w past) (leads w shows)).told;
}

-- a place and its reply stay in each longer history
pub reply_stays : (opened : GroupView) (moment later : List Event) (place : ℕ) (event : Event)
    (reply : Reply) → IsToldAt opened moment place event reply → IsPrefix moment later
    → IsToldAt opened later place event reply
reply_stays opened moment later place event reply told begins = record {
  stands = prefix_get moment later place event begins told.stands;
  told =
      λ w shows. subst (λ (l : List Event). (step (after w l) event).0 ≡ reply)
      (sym (take_within moment later place event begins told.stands)) (told.told w shows);
}

-- ---- what a call of the group says

module _ (old new : GroupView) (event : Event) where
  -- the event happened, with the reply that the result says, or the call was refused
  abbrev pub MayStep : {T E : Type 0} → (T → Reply) → Result T E → Type 0
  MayStep reply (Ok done) = Steps old event (λ told. told ≡ reply done) new
  MayStep reply (Err why) = Unit {0}

  -- a submit or an arrival is a step with the reply that its result says
  pub takes_step : {A : Type 0} (p : ℕ) (r : Result (Taken A) Refusal) → Takes old p event r new
      → MayStep reply_to r
  takes_step p (Ok (taken.Same answer)) h = h
  takes_step p (Ok (taken.Store draft)) h = h.0
  takes_step p (Err refusal) h = tt

  -- so is a tick
  pub ticks_step : (r : Result (List Carried) Refusal) → Ticks old event r new → MayStep Sent r
  ticks_step (Ok packets) h = h
  ticks_step (Err refusal) h = tt

  -- so is a failed store or a crash
  pub goes_down_step : (p : ℕ) (r : Result (Unit {0}) Refusal) → GoesDown old p event r new
      → MayStep (λ done. WentDown p) r
  goes_down_step p (Ok done) h = h
  goes_down_step p (Err refusal) h = tt

  -- so is a restart
  pub comes_up_step : (p : ℕ) (r : Result (Unit {0}) Refusal) → ComesUp old p event r new
      → MayStep (λ done. Up p) r
  comes_up_step p (Ok done) h = h
  comes_up_step p (Err refusal) h = tt

-- a receipt is a step with the reply that its result says
pub commits_step : (old new : GroupView) (receipt : Placed) (r : Result Done (Placed × Refusal))
    → Commits old receipt r new
    → MayStep old new (Commit receipt.node receipt.pos receipt.entry) Stored r
commits_step old new receipt (Ok done) h = h
commits_step old new receipt (Err e) h = tt

-- The event of a call of the group has its place and its reply. `longer` was made before the call.
-- `was` is the past before it, and `now` the one that is kept after it.
pub recorded : {T E : Type 0} (opened old new : GroupView) (event : Event) (reply : T → Reply)
    (r : Result T E) (past longer copied was now : List Event) → IsLedTo opened past old
    → MayStep old new event reply r → longer ≡ past ++ event ∷ [] → copied ≡ past
    → now ≡ (if is_ok r then longer else copied) → past ≡ was
    → IfOk r (λ done. IsToldAt opened now (length was) event (reply done))
recorded opened old new event reply (Ok done) past longer copied was now leads steps one same is
    before =
    let all : past ++ event ∷ [] ≡ now = sym (is ∙ one) in
    subst (λ (l : List Event). IsToldAt opened now (length l) event (reply done)) before
    (reply_stands opened old new past now event (reply done) leads steps
    ([], append-nil (past ++ event ∷ []) ∙ all))
recorded opened old new event reply (Err why) past longer copied was now leads steps one same is
    before = tt
