-- Images of a group fit together under other limits if the cap and the majorities allow it, and
-- only then.
use Rattle.urb_world.proofs.Common.{AlwaysLeaves, Cert, Content, Entry, Fits, GoesOnUnder}
use Rattle.urb_world.proofs.Common.{HaveMajorities, IsKept, Kept, Label, Limits, List, MayLeave}
use Rattle.urb_world.proofs.Common.{Pend, PendCert, Some, World, [], and_from, and_parts, ap, ap₂}
use Rattle.urb_world.proofs.Common.{arith, cases_Bool, cases_lt, eq-eqb, false, get_some, has_pair}
use Rattle.urb_world.proofs.Common.{has_pair-found, has_pair-itself, has_pair-left, in_range}
use Rattle.urb_world.proofs.Common.{is_node, keeps_a, kept-held, kept-known, kept-numbered}
use Rattle.urb_world.proofs.Common.{kept-range, kept-unique, length, lt-ltb, ltb-true, message_of}
use Rattle.urb_world.proofs.Common.{name, nat_lt, own, own_number, pend, pend-append, refl}
use Rattle.urb_world.proofs.Common.{slice_get, some_found, subst, suc, sym, true, ℕ, ⊎_elim, ◌++◌}
use Rattle.urb_world.proofs.Common.{◌<◌, ◌∙◌, ◌∷◌, ◌≡◌, ◌≤◌}
use Rattle.std.proofs.lemmas.Option.{slice_get_within}
use Rattle.urb_world.proofs.steps.DraftedRecords.{AllKept, to_sender}
use Rattle.urb_world.proofs.steps.Runs.{kept-fits, node-kept}
use Rattle.urb_world.proofs.stops.StoppedWorlds.{goes-on-under, left-kept}
use Rattle.urb_world.specs.StartLimits.{AreOfGroup, AreWithinCap, MayStartWith}
use Rattle.urb_stable.proofs.KeptRules.{kept-all}
use Rattle.urb_stable.proofs.OwnRules.{keeps_own-push, to_kept}
use Rattle.urb_stable.specs.Fitting.{KeepsOwn, held_by_majority}

-- ---- the images of one group

module _ (size : Limits) (images : ℕ → List Entry) (all : AllKept size images) where
  -- a node has no more messages of its own than the cap allows
  pub own-within : AreWithinCap size.cap images
  own-within p = ⊎_elim beyond (λ l. l) (cases_lt size.cap (length (own p (pend (images p)))))
    where
      beyond : size.cap < length (own p (pend (images p)))
          → length (own p (pend (images p))) ≤ size.cap
      beyond more =
          let there = get_some (own p (pend (images p))) size.cap more in
          let found : message_of (pend (images p)) (name p (suc size.cap)) ≡ Some there.0 =
          kept-numbered size images p (images p) (all p) size.cap ∙ there.1 in
          let range =
          kept-range size images p (images p) (all p) (name p (suc size.cap)) there.0
          (has_pair-found (pend (images p)) (name p (suc size.cap)) there.0 found) in
          let parts = and_parts (nat_lt p (suc size.n)) (nat_lt (suc size.cap) (suc size.cap)) range in
          let high : suc size.cap < suc size.cap = ltb-true (suc size.cap) (suc size.cap) parts.1 in
          absurd (omega (arith, high))

  -- a majority holds each certified message
  pub have-majorities : HaveMajorities size.n images
  have-majorities p x m h c =
      let held = kept-held size images p (images p) (all p) x c in
      let one : Some held.0 ≡ Some m =
      sym held.1 ∙ kept-unique size images p (images p) (all p) x m h in
      let same : held.0 ≡ m = cc in
      subst (λ (o : Content). held_by_majority size.n images x o ≡ true) same held.2

  -- a message's number is one of the numbers of its sender's messages
  pub numbered-within : (p : ℕ) (x : Label) (m : Content) → has_pair (pend (images p)) x m ≡ true
      → x.seq ≤ length (own x.sender (pend (images x.sender)))
  numbered-within p x m h =
      let s = x.sender in
      let there = to_sender size images all p x m h in
      let at = own_number size images s (images s) (all s) x m there (eq-eqb s s refl) in
      let same : x ≡ name s (suc at.0) = ap₂ name refl at.1 in
      let found : slice_get (own s (pend (images s))) at.0 ≡ Some m =
      sym (kept-numbered size images s (images s) (all s) at.0)
      ∙ (ap (message_of (pend (images s))) (sym same)
      ∙ kept-unique size images s (images s) (all s) x m there) in
      let low = slice_get_within (own s (pend (images s))) at.0 m found in
      omega (arith, low, at.1)

-- ---- the same images under other limits

module _ (old new : Limits) (images : ℕ → List Entry) (all : AllKept old images)
    (more : old.n ≤ new.n) (within : AreWithinCap new.cap images)
    (majorities : HaveMajorities new.n images) where
  -- each name is in range
  in-new : (p : ℕ) (x : Label) (m : Content) → has_pair (pend (images p)) x m ≡ true
      → in_range new x ≡ true
  in-new p x m h =
      let range = kept-range old images p (images p) (all p) x m h in
      let parts = and_parts (nat_lt x.sender (suc old.n)) (nat_lt x.seq (suc old.cap)) range in
      let sender : x.sender < suc old.n = ltb-true x.sender (suc old.n) parts.0 in
      let seq = numbered-within old images all p x m h in
      let most = within x.sender in
      and_from (nat_lt x.sender (suc new.n)) (nat_lt x.seq (suc new.cap))
      (lt-ltb x.sender (suc new.n) (omega (arith, sender, more)))
      (lt-ltb x.seq (suc new.cap) (omega (arith, seq, most)))

  -- the names of these records are in range
  AreInRange : List Entry → Type 0
  AreInRange rs =
      (x : Label) (m : Content) → has_pair (pend rs) x m ≡ true → in_range new x ≡ true

  before : (e : List Entry) (r : Entry) → AreInRange (e ++ r ∷ []) → AreInRange e
  unfolding AreInRange
  before e r ranges x m h =
      ranges x m (subst (λ (ps : _). has_pair ps x m ≡ true) (sym (pend-append e (r ∷ [])))
      (has_pair-left (pend e) (pend (r ∷ [])) x m h))

  -- a record that was new to the earlier ones still is
  still-new : (e : List Entry) (r : Entry) → AreInRange (e ++ r ∷ []) → keeps_a old e r ≡ true
      → keeps_a new e r ≡ true
  unfolding AreInRange
  still-new e (Pend x m) ranges a =
      and_from (in_range new x) _ (ranges x m
      (subst (λ (ps : _). has_pair ps x m ≡ true) (sym (pend-append e (Pend x m ∷ [])))
      (has_pair-itself (pend e) x m))) (and_parts (in_range old x) _ a).1
  still-new e (PendCert x m) ranges a =
      and_from (in_range new x) _ (ranges x m
      (subst (λ (ps : _). has_pair ps x m ≡ true) (sym (pend-append e (PendCert x m ∷ [])))
      (has_pair-itself (pend e) x m))) (and_parts (in_range old x) _ a).1
  still-new e (Cert x) ranges a =
      let rest = (and_parts (in_range old x) _ a).1 in
      let some = some_found (message_of (pend e) x) (and_parts _ _ rest).0 in
      and_from (in_range new x) _ (before e (Cert x) ranges x some.0
      (has_pair-found (pend e) x some.0 some.1)) rest

  own-kept : (p : ℕ) → KeepsOwn new p [] (images p)
  unfolding AreInRange
  own-kept p =
      kept-all old images p (λ e. AreInRange e → KeepsOwn new p [] e)
      (λ e r was rules ranges. keeps_own-push new p [] e r (was (before e r ranges))
      (still-new e r ranges rules.a) rules.b) [] (images p) (λ ranges. tt) (all p) (in-new p)

  -- images that meet the rules meet them under new limits, if the cap and the majorities allow it
  pub kept-under : AllKept new images
  kept-under p =
      to_kept new images p (images p) (kept-known old images p (images p) (all p))
      (λ x m c h. majorities p x m h c) [] (images p) refl (own-kept p)

-- ---- images that fit

fitting-all : (size : Limits) (images : ℕ → List Entry) → AreOfGroup size.n images
    → Fits size images → AllKept size images
fitting-all size images are fits p = ⊎_elim inside outside (cases_Bool (is_node size.n p))
  where
    inside : is_node size.n p ≡ true → Kept size images p [] (images p)
    inside is =
        let parts = and_parts (nat_lt 0 p) (nat_lt p (suc size.n)) is in
        let low : 0 < p = ltb-true 0 p parts.0 in
        node-kept size images fits p (omega (arith, low)) (ltb-true p (suc size.n) parts.1)

    outside : is_node size.n p ≡ false → Kept size images p [] (images p)
    outside is = subst (λ (rs : List Entry). Kept size images p [] rs) (sym (are p is)) tt

-- images that fit together fit under new limits, if the cap and the majorities allow it
pub fits-under : (old new : Limits) (images : ℕ → List Entry) → old.n ≤ new.n
    → AreOfGroup old.n images → Fits old images → AreWithinCap new.cap images
    → HaveMajorities new.n images → Fits new images
fits-under old new images more are fits within majorities =
    kept-fits new images
    (kept-under old new images (fitting-all old images are fits) more within majorities)

-- images fit together under new limits only if the cap and the majorities allow it
pub fits-only : (old new : Limits) (images : ℕ → List Entry) → old.n ≤ new.n
    → AreOfGroup old.n images → Fits new images
    → AreWithinCap new.cap images × HaveMajorities new.n images
fits-only old new images more are fits =
    let all = fitting-all new images grown fits in
    (own-within new images all, have-majorities new images all)
  where
    grown : AreOfGroup new.n images
    grown p beyond = ⊎_elim (λ is. absurd (inside is)) (are p) (cases_Bool (is_node old.n p))
      where
        inside : is_node old.n p ≡ true → ⊥
        inside is =
            let parts = and_parts (nat_lt 0 p) (nat_lt p (suc old.n)) is in
            let low : p < suc old.n = ltb-true p (suc old.n) parts.1 in
            let yes : is_node new.n p ≡ true =
            and_from (nat_lt 0 p) (nat_lt p (suc new.n)) parts.0
            (lt-ltb p (suc new.n) (omega (arith, low, more))) in
            cc

-- a cap that is at least the old one
pub fits-more : (old new : Limits) (images : ℕ → List Entry) → new.n ≡ old.n → old.cap ≤ new.cap
    → AreOfGroup old.n images → Fits old images → Fits new images
fits-more old new images same more are fits =
    let all = fitting-all old images are fits in
    kept-fits new images
    (kept-under old new images all (omega (arith, same))
    (λ p. let most = own-within old images all p in omega (arith, most, more))
    (subst (λ (n : ℕ). HaveMajorities n images) (sym same) (have-majorities old images all)))

-- ---- what a stop leaves

-- whatever a stop leaves of a world meets the rules under limits with which the group may start
-- again
pub starts-kept : (w : World) → IsKept w → (size : Limits) → MayStartWith size w
    → (images : ℕ → List Entry) → ((p : ℕ) → MayLeave (w.node p) (images p)) → AllKept size images
starts-kept w kept size may images left =
    kept-under w.size size images all may.nodes within majorities
  where
    all : AllKept w.size images
    all = left-kept w kept.nodes images left

    within : AreWithinCap size.cap images
    within =
        ⊎_elim (λ more p. let most = own-within w.size images all p in omega (arith, most, more))
        (λ always. always images left) may.cap

    majorities : HaveMajorities size.n images
    majorities =
        ⊎_elim (λ same. subst (λ (n : ℕ). HaveMajorities n images) same
        (have-majorities w.size images all)) (λ always. always images left) may.majorities

-- whatever a stop leaves opens a group that goes on, under limits with which the group may start
-- again
pub starts-on : (w : World) → IsKept w → (size : Limits) → MayStartWith size w
    → AlwaysLeaves w (GoesOnUnder size w)
starts-on w kept size may images left =
    goes-on-under w kept size may.nodes images left (starts-kept w kept size may images left)
