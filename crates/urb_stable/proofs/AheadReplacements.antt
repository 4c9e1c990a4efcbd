-- Another record than the first one ahead is stored. The inner store takes those ahead out and stores
-- it (`replaces`). Or it can't take them out (`refuses-another`). Several records aren't stored
-- together while some are ahead (`refuses-several`).
use Rattle.urb_stable.proofs.Common.{Bool, Entry, Err, IsContents, List, None, Ok, Option, Result}
use Rattle.urb_stable.proofs.Common.{Some, [], append-nil, arith, cond, false, inl, inr, length, length-append, nat_lt}
use Rattle.urb_stable.proofs.Common.{refl, slice_get, subst, sym, true, ℕ, ◌++◌, ◌+◌, ◌-◌, ◌<◌}
use Rattle.urb_stable.proofs.Common.{◌∙◌, ◌∷◌, ◌≡◌}
use Rattle.std.specs.Prelude.{◌^◌, ◌≤◌}
use Rattle.std.proofs.Math.Seq.{take-append_seam}
use Rattle.urb_stable.proofs.AheadTails.{ok_device, place_device}
use Rattle.urb_stable.proofs.AheadStores.{base_held, clash, leaves_same, seen}
use Rattle.urb_stable.specs.AheadStores.{AnswersFirst, IsInside, IsSound, LeavesInner, fault_after}
use Rattle.urb_stable.specs.AheadStores.{ghosts_over, needs_retrieve, next_place}
use Rattle.urb_stable.specs.KeptDrafts.{Keeps, KeepsAll}
use Rattle.urb_stable.specs.StableStorage.{CountsFailures, IsAppended, IsContentsOr, IsPlaced, KeepsTrust}
use Rattle.urb_stable.specs.StableStorage.{is_bad_row, is_out_of_place, is_place}
use Rattle.urb_stable.specs.StoredTogether.{is_misplaced}
use Rattle.urb_stable.specs.WithdrawnRecords.{AreWithdrawn}
use Rattle.urb_stable.specs.declared.stable.Stable.{Ghosts}
use Rattle.urb_stable.specs.declared.stable.StoreFault.{StoreFault}
use Rattle.urb_stable.specs.declared.stable.StoreFault.TheVariants as fault
use Rattle.urb_stable.specs.internal.AheadCalls.{IsCountedOver, failures_after}
use Rattle.urb_stable.specs.internal.TakenOut.{TakesOut}

-- ---- the failures of this store

-- the fault of a call that fails here is neither Place nor BadRow
fault_apart : (failures : ℕ) → (is_place (fault_after failures) ≡ false)
    × (is_bad_row (fault_after failures) ≡ false)
fault_apart failures = at (nat_lt failures (2 ^ 64 - 1))
  where
    at : (b : Bool) → (is_place (cond b fault.Device fault.NoMemory) ≡ false)
        × (is_bad_row (cond b fault.Device fault.NoMemory) ≡ false)
    at true = (refl, refl)
    at false = (refl, refl)

-- such a call was in place
fault_placed : (out : Bool) (next failures : ℕ) → out ≡ false
    → IsPlaced {A = Unit {0}} out next (Err (fault_after failures))
fault_placed false next failures place = fault_apart failures
fault_placed true next failures place = absurd (clash true place refl)

-- such a call counts one failure more, if its fault is Device
fault_counts : (failures : ℕ) → (fault_after failures ≡ fault.Device → failures < failures_after failures)
    × (failures ≤ failures_after failures)
fault_counts failures = at (nat_lt failures (2 ^ 64 - 1))
  where
    memory : ◌≡◌ {A = StoreFault} fault.NoMemory fault.Device → ⊥
    memory e = cc

    at : (b : Bool) → (cond b fault.Device fault.NoMemory ≡ fault.Device
        → failures < cond b (failures + 1) failures)
        × (failures ≤ cond b (failures + 1) failures)
    at true = (λ e. omega arith, omega arith)
    at false = (λ e. absurd (memory e), omega arith)

-- so it does on top of the inner store's failures
more_counts : (old new failures : ℕ) → old ≤ new
    → CountsFailures {A = Unit {0}} (old + failures) (new + failures_after failures)
    (Err (fault_after failures))
more_counts old new failures grows =
    record {
      device = λ e. let rises = (fault_counts failures).0 (same _ e) in omega (arith, grows, rises);
      grows = let more = (fault_counts failures).1 in omega (arith, grows, more);
    }
  where
    same : (e : StoreFault) → ◌≡◌ {A = Result (Unit {0}) StoreFault} (Err e) (Err fault.Device)
        → e ≡ fault.Device
    same e h = cc

-- the trust in a storage after a fault doesn't depend on the fault
pub err_trust : {X Y : Type 0} {e f : StoreFault} (was_clean was_honest is_clean is_honest is_shut : Type 0)
    → KeepsTrust {A = X} was_clean was_honest is_clean is_honest is_shut (Err e)
    → KeepsTrust {A = Y} was_clean was_honest is_clean is_honest is_shut (Err f)
err_trust was_clean was_honest is_clean is_honest is_shut k =
    record { clean = k.clean; honest = k.honest; alive = tt; shut = k.shut }

-- a storage that stays as it was keeps its trust
still_trust : {A : Type 0} {e : StoreFault} (is_clean is_honest is_shut : Type 0)
    → KeepsTrust {A = A} is_clean is_honest is_clean is_honest is_shut (Err e)
still_trust is_clean is_honest is_shut =
    record {
      clean = λ clean. clean;
      honest = λ honest. honest;
      alive = tt;
      shut = λ honest clean. inl honest;
    }

-- what a store answers to another record than the first one ahead, in place
answers_another : (out : Bool) (next failures : ℕ) (head entry : Entry)
    (answer : Result (Unit {0}) StoreFault) → out ≡ false → ¬ (entry ≡ head)
    → IsPlaced false next answer → AnswersFirst out false next failures head entry answer
answers_another false next failures head entry answer place another placed = inr (another, placed)
answers_another true next failures head entry answer place another placed =
    absurd (clash true place refl)

-- another record than the first one of a list isn't the first
first_other : (head entry : Entry) (tail : List Entry)
    → ¬ (slice_get (head ∷ tail) 0 ≡ Some entry) → ¬ (entry ≡ head)
first_other head entry tail another e = another (rw e refl)

-- what is left of a list when as many records are taken out as were ahead
left_is : (base ahead left gone : List Entry) → base ++ ahead ≡ left ++ gone
    → length gone ≡ length ahead → left ≡ base
left_is base ahead left gone all size =
    let lengths : length left ≡ length base =
    omega (arith, size, length-append base ahead, length-append left gone, length_is) in
    sym (take-append_seam left gone)
    ∙ (rw (lengths, ← all) (take-append_seam base ahead))
  where
    length_is : length (base ++ ahead) ≡ length (left ++ gone)
    length_is = rw all refl

-- what the inner store keeps of its records when it fails to take some out
kept_is : {count : ℕ} {e : StoreFault} (old new : List Entry) → AreWithdrawn old new count (Err e)
    → new ≡ old
kept_is old new h = h.failed

module _ {S A : Type 0} (g : Ghosts S A) where
  -- ---- the inner store takes the records ahead out

  -- the inner store isn't out of place afterwards, as this one wasn't before
  mid_placed : (store mid : S) (head : Entry) (tail : List Entry) (pos : ℕ)
      → TakesOut g store (length (head ∷ tail)) (Ok tt) mid → g.is_doubtful store ≡ false
      → (g.place mid ≡ g.place store - length (head ∷ tail))
      × (g.is_doubtful mid ≡ false)
  mid_placed store mid head tail pos out settled =
      let moved : g.place store ≡ g.place mid + length (head ∷ tail) = out.moved.stored in
      (omega (arith, moved), out.doubted.doubtful ∙ settled)

  -- the inner store takes the records ahead out, and keeps another one
  pub replaces : (store mid new start : S) (base ahead : List Entry) (failing spent : Bool)
      (failures pos : ℕ) (entry : Entry) (answer : Result (Unit {0}) StoreFault)
      → IsSound g (seen g store start base ahead failing spent failures) → failing ≡ false
      → 0 < length ahead
      → is_out_of_place (needs_retrieve g (seen g store start base ahead failing spent failures))
      (next_place g (seen g store start base ahead failing spent failures)) pos ≡ false
      → IsCountedOver g (seen g store start base ahead failing spent failures)
      → ¬ (slice_get ahead 0 ≡ Some entry)
      → TakesOut g store (length ahead) (Ok tt) mid
      → Keeps g mid (record { node = 0; pos = pos; entry = entry }) answer new
      → Keeps (ghosts_over g) (seen g store start base ahead failing spent failures)
      (record { node = 0; pos = pos; entry = entry }) answer
      (seen g new start base [] failing spent failures)
  replaces store mid new start base [] failing spent failures pos entry answer sound held some place
      counted another out k =
      absurd (omega arith)
  replaces store mid new start base (head ∷ tail) true spent failures pos entry answer sound held some
      place counted another out k =
      absurd (clash true held refl)
  replaces store mid new start base (head ∷ tail) false true failures pos entry answer sound held some
      place counted another out k =
      absurd (clash true place refl)
  replaces store mid new start base (head ∷ tail) false false failures pos entry answer sound held
      some place counted another out k =
      record {
        answers = answers_another _ _ failures head entry answer place (first_other head entry tail another)
            in_place;
        placed = rw place in_place;
        same = λ is_out. absurd (clash _ place is_out);
        counted = counted;
        appended = λ honest.
            subst (λ (c : List Entry). IsAppended c (g.certain new) entry answer)
            (mid_is (k.trust.honest honest)) (k.appended honest);
        doubted = k.doubted;
        stop = λ honest clean.
            let was = out.trust.alive honest (k.trust.clean clean) in
            inl (refl, stop_same was (k.stop was clean));
        rest = λ honest. inl (refl, k.rest honest);
        counts = record {
          device = λ e. let rises = k.counts.device e in
              let grows = out.counts.grows in omega (arith, rises, grows);
          grows = let more = k.counts.grows in
              let grows = out.counts.grows in omega (arith, more, grows);
        };
        trust = chain answer k.trust;
        ahead = inr (inl (record { another = first_other head entry tail another; ahead = refl }));
      }
    where
      sure : g.doubt store ≡ None
      sure = sound.sure some

      mid_is : g.is_honest mid → g.certain mid ≡ base
      mid_is honest =
          let gone = (out.withdraws.withdrawn honest).taken in
          left_is base (head ∷ tail) (g.certain mid) gone.0
          (sym (sound.follows some refl (out.trust.honest honest)) ∙ gone.1) gone.2

      stop_same : g.is_honest mid
          → g.leaves_only new (IsContentsOr entry (g.certain mid) (g.doubt mid))
          → g.leaves_only new (IsContentsOr entry base (g.doubt store))
      stop_same honest leaves =
          subst (λ (c : List Entry). g.leaves_only new (IsContentsOr entry c (g.doubt store)))
          (mid_is honest)
          (subst (λ (d : Option Entry). g.leaves_only new (IsContentsOr entry (g.certain mid) d))
          out.doubted.left leaves)

      at : (g.place mid ≡ g.place store - length (head ∷ tail)) × (g.is_doubtful mid ≡ false)
      at = mid_placed store mid head tail pos out (sound.settled some refl)

      in_place : IsPlaced false (g.place store - length (head ∷ tail)) answer
      in_place =
          subst (λ (b : Bool). IsPlaced b (g.place store - length (head ∷ tail)) answer) place
          (subst (λ (n : ℕ). IsPlaced (is_out_of_place false n pos) n answer) at.0
          (subst (λ (b : Bool). IsPlaced (is_out_of_place b (g.place mid) pos) (g.place mid) answer)
          at.1 k.placed))

      chain : (a : Result (Unit {0}) StoreFault)
          → KeepsTrust (g.is_clean mid) (g.is_honest mid) (g.is_clean new) (g.is_honest new)
          (g.is_shut new) a
          → KeepsTrust (g.is_clean store) (g.is_honest store) (g.is_clean new) (g.is_honest new)
          (g.is_shut new) a
      chain (Ok done) t =
          record {
            clean = λ clean. out.trust.clean (t.clean clean);
            honest = λ honest. out.trust.honest (t.honest honest);
            alive = λ honest clean. t.alive (out.trust.alive honest (t.clean clean)) clean;
            shut = λ honest clean. t.shut (out.trust.alive honest (t.clean clean)) clean;
          }
      chain (Err e) t =
          record {
            clean = λ clean. out.trust.clean (t.clean clean);
            honest = λ honest. out.trust.honest (t.honest honest);
            alive = tt;
            shut = λ honest clean. t.shut (out.trust.alive honest (t.clean clean)) clean;
          }

  -- ---- it can't take them out

  -- the inner store couldn't take the records ahead out, and this one is spent
  pub refuses-another : (store mid start : S) (base ahead : List Entry) (failing spent : Bool)
      (failures pos : ℕ) (entry : Entry) (e : StoreFault)
      → IsSound g (seen g store start base ahead failing spent failures) → failing ≡ false
      → 0 < length ahead
      → is_out_of_place (needs_retrieve g (seen g store start base ahead failing spent failures))
      (next_place g (seen g store start base ahead failing spent failures)) pos ≡ false
      → IsCountedOver g (seen g store start base ahead failing spent failures)
      → ¬ (slice_get ahead 0 ≡ Some entry)
      → TakesOut g store (length ahead) (Err e) mid
      → Keeps (ghosts_over g) (seen g store start base ahead failing spent failures)
      (record { node = 0; pos = pos; entry = entry }) (Err (fault_after failures))
      (seen g mid start base ahead failing true (failures_after failures))
  refuses-another store mid start base [] failing spent failures pos entry e sound held some place
      counted another out =
      absurd (omega arith)
  refuses-another store mid start base (head ∷ tail) true spent failures pos entry e sound held some
      place counted another out =
      absurd (clash true held refl)
  refuses-another store mid start base (head ∷ tail) false true failures pos entry e sound held some
      place counted another out =
      absurd (clash true place refl)
  refuses-another store mid start base (head ∷ tail) false false failures pos entry e sound held some
      place counted another out =
      record {
        answers = answers_another _ _ failures head entry _ place (first_other head entry tail another)
            (fault_apart failures);
        placed = fault_placed _ _ failures place;
        same = λ is_out. absurd (clash _ place is_out);
        counted = counted;
        appended = λ honest. record { stored = tt; failed = refl };
        doubted = record {
          clear = tt;
          doubtful = λ apart. refl;
          doubt = λ apart. inl none;
        };
        stop = λ honest clean.
            inr (left_by (is_place e) refl honest clean, inl (base_held base _ sure));
        rest = λ honest. inr (inl (rest_of (is_place e) refl honest), base_held base _ none);
        counts = more_counts _ _ failures out.counts.grows;
        trust = err_trust _ _ _ _ _ out.trust;
        ahead = inr (inr (inl (record {
          fails = (fault_apart failures).0;
          sure = none;
          keeps = record { ahead = refl; base = refl };
        })));
      }
    where
      sure : g.doubt store ≡ None
      sure = sound.sure some

      none : g.doubt mid ≡ None
      none = out.doubted.left ∙ sure

      -- what a stop leaves, whether the fault is Place or not
      left_by : (b : Bool) → is_place e ≡ b → g.is_honest store → g.is_clean mid
          → LeavesInner (g.leaves_only mid) base (head ∷ tail)
      left_by true placed honest clean =
          inl (subst (λ (s : S). g.leaves_only s (IsContents (base ++ head ∷ tail) None))
          (sym (out.same placed)) (sound.left some honest))
      left_by false apart honest clean =
          inr (
            some,
            (out.withdraws apart).stop honest clean base (head ∷ tail)
                (sound.follows some refl honest) refl,
          )

      rest_of : (b : Bool) → is_place e ≡ b → g.is_honest mid
          → g.leaves_only mid (IsContents (base ++ head ∷ tail) None)
      rest_of true placed honest =
          subst (λ (s : S). g.leaves_only s (IsContents (base ++ head ∷ tail) None))
          (sym (out.same placed))
          (sound.left some (subst (λ (s : S). g.is_honest s) (out.same placed) honest))
      rest_of false apart honest =
          leaves_same g mid _ _ _
          (kept_is _ _ ((out.withdraws apart).withdrawn honest)
          ∙ sound.follows some refl (out.trust.honest honest))
          none ((out.withdraws apart).rest honest)

  -- ---- nothing is stored

  -- what a stop leaves of the inner store while some records are ahead
  inner_of : (failing : Bool) (leaves : (List Entry → Type 0) → Type 0) (base ahead : List Entry)
      → 0 < length ahead → leaves (IsInside failing base ahead) → LeavesInner leaves base ahead
  inner_of false leaves base ahead some left = inl left
  inner_of true leaves base ahead some left = inr (some, left)

  -- a record is out of place while some are ahead
  pub refuses-out : (store start : S) (base ahead : List Entry) (failing spent : Bool)
      (failures pos next : ℕ) (entry : Entry)
      → IsSound g (seen g store start base ahead failing spent failures)
      → 0 < length ahead
      → IsCountedOver g (seen g store start base ahead failing spent failures)
      → next ≡ next_place g (seen g store start base ahead failing spent failures)
      → is_out_of_place (needs_retrieve g (seen g store start base ahead failing spent failures))
      (next_place g (seen g store start base ahead failing spent failures)) pos ≡ true
      → Keeps (ghosts_over g) (seen g store start base ahead failing spent failures)
      (record { node = 0; pos = pos; entry = entry }) (Err (fault.Place next))
      (seen g store start base ahead failing spent failures)
  refuses-out store start base [] failing spent failures pos next entry sound some counted is out =
      absurd (omega arith)
  refuses-out store start base (head ∷ tail) failing spent failures pos next entry sound some counted
      is out =
      record {
        answers = rw (out, is) refl;
        placed = rw (out, is) refl;
        same = λ it. refl;
        counted = counted;
        appended = λ honest. record { stored = tt; failed = refl };
        doubted = record {
          clear = tt;
          doubtful = λ apart. absurd (clash true apart refl);
          doubt = λ apart. absurd (clash true apart refl);
        };
        stop = λ honest clean. inr (
          inner_of failing (g.leaves_only store) base (head ∷ tail) some (sound.left some honest),
          inl (base_held base _ (sound.sure some)),
        );
        rest = λ honest. inr (
          inner_of failing (g.leaves_only store) base (head ∷ tail) some (sound.left some honest),
          base_held base _ (sound.sure some),
        );
        counts = record { device = λ e. absurd (place_device next e); grows = omega arith };
        trust = still_trust _ _ _;
        ahead = inr (inr (inr (record { fails = refl; keeps = record { ahead = refl; base = refl } })));
      }

  -- several records are out of place while some are ahead
  pub refuses-misplaced : (store start : S) (base ahead : List Entry) (failing spent : Bool)
      (failures pos next : ℕ) (entries : List Entry)
      → IsSound g (seen g store start base ahead failing spent failures)
      → 0 < length ahead
      → IsCountedOver g (seen g store start base ahead failing spent failures)
      → next ≡ next_place g (seen g store start base ahead failing spent failures)
      → is_misplaced (needs_retrieve g (seen g store start base ahead failing spent failures))
      (next_place g (seen g store start base ahead failing spent failures)) pos entries ≡ true
      → KeepsAll (ghosts_over g) (seen g store start base ahead failing spent failures) pos entries
      (Err (fault.Place next)) (seen g store start base ahead failing spent failures)
  refuses-misplaced store start base [] failing spent failures pos next entries sound some counted is
      out =
      absurd (omega arith)
  refuses-misplaced store start base (head ∷ tail) failing spent failures pos next entries sound some
      counted is out =
      record {
        placed = rw (out, is) refl;
        same = λ it. refl;
        nothing = λ empty place. absurd (clash _ place
            (subst (λ (es : List Entry). is_misplaced spent
            (next_place g (seen g store start base (head ∷ tail) failing spent failures)) pos es ≡ true)
            empty out));
        counted = counted;
        appended = λ honest. record { stored = tt; failed = refl };
        doubted = record {
          clear = tt;
          doubtful = λ apart. absurd (clash true apart refl);
          none = λ apart. absurd (clash true apart refl);
        };
        moved = record { stored = tt; failed = refl };
        stop = λ honest clean. inr (
          inner_of failing (g.leaves_only store) base (head ∷ tail) some (sound.left some honest),
          inl (base_held base _ (sound.sure some)),
        );
        rest = λ honest. inr (
          inner_of failing (g.leaves_only store) base (head ∷ tail) some (sound.left some honest),
          base_held base _ (sound.sure some),
        );
        counts = record { device = λ e. absurd (place_device next e); grows = omega arith };
        trust = still_trust _ _ _;
        ahead = record { keeps = record { ahead = refl; base = refl }; fails = λ more any. tt };
      }

  -- an empty list is stored in place, and some records are ahead
  pub stores-none : (store start : S) (base ahead : List Entry) (failing spent : Bool)
      (failures pos : ℕ) (entries : List Entry)
      → IsSound g (seen g store start base ahead failing spent failures)
      → 0 < length ahead
      → IsCountedOver g (seen g store start base ahead failing spent failures)
      → is_misplaced (needs_retrieve g (seen g store start base ahead failing spent failures))
      (next_place g (seen g store start base ahead failing spent failures)) pos entries ≡ false
      → entries ≡ []
      → KeepsAll (ghosts_over g) (seen g store start base ahead failing spent failures) pos entries
      (Ok tt) (seen g store start base ahead failing spent failures)
  stores-none store start base [] failing spent failures pos entries sound some counted place none =
      absurd (omega arith)
  stores-none store start base (head ∷ tail) failing true failures pos entries sound some counted place
      none =
      absurd (clash true place refl)
  stores-none store start base (head ∷ tail) failing false failures pos entries sound some counted
      place none =
      subst (λ (es : List Entry). KeepsAll (ghosts_over g)
      (seen g store start base (head ∷ tail) failing false failures) pos es (Ok tt)
      (seen g store start base (head ∷ tail) failing false failures)) (sym none) (record {
        placed = subst (λ (b : Bool). IsPlaced {A = Unit {0}} b
            (next_place g (seen g store start base (head ∷ tail) failing false failures)) (Ok tt))
            (sym (subst (λ (es : List Entry). is_misplaced false
            (next_place g (seen g store start base (head ∷ tail) failing false failures)) pos es
            ≡ false) none place)) tt;
        same = λ it. refl;
        nothing = λ empty in_place. (refl, refl);
        counted = counted;
        appended = λ honest. record { stored = sym (append-nil base); failed = tt };
        doubted = record { clear = (refl, sound.sure some); doubtful = tt; none = tt };
        moved = record { stored = omega arith; failed = tt };
        stop = λ honest clean. inr (
          inner_of failing (g.leaves_only store) base (head ∷ tail) some (sound.left some honest),
          inl (base_held base _ (sound.sure some)),
        );
        rest = λ honest. inr (
          inner_of failing (g.leaves_only store) base (head ∷ tail) some (sound.left some honest),
          base_held base _ (sound.sure some),
        );
        counts = record { device = λ e. absurd (ok_device e); grows = omega arith };
        trust = record {
          clean = λ clean. clean;
          honest = λ honest. honest;
          alive = λ honest clean. honest;
          shut = λ honest clean. inl honest;
        };
        ahead = record {
          keeps = record { ahead = refl; base = refl };
          fails = λ more any. absurd (omega arith);
        };
      })

  -- several records aren't stored while some are ahead
  pub refuses-several : (store start : S) (base ahead : List Entry) (failing spent : Bool)
      (failures pos : ℕ) (entries : List Entry)
      → IsSound g (seen g store start base ahead failing spent failures)
      → 0 < length ahead
      → IsCountedOver g (seen g store start base ahead failing spent failures)
      → is_misplaced (needs_retrieve g (seen g store start base ahead failing spent failures))
      (next_place g (seen g store start base ahead failing spent failures)) pos entries ≡ false
      → ¬ (entries ≡ [])
      → KeepsAll (ghosts_over g) (seen g store start base ahead failing spent failures) pos entries
      (Err (fault_after failures))
      (seen g store start base ahead failing true (failures_after failures))
  refuses-several store start base [] failing spent failures pos entries sound some counted place any =
      absurd (omega arith)
  refuses-several store start base (head ∷ tail) failing spent failures pos entries sound some counted
      place any =
      record {
        placed = fault_placed _ _ failures place;
        same = λ it. absurd (clash _ place it);
        nothing = λ none. absurd (any none);
        counted = counted;
        appended = λ honest. record { stored = tt; failed = refl };
        doubted = record {
          clear = tt;
          doubtful = λ apart. refl;
          none = λ apart. sound.sure some;
        };
        moved = record { stored = tt; failed = refl };
        stop = λ honest clean. inr (
          inner_of failing (g.leaves_only store) base (head ∷ tail) some (sound.left some honest),
          inl (base_held base _ (sound.sure some)),
        );
        rest = λ honest. inr (
          inner_of failing (g.leaves_only store) base (head ∷ tail) some (sound.left some honest),
          base_held base _ (sound.sure some),
        );
        counts = more_counts _ _ failures (omega arith);
        trust = still_trust _ _ _;
        ahead = record { keeps = record { ahead = refl; base = refl }; fails = λ more some. tt };
      }
