-- A retrieve of a store that may hold records ahead keeps the promises of every store, if that of the
-- inner store does. If none are ahead, it is that of the inner store (`gives-inside`). Else it gives
-- the records before those ahead (`gives-less`), or the fault of the inner store (`fails-less`). If
-- the inner store failed to keep those ahead, it gives the records from before (`gives-failed`), or
-- the fault (`fails-failed`).
use Rattle.urb_stable.proofs.Common.{Bool, Entry, Err, IsContents, List, None, Ok, Option, Result, []}
use Rattle.urb_stable.proofs.Common.{ap, append-nil, arith, false, inl, inr, length, length-append}
use Rattle.urb_stable.proofs.Common.{refl, subst, sym, take, true, ℕ, ◌++◌, ◌+◌, ◌-◌, ◌<◌, ◌∙◌, ◌∷◌, ◌≡◌}
use Rattle.urb_stable.proofs.Common.{◌⊎◌}
use Rattle.std.proofs.Math.Seq.{take-append_seam}
use Rattle.urb_stable.specs.AheadStores.{AheadView, IsSound, LeavesInner, LeavesLess, ghosts_over}
use Rattle.urb_stable.specs.RetrievedRecords.{Gives}
use Rattle.urb_stable.specs.StableStorage.{CountsFailures, KeepsTrust}
use Rattle.urb_stable.specs.StoredTogether.{IsContentsOrAll, LeavesNoMore}
use Rattle.urb_stable.specs.declared.stable.Stable.{Ghosts}
use Rattle.urb_stable.specs.declared.stable.StoreFault.{StoreFault}
use Rattle.urb_stable.specs.declared.stable.StoreFault.TheVariants as fault

-- a truth value isn't both
pub clash : (b : Bool) → b ≡ false → b ≡ true → ⊥
clash b is_false is_true = cc

-- the failures of this store come on top of those of its inner store
pub more_failures : {X : Type 0} (old new more : ℕ) (answer : Result X StoreFault)
    → CountsFailures old new answer → CountsFailures (old + more) (new + more) answer
more_failures old new more answer k =
    record {
      device = λ e. let rises : old < new = k.device e in omega arith;
      grows = let no_less = k.grows in omega arith;
    }

-- a stop leaves the same of the inner store while records are ahead, if it leaves no more
inner_lasts : (before after : (List Entry → Type 0) → Type 0) (base ahead : List Entry)
    → LeavesNoMore before after → LeavesInner before base ahead → LeavesInner after base ahead
inner_lasts before after base ahead lasts (inl whole) =
    inl (lasts.contents (base ++ ahead) None whole)
inner_lasts before after base ahead lasts (inr (some, either)) =
    inr (some, lasts.together ahead base None either)

-- a stop leaves no more of the store if it leaves no more of the inner store
less_lasts : (before after : (List Entry → Type 0) → Type 0) (base ahead : List Entry)
    → LeavesNoMore before after
    → LeavesNoMore (LeavesLess before base ahead) (LeavesLess after base ahead)
less_lasts before after base ahead lasts =
    record {
      contents = λ certain doubt leaves.
          elim leaves [
            | inl none ↦ inl (none.0, lasts.contents certain doubt none.1)
            | inr some ↦ inr (inner_lasts before after base ahead lasts some.0, some.1)
          ];
      together = λ entries certain doubt leaves.
          elim leaves [
            | inl none ↦ inl (none.0, lasts.together entries certain doubt none.1)
            | inr some ↦ inr (inner_lasts before after base ahead lasts some.0, some.1)
          ];
    }

-- a stop leaves just the base of the inner store, and so of a store with no records ahead
base_left : (before after : (List Entry → Type 0) → Type 0) (base : List Entry) (head : Entry)
    (tail : List Entry) → after (IsContents (base ++ []) None)
    → LeavesNoMore (LeavesLess before base (head ∷ tail)) (LeavesLess after base [])
base_left before after base head tail left =
    record {
      contents = λ certain doubt leaves. some (IsContents certain doubt) leaves;
      together = λ entries certain doubt leaves. some (IsContentsOrAll entries certain doubt) leaves;
    }
  where
    some : (P : List Entry → Type 0) → LeavesLess before base (head ∷ tail) P
        → LeavesLess after base [] P
    some P (inl none) = absurd (let e = none.0 in cc)
    some P (inr held) = inr (inl left, held.1)

-- Ok isn't a failure of the device
ok_device : {X : Type 0} (given : X) → ◌≡◌ {A = Result X StoreFault} (Ok given) (Err fault.Device) → ⊥
ok_device given e = cc

-- the trust in a storage after Ok doesn't depend on what it gave
ok_trust : {X Y : Type 0} {x : X} {y : Y} (was_clean was_honest is_clean is_honest is_shut : Type 0)
    → KeepsTrust was_clean was_honest is_clean is_honest is_shut (Ok x)
    → KeepsTrust was_clean was_honest is_clean is_honest is_shut (Ok y)
ok_trust was_clean was_honest is_clean is_honest is_shut k =
    record { clean = k.clean; honest = k.honest; alive = k.alive; shut = k.shut }

-- the base is what storage without a doubtful record may hold
pub base_held : (base : List Entry) (doubt : Option Entry) → doubt ≡ None → IsContents base doubt base
base_held base doubt none = rw none refl

-- what storage without a doubtful record holds is its certain records
no_doubt : (certain : List Entry) (doubt : Option Entry) (records : List Entry) → doubt ≡ None
    → IsContents certain doubt records → records ≡ certain
no_doubt certain doubt records none h = rw none at h

-- a list without the records ahead
front : (base ahead records : List Entry) → records ≡ base ++ ahead
    → take (length records - length ahead) records ≡ base
front base ahead records all =
    let size : length records - length ahead ≡ length base =
    omega (arith, ap length all, length-append base ahead) in
    rw (size, all) (take-append_seam base ahead)

module _ {S A : Type 0} (g : Ghosts S A) where
  abbrev pub seen : (store start : S) (base ahead : List Entry) → Bool → Bool → ℕ → AheadView S
  seen store start base ahead failing spent failures = record {
    store = store;
    start = start;
    base = base;
    ahead = ahead;
    failing = failing;
    spent = spent;
    failures = failures;
  }

  -- what a stop leaves, said of equal certain records
  pub leaves_same : (store : S) (certain same : List Entry) (doubt : Option Entry) → certain ≡ same
      → doubt ≡ None → g.leaves_only store (IsContents certain doubt)
      → g.leaves_only store (IsContents same None)
  leaves_same store certain same doubt e none leaves =
      subst (λ (d : Option Entry). g.leaves_only store (IsContents same d)) none
      (subst (λ (c : List Entry). g.leaves_only store (IsContents c doubt)) e leaves)

  -- no records are ahead
  pub gives-inside : (store new start : S) (base ahead : List Entry) (failing spent : Bool) (failures : ℕ)
      (answer : Result (List Entry) StoreFault)
      → IsSound g (seen store start base ahead failing spent failures) → length ahead ≡ 0
      → Gives g store answer new
      → Gives (ghosts_over g) (seen store start base ahead failing spent failures) answer
      (seen new start base ahead failing spent failures)
  gives-inside store new start base [] false spent failures answer sound none k =
      record {
        answers = k.answers;
        retrieved = k.retrieved;
        settled = k.settled;
        allowed = k.allowed;
        stop = λ honest clean. inl (refl, k.stop honest clean);
        rest = λ honest. inl (refl, k.rest honest);
        counts = more_failures _ _ failures answer k.counts;
        trust = k.trust;
        refuses = k.refuses;
        lasts = λ clean was. less_lasts _ _ base [] (k.lasts clean was);
        ahead = inl (record { ahead = refl; base = refl });
      }
  gives-inside store new start base [] true spent failures answer sound none k =
      absurd (clash true (sound.failing refl) refl)
  gives-inside store new start base (head ∷ tail) failing spent failures answer sound none k =
      absurd (omega arith)

  -- some records are ahead, and the inner store gives its records
  pub gives-less : (store new start : S) (base ahead : List Entry) (failing spent : Bool) (failures : ℕ)
      (records : List Entry)
      → IsSound g (seen store start base ahead failing spent failures) → 0 < length ahead
      → failing ≡ false
      → Gives g store (Ok records) new
      → Gives (ghosts_over g) (seen store start base ahead failing spent failures)
      (Ok (take (length records - length ahead) records))
      (seen new start base ahead failing false failures)
  gives-less store new start base [] failing spent failures records sound some held k =
      absurd (omega arith)
  gives-less store new start base (head ∷ tail) true spent failures records sound some held k =
      absurd (clash true held refl)
  gives-less store new start base (head ∷ tail) false spent failures records sound some held k =
      let sure = sound.sure some in
      let whole : g.is_honest new → records ≡ base ++ head ∷ tail =
      λ honest. no_doubt _ _ records sure (k.retrieved honest).given.1
      ∙ sound.follows some refl (k.trust.honest honest) in
      record {
        answers = (Ok records, k.answers, refl);
        retrieved = λ honest.
            let cut = front base (head ∷ tail) records (whole honest) in
            record { given = (sym cut, rw sure cut); failed = tt };
        settled = record { clear = (refl, k.settled.clear.1); kept = tt };
        allowed = record { faults = tt; sound = λ was clean. tt };
        stop = λ honest clean. inr (
          inl (leaves_same new _ _ _ (sound.follows some refl honest) sure (k.stop honest clean)),
          base_held base _ sure,
        );
        rest = λ honest. inr (
          inl (leaves_same new _ _ _ ((k.retrieved honest).given.0 ∙ whole honest)
              k.settled.clear.1 (k.rest honest)),
          base_held base _ k.settled.clear.1,
        );
        counts = record {
          device = λ e. absurd (ok_device _ e);
          grows = let no_less = k.counts.grows in omega arith;
        };
        trust = ok_trust _ _ _ _ _ k.trust;
        refuses = λ shut clean. absurd (k.refuses shut clean).0;
        lasts = λ clean was. less_lasts _ _ base (head ∷ tail) (k.lasts clean was);
        ahead = inl (record { ahead = refl; base = refl });
      }

  -- some records are ahead, and the inner store fails
  pub fails-less : (store new start : S) (base ahead : List Entry) (failing spent : Bool) (failures : ℕ)
      (e : StoreFault)
      → IsSound g (seen store start base ahead failing spent failures) → 0 < length ahead
      → failing ≡ false
      → Gives g store (Err e) new
      → Gives (ghosts_over g) (seen store start base ahead failing spent failures) (Err e)
      (seen new start base ahead failing spent failures)
  fails-less store new start base [] failing spent failures e sound some held k =
      absurd (omega arith)
  fails-less store new start base (head ∷ tail) true spent failures e sound some held k =
      absurd (clash true held refl)
  fails-less store new start base (head ∷ tail) false spent failures e sound some held k =
      let sure = sound.sure some in
      let none = k.settled.kept.1 ∙ sure in
      record {
        answers = (Err e, k.answers, refl);
        retrieved = λ honest. record { given = tt; failed = refl };
        settled = record {
          clear = tt;
          kept = (
            refl,
            k.settled.kept.1,
            ap (λ (n : ℕ). n - length (head ∷ tail)) k.settled.kept.2,
          );
        };
        allowed = k.allowed;
        stop = λ honest clean. inr (
          inl (leaves_same new _ _ _ (sound.follows some refl honest) sure (k.stop honest clean)),
          base_held base _ sure,
        );
        rest = λ honest. inr (
          inl (leaves_same new _ _ _ ((k.retrieved honest).failed
              ∙ sound.follows some refl (k.trust.honest honest)) none (k.rest honest)),
          base_held base _ none,
        );
        counts = more_failures _ _ failures (Err e) k.counts;
        trust = k.trust;
        refuses = k.refuses;
        lasts = λ clean was. less_lasts _ _ base (head ∷ tail) (k.lasts clean was);
        ahead = inl (record { ahead = refl; base = refl });
      }

  -- a store that failed to keep the records ahead was honest, and its inner one is, or is shut
  known : (s : AheadView S) → IsSound g s → s.failing ≡ true
      → (ghosts_over g).is_honest s ⊎ (ghosts_over g).is_shut s
      → g.is_honest s.store ⊎ g.is_shut s.store
  known s sound failing (inl honest) =
      let it = rw failing at honest in
      sound.alive failing it.0 it.1
  known s sound failing (inr shut) = inr shut

  -- the inner store had failed to keep the records ahead, and gives its records
  pub gives-failed : (store new start : S) (base ahead : List Entry) (failing spent : Bool)
      (failures : ℕ) (records : List Entry)
      → IsSound g (seen store start base ahead failing spent failures) → 0 < length ahead
      → failing ≡ true → (g.is_honest store → g.is_clean store)
      → Gives g store (Ok records) new
      → Gives (ghosts_over g) (seen store start base ahead failing spent failures) (Ok records)
      (seen new start base [] false false failures)
  gives-failed store new start base [] failing spent failures records sound some failed whole k =
      absurd (omega arith)
  gives-failed store new start base (head ∷ tail) false spent failures records sound some failed
      whole k =
      absurd (clash false refl failed)
  gives-failed store new start base (head ∷ tail) true spent failures records sound some failed
      whole k =
      record {
        answers = k.answers;
        retrieved = λ honest.
            let base_is = sound.failed refl (k.trust.honest honest) in
            record {
              given = (
                (k.retrieved honest).given.0,
                subst (λ (c : List Entry). IsContents c (g.doubt store) records) base_is
                    (k.retrieved honest).given.1,
              );
              failed = tt;
            };
        settled = record { clear = k.settled.clear; kept = tt };
        allowed = record { faults = tt; sound = λ was clean. tt };
        stop = λ honest clean.
            let was = honest_before clean (inl honest) in
            inl (
              refl,
              subst (λ (c : List Entry). g.leaves_only new (IsContents c (g.doubt store)))
                  (sound.failed refl was) (k.stop was clean),
            );
        rest = λ honest. inl (refl, k.rest honest);
        counts = more_failures _ _ failures (Ok records) k.counts;
        trust = record {
          clean = k.trust.clean;
          honest = λ honest.
              let was = k.trust.honest honest in
              (sound.began refl was, whole was);
          alive = λ honest clean. k.trust.alive (honest_before clean (inl honest)) clean;
          shut = λ honest clean. inl (k.trust.alive (honest_before clean (inl honest)) clean);
        };
        refuses = λ shut clean. absurd (k.refuses shut clean).0;
        lasts = λ clean was.
            let before = honest_before clean was in
            let after = k.trust.alive before clean in
            base_left _ _ base head tail (leaves_same new _ _ _
            ((k.retrieved after).given.0
            ∙ (no_doubt _ _ records sure (k.retrieved after).given.1
            ∙ (sound.failed refl before ∙ sym (append-nil base))))
            k.settled.clear.1 (k.rest after));
        ahead = inr refl;
      }
    where
      before : AheadView S
      before = seen store start base (head ∷ tail) true spent failures

      sure : g.doubt store ≡ None
      sure = sound.sure some

      honest_before : g.is_clean new
          → (ghosts_over g).is_honest before ⊎ (ghosts_over g).is_shut before → g.is_honest store
      honest_before clean was =
          elim (known before sound refl was) [
            | inl honest ↦ honest
            | inr shut ↦ absurd (k.refuses shut clean).0
          ]

  -- the inner store had failed to keep the records ahead, and fails again
  pub fails-failed : (store new start : S) (base ahead : List Entry) (failing spent : Bool)
      (failures : ℕ) (e : StoreFault)
      → IsSound g (seen store start base ahead failing spent failures) → 0 < length ahead
      → failing ≡ true
      → Gives g store (Err e) new
      → Gives (ghosts_over g) (seen store start base ahead failing spent failures) (Err e)
      (seen new start base ahead failing spent failures)
  fails-failed store new start base [] failing spent failures e sound some failed k =
      absurd (omega arith)
  fails-failed store new start base (head ∷ tail) false spent failures e sound some failed k =
      absurd (clash false refl failed)
  fails-failed store new start base (head ∷ tail) true spent failures e sound some failed k =
      record {
        answers = k.answers;
        retrieved = λ honest. record { given = tt; failed = refl };
        settled = record { clear = tt; kept = (refl, k.settled.kept.1, k.settled.kept.2) };
        allowed = record {
          faults = (
            k.allowed.faults.0,
            λ honest. k.allowed.sound
                (known before sound refl (inl (honest.0, k.trust.clean honest.1))) honest.1,
          );
          sound = λ was clean. k.allowed.sound (known before sound refl was) clean;
        };
        stop = λ honest clean. inr (inr (some, either clean honest), base_held base _ sure);
        rest = λ honest. inr (
          inr (some, either honest.1 (honest.0, k.trust.clean honest.1)),
          base_held base _ (k.settled.kept.1 ∙ sure),
        );
        counts = more_failures _ _ failures (Err e) k.counts;
        trust = record {
          clean = k.trust.clean;
          honest = λ honest. (honest.0, k.trust.clean honest.1);
          alive = tt;
          shut = λ honest clean. inl (honest.0, clean);
        };
        refuses = k.refuses;
        lasts = λ clean was.
            less_lasts _ _ base (head ∷ tail) (k.lasts clean (known before sound refl was));
        ahead = inl (record { ahead = refl; base = refl });
      }
    where
      before : AheadView S
      before = seen store start base (head ∷ tail) true spent failures

      sure : g.doubt store ≡ None
      sure = sound.sure some

      either : g.is_clean new → (ghosts_over g).is_honest before
          → g.leaves_only new (IsContentsOrAll (head ∷ tail) base None)
      either clean honest =
          (k.lasts clean (known before sound refl (inl honest))).together (head ∷ tail) base None
          (sound.left some honest)
