-- What a store that was asked to hold records ahead promises. The inner store has kept them
-- (`held-tail`), or some are ahead already (`refused-tail`). What a store promises that gives out the
-- first record ahead (`takes-first`).
use Rattle.urb_stable.proofs.Common.{Bool, Entry, Err, IsContents, List, None, Ok, Option, Result}
use Rattle.urb_stable.proofs.Common.{Some, [], append-nil, append_assoc, arith, false, inl, inr, length}
use Rattle.urb_stable.proofs.Common.{not, refl, slice_get, subst, sym, true, ℕ, ◌++◌, ◌+◌, ◌-◌, ◌<◌, ◌||◌}
use Rattle.urb_stable.proofs.Common.{◌∙◌, ◌∷◌, ◌≡◌}
use Rattle.urb_stable.proofs.AheadStores.{base_held, clash, leaves_same, more_failures, seen}
use Rattle.urb_stable.specs.AheadStores.{AheadView, AnswersFirst, IsSound, ghosts_over}
use Rattle.urb_stable.specs.AheadStores.{given_out, may_hold, needs_retrieve, next_place}
use Rattle.urb_stable.specs.KeptDrafts.{Keeps, KeepsAll}
use Rattle.urb_stable.specs.KeptTails.{KeepsTail}
use Rattle.urb_stable.specs.RecordsAhead.{IsHoldRefused}
use Rattle.urb_stable.specs.StableStorage.{IsPlaced, is_out_of_place}
use Rattle.urb_stable.specs.StoredTogether.{is_misplaced}
use Rattle.urb_stable.specs.declared.stable.Stable.{Ghosts}
use Rattle.urb_stable.specs.declared.stable.StoreFault.{StoreFault}
use Rattle.urb_stable.specs.declared.stable.StoreFault.TheVariants as fault
use Rattle.urb_stable.specs.internal.AheadCalls.{IsCountedOver, once_taken_ahead}

-- a call that was answered Ok wasn't out of place
ok_placed : (misplaced : Bool) (next : ℕ) → IsPlaced {A = Unit {0}} misplaced next (Ok tt)
    → misplaced ≡ false
ok_placed false next placed = refl
ok_placed true next placed = absurd (differ placed)
  where
    differ : ◌≡◌ {A = Result (Unit {0}) StoreFault} (Ok tt) (Err (fault.Place next)) → ⊥
    differ e = cc

-- so nothing was in doubt
not_doubtful : (doubtful rest : Bool) → (doubtful || rest) ≡ false → doubtful ≡ false
not_doubtful false rest e = refl
not_doubtful true rest e = absurd (clash true e refl)

-- the base is what the storage holds, if some records are ahead
given_base : (certain base ahead : List Entry) (doubt : Option Entry) → 0 < length ahead
    → IsContents (given_out certain base ahead) doubt base
given_base certain base [] doubt some = absurd (omega arith)
given_base certain base (first ∷ rest) None some = refl
given_base certain base (first ∷ rest) (Some entry) some = inl refl

-- records are refused exactly if they would be out of place
pub hold_placed : (misplaced : Bool) (next : ℕ) (answer : Result (Unit {0}) StoreFault)
    → IsPlaced misplaced next answer → IsHoldRefused (not misplaced) answer
hold_placed true next (Ok done) placed = absurd (ok_place done next placed)
  where
    ok_place : (done : Unit {0}) (next : ℕ)
        → ◌≡◌ {A = Result (Unit {0}) StoreFault} (Ok done) (Err (fault.Place next)) → ⊥
    ok_place done next e = cc
hold_placed true next (Err e) placed = rw (same e placed) refl
  where
    same : (e : StoreFault) → ◌≡◌ {A = Result (Unit {0}) StoreFault} (Err e) (Err (fault.Place next))
        → e ≡ fault.Place next
    same e h = cc
hold_placed false next (Ok done) placed = tt
hold_placed false next (Err e) placed = placed.0

-- they are refused if some are ahead already
held_already : (ahead : List Entry) (misplaced : Bool) (at : ℕ) → 0 < length ahead
    → IsHoldRefused (may_hold ahead misplaced) (Err (fault.Place at))
held_already [] misplaced at some = absurd (omega arith)
held_already (head ∷ tail) misplaced at some = refl

-- a place isn't a failure of the device
pub place_device : (at : ℕ)
    → ◌≡◌ {A = Result (Unit {0}) StoreFault} (Err (fault.Place at)) (Err fault.Device) → ⊥
place_device at e = cc

-- a list of no length is empty
pub no_records : (records : List Entry) → length records ≡ 0 → records ≡ []
no_records [] none = refl
no_records (first ∷ rest) none = absurd (omega arith)

-- what a store in place answers to the first record ahead
answers_first : (out : Bool) (next failures : ℕ) (head : Entry) → out ≡ false
    → AnswersFirst out false next failures head head (Ok tt)
answers_first false next failures head place = inl (refl, refl)
answers_first true next failures head place = absurd (clash true place refl)

-- so it isn't out of place
placed_first : (out : Bool) (next : ℕ) → out ≡ false → IsPlaced {A = Unit {0}} out next (Ok tt)
placed_first false next place = tt
placed_first true next place = absurd (clash true place refl)

-- Ok isn't a failure of the device
pub ok_device : ◌≡◌ {A = Result (Unit {0}) StoreFault} (Ok tt) (Err fault.Device) → ⊥
ok_device e = cc

-- storage without a doubtful record holds its certain records
contents_same : (certain records : List Entry) (doubt : Option Entry) → records ≡ certain
    → doubt ≡ None → IsContents certain doubt records
contents_same certain records doubt same none = rw none same

-- the first record of a list is one record
first_same : (head entry : Entry) (tail : List Entry) → slice_get (head ∷ tail) 0 ≡ Some entry
    → head ≡ entry
first_same head entry tail get = cc

module _ {S A : Type 0} (g : Ghosts S A) where
  -- some records are ahead already
  pub refused-tail : (s : AheadView S) (entries : List Entry) (at : ℕ) → IsSound g s
      → 0 < length s.ahead
      → KeepsTail (ghosts_over g) s entries (Err (fault.Place at)) s
  refused-tail s entries at sound some =
      record {
        placed = held_already s.ahead
            (is_misplaced (g.is_doubtful s.store) (g.place s.store) (g.place s.store) entries) at some;
        still = record { place = refl; doubtful = refl; doubt = refl };
        certain = λ honest. refl;
        trust = record {
          clean = λ clean. clean;
          honest = λ honest. honest;
          alive = λ honest clean. honest;
        };
        counts = record { device = λ e. absurd (place_device at e); grows = omega arith };
        holds = refl;
      }

  -- the inner store has kept the records
  held : (store new start : S) (base : List Entry) (failing spent : Bool) (failures : ℕ)
      (entries : List Entry)
      → IsSound g (seen g store start base [] failing spent failures)
      → (g.is_doubtful store ≡ false → g.doubt store ≡ None)
      → KeepsAll g store (g.place store) entries (Ok tt) new
      → KeepsTail (ghosts_over g) (seen g store start base [] failing spent failures) entries (Ok tt)
      (seen g new store (g.certain store) entries failing spent failures)
  held store new start base true spent failures entries sound sure k =
      absurd (clash true (sound.failing refl) refl)
  held store new start base false true failures entries sound sure k =
      absurd (clash true (sound.spent refl) refl)
  held store new start base false false failures [] sound sure k =
      let settled = not_doubtful _ _ (ok_placed _ _ k.placed) in
      let moved : g.place new ≡ g.place store + length {A = Entry} [] = k.moved.stored in
      record {
        placed = hold_placed _ _ (Ok tt) k.placed;
        still = record {
          place = omega arith;
          doubtful = k.doubted.clear.0 ∙ sym settled;
          doubt = k.doubted.clear.1 ∙ sym (sure settled);
        };
        certain = λ honest. (k.appended honest).stored ∙ append-nil (g.certain store);
        trust = record {
          clean = k.trust.clean;
          honest = k.trust.honest;
          alive = k.trust.alive;
        };
        counts = more_failures _ _ failures (Ok tt) k.counts;
        holds = record {
          ahead = refl;
          base = λ honest. refl;
          rest = λ honest. inl (refl, k.rest honest);
        };
      }
  held store new start base false false failures (head ∷ tail) sound sure k =
      let settled = not_doubtful _ _ (ok_placed _ _ k.placed) in
      let moved : g.place new ≡ g.place store + length (head ∷ tail) = k.moved.stored in
      let some : 0 < length (head ∷ tail) = omega arith in
      record {
        placed = hold_placed _ _ (Ok tt) k.placed;
        still = record {
          place = omega arith;
          doubtful = sym settled;
          doubt = k.doubted.clear.1 ∙ sym (sure settled);
        };
        certain = λ honest. refl;
        trust = record {
          clean = k.trust.clean;
          honest = k.trust.honest;
          alive = k.trust.alive;
        };
        counts = more_failures _ _ failures (Ok tt) k.counts;
        holds = record {
          ahead = refl;
          base = λ honest. refl;
          rest = λ honest. inr (
            inl (leaves_same g new _ _ _ (k.appended honest).stored k.doubted.clear.1 (k.rest honest)),
            base_held (g.certain store) _ k.doubted.clear.1,
          );
        };
      }

  -- the same of a store with these parts
  pub held-tail : (store new start from : S) (base after left : List Entry) (failing spent : Bool)
      (failures : ℕ) (entries : List Entry)
      → IsSound g (seen g store start base [] failing spent failures)
      → (g.is_doubtful store ≡ false → g.doubt store ≡ None)
      → KeepsAll g store (g.place store) entries (Ok tt) new
      → from ≡ store → after ≡ g.certain store → left ≡ entries
      → KeepsTail (ghosts_over g) (seen g store start base [] failing spent failures) entries (Ok tt)
      (seen g new from after left failing spent failures)
  held-tail store new start from base after left failing spent failures entries sound sure k f a l =
      rw (f, a, l) (held store new start base failing spent failures entries sound sure k)

  -- the first record ahead is given out, and none are left
  takes-last : (store start : S) (base : List Entry) (failures pos : ℕ) (head : Entry)
      → IsSound g (seen g store start base (head ∷ []) false false failures)
      → (g.is_honest store → g.place store - length (head ∷ []) ≡ length base + 1)
      → is_out_of_place false (g.place store - length (head ∷ [])) pos ≡ false
      → Keeps (ghosts_over g) (seen g store start base (head ∷ []) false false failures)
      (record { node = 0; pos = pos; entry = head }) (Ok tt)
      (seen g store start (base ++ head ∷ []) [] false false failures)
  takes-last store start base failures pos head sound counted place =
      let some : 0 < length (head ∷ []) = omega arith in
      let none : g.doubt store ≡ None = sound.sure some in
      record {
        answers = answers_first (is_out_of_place false (g.place store - length (head ∷ [])) pos) _
            failures head place;
        placed = placed_first (is_out_of_place false (g.place store - length (head ∷ [])) pos) _
            place;
        same = λ out.
            absurd (clash (is_out_of_place false (g.place store - length (head ∷ [])) pos) place out);
        counted = counted;
        appended = λ honest. record { stored = sound.follows some refl honest; failed = tt };
        doubted = record { clear = (sound.settled some refl, none); doubtful = tt; doubt = tt };
        stop = λ honest clean. inr (
          inl (rw (append-nil (base ++ head ∷ [])) (sound.left some honest)),
          inr refl,
        );
        rest = λ honest. inr (
          inl (rw (append-nil (base ++ head ∷ [])) (sound.left some honest)),
          contents_same _ _ _ (sym (sound.follows some refl honest)) none,
        );
        counts = record { device = λ e. absurd (ok_device e); grows = omega arith };
        trust = record {
          clean = λ clean. clean;
          honest = λ honest. honest;
          alive = λ honest clean. honest;
          shut = λ honest clean. inl honest;
        };
        ahead = inl (record { first = refl; ok = refl; ahead = refl; base = refl });
      }

  -- the first record ahead is given out, and `next` comes after it
  takes-one : (store start : S) (base : List Entry) (failures pos : ℕ) (head next : Entry)
      (rest : List Entry)
      → IsSound g (seen g store start base (head ∷ next ∷ rest) false false failures)
      → (g.is_honest store → g.place store - length (head ∷ next ∷ rest) ≡ length base + 1)
      → is_out_of_place false (g.place store - length (head ∷ next ∷ rest)) pos ≡ false
      → Keeps (ghosts_over g) (seen g store start base (head ∷ next ∷ rest) false false failures)
      (record { node = 0; pos = pos; entry = head }) (Ok tt)
      (seen g store start (base ++ head ∷ []) (next ∷ rest) false false failures)
  takes-one store start base failures pos head next rest sound counted place =
      let some : 0 < length (head ∷ next ∷ rest) = omega arith in
      let none : g.doubt store ≡ None = sound.sure some in
      record {
        answers = answers_first
            (is_out_of_place false (g.place store - length (head ∷ next ∷ rest)) pos) _ failures
            head place;
        placed = placed_first
            (is_out_of_place false (g.place store - length (head ∷ next ∷ rest)) pos) _ place;
        same = λ out.
            absurd (clash (is_out_of_place false (g.place store - length (head ∷ next ∷ rest)) pos)
            place out);
        counted = counted;
        appended = λ honest. record { stored = refl; failed = tt };
        doubted = record { clear = (refl, none); doubtful = tt; doubt = tt };
        stop = λ honest clean. inr (
          inl (rw (append_assoc base (head ∷ []) (next ∷ rest)) (sound.left some honest)),
          inr refl,
        );
        rest = λ honest. inr (
          inl (rw (append_assoc base (head ∷ []) (next ∷ rest)) (sound.left some honest)),
          base_held (base ++ head ∷ []) _ none,
        );
        counts = record { device = λ e. absurd (ok_device e); grows = omega arith };
        trust = record {
          clean = λ clean. clean;
          honest = λ honest. honest;
          alive = λ honest clean. honest;
          shut = λ honest clean. inl honest;
        };
        ahead = inl (record { first = refl; ok = refl; ahead = refl; base = refl });
      }

  -- the first record ahead is given out
  pub takes-first : (store start : S) (base ahead : List Entry) (failing spent : Bool)
      (failures pos : ℕ) (entry : Entry)
      → IsSound g (seen g store start base ahead failing spent failures) → failing ≡ false
      → IsCountedOver g (seen g store start base ahead failing spent failures)
      → is_out_of_place (needs_retrieve g (seen g store start base ahead failing spent failures))
      (next_place g (seen g store start base ahead failing spent failures)) pos ≡ false
      → slice_get ahead 0 ≡ Some entry → 0 < length ahead
      → Keeps (ghosts_over g) (seen g store start base ahead failing spent failures)
      (record { node = 0; pos = pos; entry = entry }) (Ok tt)
      (once_taken_ahead (seen g store start base ahead failing spent failures))
  takes-first store start base [] failing spent failures pos entry sound held counted place get some =
      absurd (omega arith)
  takes-first store start base (head ∷ tail) true spent failures pos entry sound held counted place get
      some =
      absurd (clash true held refl)
  takes-first store start base (head ∷ tail) false true failures pos entry sound held counted place get
      some =
      absurd (clash true place refl)
  takes-first store start base (head ∷ []) false false failures pos entry sound held counted place get
      some =
      subst (λ (e : Entry). Keeps (ghosts_over g)
      (seen g store start base (head ∷ []) false false failures)
      (record { node = 0; pos = pos; entry = e }) (Ok tt)
      (seen g store start (base ++ head ∷ []) [] false false failures)) (first_same head entry [] get)
      (takes-last store start base failures pos head sound counted place)
  takes-first store start base (head ∷ next ∷ rest) false false failures pos entry sound held counted
      place get some =
      subst (λ (e : Entry). Keeps (ghosts_over g)
      (seen g store start base (head ∷ next ∷ rest) false false failures)
      (record { node = 0; pos = pos; entry = e }) (Ok tt)
      (seen g store start (base ++ head ∷ []) (next ∷ rest) false false failures))
      (first_same head entry (next ∷ rest) get)
      (takes-one store start base failures pos head next rest sound counted place)
