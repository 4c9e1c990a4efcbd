use Rattle.std.proofs.Common.{rules, true, length-append, ◌+◌, arith, ◌≡◌, ◌∙◌, sym, ap, refl, inl}
use Rattle.std.proofs.Common.{length, [], ◌∷◌, ◌++◌, Some}
use Rattle.urb_stable.specs.MemoryStores.{Memory, after_failure}
use Rattle.urb_stable.specs.internal.MemoryCalls.{with_record}
use Rattle.urb_stable.proofs.AppendedElements.{kept, doubtful_stop, certain_stop}
use Rattle.urb_stable.proofs.memory.MemStableStable.store.Goals as goal

-- the record is kept, in doubt
pub returns-then-eq-2-clause-stop : goal.returns-then-eq-2-clause-stop
returns-then-eq-2-clause-stop g c =
    let settled : c.self.inside.certain ≡ length c.self.inside.records.items =
    omega (arith, c.self.invariant.settled c.if-self.false, c.self.inside.records.ok.0) in
    let items : c.keep.new.records.items ≡ c.self.inside.records.items ++ c.args.entry.now ∷ [] =
    search rules in
    let k =
    kept c.self.inside.records.items c.args.entry.now c.self.inside.certain
    c.keep.new.records.items settled items in
    λ records h. rw (← c.self.view_is) (doubtful_stop _ _ _ _ k records h)

pub returns-then-eq-2-clause-exact : goal.returns-then-eq-2-clause-exact
returns-then-eq-2-clause-exact g c =
    let settled : c.self.inside.certain ≡ length c.self.inside.records.items =
    omega (arith, c.self.invariant.settled c.if-self.false, c.self.inside.records.ok.0) in
    let items : c.keep.new.records.items ≡ c.self.inside.records.items ++ c.args.entry.now ∷ [] =
    search rules in
    let k =
    kept c.self.inside.records.items c.args.entry.now c.self.inside.certain
    c.keep.new.records.items settled items in
    λ out. record {
      unarmed = search rules;
      keeps_nothing = search rules;
      keeps_it = λ q below. inl (
        refl,
        (λ i.
            record {
              certain = k.front i;
              doubt = k.here i;
              doubtful = true;
              failures =
                  c.self.inside.failures + 1;
              armed = c.take-armed.ensures.after i;
            })
            ∙ ap (after_failure (Some c.args.entry.now)) c.self.view_is,
      );
      uncounted = search rules;
    }

-- the record is kept for certain
pub invariant_of-self-2 : goal.invariant_of-self-2
invariant_of-self-2 g c =
    let settled : c.self.inside.certain ≡ length c.self.inside.records.items =
    omega (arith, c.self.invariant.settled c.if-self.false, c.self.inside.records.ok.0) in
    let items : c.keep.new.records.items ≡ c.self.inside.records.items ++ c.args.entry.now ∷ [] =
    search rules in
    let size : length c.keep.new.records.items ≡ c.self.inside.certain + 1 =
    rw (items, settled) (length-append c.self.inside.records.items (c.args.entry.now ∷ [])) in
    let k =
    kept c.self.inside.records.items c.args.entry.now c.self.inside.certain
    c.keep.new.records.items settled items in
    let front : length c.args.self.now.certain ≡ c.self.inside.certain =
    ap (λ (m : Memory). length m.certain) (sym c.self.view_is) ∙ ap length k.before
    ∙ sym settled in
    let next : c.next-next.result ≡ c.self.inside.certain + 1 =
    c.next-next.ensures.value ∙ ap (λ n. n + 1) front in
    record {
      below = omega (arith, size, c.keep.new.records.ok.0);
      one = omega (arith, size, c.keep.new.records.ok.0);
      settled = λ h. omega (arith, size, c.keep.new.records.ok.0);
      count = omega (arith, size, c.keep.new.records.ok.0, next, c.if-next.false);
    }

pub returns-clause-doubted : goal.returns-clause-doubted
returns-clause-doubted g c =
    let settled : c.self.inside.certain ≡ length c.self.inside.records.items =
    omega (arith, c.self.invariant.settled c.if-self.false, c.self.inside.records.ok.0) in
    let items : c.keep.new.records.items ≡ c.self.inside.records.items ++ c.args.entry.now ∷ [] =
    search rules in
    let k =
    kept c.self.inside.records.items c.args.entry.now c.self.inside.certain
    c.keep.new.records.items settled items in
    record { clear = (c.if-self.false, k.past); doubtful = tt; doubt = tt }

pub returns-clause-stop : goal.returns-clause-stop
returns-clause-stop g c =
    let settled : c.self.inside.certain ≡ length c.self.inside.records.items =
    omega (arith, c.self.invariant.settled c.if-self.false, c.self.inside.records.ok.0) in
    let items : c.keep.new.records.items ≡ c.self.inside.records.items ++ c.args.entry.now ∷ [] =
    search rules in
    let k =
    kept c.self.inside.records.items c.args.entry.now c.self.inside.certain
    c.keep.new.records.items settled items in
    λ records h. rw (← c.self.view_is) (certain_stop _ _ _ _ k records h)

pub returns-clause-exact : goal.returns-clause-exact
returns-clause-exact g c =
    let settled : c.self.inside.certain ≡ length c.self.inside.records.items =
    omega (arith, c.self.invariant.settled c.if-self.false, c.self.inside.records.ok.0) in
    let items : c.keep.new.records.items ≡ c.self.inside.records.items ++ c.args.entry.now ∷ [] =
    search rules in
    let k =
    kept c.self.inside.records.items c.args.entry.now c.self.inside.certain
    c.keep.new.records.items settled items in
    λ p. record {
      unarmed = λ q.
          let armed =
          c.take-armed.ensures.after ∙ sym q ∙ sym (ap (λ (m : Memory). m.armed) c.self.view_is) in
          let doubt = k.past ∙ sym k.nothing in
          inl (
            refl,
            (λ i. record {
              certain = k.all i;
              doubt = doubt i;
              doubtful =
                  c.self.inside.doubtful;
              failures = c.self.inside.failures;
              armed = armed i;
            })
                ∙ ap (with_record c.args.entry.now) c.self.view_is,
          );
      keeps_nothing = search rules;
      keeps_it = search rules;
      uncounted = search rules;
    }
