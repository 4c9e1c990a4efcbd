use Rattle.urb_turn.proofs.Common.{Event, List, arith, length, refl, rules, subst, ◌≡◌}
use Rattle.urb_turn.specs.internal.LoanEnds.{IsNextLoan}
use Rattle.urb_turn.proofs.HeldTails.{held_since}
use Rattle.urb_turn.proofs.hub.Hub.keep_ahead.Goals as goal

-- the store was not asked
pub returns-then-len-lt-LEAST_AHEAD-clause-prepares :
    goal.returns-then-len-lt-LEAST_AHEAD-clause-prepares
returns-then-len-lt-LEAST_AHEAD-clause-prepares g c =
    let len : c.len.result ≡ length c.foresee-records.result.0.items = search rules in
    record {
      past = c.deref.result.now.house.past;
      group = c.deref.result.now.house.group;
      leads = c.foresee-records.ensures.leads;
      holds = record {
        records = c.foresee-records.result.0.items;
        foreseen = c.foresee-records.ensures.foreseen;
        few = λ h. refl;
        enough = λ h. absurd (omega (arith, len, h));
      };
    }

-- the store was asked
pub returns-clause-prepares : goal.returns-clause-prepares
returns-clause-prepares g c =
    let len : c.len.result ≡ length c.foresee-records.result.0.items = search rules in
    let k = c.store_ahead-answer.ensures in
    record {
      past = c.deref.result.now.house.past;
      group = c.deref.result.now.house.group;
      leads = c.foresee-records.ensures.leads;
      holds = record {
        records = c.foresee-records.result.0.items;
        foreseen = c.foresee-records.ensures.foreseen;
        few = λ h. absurd (omega (arith, len, h));
        enough = λ h. record {
          may = c.foresee-records.ensures.may (omega (arith, h));
          answer = c.store_ahead-answer.result;
          keeps = record {
            placed = k.placed;
            still = k.still;
            certain = k.certain;
            trust = k.trust;
            counts = k.counts;
            holds = k.holds;
          };
        };
      };
    }

pub returns-clause-keeps : goal.returns-clause-keeps
returns-clause-keeps g c start opening h =
    let past : c.deref_mut.result.now.house.past ≡ c.deref.result.now.house.past = search rules in
    let len : c.len.result ≡ length c.foresee-records.result.0.items = search rules in
    let k = c.store_ahead-answer.ensures in
    held_since g.S.Stable g.K.HouseName.origin c.args.node c.deref.result.now.house.group
    c.deref.result.now.house.past start opening c.foresee-records.result.0.items
    c.store_ahead-answer.result c.args.store.now c.store_ahead-answer.new.self
    c.args.tally.last c.look.new.tally.last c.foresee-records.ensures.sound
    c.foresee-records.ensures.leads
    (c.foresee-records.ensures.may (omega (arith, len)))
    (record {
      placed = k.placed;
      still = k.still;
      certain = k.certain;
      trust = k.trust;
      counts = k.counts;
      holds = k.holds;
    })
    (subst (λ (past : List Event). IsNextLoan c.args.node c.args.tally.last past past
    c.look.new.tally.last) past c.look.ensures.last) h
