use Rattle.urb_group.proofs.Common.{arith, count_by, numbers_from, subst, suc, would_hold, ℕ, ◌≡◌}
use Rattle.urb_group.proofs.tails.TailHolders.{counted-more}
use Rattle.urb_group.proofs.tail_rules.count_holders.Goals as goal

pub loop-place-preserved : goal.loop-place-preserved
loop-place-preserved g c =
    record {
      holders =
          λ v s. counted-more (would_hold v (suc c.args.at) c.args.name c.args.message.now)
          c.loop-place.place c.loop-place.count c.count_holder-count.result
          (c.count_holder-count.ensures.count v s) (c.loop-place.invariant.holders v s);
      few = omega (arith, c.loop-place.invariant.few, c.count_holder-count.ensures.most);
    }

pub returns : goal.returns
returns g c =
    let all : c.loop-place.place ≡ c.args.config.n =
    omega (arith, c.loop-place.auto.place-end, c.loop-place-test.false, c.n.ensures.value) in
    λ v s. subst (λ (n : ℕ). c.loop-place.count
    ≡ count_by (would_hold v (suc c.args.at) c.args.name c.args.message.now) (numbers_from 1 n)) all
    (c.loop-place.invariant.holders v s)
