use Rattle.std.proofs.Common.{ap, arith, count_by, rules, subst, ℕ, ◌-◌, ◌≡◌}
use Rattle.urb_names.specs.LabelsAndContents.{Limits}
use Rattle.urb_names.specs.Nodes.{numbers_from}
use Rattle.urb_names.specs.Pairs.{has_pair}
use Rattle.urb_stable.specs.Records.{pend}
use Rattle.urb_world.specs.World.{stored}
use Rattle.urb_foresight.proofs.HeldPackets.{counted-on, is-node-of}
use Rattle.urb_foresight.proofs.taken_packets.count_holders.Goals as goal

pub count_holder-count-requires : goal.count_holder-count-requires
count_holder-count-requires g c w shows =
    let i = c.loop-number.number in
    let node : c.unwrap.result ≡ i = search rules in
    let size : c.n-number-end.result ≡ c.args.group.now.size.n = search rules in
    is-node-of c.args.group.now w shows c.n-number-end.result i c.unwrap.result node size
    (omega arith) (omega arith)

pub loop-number-preserved : goal.loop-number-preserved
loop-number-preserved g c =
    let node : c.unwrap.result ≡ c.loop-number.number = search rules in
    record {
      holders =
          λ w shows. counted-on (λ q. has_pair (pend (stored w q)) c.args.name c.args.message.now)
          c.loop-number.number c.loop-number.count c.count_holder-count.result c.unwrap.result
          (omega arith) node (c.count_holder-count.ensures.count w shows)
          (c.loop-number.invariant.holders w shows);
      few = omega (arith, c.loop-number.invariant.few, c.count_holder-count.ensures.most);
    }

pub returns : goal.returns
returns g c w shows =
    let size : c.n-number-end.result ≡ c.args.group.now.size.n = search rules in
    let all = ap (λ (l : Limits). l.n) shows.size in
    let last : c.loop-number.number - 1 ≡ w.size.n =
    omega (arith, c.loop-number.auto.number-end, c.loop-number-test.false, size, all) in
    subst (λ (n : ℕ). c.loop-number.count
    ≡ count_by (λ q. has_pair (pend (stored w q)) c.args.name c.args.message.now)
    (numbers_from 1 n)) last (c.loop-number.invariant.holders w shows)
