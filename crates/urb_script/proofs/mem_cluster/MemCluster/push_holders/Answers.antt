use Rattle.std.proofs.Common.{ap, arith, rules}
use Rattle.urb_script.proofs.LogTexts.{holder_more, holder_end}
use Rattle.urb_script.proofs.mem_cluster.MemCluster.push_holders.Goals as goal

pub loop-number-preserved : goal.loop-number-preserved
loop-number-preserved g c = λ w s e.
    holder_more w c.args.self.now.cluster.group c.args.name c.loop-number.number
    c.loop-number.text.items c.push_if_holder.new.text.items _ s (omega arith)
    (omega (arith, ap (λ l. l.n) e)) (search rules) (c.loop-number.invariant w s e)

pub returns : goal.returns
returns g c =
    λ w s e. holder_end w c.args.name c.loop-number.number c.loop-number.text.items _
    (omega (arith, ap (λ l. l.n) e)) (c.loop-number.invariant w s e)
