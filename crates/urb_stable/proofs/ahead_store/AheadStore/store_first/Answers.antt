use Rattle.urb_stable.proofs.Common.{sym, ◌∙◌}
use Rattle.urb_stable.proofs.AheadReplacements.{refuses-out}
use Rattle.urb_stable.proofs.AheadTails.{takes-first}
use Rattle.urb_stable.proofs.ahead_store.AheadStore.store_first.Goals as goal

pub returns-then-is_first : goal.returns-then-is_first
returns-then-is_first g c =
    let s = c.args.self.now in
    rw c.take_first.ensures (takes-first g.S.Stable s.store s.start s.base s.ahead s.failing s.spent
    s.failures c.args.pos c.args.entry.now c.recall.ensures c.requires.held
    (λ honest. sym c.next-next.ensures.value ∙ c.next-next.ensures.counted honest)
    (sym c.is_out.ensures ∙ c.if-is_out.false) c.if-is_first.ensures c.requires.some)

pub returns-then-is_out : goal.returns-then-is_out
returns-then-is_out g c =
    let s = c.args.self.now in
    refuses-out g.S.Stable s.store s.start s.base s.ahead s.failing s.spent s.failures c.args.pos
    c.next-next.result c.args.entry.now c.recall.ensures c.requires.some
    (λ honest. sym c.next-next.ensures.value ∙ c.next-next.ensures.counted honest)
    c.next-next.ensures.value (sym c.is_out.ensures ∙ c.if-is_out.true)
