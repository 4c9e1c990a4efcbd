use Rattle.urb_stable.proofs.Common.{eqb-true, length, refl, sym, ◌==◌, ◌∙◌}
use Rattle.urb_stable.proofs.AheadStores.{clash}
use Rattle.urb_stable.proofs.AheadTails.{no_records}
use Rattle.urb_stable.proofs.AheadReplacements.{refuses-misplaced, refuses-several, stores-none}
use Rattle.urb_stable.proofs.ahead_store.AheadStore.refuse_all.Goals as goal

pub returns-then-are_out : goal.returns-then-are_out
returns-then-are_out g c =
    let s = c.args.self.now in
    refuses-misplaced g.S.Stable s.store s.start s.base s.ahead s.failing s.spent s.failures c.args.pos
    c.next-next.result c.args.entries.now c.recall.ensures c.requires
    (λ honest. sym c.next-next.ensures.value ∙ c.next-next.ensures.counted honest)
    c.next-next.ensures.value (sym c.are_out.ensures ∙ c.if-are_out.true)

pub returns-then-is_empty : goal.returns-then-is_empty
returns-then-is_empty g c =
    let s = c.args.self.now in
    stores-none g.S.Stable s.store s.start s.base s.ahead s.failing s.spent s.failures c.args.pos
    c.args.entries.now c.recall.ensures c.requires
    (λ honest. sym c.next-next.ensures.value ∙ c.next-next.ensures.counted honest)
    (sym c.are_out.ensures ∙ c.if-are_out.false)
    (no_records c.args.entries.now
    (eqb-true (length c.args.entries.now) 0 (sym c.is_empty.ensures ∙ c.if-is_empty.true)))

pub returns : goal.returns
returns g c =
    let s = c.args.self.now in
    rw (c.spend.ensures.fault, c.spend.ensures.spent) (refuses-several g.S.Stable s.store s.start s.base
    s.ahead s.failing s.spent s.failures c.args.pos c.args.entries.now c.recall.ensures c.requires
    (λ honest. sym c.next-next.ensures.value ∙ c.next-next.ensures.counted honest)
    (sym c.are_out.ensures ∙ c.if-are_out.false)
    (λ none. clash (length c.args.entries.now == 0) (sym c.is_empty.ensures ∙ c.if-is_empty.false)
    (rw none refl)))
