use Rattle.std.proofs.Common.{IfSome, ap, length, reverse, rules, subst, sym, vec_len, ◌∙◌, ◌≡◌}
use Rattle.urb_worker.proofs.EndedRuns.{ends_whole_if}
use Rattle.urb_worker.proofs.worker_group.run_group.Goals as goal
use Rattle.urb_worker.specs.ServedStores.{EndsWhole, numbers_from}
use Rattle.urb_worker.specs.internal.ServedStores.{AllKeepUp, each}

-- a run whose house was closed with all last loans known
pub returns-clause-whole : goal.returns-clause-whole
returns-clause-whole g c =
    let run = c.run_worker_group-stores in
    let made = c.make_inputs in
    let origin = g.K.HouseName.origin in
    let stores = c.args.stores.items in
    let counted : vec_len c.args.stores ≡ length stores = search rules in
    let keeps : AllKeepUp g.S.Stable origin (numbers_from 1 (length stores)) stores
    run.result.0.0.items run.result.0.1.items =
    subst (λ count. AllKeepUp g.S.Stable origin (numbers_from 1 count) stores
    run.result.0.0.items run.result.0.1.items) counted
    (subst (λ nodes. AllKeepUp g.S.Stable origin nodes stores run.result.0.0.items
    run.result.0.1.items) made.ensures.nodes
    (subst (λ firsts. AllKeepUp g.S.Stable origin
    (reverse (each made.result.items (λ input. input.node))) firsts run.result.0.0.items
    run.result.0.1.items) made.ensures.stores run.ensures.keeps)) in
    subst (λ group. IfSome c.count_if.result
    (λ events. EndsWhole g.S.Stable group stores run.result.0.0.items))
    (sym c.requires.names.origin)
    (ends_whole_if g.S.Stable origin (length g.K.HouseName.base) stores run.result.0.0.items
    run.result.0.1.items run.result.1 c.close_hub-events.result.1 c.close_hub-events.result.0
    c.count_if.result c.count_if.ensures c.close_hub-events.ensures.closes
    (sym c.in-Some-open_hub.ensures.nodes.0 ∙ (c.requires.parts.1
    ∙ ap (λ group. group.size.n) c.requires.names.origin)) keeps)
