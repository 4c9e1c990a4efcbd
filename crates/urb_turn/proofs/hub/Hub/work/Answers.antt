use Rattle.urb_turn.proofs.Common.{refl, rules, runs_at, subst, sym, true, ◌∙◌, ◌≡◌}
use Rattle.urb_turn.proofs.LastLoans.{turn_since}
use Rattle.urb_turn.proofs.TurnSteps.{stores_none, whole}
use Rattle.urb_turn.specs.WholeTurns.{Does}
use Rattle.urb_turn.proofs.hub.Hub.work.Goals as goal

-- nothing was asked of the store: both events came at once
pub returns-then-is_stored-clause-turn : goal.returns-then-is_stored-clause-turn
returns-then-is_stored-clause-turn g c =
    let runs : runs_at c.args.node c.args.job ≡ true = search rules in
    subst (λ b. Does g.S.Stable g.K.HouseName.origin c.args.node b c.args.job c.args.store.now
    c.args.store.now c.finish-done.result) (sym runs)
    (whole g.S.Stable g.K.HouseName.origin c.args.node c.args.job
    c.args.store.now c.args.store.now c.finish-done.result
    _ _ _ _ c.begin-turn.result c.begin-turn.result runs c.begin-turn.ensures.job refl refl
    c.finish-done.ensures.sound c.begin-turn.ensures.leads c.finish-done.ensures.leads
    c.begin-turn.ensures.loan c.finish-done.ensures.loans
    c.begin-turn.ensures.step (stores_none g.S.Stable c.args.store.now c.args.store.now
    c.begin-turn.result.stage (search rules)) c.finish-done.ensures.step)

-- the store did its part between the two events
pub returns-clause-turn : goal.returns-clause-turn
returns-clause-turn g c =
    let runs : runs_at c.args.node c.args.job ≡ true = search rules in
    subst (λ b. Does g.S.Stable g.K.HouseName.origin c.args.node b c.args.job c.args.store.now
    c.store-turn.new.store c.finish-finished.result) (sym runs)
    (whole g.S.Stable g.K.HouseName.origin c.args.node c.args.job
    c.args.store.now c.store-turn.new.store
    c.finish-finished.result _ _ _ _ c.begin-turn.result c.store-turn.result runs
    (c.store-turn.ensures.job ∙ c.begin-turn.ensures.job)
    c.store-turn.ensures.events c.store-turn.ensures.loan c.finish-finished.ensures.sound
    c.begin-turn.ensures.leads c.finish-finished.ensures.leads c.begin-turn.ensures.loan
    c.finish-finished.ensures.loans c.begin-turn.ensures.step
    c.store-turn.ensures.step c.finish-finished.ensures.step)

-- the same two cases, for the store since the worker's last loan
pub returns-then-is_stored-clause-keeps : goal.returns-then-is_stored-clause-keeps
returns-then-is_stored-clause-keeps g c =
    let runs : runs_at c.args.node c.args.job ≡ true = search rules in
    turn_since g.S.Stable g.K.HouseName.origin c.args.node c.args.job
    c.args.store.now c.args.store.now c.finish-done.result
    _ _ _ _ c.begin-turn.result c.begin-turn.result runs c.begin-turn.ensures.job refl refl
    c.finish-done.ensures.sound c.begin-turn.ensures.leads c.finish-done.ensures.leads
    c.begin-turn.ensures.loan c.finish-done.ensures.loans
    c.begin-turn.ensures.step (stores_none g.S.Stable c.args.store.now c.args.store.now
    c.begin-turn.result.stage (search rules)) c.finish-done.ensures.step
    c.args.tally.last c.begin-turn.new.tally.last c.finish-done.new.tally.last
    c.begin-turn.ensures.last c.finish-done.ensures.last

pub returns-clause-keeps : goal.returns-clause-keeps
returns-clause-keeps g c =
    let runs : runs_at c.args.node c.args.job ≡ true = search rules in
    turn_since g.S.Stable g.K.HouseName.origin c.args.node c.args.job
    c.args.store.now c.store-turn.new.store
    c.finish-finished.result _ _ _ _ c.begin-turn.result c.store-turn.result runs
    (c.store-turn.ensures.job ∙ c.begin-turn.ensures.job)
    c.store-turn.ensures.events c.store-turn.ensures.loan c.finish-finished.ensures.sound
    c.begin-turn.ensures.leads c.finish-finished.ensures.leads c.begin-turn.ensures.loan
    c.finish-finished.ensures.loans c.begin-turn.ensures.step
    c.store-turn.ensures.step c.finish-finished.ensures.step
    c.args.tally.last c.begin-turn.new.tally.last c.finish-finished.new.tally.last
    c.begin-turn.ensures.last c.finish-finished.ensures.last
