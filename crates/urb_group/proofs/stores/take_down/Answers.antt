use Rattle.urb_group.proofs.Common.{Crash, Fail, None, Steps, WentDown, held_draft, rules, subst}
use Rattle.urb_group.proofs.Common.{sym, ℕ, ◌≡◌}
use Rattle.urb_group.proofs.calls.HeldDrafts.{steps-calm}
use Rattle.urb_group.proofs.calls.StoreAnswers.{crash-as-fail, crash-taken}
use Rattle.urb_group.proofs.stores.take_down.Goals as goal

pub unwrap-requires : goal.unwrap-requires
unwrap-requires g c =
    crash-taken _ _ _ c.args.draft _ c.requires.sound
    (sym c.node-node.ensures) c.requires.held c.crash.ensures

pub returns-clause-event : goal.returns-clause-event
returns-clause-event g c =
    let steps : Steps c.args.group.now (Crash c.node-node.result)
    (λ told. told ≡ WentDown c.node-node.result) c.crash.new.self = search rules in
    subst (λ (i : ℕ). Steps c.args.group.now (Fail i)
    (λ told. told ≡ WentDown c.node-node.result) c.crash.new.self) c.node-node.ensures
    (crash-as-fail c.args.group.now c.crash.new.self c.node-node.result c.args.draft
    (sym c.node-node.ensures) c.requires.held steps)

pub returns-clause-free : goal.returns-clause-free
returns-clause-free g c =
    let steps : Steps c.args.group.now (Crash c.node-node.result)
    (λ told. told ≡ WentDown c.node-node.result) c.crash.new.self = search rules in
    subst (λ (i : ℕ). held_draft c.crash.new.self i ≡ None) c.node-node.ensures
    (steps-calm c.args.group.now c.crash.new.self (Crash c.node-node.result)
    (WentDown c.node-node.result) c.requires.sound steps)
