use Rattle.urb_group.proofs.Common.{Fail, Steps, WentDown, rules, ◌≡◌}
use Rattle.urb_group.proofs.calls.HeldDrafts.{steps-calm}
use Rattle.urb_group.proofs.calls.StoreAnswers.{fail-taken}
use Rattle.urb_group.proofs.stores.fail_draft.Goals as goal

pub unwrap-requires : goal.unwrap-requires
unwrap-requires g c =
    fail-taken _ _ _ c.requires.held.0 _ c.requires.sound c.requires.held.1 c.requires.held.2
    c.fail.ensures

pub returns-clause-free : goal.returns-clause-free
returns-clause-free g c =
    let steps : Steps c.args.group.now (Fail c.args.doubt.node)
    (λ told. told ≡ WentDown c.args.doubt.node) c.fail.new.self = search rules in
    steps-calm _ _ _ (WentDown c.args.doubt.node) c.requires.sound steps
