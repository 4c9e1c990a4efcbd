use Rattle.urb_group.proofs.Common.{Restart, Steps, Up, rules, ◌≡◌}
use Rattle.urb_group.proofs.calls.HeldDrafts.{steps-calm}
use Rattle.urb_group.proofs.stores.restart_with.Goals as goal

pub returns-in-Ok-clause-free : goal.returns-in-Ok-clause-free
returns-in-Ok-clause-free g c =
    let steps : Steps c.args.group.now (Restart c.args.node c.args.image.items)
    (λ told. told ≡ Up c.args.node) c.restart.new.self = search rules in
    steps-calm _ _ _ (Up c.args.node) c.requires.sound steps
