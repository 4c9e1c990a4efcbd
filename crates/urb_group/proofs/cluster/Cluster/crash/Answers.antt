use Rattle.urb_group.proofs.Common.{Crash, IsRefused, Steps, WentDown, refl, rules, ◌≡◌}
use Rattle.urb_group.proofs.calls.DraftsInCalls.{down-bounds, down-tied}
use Rattle.urb_group.proofs.cluster.Cluster.crash.Goals as goal

pub drop_draft-requires : goal.drop_draft-requires
drop_draft-requires g c =
    let steps : Steps c.self.inside.group (Crash c.args.node)
    (λ told. told ≡ WentDown c.args.node) c.crash.new.self = search rules in
    down-bounds _ _ c.args.node (Crash c.args.node) refl _ _ c.self.invariant steps

pub invariant_of-self : goal.invariant_of-self
invariant_of-self g c =
    let steps : Steps c.self.inside.group (Crash c.args.node)
    (λ told. told ≡ WentDown c.args.node) c.crash.new.self = search rules in
    rw c.drop_draft.ensures (down-tied _ _ c.args.node
    (Crash c.args.node) refl _ _ c.self.invariant steps)

pub returns-in-Ok : goal.returns-in-Ok
returns-in-Ok g c =
    let steps : Steps c.self.inside.group (Crash c.args.node)
    (λ told. told ≡ WentDown c.args.node) c.crash.new.self = search rules in
    rw (← c.self.view_is) (steps, refl)

pub returns-in-Err : goal.returns-in-Err
returns-in-Err g c =
    let refused : IsRefused c.self.inside.group
    (Crash c.args.node) c.in-Err.refusal c.crash.new.self = search rules in
    rw (← c.self.view_is) (refused, refl)
