use Rattle.std.proofs.Common.{refl}
use Rattle.urb_group.proofs.calls.DraftsInCalls.{takes-reacts, takes-tied, takes-within}
use Rattle.urb_group.proofs.cluster.Cluster.arrive.Goals as goal

pub hold_draft-requires : goal.hold_draft-requires
hold_draft-requires g c =
    takes-within _ _ c.args.node _ refl _ _ c.self.invariant _ c.arrive-taken.ensures

pub invariant_of-self : goal.invariant_of-self
invariant_of-self g c =
    rw c.hold_draft.ensures.drafts
    (takes-tied _ _ c.args.node _ refl _ _ c.self.invariant _ c.arrive-taken.ensures)

pub returns : goal.returns
returns g c =
    rw (← c.self.view_is, c.hold_draft.ensures.reply)
    (takes-reacts _ _ c.args.node _ refl _ _ c.self.invariant _ c.arrive-taken.ensures, refl)
