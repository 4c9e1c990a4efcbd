use Rattle.urb_stubborn.proofs.Common.{Resending, ap, false, is_due, sym, ◌∙◌, ◌≡◌}
use Rattle.urb_stubborn.proofs.SettledCounts.{passed_itself}
use Rattle.urb_stubborn.proofs.resend.Resend.skip_past.Goals as goal

pub returns-else-is_due-clause-passed : goal.returns-else-is_due-clause-passed
returns-else-is_due-clause-passed g c =
    let r = c.args.self.now in
    let x = c.args.name in
    let none : is_due r.limits.n r.node r.heard x ≡ false =
    ap (λ (s : Resending). is_due s.limits.n s.node s.heard x) (sym c.self.view_is)
    ∙ (sym c.is_due.ensures ∙ c.if-is_due.false) in
    passed_itself r x none
