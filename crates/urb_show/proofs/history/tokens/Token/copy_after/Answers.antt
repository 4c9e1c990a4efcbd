use Rattle.urb_show.proofs.Common.{IsPrefix, List, ap, length, subst, ◌≤◌}
use Rattle.urb_show.proofs.Prefixes.{prefix_shorter}
use Rattle.urb_show.proofs.history.tokens.Token.copy_after.Goals as goal

pub returns-clause-begins : goal.returns-clause-begins
returns-clause-begins g c =
    let both = c.learn.new.self.log in
    let this : IsPrefix c.self.inside.seen.log both =
    subst (λ (l : List _). IsPrefix l both)
    (ap (λ s. s.log) c.again-both.ensures) c.learn.ensures.2 in
    let less : length c.earlier.inside.seen.log ≤ length c.self.inside.seen.log =
    rw (c.self.view_is, c.earlier.view_is) c.requires in
    rw (← c.self.view_is, ← c.earlier.view_is)
    (prefix_shorter c.earlier.inside.seen.log c.self.inside.seen.log both c.learn.ensures.3 this
    less)
