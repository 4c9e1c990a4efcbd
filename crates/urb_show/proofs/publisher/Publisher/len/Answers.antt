use Rattle.urb_show.proofs.Common.{IsPrefix, PublisherView, subst}
use Rattle.urb_show.proofs.PublishingSteps.{shown_begins}
use Rattle.urb_show.proofs.publisher.Publisher.len.Goals as goal

pub returns-clause-begins : goal.returns-clause-begins
returns-clause-begins g c =
    let b =
    shown_begins c.self.inside.kept _ c.self.inside.shown c.self.inside.queued c.self.inside.all
    c.self.invariant.0 c.self.invariant.2 in
    subst (λ (p : PublisherView). IsPrefix p.shown p.all) c.self.view_is b
