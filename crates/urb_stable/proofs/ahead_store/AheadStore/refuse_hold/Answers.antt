use Rattle.urb_stable.proofs.AheadTails.{refused-tail}
use Rattle.urb_stable.proofs.ahead_store.AheadStore.refuse_hold.Goals as goal

pub returns : goal.returns
returns g c = λ entries.
    refused-tail g.S.Stable c.args.self.now entries c.next.result c.recall.ensures c.requires
