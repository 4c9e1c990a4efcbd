use Rattle.std.proofs.Common.{subst, ◌≡◌}
use Rattle.urb_feed.proofs.Portions.{is_portion}
use Rattle.urb_feed.proofs.feed.Feed.next_portion.Goals as goal
use Rattle.urb_feed.specs.Feeds.{FeedView, IsPortion}

pub returns-clause-ok : goal.returns-clause-ok
returns-clause-ok g c =
    let q = c.self.inside.target in
    let end = c.self.inside.end in
    let upto = c.portion_end-upto.result in
    let packets = c.in_ok-packets.packets.items in
    let old : FeedView = record { target = q; after = c.self.inside.after; end = end } in
    let view : old ≡ c.args.self.now = cc (c.self.view_is) in
    let made =
    is_portion c.args.group.now q c.self.inside.after end c.skip_whole-from.result upto packets
    c.recall_world.ensures c.in_ok-packets.ensures c.skip_whole-from.ensures.whole
    c.skip_whole-from.ensures.range.0 c.portion_end-upto.ensures.range.0
    c.portion_end-upto.ensures.range.1 c.portion_end-upto.ensures.onward
    c.portion_end-upto.ensures.short in
    subst (λ (v : FeedView). IsPortion c.args.group.now v
    (record { target = q; after = upto; end = end }) packets) view made
