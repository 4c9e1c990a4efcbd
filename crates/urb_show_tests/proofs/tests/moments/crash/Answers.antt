use Rattle.std.proofs.Common.{length, rules, ◌-◌, ◌<◌, ◌^◌, ◌∙◌, ◌≡◌}
use Rattle.urb_world.specs.Step.{Crash}
use Rattle.urb_node.specs.Replies.{WentDown}
use Rattle.urb_show.specs.Pasts.{IsToldAt}
use Rattle.urb_show_tests.proofs.tests.moments.crash.Goals as goal

pub returns-clause-told : goal.returns-clause-told
returns-clause-told g c =
    let low : c.args.house.now.events < 2 ^ 64 - 1 = search rules in
    let place : c.events-place.result ≡ length c.args.house.now.past =
    c.events-place.ensures ∙ c.recall.ensures.events low in
    let told : IsToldAt g.K.HouseName.origin c.in_ok-moment.moment
    (length c.args.house.now.past) (Crash c.args.node) (WentDown c.args.node) =
    rw c.in_ok-moment.ensures.moment c.in-Ok.ensures.past in
    rw place
    (c.replies_stand.ensures.stay g.K.HouseName.origin c.in_ok-moment.moment c.learn.new.self
    (length c.args.house.now.past) (Crash c.args.node) (WentDown c.args.node) told
    c.learn.ensures.told)
