use Rattle.urb_group.proofs.Common.{stored, sym, take, ◌∙◌}
use Rattle.urb_group.proofs.tails.FollowedRecords.{follows-all, follows-first, follows-is}
use Rattle.urb_group.proofs.tails.FollowedRecords.{follows-next, follows-not, follows-nowhere}
use Rattle.urb_group.proofs.tails.FollowedRecords.{is-nowhere, is-there, joined}
use Rattle.urb_group.proofs.group.Group.may_follow.Goals as goal

pub returns-in_default : goal.returns-in_default
returns-in_default g c =
    follows-nowhere c.args.self.now c.args.node c.args.records.now
    (is-nowhere c.self.inside.config c.self.inside.nodes.items c.self.view_is c.args.node
    c.in_default.ensures)

pub loop-i-init : goal.loop-i-init
loop-i-init g c w s =
    follows-first c.args.self.now.size (stored w) c.args.node (stored w c.args.node)
    c.args.records.now

pub returns-then-not-may_join : goal.returns-then-not-may_join
returns-then-not-may_join g c =
    follows-is c.args.self.now c.args.node c.args.records.now _
    (is-there c.self.inside.config c.self.inside.nodes.items c.self.view_is c.in-Some.at c.args.node
    c.in-Some.ensures.0 c.in-Some.ensures.1)
    (λ w s. follows-not c.args.self.now.size (stored w) c.args.node (stored w c.args.node)
    c.args.records.now c.loop-i.i c.index-records-i.result c.loop-i-test.true c.index-records-i.is
    (c.loop-i.invariant w s)
    (sym c.if-not-may_join.true
    ∙ joined c.self.inside.config c.self.inside.nodes.items c.self.view_is c.deref.result.now
    c.deref.ensures.value c.args.node
    (take c.loop-i.i c.args.records.now) c.index-records-i.result c.may_join.result
    c.may_join.ensures w s))

pub loop-i-preserved : goal.loop-i-preserved
loop-i-preserved g c w s =
    follows-next c.args.self.now.size (stored w) c.args.node (stored w c.args.node)
    c.args.records.now c.loop-i.i c.index-records-i.result c.loop-i-test.true c.index-records-i.is
    (c.loop-i.invariant w s)
    (sym c.if-not-may_join.false
    ∙ joined c.self.inside.config c.self.inside.nodes.items c.self.view_is c.deref.result.now
    c.deref.ensures.value c.args.node
    (take c.loop-i.i c.args.records.now) c.index-records-i.result c.may_join.result
    c.may_join.ensures w s)

pub returns : goal.returns
returns g c =
    follows-is c.args.self.now c.args.node c.args.records.now _
    (is-there c.self.inside.config c.self.inside.nodes.items c.self.view_is c.in-Some.at c.args.node
    c.in-Some.ensures.0 c.in-Some.ensures.1)
    (λ w s. follows-all c.args.self.now.size (stored w) c.args.node (stored w c.args.node)
    c.args.records.now c.loop-i.i c.loop-i-test.false (c.loop-i.invariant w s))
