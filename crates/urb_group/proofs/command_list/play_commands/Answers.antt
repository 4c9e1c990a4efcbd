use Rattle.std.proofs.Common.{refl, rules, sym, ◌++◌, ◌∙◌, ◌∷◌, ◌≡◌, [], true, false}
use Rattle.urb_group.proofs.calls.PlayedRuns.{follows-next, ends-before, ends-short}
use Rattle.urb_group.specs.Commands.{is_no_memory}
use Rattle.urb_group.proofs.command_list.play_commands.Goals as goal

pub returns-in-Err : goal.returns-in-Err
returns-in-Err g c =
    rw c.reserve.ensures.items
    (ends-before g.S.Stable c.args.cluster.now c.loop-command.cluster c.loop-command.cluster
    c.args.commands.now c.loop-command.replies.items c.loop-command.command-index
    c.command-item.result
    c.loop-command-test.true c.command-item.is c.loop-command.invariant.follows
    c.loop-command.invariant.count)

pub returns-in-Some : goal.returns-in-Some
returns-in-Some g c =
    let short : is_no_memory c.apply-reply.result ≡ true =
    sym c.refused_memory.ensures ∙ rw c.in-Some.is refl in
    rw c.reserve.ensures.items
    (ends-short g.S.Stable c.args.cluster.now c.loop-command.cluster c.apply-reply.new.self
    c.args.commands.now c.loop-command.replies.items c.loop-command.command-index
    c.command-item.result
    c.loop-command-test.true c.command-item.is c.loop-command.invariant.follows
    c.loop-command.invariant.count c.apply-reply.result c.apply-reply.ensures.applied short)

pub loop-command-preserved : goal.loop-command-preserved
loop-command-preserved g c =
    let told_is : is_no_memory c.apply-reply.result ≡ false =
    sym c.refused_memory.ensures ∙ rw c.in_default-refused_memory.is refl in
    let items : c.push_reserved.new.self.items ≡ c.loop-command.replies.items
    ++ c.apply-reply.result ∷ [] = search rules in
    record {
      follows =
          rw items
          (follows-next g.S.Stable c.args.cluster.now c.loop-command.cluster c.apply-reply.new.self
          c.args.commands.now c.loop-command.replies.items c.loop-command.command-index
          c.command-item.result
          c.loop-command-test.true c.command-item.is c.loop-command.invariant.follows
          c.loop-command.invariant.count c.apply-reply.result c.apply-reply.ensures.applied
          told_is);
      count = search rules;
    }
