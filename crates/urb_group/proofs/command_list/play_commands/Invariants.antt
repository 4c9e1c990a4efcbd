use Rattle.std.proofs.Common.{length, take, ◌≡◌}
use Rattle.urb_group.specs.PlayedCommands.{Follows}
use Rattle.urb_group.proofs.command_list.play_commands.Given as goal

abbrev pub invariant-loop-command : goal.invariant-loop-command
invariant-loop-command g l =
    record {
      follows : Follows g.S.Stable l.initial.cluster
          (take l.command-index l.commands) l.replies.items l.cluster;
      count : length l.replies.items ≡ l.command-index;
    }
