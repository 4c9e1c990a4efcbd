-- Rounds of a running cluster: what its commands count as, by the replies that `play` returns.
use Rattle.std.specs.Prelude.{List}
use Rattle.urb_world.specs.Rounds.{Act, IsBusyRoundAmong, IsRoundAmong, acts_by, arrival_by}
use Rattle.urb_world.specs.Rounds.{disturbance, tick_by}
use Rattle.urb_world.specs.World.{World}
use Rattle.urb_group.specs.declared.command.Command.{Command}
use Rattle.urb_group.specs.declared.command.Command.TheVariants as command
use Rattle.urb_names.specs.Nodes.{is_node}
use Rattle.urb_names.specs.PacketGrammar.{packet_of}
use Rattle.urb_node.specs.Replies.{Reply}

-- what a command with this reply counts as
abbrev pub act_of_command : {A : Type 0} → Command A → Reply → List Act
act_of_command (command.Submit p client number payload) reply = disturbance reply
act_of_command (command.Arrive p bytes) reply = arrival_by (packet_of bytes.items) reply
act_of_command (command.Tick p) reply = tick_by p reply
act_of_command (command.Store p) reply = disturbance reply
act_of_command (command.Crash p) reply = disturbance reply
act_of_command (command.Restart p) reply = disturbance reply

-- the commands, with these replies, are a round of all nodes that ends in this world
abbrev pub IsPlayedRound : {A : Type 0} → List (Command A) → List Reply → World → Type 0
IsPlayedRound commands replies end =
    IsRoundAmong (is_node end.size.n) (acts_by act_of_command commands replies) end

-- the same for a busy round
abbrev pub IsPlayedBusyRound : {A : Type 0} → List (Command A) → List Reply → World → Type 0
IsPlayedBusyRound commands replies end =
    IsBusyRoundAmong (is_node end.size.n) (acts_by act_of_command commands replies) end
