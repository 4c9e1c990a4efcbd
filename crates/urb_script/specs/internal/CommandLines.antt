-- How a line of a script is made into a command.
use Rattle.std.specs.Prelude.{ℕ, Option, None, Some}
use Rattle.urb_names.specs.LabelsAndContents.{Label}
use Rattle.urb_names.specs.declared.flags.Flags.{Flags}
use Rattle.urb_group.specs.declared.command.Command as acts
use Rattle.urb_group.specs.declared.command.Command.TheVariants as act
use Rattle.urb_script.specs.declared.commands.CommandLine.{CommandLine}
use Rattle.urb_script.specs.declared.commands.CommandLine.TheVariants as line
use Rattle.urb_script.specs.Commands.{Arrive, ArriveFlagged, Command, Crash, Fail, Group, Held, Log}
use Rattle.urb_script.specs.Commands.{Raw, Reopen, Restart, Stored, Submit, Tick}

-- the command of a line, as contracts see it
abbrev pub command : CommandLine → Command
command (line.Group config) = Group config
command (line.Submit node client number payload) = Submit node client number payload.now
command (line.Stored node) = Stored node
command (line.Fail node failure) = Fail node failure
command (line.Crash node) = Crash node
command (line.Restart node) = Restart node
command line.Reopen = Reopen
command (line.Arrive source node name) = Arrive source node name
command (line.ArriveFlagged source node name flags) = ArriveFlagged source node name flags
command (line.Raw node bytes) = Raw node bytes
command (line.Tick node) = Tick node
command (line.Log node) = Log node
command (line.Held name) = Held name

-- the command that delivers a packet with a message that the source has stored; the packet has these
-- flags, or none
abbrev pub arrival : ℕ → ℕ → Label → Option Flags → Command
arrival source node name None = Arrive source node name
arrival source node name (Some flags) = ArriveFlagged source node name flags

-- the script's command for a command of a cluster
abbrev pub line_of : {A : Type 0} → acts.Command A → Command
line_of (act.Submit p client number payload) = Submit p client number payload
line_of (act.Arrive p bytes) = Raw p bytes.items
line_of (act.Tick p) = Tick p
line_of (act.Store p) = Stored p
line_of (act.Crash p) = Crash p
line_of (act.Restart p) = Restart p

-- the command has a node, and nothing else
abbrev pub HasNodeAlone : Command → Type 0
HasNodeAlone (Stored node) = Unit {0}
HasNodeAlone (Crash node) = Unit {0}
HasNodeAlone (Restart node) = Unit {0}
HasNodeAlone (Tick node) = Unit {0}
HasNodeAlone (Log node) = Unit {0}
HasNodeAlone asked = ⊥
