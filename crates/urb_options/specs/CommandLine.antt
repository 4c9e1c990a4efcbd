-- The command line of the program, in the terms of its parser.
use Rattle.std.specs.Prelude.{◌≡◌, ◌⊎◌, ℕ, ℤ, pos, List, [], true, false, codes, Some}
use Rattle.urb_names.specs.declared.limits.TheConstants.{MAX_CAP, MAX_NODES}
use Rattle.urb_client.specs.declared.format.TheConstants.{MOST_ENTRIES}
use Rattle.urb_options.specs.declared.limits.TheConstants.{MIN_BASE_PORT, MAX_BASE_PORT}
use Rattle.urb_options.specs.declared.limits.TheConstants.{MAX_TICK_MILLIS}
use Rattle.urb_options.specs.declared.limits.TheConstants.{MIN_CONNECTIONS, MAX_CONNECTIONS}
use Rattle.urb_options.specs.declared.limits.TheConstants.{MAX_IDLE_MINUTES}
use Rattle.clap.specs.Words.{App, Rule, Text, new_app, new_rule, with_rule, with_subcommand}
use Rattle.clap.specs.Words.{fault_of, Kinds, IsAmong}
use Rattle.clap.specs.declared.builder.action.ArgAction.TheVariants.{Set, SetTrue}
use Rattle.clap.specs.declared.builder.value_parser.ValueParser.{ValueParser}
use Rattle.clap.specs.declared.builder.value_parser.ValueParser.TheVariants as vp
use Rattle.clap.specs.declared.error.kind.ErrorKind.{ErrorKind}
use Rattle.clap.specs.declared.error.kind.ErrorKind.TheVariants.{OutOfMemory, DisplayHelp}
use Rattle.clap.specs.declared.error.kind.ErrorKind.TheVariants.{DisplayVersion}

-- a required word at its place
abbrev pub place_rule : Text → Rule
place_rule name = record (new_rule name) { required = true; action = Some Set }

-- a required option with a value that this parser takes
abbrev pub option_rule : Text → ValueParser → Rule
option_rule name parser = record (place_rule name) { long = Some name; parser = Some parser }

-- a required option with any text except an empty one
abbrev pub text_rule : Text → Rule
text_rule name = option_rule name vp.NonEmptyString

-- a required option with a number from low to high
abbrev pub number_rule : Text → ℤ → ℤ → Rule
number_rule name low high = option_rule name (vp.Signed low high)

-- an option that may be left out, with a number from low to high
abbrev pub choice_rule : Text → ℤ → ℤ → Rule
choice_rule name low high = record (number_rule name low high) { required = false }

-- an option without a value, which may be left out
abbrev pub flag_rule : Text → Rule
flag_rule name = record (new_rule name) { long = Some name; action = Some SetTrue }

-- an option that may be left out, with any text except an empty one
abbrev pub choice_text_rule : Text → Rule
choice_text_rule name = record (text_rule name) { required = false }

-- `replay` takes no words of its own
abbrev pub replay_app : App
replay_app = new_app (codes "replay")

-- `serve` takes the number of nodes, the cap, the folder, the base of the ports, and how often
-- nodes resend
abbrev pub group_app : App
group_app =
    with_rule (with_rule (with_rule (with_rule (with_rule (new_app (codes "serve"))
    (number_rule (codes "nodes") (pos 1) (pos MAX_NODES)))
    (number_rule (codes "cap") (pos 1) (pos MAX_CAP)))
    (text_rule (codes "dir")))
    (number_rule (codes "base-port") (pos MIN_BASE_PORT) (pos MAX_BASE_PORT)))
    (number_rule (codes "tick-ms") (pos 1) (pos MAX_TICK_MILLIS))

-- it may also take how many clients a node serves, how long they may be idle, and that they may not
-- crash it
abbrev pub service_app : App
service_app =
    with_rule (with_rule (with_rule group_app
    (choice_rule (codes "connections") (pos MIN_CONNECTIONS) (pos MAX_CONNECTIONS)))
    (choice_rule (codes "idle-minutes") (pos 1) (pos MAX_IDLE_MINUTES)))
    (flag_rule (codes "no-crash"))

-- and a folder of sockets, their mode, and that there is no TCP
abbrev pub serve_app : App
serve_app =
    with_rule (with_rule (with_rule service_app
    (choice_text_rule (codes "socket-dir")))
    (choice_text_rule (codes "socket-mode")))
    (flag_rule (codes "no-tcp"))

-- a client's command may take a port, and may take a socket
abbrev pub client_app : Text → App
client_app name =
    with_rule (with_rule (new_app name)
    (choice_rule (codes "port") (pos 1) (pos 65535)))
    (choice_text_rule (codes "socket"))

-- `submit` takes a client, its number, and the payload
abbrev pub submit_app : App
submit_app =
    with_rule (with_rule (with_rule (client_app (codes "submit"))
    (number_rule (codes "client") (pos 1) (pos 65535)))
    (number_rule (codes "number") (pos 0) (pos 4294967295)))
    (place_rule (codes "TEXT"))

-- `read` takes a place, and the greatest number of entries
abbrev pub read_app : App
read_app =
    with_rule (with_rule (client_app (codes "read"))
    (number_rule (codes "from") (pos 1) (pos 4294967295)))
    (number_rule (codes "max") (pos 1) (pos MOST_ENTRIES))

-- `status` may take the base of a group's ports and the number of its nodes
abbrev pub status_app : App
status_app =
    with_rule (with_rule (client_app (codes "status"))
    (choice_rule (codes "base-port") (pos MIN_BASE_PORT) (pos MAX_BASE_PORT)))
    (choice_rule (codes "nodes") (pos 1) (pos MAX_NODES))

-- a word at its place that may be left out
abbrev pub choice_place_rule : Text → Rule
choice_place_rule name = record (place_rule name) { required = false }

-- `publish` takes a client, and perhaps the payload
abbrev pub publish_app : App
publish_app =
    with_rule (with_rule (client_app (codes "publish"))
    (number_rule (codes "client") (pos 1) (pos 65535)))
    (choice_place_rule (codes "TEXT"))

-- `follow` may take a place and a format
abbrev pub follow_app : App
follow_app =
    with_rule (with_rule (client_app (codes "follow"))
    (choice_rule (codes "from") (pos 1) (pos 4294967295)))
    (choice_text_rule (codes "format"))

-- the program has a version, and needs one of its subcommands
abbrev pub bare_app : App
bare_app = record {
  top = record (new_app (codes "urbd")).top { has_version = true; subcommand_required = true };
  subs =
      [];
}

-- the program with its subcommands
abbrev pub urbd_app : App
urbd_app =
    with_subcommand (with_subcommand (with_subcommand (with_subcommand (with_subcommand
    (with_subcommand (with_subcommand bare_app replay_app.top) serve_app.top) submit_app.top)
    read_app.top) status_app.top) publish_app.top) follow_app.top

-- the faults that the parser finds first in these words: no fault if they are a command line of the
-- program
abbrev pub faults_of : List Text → Kinds
faults_of words = fault_of urbd_app words

-- 0 for help or the version that was asked for, 1 if memory was refused, 3 for every other command
-- line that the parser refuses
abbrev pub parser_status : ErrorKind → ℕ
parser_status OutOfMemory = 1
parser_status DisplayHelp = 0
parser_status DisplayVersion = 0
parser_status _ = 3

-- the status that a refused command line ends with: that of its kind, or 1 for help or a version
-- that could not be written
abbrev pub IsToldBy : ErrorKind → ℕ → Type 0
IsToldBy kind status =
    (status ≡ parser_status kind)
    ⊎ (((kind ≡ DisplayHelp) ⊎ (kind ≡ DisplayVersion)) × (status ≡ 1))

-- the status is that of one of these kinds, or of refused memory
abbrev pub HasStatus : Kinds → ℕ → Type 0
HasStatus kinds status =
    (kind : ErrorKind) × ((kind ≡ OutOfMemory) ⊎ IsAmong kind kinds) × IsToldBy kind status
