-- What a command line asks for.
use Rattle.std.specs.Prelude.{◌≡◌, ◌⊎◌, ◌+◌, ℕ, Bool, ◌&&◌, nat_lt, nat_le, List, [], length}
use Rattle.std.specs.Prelude.{Option, Some, false, not, option_map, unwrap_or}
use Rattle.std.specs.Prelude.{None, option_and_then, if◌then◌else◌, codes}
use Rattle.std.specs.List.{list_all}
use Rattle.std.specs.Char.{digit_value}
use Rattle.std.specs.Str.{bytes_eq}
use Rattle.std.specs.Str.Parse.{digits_value, without_leading_plus}
use Rattle.urb_names.specs.declared.limits.TheConstants.{MAX_CAP, MAX_NODES}
use Rattle.urb_client.specs.declared.format.TheConstants.{MOST_ENTRIES}
use Rattle.urb_options.specs.declared.limits.TheConstants.{MIN_BASE_PORT, MAX_BASE_PORT}
use Rattle.urb_options.specs.declared.limits.TheConstants.{MAX_TICK_MILLIS, CLIENT_PORT_OFFSET}
use Rattle.urb_options.specs.declared.limits.TheConstants.{MIN_CONNECTIONS, MAX_CONNECTIONS}
use Rattle.urb_options.specs.declared.limits.TheConstants.{MAX_IDLE_MINUTES, STANDARD_IDLE_MINUTES}
use Rattle.clap.specs.Words.{Row, Text, first_of, one_of, subcommand_of}
use Rattle.urb_options.specs.Addresses.{Address, AtPort, address_of}
use Rattle.urb_options.specs.Doors.{Doors, asked_address, asked_doors, doors_of}
use Rattle.urb_options.specs.CommandLine.{urbd_app, faults_of, HasStatus}
use Rattle.urb_options.specs.declared.serve_options.ServeOptions.{ServeOptions}
use Rattle.urb_options.specs.declared.service_options.ServiceOptions.{ServiceOptions}
use Rattle.urb_options.specs.declared.task.SubmitOptions.{SubmitOptions}
use Rattle.urb_options.specs.declared.task.ReadOptions.{ReadOptions}
use Rattle.urb_options.specs.declared.task.StatusOptions.{StatusOptions}
use Rattle.urb_options.specs.declared.entry_form_kind.EntryForm.{EntryForm}
use Rattle.urb_options.specs.declared.entry_form_kind.EntryForm.TheVariants as form
use Rattle.urb_options.specs.declared.stream_options.PublishOptions.{PublishOptions}
use Rattle.urb_options.specs.declared.stream_options.FollowOptions.{FollowOptions}
use Rattle.urb_options.specs.declared.task.Errand.{Errand}
use Rattle.urb_options.specs.declared.task.Errand.TheVariants as errand
use Rattle.urb_options.specs.declared.task.Line.{Line}
use Rattle.urb_options.specs.declared.task.Line.TheVariants as line

-- How nodes serve their clients: how many connections a node has at a time, after how many minutes
-- without a byte one is closed, and whether clients may crash and restart a node.
abbrev pub Service : Type 0
Service = ℕ × ℕ × Bool

-- What the program has to do: run a script; run a group; submit a text; read entries; show the
-- state of nodes; publish texts; or follow a log. A group has its nodes, cap, folder, base of the
-- ports, pause between resends, service to clients, and doors. A text is submitted at an address,
-- as a client, under a number. Entries are read at an address, from a place on, up to a number of
-- them. The states are those of the node at an address, or of those at a port and at the ports
-- after it, a number of them in all. One text or an input is published at an address, as a client.
-- A log is followed at an address, from a place on, in a form.
pub data Task : Type 0 where
  Replay : Task
  Serve : ℕ → ℕ → Text → ℕ → ℕ → Service → Doors → Task
  Submit : Address → ℕ → ℕ → Text → Task
  Read : Address → ℕ → ℕ → Task
  Status : Address → ℕ → Task
  Publish : Address → ℕ → Option Text → Task
  Follow : Address → ℕ → EntryForm → Task

-- the service that these options ask for
abbrev pub service_of : ServiceOptions → Service
service_of s = (s.connections, s.idle_minutes, s.may_crash)

-- the task of a group to run
abbrev pub task_of_serving : ServeOptions → Task
task_of_serving s =
    Serve s.nodes s.cap s.dir.now s.base s.every (service_of s.service) (doors_of s.doors)

-- the task of a message to submit
abbrev pub task_of_submitting : SubmitOptions → Task
task_of_submitting s = Submit (address_of s.at) s.client s.number s.text.now

-- the task of entries to read
abbrev pub task_of_reading : ReadOptions → Task
task_of_reading r = Read (address_of r.at) r.from r.max

-- the task of nodes to ask for their state
abbrev pub task_of_asking : StatusOptions → Task
task_of_asking s = Status (address_of s.at) s.count

-- the task of texts to publish
abbrev pub task_of_publishing : PublishOptions → Task
task_of_publishing p = Publish (address_of p.at) p.client (option_map (λ s. s.now) p.text)

-- the task of a log to follow
abbrev pub task_of_following : FollowOptions → Task
task_of_following f = Follow (address_of f.at) f.from f.form

-- the task of an errand
abbrev pub task_of_errand : Errand → Task
task_of_errand errand.Replay = Replay
task_of_errand (errand.Submit s) = task_of_submitting s
task_of_errand (errand.Read r) = task_of_reading r
task_of_errand (errand.Status s) = task_of_asking s
task_of_errand (errand.Publish p) = task_of_publishing p
task_of_errand (errand.Follow f) = task_of_following f

-- the task of a command line
abbrev pub task_of : Line → Task
task_of (line.Serve s) = task_of_serving s
task_of (line.Errand e) = task_of_errand e

-- the digits are a number in decimal
abbrev pub is_decimal : Text → Bool
is_decimal digits = nat_lt 0 (length digits) && list_all (λ d. nat_lt (digit_value d) 10) digits

-- The number that a text writes in decimal, if it is from low to high. A plus may come before it.
abbrev pub number_in : ℕ → ℕ → Text → Option ℕ
number_in low high text =
    let digits = without_leading_plus text in
    if is_decimal digits && (nat_le low (digits_value 10 digits)
    && nat_le (digits_value 10 digits) high)
    then Some (digits_value 10 digits) else None

infixl 10 ◌>>=◌
-- one value, and then the one that depends on it; nothing if either is missing
abbrev pub ◌>>=◌ : {A B : Type 0} → Option A → (A → Option B) → Option B
(Some x) >>= f = f x
None >>= f = None

-- the value of an option, as a number
abbrev pub number_of : Text → ℕ → ℕ → List Row → Option ℕ
number_of name low high rows = option_and_then (number_in low high) (one_of name rows)

-- the value of an option that may be left out, as a number; this one if it is left out
abbrev pub number_or : ℕ → Text → ℕ → ℕ → List Row → ℕ
number_or standard name low high rows = unwrap_or (number_of name low high rows) standard

-- an option without a value was given
abbrev pub is_given : Text → List Row → Bool
is_given name rows =
    unwrap_or (option_map (λ text. bytes_eq text (codes "true")) (first_of name rows)) false

-- how nodes serve their clients, from the options
unfoldable pub service_asked : List Row → Service
service_asked rows = (
  number_or MAX_CONNECTIONS (codes "connections") MIN_CONNECTIONS MAX_CONNECTIONS rows,
  number_or STANDARD_IDLE_MINUTES (codes "idle-minutes") 1 MAX_IDLE_MINUTES rows,
  not (is_given (codes "no-crash") rows),
)

-- the doors of a group, from its options
abbrev pub doors_asked : List Row → Option Doors
doors_asked rows =
    asked_doors (is_given (codes "no-tcp") rows) (first_of (codes "socket-dir") rows)
    (first_of (codes "socket-mode") rows)

-- the address of a node, from the options
abbrev pub address_asked : List Row → Option Address
address_asked rows =
    asked_address (number_of (codes "port") 1 65535 rows) (first_of (codes "socket") rows)

-- a group to run, from its options
unfoldable pub serve_task : List Row → Option Task
serve_task rows = do
  nodes ← number_of (codes "nodes") 1 MAX_NODES rows
  cap ← number_of (codes "cap") 1 MAX_CAP rows
  dir ← first_of (codes "dir") rows
  base ← number_of (codes "base-port") MIN_BASE_PORT MAX_BASE_PORT rows
  every ← number_of (codes "tick-ms") 1 MAX_TICK_MILLIS rows
  doors ← doors_asked rows
  Some (Serve nodes cap dir base every (service_asked rows) doors)

-- a message to submit, from its options and its text
unfoldable pub submit_task : List Row → Option Task
submit_task rows = do
  at ← address_asked rows
  client ← number_of (codes "client") 1 65535 rows
  number ← number_of (codes "number") 0 4294967295 rows
  text ← first_of (codes "TEXT") rows
  Some (Submit at client number text)

-- entries to read, from their options
unfoldable pub read_task : List Row → Option Task
read_task rows = do
  at ← address_asked rows
  from ← number_of (codes "from") 1 4294967295 rows
  max ← number_of (codes "max") 1 MOST_ENTRIES rows
  Some (Read at from max)

-- The nodes to ask: the one at the port or the socket, or all of a group. With a port or a socket
-- there is neither a base nor a number of nodes, and a group needs both.
abbrev pub asked_nodes : Option ℕ → Option Text → Option ℕ → Option ℕ → Option Task
asked_nodes port path None None = option_map (λ at. Status at 1) (asked_address port path)
asked_nodes None None (Some base) (Some nodes) =
    Some (Status (AtPort (base + CLIENT_PORT_OFFSET + 1)) nodes)
asked_nodes _ _ _ _ = None

-- nodes to ask for their state, from the options
unfoldable pub status_task : List Row → Option Task
status_task rows =
    asked_nodes (number_of (codes "port") 1 65535 rows) (first_of (codes "socket") rows)
    (number_of (codes "base-port") MIN_BASE_PORT MAX_BASE_PORT rows)
    (number_of (codes "nodes") 1 MAX_NODES rows)

-- texts to publish, from the options: one text, or those of an input
unfoldable pub publish_task : List Row → Option Task
publish_task rows = do
  at ← address_asked rows
  client ← number_of (codes "client") 1 65535 rows
  Some (Publish at client (first_of (codes "TEXT") rows))

-- the form with this name
abbrev pub form_named : Text → Option EntryForm
form_named word =
    if bytes_eq word (codes "text") then Some form.Text
    else if bytes_eq word (codes "hex") then Some form.Hex
    else if bytes_eq word (codes "json") then Some form.Json
    else None

-- the form of a log to follow: text if none is named
abbrev pub chosen_form : Option Text → Option EntryForm
chosen_form None = Some form.Text
chosen_form (Some word) = form_named word

-- a log to follow, from the options
unfoldable pub follow_task : List Row → Option Task
follow_task rows = do
  at ← address_asked rows
  form ← chosen_form (first_of (codes "format") rows)
  Some (Follow at (unwrap_or (number_of (codes "from") 1 4294967295 rows) 1) form)

-- the task of a subcommand, from what was found for it
abbrev pub task_named : Option (Text × List Row) → Option Task
task_named None = None
task_named (Some (name, rows)) =
    if bytes_eq name (codes "replay") then Some Replay
    else if bytes_eq name (codes "serve") then serve_task rows
    else if bytes_eq name (codes "submit") then submit_task rows
    else if bytes_eq name (codes "read") then read_task rows
    else if bytes_eq name (codes "status") then status_task rows
    else if bytes_eq name (codes "publish") then publish_task rows
    else if bytes_eq name (codes "follow") then follow_task rows
    else None

-- the parser finds no fault in these words, but the options that they have don't fit together
abbrev pub IsUnfit : List Text → Type 0
IsUnfit words = (faults_of words ≡ []) × (task_named (subcommand_of urbd_app words) ≡ None)

-- The status that a refused command line ends with: that of its first fault, or of refused memory.
-- It is 3 if the options don't fit together.
abbrev pub IsRefused : List Text → ℕ → Type 0
IsRefused words status = HasStatus (faults_of words) status ⊎ (IsUnfit words × (status ≡ 3))
