-- What a node answers to requests at once: to a submit, a crash and a restart.
use Rattle.std.specs.List.{position_or_len}
use Rattle.std.specs.Prelude.{Err, List, None, Ok, Option, Result, Some, bytes_eq, find}
use Rattle.std.specs.Prelude.{if◌then◌else◌, length, nat_lt, not, suc, ℕ, ◌==◌}
pub use Rattle.urb_group.specs.declared.state.State.{State}
use Rattle.urb_group.specs.declared.state.State.TheVariants as state
use Rattle.urb_names.specs.LabelsAndContents.{Content, Limits}
use Rattle.urb_names.specs.Pairs.{is_numbered, next_number}
use Rattle.urb_names.specs.declared.limits.TheConstants.{MAX_PAYLOAD}
pub use Rattle.urb_names.specs.declared.refusal.Refusal.{Refusal}
use Rattle.urb_names.specs.declared.refusal.Refusal.TheVariants as refusal

-- ACCEPTED with a number, or a refusal; `None` if the node has to write the message first
abbrev pub Answer : Type 0
Answer = Option (Result ℕ Refusal)

-- The answer by the first message of the list with the same client and number. The same payload is
-- accepted under that message's place. Without such a message, it is the client's next, or refused.
abbrev pub answer_by : Limits → List Content → Content → Option Content → Answer
answer_by size list m (Some first) =
    if bytes_eq first.payload m.payload
    then Some (Ok (suc (position_or_len (is_numbered m.client m.number) list)))
    else Some (Err refusal.Conflict)
answer_by size list m None =
    if not (m.number == next_number m.client list)
    then Some (Err (refusal.Gap (next_number m.client list)))
    else (if not (nat_lt (length list) size.cap) then Some (Err refusal.Full) else None)

-- the answer to a submit, given what the node has accepted and its state
abbrev pub answer_to : Limits → List Content → State → Content → Answer
answer_to size list state.Down m = Some (Err refusal.Down)
answer_to size list state.Storing m = Some (Err refusal.Busy)
answer_to size list state.Ready m =
    if nat_lt MAX_PAYLOAD (length m.payload) then Some (Err refusal.TooLong)
    else answer_by size list m (find (is_numbered m.client m.number) list)

-- the answer to a crash; `None` for DONE
abbrev pub crash_answer : State → Option Refusal
crash_answer state.Down = Some refusal.Down
crash_answer state.Storing = None
crash_answer state.Ready = None

-- why a restart is refused: the node isn't down, or its disk gave back something else
abbrev pub restart_refusal : State → Refusal
restart_refusal state.Down = refusal.BadImage
restart_refusal state.Storing = refusal.NotDown
restart_refusal state.Ready = refusal.NotDown
