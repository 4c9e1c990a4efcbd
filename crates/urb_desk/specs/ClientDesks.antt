-- What the desk of a client's session answers.
use Rattle.std.specs.Prelude.{Bool, false, not, true, ◌||◌, ◌≡◌}
use Rattle.urb_client.specs.declared.format.TheConstants.{UNKNOWN_OPCODE}
use Rattle.urb_client.specs.Requests.{Ask, Asked}
use Rattle.urb_client.specs.declared.request.Control.TheVariants.{Crash, Restart}
use Rattle.urb_client.specs.Responses.{Refused, Said}
use Rattle.urb_group.specs.GroupViews.{GroupView}
use Rattle.urb_desk.specs.Desks.{AnswersAt, DeskView, RefusedAt}

-- a client's desk: its node's desk, and whether the client may crash and restart the node
pub record ClientDeskView : Type 0 where
  pub desk : DeskView
  pub may_crash : Bool

-- the request crashes or restarts the node
abbrev pub is_of_a_crash : Asked → Bool
is_of_a_crash (Ask Crash) = true
is_of_a_crash (Ask Restart) = true
is_of_a_crash _ = false

-- the node takes the request from its clients
abbrev pub is_taken : Bool → Asked → Bool
is_taken may_crash asked = may_crash || not (is_of_a_crash asked)

-- the response to a request that the node doesn't take: the same as to an unknown opcode
abbrev pub not_taken : Said
not_taken = Refused 19 UNKNOWN_OPCODE

-- A request that the node takes is answered by the node's desk. Any other is refused, and the node's
-- desk is as it was.
abbrev pub AnswersClient : GroupView → ClientDeskView → Asked → Said → ClientDeskView → Type 0
AnswersClient opened before asked said after =
    (after.may_crash ≡ before.may_crash)
    × (is_taken before.may_crash asked ≡ true → AnswersAt opened before.desk asked said after.desk)
    × (is_taken before.may_crash asked ≡ false → (after.desk ≡ before.desk) × (said ≡ not_taken))

-- Memory may be refused only for a request that the node takes. It leaves what it leaves of the
-- node's desk.
abbrev pub RefusedClient : GroupView → ClientDeskView → Asked → ClientDeskView → Type 0
RefusedClient opened before asked after =
    (after.may_crash ≡ before.may_crash) × (is_taken before.may_crash asked ≡ true)
    × RefusedAt opened before.desk asked after.desk
