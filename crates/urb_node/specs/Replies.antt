-- The replies to events at a node.
use Rattle.std.specs.Prelude.{Bool, List, [], ℕ}
use Rattle.urb_names.specs.CarriedPackets.{Carried}
use Rattle.urb_names.specs.LabelsAndContents.{Label}
use Rattle.urb_names.specs.declared.refusal.Refusal.{Refusal}
use Rattle.urb_node.specs.declared.answer.Answer.{Answer}
use Rattle.urb_node.specs.declared.answer.Answer.TheVariants as answer

-- the effect of a stored record
pub record Done : Type 0 where
  pub accepted : Bool  -- whether it is a pending record of the node's own
  pub name : Label
  pub sent : List Carried
  pub released : ℕ  -- how many names it delivers

-- A draft was made; an answer was given at once; a record was stored; or a tick sent packets. Or
-- node p went down or came up, or the event was refused and nothing was done.
pub data Reply : Type 0 where
  Drafted : (x : Label) (position : ℕ) → Reply
  Same : (told : Answer (List Carried)) → Reply
  Stored : (done : Done) → Reply
  Sent : (packets : List Carried) → Reply
  WentDown : (p : ℕ) → Reply
  Up : (p : ℕ) → Reply
  Refused : (refusal : Refusal) → Reply

-- the packets of an answer
abbrev pub packets_with : Answer (List Carried) → List Carried
packets_with (answer.Accepted x) = []
packets_with (answer.Noted x) = []
packets_with (answer.Again x) = []
packets_with (answer.Answered x packets) = packets

-- the packets of a reply
abbrev pub packets_in : Reply → List Carried
packets_in (Drafted x position) = []
packets_in (Same told) = packets_with told
packets_in (Stored done) = done.sent
packets_in (Sent packets) = packets
packets_in (WentDown p) = []
packets_in (Up p) = []
packets_in (Refused refusal) = []
