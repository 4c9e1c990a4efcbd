-- How an answer's text is made.
use Rattle.std.specs.Prelude.{◌≡◌, ◌≢◌, ℕ, List, ◌++◌}
use Rattle.urb_names.specs.declared.refusal.Refusal.TheVariants as refusal
use Rattle.urb_node.specs.Replies.{Reply}
use Rattle.urb_node.specs.Replies as reply
use Rattle.urb_script.specs.Texts.{reply_text}

-- a reply is written at the end of a text, and doesn't say that memory was refused
abbrev pub IsToldAs : Reply → List ℕ → List ℕ → Type 0
IsToldAs said old new = (new ≡ old ++ reply_text said) × (said ≢ reply.Refused refusal.NoMemory)
