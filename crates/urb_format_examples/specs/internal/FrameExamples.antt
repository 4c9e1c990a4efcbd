-- Words of the worked examples: entries, frames, and desks that answer in a simple way.
use Rattle.std.specs.Prelude.{List, [], suc, ℕ, ◌∷◌, ◌≡◌}
use Rattle.urb_names.specs.LabelsAndContents.{Content, Label}
use Rattle.urb_names.specs.Names.{name}
use Rattle.urb_client.specs.Requests.{Asked}
use Rattle.urb_client.specs.Responses.{Done, Said}
use Rattle.urb_format_examples.specs.internal.PacketExamples.{message}

-- a small entry: the message of node 1 with this number
abbrev pub small : ℕ → Label × Content
small number = (name 1 number, message 7 number "a")

-- an entry of node 1 with this message
abbrev pub holding_message : Content → Label × Content
holding_message m = (name 1 1, m)

-- a desk that counts what it is asked, and says each time that this is done
abbrev pub counts : ℕ → Asked → Said → ℕ → Type 0
counts old asked said new = (said ≡ Done) × (new ≡ suc old)

-- a desk that answers nothing
abbrev pub is_silent : ℕ → Asked → Said → ℕ → Type 0
is_silent old asked said new = ⊥

-- a desk that refused memory doesn't change
abbrev pub stays : ℕ → Asked → ℕ → Type 0
stays old asked new = new ≡ old

-- the frame that asks for the state of the node
abbrev pub asking_status : List ℕ
asking_status = 0 ∷ 1 ∷ 3 ∷ []

-- a frame without bytes
abbrev pub empty_frame : List ℕ
empty_frame = 0 ∷ 0 ∷ []
