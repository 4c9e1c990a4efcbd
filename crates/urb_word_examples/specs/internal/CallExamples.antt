-- Words of the worked examples: calls of simple nodes, and readers.
use Rattle.std.specs.Prelude.{List, None, Option, Some, [], suc, ℕ, ◌+◌, ◌≡◌}
use Rattle.urb_client.specs.Requests.{Ask, Asked, Read, Submit}
use Rattle.urb_client.specs.Responses.{Done, Refused, Said}
use Rattle.urb_client.specs.declared.request.Control.TheVariants.{Status}
use Rattle.urb_options.specs.Addresses.{Address}
use Rattle.urb_cli.specs.Following.{Reader}
use Rattle.urb_cli.specs.Publishing.{Progress}

-- a step that adds a number
abbrev pub adds : ℕ → ℕ → ℕ → Type 0
adds old x new = new ≡ old + x

-- calls that count themselves, whatever they are answered
abbrev pub counts : ℕ → Asked → Option Said → ℕ → Type 0
counts old asked answer new = new ≡ suc old

-- the call after five others is answered, and no call before it
abbrev pub answers_sixth : ℕ → Asked → Option Said → ℕ → Type 0
answers_sixth old asked answer new = (old ≡ 5) × (answer ≡ Some Done) × (new ≡ 6)

-- no call ends
abbrev pub never : ℕ → Address → Asked → Option Said → ℕ → Type 0
never old at asked answer new = ⊥

-- each call leaves everything as it is
abbrev pub stays : ℕ → Address → Asked → Option Said → ℕ → Type 0
stays old at asked answer new = new ≡ old

-- the question for a node's state
abbrev pub asking : Asked
asking = Ask Status

-- a reader at this place that has printed these bytes
abbrev pub reader : ℕ → List ℕ → Reader ℕ
reader place output = record { caller = 0; place = place; output = Some output }

-- calls that never end
abbrev pub is_silent : ℕ → Asked → Option Said → ℕ → Type 0
is_silent old asked answer new = ⊥

-- calls that leave their caller as it is, whatever they are answered
abbrev pub is_steady : ℕ → Asked → Option Said → ℕ → Type 0
is_steady old asked answer new = new ≡ old

-- calls that leave their caller as it is, and get no response
abbrev pub is_mute : ℕ → Address → Asked → Option Said → ℕ → Type 0
is_mute old at asked answer new = (answer ≡ None) × (new ≡ old)

-- calls that tell client 7 that its next number is 1, and answer nothing else
abbrev pub tells_number : ℕ → Asked → Option Said → ℕ → Type 0
tells_number old asked answer new =
    (asked ≡ Submit 7 0 []) × (answer ≡ Some (Refused 7 1)) × (new ≡ old)

-- calls that ask for the entry at place 5, and are refused
abbrev pub refuses_fifth : ℕ → Asked → Option Said → ℕ → Type 0
refuses_fifth old asked answer new = (asked ≡ Read 5 1) × (answer ≡ Some (Refused 3 0))

-- any text is given
abbrev pub any_text : ℕ → List ℕ → ℕ → Type 0
any_text old text new = new ≡ old

-- only an empty text is given
abbrev pub empty_text : ℕ → List ℕ → ℕ → Type 0
empty_text old text new = text ≡ []

-- no text is given
abbrev pub no_text : ℕ → List ℕ → ℕ → Type 0
no_text old text new = ⊥

-- the texts may end at any time
abbrev pub any_end : ℕ → ℕ → Type 0
any_end old new = new ≡ old

-- the texts never end
abbrev pub no_end : ℕ → ℕ → Type 0
no_end old new = ⊥

-- a publisher whose next message has this number, with this output
abbrev pub progress : ℕ → Option (List ℕ) → Progress ℕ ℕ
progress number output = record { texts = 0; caller = 0; number = number; output = output }
