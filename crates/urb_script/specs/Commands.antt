-- What a line of a script asks for, and how it is written.
use Rattle.std.specs.Prelude.{◌≡◌, ◌≢◌, ℕ, ◌≤◌, List, [], ◌∷◌, length, codes}
use Rattle.std.specs.Fmt.{decimal}
use Rattle.urb_names.specs.LabelsAndContents.{Limits, IsLimits, Label, IsLabel}
use Rattle.urb_names.specs.PacketGrammar.{flags_number}
use Rattle.urb_names.specs.declared.flags.Flags.{Flags}
use Rattle.urb_stable.specs.declared.memory.Failure.{Failure}
use Rattle.urb_script.specs.ByteWords.{IsHexWord}
use Rattle.urb_script.specs.Lines.{words_of}
use Rattle.urb_script.specs.ValueWords.{IsNodeNumber, HasWord, payload_word, failure_word, name_text}
use Rattle.urb_script.specs.declared.input.TheConstants.{LONGEST_LINE}

-- A command of a script. Make the group. Submit a client's message at a node. Store the record that
-- a node holds, or make its store fail. Crash or restart a node. Stop all nodes at once and open
-- them again. Bring a node what another node has stored under a name, in a packet without flags or
-- with these flags. Bring a node any bytes. Make a node resend. Show a node's log. Show which nodes
-- have a name stored.
pub data Command : Type 0 where
  Group : (limits : Limits) → Command
  Submit : (node client number : ℕ) (payload : List ℕ) → Command
  Stored : (node : ℕ) → Command
  Fail : (node : ℕ) (failure : Failure) → Command
  Crash : (node : ℕ) → Command
  Restart : (node : ℕ) → Command
  Reopen : Command
  Arrive : (source node : ℕ) (name : Label) → Command
  ArriveFlagged : (source node : ℕ) (name : Label) (flags : Flags) → Command
  Raw : (node : ℕ) (bytes : List ℕ) → Command
  Tick : (node : ℕ) → Command
  Log : (node : ℕ) → Command
  Held : (name : Label) → Command

-- the first word of a command
abbrev pub keyword : Command → List ℕ
keyword (Group limits) = codes "group"
keyword (Submit node client number payload) = codes "submit"
keyword (Stored node) = codes "stored"
keyword (Fail node failure) = codes "fail"
keyword (Crash node) = codes "crash"
keyword (Restart node) = codes "restart"
keyword Reopen = codes "reopen"
keyword (Arrive source node name) = codes "arrive"
keyword (ArriveFlagged source node name flags) = codes "arrive2"
keyword (Raw node bytes) = codes "raw"
keyword (Tick node) = codes "tick"
keyword (Log node) = codes "log"
keyword (Held name) = codes "held"

-- the words after it
abbrev pub AreArguments : Command → List (List ℕ) → Type 0
AreArguments (Group limits) words = words ≡ decimal limits.n ∷ decimal limits.cap ∷ []
AreArguments (Submit node client number payload) words =
    words ≡ decimal node ∷ decimal client ∷ decimal number ∷ payload_word payload ∷ []
AreArguments (Stored node) words = words ≡ decimal node ∷ []
AreArguments (Fail node failure) words = words ≡ decimal node ∷ failure_word failure ∷ []
AreArguments (Crash node) words = words ≡ decimal node ∷ []
AreArguments (Restart node) words = words ≡ decimal node ∷ []
AreArguments Reopen words = words ≡ []
AreArguments (Arrive source node name) words =
    words ≡ decimal source ∷ decimal node ∷ decimal name.sender ∷ decimal name.seq ∷ []
AreArguments (ArriveFlagged source node name flags) words =
    words ≡ decimal source ∷ decimal node ∷ decimal name.sender ∷ decimal name.seq ∷ decimal
    (flags_number flags) ∷ []
AreArguments (Raw node bytes) words =
    (word : List ℕ) × (words ≡ decimal node ∷ word ∷ []) × IsHexWord bytes word
AreArguments (Tick node) words = words ≡ decimal node ∷ []
AreArguments (Log node) words = words ≡ decimal node ∷ []
AreArguments (Held name) words = words ≡ name_text name ∷ []

-- the words of a command, the first and those after it
abbrev pub IsSpelled : List (List ℕ) → Command → Type 0
IsSpelled [] asked = ⊥
IsSpelled (first ∷ others) asked = (first ≡ keyword asked) × AreArguments asked others

-- what arrives at a node comes from another node
pub record IsRoute (q p : ℕ) : Type 0 where
  pub source : IsNodeNumber q
  pub node : IsNodeNumber p
  pub apart : q ≢ p

-- each word is within its range
abbrev pub InRange : Command → Type 0
InRange (Group limits) = IsLimits limits
InRange (Submit node client number payload) =
    IsNodeNumber node × (1 ≤ client) × (client ≤ 65535) × (number ≤ 4294967295) × HasWord payload
InRange (Stored node) = IsNodeNumber node
InRange (Fail node failure) = IsNodeNumber node
InRange (Crash node) = IsNodeNumber node
InRange (Restart node) = IsNodeNumber node
InRange Reopen = Unit {0}
InRange (Arrive source node name) = IsRoute source node × IsLabel name
InRange (ArriveFlagged source node name flags) = IsRoute source node × IsLabel name
InRange (Raw node bytes) = IsNodeNumber node
InRange (Tick node) = IsNodeNumber node
InRange (Log node) = IsNodeNumber node
InRange (Held name) = IsLabel name

-- the line is this command: at most `LONGEST_LINE` bytes, the command's words with one space
-- between them, each within its range
pub record Spells (line : List ℕ) (asked : Command) : Type 0 where
  pub short : length line ≤ LONGEST_LINE
  pub words : IsSpelled (words_of line) asked
  pub range : InRange asked
