-- Values as words of a line.
use Rattle.std.specs.Prelude.{◌≡◌, ℕ, ◌≤◌, List, [], ◌∷◌, ◌++◌, codes}
use Rattle.std.specs.List.{AllByRecursion}
use Rattle.std.specs.Fmt.{decimal}
use Rattle.urb_names.specs.declared.limits.TheConstants.{MAX_NODES}
use Rattle.urb_names.specs.LabelsAndContents.{Label}
use Rattle.urb_stable.specs.declared.memory.Failure.{Failure}
use Rattle.urb_stable.specs.declared.memory.Failure.TheVariants.{Old, New}

-- a node's number is 1 to MAX_NODES
abbrev pub IsNodeNumber : ℕ → Type 0
IsNodeNumber p = (1 ≤ p) × (p ≤ MAX_NODES)

-- a name: the sender, a full stop, the number
abbrev pub name_text : Label → List ℕ
name_text x = decimal x.sender ++ (46 ∷ decimal x.seq)

-- a byte from ! to ~
abbrev pub IsPrinted : ℕ → Type 0
IsPrinted byte = (33 ≤ byte) × (byte ≤ 126)

-- a payload as a word: a hyphen alone is the empty one
abbrev pub payload_word : List ℕ → List ℕ
payload_word [] = 45 ∷ []
payload_word (byte ∷ bytes) = byte ∷ bytes

-- a payload that can be written as a word: printed bytes, and not a hyphen alone
abbrev pub HasWord : List ℕ → Type 0
HasWord payload = AllByRecursion IsPrinted payload × (payload ≡ 45 ∷ [] → ⊥)

-- what storage kept of a record whose store failed: the old list, or the new one
abbrev pub failure_word : Failure → List ℕ
failure_word Old = codes "old"
failure_word New = codes "new"
