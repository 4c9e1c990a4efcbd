-- How the reader of a script goes from line to line.
use Rattle.std.specs.Prelude.{◌≡◌, ◌<◌, ◌++◌, ℕ, IfSome, List, [], ◌∷◌, length, Option, Some, None}
use Rattle.std.specs.Borrow.{Bor}
use Rattle.urb_script.specs.declared.input.TheConstants.{LONGEST_LINE}
use Rattle.urb_script.specs.declared.input.LineRead.{LineRead}
use Rattle.urb_script.specs.declared.input.LineRead.TheVariants.{End, Whole, Long}
use Rattle.urb_script.specs.Lines.{lines_of, words_of}

-- the words in the rest of a line; the empty list if nothing is left
abbrev pub words_left : Option (Bor (List ℕ)) → List (List ℕ)
words_left None = []
words_left (Some rest) = words_of rest.now

-- What was read of the known bytes: nothing is left, or the first line, or the front of a first
-- line that is too long.
abbrev pub ReadsLine : Option (List ℕ) → Option (List ℕ) → List ℕ → LineRead → Type 0
ReadsLine known left line End = IfSome known (λ bytes. bytes ≡ [])
ReadsLine known left line Whole =
    IfSome known (λ bytes. (rest : List ℕ) × (left ≡ Some rest)
    × (lines_of bytes ≡ line ∷ lines_of rest))
ReadsLine known left line Long =
    IfSome known (λ bytes. (long : List ℕ) × (others : List (List ℕ))
    × (lines_of bytes ≡ long ∷ others) × (LONGEST_LINE < length long))

-- what was read of the front of the known bytes, and what is left of them
abbrev pub TookPart : (List ℕ → Type 0) → Option (List ℕ) → Option (List ℕ) → Type 0
TookPart P known left =
    IfSome known (λ bytes. (part : List ℕ) × (rest : List ℕ) × (bytes ≡ part ++ rest)
    × (left ≡ Some rest) × P part)
