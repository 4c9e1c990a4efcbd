-- The lines of a script, and the words of a line.
use Rattle.std.specs.Prelude.{◌≡◌, ◌≤◌, false, ℕ, List, [], ◌∷◌, length, ◌==◌}
use Rattle.std.specs.List.{slice_split, All}

-- a last piece, if it is a line
abbrev pub last_line : List ℕ → List (List ℕ)
last_line [] = []
last_line (byte ∷ bytes) = (byte ∷ bytes) ∷ []

-- Pieces that each had an end, except the last. If the last piece is empty, it is no line.
abbrev pub ended_lines : List (List ℕ) → List (List ℕ)
ended_lines [] = []
ended_lines (last ∷ []) = last_line last
ended_lines (first ∷ second ∷ others) = first ∷ ended_lines (second ∷ others)

-- the lines, each ended by LF, which the last line may lack
abbrev pub lines_of : List ℕ → List (List ℕ)
lines_of bytes = ended_lines (slice_split (λ byte. byte == 10) bytes)

-- the words, with one space between them
abbrev pub words_of : List ℕ → List (List ℕ)
words_of line = slice_split (λ byte. byte == 32) line

-- the bytes have no LF
abbrev pub IsPlain : List ℕ → Type 0
IsPlain bytes = All (λ byte. (byte == 10) ≡ false) bytes

-- the bytes are at most one line
abbrev pub IsOneLine : List ℕ → Type 0
IsOneLine bytes = length (lines_of bytes) ≤ 1
