-- Lines and words by their separator.
use Rattle.std.proofs.Common.{◌≤◌, ◌≡◌, ◌≢◌, ℕ, ◌+◌, ◌-◌, ◌<◌, ◌==◌, List, [], ◌∷◌, ◌++◌, Option}
use Rattle.std.proofs.Common.{Some, None, Bool, true, false, cond, ltb, length, take, drop, refl}
use Rattle.std.proofs.Common.{sym, ap, ◌∙◌, subst, arith, le_refl, length-append, append-nil}
use Rattle.std.proofs.Common.{append_assoc}
use Rattle.std.proofs.lemmas.Bool.Decides.{nat_tests}
use Rattle.std.specs.List.{All, position, position_or_len, slice_split, onto_first}
use Rattle.std.proofs.lemmas.Bool.{ltb-true, ltb-false}
use Rattle.std.proofs.lemmas.Option.{cond_some}
use Rattle.std.proofs.lemmas.Slice.{between_to_end}
use Rattle.std.proofs.lemmas.List.Elements.{All-from_get_or, All-head, All-tail, All-push}
use Rattle.std.proofs.lemmas.List.Sums.{fails_before_first}
use Rattle.std.proofs.lemmas.List.Splits.{slice_split_first, slice_split_none, slice_split_at}
use Rattle.std.proofs.lemmas.List.Splits.{slice_split-cons_no, length-slice_split}
use Rattle.urb_script.specs.Lines.{lines_of, words_of, ended_lines, last_line, IsOneLine}
use Rattle.urb_script.specs.internal.LineReads.{ReadsLine, TookPart}
use Rattle.std.proofs.KnownBytes.{Consumes-nil}
use Rattle.urb_script.specs.declared.input.LineRead.TheVariants.{Whole, Long}
use Rattle.std.specs.Io.KnownBytes.{Consumes, IsAtEnd}
use Rattle.urb_script.specs.declared.input.TheConstants.{LONGEST_LINE}

-- a word, a space and the words after it
pub first_of_words : (text : List ℕ) (at : ℕ) → position (λ byte. byte == 32) text ≡ Some at
    → words_of text ≡ take at text ∷ words_of (take (length text - (at + 1)) (drop (at + 1) text))
first_of_words text at e =
    let found =
    cond_some (ltb (position_or_len (λ byte. byte == 32) text) (length text))
    (position_or_len (λ byte. byte == 32) text) at e in
    let split = slice_split_first (λ byte. byte == 32) text 0 (ltb-true _ _ found.0) in
    rw (between_to_end text (at + 1) (length text) (le_refl (length text)))
    (subst (λ n. words_of text ≡ take n text ∷ words_of (drop (n + 1) text)) found.1 split)

cond_none : (b : Bool) (n : ℕ) → cond b (Some n) None ≡ None → b ≡ false
cond_none true n e = cc
cond_none false n e = refl

-- a word alone
pub only_word : (text : List ℕ) → position (λ byte. byte == 32) text ≡ None
    → words_of text ≡ text ∷ []
only_word text e =
    let past =
    ltb-false _ _ (cond_none (ltb (position_or_len (λ byte. byte == 32) text) (length text))
    (position_or_len (λ byte. byte == 32) text) e) in
    slice_split_none (λ byte. byte == 32) text
    (All-from_get_or (λ byte. (byte == 32) ≡ false) text 0
    (λ k within. fails_before_first (λ byte. byte == 32) text k 0 (omega arith)))

some_of : (pieces : List (List ℕ)) → 0 < length pieces
    → (first : List ℕ) × (others : List (List ℕ)) × (pieces ≡ first ∷ others)
some_of [] some = absurd (omega (arith, some))
some_of (first ∷ others) some = (first, others, refl)

abbrev Plain : List ℕ → Type 0
Plain line = All (λ byte. (byte == 10) ≡ false) line

-- a text has a piece
some_piece : (text : List ℕ) → (first : List ℕ) × (others : List (List ℕ))
    × (slice_split (λ byte. byte == 10) text ≡ first ∷ others)
some_piece text =
    some_of (slice_split (λ byte. byte == 10) text)
    (omega (arith, length-slice_split (λ byte. byte == 10) text))

lines_whole : (line rest : List ℕ) → Plain line
    → lines_of (line ++ 10 ∷ rest) ≡ line ∷ lines_of rest
lines_whole line rest plain =
    let piece = some_piece rest in
    rw (slice_split_at (λ byte. byte == 10) line 10 rest plain refl, piece.2) refl

lines_last : (line : List ℕ) → Plain line → 0 < length line → lines_of line ≡ line ∷ []
lines_last [] plain some = absurd (omega (arith, some))
lines_last (byte ∷ bytes) plain some =
    rw (slice_split_none (λ byte. byte == 10) (byte ∷ bytes) plain) refl

front_stays : (front rest first : List ℕ) (others : List (List ℕ)) → Plain front
    → slice_split (λ byte. byte == 10) rest ≡ first ∷ others
    → slice_split (λ byte. byte == 10) (front ++ rest) ≡ (front ++ first) ∷ others
front_stays [] rest first others plain e = e
front_stays (byte ∷ bytes) rest first others plain e =
    slice_split-cons_no (λ byte. byte == 10) byte (bytes ++ rest)
    (All-head (λ byte. (byte == 10) ≡ false) byte bytes plain)
    ∙ ap (onto_first byte) (front_stays bytes rest first others
    (All-tail (λ byte. (byte == 10) ≡ false) byte bytes plain) e)

first_ended : (first : List ℕ) (others : List (List ℕ)) → 0 < length first
    → (more : List (List ℕ)) × (ended_lines (first ∷ others) ≡ first ∷ more)
first_ended [] others some = absurd (omega (arith, some))
first_ended (byte ∷ bytes) [] some = ([], refl)
first_ended (byte ∷ bytes) (second ∷ others) some = (ended_lines (second ∷ others), refl)

lines_long : (front rest : List ℕ) → Plain front → LONGEST_LINE < length front
    → (long : List ℕ) × (others : List (List ℕ)) × (lines_of (front ++ rest) ≡ long ∷ others)
    × (LONGEST_LINE < length long)
lines_long front rest plain long =
    let piece = some_piece rest in
    let size : LONGEST_LINE < length (front ++ piece.0) =
    omega (arith, long, length-append front piece.0) in
    let ended = first_ended (front ++ piece.0) piece.1 (omega (arith, size)) in (
      front ++ piece.0,
      ended.0,
      ap ended_lines
          (front_stays front rest piece.0 piece.1 plain piece.2) ∙ ended.1,
      size,
    )

-- a line with its LF
pub read_whole : (known mid left : Option (List ℕ)) (line : List ℕ) → Plain line
    → Consumes known mid line → Consumes mid left (10 ∷ []) → ReadsLine known left line Whole
read_whole None mid left line plain c d = tt
read_whole (Some bytes) None left line plain c d = absurd c
read_whole (Some bytes) (Some more) None line plain c d = absurd d
read_whole (Some bytes) (Some more) (Some rest) line plain c d =
    (rest, refl, ap lines_of (c ∙ ap (λ more. line ++ more) d) ∙ lines_whole line rest plain)

-- the last line, with no LF
pub read_last : (known mid left : Option (List ℕ)) (line : List ℕ) → Plain line
    → Consumes known mid line → Consumes mid left [] → IsAtEnd left → 0 < length line
    → ReadsLine known left line Whole
read_last None mid left line plain c d e some = tt
read_last (Some bytes) None left line plain c d e some = absurd c
read_last (Some bytes) (Some more) None line plain c d e some = absurd d
read_last (Some bytes) (Some more) (Some rest) line plain c d e some = (
  rest,
  refl,
  ap lines_of (c ∙ ap (λ more. line ++ more) (d ∙ e) ∙ append-nil line)
      ∙ lines_last line plain some ∙ sym (ap (λ rest. line ∷ lines_of rest) e),
)

-- the front of a line that is too long
pub read_long : (known left : Option (List ℕ)) (line : List ℕ) → Plain line
    → Consumes known left line → LONGEST_LINE < length line → ReadsLine known left line Long
read_long None left line plain c long = tt
read_long (Some bytes) None line plain c long = absurd c
read_long (Some bytes) (Some rest) line plain c long =
    let found = lines_long line rest plain long in
    (found.0, found.1, ap lines_of c ∙ found.2, found.3)

-- one more byte that is no LF
pub plain_more : (line more : List ℕ) (byte : ℕ) → Plain line → byte ≢ 10 → more ≡ line ++ byte ∷ []
    → Plain more
plain_more line more byte plain differs e =
    let test : (byte == 10) ≡ false = grind (arith, nat_tests) in
    rw e (All-push (λ byte. (byte == 10) ≡ false) line byte plain test)

last_short : (line : List ℕ) → length (last_line line) ≤ 1
last_short [] = omega arith
last_short (byte ∷ bytes) = omega arith

plain_line : (line : List ℕ) → Plain line → IsOneLine line
plain_line line plain = rw (slice_split_none (λ byte. byte == 10) line plain) (last_short line)

took : (P : List ℕ → Type 0) (known mid left : Option (List ℕ)) (front back : List ℕ)
    → Consumes known mid front → Consumes mid left back → P (front ++ back) → TookPart P known left
took P None mid left front back c d p = tt
took P (Some bytes) None left front back c d p = absurd c
took P (Some bytes) (Some more) None front back c d p = absurd d
took P (Some bytes) (Some more) (Some rest) front back c d p = (
  front ++ back,
  rest,
  c ∙ ap (λ more. front ++ more) d ∙ sym (append_assoc front back rest),
  refl,
  p,
)

-- with a last line, which has no LF, at most one line was taken
pub took_last : (known mid left : Option (List ℕ)) (line : List ℕ) → Plain line
    → Consumes known mid line → Consumes mid left [] → TookPart IsOneLine known left
took_last known mid left line plain c d =
    took IsOneLine known mid left line [] c d
    (subst IsOneLine (sym (append-nil line)) (plain_line line plain))

-- with a line and its LF, at most one line was taken
pub took_whole : (known mid left : Option (List ℕ)) (line : List ℕ) → Plain line
    → Consumes known mid line → Consumes mid left (10 ∷ []) → TookPart IsOneLine known left
took_whole known mid left line plain c d =
    took IsOneLine known mid left line (10 ∷ []) c d (rw (lines_whole line [] plain) (omega arith))

-- with the front of a line that is too long, at most one line was taken
pub took_long : (known left : Option (List ℕ)) (line : List ℕ) → Plain line
    → Consumes known left line → TookPart IsOneLine known left
took_long known left line plain c =
    took IsOneLine known left left line [] c (Consumes-nil left)
    (subst IsOneLine (sym (append-nil line)) (plain_line line plain))
