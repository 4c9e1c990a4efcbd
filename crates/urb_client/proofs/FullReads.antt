-- A buffer that is filled piece by piece.
use Rattle.std.proofs.Common.{◌≡◌, ℕ, ◌+◌, ◌-◌, ◌≤◌, List, ◌++◌, Option, arith, length, take}
use Rattle.std.proofs.Common.{slice_range, sym, ap, ◌∙◌, subst, le_refl, drop_at, length-take-le}
use Rattle.std.proofs.lemmas.Slice.{take-put_mid_below}
use Rattle.std.specs.Io.KnownBytes.{Consumes}
use Rattle.std.proofs.KnownBytes.{Consumes-trans}
use borrow.Rule.Slice.PartMut.{put_mid, post_of}
use lib.Seq.{take-add, take-append-le}

take_split : (a b : ℕ) (old new : List ℕ) → a ≤ b → take a new ≡ take a old
    → take a old ++ slice_range new a b ≡ take b new
take_split a b old new h front =
    let same : a + (b - a) ≡ b = omega arith in
    ap (λ l. l ++ slice_range new a b) (sym front) ∙ sym (take-add a (b - a) new)
    ∙ ap (λ n. take n new) same

slice_range-put_mid : (a k n : ℕ) (xs ys : List ℕ) → a ≤ length xs → n ≤ length ys
    → slice_range (put_mid a k xs ys) a (a + n) ≡ take n ys
slice_range-put_mid a k n xs ys within fits =
    let same : (a + n) - a ≡ n = omega arith in
    let after = post_of a k xs in
    ap (take ((a + n) - a)) (drop_at (take a xs) (ys ++ after) a (length-take-le a xs within))
    ∙ ap (λ m. take m (ys ++ after)) same ∙ take-append-le n ys after fits

-- what is read into the rest of a buffer follows what was read into its front
pub filled_more : (known mid new : Option (List ℕ)) (at k n : ℕ) (old piece : List ℕ)
    → at ≤ length old → n ≤ length piece → Consumes known mid (take at old)
    → Consumes mid new (take n piece)
    → Consumes known new (take (at + n) (put_mid at k old piece))
filled_more known mid new at k n old piece within fits before now_read =
    let part = slice_range-put_mid at k n old piece within fits in
    let joined =
    take_split at (at + n) old (put_mid at k old piece) (omega arith)
    (take-put_mid_below at k old piece at (le_refl _) within) in
    subst (Consumes known new) (ap (λ l. take at old ++ l) (sym part) ∙ joined)
    (Consumes-trans _ _ _ _ _ before now_read)
