-- The two parts of a sender's entries: those without a gap, and those above it.
use Rattle.urb_window.proofs.Common.{AllByRecursion, AreOver, IsRow, Label, List, Row, [], above_of}
use Rattle.urb_window.proofs.Common.{ap, arith, cond-false, cond-true, count_by, counted_from}
use Rattle.urb_window.proofs.Common.{entries_from, false_from_ne_true, filter, le-ltb, length}
use Rattle.urb_window.proofs.Common.{length-map, map, named, nat_le, nat_lt, refl, row_at, suc, sym}
use Rattle.urb_window.proofs.Common.{window_of, ℕ, ◌&&◌, ◌++◌, ◌+◌, ◌-◌, ◌<◌, ◌==◌, ◌∙◌, ◌∷◌, ◌≡◌}
use Rattle.urb_window.proofs.Common.{◌≤◌}
use Rattle.std.proofs.lemmas.Bool.{le-leb, leb-true, lt-ltb}
use Rattle.std.proofs.lemmas.List.Sums.{length-filter}
use Rattle.urb_window.proofs.NameSearches.{all_at, low_is, part_rows}

module _ {V : Type 0} where
  above_fails : (j k : ℕ) (above : List (ℕ × V)) → AreOver j above → k ≤ j
      → filter (λ p. nat_le p.0 k) above ≡ []
  above_fails j k [] o l = refl
  above_fails j k (p ∷ ps) o l =
      let first : j < p.0 = o.0 in
      cond-false (nat_le p.0 k) (p ∷ filter (λ p. nat_le p.0 k) ps) (filter (λ p. nat_le p.0 k) ps)
      (false_from_ne_true _ (λ e. let m : p.0 ≤ k = leb-true p.0 k e in
      (let no : ⊥ = omega arith in no)))
      ∙ above_fails p.0 k ps o.2 (omega arith)

  low_passes : (first k : ℕ) (low : List V) (above : List (ℕ × V)) → first + length low ≡ suc k
      → filter (λ p. nat_le p.0 k) above ≡ []
      → filter (λ p. nat_le p.0 k) (counted_from first low ++ above) ≡ counted_from first low
  low_passes first k [] above e none = none
  low_passes first k (v ∷ low) above e none =
      cond-true (nat_le first k) _ _ (le-leb first k (omega arith))
      ∙ ap (λ ps. (first, v) ∷ ps) (low_passes (suc first) k low above (omega arith) none)

  above_passes : (j k : ℕ) (above : List (ℕ × V)) → AreOver j above → k ≤ j
      → filter (λ p. nat_lt k p.0) above ≡ above
  above_passes j k [] o l = refl
  above_passes j k (p ∷ ps) o l =
      let first : j < p.0 = o.0 in
      cond-true (nat_lt k p.0) (p ∷ filter (λ p. nat_lt k p.0) ps) (filter (λ p. nat_lt k p.0) ps)
      (lt-ltb k p.0 (omega arith)) ∙ ap (λ qs. p ∷ qs) (above_passes p.0 k ps o.2 (omega arith))

  low_fails : (first k : ℕ) (low : List V) (above : List (ℕ × V)) → first + length low ≡ suc k
      → filter (λ p. nat_lt k p.0) above ≡ above
      → filter (λ p. nat_lt k p.0) (counted_from first low ++ above) ≡ above
  low_fails first k [] above e all = all
  low_fails first k (v ∷ low) above e all =
      cond-false (nat_lt k first) _ _ (le-ltb k first (omega arith))
      ∙ low_fails (suc first) k low above (omega arith) all

  values_counted : (s first : ℕ) (low : List V)
      → map (λ e. e.1) (named s (counted_from first low)) ≡ low
  values_counted s first [] = refl
  values_counted s first (v ∷ low) = ap (λ vs. v ∷ vs) (values_counted s (suc first) low)

  -- the borrowed values are those of the lower part
  pub window_is : (rows : List (Row V)) (s : ℕ) → AllByRecursion IsRow rows → 1 ≤ s
      → window_of s (entries_from 1 rows) ≡ (row_at rows s).low
  window_is rows s h l =
      let row = row_at rows s in
      let k = length row.low in
      let es = entries_from 1 rows in
      let is : IsRow row = all_at rows (s - 1) h in
      ap (λ (n : ℕ). map (λ (e : Label × V). e.1)
      (filter (λ (e : Label × V). (e.0.sender == s) && nat_le e.0.seq n) es))
      (low_is rows s h l)
      ∙ (ap (map (λ (e : Label × V). e.1)) (part_rows 1 rows s (λ e. nat_le e.0.seq k) l)
      ∙ (ap (λ ps. map (λ (e : Label × V). e.1) (named s ps))
      (low_passes 1 k row.low row.above (omega arith)
      (above_fails (k + 1) k row.above is.above (omega arith)))
      ∙ values_counted s 1 row.low))

  -- as many values are above the gap as the upper part holds
  pub above_is : (rows : List (Row V)) (s : ℕ) → AllByRecursion IsRow rows → 1 ≤ s
      → above_of s (entries_from 1 rows) ≡ length (row_at rows s).above
  above_is rows s h l =
      let row = row_at rows s in
      let k = length row.low in
      let es = entries_from 1 rows in
      let is : IsRow row = all_at rows (s - 1) h in
      ap (λ (n : ℕ). count_by (λ (e : Label × V). (e.0.sender == s) && nat_lt n e.0.seq) es)
      (low_is rows s h l)
      ∙ (sym (length-filter (λ (e : Label × V). (e.0.sender == s) && nat_lt k e.0.seq) es)
      ∙ (ap length (part_rows 1 rows s (λ e. nat_lt k e.0.seq) l)
      ∙ (ap (λ ps. length (named s ps))
      (low_fails 1 k row.low row.above (omega arith)
      (above_passes (k + 1) k row.above is.above (omega arith)))
      ∙ length-map row.above _)))
