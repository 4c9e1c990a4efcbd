-- The value found under a name, and how far a sender's numbers go.
use Rattle.urb_window.proofs.Common.{AllByRecursion, Bool, IsRow, Label, List, None, Option, Row}
use Rattle.urb_window.proofs.Common.{Some, [], and_left, ap, arith, cases_eq, cond, cond-false}
use Rattle.urb_window.proofs.Common.{cond-true, counted_from, entries_from, eq-eqb, false, filter}
use Rattle.urb_window.proofs.Common.{get_or, has_name, inl, inr, is_some, length, low_of, name}
use Rattle.urb_window.proofs.Common.{named, names_of, ne_eqb, no_row, numbered, pairs_of, refl}
use Rattle.urb_window.proofs.Common.{row_at, same_name, suc, true, value_of, zero, ℕ, ◌&&◌, ◌++◌}
use Rattle.urb_window.proofs.Common.{◌+◌, ◌-◌, ◌<◌, ◌==◌, ◌||◌, ◌∙◌, ◌∷◌, ◌≡◌, ◌≤◌, ◌⊎◌}
use Rattle.std.proofs.lemmas.List.Elements.{filter-append}
use Rattle.std.proofs.lemmas.List.{append-nil}
use Rattle.urb_names.proofs.LogRows.{beginning_is, length-row, reach}
use Rattle.urb_names.proofs.CertificateReaches.{reach-is}
use Rattle.urb_window.proofs.NumberedValues.{numbered_behind}
use Rattle.urb_window.proofs.BinarySearches.{numbered_none}

-- a sender's name with a number is this name exactly if the numbers are equal
pub same_number : (s : ℕ) (n : ℕ) (x : Label) → s ≡ x.sender → same_name (name s n) x ≡ (n == x.seq)
same_number s n x e = ap (λ (b : Bool). b && (n == x.seq)) (eq-eqb s x.sender e)

module _ {V : Type 0} where
  -- ---- under a name

  value_other : (s : ℕ) (pairs : List (ℕ × V)) (rest : List (Label × V)) (x : Label)
      → (s ≡ x.sender → ⊥) → value_of (named s pairs ++ rest) x ≡ value_of rest x
  value_other s [] rest x e = refl
  value_other s (p ∷ ps) rest x e =
      cond-false (same_name (name s p.0) x) (Some p.1) (value_of (named s ps ++ rest) x)
      (and_left (s == x.sender) (p.0 == x.seq) (ne_eqb s x.sender e))
      ∙ value_other s ps rest x e

  -- a name of a sender before the first row has no value
  pub value_none : (first : ℕ) (rows : List (Row V)) (x : Label) → x.sender < first
      → value_of (entries_from first rows) x ≡ None
  value_none first [] x l = refl
  value_none first (r ∷ rs) x l =
      value_other first (pairs_of r) (entries_from (suc first) rs) x (λ e. omega arith)
      ∙ value_none (suc first) rs x (omega arith)

  value_here : (s : ℕ) (pairs : List (ℕ × V)) (rest : List (Label × V)) (x : Label) → s ≡ x.sender
      → value_of rest x ≡ None → value_of (named s pairs ++ rest) x ≡ numbered pairs x.seq
  value_here s [] rest x e none = none
  value_here s (p ∷ ps) rest x e none =
      ap (λ (b : Bool). cond b (Some p.1) (value_of (named s ps ++ rest) x)) (same_number s p.0 x e)
      ∙ ap (λ (o : Option V). cond (p.0 == x.seq) (Some p.1) o) (value_here s ps rest x e none)

  -- the value under a name is the value of its number in its sender's row
  pub value_rows : (first : ℕ) (rows : List (Row V)) (x : Label) → first ≤ x.sender
      → value_of (entries_from first rows) x ≡ numbered
      (pairs_of (get_or rows (x.sender - first) no_row)) x.seq
  value_rows first [] x l = refl
  value_rows first (r ∷ rs) x l = at (cases_eq first x.sender) (value_rows (suc first) rs x)
    where
      at : (first ≡ x.sender) ⊎ (first ≡ x.sender → ⊥)
          → (suc first ≤ x.sender → value_of (entries_from (suc first) rs) x ≡ numbered
          (pairs_of (get_or rs (x.sender - suc first) no_row)) x.seq)
          → value_of (entries_from first (r ∷ rs)) x ≡ numbered
          (pairs_of (get_or (r ∷ rs) (x.sender - first) no_row)) x.seq
      at (inl e) ih =
          let zeroth : 0 ≡ x.sender - first = omega arith in
          value_here first (pairs_of r) (entries_from (suc first) rs) x e
          (value_none (suc first) rs x (omega arith))
          ∙ ap (λ (i : ℕ). numbered (pairs_of (get_or (r ∷ rs) i no_row)) x.seq) zeroth
      at (inr e) ih =
          let later : suc (x.sender - suc first) ≡ x.sender - first = omega arith in
          value_other first (pairs_of r) (entries_from (suc first) rs) x e
          ∙ (ih (omega arith) ∙ ap (λ (i : ℕ). numbered (pairs_of (get_or (r ∷ rs) i no_row)) x.seq)
          later)

  -- a name is there exactly if it has a value
  pub has_value : (entries : List (Label × V)) (x : Label)
      → has_name (names_of entries) x ≡ is_some (value_of entries x)
  has_value [] x = refl
  has_value (e ∷ es) x = at (same_name e.0 x) (has_value es x)
    where
      at : (b : Bool) → has_name (names_of es) x ≡ is_some (value_of es x)
          → (b || has_name (names_of es) x) ≡ is_some (cond b (Some e.1) (value_of es x))
      at true ih = refl
      at false ih = ih

  -- ---- how far a sender's numbers go

  numbered_some : (first : ℕ) (low : List V) (rest : List (ℕ × V)) (n : ℕ) → first ≤ n
      → n < first + length low → is_some (numbered (counted_from first low ++ rest) n) ≡ true
  numbered_some first [] rest n l u = absurd (omega arith)
  numbered_some first (v ∷ low) rest n l u =
      at (cases_eq first n) (numbered_some (suc first) low rest n)
    where
      at : (first ≡ n) ⊎ (first ≡ n → ⊥)
          → (suc first ≤ n → n < suc first + length low
          → is_some (numbered (counted_from (suc first) low ++ rest) n) ≡ true)
          → is_some (numbered (counted_from first (v ∷ low) ++ rest) n) ≡ true
      at (inl e) ih =
          ap is_some (cond-true (first == n) (Some v)
          (numbered (counted_from (suc first) low ++ rest) n) (eq-eqb first n e))
      at (inr e) ih =
          ap is_some (cond-false (first == n) (Some v)
          (numbered (counted_from (suc first) low ++ rest) n) (ne_eqb first n e))
          ∙ ih (omega arith) (omega arith)

  next_none : (row : Row V) → IsRow row → numbered (pairs_of row) (suc (length row.low)) ≡ None
  next_none row h =
      numbered_behind 1 row.low row.above (suc (length row.low)) (omega arith)
      ∙ numbered_none (length row.low + 1) (suc (length row.low)) row.above h.above
      (omega arith)

  -- an empty row is well formed
  pub nothing_row : IsRow {V = V} no_row
  nothing_row = record { low = omega arith; above = tt }

  -- if all rows are well formed, so is the row that is read at any place, also past the end
  pub all_at : (rows : List (Row V)) (i : ℕ) → AllByRecursion IsRow rows
      → IsRow (get_or rows i no_row)
  all_at [] i h = nothing_row
  all_at (r ∷ rs) zero h = h.0
  all_at (r ∷ rs) (suc i) h = all_at rs i h.1

  -- a sender's numbers go without a gap as far as the lower part of its row is long
  pub low_is : (rows : List (Row V)) (s : ℕ) → AllByRecursion IsRow rows → 1 ≤ s
      → low_of s (entries_from 1 rows) ≡ length (row_at rows s).low
  low_is rows s h l =
      let row = row_at rows s in
      let certified = names_of (entries_from 1 rows) in
      let there : (n : ℕ) → has_name certified (name s n) ≡ is_some (numbered (pairs_of row) n) =
      λ n. has_value (entries_from 1 rows) (name s n)
      ∙ ap is_some (value_rows 1 rows (name s n) l) in
      ap length (beginning_is s certified)
      ∙ (length-row s 1 (reach s certified)
      ∙ reach-is s (length row.low) certified
      (λ i a b. there i ∙ numbered_some 1 row.low row.above i a (omega arith))
      (there (suc (length row.low)) ∙ ap is_some (next_none row (all_at rows (s - 1) h))))

  -- ---- a sender's part of the entries

  part_other : (s t : ℕ) (test : Label × V → Bool) (pairs : List (ℕ × V)) → (t ≡ s → ⊥)
      → filter (λ e. (e.0.sender == s) && test e) (named t pairs) ≡ []
  part_other s t test [] e = refl
  part_other s t test (p ∷ ps) e =
      cond-false ((t == s) && test (name t p.0, p.1)) _ _
      (and_left (t == s) (test (name t p.0, p.1)) (ne_eqb t s e)) ∙ part_other s t test ps e

  part_none : (first : ℕ) (rows : List (Row V)) (s : ℕ) (test : Label × V → Bool) → s < first
      → filter (λ e. (e.0.sender == s) && test e) (entries_from first rows) ≡ []
  part_none first [] s test l = refl
  part_none first (r ∷ rs) s test l =
      filter-append (λ e. (e.0.sender == s) && test e) (named first (pairs_of r))
      (entries_from (suc first) rs)
      ∙ (ap (λ es. es ++ filter (λ e. (e.0.sender == s) && test e) (entries_from (suc first) rs))
      (part_other s first test (pairs_of r) (λ e. omega arith))
      ∙ part_none (suc first) rs s test (omega arith))

  part_here : (s t : ℕ) (test : Label × V → Bool) (pairs : List (ℕ × V)) → t ≡ s
      → filter (λ e. (e.0.sender == s) && test e) (named t pairs) ≡ named t
      (filter (λ p. test (name t p.0, p.1)) pairs)
  part_here s t test [] e = refl
  part_here s t test (p ∷ ps) e =
      ap (λ (b : Bool). cond (b && test (name t p.0, p.1))
      ((name t p.0, p.1) ∷ filter (λ e. (e.0.sender == s) && test e) (named t ps))
      (filter (λ e. (e.0.sender == s) && test e) (named t ps))) (eq-eqb t s e)
      ∙ at (test (name t p.0, p.1)) (part_here s t test ps e)
    where
      at : (b : Bool) → filter (λ e. (e.0.sender == s) && test e) (named t ps) ≡ named t
          (filter (λ p. test (name t p.0, p.1)) ps)
          → cond b ((name t p.0, p.1) ∷ filter (λ e. (e.0.sender == s) && test e) (named t ps))
          (filter (λ e. (e.0.sender == s) && test e) (named t ps))
          ≡ named t (cond b (p ∷ filter (λ p. test (name t p.0, p.1)) ps)
          (filter (λ p. test (name t p.0, p.1)) ps))
      at true ih = ap (λ es. (name t p.0, p.1) ∷ es) ih
      at false ih = ih

  -- a sender's entries that pass a test are the pairs of its row that pass it
  pub part_rows : (first : ℕ) (rows : List (Row V)) (s : ℕ) (test : Label × V → Bool) → first ≤ s
      → filter (λ e. (e.0.sender == s) && test e) (entries_from first rows) ≡ named s
      (filter (λ p. test (name s p.0, p.1)) (pairs_of (get_or rows (s - first) no_row)))
  part_rows first [] s test l = refl
  part_rows first (r ∷ rs) s test l =
      filter-append (λ e. (e.0.sender == s) && test e) (named first (pairs_of r))
      (entries_from (suc first) rs) ∙ at (cases_eq first s) (part_rows (suc first) rs s test)
    where
      at : (first ≡ s) ⊎ (first ≡ s → ⊥)
          → (suc first ≤ s → filter (λ e. (e.0.sender == s) && test e) (entries_from (suc first) rs)
          ≡ named s (filter (λ p. test (name s p.0, p.1))
          (pairs_of (get_or rs (s - suc first) no_row))))
          → filter (λ e. (e.0.sender == s) && test e) (named first (pairs_of r)) ++ filter
          (λ e. (e.0.sender == s) && test e) (entries_from (suc first) rs)
          ≡ named s (filter (λ p. test (name s p.0, p.1))
          (pairs_of (get_or (r ∷ rs) (s - first) no_row)))
      at (inl e) ih =
          let zeroth : 0 ≡ s - first = omega arith in
          ap (λ es. filter (λ e. (e.0.sender == s) && test e) (named first (pairs_of r)) ++ es)
          (part_none (suc first) rs s test (omega arith))
          ∙ (append-nil _
          ∙ (part_here s first test (pairs_of r) e
          ∙ (ap (λ (t : ℕ). named t (filter (λ p. test (name t p.0, p.1)) (pairs_of r))) e
          ∙ ap (λ (i : ℕ). named s (filter (λ p. test (name s p.0, p.1))
          (pairs_of (get_or (r ∷ rs) i no_row)))) zeroth)))
      at (inr e) ih =
          let later : suc (s - suc first) ≡ s - first = omega arith in
          ap (λ es. es ++ filter (λ e. (e.0.sender == s) && test e) (entries_from (suc first) rs))
          (part_other s first test (pairs_of r) e)
          ∙ (ih (omega arith) ∙ ap (λ (i : ℕ).
          named s (filter (λ p. test (name s p.0, p.1)) (pairs_of (get_or (r ∷ rs) i no_row))))
          later)
