-- The entries of rows after one row has changed.
use Rattle.urb_window.proofs.Common.{AllByRecursion, Bool, IsRow, Label, List, Row, [], and_left}
use Rattle.urb_window.proofs.Common.{ap, ap₂, arith, cases_Bool, cases_eq, cond, cond-false}
use Rattle.urb_window.proofs.Common.{entries_from, entry_lt, false, get_or, inl, inr, length, name}
use Rattle.urb_window.proofs.Common.{named, nat_lt, ne_eqb, no_row, not, not_from_false, number_lt}
use Rattle.urb_window.proofs.Common.{pairs_of, placed, placed_behind, placed_front, refl}
use Rattle.urb_window.proofs.Common.{renumbered, same_name, slice_set, suc, sym, true, with_value}
use Rattle.urb_window.proofs.Common.{zero, ℕ, ◌++◌, ◌+◌, ◌-◌, ◌<◌, ◌==◌, ◌∙◌, ◌∷◌, ◌≡◌, ◌≤◌, ◌⊎◌}
use Rattle.std.proofs.lemmas.List.{map-append}
use Rattle.urb_window.proofs.NameSearches.{nothing_row, same_number}
use Rattle.urb_window.proofs.ElementPlaces.{placed_after, placed_before}
use Rattle.urb_window.proofs.EntryOrder.{all_entries, all_named, higher_sender_lt, lower_sender_lt}
use Rattle.urb_window.proofs.EntryOrder.{same_sender_lt}

module _ {V : Type 0} where
  -- inserting a pair at its place inserts an entry at its place
  placed_named : (s : ℕ) (pairs : List (ℕ × V)) (x : Label) (v : V) → s ≡ x.sender
      → placed entry_lt (named s pairs) (x, v) ≡ named s (placed number_lt pairs (x.seq, v))
  placed_named s [] x v e =
      let same : x ≡ name s x.seq = (λ i. record { sender = sym e i; seq = x.seq }) in
      ap (λ (y : Label). (y, v) ∷ []) same
  placed_named s (p ∷ ps) x v e = at (cases_Bool (nat_lt p.0 x.seq)) (placed_named s ps x v e)
    where
      at : (nat_lt p.0 x.seq ≡ true) ⊎ (nat_lt p.0 x.seq ≡ false)
          → placed entry_lt (named s ps) (x, v) ≡ named s (placed number_lt ps (x.seq, v))
          → placed entry_lt (named s (p ∷ ps)) (x, v) ≡ named s
          (placed number_lt (p ∷ ps) (x.seq, v))
      at (inl f) ih =
          placed_behind entry_lt (x, v) (name s p.0, p.1) (named s ps)
          (same_sender_lt s p.0 x e ∙ f)
          ∙ (ap (λ es. (name s p.0, p.1) ∷ es) ih
          ∙ sym (ap (named s) (placed_behind number_lt (x.seq, v) p ps f)))
      at (inr f) ih =
          let same : x ≡ name s x.seq = (λ i. record { sender = sym e i; seq = x.seq }) in
          placed_front entry_lt (x, v) (name s p.0, p.1) (named s ps) (same_sender_lt s p.0 x e ∙ f)
          ∙ (ap (λ (y : Label). (y, v) ∷ (name s p.0, p.1) ∷ named s ps) same
          ∙ sym (ap (named s) (placed_front number_lt (x.seq, v) p ps f)))

  -- a row with one more pair adds one entry
  pub placed_rows : (first : ℕ) (rows : List (Row V)) (x : Label) (v : V) (row : Row V)
      → first ≤ x.sender → x.sender < first + length rows
      → pairs_of row ≡ placed number_lt (pairs_of (get_or rows (x.sender - first) no_row))
      (x.seq, v)
      → entries_from first (slice_set rows (x.sender - first) row) ≡ placed entry_lt
      (entries_from first rows) (x, v)
  placed_rows first [] x v row l u h = absurd (omega arith)
  placed_rows first (r ∷ rs) x v row l u h =
      at (cases_eq first x.sender) (placed_rows (suc first) rs x v row)
    where
      at : (first ≡ x.sender) ⊎ (first ≡ x.sender → ⊥)
          → (suc first ≤ x.sender → x.sender < suc first + length rs
          → pairs_of row ≡ placed number_lt (pairs_of (get_or rs (x.sender - suc first) no_row))
          (x.seq, v)
          → entries_from (suc first) (slice_set rs (x.sender - suc first) row) ≡ placed entry_lt
          (entries_from (suc first) rs) (x, v))
          → entries_from first (slice_set (r ∷ rs) (x.sender - first) row) ≡ placed entry_lt
          (entries_from first (r ∷ rs)) (x, v)
      at (inl e) ih =
          let zeroth : x.sender - first ≡ 0 = omega arith in
          let here : pairs_of row ≡ placed number_lt (pairs_of r) (x.seq, v) =
          h ∙ ap (λ (i : ℕ). placed number_lt (pairs_of (get_or (r ∷ rs) i no_row)) (x.seq, v))
          zeroth in
          ap (λ (i : ℕ). entries_from first (slice_set (r ∷ rs) i row)) zeroth
          ∙ (ap (λ ps. named first ps ++ entries_from (suc first) rs) here
          ∙ (sym (ap (λ es. es ++ entries_from (suc first) rs)
          (placed_named first (pairs_of r) x v e))
          ∙ sym (placed_before entry_lt (x, v) (named first (pairs_of r))
          (entries_from (suc first) rs)
          (all_entries (suc first) (λ y. not (entry_lt y (x, v))) rs
          (λ y f. not_from_false _ (higher_sender_lt y.0 x (omega arith)))))))
      at (inr e) ih =
          let later : x.sender - first ≡ suc (x.sender - suc first) = omega arith in
          let there : pairs_of row ≡ placed number_lt
          (pairs_of (get_or rs (x.sender - suc first) no_row)) (x.seq, v) =
          h ∙ ap (λ (i : ℕ). placed number_lt (pairs_of (get_or (r ∷ rs) i no_row)) (x.seq, v))
          later in
          ap (λ (i : ℕ). entries_from first (slice_set (r ∷ rs) i row)) later
          ∙ (ap (λ es. named first (pairs_of r) ++ es) (ih (omega arith) (omega arith) there)
          ∙ sym (placed_after entry_lt (x, v) (named first (pairs_of r))
          (entries_from (suc first) rs)
          (all_named first (λ y. entry_lt y (x, v)) (pairs_of r)
          (λ y f. lower_sender_lt y.0 x (omega arith)))))

  -- ---- a replaced value

  valued_other : (s : ℕ) (pairs : List (ℕ × V)) (x : Label) (v : V) → (s ≡ x.sender → ⊥)
      → with_value (named s pairs) x v ≡ named s pairs
  valued_other s [] x v e = refl
  valued_other s (p ∷ ps) x v e =
      ap₂ (λ (f : Label × V) (fs : List (Label × V)). f ∷ fs)
      (cond-false (same_name (name s p.0) x) (name s p.0, v) (name s p.0, p.1)
      (and_left (s == x.sender) (p.0 == x.seq) (ne_eqb s x.sender e))) (valued_other s ps x v e)

  valued_none : (first : ℕ) (rows : List (Row V)) (x : Label) (v : V) → x.sender < first
      → with_value (entries_from first rows) x v ≡ entries_from first rows
  valued_none first [] x v l = refl
  valued_none first (r ∷ rs) x v l =
      map-append _ (named first (pairs_of r)) (entries_from (suc first) rs)
      ∙ ap₂ (λ (f g : List (Label × V)). f ++ g)
      (valued_other first (pairs_of r) x v (λ e. omega arith))
      (valued_none (suc first) rs x v (omega arith))

  valued_here : (s : ℕ) (pairs : List (ℕ × V)) (x : Label) (v : V) → s ≡ x.sender
      → with_value (named s pairs) x v ≡ named s (renumbered pairs x.seq v)
  valued_here s [] x v e = refl
  valued_here s (p ∷ ps) x v e =
      ap₂ (λ (f : Label × V) (fs : List (Label × V)). f ∷ fs)
      (ap (λ (b : Bool). cond b (name s p.0, v) (name s p.0, p.1)) (same_number s p.0 x e)
      ∙ at (p.0 == x.seq)) (valued_here s ps x v e)
    where
      at : (b : Bool) → ◌≡◌ {A = Label × V} (cond b (name s p.0, v) (name s p.0, p.1))
          (name s (cond b (p.0, v) p).0, (cond b (p.0, v) p).1)
      at true = refl
      at false = refl

  -- replacing a value in a row replaces it in the entries
  pub valued_rows : (first : ℕ) (rows : List (Row V)) (x : Label) (v : V) (row : Row V)
      → first ≤ x.sender → x.sender < first + length rows
      → pairs_of row ≡ renumbered (pairs_of (get_or rows (x.sender - first) no_row)) x.seq v
      → entries_from first (slice_set rows (x.sender - first) row) ≡ with_value
      (entries_from first rows) x v
  valued_rows first [] x v row l u h = absurd (omega arith)
  valued_rows first (r ∷ rs) x v row l u h =
      at (cases_eq first x.sender) (valued_rows (suc first) rs x v row)
    where
      at : (first ≡ x.sender) ⊎ (first ≡ x.sender → ⊥)
          → (suc first ≤ x.sender → x.sender < suc first + length rs
          → pairs_of row ≡ renumbered (pairs_of (get_or rs (x.sender - suc first) no_row))
          x.seq v
          → entries_from (suc first) (slice_set rs (x.sender - suc first) row) ≡ with_value
          (entries_from (suc first) rs) x v)
          → entries_from first (slice_set (r ∷ rs) (x.sender - first) row) ≡ with_value
          (entries_from first (r ∷ rs)) x v
      at (inl e) ih =
          let zeroth : x.sender - first ≡ 0 = omega arith in
          let here : pairs_of row ≡ renumbered (pairs_of r) x.seq v =
          h ∙ ap (λ (i : ℕ). renumbered (pairs_of (get_or (r ∷ rs) i no_row)) x.seq v) zeroth in
          ap (λ (i : ℕ). entries_from first (slice_set (r ∷ rs) i row)) zeroth
          ∙ (ap (λ ps. named first ps ++ entries_from (suc first) rs) here
          ∙ (sym (ap₂ (λ (f g : List (Label × V)). f ++ g) (valued_here first (pairs_of r) x v e)
          (valued_none (suc first) rs x v (omega arith)))
          ∙ sym (map-append _ (named first (pairs_of r)) (entries_from (suc first) rs))))
      at (inr e) ih =
          let later : x.sender - first ≡ suc (x.sender - suc first) = omega arith in
          let there : pairs_of row ≡ renumbered
          (pairs_of (get_or rs (x.sender - suc first) no_row)) x.seq v =
          h ∙ ap (λ (i : ℕ). renumbered (pairs_of (get_or (r ∷ rs) i no_row)) x.seq v) later in
          ap (λ (i : ℕ). entries_from first (slice_set (r ∷ rs) i row)) later
          ∙ (ap (λ es. named first (pairs_of r) ++ es) (ih (omega arith) (omega arith) there)
          ∙ (sym (ap (λ es. es ++ with_value (entries_from (suc first) rs) x v)
          (valued_other first (pairs_of r) x v e))
          ∙ sym (map-append _ (named first (pairs_of r)) (entries_from (suc first) rs))))

  -- ---- changes that keep the entries

  -- replacing a row by one with the same pairs leaves the entries as they are
  pub same_rows : (first : ℕ) (rows : List (Row V)) (i : ℕ) (row : Row V)
      → pairs_of row ≡ pairs_of (get_or rows i no_row)
      → entries_from first (slice_set rows i row) ≡ entries_from first rows
  same_rows first [] i row h = refl
  same_rows first (r ∷ rs) zero row h = ap (λ ps. named first ps ++ entries_from (suc first) rs) h
  same_rows first (r ∷ rs) (suc i) row h =
      ap (λ es. named first (pairs_of r) ++ es) (same_rows (suc first) rs i row h)

  -- an empty row at the end adds no entry
  pub more_rows : (first : ℕ) (rows : List (Row V))
      → entries_from first (rows ++ no_row ∷ []) ≡ entries_from first rows
  more_rows first [] = refl
  more_rows first (r ∷ rs) = ap (λ es. named first (pairs_of r) ++ es) (more_rows (suc first) rs)

  -- well-formed rows stay so when an empty row is put after them
  pub all_more : (rows : List (Row V)) → AllByRecursion IsRow rows
      → AllByRecursion IsRow (rows ++ no_row ∷ [])
  all_more [] h = (nothing_row, tt)
  all_more (r ∷ rs) h = (h.0, all_more rs h.1)

  -- all are still rows if one is replaced by a row
  pub all_set : (rows : List (Row V)) (i : ℕ) (row : Row V) → AllByRecursion IsRow rows → IsRow row
      → AllByRecursion IsRow (slice_set rows i row)
  all_set [] i row h is = tt
  all_set (r ∷ rs) zero row h is = (is, h.1)
  all_set (r ∷ rs) (suc i) row h is = (h.0, all_set rs i row h.1 is)
