-- The entries of rows are in order of name.
use Rattle.urb_window.proofs.Common.{AllByRecursion, AreOver, Bool, IsRow, IsWindowSet, Label, List}
use Rattle.urb_window.proofs.Common.{MAX_SENDERS, None, Option, Row, Some, [], and_from, and_left}
use Rattle.urb_window.proofs.Common.{and_parts, ap, ap₂, arith, cases_eq, cases_lt, cond-false}
use Rattle.urb_window.proofs.Common.{entries_from, entry_lt, eq-eqb, false, false≢true, get_or_past}
use Rattle.urb_window.proofs.Common.{inl, inr, is_rising, is_some, le-ltb, length, list_all, name}
use Rattle.urb_window.proofs.Common.{name_lt, named, nat_lt, ne_eqb, no_row, numbered, or_left}
use Rattle.urb_window.proofs.Common.{pairs_of, refl, row_at, suc, sym, true, value_of, ℕ, ◌&&◌}
use Rattle.urb_window.proofs.Common.{◌++◌, ◌+◌, ◌-◌, ◌<◌, ◌==◌, ◌^◌, ◌||◌, ◌∙◌, ◌∷◌, ◌≡◌, ◌≤◌, ◌⊎◌}
use Rattle.std.proofs.lemmas.Bool.{lt-ltb, or_from}
use Rattle.std.proofs.lemmas.List.Folds.{list_all-append}
use Rattle.urb_names.specs.LabelsAndContents.{IsLabel}
use Rattle.urb_window.proofs.NumberedValues.{pairs_over}
use Rattle.urb_window.proofs.NameSearches.{all_at, has_value, value_none, value_rows}

-- names of the same sender are ordered by number
pub same_sender_lt : (s n : ℕ) (x : Label) → s ≡ x.sender → name_lt (name s n) x ≡ nat_lt n x.seq
same_sender_lt s n x e =
    ap₂ (λ (a b : Bool). a || (b && nat_lt n x.seq)) (le-ltb s x.sender (omega arith))
    (eq-eqb s x.sender e)

-- a name of a lower sender comes before one of a higher sender
pub lower_sender_lt : (x y : Label) → x.sender < y.sender → name_lt x y ≡ true
lower_sender_lt x y l = or_left (nat_lt x.sender y.sender) _ (lt-ltb x.sender y.sender l)

-- a name of a higher sender doesn't come before one of a lower sender
pub higher_sender_lt : (x y : Label) → y.sender < x.sender → name_lt x y ≡ false
higher_sender_lt x y l =
    or_from (nat_lt x.sender y.sender) ((x.sender == y.sender) && nat_lt x.seq y.seq)
    (le-ltb x.sender y.sender (omega arith))
    (and_left (x.sender == y.sender) (nat_lt x.seq y.seq)
    (ne_eqb x.sender y.sender (λ e. omega arith)))

-- two sorted lists give one if each element of the first comes before each of the second
pub rising_append : {X : Type 0} (before : X → X → Bool) (xs ys : List X) → is_rising before xs ≡ true
    → is_rising before ys ≡ true → list_all (λ x. list_all (before x) ys) xs ≡ true
    → is_rising before (xs ++ ys) ≡ true
rising_append before [] ys h k all = k
rising_append before (x ∷ xs) ys h k all =
    let order = and_parts (list_all (before x) xs) (is_rising before xs) h in
    let over = and_parts (list_all (before x) ys) (list_all (λ z. list_all (before z) ys) xs) all in
    and_from (list_all (before x) (xs ++ ys)) _
    (list_all-append (before x) xs ys ∙ and_from (list_all (before x) xs) _ order.0 over.0)
    (rising_append before xs ys order.1 k over.1)

module _ {V : Type 0} where
  named_over : (s : ℕ) (k : ℕ) (v : V) (pairs : List (ℕ × V)) → AreOver k pairs → (j : ℕ) → j ≤ k
      → list_all (entry_lt (name s j, v)) (named s pairs) ≡ true
  named_over s k v [] o j l = refl
  named_over s k v (p ∷ ps) o j l =
      let first : k < p.0 = o.0 in
      and_from (name_lt (name s j) (name s p.0)) _
      (same_sender_lt s j (name s p.0) refl ∙ lt-ltb j p.0 (omega arith))
      (named_over s p.0 v ps o.2 j (omega arith))

  named_rising : (s k : ℕ) (pairs : List (ℕ × V)) → AreOver k pairs
      → is_rising entry_lt (named s pairs) ≡ true
  named_rising s k [] o = refl
  named_rising s k (p ∷ ps) o =
      and_from (list_all (entry_lt (name s p.0, p.1)) (named s ps)) _
      (named_over s p.0 p.1 ps o.2 p.0 (omega arith)) (named_rising s p.0 ps o.2)

  -- what holds for each entry of a sender holds for the entries of its row
  pub all_named : (s : ℕ) (test : Label × V → Bool) (pairs : List (ℕ × V))
      → ((e : Label × V) → e.0.sender ≡ s → test e ≡ true) → list_all test (named s pairs) ≡ true
  all_named s test [] h = refl
  all_named s test (p ∷ ps) h =
      and_from (test (name s p.0, p.1)) _ (h (name s p.0, p.1) refl) (all_named s test ps h)

  -- what holds for each entry of the senders from one on holds for the entries of their rows
  pub all_entries : (first : ℕ) (test : Label × V → Bool) (rows : List (Row V))
      → ((e : Label × V) → first ≤ e.0.sender → test e ≡ true)
      → list_all test (entries_from first rows) ≡ true
  all_entries first test [] h = refl
  all_entries first test (r ∷ rs) h =
      list_all-append test (named first (pairs_of r)) (entries_from (suc first) rs)
      ∙ and_from (list_all test (named first (pairs_of r))) _
      (all_named first test (pairs_of r) (λ e f. h e (omega arith)))
      (all_entries (suc first) test rs (λ e f. h e (omega arith)))

  -- the entries of well-formed rows are in strictly rising order of name
  pub rising_entries : (first : ℕ) (rows : List (Row V)) → AllByRecursion IsRow rows
      → is_rising entry_lt (entries_from first rows) ≡ true
  rising_entries first [] h = refl
  rising_entries first (r ∷ rs) h =
      rising_append entry_lt (named first (pairs_of r)) (entries_from (suc first) rs)
      (named_rising first 0 (pairs_of r) (pairs_over r h.0)) (rising_entries (suc first) rs h.1)
      (all_named first (λ x. list_all (entry_lt x) (entries_from (suc first) rs)) (pairs_of r)
      (λ x e. all_entries (suc first) (entry_lt x) rs
      (λ y f. lower_sender_lt x.0 y.0 (omega arith))))

  -- the number of a pair is within limits
  number_within : (k : ℕ) (pairs : List (ℕ × V)) (n : ℕ) → AreOver k pairs
      → is_some (numbered pairs n) ≡ true → (k < n) × (n < 2 ^ 32)
  number_within k [] n o e = absurd (false≢true e)
  number_within k (p ∷ ps) n o e = at (cases_eq p.0 n) (number_within p.0 ps n o.2)
    where
      at : (p.0 ≡ n) ⊎ (p.0 ≡ n → ⊥) → (is_some (numbered ps n) ≡ true → (p.0 < n) × (n < 2 ^ 32))
          → (k < n) × (n < 2 ^ 32)
      at (inl f) ih =
          let first : k < p.0 = o.0 in let most : p.0 < 2 ^ 32 = o.1 in (omega arith, omega arith)
      at (inr f) ih =
          let rest =
          ih (sym (ap is_some (cond-false (p.0 == n) (Some p.1) (numbered ps n)
          (ne_eqb p.0 n f))) ∙ e) in
          let first : k < p.0 = o.0 in
          (omega (arith, rest.0), rest.1)

  label_is : (rows : List (Row V)) (x : Label) → length rows ≤ MAX_SENDERS
      → AllByRecursion IsRow rows → is_some (value_of (entries_from 1 rows) x) ≡ true → IsLabel x
  label_is rows x most h e = at (cases_lt x.sender 1) (cases_lt (x.sender - 1) (length rows))
    where
      none_some : {o : Option V} → o ≡ None → is_some o ≡ true → ⊥
      none_some f g = false≢true (sym (ap is_some f) ∙ g)

      at : (x.sender < 1) ⊎ (1 ≤ x.sender)
          → (x.sender - 1 < length rows) ⊎ (length rows ≤ x.sender - 1) → IsLabel x
      at (inl l) m = absurd (none_some (value_none 1 rows x l) e)
      at (inr l) (inl m) =
          let within =
          number_within 0 (pairs_of (row_at rows x.sender)) x.seq
          (pairs_over _ (all_at rows (x.sender - 1) h))
          (sym (ap is_some (value_rows 1 rows x l)) ∙ e) in
          record { sender = (omega arith, omega arith); seq = within }
      at (inr l) (inr m) =
          absurd (none_some (value_rows 1 rows x l
          ∙ ap (λ (r : Row V). numbered (pairs_of r) x.seq)
          (get_or_past rows (x.sender - 1) no_row m)) e)

  -- the entries of well-formed rows are a set of windows: in order, with names within limits
  pub entries_are : (rows : List (Row V)) (reserved : Option Label) → length rows ≤ MAX_SENDERS
      → AllByRecursion IsRow rows → IsWindowSet record
      { entries = entries_from 1 rows; reserved = reserved }
  entries_are rows reserved most h = record {
    rising = rising_entries 1 rows h;
    labels = λ x e. label_is rows x most h (sym (has_value (entries_from 1 rows) x) ∙ e);
  }
