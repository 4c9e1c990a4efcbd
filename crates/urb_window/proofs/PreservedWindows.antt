-- Windows preserve their invariant: the rows of the senders, and the space that is promised.
use Rattle.urb_window.proofs.Common.{AllByRecursion, HasRow, IsInserted, IsRow, IsSome, Label, List}
use Rattle.urb_window.proofs.Common.{MAX_SENDERS, None, Row, Some, ap, arith, cases_eq, cases_lt}
use Rattle.urb_window.proofs.Common.{entries_from, entry_lt, false≢true, get_or, get_or_past, inl}
use Rattle.urb_window.proofs.Common.{inr, is_some, length, length-set, no_row, number_lt, numbered}
use Rattle.urb_window.proofs.Common.{pairs_of, placed, renumbered, row_at, slice_set, subst, sym}
use Rattle.urb_window.proofs.Common.{value_of, with_value, ℕ, ◌+◌, ◌-◌, ◌<◌, ◌∙◌, ◌≡◌, ◌≤◌, ◌⊎◌}
use Rattle.std.proofs.lemmas.List.{get_or-set_other, get_or-set_same, get_or_default}
use Rattle.urb_window.specs.internal.RowOperations.{IsReplaced}
use Rattle.urb_window.specs.internal.WindowInvariant.{IsKept}
use Rattle.urb_window.specs.declared.windows.Windows.TheInside.{Inside}
use Rattle.urb_window.proofs.RowChanges.{all_set, placed_rows, same_rows, valued_rows}
use Rattle.urb_window.proofs.NameSearches.{value_rows}

module _ {V : Type 0} where
  -- the row at a place is the row of its sender
  pub row_here : (rows : List (Row V)) (sender i : ℕ) (row : Row V) → i + 1 ≡ sender
      → i < length rows → row ≡ get_or rows i row → row_at rows sender ≡ row
  row_here rows sender i row at within read =
      let index : sender - 1 ≡ i = omega arith in
      ap (λ (j : ℕ). get_or rows j no_row) index
      ∙ (get_or_default rows i no_row row within ∙ sym read)

  -- the value under a name is in the name's row
  pub found_here : (rows : List (Row V)) (x : Label) (i : ℕ) (row : Row V) → i + 1 ≡ x.sender
      → i < length rows → row ≡ get_or rows i row
      → numbered (pairs_of row) x.seq ≡ value_of (entries_from 1 rows) x
  found_here rows x i row at within read =
      sym (value_rows 1 rows x (omega arith)
      ∙ ap (λ (r : Row V). numbered (pairs_of r) x.seq)
      (row_here rows x.sender i row at within read))

  -- inserting a value in the sender's row puts its entry at its place
  pub inserted_here : (rows : List (Row V)) (x : Label) (v : V) (i : ℕ) (row new : Row V)
      → i + 1 ≡ x.sender → i < length rows → row ≡ get_or rows i row → IsInserted row x.seq v new
      → entries_from 1 (slice_set rows i new) ≡ placed entry_lt (entries_from 1 rows) (x, v)
  inserted_here rows x v i row new at within read put =
      let index : i ≡ x.sender - 1 = omega arith in
      ap (λ (j : ℕ). entries_from 1 (slice_set rows j new)) index
      ∙ placed_rows 1 rows x v new (omega arith) (omega arith)
      (put.pairs ∙ ap (λ (r : Row V). placed number_lt (pairs_of r) (x.seq, v))
      (sym (row_here rows x.sender i row at within read)))

  -- replacing a value in the sender's row replaces it in the entries
  pub replaced_here : (rows : List (Row V)) (x : Label) (v : V) (i : ℕ) (row new : Row V)
      → i + 1 ≡ x.sender → i < length rows → row ≡ get_or rows i row → IsReplaced row x.seq v new
      → entries_from 1 (slice_set rows i new) ≡ with_value (entries_from 1 rows) x v
  replaced_here rows x v i row new at within read put =
      let index : i ≡ x.sender - 1 = omega arith in
      ap (λ (j : ℕ). entries_from 1 (slice_set rows j new)) index
      ∙ valued_rows 1 rows x v new (omega arith) (omega arith)
      (put.pairs ∙ ap (λ (r : Row V). renumbered (pairs_of r) x.seq v)
      (sym (row_here rows x.sender i row at within read)))

  -- if a name has a value, its sender has a row
  pub present_within : (rows : List (Row V)) (x : Label) (i : ℕ) → i + 1 ≡ x.sender
      → IsSome (value_of (entries_from 1 rows) x) → i < length rows
  present_within rows x i at some = within (cases_lt i (length rows))
    where
      within : (i < length rows) ⊎ (length rows ≤ i) → i < length rows
      within (inl l) = l
      within (inr l) =
          let none : numbered (pairs_of (row_at rows x.sender)) x.seq ≡ None =
          ap (λ (r : Row V). numbered (pairs_of r) x.seq)
          (get_or_past rows (x.sender - 1) no_row (omega arith)) in
          absurd (false≢true (sym (ap is_some (value_rows 1 rows x (omega arith) ∙ none)) ∙ some))

  -- replacing a row by one with the same pairs leaves the entries as they are
  pub same_here : (rows : List (Row V)) (i : ℕ) (row new : Row V) → i < length rows
      → row ≡ get_or rows i row → pairs_of new ≡ pairs_of row
      → entries_from 1 (slice_set rows i new) ≡ entries_from 1 rows
  same_here rows i row new within read pairs =
      same_rows 1 rows i new (pairs ∙ ap pairs_of (read ∙ get_or_default rows i row no_row within))

module _ {T A : Type 0} where
  -- filling up rows that weren't all there, or changing none, preserves the invariant
  pub kept_filled : (a b : Inside T A) → b.reserved ≡ a.reserved → length b.rows.items ≤ MAX_SENDERS
      → (AllByRecursion IsRow a.rows.items → AllByRecursion IsRow b.rows.items)
      → (length a.rows.items ≡ MAX_SENDERS → b.rows.items ≡ a.rows.items) → IsKept a → IsKept b
  kept_filled a b reserved most rows full kept = record {
    most = most;
    rows = rows kept.rows;
    room = λ x e.
        let room : HasRow a x = kept.room x (sym reserved ∙ e) in
        let same : b.rows.items ≡ a.rows.items = full room.senders in
        record {
          senders = ap (λ (rs : List (Row T)). length rs) same ∙ room.senders;
          room = ap (λ (rs : List (Row T)). (row_at rs x.sender).reserved) same ∙ room.room;
        };
  }

  -- if no space is promised, well-formed rows meet the invariant
  pub kept_unreserved : (a : Inside T A) → length a.rows.items ≤ MAX_SENDERS
      → AllByRecursion IsRow a.rows.items → a.reserved ≡ None → IsKept a
  kept_unreserved a most rows none = record { most = most; rows = rows; room = λ x e. absurd cc }

  -- replacing a row by one that promises the same space preserves the invariant
  pub kept_set : (a b : Inside T A) (i : ℕ) (row new : Row T) → b.reserved ≡ a.reserved
      → b.rows.items ≡ slice_set a.rows.items i new → i < length a.rows.items
      → row ≡ get_or a.rows.items i row
      → new.reserved ≡ row.reserved → IsRow new → IsKept a → IsKept b
  kept_set a b i row new reserved items within read promise is kept = record {
    most =
        let long : length b.rows.items ≡ length a.rows.items =
        ap (λ (rs : List (Row T)). length rs) items ∙ length-set a.rows.items i new in let most =
        kept.most in omega arith;
    rows = subst (AllByRecursion IsRow) (sym items) (all_set a.rows.items i new kept.rows is);
    room = λ x e.
        let room : HasRow a x = kept.room x (sym reserved ∙ e) in
        record {
          senders =
              ap (λ (rs : List (Row T)). length rs) items
              ∙ (length-set a.rows.items i new ∙ room.senders);
          room =
              ap (λ (rs : List (Row T)). (row_at rs x.sender).reserved) items
              ∙ (at (x.sender - 1) (cases_eq (x.sender - 1) i) ∙ room.room);
        };
  }
    where
      at : (j : ℕ) → (j ≡ i) ⊎ (j ≡ i → ⊥)
          → (get_or (slice_set a.rows.items i new) j no_row).reserved
          ≡ (get_or a.rows.items j no_row).reserved
      at j (inl e) =
          ap (λ (k : ℕ). (get_or (slice_set a.rows.items i new) k no_row).reserved) e
          ∙ (ap (λ (r : Row T). r.reserved) (get_or-set_same a.rows.items i new no_row within)
          ∙ (promise
          ∙ (ap (λ (r : Row T). r.reserved) (read ∙ get_or_default a.rows.items i row no_row within)
          ∙ sym (ap (λ (k : ℕ). (get_or a.rows.items k no_row).reserved) e))))
      at j (inr e) = ap (λ (r : Row T). r.reserved) (get_or-set_other a.rows.items i j new no_row e)

  -- a row with space for a name makes good a promise of space for that name
  pub kept_reserved : (b : Inside T A) (rows : List (Row T)) (i : ℕ) (new : Row T) (x : Label)
      → b.reserved ≡ Some x → length rows ≡ MAX_SENDERS → AllByRecursion IsRow rows
      → b.rows.items ≡ slice_set rows i new
      → i + 1 ≡ x.sender → i < length rows → new.reserved ≡ Some x.seq → IsRow new → IsKept b
  kept_reserved b rows i new x reserved all_senders all items at within promise is =
      let long : length b.rows.items ≡ MAX_SENDERS =
      ap (λ (rs : List (Row T)). length rs) items ∙ (length-set rows i new ∙ all_senders) in
      let index : x.sender - 1 ≡ i = omega arith in
      record {
        most = omega arith;
        rows = subst (AllByRecursion IsRow) (sym items) (all_set rows i new all is);
        room = λ y e.
            let same : x ≡ y = cc in
            record {
              senders = long;
              room =
                  ap (λ (z : Label). (row_at b.rows.items z.sender).reserved) (sym same)
                  ∙ (ap (λ (rs : List (Row T)). (get_or rs (x.sender - 1) no_row).reserved) items
                  ∙ (ap (λ (j : ℕ). (get_or (slice_set rows i new) j no_row).reserved) index
                  ∙ (ap (λ (r : Row T). r.reserved) (get_or-set_same rows i new no_row within)
                  ∙ (promise ∙ ap (λ (z : Label). Some z.seq) same))));
            };
      }
