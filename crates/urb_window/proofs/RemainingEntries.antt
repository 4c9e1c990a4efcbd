-- The entries of rows from one row on.
use Rattle.urb_window.proofs.Common.{AreOver, Bool, Label, List, None, Option, Row, Some, []}
use Rattle.urb_window.proofs.Common.{and_parts, ap, ap₂, arith, cases_eq, cases_lt, cond}
use Rattle.urb_window.proofs.Common.{cond-false, cond-true, drop, entries_from, false, find, get_or}
use Rattle.urb_window.proofs.Common.{inl, inr, le-ltb, length, length-append, length-map, list_all}
use Rattle.urb_window.proofs.Common.{name, name_lt, named, nat_lt, not, not-true, not_from_false}
use Rattle.urb_window.proofs.Common.{option_map, pairs_of, refl, slice_get, subst, suc, sym, true}
use Rattle.urb_window.proofs.Common.{zero, ℕ, ◌++◌, ◌+◌, ◌-◌, ◌<◌, ◌∙◌, ◌∷◌, ◌≡◌, ◌≤◌, ◌⊎◌}
use Rattle.std.specs.Option.{option_or}
use Rattle.std.proofs.lemmas.Bool.{lt-ltb}
use Rattle.std.proofs.lemmas.List.{drop_all, drop_more}
use Rattle.std.proofs.lemmas.List.Folds.{find-append}
use Rattle.std.proofs.lemmas.Option.{slice_get-map}
use Rattle.urb_window.proofs.EntryOrder.{all_entries, all_named, higher_sender_lt, lower_sender_lt}
use Rattle.urb_window.proofs.EntryOrder.{same_sender_lt}
use Rattle.urb_names.proofs.Places.{get_front}

get_behind : {X : Type 0} (xs ys : List X) (j : ℕ) → length xs ≤ j
    → slice_get (xs ++ ys) j ≡ slice_get ys (j - length xs)
get_behind [] ys j l = let same : j ≡ j - 0 = omega arith in ap (slice_get ys) same
get_behind (x ∷ xs) ys zero l = absurd (omega arith)
get_behind (x ∷ xs) ys (suc j) l =
    let same : j - length xs ≡ suc j - suc (length xs) = omega arith in
    get_behind xs ys j (omega arith) ∙ ap (slice_get ys) same

find_all : {X : Type 0} (test : X → Bool) (xs : List X) → list_all test xs ≡ true
    → find test xs ≡ slice_get xs 0
find_all test [] h = refl
find_all test (x ∷ xs) h =
    cond-true (test x) (Some x) (find test xs) (and_parts (test x) (list_all test xs) h).0

find_none : {X : Type 0} (test : X → Bool) (xs : List X) → list_all (λ x. not (test x)) xs ≡ true
    → find test xs ≡ None
find_none test [] h = refl
find_none test (x ∷ xs) h =
    let parts = and_parts (not (test x)) (list_all (λ y. not (test y)) xs) h in
    cond-false (test x) (Some x) (find test xs) (not-true _ parts.0) ∙ find_none test xs parts.1

module _ {V : Type 0} where
  -- the entries of the rows from place i on
  abbrev pub entries_at : ℕ → List (Row V) → List (Label × V)
  entries_at i rows = entries_from (i + 1) (drop i rows)

  -- the entries from the first row on are all entries
  pub at_start : (rows : List (Row V)) → entries_at 0 rows ≡ entries_from 1 rows
  at_start rows = refl

  -- the entries from row i on are those of row i, followed by those from the next row on
  pub at_row : (rows : List (Row V)) (i : ℕ) (row : Row V) → i < length rows
      → row ≡ get_or rows i row → entries_at i rows ≡ named (i + 1) (pairs_of row) ++ entries_at
      (i + 1) rows
  at_row rows i row l read =
      let next : suc (i + 1) ≡ i + 1 + 1 = omega arith in
      ap (entries_from (i + 1)) (drop_more rows i row l)
      ∙ (ap (λ (r : Row V). named (i + 1) (pairs_of r) ++ entries_from (suc (i + 1))
      (drop (i + 1) rows)) (sym read)
      ∙ ap (λ (n : ℕ). named (i + 1) (pairs_of row) ++ entries_from n (drop (i + 1) rows)) next)

  -- past the last row there are no entries
  pub at_end : (rows : List (Row V)) (i : ℕ) → length rows ≤ i → entries_at i rows ≡ []
  at_end rows i l = ap (entries_from (i + 1)) (drop_all i rows l)

  -- the entries from a row on are as many as the row's pairs and the later entries together
  pub count_at : (rows : List (Row V)) (i : ℕ) (row : Row V) → i < length rows
      → row ≡ get_or rows i row → length (entries_at i rows) ≡ length (pairs_of row) + length
      (entries_at (i + 1) rows)
  count_at rows i row l read =
      ap length (at_row rows i row l read)
      ∙ (length-append (named (i + 1) (pairs_of row)) (entries_at (i + 1) rows)
      ∙ ap (λ (n : ℕ). n + length (entries_at (i + 1) rows)) (length-map (pairs_of row) _))

  -- at a place within a row stands the entry of the row's pair there
  pub entry_within : (rows : List (Row V)) (i : ℕ) (row : Row V) (j : ℕ) → i < length rows
      → row ≡ get_or rows i row → j < length (pairs_of row)
      → slice_get (entries_at i rows) j ≡ option_map (λ p. (name (i + 1) p.0, p.1))
      (slice_get (pairs_of row) j)
  entry_within rows i row j l read within =
      ap (λ es. slice_get es j) (at_row rows i row l read)
      ∙ (get_front (named (i + 1) (pairs_of row)) (entries_at (i + 1) rows) j
      (subst (λ (n : ℕ). j < n) (sym (length-map (pairs_of row) _)) within)
      ∙ slice_get-map (λ p. (name (i + 1) p.0, p.1)) (pairs_of row) j)

  -- at a place after a row stands an entry of the later rows
  pub entry_behind : (rows : List (Row V)) (i : ℕ) (row : Row V) (j : ℕ) → i < length rows
      → row ≡ get_or rows i row → length (pairs_of row) ≤ j
      → slice_get (entries_at i rows) j ≡ slice_get (entries_at (i + 1) rows)
      (j - length (pairs_of row))
  entry_behind rows i row j l read behind =
      ap (λ es. slice_get es j) (at_row rows i row l read)
      ∙ (get_behind (named (i + 1) (pairs_of row)) (entries_at (i + 1) rows) j
      (subst (λ (n : ℕ). n ≤ j) (sym (length-map (pairs_of row) _)) behind)
      ∙ ap (λ (n : ℕ). slice_get (entries_at (i + 1) rows) (j - n)) (length-map (pairs_of row) _))

  -- if a row has a pair, the first entry from it on is that of its first pair
  pub first_within : (rows : List (Row V)) (i : ℕ) (row : Row V) (p : ℕ × V) → i < length rows
      → row ≡ get_or rows i row → slice_get (pairs_of row) 0 ≡ Some p
      → slice_get (entries_at i rows) 0 ≡ Some (name (i + 1) p.0, p.1)
  first_within rows i row p l read got =
      entry_within rows i row 0 l read (filled (pairs_of row) got)
      ∙ ap (option_map (λ (q : ℕ × V). (name (i + 1) q.0, q.1))) got
    where
      filled : (pairs : List (ℕ × V)) → slice_get pairs 0 ≡ Some p → 0 < length pairs
      filled [] e = absurd cc
      filled (q ∷ qs) e = omega arith

  -- if a row has no pair, the first entry from it on is that of the later rows
  pub no_first : (rows : List (Row V)) (i : ℕ) (row : Row V) → i < length rows
      → row ≡ get_or rows i row → slice_get (pairs_of row) 0 ≡ None
      → slice_get (entries_at i rows) 0 ≡ slice_get (entries_at (i + 1) rows) 0
  no_first rows i row l read got =
      let empty : length (pairs_of row) ≡ 0 = none (pairs_of row) got in
      entry_behind rows i row 0 l read (omega arith)
      ∙ ap (slice_get (entries_at (i + 1) rows))
      (let same : 0 - length (pairs_of row) ≡ 0 = omega arith in same)
    where
      none : (pairs : List (ℕ × V)) → slice_get pairs 0 ≡ None → length pairs ≡ 0
      none [] e = refl
      none (q ∷ qs) e = absurd cc

  -- ---- the first name after one

  find_named : (s : ℕ) (pairs : List (ℕ × V)) (x : Label) → s ≡ x.sender
      → option_map (λ e. e.0) (find (λ e. name_lt x e.0) (named s pairs)) ≡ option_map
      (λ p. name s p.0) (find (λ p. nat_lt x.seq p.0) pairs)
  find_named s [] x e = refl
  find_named s (p ∷ ps) x e =
      let same : name s x.seq ≡ x = (λ i. record { sender = e i; seq = x.seq }) in
      let order : name_lt x (name s p.0) ≡ nat_lt x.seq p.0 =
      ap (λ (y : Label). name_lt y (name s p.0)) (sym same)
      ∙ same_sender_lt s x.seq (name s p.0) refl in
      ap (λ (b : Bool). option_map (λ (f : Label × V). f.0)
      (cond b (Some (name s p.0, p.1)) (find (λ f. name_lt x f.0) (named s ps)))) order
      ∙ at (nat_lt x.seq p.0) (find_named s ps x e)
    where
      at : (b : Bool) → option_map (λ f. f.0) (find (λ f. name_lt x f.0) (named s ps)) ≡ option_map
          (λ q. name s q.0) (find (λ q. nat_lt x.seq q.0) ps)
          → option_map (λ (f : Label × V). f.0)
          (cond b (Some (name s p.0, p.1)) (find (λ f. name_lt x f.0) (named s ps)))
          ≡ option_map (λ (q : ℕ × V). name s q.0)
          (cond b (Some p) (find (λ q. nat_lt x.seq q.0) ps))
      at true ih = refl
      at false ih = ih

  -- rows of lower senders have none
  find_from : (rows : List (Row V)) (first : ℕ) (x : Label) → first ≤ x.sender
      → find (λ e. name_lt x e.0) (entries_from first rows) ≡ find (λ e. name_lt x e.0)
      (entries_from x.sender (drop (x.sender - first) rows))
  find_from [] first x l =
      sym (ap (λ (rs : List (Row V)).
      find (λ (e : Label × V). name_lt x e.0) (entries_from x.sender rs))
      (drop_all (x.sender - first) [] (omega arith)))
  find_from (r ∷ rs) first x l = at (cases_eq first x.sender) (find_from rs (suc first) x)
    where
      at : (first ≡ x.sender) ⊎ (first ≡ x.sender → ⊥)
          → (suc first ≤ x.sender → find (λ e. name_lt x e.0) (entries_from (suc first) rs) ≡ find
          (λ e. name_lt x e.0) (entries_from x.sender (drop (x.sender - suc first) rs)))
          → find (λ e. name_lt x e.0) (entries_from first (r ∷ rs)) ≡ find (λ e. name_lt x e.0)
          (entries_from x.sender (drop (x.sender - first) (r ∷ rs)))
      at (inl e) ih =
          let none : 0 ≡ x.sender - first = omega arith in
          ap (λ (n : ℕ). find (λ (f : Label × V). name_lt x f.0) (entries_from n (r ∷ rs))) e
          ∙ ap (λ (k : ℕ). find (λ (f : Label × V). name_lt x f.0)
          (entries_from x.sender (drop k (r ∷ rs)))) none
      at (inr e) ih =
          let later : suc (x.sender - suc first) ≡ x.sender - first = omega arith in
          find-append (λ (f : Label × V). name_lt x f.0) (named first (pairs_of r))
          (entries_from (suc first) rs)
          ∙ (ap (λ (o : Option (Label × V)).
          option_or o (find (λ f. name_lt x f.0) (entries_from (suc first) rs)))
          (find_none (λ (f : Label × V). name_lt x f.0) (named first (pairs_of r))
          (all_named first (λ (f : Label × V). not (name_lt x f.0)) (pairs_of r)
          (λ f g. not_from_false _ (higher_sender_lt x f.0 (omega arith)))))
          ∙ (ih (omega arith) ∙ ap (λ (k : ℕ).
          find (λ (f : Label × V). name_lt x f.0) (entries_from x.sender (drop k (r ∷ rs))))
          later))

  first_some : (o q : Option (Label × V)) (y : Label) → option_map (λ e. e.0) o ≡ Some y
      → option_map (λ e. e.0) (option_or o q) ≡ Some y
  first_some None q y e = absurd cc
  first_some (Some f) q y e = e

  second_some : (o q : Option (Label × V)) → option_map (λ e. e.0) o ≡ None → option_or o q ≡ q
  second_some None q e = refl
  second_some (Some f) q e = absurd cc

  number_named : (s : ℕ) (o : Option (ℕ × V))
      → option_map (λ p. name s p.0) o ≡ option_map (name s) (option_map (λ p. p.0) o)
  number_named s None = refl
  number_named s (Some p) = refl

  split_at : (rows : List (Row V)) (x : Label) (i : ℕ) (row : Row V) → i + 1 ≡ x.sender
      → i < length rows → row ≡ get_or rows i row
      → find (λ e. name_lt x e.0) (entries_from 1 rows) ≡ option_or
      (find (λ e. name_lt x e.0) (named (i + 1) (pairs_of row)))
      (find (λ e. name_lt x e.0) (entries_at (i + 1) rows))
  split_at rows x i row at l read =
      let index : x.sender - 1 ≡ i = omega arith in
      find_from rows 1 x (omega arith)
      ∙ (ap₂ (λ (n k : ℕ). find (λ (e : Label × V). name_lt x e.0) (entries_from n (drop k rows)))
      (sym at) index
      ∙ (ap (find (λ (e : Label × V). name_lt x e.0)) (at_row rows i row l read)
      ∙ find-append (λ (e : Label × V). name_lt x e.0) (named (i + 1) (pairs_of row))
      (entries_at (i + 1) rows)))

  -- the first name after one: in the row of its sender, otherwise the first of the rows after that
  pub after_found : (rows : List (Row V)) (x : Label) (i n : ℕ) (row : Row V) → i + 1 ≡ x.sender
      → i < length rows → row ≡ get_or rows i row
      → option_map (λ p. p.0) (find (λ p. nat_lt x.seq p.0) (pairs_of row)) ≡ Some n
      → option_map (λ e. e.0) (find (λ e. name_lt x e.0) (entries_from 1 rows)) ≡ Some
      (name x.sender n)
  after_found rows x i n row at l read found =
      ap (option_map (λ (e : Label × V). e.0)) (split_at rows x i row at l read)
      ∙ first_some _ _ (name x.sender n)
      (find_named (i + 1) (pairs_of row) x at
      ∙ (number_named (i + 1) (find (λ p. nat_lt x.seq p.0) (pairs_of row))
      ∙ (ap (option_map (name (i + 1))) found ∙ ap (λ (s : ℕ). Some (name s n)) at)))

  -- if the sender's row has no later number, the next name is the first of the later rows
  pub after_missed : (rows : List (Row V)) (x : Label) (i : ℕ) (row : Row V) → i + 1 ≡ x.sender
      → i < length rows → row ≡ get_or rows i row
      → option_map (λ p. p.0) (find (λ p. nat_lt x.seq p.0) (pairs_of row)) ≡ None
      → option_map (λ e. e.0) (find (λ e. name_lt x e.0) (entries_from 1 rows)) ≡ option_map
      (λ e. e.0) (slice_get (entries_at (i + 1) rows) 0)
  after_missed rows x i row at l read missed =
      ap (option_map (λ (e : Label × V). e.0))
      (split_at rows x i row at l read
      ∙ (second_some _ _ (find_named (i + 1) (pairs_of row) x at
      ∙ (number_named (i + 1) (find (λ p. nat_lt x.seq p.0) (pairs_of row))
      ∙ ap (option_map (name (i + 1))) missed))
      ∙ find_all (λ (e : Label × V). name_lt x e.0) (entries_at (i + 1) rows)
      (all_entries (i + 1 + 1) (λ (e : Label × V). name_lt x e.0) (drop (i + 1) rows)
      (λ e f. lower_sender_lt x e.0 (omega arith)))))

  -- if the rows end before the name's sender, no entry comes after the name
  pub after_beyond : (rows : List (Row V)) (x : Label) → 1 ≤ x.sender → length rows ≤ x.sender - 1
      → find (λ e. name_lt x e.0) (entries_from 1 rows) ≡ None
  after_beyond rows x one l =
      find_from rows 1 x one ∙ ap (λ (rs : List (Row V)).
      find (λ (e : Label × V). name_lt x e.0) (entries_from x.sender rs))
      (drop_all (x.sender - 1) rows l)

  -- ---- numbers of the pairs found

  -- if the numbers of pairs rise from above a number, each pair that is read has one above it
  pub pair_over : (k : ℕ) (pairs : List (ℕ × V)) (j : ℕ) (p : ℕ × V) → AreOver k pairs
      → slice_get pairs j ≡ Some p → k < p.0
  pair_over k [] j p o e = absurd cc
  pair_over k (q ∷ qs) zero p o e = let same : q ≡ p = cc in subst (λ (r : ℕ × V). k < r.0) same o.0
  pair_over k (q ∷ qs) (suc j) p o e =
      let first : k < q.0 = o.0 in let rest : q.0 < p.0 = pair_over q.0 qs j p o.2 e in omega arith

  -- the number of the first pair found after a number is greater than it
  pub found_over : (pairs : List (ℕ × V)) (m n : ℕ)
      → option_map (λ p. p.0) (find (λ p. nat_lt m p.0) pairs) ≡ Some n → m < n
  found_over [] m n e = absurd cc
  found_over (p ∷ ps) m n e = at (cases_lt m p.0) (found_over ps m n)
    where
      at : (m < p.0) ⊎ (p.0 ≤ m) → (option_map (λ q. q.0) (find (λ q. nat_lt m q.0) ps) ≡ Some n
          → m < n) → m < n
      at (inl l) ih =
          let here : Some p.0 ≡ Some n =
          sym (ap (option_map (λ (q : ℕ × V). q.0))
          (cond-true (nat_lt m p.0) (Some p) (find (λ q. nat_lt m q.0) ps) (lt-ltb m p.0 l)))
          ∙ e in
          let same : p.0 ≡ n = cc in
          omega arith
      at (inr l) ih =
          ih (sym (ap (option_map (λ (q : ℕ × V). q.0))
          (cond-false (nat_lt m p.0) (Some p) (find (λ q. nat_lt m q.0) ps) (le-ltb m p.0 l))) ∙ e)
