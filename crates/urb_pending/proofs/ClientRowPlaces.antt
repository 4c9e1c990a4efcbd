-- Rows in order of client: what a binary search finds, and one row added or changed.
use Rattle.std.proofs.Common.{◌≡◌, ℕ, zero, suc, ◌+◌, ◌<◌, ◌≤◌, Bool, true, false, cond, ◌||◌, ◌==◌}
use Rattle.std.proofs.Common.{List, [], ◌∷◌, length, get_or, None, Some, Option, is_some, slice_get}
use Rattle.std.proofs.Common.{slice_set, refl, sym, ap, ◌∙◌, subst, inl, inr, ◌⊎◌, arith, nat_lt}
use Rattle.std.proofs.Common.{eq-eqb, eqb-true, ne_eqb, lt-ltb, ltb-true}
use Rattle.std.specs.List.{list_all, list_any, prefix_len}
use Rattle.std.specs.List.Sorted.{IsPartitionedBy, IsPartitionPoint}
use Rattle.std.proofs.lemmas.Bool.{and_from, and_parts, cases_order, eqb-false, false≢true}
use Rattle.urb_names.proofs.Places.{get_none}
use Rattle.urb_names.specs.RisingLists.{placed}
use Rattle.urb_names.proofs.ElementPlaces.{IsStrictOrder, rising_placed, placed_behind, placed_front}
use Rattle.urb_pending.specs.internal.ClientRows.{Row, row_lt, row_of, are_in_order}
use Rattle.urb_window.proofs.BinarySearches.{one_more}

-- whether a row comes before a client's place
abbrev pub stands_before : ℕ → Row → Bool
stands_before client row = nat_lt row.client client

-- a client's place among rows
abbrev pub place_in : ℕ → List Row → ℕ
place_in client rows = prefix_len (stands_before client) rows

lt_trans : (a b c : ℕ) → nat_lt a b ≡ true → nat_lt b c ≡ true → nat_lt a c ≡ true
lt_trans a b c e f = lt-ltb a c (omega (arith, ltb-true a b e, ltb-true b c f))

not_same : (a b : ℕ) → nat_lt a b ≡ true → (a == b) ≡ false
not_same a b e =
    ne_eqb a b (λ f. (let l : a < b = ltb-true a b e in let no : ⊥ = omega arith in no))

all_at : (test : Row → Bool) (rows : List Row) (j : ℕ) (d : Row) → list_all test rows ≡ true
    → j < length rows → test (get_or rows j d) ≡ true
all_at test [] j d h l = absurd (omega arith)
all_at test (r ∷ rs) zero d h l = (and_parts (test r) (list_all test rs) h).0
all_at test (r ∷ rs) (suc j) d h l =
    all_at test rs j d (and_parts (test r) (list_all test rs) h).1 (omega arith)

-- the rows that come before a client's place are at the front
pub parted : (rows : List Row) (client : ℕ) → are_in_order rows ≡ true
    → IsPartitionedBy (stands_before client) rows
parted [] client h i j d l m e = absurd (omega arith)
parted (r ∷ rs) client h zero zero d l m e = e
parted (r ∷ rs) client h zero (suc j) d l m e =
    lt_trans r.client (get_or rs j d).client client
    (all_at (row_lt r) rs j d (and_parts (list_all (row_lt r) rs) (are_in_order rs) h).0
    (omega arith)) e
parted (r ∷ rs) client h (suc i) zero d l m e = absurd (omega arith)
parted (r ∷ rs) client h (suc i) (suc j) d l m e =
    parted rs client (and_parts (list_all (row_lt r) rs) (are_in_order rs) h).1 i j d (omega arith)
    (omega arith) e

-- a partition point is the number of elements at the front
pub point_is : {X : Type 0} (test : X → Bool) (xs : List X) (i : ℕ) (d : X) → i ≤ length xs
    → IsPartitionPoint (λ y. test y ≡ true) (λ y. test y ≡ false) xs i → i ≡ prefix_len test xs
point_is test [] i d l h = omega arith
point_is test (y ∷ ys) zero d l h =
    sym (ap (λ (b : Bool). cond b (1 + prefix_len test ys) 0) (h.1 0 d (omega arith) (omega arith)))
point_is test (y ∷ ys) (suc i) d l h =
    let rest : i ≡ prefix_len test ys =
    point_is test ys i d (omega arith) (
      λ k e m n. h.0 (suc k) e (omega arith) (omega arith),
      λ k e m n. h.1 (suc k) e (omega arith) (omega arith),
    ) in
    let one : suc i ≡ 1 + prefix_len test ys = omega arith in
    one ∙ sym (ap (λ (b : Bool). cond b (1 + prefix_len test ys) 0)
    (h.0 0 d (omega arith) (omega arith)))

-- a client that comes before all rows has none of them
none_behind : (client : ℕ) (r : Row) (rows : List Row) → (nat_lt client r.client ≡ true)
    → list_all (row_lt r) rows ≡ true → row_of client rows ≡ None
none_behind client r [] e h = refl
none_behind client r (s ∷ ss) e h =
    at (none_behind client r ss e parts.1) (s.client == client) differ
  where
    parts : (row_lt r s ≡ true) × (list_all (row_lt r) ss ≡ true)
    parts = and_parts (row_lt r s) (list_all (row_lt r) ss) h

    differ : (s.client == client) ≡ false
    differ =
        ne_eqb s.client client (λ f. (let l : client < r.client = ltb-true client r.client e in
        let m : r.client < s.client = ltb-true r.client s.client parts.0 in let no : ⊥ =
        omega arith in no))

    at : row_of client ss ≡ None → (b : Bool) → b ≡ false
        → cond b (Some s) (row_of client ss) ≡ None
    at ih true f = absurd (false≢true (sym f))
    at ih false f = ih

-- the row at a client's place, if it is the client's own
abbrev pub own_row : ℕ → Option Row → Option Row
own_row client None = None
own_row client (Some row) = cond (row.client == client) (Some row) None

-- a binary search finds the client's row
pub row_found : (client : ℕ) (rows : List Row) → are_in_order rows ≡ true
    → row_of client rows ≡ own_row client (slice_get rows (place_in client rows))
row_found client [] h = refl
row_found client (r ∷ rs) h = at (row_found client rs parts.1) (nat_lt r.client client) refl
  where
    parts : (list_all (row_lt r) rs ≡ true) × (are_in_order rs ≡ true)
    parts = and_parts (list_all (row_lt r) rs) (are_in_order rs) h

    here : nat_lt r.client client ≡ false → (c : Bool) → (r.client == client) ≡ c
        → cond c (Some r) (row_of client rs) ≡ cond c (Some r) None
    here e true f = refl
    here e false f = none_behind client r rs (after (cases_order r.client client)) parts.0
      where
        after : (r.client ≡ client) ⊎ ((r.client < client) ⊎ (client < r.client))
            → nat_lt client r.client ≡ true
        after (inl g) = absurd (eqb-false r.client client f g)
        after (inr (inl g)) = absurd (false≢true (sym e ∙ lt-ltb r.client client g))
        after (inr (inr g)) = lt-ltb client r.client g

    at : row_of client rs ≡ own_row client (slice_get rs (place_in client rs)) → (b : Bool)
        → nat_lt r.client client ≡ b
        → row_of client (r ∷ rs) ≡ own_row client
        (slice_get (r ∷ rs) (cond b (1 + place_in client rs) 0))
    at ih true e =
        ap (λ (c : Bool). cond c (Some r) (row_of client rs)) (not_same r.client client e)
        ∙ (ih ∙ ap (λ (n : ℕ). own_row client (slice_get (r ∷ rs) n))
        (one_more (place_in client rs)))
    at ih false e = here e (r.client == client) refl

-- the row that client c has once this client has this row
abbrev pub with_row : ℕ → Row → List Row → ℕ → Option Row
with_row client row rows c = cond (c == client) (Some row) (row_of c rows)

-- a row before the client's place is another client's
further : (client : ℕ) (row r : Row) (rows rs : List Row) (c : ℕ) → (r.client == client) ≡ false
    → row_of c rows ≡ with_row client row rs c
    → cond (r.client == c) (Some r) (row_of c rows) ≡ with_row client row (r ∷ rs) c
further client row r rows rs c e ih = at (c == client) (r.client == c) refl refl
  where
    at : (a b : Bool) → (c == client) ≡ a → (r.client == c) ≡ b
        → cond b (Some r) (row_of c rows) ≡ cond a (Some row) (cond b (Some r) (row_of c rs))
    at true true f g =
        absurd (false≢true (sym e ∙ eq-eqb r.client client
        (eqb-true r.client c g ∙ eqb-true c client f)))
    at true false f g = ih ∙ ap (λ (d : Bool). cond d (Some row) (row_of c rs)) f
    at false true f g = refl
    at false false f g = ih ∙ ap (λ (d : Bool). cond d (Some row) (row_of c rs)) f

same_other_way : (a b c : ℕ) → a ≡ c → (a == b) ≡ (b == c)
same_other_way a b c e = at (a == b) refl
  where
    at : (d : Bool) → (a == b) ≡ d → d ≡ (b == c)
    at true f = sym (eq-eqb b c (sym (eqb-true a b f) ∙ e))
    at false f = sym (ne_eqb b c (λ g. eqb-false a b f (e ∙ sym g)))

-- putting a client's row at its place gives this client that row, and changes no other client's
pub row_placed : (client : ℕ) (row : Row) (rows : List Row) → row.client ≡ client → (c : ℕ)
    → row_of c (placed row_lt rows row) ≡ with_row client row rows c
row_placed client row [] e c =
    ap (λ (b : Bool). cond b (Some row) None) (same_other_way row.client c client e)
row_placed client row (r ∷ rs) e c = at (row_placed client row rs e c) (row_lt r row) refl
  where
    at : row_of c (placed row_lt rs row) ≡ with_row client row rs c → (b : Bool) → row_lt r row ≡ b
        → row_of c (placed row_lt (r ∷ rs) row) ≡ with_row client row (r ∷ rs) c
    at ih true f =
        ap (row_of c) (placed_behind row_lt row r rs f)
        ∙ further client row r (placed row_lt rs row) rs c
        (subst (λ (n : ℕ). (r.client == n) ≡ false) e (not_same r.client row.client f)) ih
    at ih false f =
        ap (row_of c) (placed_front row_lt row r rs f)
        ∙ ap (λ (b : Bool). cond b (Some row) (row_of c (r ∷ rs)))
        (same_other_way row.client c client e)

-- replacing a client's row at its place gives this client the new one, and changes no other
-- client's
pub row_changed : (client : ℕ) (row old : Row) (rows : List Row) → row.client ≡ client
    → old.client ≡ client → slice_get rows (place_in client rows) ≡ Some old
    → (c : ℕ) → row_of c (slice_set rows (place_in client rows) row) ≡ with_row client row rows c
row_changed client row old [] e f g c = absurd cc
row_changed client row old (r ∷ rs) e f g c =
    at (row_changed client row old rs e f) (nat_lt r.client client) refl g
  where
    here : r ≡ old → (b : Bool) → (c == client) ≡ b
        → cond (row.client == c) (Some row) (row_of c rs) ≡ cond b (Some row)
        (cond (r.client == c) (Some r) (row_of c rs))
    here h true k =
        ap (λ (b : Bool). cond b (Some row) (row_of c rs))
        (same_other_way row.client c client e ∙ k)
    here h false k =
        ap (λ (b : Bool). cond b (Some row) (row_of c rs))
        (same_other_way row.client c client e ∙ k)
        ∙ sym (ap (λ (b : Bool). cond b (Some r) (row_of c rs))
        (same_other_way r.client c client (ap (λ (s : Row). s.client) h ∙ f) ∙ k))

    at : (slice_get rs (place_in client rs) ≡ Some old → (d : ℕ)
        → row_of d (slice_set rs (place_in client rs) row) ≡ with_row client row rs d)
        → (b : Bool) → nat_lt r.client client ≡ b
        → slice_get (r ∷ rs) (cond b (1 + place_in client rs) 0) ≡ Some old
        → row_of c (slice_set (r ∷ rs) (cond b (1 + place_in client rs) 0) row)
        ≡ with_row client row (r ∷ rs) c
    at ih true h k =
        ap (λ (n : ℕ). row_of c (slice_set (r ∷ rs) n row)) (sym (one_more (place_in client rs)))
        ∙ further client row r (slice_set rs (place_in client rs) row) rs c
        (not_same r.client client h)
        (ih (ap (λ (n : ℕ). slice_get (r ∷ rs) n) (one_more (place_in client rs)) ∙ k) c)
    at ih false h k = (let same : r ≡ old = cc in here same (c == client) refl)

client_laws : IsStrictOrder row_lt (λ row other. row.client == other.client)
client_laws = record {
  transitive = λ x y z e f. lt_trans x.client y.client z.client e f;
  one_way =
      λ x y e. at x y e (cases_order x.client y.client);
}
  where
    at : (x y : Row) → (x.client == y.client) ≡ false
        → (x.client ≡ y.client) ⊎ ((x.client < y.client) ⊎ (y.client < x.client))
        → (row_lt x y ≡ true) ⊎ (row_lt y x ≡ true)
    at x y e (inl f) = absurd (eqb-false x.client y.client e f)
    at x y e (inr (inl f)) = inl (lt-ltb x.client y.client f)
    at x y e (inr (inr f)) = inr (lt-ltb y.client x.client f)

none_any : (client : ℕ) (rows : List Row) → row_of client rows ≡ None
    → list_any (λ row. row.client == client) rows ≡ false
none_any client [] e = refl
none_any client (r ∷ rs) e = at (none_any client rs) (r.client == client) e
  where
    at : (row_of client rs ≡ None → list_any (λ row. row.client == client) rs ≡ false) → (b : Bool)
        → cond b (Some r) (row_of client rs) ≡ None
        → (b || list_any (λ row. row.client == client) rs) ≡ false
    at ih true f = absurd cc
    at ih false f = ih f

-- adding a row for a client that has none keeps rows in order
pub order_placed : (row : Row) (rows : List Row) → row_of row.client rows ≡ None
    → are_in_order rows ≡ true → are_in_order (placed row_lt rows row) ≡ true
order_placed row rows e h =
    rising_placed row_lt (λ r s. r.client == s.client) client_laws rows row
    (none_any row.client rows e) h

all_set : (test : Row → Bool) (rows : List Row) (i : ℕ) (row : Row) → list_all test rows ≡ true
    → test row ≡ true → list_all test (slice_set rows i row) ≡ true
all_set test [] i row h e = refl
all_set test (r ∷ rs) zero row h e =
    and_from (test row) (list_all test rs) e (and_parts (test r) (list_all test rs) h).1
all_set test (r ∷ rs) (suc i) row h e =
    let parts = and_parts (test r) (list_all test rs) h in
    and_from (test r) (list_all test (slice_set rs i row)) parts.0 (all_set test rs i row parts.1 e)

all_get : (test : Row → Bool) (rows : List Row) (i : ℕ) (old : Row) → list_all test rows ≡ true
    → slice_get rows i ≡ Some old → test old ≡ true
all_get test [] i old h e = absurd cc
all_get test (r ∷ rs) zero old h e =
    let same : r ≡ old = cc in ap test (sym same) ∙ (and_parts (test r) (list_all test rs) h).0
all_get test (r ∷ rs) (suc i) old h e =
    all_get test rs i old (and_parts (test r) (list_all test rs) h).1 e

-- replacing a row by one of the same client keeps them in order
pub order_changed : (row old : Row) (rows : List Row) (i : ℕ) → row.client ≡ old.client
    → slice_get rows i ≡ Some old → are_in_order rows ≡ true
    → are_in_order (slice_set rows i row) ≡ true
order_changed row old [] i e f h = absurd cc
order_changed row old (r ∷ rs) zero e f h =
    let parts = and_parts (list_all (row_lt r) rs) (are_in_order rs) h in
    let same : r ≡ old = cc in
    let client : r.client ≡ row.client = ap (λ (s : Row). s.client) same ∙ sym e in
    and_from (list_all (row_lt row) rs) (are_in_order rs)
    (subst (λ (n : ℕ). list_all (λ (s : Row). nat_lt n s.client) rs ≡ true) client parts.0)
    parts.1
order_changed row old (r ∷ rs) (suc i) e f h =
    let parts = and_parts (list_all (row_lt r) rs) (are_in_order rs) h in
    let before : row_lt r row ≡ true =
    ap (λ (n : ℕ). nat_lt r.client n) e ∙ all_get (row_lt r) rs i old parts.0 f in
    and_from (list_all (row_lt r) (slice_set rs i row)) (are_in_order (slice_set rs i row))
    (all_set (row_lt r) rs i row parts.0 before) (order_changed row old rs i e f parts.1)

-- the client's row, at its place
pub record IsHeld (client : ℕ) (rows : List Row) (row : Row) : Type 0 where
  -- the row stands at the client's place
  pub at : slice_get rows (place_in client rows) ≡ Some row
  -- the row is the client's
  pub own : row.client ≡ client
  -- a search for the client's row finds it
  pub found : row_of client rows ≡ Some row

-- if a client has a row, the row is at its place
pub held_in : (client : ℕ) (rows : List Row) (row : Row) → are_in_order rows ≡ true
    → row_of client rows ≡ Some row → IsHeld client rows row
held_in client rows row h e =
    at (slice_get rows (place_in client rows)) refl (sym (row_found client rows h) ∙ e)
  where
    own : (r : Row) → slice_get rows (place_in client rows) ≡ Some r → (b : Bool)
        → (r.client == client) ≡ b → cond b (Some r) None ≡ Some row → IsHeld client rows row
    own r f true g k =
        let same : r ≡ row = cc in record {
          at = f ∙ ap Some same;
          own =
              ap (λ (s : Row). s.client) (sym same) ∙ eqb-true r.client client g;
          found = e;
        }
    own r f false g k = absurd cc

    at : (there : Option Row) → slice_get rows (place_in client rows) ≡ there
        → own_row client there ≡ Some row → IsHeld client rows row
    at None f g = absurd cc
    at (Some r) f g = own r f (r.client == client) refl g

-- the row at its place is the client's
pub held_at : (client : ℕ) (rows : List Row) (row : Row) → are_in_order rows ≡ true
    → slice_get rows (place_in client rows) ≡ Some row → row.client ≡ client
    → IsHeld client rows row
held_at client rows row h e f = record {
  at = e;
  own = f;
  found =
      row_found client rows h ∙ (ap (own_row client) e
      ∙ ap (λ (b : Bool). cond b (Some row) None) (eq-eqb row.client client f));
}

-- if the row at its place is another client's, or there is no row there, the client has none
pub not_held : (client : ℕ) (rows : List Row) → are_in_order rows ≡ true
    → ((row : Row) → slice_get rows (place_in client rows) ≡ Some row → row.client ≡ client → ⊥)
    → row_of client rows ≡ None
not_held client rows h never =
    row_found client rows h ∙ at (slice_get rows (place_in client rows)) refl
  where
    other : (r : Row) → slice_get rows (place_in client rows) ≡ Some r → (b : Bool)
        → (r.client == client) ≡ b → cond b (Some r) None ≡ None
    other r f true g = absurd (never r f (eqb-true r.client client g))
    other r f false g = refl

    at : (there : Option Row) → slice_get rows (place_in client rows) ≡ there
        → own_row client there ≡ None
    at None f = refl
    at (Some r) f = other r f (r.client == client) refl

-- an element at a place within a list is the one read there, whatever the default
pub get_at : {X : Type 0} (xs : List X) (i : ℕ) (d x : X) → slice_get xs i ≡ Some x
    → (i < length xs) × (get_or xs i d ≡ x)
get_at [] i d x e = absurd cc
get_at (y ∷ ys) zero d x e = let same : y ≡ x = cc in (omega arith, same)
get_at (y ∷ ys) (suc i) d x e = let rest = get_at ys i d x e in (omega (arith, rest.0), rest.1)

-- a place within a list holds the element that is read there, whatever the default
pub get_within : {X : Type 0} (xs : List X) (i : ℕ) (d : X) → i < length xs
    → slice_get xs i ≡ Some (get_or xs i d)
get_within [] i d h = absurd (omega arith)
get_within (y ∷ ys) zero d h = refl
get_within (y ∷ ys) (suc i) d h = get_within ys i d (omega arith)

-- if the row at a client's place is the client's, a search for the client's row finds it
pub held_here : (client : ℕ) (rows : List Row) (row : Row) (i : ℕ) → are_in_order rows ≡ true
    → i ≡ place_in client rows → i < length rows → row ≡ get_or rows i row → row.client ≡ client
    → IsHeld client rows row
held_here client rows row i h place within at own =
    held_at client rows row h (ap (slice_get rows) (sym place)
    ∙ (get_within rows i row within ∙ ap Some (sym at))) own

-- if the row at a client's place is another client's, the client has no row
pub held_not : (client : ℕ) (rows : List Row) (row : Row) (i : ℕ) → are_in_order rows ≡ true
    → i ≡ place_in client rows → i < length rows → row ≡ get_or rows i row
    → (row.client ≡ client → ⊥) → row_of client rows ≡ None
held_not client rows row i h place within at other =
    not_held client rows h (λ r e own. other (ap (λ (s : Row). s.client) (here r e) ∙ own))
  where
    here : (r : Row) → slice_get rows (place_in client rows) ≡ Some r → row ≡ r
    here r e =
        (let same : Some row ≡ Some r =
        ap Some at ∙ (sym (get_within rows i row within) ∙ (ap (slice_get rows) place ∙ e)) in cc)

-- if a client's place is past the last row, the client has no row
pub held_past : (client : ℕ) (rows : List Row) (i : ℕ) → are_in_order rows ≡ true
    → i ≡ place_in client rows → length rows ≤ i → row_of client rows ≡ None
held_past client rows i h place past =
    not_held client rows h (λ r e own. none r (ap (slice_get rows) place ∙ e))
  where
    none : (r : Row) → slice_get rows i ≡ Some r → ⊥
    none r e = (let f = get_none rows i past in let no : None ≡ Some r = sym f ∙ e in absurd cc)

-- the row at its place decides whether the client has one
pub held_or_not : (client : ℕ) (rows : List Row) (row : Row) (i : ℕ) → are_in_order rows ≡ true
    → i ≡ place_in client rows → i < length rows → row ≡ get_or rows i row
    → (row.client == client) ≡ is_some (row_of client rows)
held_or_not client rows row i h place within at = by_client (row.client == client) refl
  where
    by_client : (b : Bool) → (row.client == client) ≡ b → b ≡ is_some (row_of client rows)
    by_client true e =
        sym (ap is_some (held_here client rows row i h place within at
        (eqb-true row.client client e)).found)
    by_client false e =
        sym (ap is_some (held_not client rows row i h place within at
        (eqb-false row.client client e)))
