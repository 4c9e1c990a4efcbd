-- The names that have masks, and what it takes to clear all masks.
use Rattle.urb_window.proofs.Common.{Bool, IsSome, Label, List, MarkSet, None, Option, Some}
use Rattle.urb_window.proofs.Common.{WindowSet, [], ack_lt, and_from, and_parts, any_insert, ap}
use Rattle.urb_window.proofs.Common.{ap₂, arith, cases_Bool, cond, cond-false, cond-true, entry_lt}
use Rattle.urb_window.proofs.Common.{false, false≢true, has_name, inl, inr, is_rising, is_some}
use Rattle.urb_window.proofs.Common.{length, list_all, map, marks_in, marks_of, name_lt, names_of}
use Rattle.urb_window.proofs.Common.{nodes_in, option_map, or_left, placed, placed_behind}
use Rattle.urb_window.proofs.Common.{placed_front, refl, same_name, same_name-same, slice_get, suc}
use Rattle.urb_window.proofs.Common.{sym, true, value_of, with_value, zero, ℕ, ◌++◌, ◌+◌, ◌<◌, ◌∙◌}
use Rattle.urb_window.proofs.Common.{◌∷◌, ◌≡◌, ◌⊎◌}
use Rattle.urb_window.specs.Marks.{with_mark, with_room}
use Rattle.urb_window.proofs.NameSearches.{has_value}

module _ {V : Type 0} where
  -- replacing a value changes no name
  pub names_valued : (entries : List (Label × V)) (x : Label) (v : V)
      → names_of (with_value entries x v) ≡ names_of entries
  names_valued [] x v = refl
  names_valued (e ∷ es) x v =
      ap₂ (λ (y : Label) (ys : List Label). y ∷ ys) (at (same_name e.0 x)) (names_valued es x v)
    where
      at : (b : Bool) → (let put : Label × V = cond b (e.0, v) e in put.0) ≡ e.0
      at true = refl
      at false = refl

  -- one more entry is one more name, at its place
  pub names_placed : (entries : List (Label × V)) (x : Label) (v : V)
      → names_of (placed entry_lt entries (x, v)) ≡ placed name_lt (names_of entries) x
  names_placed [] x v = refl
  names_placed (e ∷ es) x v = at (cases_Bool (name_lt e.0 x)) (names_placed es x v)
    where
      at : (name_lt e.0 x ≡ true) ⊎ (name_lt e.0 x ≡ false)
          → names_of (placed entry_lt es (x, v)) ≡ placed name_lt (names_of es) x
          → names_of (placed entry_lt (e ∷ es) (x, v)) ≡ placed name_lt (names_of (e ∷ es)) x
      at (inl k) ih =
          ap names_of (placed_behind entry_lt (x, v) e es k)
          ∙ (ap (λ ys. e.0 ∷ ys) ih ∙ sym (placed_behind name_lt x e.0 (names_of es) k))
      at (inr k) ih =
          ap names_of (placed_front entry_lt (x, v) e es k)
          ∙ sym (placed_front name_lt x e.0 (names_of es) k)

  all_names : (test : Label → Bool) (entries : List (Label × V))
      → list_all (λ e. test e.0) entries ≡ true → list_all test (names_of entries) ≡ true
  all_names test [] h = refl
  all_names test (e ∷ es) h =
      let parts = and_parts (test e.0) (list_all (λ f. test f.0) es) h in
      and_from (test e.0) (list_all test (names_of es)) parts.0 (all_names test es parts.1)

  -- the names are in order if the entries are
  pub names_rise : (entries : List (Label × V)) → is_rising entry_lt entries ≡ true
      → is_rising name_lt (names_of entries) ≡ true
  names_rise [] h = refl
  names_rise (e ∷ es) h =
      let parts = and_parts (list_all (entry_lt e) es) (is_rising entry_lt es) h in
      and_from (list_all (name_lt e.0) (names_of es)) (is_rising name_lt (names_of es))
      (all_names (name_lt e.0) es parts.0) (names_rise es parts.1)

-- an empty mask marks no node, wherever it is
pub placed_empty : (entries : List (Label × ℕ)) (x : Label)
    → marks_in (placed entry_lt entries (x, 0)) ≡ marks_in entries
placed_empty [] x = refl
placed_empty (e ∷ es) x = at (cases_Bool (name_lt e.0 x)) (placed_empty es x)
  where
    at : (name_lt e.0 x ≡ true) ⊎ (name_lt e.0 x ≡ false)
        → marks_in (placed entry_lt es (x, 0)) ≡ marks_in es
        → marks_in (placed entry_lt (e ∷ es) (x, 0)) ≡ marks_in (e ∷ es)
    at (inl k) ih =
        ap marks_in (placed_behind entry_lt (x, 0) e es k)
        ∙ ap (λ acks. map (λ q. (e.0, q)) (nodes_in e.1) ++ acks) ih
    at (inr k) ih = ap marks_in (placed_front entry_lt (x, 0) e es k)

-- ---- a new name, or a known one

-- inserting a mask under a name that had none makes space for that name's marks
pub room_new : (old new : WindowSet ℕ) (x : Label) (m : ℕ)
    → is_some (value_of old.entries x) ≡ false
    → new ≡ record { entries = placed entry_lt old.entries (x, m); reserved = None }
    → with_room (marks_of old) x ≡ record
    { marks = marks_in old.entries; roomy = names_of new.entries; reserved = new.reserved }
room_new old new x m none e =
    cond-false (has_name (names_of old.entries) x) (marks_of old)
    (record {
      marks = marks_in old.entries;
      roomy =
          placed name_lt (names_of old.entries) x;
      reserved = None;
    }) (has_value old.entries x ∙ none)
    ∙ ap₂ (λ names reserved. record
    { marks = marks_in old.entries; roomy = names; reserved = reserved })
    (sym (ap (λ (s : WindowSet ℕ). names_of s.entries) e ∙ names_placed old.entries x m))
    (sym (ap (λ (s : WindowSet ℕ). s.reserved) e))

-- replacing the mask of a name that has one leaves the names with space as they are
pub room_known : (old new : WindowSet ℕ) (x : Label) (m : ℕ)
    → is_some (value_of old.entries x) ≡ true
    → new ≡ record old { entries = with_value old.entries x m }
    → with_room (marks_of old) x ≡ record
    { marks = marks_in old.entries; roomy = names_of new.entries; reserved = new.reserved }
room_known old new x m some e =
    cond-true (has_name (names_of old.entries) x) (marks_of old)
    (record {
      marks = marks_in old.entries;
      roomy =
          placed name_lt (names_of old.entries) x;
      reserved = None;
    }) (has_value old.entries x ∙ some)
    ∙ ap₂ (λ names reserved. record
    { marks = marks_in old.entries; roomy = names; reserved = reserved })
    (sym (ap (λ (s : WindowSet ℕ). names_of s.entries) e ∙ names_valued old.entries x m))
    (sym (ap (λ (s : WindowSet ℕ). s.reserved) e))

-- a name has space once space was made for it
pub roomy_with : (s : MarkSet) (x : Label) → has_name (with_room s x).roomy x ≡ true
roomy_with s x = at (has_name s.roomy x) refl
  where
    new : MarkSet
    new = record { marks = s.marks; roomy = placed name_lt s.roomy x; reserved = None }

    at : (b : Bool) → has_name s.roomy x ≡ b → has_name (with_room s x).roomy x ≡ true
    at true e =
        ap (λ (t : MarkSet). has_name t.roomy x) (cond-true (has_name s.roomy x) s new e) ∙ e
    at false e =
        ap (λ (t : MarkSet). has_name t.roomy x) (cond-false (has_name s.roomy x) s new e)
        ∙ (any_insert (λ y. same_name y x) s.roomy _ x
        ∙ or_left (same_name x x) (has_name s.roomy x) (same_name-same x))

-- with space for a name, and a node's pair put at its place, the set has the node marked for the
-- name
pub mark_joins : (old new : WindowSet ℕ) (x : Label) (q : ℕ)
    → with_room (marks_of old) x ≡ record
    { marks = marks_in old.entries; roomy = names_of new.entries; reserved = new.reserved }
    → marks_in new.entries ≡ placed ack_lt (marks_in old.entries) (x, q)
    → marks_of new ≡ with_mark (marks_of old) x q
mark_joins old new x q room marks =
    ap (λ acks. record { marks = acks; roomy = names_of new.entries; reserved = new.reserved })
    marks
    ∙ ap (λ (s : MarkSet). record s { marks = placed ack_lt (marks_in old.entries) (x, q) })
    (sym room)

-- ---- clearing all

-- the first masks are empty
abbrev pub AreEmpty : ℕ → List (Label × ℕ) → Type 0
AreEmpty zero entries = Unit {0}
AreEmpty (suc count) [] = Unit {0}
AreEmpty (suc count) (e ∷ es) = (e.1 ≡ 0) × AreEmpty count es

-- if all masks are empty, no node is marked
pub none_marked : (count : ℕ) (entries : List (Label × ℕ)) → AreEmpty count entries
    → length entries ≡ count → marks_in entries ≡ []
none_marked zero [] h e = refl
none_marked zero (f ∷ es) h e = absurd (omega arith)
none_marked (suc count) [] h e = refl
none_marked (suc count) (f ∷ es) h e =
    ap (λ (m : ℕ). marks_in ((f.0, m) ∷ es)) h.0 ∙ none_marked count es h.1 (omega arith)

valued_empty : (count : ℕ) (entries : List (Label × ℕ)) (x : Label) → AreEmpty count entries
    → AreEmpty count (with_value entries x 0)
valued_empty zero entries x h = tt
valued_empty (suc count) [] x h = tt
valued_empty (suc count) (e ∷ es) x h = (at (same_name e.0 x), valued_empty count es x h.1)
  where
    at : (b : Bool) → (let put : Label × ℕ = cond b (e.0, 0) e in put.1) ≡ 0
    at true = refl
    at false = h.0

-- the first entry is the one with this name
first_name : (e : Label × ℕ) (x : Label) → ◌≡◌ {A = Option Label} (Some e.0) (Some x) → e.0 ≡ x
first_name e x h = cc

-- the mask at a place is cleared under its name
pub one_more_empty : (count : ℕ) (entries : List (Label × ℕ)) (x : Label) → AreEmpty count entries
    → option_map (λ (e : Label × ℕ). e.0) (slice_get entries count) ≡ Some x
    → AreEmpty (suc count) (with_value entries x 0)
one_more_empty zero [] x h e = absurd cc
one_more_empty zero (f ∷ es) x h e = (
  at (same_name f.0 x) (ap (λ (y : Label). same_name y x) (first_name f x e) ∙ same_name-same x),
  tt,
)
  where
    at : (b : Bool) → b ≡ true → (let put : Label × ℕ = cond b (f.0, 0) f in put.1) ≡ 0
    at true g = refl
    at false g = absurd (false≢true g)
one_more_empty (suc count) [] x h e = absurd cc
one_more_empty (suc count) (f ∷ es) x h e = (at (same_name f.0 x), one_more_empty count es x h.1 e)
  where
    at : (b : Bool) → (let put : Label × ℕ = cond b (f.0, 0) f in put.1) ≡ 0
    at true = refl
    at false = h.0

-- the entry at a place has a value under its name
pub value_there : (index : ℕ) (entries : List (Label × ℕ)) (x : Label)
    → option_map (λ (e : Label × ℕ). e.0) (slice_get entries index) ≡ Some x
    → IsSome (value_of entries x)
value_there index [] x e = absurd cc
value_there zero (f ∷ es) x e =
    ap is_some (cond-true (same_name f.0 x) (Some f.1) (value_of es x)
    (ap (λ (y : Label). same_name y x) (first_name f x e) ∙ same_name-same x))
value_there (suc index) (f ∷ es) x e = at (same_name f.0 x) (value_there index es x e)
  where
    at : (b : Bool) → IsSome (value_of es x) → IsSome (cond b (Some f.1) (value_of es x))
    at true ih = refl
    at false ih = ih

-- each place within the length has a name
pub name_stands : (index : ℕ) (entries : List (Label × ℕ)) → index < length entries
    → IsSome (option_map (λ (e : Label × ℕ). e.0) (slice_get entries index))
name_stands index [] h = absurd (omega arith)
name_stands zero (e ∷ es) h = refl
name_stands (suc index) (e ∷ es) h = name_stands index es (omega arith)
