-- What rows say once one client's row has changed.
use Rattle.urb_pending.proofs.Common.{Bool, List, None, Option, Row, Some, [], ap, are_in_order}
use Rattle.urb_pending.proofs.Common.{cond, eq-eqb, false, false≢true, get_or, given_to, has_room}
use Rattle.urb_pending.proofs.Common.{is_roomy, is_some, length, numbers_in, placed, refl, row_lt}
use Rattle.urb_pending.proofs.Common.{row_of, slice_get, sym, true, ℕ, ◌++◌, ◌<◌, ◌==◌, ◌∙◌, ◌∷◌}
use Rattle.urb_pending.proofs.Common.{◌≡◌}
use Rattle.std.proofs.Common.{eqb-true, insert}
use Rattle.urb_pending.proofs.ClientRowPlaces.{IsHeld, get_at, held_in, place_in, with_row}
use Rattle.urb_pending.proofs.IndexGrowth.{with_given}

module _ (client : ℕ) (new : Row) (rows after : List Row)
    (changed : (c : ℕ) → row_of c after ≡ with_row client new rows c) where
  -- if the new row has the same numbers, no client's numbers change
  pub given_same : new.given ≡ given_to client rows → (c : ℕ) → given_to c after ≡ given_to c rows
  given_same e c = ap numbers_in (changed c) ∙ at (c == client) refl
    where
      at : (b : Bool) → (c == client) ≡ b
          → numbers_in (cond b (Some new) (row_of c rows)) ≡ given_to c rows
      at true f = e ∙ ap (λ (d : ℕ). given_to d rows) (sym (eqb-true c client f))
      at false f = refl

  -- if the new row has one more number, its client has one more
  pub given_pushed : (seq : ℕ) → new.given ≡ given_to client rows ++ seq ∷ [] → (c : ℕ)
      → given_to c after ≡ with_given client seq rows c
  given_pushed seq e c = ap numbers_in (changed c) ∙ at (c == client) refl
    where
      at : (b : Bool) → (c == client) ≡ b
          → numbers_in (cond b (Some new) (row_of c rows)) ≡ cond b (given_to c rows ++ seq ∷ [])
          (given_to c rows)
      at true f = e ∙ ap (λ (d : ℕ). given_to d rows ++ seq ∷ []) (sym (eqb-true c client f))
      at false f = refl

  -- if the new row has space, its client has space
  pub room_made : new.room ≡ true → has_room client after ≡ true
  room_made e =
      ap is_roomy (changed client) ∙ (ap
      (λ (b : Bool). is_roomy (cond b (Some new) (row_of client rows))) (eq-eqb client client refl)
      ∙ e)

  -- if the new row has space, each client that had space still has it
  pub room_kept : new.room ≡ true → (c : ℕ) → has_room c rows ≡ true → has_room c after ≡ true
  room_kept e c h = ap is_roomy (changed c) ∙ at (c == client)
    where
      at : (b : Bool) → is_roomy (cond b (Some new) (row_of c rows)) ≡ true
      at true = e
      at false = h

-- the row of a client that has space
pub record HasRoom (client : ℕ) (rows : List Row) : Type 0 where
  -- the client's row
  pub row : Row
  -- it stands at the client's place among the rows
  pub held : IsHeld client rows row
  -- it has space for one more number
  pub room : row.room ≡ true

-- if there is space for one more message of a client, the client's row has it
pub roomy_row : (client : ℕ) (rows : List Row) → are_in_order rows ≡ true
    → has_room client rows ≡ true → HasRoom client rows
roomy_row client rows h e = at (row_of client rows) refl e
  where
    at : (there : Option Row) → row_of client rows ≡ there → is_roomy there ≡ true
        → HasRoom client rows
    at None f g = absurd cc
    at (Some row) f g = record { row = row; held = held_in client rows row h f; room = g }

-- the row at a client's place is the client's row
pub row_read : (client : ℕ) (rows : List Row) (row here : Row) (i : ℕ) → IsHeld client rows row
    → i ≡ place_in client rows → here ≡ get_or rows i here → (i < length rows) × (here ≡ row)
row_read client rows row here i h place read =
    let found = get_at rows i here row (ap (slice_get rows) place ∙ h.at) in
    (found.0, read ∙ found.1)

-- the place of a client's row is within the rows
pub row_within : (client : ℕ) (rows : List Row) (row : Row) (i : ℕ) → IsHeld client rows row
    → i ≡ place_in client rows → i < length rows
row_within client rows row i h place = (get_at rows i row row (ap (slice_get rows) place ∙ h.at)).0

-- the row of a client that has one
pub record HasRow (client : ℕ) (rows : List Row) : Type 0 where
  -- the client's row
  pub row : Row
  -- it stands at the client's place among the rows
  pub held : IsHeld client rows row

-- if a client has a row, it stands at the client's place
pub row_there : (client : ℕ) (rows : List Row) → are_in_order rows ≡ true
    → is_some (row_of client rows) ≡ true → HasRow client rows
row_there client rows h e = at (row_of client rows) refl e
  where
    at : (there : Option Row) → row_of client rows ≡ there → is_some there ≡ true
        → HasRow client rows
    at None f g = absurd cc
    at (Some row) f g = record { row = row; held = held_in client rows row h f }

-- if a search for a client's row tests as failed, it found none
pub no_row : (client : ℕ) (rows : List Row) → is_some (row_of client rows) ≡ false
    → row_of client rows ≡ None
no_row client rows e = at (row_of client rows) e
  where
    at : (there : Option Row) → is_some there ≡ false → there ≡ None
    at None f = refl
    at (Some row) f = absurd cc

-- a client without a row has no space
pub not_roomy : (client : ℕ) (rows : List Row) → is_some (row_of client rows) ≡ false
    → has_room client rows ≡ true → ⊥
not_roomy client rows e f = false≢true (sym (ap is_roomy (no_row client rows e)) ∙ f)

-- a row put at its client's place comes after those that precede it
pub placed_at : (client : ℕ) (rows after : List Row) (new : Row) (i : ℕ) → new.client ≡ client
    → i ≡ place_in client rows → after ≡ insert rows i new → after ≡ placed row_lt rows new
placed_at client rows after new i own place put =
    put ∙ (ap (λ (n : ℕ). insert rows n new) place
    ∙ ap (λ (n : ℕ). insert rows (place_in n rows) new) (sym own))
