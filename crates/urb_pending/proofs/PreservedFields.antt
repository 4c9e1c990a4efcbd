-- The invariant of a pending set's fields.
use Rattle.urb_pending.proofs.Common.{Bool, Content, IsIndexOf, IsLabel, IsPendingSet, Label, List}
use Rattle.urb_pending.proofs.Common.{None, PendingSet, Row, [], ap, arith, cond, entry_lt, false}
use Rattle.urb_pending.proofs.Common.{given_to, has_room, inserted, length, message_of, next_number}
use Rattle.urb_pending.proofs.Common.{own, placed, refl, subst, suc, sym, true, ℕ, ◌&&◌, ◌++◌, ◌+◌}
use Rattle.urb_pending.proofs.Common.{◌==◌, ◌∙◌, ◌∷◌, ◌≡◌, ◌≤◌}
use Rattle.std.proofs.Common.{eqb-true}
use Rattle.urb_window.specs.WindowSet.{WindowSet}
use Rattle.urb_pending.specs.PendingFields.{view_of}
use Rattle.urb_pending.specs.internal.FieldInvariant.{IsKept}
use Rattle.urb_pending.specs.declared.pending.Pending.TheInside.{Inside}
use Rattle.urb_pending.proofs.InsertedPairs.{inserted_at}
use Rattle.urb_pending.proofs.PreservedSets.{own_kept, own_next, still_pending_set}
use Rattle.urb_pending.proofs.IndexGrowth.{index_grows, index_same}

-- a pair goes to its place among entries
pub placed_pair : (x : Label) (m : Content) (ps : List (Label × Content))
    → placed entry_lt ps (x, m) ≡ inserted (x, m) ps
placed_pair x m ps = sym (inserted_at (x, m) ps)

-- the rows with one more number, if the message is the node's own
abbrev pub IsGiven : Bool → ℕ → ℕ → List Row → List Row → Type 0
IsGiven mine client seq rows new =
    (c : ℕ) → given_to c new ≡ cond (mine && (c == client)) (given_to c rows ++ seq ∷ [])
    (given_to c rows)

-- the index stays right when a pair is added
pub still_index : (set : PendingSet) → IsPendingSet set
    → (x : Label) (m : Content) (rows new : List Row) → IsIndexOf (own set.node set.pairs) rows
    → (x.sender ≡ set.node → (x.seq ≡ length (own set.node set.pairs) + 1)
    × (m.number ≡ next_number m.client (own set.node set.pairs)))
    → IsGiven (x.sender == set.node) m.client x.seq rows new
    → IsIndexOf (own set.node (inserted (x, m) set.pairs)) new
still_index set h x m rows new index next given = at (x.sender == set.node) refl given
  where
    at : (b : Bool) → (x.sender == set.node) ≡ b → IsGiven b m.client x.seq rows new
        → IsIndexOf (own set.node (inserted (x, m) set.pairs)) new
    at true e f =
        let same : x.sender ≡ set.node = eqb-true x.sender set.node e in
        let seq : x.seq ≡ suc (length (own set.node set.pairs)) = omega (arith, (next same).0) in
        subst (λ ms. IsIndexOf ms new) (sym (own_next set h x m same (next same).0))
        (index_grows (own set.node set.pairs) m rows new index (next same).1
        (λ c. f c ∙ ap (λ n. cond (c == m.client) (given_to c rows ++ n ∷ []) (given_to c rows))
        seq))
    at false e f =
        subst (λ ms. IsIndexOf ms new) (sym (own_kept set.node x m set.pairs e))
        (index_same (own set.node set.pairs) rows new index f)

module _ {A : Type 0} (a : Inside A) (clients : List Row) (kept : IsKept a)
    (given : (c : ℕ) → given_to c clients ≡ given_to c a.clients)
    (room : (c : ℕ) → has_room c a.clients ≡ true → has_room c clients ≡ true) where
  -- more space in the index preserves the invariant
  pub roomier : IsKept (record a { clients = clients })
  roomier = record {
    set = kept.set;
    index = index_same (own a.node a.windows.entries) a.clients clients kept.index given;
    room =
        λ x client e. let old = kept.room x client e in
        record { under = old.under; own = λ f. room client (old.own f) };
  }

  -- more space in the index preserves the invariant, also if the windows are only equal
  pub roomier_same : (windows : WindowSet Content) → windows ≡ a.windows
      → IsKept (record a { windows = windows; clients = clients })
  roomier_same windows e =
      subst (λ w. IsKept (record a { windows = w; clients = clients })) (sym e) roomier

-- adding a pair, and its number to the index, preserves the invariant; no space is promised
pub kept_with : {A : Type 0} (a : Inside A) (x : Label) (m : Content) (windows : WindowSet Content)
    (clients new : List Row) → IsKept a → IsLabel x → message_of a.windows.entries x ≡ None
    → x.sender ≤ a.config.n → x.seq ≤ a.config.cap
    → (x.sender ≡ a.node → (x.seq ≡ length (own a.node a.windows.entries) + 1)
    × (m.number ≡ next_number m.client (own a.node a.windows.entries)))
    → windows.entries ≡ placed entry_lt a.windows.entries (x, m)
    → ((c : ℕ) → given_to c clients ≡ given_to c a.clients)
    → IsGiven (x.sender == a.node) m.client x.seq clients new
    → IsKept (record a { windows = windows; clients = new; reserved = None })
kept_with a x m windows clients new kept label absent low high next put same given = record {
  set =
      subst (λ ps. IsPendingSet (record (view_of a) { pairs = ps; reserved = None })) (sym entries)
      (still_pending_set (view_of a) kept.set x m label absent low high next);
  index =
      subst (λ ps. IsIndexOf (own a.node ps) new) (sym entries)
      (still_index (view_of a) kept.set x m clients new
      (index_same (own a.node a.windows.entries) a.clients clients kept.index same) next given);
  room = λ y client e. absurd cc;
}
  where
    entries : windows.entries ≡ inserted (x, m) a.windows.entries
    entries = put ∙ placed_pair x m a.windows.entries
