-- Masks after one more bit is set: one more pair, at its place.
use Rattle.urb_window.proofs.Common.{Bool, Label, List, MAX_NODES, None, Option, Some, [], ack_lt}
use Rattle.urb_window.proofs.Common.{acked, and_from, and_parts, any_insert, ap, ap₂, arith}
use Rattle.urb_window.proofs.Common.{cases_Bool, cases_eq, cases_lt, cond, cond-false, cond-true}
use Rattle.urb_window.proofs.Common.{entry_lt, eq-eqb, false, false_from_ne_true, false≢true}
use Rattle.urb_window.proofs.Common.{has_bit, inl, inr, is_rising, is_some, le-ltb, marks_in}
use Rattle.urb_window.proofs.Common.{mask_of, name_lt, name_lt-strict, nat_lt, ne_eqb, nodes_in}
use Rattle.urb_window.proofs.Common.{placed, placed_behind, placed_front, refl, same_name}
use Rattle.urb_window.proofs.Common.{same_name-same, same_name-true, subst, suc, sym, true}
use Rattle.urb_window.proofs.Common.{unwrap_or, value_of, with_value, ℕ, ◌&&◌, ◌+◌, ◌-◌, ◌<◌, ◌==◌}
use Rattle.urb_window.proofs.Common.{◌^◌, ◌||◌, ◌∙◌, ◌∷◌, ◌≡◌, ◌≤◌, ◌⊎◌}
use Rattle.std.proofs.Common.{eqb-true}
use Rattle.urb_names.proofs.ElementPlaces.{rising_placed}
use Rattle.urb_certified.specs.internal.StrictOrders.{IsOrder}
use Rattle.urb_certified.proofs.RisingSets.{rising_same}
use Rattle.urb_window.proofs.AckOrder.{ack_lt-one_way, ack_lt-trans, acks_ordered, same_ack}
use Rattle.urb_window.proofs.MaskBits.{set_is, set_more}
use Rattle.urb_window.proofs.MaskPairs.{acked_is, is_one_of, marks_rise, none_behind, none_below}
use Rattle.urb_window.proofs.MaskPairs.{one_between}

-- ---- one more bit

same_places : (q r : ℕ) → 0 < q → 0 < r → ((q - 1) == (r - 1)) ≡ (q == r)
same_places q r l m = at (cases_eq q r)
  where
    at : (q ≡ r) ⊎ (q ≡ r → ⊥) → ((q - 1) == (r - 1)) ≡ (q == r)
    at (inl e) = eq-eqb (q - 1) (r - 1) (omega arith) ∙ sym (eq-eqb q r e)
    at (inr e) = ne_eqb (q - 1) (r - 1) (λ f. e (omega arith)) ∙ sym (ne_eqb q r e)

bit_more : (mask q r : ℕ) → 0 < q → 0 < r → has_bit mask q ≡ false
    → has_bit (mask + 2 ^ (q - 1)) r ≡ ((q == r) || has_bit mask r)
bit_more mask q r l m e =
    set_is (mask + 2 ^ (q - 1)) (r - 1)
    ∙ (set_more mask (q - 1) (r - 1) (sym (set_is mask (q - 1)) ∙ e)
    ∙ ap₂ (λ (b c : Bool). b || c) (same_places q r l m) (sym (set_is mask (r - 1))))

-- the nodes of a mask with one more bit are one more
nodes_more : (mask q r : ℕ) → 0 < q → q ≤ MAX_NODES → has_bit mask q ≡ false
    → is_one_of (nodes_in (mask + 2 ^ (q - 1))) r ≡ ((q == r) || is_one_of (nodes_in mask) r)
nodes_more mask q r l u e = at (cases_lt r 1) (cases_lt r (suc MAX_NODES))
  where
    new : ℕ
    new = mask + 2 ^ (q - 1)

    at : (r < 1) ⊎ (1 ≤ r) → (r < suc MAX_NODES) ⊎ (suc MAX_NODES ≤ r)
        → is_one_of (nodes_in new) r ≡ ((q == r) || is_one_of (nodes_in mask) r)
    at (inl low) k =
        none_below (has_bit new) 1 MAX_NODES r low
        ∙ sym (ap₂ (λ (b c : Bool). b || c) (ne_eqb q r (λ f. omega arith))
        (none_below (has_bit mask) 1 MAX_NODES r low))
    at (inr h) (inr high) =
        none_behind (has_bit new) 1 MAX_NODES r (omega arith)
        ∙ sym (ap₂ (λ (b c : Bool). b || c) (ne_eqb q r (λ f. omega arith))
        (none_behind (has_bit mask) 1 MAX_NODES r (omega arith)))
    at (inr h) (inl k) =
        one_between (has_bit new) 1 MAX_NODES r h (omega arith)
        ∙ (bit_more mask q r l (omega arith) e
        ∙ ap (λ (b : Bool). (q == r) || b)
        (sym (one_between (has_bit mask) 1 MAX_NODES r h (omega arith))))

-- ---- a value set under a new name or a known one

-- only this name's value has changed
pub record IsMarked (old : List (Label × ℕ)) (x : Label) (v : ℕ)
    (new : List (Label × ℕ)) : Type 0 where
  -- this name has the new value
  pub here : value_of new x ≡ Some v
  -- each other name has the value that it had
  pub others : (y : Label) → same_name x y ≡ false → value_of new y ≡ value_of old y

-- two names that are both the same as a third
through : (x y z : Label) → same_name z y ≡ true → same_name z x ≡ true → same_name x y ≡ true
through x y z e f = subst (λ (w : Label). same_name w y ≡ true) (same_name-true z x f) e

-- if two names differ, no name is the same as both
other_name : (x y z : Label) → same_name x y ≡ false → same_name z x ≡ true → same_name z y ≡ false
other_name x y z e f = false_from_ne_true _ (λ g. false≢true (sym e ∙ through x y z g f))

put_here : (entries : List (Label × ℕ)) (x : Label) (v : ℕ) → value_of entries x ≡ None
    → value_of (placed entry_lt entries (x, v)) x ≡ Some v
put_here [] x v none = cond-true (same_name x x) (Some v) None (same_name-same x)
put_here (e ∷ es) x v none =
    at (cases_Bool (same_name e.0 x)) (cases_Bool (name_lt e.0 x)) (put_here es x v)
  where
    at : (same_name e.0 x ≡ true) ⊎ (same_name e.0 x ≡ false)
        → (name_lt e.0 x ≡ true) ⊎ (name_lt e.0 x ≡ false)
        → (value_of es x ≡ None → value_of (placed entry_lt es (x, v)) x ≡ Some v)
        → value_of (placed entry_lt (e ∷ es) (x, v)) x ≡ Some v
    at (inl f) k ih =
        let some : Some e.1 ≡ None = sym (cond-true (same_name e.0 x) (Some e.1) (value_of es x) f)
        ∙ none in absurd cc
    at (inr f) (inl k) ih =
        ap (λ (ps : List (Label × ℕ)). value_of ps x) (placed_behind entry_lt (x, v) e es k)
        ∙ (cond-false (same_name e.0 x) (Some e.1) (value_of (placed entry_lt es (x, v)) x) f
        ∙ ih (sym (cond-false (same_name e.0 x) (Some e.1) (value_of es x) f) ∙ none))
    at (inr f) (inr k) ih =
        ap (λ (ps : List (Label × ℕ)). value_of ps x) (placed_front entry_lt (x, v) e es k)
        ∙ cond-true (same_name x x) (Some v) (value_of (e ∷ es) x) (same_name-same x)

put_other : (entries : List (Label × ℕ)) (x : Label) (v : ℕ) (y : Label) → same_name x y ≡ false
    → value_of (placed entry_lt entries (x, v)) y ≡ value_of entries y
put_other [] x v y f = cond-false (same_name x y) (Some v) None f
put_other (e ∷ es) x v y f = at (cases_Bool (name_lt e.0 x)) (put_other es x v y f)
  where
    at : (name_lt e.0 x ≡ true) ⊎ (name_lt e.0 x ≡ false)
        → value_of (placed entry_lt es (x, v)) y ≡ value_of es y
        → value_of (placed entry_lt (e ∷ es) (x, v)) y ≡ value_of (e ∷ es) y
    at (inl k) ih =
        ap (λ (ps : List (Label × ℕ)). value_of ps y) (placed_behind entry_lt (x, v) e es k)
        ∙ ap (λ (o : Option ℕ). cond (same_name e.0 y) (Some e.1) o) ih
    at (inr k) ih =
        ap (λ (ps : List (Label × ℕ)). value_of ps y) (placed_front entry_lt (x, v) e es k)
        ∙ cond-false (same_name x y) (Some v) (value_of (e ∷ es) y) f

set_other : (entries : List (Label × ℕ)) (x : Label) (v : ℕ) (y : Label) → same_name x y ≡ false
    → value_of (with_value entries x v) y ≡ value_of entries y
set_other [] x v y f = refl
set_other (e ∷ es) x v y f = at (same_name e.0 x) refl (set_other es x v y f)
  where
    at : (b : Bool) → same_name e.0 x ≡ b → value_of (with_value es x v) y ≡ value_of es y
        → value_of (cond b (e.0, v) e ∷ with_value es x v) y ≡ value_of (e ∷ es) y
    at true g ih =
        cond-false (same_name e.0 y) (Some v) (value_of (with_value es x v) y)
        (other_name x y e.0 f g)
        ∙ (ih ∙ sym (cond-false (same_name e.0 y) (Some e.1) (value_of es y)
        (other_name x y e.0 f g)))
    at false g ih = ap (λ (o : Option ℕ). cond (same_name e.0 y) (Some e.1) o) ih

set_here : (entries : List (Label × ℕ)) (x : Label) (v : ℕ) → is_some (value_of entries x) ≡ true
    → value_of (with_value entries x v) x ≡ Some v
set_here [] x v some = absurd (false≢true some)
set_here (e ∷ es) x v some = at (same_name e.0 x) refl (set_here es x v)
  where
    at : (b : Bool) → same_name e.0 x ≡ b
        → (is_some (value_of es x) ≡ true → value_of (with_value es x v) x ≡ Some v)
        → value_of (cond b (e.0, v) e ∷ with_value es x v) x ≡ Some v
    at true g ih = cond-true (same_name e.0 x) (Some v) (value_of (with_value es x v) x) g
    at false g ih =
        cond-false (same_name e.0 x) (Some e.1) (value_of (with_value es x v) x) g
        ∙ ih (ap is_some (sym (cond-false (same_name e.0 x) (Some e.1) (value_of es x) g)) ∙ some)

-- inserting a new name with its value changes only that name's value
pub changed_new : (old new : List (Label × ℕ)) (x : Label) (v : ℕ)
    → is_some (value_of old x) ≡ false → new ≡ placed entry_lt old (x, v) → IsMarked old x v new
changed_new old new x v none e =
    subst (IsMarked old x v) (sym e)
    (record { here = put_here old x v (nothing (value_of old x) none); others = put_other old x v })
  where
    nothing : (found : Option ℕ) → is_some found ≡ false → found ≡ None
    nothing None f = refl
    nothing (Some v) f = absurd (false≢true (sym f))

-- replacing the value of a name changes only that name's value
pub changed_known : (old new : List (Label × ℕ)) (x : Label) (v : ℕ)
    → is_some (value_of old x) ≡ true → new ≡ with_value old x v → IsMarked old x v new
changed_known old new x v some e =
    subst (IsMarked old x v) (sym e)
    (record { here = set_here old x v some; others = set_other old x v })

-- ---- one more pair

acks_in_order : IsOrder ack_lt same_ack
acks_in_order = record {
  transitive = ack_lt-trans;
  one_way = ack_lt-one_way;
  strict =
      strict;
  equal = equal;
  itself = itself;
}
  where
    strict : (a : Label × ℕ) → ack_lt a a ≡ false
    strict a =
        ap₂ (λ (b c : Bool). b || (same_name a.0 a.0 && c)) (name_lt-strict a.0) (never a.1)
        ∙ none (same_name a.0 a.0)
      where
        never : (n : ℕ) → nat_lt n n ≡ false
        never n = le-ltb n n (omega arith)

        none : (b : Bool) → (b && false) ≡ false
        none true = refl
        none false = refl

    equal : (a b : Label × ℕ) → same_ack a b ≡ true → a ≡ b
    equal a b e =
        let parts = and_parts (same_name a.0 b.0) (a.1 == b.1) e in
        ap₂ (λ (x : Label) (n : ℕ). (x, n)) (same_name-true a.0 b.0 parts.0)
        (eqb-true a.1 b.1 parts.1)

    itself : (a : Label × ℕ) → same_ack a a ≡ true
    itself a = and_from (same_name a.0 a.0) (a.1 == a.1) (same_name-same a.0) (eq-eqb a.1 a.1 refl)

-- if one more bit of a name is set, the pair of this name and node is at its place
pub marks_more : (old new : List (Label × ℕ)) (x : Label) (q : ℕ) → 0 < q → q ≤ MAX_NODES
    → is_rising entry_lt old ≡ true → is_rising entry_lt new ≡ true
    → has_bit (mask_of old x) q ≡ false
    → IsMarked old x (mask_of old x + 2 ^ (q - 1)) new
    → marks_in new ≡ placed ack_lt (marks_in old) (x, q)
marks_more old new x q l u order later clear marked =
    rising_same ack_lt same_ack acks_in_order (marks_in new) (placed ack_lt (marks_in old) (x, q))
    (marks_rise new later)
    (rising_placed ack_lt same_ack acks_ordered (marks_in old) (x, q)
    (acked_is old x q order ∙ (one_between (has_bit (mask_of old x)) 1 MAX_NODES q (omega arith)
    (omega arith) ∙ clear)) (marks_rise old order))
    (λ a. at a (cases_Bool (same_name x a.0))
    ∙ sym (any_insert (λ b. same_ack b a) (marks_in old) _ (x, q)))
  where
    at : (a : Label × ℕ) → (same_name x a.0 ≡ true) ⊎ (same_name x a.0 ≡ false)
        → acked (marks_in new) a.0 a.1
        ≡ ((same_name x a.0 && (q == a.1)) || acked (marks_in old) a.0 a.1)
    at a (inl e) =
        let here : x ≡ a.0 = same_name-true x a.0 e in
        let value : mask_of new a.0 ≡ mask_of old x + 2 ^ (q - 1) =
        ap (mask_of new) (sym here) ∙ ap (λ (o : Option ℕ). unwrap_or o 0) marked.here in
        let before : is_one_of (nodes_in (mask_of old x)) a.1 ≡ acked (marks_in old) a.0 a.1 =
        sym (acked_is old x a.1 order) ∙ ap (λ (y : Label). acked (marks_in old) y a.1) here in
        acked_is new a.0 a.1 later
        ∙ (ap (λ (m : ℕ). is_one_of (nodes_in m) a.1) value
        ∙ (nodes_more (mask_of old x) q a.1 l u clear
        ∙ ap₂ (λ (b c : Bool). (b && (q == a.1)) || c) (sym e) before))
    at a (inr e) =
        acked_is new a.0 a.1 later
        ∙ (ap (λ (o : Option ℕ). is_one_of (nodes_in (unwrap_or o 0)) a.1) (marked.others a.0 e)
        ∙ (sym (acked_is old a.0 a.1 order)
        ∙ ap (λ (b : Bool). (b && (q == a.1)) || acked (marks_in old) a.0 a.1) (sym e)))
