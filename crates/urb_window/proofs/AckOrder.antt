-- The order of acknowledgements.
use Rattle.urb_window.proofs.Common.{Bool, Label, ack_lt, and_from, and_parts, arith, cases_Bool}
use Rattle.urb_window.proofs.Common.{eq-eqb, false, false≢true, inl, inr, name_lt, nat_lt, or_left}
use Rattle.urb_window.proofs.Common.{or_right, same_name, same_name-same, same_name-true, subst}
use Rattle.urb_window.proofs.Common.{sym, true, ℕ, ⊎_elim, ◌&&◌, ◌<◌, ◌==◌, ◌∙◌, ◌≡◌, ◌⊎◌}
use Rattle.std.proofs.Common.{lt-ltb, ltb-true}
use Rattle.std.proofs.lemmas.Bool.{cases_order, or_cases}
use Rattle.urb_names.proofs.RisingPairs.{name_lt-one_way, name_lt-trans}
use Rattle.urb_names.proofs.ElementPlaces.{IsStrictOrder}

-- whether two acknowledgements are the same
abbrev pub same_ack : Label × ℕ → Label × ℕ → Bool
same_ack a b = same_name a.0 b.0 && (a.1 == b.1)

-- an acknowledgement that comes before another comes before all after it
pub ack_lt-trans : (a b c : Label × ℕ) → ack_lt a b ≡ true → ack_lt b c ≡ true → ack_lt a c ≡ true
ack_lt-trans a b c e f =
    both (or_cases (name_lt a.0 b.0) (same_name a.0 b.0 && nat_lt a.1 b.1) e)
    (or_cases (name_lt b.0 c.0) (same_name b.0 c.0 && nat_lt b.1 c.1) f)
  where
    by_name : name_lt a.0 c.0 ≡ true → ack_lt a c ≡ true
    by_name h = or_left (name_lt a.0 c.0) (same_name a.0 c.0 && nat_lt a.1 c.1) h

    both : (name_lt a.0 b.0 ≡ true) ⊎ ((same_name a.0 b.0 && nat_lt a.1 b.1) ≡ true)
        → (name_lt b.0 c.0 ≡ true) ⊎ ((same_name b.0 c.0 && nat_lt b.1 c.1) ≡ true)
        → ack_lt a c ≡ true
    both (inl h) (inl k) = by_name (name_lt-trans a.0 b.0 c.0 h k)
    both (inl h) (inr k) =
        by_name (subst (λ (x : Label). name_lt a.0 x ≡ true)
        (same_name-true b.0 c.0 (and_parts (same_name b.0 c.0) (nat_lt b.1 c.1) k).0) h)
    both (inr h) (inl k) =
        by_name (subst (λ (x : Label). name_lt x c.0 ≡ true)
        (sym (same_name-true a.0 b.0 (and_parts (same_name a.0 b.0) (nat_lt a.1 b.1) h).0)) k)
    both (inr h) (inr k) =
        let first = and_parts (same_name a.0 b.0) (nat_lt a.1 b.1) h in
        let second = and_parts (same_name b.0 c.0) (nat_lt b.1 c.1) k in
        let below : a.1 < b.1 = ltb-true a.1 b.1 first.1 in
        let above : b.1 < c.1 = ltb-true b.1 c.1 second.1 in
        or_right (name_lt a.0 c.0) (same_name a.0 c.0 && nat_lt a.1 c.1)
        (and_from (same_name a.0 c.0) (nat_lt a.1 c.1)
        (subst (λ (x : Label). same_name a.0 x ≡ true)
        (same_name-true b.0 c.0 second.0) first.0) (lt-ltb a.1 c.1 (omega arith)))

same_sym : (x y : Label) → same_name x y ≡ true → same_name y x ≡ true
same_sym x y e =
    subst (λ (z : Label). same_name z x ≡ true) (same_name-true x y e) (same_name-same x)

-- of two different acknowledgements, one comes before the other
pub ack_lt-one_way : (a b : Label × ℕ) → same_ack a b ≡ false
    → (ack_lt a b ≡ true) ⊎ (ack_lt b a ≡ true)
ack_lt-one_way a b e = at (cases_Bool (same_name a.0 b.0)) (cases_order a.1 b.1)
  where
    at : (same_name a.0 b.0 ≡ true) ⊎ (same_name a.0 b.0 ≡ false)
        → (a.1 ≡ b.1) ⊎ ((a.1 < b.1) ⊎ (b.1 < a.1)) → (ack_lt a b ≡ true) ⊎ (ack_lt b a ≡ true)
    at (inl h) (inl k) =
        absurd (false≢true (sym e ∙ and_from (same_name a.0 b.0) (a.1 == b.1) h (eq-eqb a.1 b.1 k)))
    at (inl h) (inr (inl k)) =
        inl (or_right (name_lt a.0 b.0) (same_name a.0 b.0 && nat_lt a.1 b.1)
        (and_from (same_name a.0 b.0) (nat_lt a.1 b.1) h (lt-ltb a.1 b.1 k)))
    at (inl h) (inr (inr k)) =
        inr (or_right (name_lt b.0 a.0) (same_name b.0 a.0 && nat_lt b.1 a.1)
        (and_from (same_name b.0 a.0) (nat_lt b.1 a.1) (same_sym a.0 b.0 h) (lt-ltb b.1 a.1 k)))
    at (inr h) k =
        ⊎_elim (λ l. inl (or_left (name_lt a.0 b.0) (same_name a.0 b.0 && nat_lt a.1 b.1) l))
        (λ l. inr (or_left (name_lt b.0 a.0) (same_name b.0 a.0 && nat_lt b.1 a.1) l))
        (name_lt-one_way a.0 b.0 h)

-- the order of acknowledgements meets the laws of a strict order
pub acks_ordered : IsStrictOrder ack_lt same_ack
acks_ordered = record { transitive = ack_lt-trans; one_way = ack_lt-one_way }
