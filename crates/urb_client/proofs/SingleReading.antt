-- An input is read in only one way.
use Rattle.urb_client.proofs.Common.{Asks, BadFrame, Begins, Closed, Err, Event, Fault, IsBroken}
use Rattle.urb_client.proofs.Common.{LONGEST_REQUEST, List, Ok, Says, [], ap, arith, big_bytes}
use Rattle.urb_client.proofs.Common.{drop, frame, inl, inr, length, number_at, refl, same_Some}
use Rattle.urb_client.proofs.Common.{subst, sym, take, ℕ, ◌++◌, ◌<◌, ◌^◌, ◌∙◌, ◌∷◌, ◌≡◌, ◌≤◌}
use Rattle.std.proofs.Common.{drop_at, length-append, take_at}
use Rattle.urb_client.specs.declared.sessions.Ended.{Ended}
use Rattle.urb_client.specs.Sessions.{Ends, HasBadLength, IsCut, IsReadOnce}
use Rattle.urb_client.proofs.ResponseParts.{number_again, two}

-- bytes have one length in front
pub one_length : (m n : ℕ) (x y bytes : List ℕ) → m < 2 ^ 16 → n < 2 ^ 16
    → bytes ≡ big_bytes 2 m ++ x → bytes ≡ big_bytes 2 n ++ y → (m ≡ n) × (x ≡ y)
one_length m n x y bytes m_fits n_fits p q =
    let same =
    same_Some _ _ (sym (number_again 2 (2 ^ 16) two m x m_fits) ∙ ap (number_at 2) (sym p ∙ q)
    ∙ number_again 2 (2 ^ 16) two n y n_fits) in
    (ap (λ (r : ℕ × List ℕ). r.0) same, ap (λ (r : ℕ × List ℕ). r.1) same)

-- bytes begin with one frame
one_frame : (a b x y bytes : List ℕ) → length a ≤ LONGEST_REQUEST → length b ≤ LONGEST_REQUEST
    → bytes ≡ frame a ++ x → bytes ≡ frame b ++ y → (a ≡ b) × (x ≡ y)
one_frame a b x y bytes a_short b_short p q =
    let same =
    one_length (length a) (length b) (a ++ x) (b ++ y) bytes (omega (arith, a_short))
    (omega (arith, b_short)) p q in (
      sym (take_at a x (length a) refl) ∙ ap (take (length a)) same.1
          ∙ take_at b y (length a) (sym same.0),
      sym (drop_at a x (length a) refl) ∙ ap (drop (length a)) same.1
          ∙ drop_at b y (length a) (sym same.0),
    )

-- a frame is one request or one fault
one_event : (body : List ℕ) (event other : Event) → Says body event → Says body other
    → event ≡ other
one_event body (Asks a) (Asks b) p q = let same : Ok a ≡ Ok b = sym p ∙ q in cc
one_event body (Asks a) (Fault b) p q = let same : Ok a ≡ Err b = sym p ∙ q in absurd cc
one_event body (Fault a) (Asks b) p q = let same : Err a ≡ Ok b = sym p ∙ q in absurd cc
one_event body (Fault a) (Fault b) p q = let same : Err a ≡ Err b = sym p ∙ q in cc

-- a bad length and a cut frame exclude each other
not_both : (bytes rest : List ℕ) → HasBadLength bytes rest → IsCut bytes → ⊥
not_both bytes rest bad (inl one) = omega (arith, one, ap length bad.1)
not_both bytes rest bad (inr cut) =
    let same = one_length bad.0 cut.0 rest cut.1 bytes bad.2 (omega (arith, cut.4)) bad.1 cut.2 in
    elim bad.3 [
      | inl none ↦ omega (arith, same.0, none, cut.3)
      | inr long ↦ omega
          (arith, same.0, long, cut.4)
    ]

-- bytes that end a session begin with no frame
no_more : (bytes : List ℕ) (ended : Ended) (last : List Event) (left body mid : List ℕ)
    → Ends bytes ended last left → 0 < length body → length body ≤ LONGEST_REQUEST
    → bytes ≡ frame body ++ mid → ⊥
no_more bytes Closed last left body mid e some small p =
    absurd (omega (arith, ap length (sym e.0 ∙ p)))
no_more bytes BadFrame last left body mid (code, inl bad, is) some small p =
    let same =
    one_length (length body) bad.0.0 (body ++ mid) left bytes
    (omega (arith, small)) bad.0.2 p bad.0.1 in
    elim bad.0.3 [
      | inl none ↦ omega (arith, same.0, none, some)
      | inr long ↦ omega
          (arith, same.0, long, small)
    ]
no_more bytes BadFrame last left body mid (code, inr cut, is) some small p = not_cut cut.0
  where
    not_cut : IsCut bytes → ⊥
    not_cut (inl one) = omega (arith, one, ap length p)
    not_cut (inr inside) =
        let same =
        one_length (length body) inside.0 (body ++ mid) inside.1 bytes (omega (arith, small))
        (omega (arith, inside.4)) p inside.2 in
        omega (arith, same.0, ap length same.1, length-append body mid, inside.5)

-- an end is reached in one way
abbrev SameEnd : Ended → List Event → List ℕ → Ended → List Event → List ℕ → Type 0
SameEnd ended last left other others rest = (ended ≡ other) × (last ≡ others) × (left ≡ rest)

not_empty : (bytes rest : List ℕ) (code : ℕ) → IsBroken bytes code rest → bytes ≡ [] → ⊥
not_empty bytes rest code (inl bad) e = omega (arith, ap length (sym e ∙ bad.0.1))
not_empty bytes rest code (inr (inl one, left, is)) e = omega (arith, one, ap length e)
not_empty bytes rest code (inr (inr inside, left, is)) e =
    omega (arith, ap length (sym e ∙ inside.2))

one_fault : (bytes left rest : List ℕ) (code other : ℕ) → IsBroken bytes code left
    → IsBroken bytes other rest → (code ≡ other) × (left ≡ rest)
one_fault bytes left rest code other (inl p) (inl q) =
    (p.1 ∙ sym q.1, (one_length p.0.0 q.0.0 left rest bytes p.0.2 q.0.2 p.0.1 q.0.1).1)
one_fault bytes left rest code other (inl p) (inr q) = absurd (not_both bytes left p.0 q.0)
one_fault bytes left rest code other (inr p) (inl q) = absurd (not_both bytes rest q.0 p.0)
one_fault bytes left rest code other (inr p) (inr q) = (p.2 ∙ sym q.2, p.1 ∙ sym q.1)

one_end : (bytes : List ℕ) (ended other : Ended) (last others : List Event) (left rest : List ℕ)
    → Ends bytes ended last left → Ends bytes other others rest
    → SameEnd ended last left other others rest
one_end bytes Closed Closed last others left rest p q = (refl, p.1 ∙ sym q.1, p.2 ∙ sym q.2)
one_end bytes Closed BadFrame last others left rest p q = absurd (not_empty bytes rest q.0 q.1 p.0)
one_end bytes BadFrame Closed last others left rest p q = absurd (not_empty bytes left p.0 p.1 q.0)
one_end bytes BadFrame BadFrame last others left rest p q =
    let same = one_fault bytes left rest p.0 q.0 p.1 q.1 in
    (refl, p.2 ∙ ap (λ (code : ℕ). Fault code ∷ []) same.0 ∙ sym q.2, same.1)

-- two readings of one input
once : (whole others : List Event) (input rest other_rest : List ℕ) (ended other : Ended)
    (last other_last : List Event) (left other_left : List ℕ)
    → Begins input whole rest → Ends rest ended last left → Begins input others other_rest
    → Ends other_rest other other_last other_left
    → (whole ≡ others) × SameEnd ended last left other other_last other_left
once [] [] input rest other_rest ended other last other_last left other_left b e c f = (
  refl,
  one_end input ended other last other_last left other_left
      (subst (λ (r : List ℕ). Ends r ended last left) (sym b) e)
      (subst (λ (r : List ℕ). Ends r other other_last other_left) (sym c) f),
)
once [] (event ∷ others) input rest other_rest ended other last other_last left other_left b e c f =
    absurd (no_more input ended last left c.0 c.1
    (subst (λ (r : List ℕ). Ends r ended last left) (sym b) e) c.2 c.3 c.4)
once (event ∷ whole) [] input rest other_rest ended other last other_last left other_left b e c f =
    absurd (no_more input other other_last other_left b.0 b.1
    (subst (λ (r : List ℕ). Ends r other other_last other_left) (sym c) f) b.2 b.3 b.4)
once (event ∷ whole) (first ∷ others)
    input rest other_rest ended other last other_last left other_left b e c f =
    let same = one_frame b.0 c.0 b.1 c.1 input b.3 c.3 b.4 c.4 in
    let here : event ≡ first =
    one_event c.0 event first (subst (λ (body : List ℕ). Says body event) same.0 b.5) c.5 in
    let behind =
    once whole others c.1 rest other_rest ended other last other_last left other_left
    (subst (λ (mid : List ℕ). Begins mid whole rest) same.1 b.6) e c.6 f in
    (cc (here, behind.0), behind.1)

-- no input says two different things
pub is_read_once : IsReadOnce
is_read_once input ended other events others left rest p q =
    let same =
    once p.whole q.whole input p.rest q.rest ended other p.last q.last left rest p.begins p.ends
    q.begins q.ends in
    (same.1.0, p.all ∙ cc (same.0, same.1.1) ∙ sym q.all, same.1.2)
