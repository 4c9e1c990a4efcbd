-- Prefixes of a past.
use Rattle.urb_show.proofs.Common.{Event, IsPrefix, IsTrue, List, [], ap, append_assoc, arith}
use Rattle.urb_show.proofs.Common.{false, length, refl, sym, true, ◌++◌, ◌<◌, ◌↔◌, ◌∙◌, ◌∷◌, ◌≡◌}
use Rattle.std.proofs.lemmas.List.{append-nil}
use Rattle.urb_show.proofs.Prefixes.{prefix_length}
use Rattle.urb_show.specs.internal.Pasts.{event_at}

-- a shorter prefix of a past, and the event behind it
pub next_begins : (told past : List Event) → IsPrefix told past → length told < length past
    → IsPrefix (told ++ event_at past (length told) ∷ []) past
next_begins [] [] p low = absurd (omega (arith, low))
next_begins [] (x ∷ past) p low = (past, refl)
next_begins (t ∷ told) [] p low = absurd (omega (arith, low))
next_begins (t ∷ told) (x ∷ past) p low =
    let heads : t ≡ x = cc (p.1) in
    let rest = next_begins told past (p.0, cc (p.1)) (omega (arith, low)) in
    (rest.0, cc (heads, rest.1))

-- a prefix stays one when the list grows at its end
pub prefix_more : (xs ys zs : List Event) → IsPrefix xs ys → IsPrefix xs (ys ++ zs)
prefix_more xs ys zs p =
    (p.0 ++ zs, sym (append_assoc xs p.0 zs) ∙ ap (λ (l : List Event). l ++ zs) p.1)

-- the empty list is a prefix of itself
pub prefix_none : (xs ys : List Event) → xs ≡ [] → ys ≡ [] → IsPrefix xs ys
prefix_none xs ys none empty = ([], append-nil xs ∙ (none ∙ sym empty))

-- each list is a prefix of itself
pub prefix_same : (xs ys : List Event) → xs ≡ ys → IsPrefix xs ys
prefix_same xs ys same = ([], append-nil xs ∙ same)

-- what a comparison says of two moments, if the first one is a prefix
pub is_prefix : (xs ys : List Event) → IsPrefix xs ys → (IsTrue true ↔ IsPrefix xs ys)
is_prefix xs ys p = (λ is. p, λ q. refl)

-- a longer moment is no prefix of a shorter one
pub is_no_prefix : (xs ys : List Event) → length ys < length xs → (IsTrue false ↔ IsPrefix xs ys)
is_no_prefix xs ys low =
    (λ is. absurd (cc), λ q. let long = prefix_length xs ys q in absurd (omega (arith, low, long)))
