-- The index of a node's own messages by client, with one more message.
use Rattle.urb_pending.proofs.Common.{Bool, Content, IsIndexOf, List, None, Option, Row, Some, []}
use Rattle.urb_pending.proofs.Common.{ap, arith, cond, count_by, eq-eqb, eqb-false, false, find}
use Rattle.urb_pending.proofs.Common.{given_to, length, length-append, ne_eqb, next_number, not}
use Rattle.urb_pending.proofs.Common.{option_map, option_or, refl, slice_get, suc, sym, true, zero}
use Rattle.urb_pending.proofs.Common.{ℕ, ◌&&◌, ◌++◌, ◌+◌, ◌==◌, ◌∙◌, ◌∷◌, ◌≡◌}
use Rattle.std.proofs.Common.{eqb-true}
use Rattle.std.specs.List.{position_or_len}
use Rattle.std.proofs.lemmas.List.Sums.{sum_by-append}
use Rattle.urb_names.specs.Pairs.{is_numbered}
use Rattle.urb_pending.specs.internal.ClientIndex.{nth, place_given}
use Rattle.urb_names.proofs.TruthValues.{eqb-turned}

-- the place, from 1, of the first message that passes
abbrev first_place : (Content → Bool) → List Content → Option ℕ
first_place test ms = option_map (λ m. suc (position_or_len test ms)) (find test ms)

place_step : (test : Content → Bool) (m : Content) (ms : List Content)
    → first_place test (m ∷ ms) ≡ cond (test m) (Some 1)
    (option_map (λ n. suc n) (first_place test ms))
place_step test m ms = at (test m)
  where
    under : (n : ℕ) (found : Option Content)
        → option_map (λ (o : Content). suc (1 + n)) found ≡ option_map (λ i. suc i)
        (option_map (λ (o : Content). suc n) found)
    under n None = refl
    under n (Some o) = ap Some (one n)
      where
        one : (k : ℕ) → suc (1 + k) ≡ suc (suc k)
        one k = omega arith

    at : (b : Bool) → option_map (λ (o : Content).
        suc (cond (not b) (1 + position_or_len test ms) 0)) (cond b (Some m) (find test ms))
        ≡ cond b (Some 1) (option_map (λ n. suc n) (first_place test ms))
    at true = refl
    at false = under (position_or_len test ms) (find test ms)

-- one more message is found if no earlier one passes
place_push : (test : Content → Bool) (ms : List Content) (m : Content)
    → first_place test (ms ++ m ∷ []) ≡ option_or (first_place test ms)
    (cond (test m) (Some (suc (length ms))) None)
place_push test [] m = place_step test m []
place_push test (o ∷ ms) m =
    place_step test o (ms ++ m ∷ [])
    ∙ (ap (λ found. cond (test o) (Some 1) (option_map (λ n. suc n) found)) (place_push test ms m)
    ∙ (at (test o) (first_place test ms) (test m)
    ∙ ap (λ found. option_or found (cond (test m) (Some (suc (suc (length ms)))) None))
    (sym (place_step test o ms))))
  where
    at : (b : Bool) (found : Option ℕ) (c : Bool)
        → cond b (Some 1) (option_map (λ n. suc n)
        (option_or found (cond c (Some (suc (length ms))) None)))
        ≡ option_or (cond b (Some 1) (option_map (λ n. suc n) found))
        (cond c (Some (suc (suc (length ms)))) None)
    at true found c = refl
    at false (Some n) c = refl
    at false None true = refl
    at false None false = refl

get_push : (numbers : List ℕ) (last i : ℕ)
    → slice_get (numbers ++ last ∷ []) i ≡ option_or (slice_get numbers i)
    (cond (i == length numbers) (Some last) None)
get_push [] last zero = refl
get_push [] last (suc i) =
    sym (ap (λ b. cond b (Some last) None)
    (ne_eqb (suc i) 0 (λ e. (let no : ⊥ = omega arith in no))))
get_push (n ∷ ns) last zero = refl
get_push (n ∷ ns) last (suc i) =
    get_push ns last i ∙ ap (λ b. option_or (slice_get ns i) (cond b (Some last) None))
    (same i (length ns))
  where
    same : (a b : ℕ) → (a == b) ≡ (suc a == suc b)
    same a b = at (a == b) refl
      where
        at : (c : Bool) → (a == b) ≡ c → c ≡ (suc a == suc b)
        at true e = sym (eq-eqb (suc a) (suc b) (ap (λ n. suc n) (eqb-true a b e)))
        at false e = sym (ne_eqb (suc a) (suc b) (λ f. eqb-false a b e (omega arith)))

-- one more number is at the next place
nth_push : (numbers : List ℕ) (last number : ℕ)
    → nth (numbers ++ last ∷ []) number ≡ option_or (nth numbers number)
    (cond (suc (length numbers) == number) (Some last) None)
nth_push numbers last zero =
    ap (λ b. cond b (Some last) None)
    (sym (ne_eqb (suc (length numbers)) zero (λ e. (let no : ⊥ = omega arith in no))))
nth_push numbers last (suc i) =
    get_push numbers last i ∙ ap (λ b. option_or (slice_get numbers i) (cond b (Some last) None))
    (same i (length numbers))
  where
    same : (a b : ℕ) → (a == b) ≡ (suc b == suc a)
    same a b = at (a == b) refl
      where
        at : (c : Bool) → (a == b) ≡ c → c ≡ (suc b == suc a)
        at true e = sym (eq-eqb (suc b) (suc a) (ap (λ n. suc n) (sym (eqb-true a b e))))
        at false e = sym (ne_eqb (suc b) (suc a) (λ f. eqb-false a b e (omega arith)))

or_none : (found : Option ℕ) → option_or found None ≡ found
or_none None = refl
or_none (Some n) = refl

-- counts stay right when a message is added: its client has one more number
counts_grow : (ms : List Content) (m : Content) (client : ℕ)
    → count_by (λ o. o.client == client) (ms ++ m ∷ []) ≡ count_by
    (λ o. o.client == client) ms + cond (m.client == client) 1 0
counts_grow ms m client =
    sum_by-append (λ o. cond (o.client == client) 1 0) ms (m ∷ [])
    ∙ ap (λ n. count_by (λ o. o.client == client) ms + n) (at (cond (m.client == client) 1 0))
  where
    at : (n : ℕ) → 0 + n ≡ n
    at n = omega arith

-- the numbers that client c has once this client has this number too
abbrev pub with_given : ℕ → ℕ → List Row → ℕ → List ℕ
with_given client seq rows c = cond (c == client) (given_to c rows ++ seq ∷ []) (given_to c rows)

-- with its number, an index of messages becomes one of the messages with this one added
pub index_grows : (ms : List Content) (m : Content) (rows new : List Row) → IsIndexOf ms rows
    → m.number ≡ next_number m.client ms
    → ((c : ℕ) → given_to c new ≡ with_given m.client (suc (length ms)) rows c)
    → IsIndexOf (ms ++ m ∷ []) new
index_grows ms m rows new h e given = record { counts = counts; finds = finds }
  where
    counts : (c : ℕ) → length (given_to c new) ≡ count_by (λ o. o.client == c) (ms ++ m ∷ [])
    counts c =
        ap length (given c)
        ∙ (at (c == m.client)
        ∙ (ap₂+ (h.counts c) (ap (λ b. cond b 1 0) (eqb-turned c m.client)) ∙ sym (counts_grow ms m c)))
      where
        ap₂+ : {a b p q : ℕ} → a ≡ b → p ≡ q → a + p ≡ b + q
        ap₂+ f g = omega (arith, f, g)

        none : (n : ℕ) → n ≡ n + 0
        none n = omega arith

        at : (b : Bool) → length (cond b (given_to c rows ++ suc (length ms) ∷ [])
            (given_to c rows)) ≡ length (given_to c rows) + cond b 1 0
        at true = length-append (given_to c rows) (suc (length ms) ∷ [])
        at false = none (length (given_to c rows))

    finds : (c number : ℕ) → place_given c number (ms ++ m ∷ []) ≡ nth (given_to c new) number
    finds c number =
        place_push (is_numbered c number) ms m
        ∙ (ap (λ found. option_or found
        (cond (is_numbered c number m) (Some (suc (length ms))) None)) (h.finds c number)
        ∙ (at (c == m.client) refl ∙ ap (λ numbers. nth numbers number) (sym (given c))))
      where
        at : (b : Bool) → (c == m.client) ≡ b
            → option_or (nth (given_to c rows) number)
            (cond ((m.client == c) && (m.number == number)) (Some (suc (length ms))) None)
            ≡ nth (cond b (given_to c rows ++ suc (length ms) ∷ []) (given_to c rows)) number
        at true f =
            ap (λ b. option_or (nth (given_to c rows) number)
            (cond (b && (m.number == number)) (Some (suc (length ms))) None))
            (eqb-turned m.client c ∙ f)
            ∙ (ap (λ n. option_or (nth (given_to c rows) number)
            (cond (n == number) (Some (suc (length ms))) None)) next
            ∙ sym (nth_push (given_to c rows) (suc (length ms)) number))
          where
            next : m.number ≡ suc (length (given_to c rows))
            next =
                e ∙ ap (λ n. suc n) (ap (λ (d : ℕ). count_by (λ o. o.client == d) ms)
                (sym (eqb-true c m.client f)) ∙ sym (h.counts c))
        at false f =
            ap (λ b. option_or (nth (given_to c rows) number)
            (cond (b && (m.number == number)) (Some (suc (length ms))) None))
            (eqb-turned m.client c ∙ f)
            ∙ or_none (nth (given_to c rows) number)

-- an index with the same numbers is an index of the same messages
pub index_same : (ms : List Content) (rows new : List Row) → IsIndexOf ms rows
    → ((c : ℕ) → given_to c new ≡ given_to c rows) → IsIndexOf ms new
index_same ms rows new h given = record {
  counts = λ c. ap length (given c) ∙ h.counts c;
  finds = λ c number. h.finds c number ∙ ap (λ numbers. nth numbers number) (sym (given c));
}
