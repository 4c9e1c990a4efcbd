-- The front of the input, as `read_frame` reads it.
use Rattle.urb_client.proofs.Common.{Consumes, Consumes-trans, Err, IfSome, IsAtEnd, IsBroken}
use Rattle.urb_client.proofs.Common.{IsSomeAnd, LONGEST_REQUEST, List, None, Ok, OnErr, Option}
use Rattle.urb_client.proofs.Common.{PartRead, Result, Some, [], ap, append_assoc, arith, big_bytes}
use Rattle.urb_client.proofs.Common.{big_number, drop, frame, inl, inr, length, length-drop}
use Rattle.urb_client.proofs.Common.{nil_from_length, refl, subst, sym, take, ℕ, ◌++◌, ◌<◌, ◌^◌}
use Rattle.urb_client.proofs.Common.{◌∙◌, ◌≡◌, ◌≢◌, ◌≤◌, ◌⊎◌}
use Rattle.std.proofs.Common.{length-append, length-take, take_all, take_at}
use Rattle.std.proofs.lemmas.List.{append-nil}
use Rattle.urb_client.specs.internal.SessionPieces.{ReadsUnder}
use Rattle.urb_client.proofs.ResponseParts.{IsBytes, two}

-- two bytes are the length that they say
pub two_bytes : (bytes : List ℕ) → IsBytes bytes → length bytes ≡ 2
    → bytes ≡ big_bytes 2 (big_number 2 bytes)
two_bytes bytes fits len =
    let nothing : drop 2 bytes ≡ [] =
    nil_from_length (drop 2 bytes) (omega (arith, len, length-drop 2 bytes)) in
    sym (two.back bytes (omega (arith, len)) fits)
    ∙ ap (λ (r : List ℕ). big_bytes 2 (big_number 2 bytes) ++ r) nothing
    ∙ append-nil (big_bytes 2 (big_number 2 bytes))

-- a length that was read whole
pub record Length (bytes : List ℕ) (got n : ℕ) : Type 0 where
  -- a length takes two bytes
  pub two : length bytes ≡ 2
  -- at most two bytes are read
  pub within : got ≤ 2
  -- at least one byte is read
  pub some : got ≢ 0
  -- not only one byte is read
  pub more : got ≢ 1
  -- the two bytes are the number
  pub says : bytes ≡ big_bytes 2 n
  -- the number fits in two bytes
  pub below : n < 2 ^ 16

spelled : (bytes : List ℕ) (got n : ℕ) → Length bytes got n → take got bytes ≡ big_bytes 2 n
spelled bytes got n t = take_all got bytes (omega (arith, t.two, t.within, t.some, t.more)) ∙ t.says

-- a length of 0, or over that of the longest request, breaks the frame
pub bad_length : (known left : Option (List ℕ)) (bytes : List ℕ) (got n : ℕ) → Length bytes got n
    → Consumes known left (take got bytes) → (n ≡ 0) ⊎ (LONGEST_REQUEST < n)
    → IfSome known (λ all. IsSomeAnd left (IsBroken all 1))
bad_length None left bytes got n t c bad = tt
bad_length (Some all) (Some rest) bytes got n t c bad =
    inl (
      (n, c ∙ ap (λ (front : List ℕ). front ++ rest) (spelled bytes got n t), t.below, bad),
      refl,
    )
bad_length (Some all) None bytes got n t c bad = absurd c

-- an input that ends inside a frame breaks it
pub cut_inside : (known mid left : Option (List ℕ)) (bytes body : List ℕ) (got n part : ℕ)
    → Length bytes got n → Consumes known mid (take got bytes) → Consumes mid left (take part body)
    → IsAtEnd left → n ≢ 0 → n ≤ LONGEST_REQUEST → part < n
    → IfSome known (λ all. IsSomeAnd left (IsBroken all 5))
cut_inside None mid left bytes body got n part t c d e some small short = tt
cut_inside (Some all) None left bytes body got n part t c d e some small short = absurd c
cut_inside (Some all) (Some rest) None bytes body got n part t c d e some small short = absurd d
cut_inside (Some all) (Some rest) (Some last) bytes body got n part t c d e some small short =
    inr (
      inr (
        n,
        rest,
        c ∙ ap (λ (front : List ℕ). front ++ rest) (spelled bytes got n t),
        omega (arith, some),
        small,
        rw (d, e)
            (omega (arith, length-take part body, length-append (take part body) [])),
      ),
      e,
      refl,
    )

-- a length, and as many bytes after it, are read as a whole frame
pub whole_frame : (known mid left : Option (List ℕ)) (bytes body : List ℕ) (got n part : ℕ)
    (after : List ℕ) → Length bytes got n → Consumes known mid (take got bytes)
    → Consumes mid left (take part body) → part ≡ n → length body ≡ n
    → Consumes known left (frame (take n (body ++ after)))
whole_frame known mid left bytes body got n part after t c d all len =
    let same : take n (body ++ after) ≡ body = take_at body after n len in
    let read : Consumes mid left body =
    subst (Consumes mid left) (ap (λ (k : ℕ). take k body) all
    ∙ take_all n body (omega (arith, len))) d in
    rw same (rw len (subst (λ (front : List ℕ). Consumes known left (front ++ body))
    (spelled bytes got n t) (Consumes-trans _ _ _ _ _ c read)))

-- if the reader fails after a length and before the body's end, less than a frame is read
pub part_inside : (known mid left : Option (List ℕ)) (bytes : List ℕ) (got n : ℕ)
    → Length bytes got n → Consumes known mid (take got bytes) → n ≢ 0 → n ≤ LONGEST_REQUEST
    → ReadsUnder n mid left → PartRead known left
part_inside None mid left bytes got n t c some small under = tt
part_inside (Some all) None left bytes got n t c some small under = absurd c
part_inside (Some all) (Some rest) None bytes got n t c some small under = absurd under.1
part_inside (Some all) (Some rest) (Some last) bytes got n t c some small under = (
  big_bytes 2 n ++ under.0,
  c ∙ ap (λ (front : List ℕ). front ++ rest) (spelled bytes got n t)
      ∙ ap (λ (r : List ℕ). big_bytes 2 n ++ r) under.1
      ∙ sym (append_assoc (big_bytes 2 n) under.0 last),
  inr (inr (n, under.0, refl, omega (arith, some), small, under.2)),
)

-- what holds anyway holds if a result is an error
pub on_err : {A E : Type 0} (r : Result A E) (P : Type 0) → P → OnErr r P
on_err (Ok x) P p = tt
on_err (Err e) P p = p
