-- If bytes are read as a request, they are its encoding; and the encoding of a request is read as
-- that request.
use Rattle.urb_client.proofs.Common.{Asked, Bool, Err, IfOk, List, MOST_ENTRIES, None, Ok, Option}
use Rattle.urb_client.proofs.Common.{Result, Some, [], ap, arith, big_bytes, big_number, cond, drop}
use Rattle.urb_client.proofs.Common.{drop-cons, eqb-true, false, length, length-drop, ltb-false}
use Rattle.urb_client.proofs.Common.{nat_lt, nil_from_length, refl, request_of, slice_index, subst}
use Rattle.urb_client.proofs.Common.{sym, true, ℕ, ◌++◌, ◌<◌, ◌==◌, ◌∙◌, ◌∷◌, ◌≡◌, ◌≤◌}
use Rattle.std.proofs.Common.{append-nil}
use Rattle.std.proofs.lemmas.Bool.Decides.{nat_tests}
use Rattle.std.proofs.lemmas.List.{drop-drop}
use Rattle.urb_names.specs.declared.refusal.Refusal.{Refusal}
use Rattle.urb_client.specs.declared.request.Control.{Control}
use Rattle.urb_client.specs.declared.request.Control.TheVariants.{Crash, Restart, Status}
use Rattle.urb_client.specs.Requests.{Ask, Gives, IsAsked, IsSubmit, Read, Submit, Wait}
use Rattle.urb_client.specs.Requests.{control_fields, control_of, no_fields, opcode_of, read_fields}
use Rattle.urb_client.specs.Requests.{request_body, submit_fields, wait_fields}
use Rattle.urb_client.proofs.ResponseParts.{IsBytes, IsBytes-drop, IsBytes-rest, by_test, four, two}

-- fields that are long enough, with a client that isn't 0, are a submit
pub is_submit : (fields : List ℕ) → 6 ≤ length fields → 0 < big_number 2 fields
    → IsSubmit (submit_fields fields)
is_submit fields long client =
    (big_number 2 fields, big_number 4 (drop 2 fields), drop 6 fields, grind (arith, nat_tests))

-- these bytes encode this request
record Spells (fields : List ℕ) (opcode : ℕ) (asked : Asked) : Type 0 where
  -- the values of the request are within their limits
  pub is : IsAsked asked
  -- the opcode and the fields are its encoding
  pub bytes : opcode ∷ fields ≡ request_body asked

-- a test that found no fault
passed : {A E : Type 0} (b : Bool) (fault : E) (r : Result A E) (y : A)
    → cond b (Err fault) r ≡ Ok y → (b ≡ false) × (r ≡ Ok y)
passed true fault r y e = absurd cc
passed false fault r y e = (refl, e)

-- the same for a test that is true if there is no fault
held : {A E : Type 0} (b : Bool) (fault : E) (r : Result A E) (y : A) → cond b r (Err fault) ≡ Ok y
    → (b ≡ true) × (r ≡ Ok y)
held true fault r y e = (refl, e)
held false fault r y e = absurd cc

not_zero : (n : ℕ) → (n == 0) ≡ false → 0 < n
not_zero n e = grind (arith, nat_tests)

submit_takes : (fields : List ℕ) (asked : Asked) → IsBytes fields → submit_fields fields ≡ Ok asked
    → Spells fields 1 asked
submit_takes fields asked fits e =
    let long = passed (nat_lt (length fields) 6) 3 _ asked e in
    let client = passed (big_number 2 fields == 0) 4 _ asked long.1 in
    let made : Asked =
    Submit (big_number 2 fields) (big_number 4 (drop 2 fields)) (drop 6 fields) in
    let same : made ≡ asked = cc (client.1) in
    let size : 6 ≤ length fields = ltb-false _ _ long.0 in
    let left : big_bytes 4 (big_number 4 (drop 2 fields)) ++ drop 6 fields ≡ drop 2 fields =
    subst (λ (r : List ℕ). big_bytes 4 (big_number 4 (drop 2 fields)) ++ r ≡ drop 2 fields)
    (drop-drop 4 2 fields) (four.back (drop 2 fields)
    (omega (arith, size, length-drop 2 fields)) (IsBytes-drop 2 fields fits)) in
    let all : fields ≡ big_bytes 2 (big_number 2 fields)
    ++ (big_bytes 4 (big_number 4 (drop 2 fields)) ++ drop 6 fields) =
    sym (two.back fields (omega (arith, size)) fits)
    ∙ ap (λ (r : List ℕ). big_bytes 2 (big_number 2 fields) ++ r) (sym left) in
    subst (Spells fields 1) same (record {
      is = (
        not_zero _ client.0,
        two.below fields fits,
        four.below (drop 2 fields) (IsBytes-drop 2 fields fits),
      );
      bytes =
          ap (λ (r : List ℕ). 1 ∷ r) all;
    })

read_takes : (fields : List ℕ) (asked : Asked) → IsBytes fields → read_fields fields ≡ Ok asked
    → Spells fields 2 asked
read_takes fields asked fits e =
    let len = held (length fields == 5) 3 _ asked e in
    let place = passed (big_number 4 fields == 0) 4 _ asked len.1 in
    let some = passed (slice_index fields 4 == 0) 4 _ asked place.1 in
    let few = passed (nat_lt MOST_ENTRIES (slice_index fields 4)) 4 _ asked some.1 in
    let made : Asked = Read (big_number 4 fields) (slice_index fields 4) in
    let same : made ≡ asked = cc (few.1) in
    let five : length fields ≡ 5 = eqb-true _ _ len.0 in
    let nothing : drop 5 fields ≡ [] =
    nil_from_length (drop 5 fields) (omega (arith, five, length-drop 5 fields)) in
    let last : drop 4 fields ≡ slice_index fields 4 ∷ [] =
    drop-cons fields 4 0 (omega (arith, five))
    ∙ ap (λ (r : List ℕ). slice_index fields 4 ∷ r) nothing in
    let all : fields ≡ big_bytes 4 (big_number 4 fields) ++ slice_index fields 4 ∷ [] =
    sym (four.back fields (omega (arith, five)) fits)
    ∙ ap (λ (r : List ℕ). big_bytes 4 (big_number 4 fields) ++ r) last in
    subst (Spells fields 2) same (record {
      is = (not_zero _ place.0, four.below fields fits, not_zero _ some.0, ltb-false _ _ few.0);
      bytes = ap (λ (r : List ℕ). 2 ∷ r) all;
    })

wait_takes : (fields : List ℕ) (asked : Asked) → IsBytes fields → wait_fields fields ≡ Ok asked
    → Spells fields 6 asked
wait_takes fields asked fits e =
    let len = held (length fields == 7) 3 _ asked e in
    let place = passed (big_number 4 fields == 0) 4 _ asked len.1 in
    let some = passed (slice_index fields 4 == 0) 4 _ asked place.1 in
    let few = passed (nat_lt MOST_ENTRIES (slice_index fields 4)) 4 _ asked some.1 in
    let made : Asked =
    Wait (big_number 4 fields) (slice_index fields 4) (big_number 2 (drop 5 fields)) in
    let same : made ≡ asked = cc (few.1) in
    let seven : length fields ≡ 7 = eqb-true _ _ len.0 in
    let nothing : drop 2 (drop 5 fields) ≡ [] =
    nil_from_length (drop 2 (drop 5 fields))
    (omega (arith, seven, length-drop 5 fields, length-drop 2 (drop 5 fields))) in
    let time : big_bytes 2 (big_number 2 (drop 5 fields)) ≡ drop 5 fields =
    sym (append-nil (big_bytes 2 (big_number 2 (drop 5 fields))))
    ∙ ap (λ (r : List ℕ). big_bytes 2 (big_number 2 (drop 5 fields)) ++ r) (sym nothing)
    ∙ two.back (drop 5 fields) (omega (arith, seven, length-drop 5 fields))
    (IsBytes-drop 5 fields fits) in
    let last : drop 4 fields ≡ slice_index fields 4 ∷ big_bytes 2 (big_number 2 (drop 5 fields)) =
    drop-cons fields 4 0 (omega (arith, seven))
    ∙ ap (λ (r : List ℕ). slice_index fields 4 ∷ r) (sym time) in
    let all : fields ≡ big_bytes 4 (big_number 4 fields)
    ++ slice_index fields 4 ∷ big_bytes 2 (big_number 2 (drop 5 fields)) =
    sym (four.back fields (omega (arith, seven)) fits)
    ∙ ap (λ (r : List ℕ). big_bytes 4 (big_number 4 fields) ++ r) last in
    subst (Spells fields 6) same (record {
      is = (
        not_zero _ place.0,
        four.below fields fits,
        not_zero _ some.0,
        ltb-false _ _ few.0,
        two.below (drop 5 fields) (IsBytes-drop 5 fields fits),
      );
      bytes = ap (λ (r : List ℕ). 6 ∷ r) all;
    })

-- the request without fields of an opcode has this opcode
pub has_opcode : (opcode : ℕ) (control : Control) → control_of opcode ≡ Some control
    → opcode ≡ opcode_of control
has_opcode opcode control e =
    let P : Type 0 = opcode ≡ opcode_of control in
    let from : (n : ℕ) (c : Control) → (opcode == n) ≡ true → n ≡ opcode_of c
    → Some c ≡ Some control → P =
    λ n c same is e. eqb-true opcode n same ∙ is ∙ ap opcode_of (cc (e)) in
    by_test (opcode == 3) _ _ (Some control) P e (λ same h. from 3 Status same refl h)
    (λ e. by_test (opcode == 4) _ _ (Some control) P e (λ same h. from 4 Crash same refl h)
    (λ e. by_test (opcode == 5) _ _ (Some control) P e (λ same h. from 5 Restart same refl h)
    (λ e. absurd cc)))

control_takes : (opcode : ℕ) (fields : List ℕ) (asked : Asked)
    → control_fields opcode fields ≡ Ok asked → Spells fields opcode asked
control_takes opcode fields asked e = go (control_of opcode) refl e where
  go : (c : Option Control) → control_of opcode ≡ c → no_fields c fields ≡ Ok asked
      → Spells fields opcode asked
  go None is e = absurd cc
  go (Some control) is e =
      let len = held (length fields == 0) 3 (Ok (Ask control)) asked e in
      let same : Ask control ≡ asked = cc (len.1) in
      let nothing : fields ≡ [] = nil_from_length fields (eqb-true _ _ len.0) in
      subst (Spells fields opcode) same (record {
        is = tt;
        bytes = ap (λ (r : List ℕ). opcode ∷ r) nothing
            ∙ ap (λ (n : ℕ). n ∷ []) (has_opcode opcode control is);
      })

-- bytes that are read as a request are its encoding, and its values are within their limits
pub asked_takes : (bytes : List ℕ) (asked : Asked) → IsBytes bytes → request_of bytes ≡ Ok asked
    → IsAsked asked × (bytes ≡ request_body asked)
asked_takes [] asked fits e = absurd cc
asked_takes (opcode ∷ fields) asked fits e =
    let rest = IsBytes-rest opcode fields fits in
    let P : Type 0 = IsAsked asked × (opcode ∷ fields ≡ request_body asked) in
    let from : (n : ℕ) → (opcode == n) ≡ true → Spells fields n asked → P =
    λ n same s. (s.is, ap (λ (b : ℕ). b ∷ fields) (eqb-true opcode n same) ∙ s.bytes) in
    by_test (opcode == 1) _ _ (Ok asked) P e
    (λ same h. from 1 same (submit_takes fields asked rest h))
    (λ e. by_test (opcode == 2) _ _ (Ok asked) P e
    (λ same h. from 2 same (read_takes fields asked rest h))
    (λ e. by_test (opcode == 6) _ _ (Ok asked) P e
    (λ same h. from 6 same (wait_takes fields asked rest h))
    (λ e. let s = control_takes opcode fields asked e in (s.is, s.bytes))))

-- a request that a call returns has these bytes as its encoding, and values within their limits
pub is_found : {A : Type 0} (view : A → Asked) (bytes : List ℕ) (read : Result A Refusal)
    → IsBytes bytes → Gives view read (request_of bytes)
    → IfOk read (λ request. IsAsked (view request) × (bytes ≡ request_body (view request)))
is_found view bytes (Ok request) fits e = asked_takes bytes (view request) fits e
is_found view bytes (Err refusal) fits e = tt
