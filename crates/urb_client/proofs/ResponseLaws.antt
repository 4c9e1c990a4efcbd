-- If bytes are read as a response, they are its encoding; and the encoding of a response is read as
-- that response.
use Rattle.urb_client.proofs.Common.{Accepted, AllByRecursion, Bool, Content, Done, Err, IfOk}
use Rattle.urb_client.proofs.Common.{IfSome, IsEntry, IsSaid, LONGEST_FRAME, Label, List, Listing}
use Rattle.urb_client.proofs.Common.{MOST_ENTRIES, None, Ok, Option, Refused, Result, Said, Some}
use Rattle.urb_client.proofs.Common.{[], ap, append_assoc, arith, big_bytes, byte_at, cond}
use Rattle.urb_client.proofs.Common.{cond_some, entries_at, entry_at, entry_bytes, eqb-true, false}
use Rattle.urb_client.proofs.Common.{flat_map, flat_map-cons, le-ltb, length, ltb-false, nat_lt}
use Rattle.urb_client.proofs.Common.{nil_from_length, number_at, refl, response_body, same_Some}
use Rattle.urb_client.proofs.Common.{subst, suc, sym, true, zero, ℕ, ◌++◌, ◌<◌, ◌==◌, ◌>>=◌, ◌^◌}
use Rattle.urb_client.proofs.Common.{◌∙◌, ◌∷◌, ◌≡◌, ◌≤◌}
use Rattle.std.specs.Option.{option_map}
use Rattle.std.proofs.lemmas.List.{append-nil}
use Rattle.urb_client.specs.declared.response.NodeState.{NodeState}
use Rattle.urb_client.specs.Responses.{Status, state_byte}
use Rattle.urb_client.specs.internal.ParsedResponses.{accepted_of, at_end, entries_of, refused_of}
use Rattle.urb_client.specs.internal.ParsedResponses.{said_of, state_of, status_of}
use Rattle.urb_client.proofs.ResponseParts.{IsBytes, IsBytes-rest, Takes, Takes-then, bind_some}
use Rattle.urb_client.proofs.ResponseParts.{by_test, byte_takes, entry_again, entry_takes, four}
use Rattle.urb_client.proofs.ResponseParts.{number_again, number_takes}
use Rattle.urb_client.specs.declared.response.NodeState.TheVariants as state

entries_take : (n : ℕ) (bytes : List ℕ) (x : List (Label × Content) × List ℕ) → IsBytes bytes
    → entries_at n bytes ≡ Some x
    → Takes bytes (flat_map entry_bytes x.0) x.1 × (length x.0 ≡ n) × AllByRecursion IsEntry x.0
unfolding entries_at
entries_take zero bytes x fits e =
    let made : List (Label × Content) × List ℕ = ([], bytes) in
    let same : made ≡ x = cc (e) in
    subst (λ (y : List (Label × Content) × List ℕ). Takes bytes (flat_map entry_bytes y.0) y.1
    × (length y.0 ≡ 0) × AllByRecursion IsEntry y.0) same
    (record { parts = refl; rest_fits = fits }, refl, tt)
entries_take (suc n) bytes x fits e =
    let a =
    bind_some (entry_at bytes) (λ first. entries_at n first.1 >>= λ others.
    Some (first.0 ∷ others.0, others.1)) x e in
    let b = bind_some (entries_at n a.0.1) (λ others. Some (a.0.0 ∷ others.0, others.1)) x a.2 in
    let first = entry_takes bytes a.0 fits a.1 in
    let second = entries_take n a.0.1 b.0 first.0.rest_fits b.1 in
    let both =
    Takes-then bytes (entry_bytes a.0.0) a.0.1
    (flat_map entry_bytes b.0.0) b.0.1 first.0 second.0 in
    let made : List (Label × Content) × List ℕ = (a.0.0 ∷ b.0.0, b.0.1) in
    let same : made ≡ x = cc (b.2) in
    subst (λ (y : List (Label × Content) × List ℕ). Takes bytes (flat_map entry_bytes y.0) y.1
    × (length y.0 ≡ suc n) × AllByRecursion IsEntry y.0) same
    (rw flat_map-cons both, ap suc second.1, (first.1, second.2))

entries_again : (entries : List (Label × Content)) (rest : List ℕ) → AllByRecursion IsEntry entries
    → entries_at (length entries) (flat_map entry_bytes entries ++ rest) ≡ Some (entries, rest)
unfolding entries_at
entries_again [] rest fits = refl
entries_again (entry ∷ entries) rest fits =
    let regrouped : flat_map entry_bytes (entry ∷ entries) ++ rest ≡ entry_bytes entry
    ++ (flat_map entry_bytes entries ++ rest) =
    ap (λ (x : List ℕ). x ++ rest) (flat_map-cons entry_bytes entry entries)
    ∙ append_assoc (entry_bytes entry) (flat_map entry_bytes entries) rest in
    ap (entries_at (suc (length entries))) regrouped
    ∙ rw (
      entry_again entry (flat_map entry_bytes entries ++ rest) fits.0,
      entries_again entries rest fits.1,
    ) refl

-- entries with nothing after them are as long as their encoding
pub entries_length : (n : ℕ) (bytes : List ℕ) (x : List (Label × Content) × List ℕ) → IsBytes bytes
    → entries_at n bytes ≡ Some x → length x.1 ≡ 0
    → length (flat_map entry_bytes x.0) ≤ length bytes
entries_length n bytes x fits e none =
    let parts = (entries_take n bytes x fits e).0.parts in
    rw (parts, nil_from_length x.1 none) (rw (append-nil (flat_map entry_bytes x.0)) (omega arith))

-- nothing is left after a response
ended : (said other : Said) (rest : List ℕ) → at_end said rest ≡ Some other
    → (rest ≡ []) × (said ≡ other)
ended said other rest e =
    let g = cond_some (length rest == 0) said other e in
    (nil_from_length rest (eqb-true _ _ g.0), g.1)

-- these bytes encode this response
record Spells (fields : List ℕ) (opcode : ℕ) (said : Said) : Type 0 where
  -- the values of the response are within their limits
  pub is : IsSaid said
  -- the opcode and the fields are its encoding
  pub bytes : opcode ∷ fields ≡ response_body said

number_ends : (fields : List ℕ) (x : ℕ × List ℕ) → Takes fields (big_bytes 4 x.0) x.1 → x.1 ≡ []
    → fields ≡ big_bytes 4 x.0
number_ends fields x t e =
    t.parts ∙ ap (λ (r : List ℕ). big_bytes 4 x.0 ++ r) e ∙ append-nil (big_bytes 4 x.0)

accepted_takes : (fields : List ℕ) (said : Said) → IsBytes fields → accepted_of fields ≡ Some said
    → Spells fields 129 said
unfolding accepted_of
accepted_takes fields said fits e =
    let a = bind_some (number_at 4 fields) (λ seq. at_end (Accepted seq.0) seq.1) said e in
    let t = number_takes 4 (2 ^ 32) four fields a.0 fits a.1 in
    let end = ended (Accepted a.0.0) said a.0.1 a.2 in
    subst (Spells fields 129) end.1
    (record {
      is = t.1;
      bytes = ap (λ (r : List ℕ). 129 ∷ r)
          (number_ends fields a.0 t.0 end.0);
    })

entries_takes : (fields : List ℕ) (said : Said) → length fields < LONGEST_FRAME → IsBytes fields
    → entries_of fields ≡ Some said → Spells fields 130 said
unfolding entries_of
entries_takes fields said short fits e =
    let a =
    bind_some (byte_at fields) (λ count.
    cond (nat_lt MOST_ENTRIES count.0) None (entries_at count.0 count.1) >>= λ entries.
    at_end (Listing entries.0) entries.1) said e in
    let b =
    bind_some (cond (nat_lt MOST_ENTRIES a.0.0) None (entries_at a.0.0 a.0.1))
    (λ entries. at_end (Listing entries.0) entries.1) said a.2 in
    let count = byte_takes fields a.0 fits a.1 in
    let few = not_over (nat_lt MOST_ENTRIES a.0.0) (entries_at a.0.0 a.0.1) b.0 b.1 in
    let t = entries_take a.0.0 a.0.1 b.0 count.0.rest_fits few.1 in
    let end = ended (Listing b.0.0) said b.0.1 b.2 in
    let left : a.0.1 ≡ flat_map entry_bytes b.0.0 =
    t.0.parts ∙ ap (λ (r : List ℕ). flat_map entry_bytes b.0.0 ++ r) end.0
    ∙ append-nil (flat_map entry_bytes b.0.0) in
    let all : fields ≡ length b.0.0 ∷ flat_map entry_bytes b.0.0 =
    count.0.parts ∙ ap (λ (r : List ℕ). a.0.0 ∷ r) left
    ∙ ap (λ (n : ℕ). n ∷ flat_map entry_bytes b.0.0) (sym t.1) in
    subst (Spells fields 130) end.1
    (record {
      is = (
        omega (arith, t.1, ltb-false _ _ few.0),
        t.2,
        omega (arith, short, ap length all),
      );
      bytes = ap (λ (r : List ℕ). 130 ∷ r) all;
    })
  where
    not_over : {A : Type 0} (b : Bool) (r : Option A) (y : A) → cond b None r ≡ Some y
        → (b ≡ false) × (r ≡ Some y)
    not_over true r y e = absurd cc
    not_over false r y e = (refl, e)

state_takes : (byte : ℕ) (s : NodeState) → state_of byte ≡ Some s → byte ≡ state_byte s
state_takes byte s e =
    let P : Type 0 = byte ≡ state_byte s in
    by_test (byte == 0) (Some state.Down) _ (Some s) P e
    (λ same h. eqb-true byte 0 same ∙ ap state_byte (same_Some _ _ h))
    (λ e. by_test (byte == 1) (Some state.Ready) _ (Some s) P e
    (λ same h. eqb-true byte 1 same ∙ ap state_byte (same_Some _ _ h))
    (λ e. by_test (byte == 2) (Some state.Storing) None (Some s) P e
    (λ same h. eqb-true byte 2 same ∙ ap state_byte (same_Some _ _ h))
    (λ e. absurd cc)))

state_again : (s : NodeState) → state_of (state_byte s) ≡ Some s
state_again state.Down = refl
state_again state.Ready = refl
state_again state.Storing = refl

status_takes : (fields : List ℕ) (said : Said) → IsBytes fields → status_of fields ≡ Some said
    → Spells fields 131 said
unfolding status_of
status_takes fields said fits e =
    let a =
    bind_some (byte_at fields) (λ byte. state_of byte.0 >>= λ state.
    number_at 4 byte.1 >>= λ own. number_at 4 own.1 >>= λ logged.
    at_end (Status state own.0 logged.0) logged.1) said e in
    let s =
    bind_some (state_of a.0.0) (λ state. number_at 4 a.0.1 >>= λ own.
    number_at 4 own.1 >>= λ logged. at_end (Status state own.0 logged.0) logged.1) said a.2 in
    let b =
    bind_some (number_at 4 a.0.1)
    (λ own. number_at 4 own.1 >>= λ logged. at_end (Status s.0 own.0 logged.0) logged.1)
    said s.2 in
    let c =
    bind_some (number_at 4 b.0.1)
    (λ logged. at_end (Status s.0 b.0.0 logged.0) logged.1) said b.2 in
    let byte = byte_takes fields a.0 fits a.1 in
    let own = number_takes 4 (2 ^ 32) four a.0.1 b.0 byte.0.rest_fits b.1 in
    let logged = number_takes 4 (2 ^ 32) four b.0.1 c.0 own.0.rest_fits c.1 in
    let end = ended (Status s.0 b.0.0 c.0.0) said c.0.1 c.2 in
    let left : a.0.1 ≡ big_bytes 4 b.0.0 ++ big_bytes 4 c.0.0 =
    own.0.parts ∙ ap (λ (r : List ℕ). big_bytes 4 b.0.0 ++ r)
    (number_ends b.0.1 c.0 logged.0 end.0) in
    let all : fields ≡ state_byte s.0 ∷ (big_bytes 4 b.0.0 ++ big_bytes 4 c.0.0) =
    byte.0.parts ∙ ap (λ (r : List ℕ). a.0.0 ∷ r) left
    ∙ ap (λ (n : ℕ). n ∷ (big_bytes 4 b.0.0 ++ big_bytes 4 c.0.0))
    (state_takes a.0.0 s.0 s.1) in
    subst (Spells fields 131) end.1
    (record { is = (own.1, logged.1); bytes = ap (λ (r : List ℕ). 131 ∷ r) all })

done_takes : (fields : List ℕ) (said : Said) → at_end Done fields ≡ Some said
    → Spells fields 132 said
done_takes fields said e =
    let end = ended Done said fields e in
    subst (Spells fields 132) end.1 (record { is = tt; bytes = ap (λ (r : List ℕ). 132 ∷ r) end.0 })

refused_takes : (fields : List ℕ) (said : Said) → IsBytes fields → refused_of fields ≡ Some said
    → Spells fields 238 said
unfolding refused_of
refused_takes fields said fits e =
    let a =
    bind_some (byte_at fields) (λ number. number_at 4 number.1 >>= λ detail.
    at_end (Refused number.0 detail.0) detail.1) said e in
    let b =
    bind_some (number_at 4 a.0.1)
    (λ detail. at_end (Refused a.0.0 detail.0) detail.1) said a.2 in
    let number = byte_takes fields a.0 fits a.1 in
    let detail = number_takes 4 (2 ^ 32) four a.0.1 b.0 number.0.rest_fits b.1 in
    let end = ended (Refused a.0.0 b.0.0) said b.0.1 b.2 in
    let all : fields ≡ a.0.0 ∷ big_bytes 4 b.0.0 =
    number.0.parts ∙ ap (λ (r : List ℕ). a.0.0 ∷ r) (number_ends a.0.1 b.0 detail.0 end.0) in
    subst (Spells fields 238) end.1
    (record { is = (number.1, detail.1); bytes = ap (λ (r : List ℕ). 238 ∷ r) all })

-- bytes that are read as a response are its encoding, and its values are within their limits
pub said_takes : (bytes : List ℕ) (said : Said) → length bytes ≤ LONGEST_FRAME → IsBytes bytes
    → said_of bytes ≡ Some said → IsSaid said × (bytes ≡ response_body said)
said_takes [] said short fits e = absurd cc
said_takes (opcode ∷ fields) said short fits e =
    let rest = IsBytes-rest opcode fields fits in
    let P : Type 0 = IsSaid said × (opcode ∷ fields ≡ response_body said) in
    let from : (n : ℕ) → (opcode == n) ≡ true → Spells fields n said → P =
    λ n same s. (s.is, ap (λ (b : ℕ). b ∷ fields) (eqb-true opcode n same) ∙ s.bytes) in
    by_test (opcode == 129) _ _ (Some said) P e
    (λ same h. from 129 same (accepted_takes fields said rest h))
    (λ e. by_test (opcode == 130) _ _ (Some said) P e
    (λ same h. from 130 same (entries_takes fields said (omega (arith, short)) rest h))
    (λ e. by_test (opcode == 131) _ _ (Some said) P e
    (λ same h. from 131 same (status_takes fields said rest h))
    (λ e. by_test (opcode == 132) _ _ (Some said) P e
    (λ same h. from 132 same (done_takes fields said h))
    (λ e. by_test (opcode == 238) _ _ (Some said) P e
    (λ same h. from 238 same (refused_takes fields said rest h))
    (λ e. absurd cc)))))

-- four bytes at the end are read again
last_again : (x : ℕ) → x < 2 ^ 32 → number_at 4 (big_bytes 4 x) ≡ Some (x, [])
last_again x lt = number_again 4 (2 ^ 32) four x [] lt

accepted_again : (seq : ℕ) → seq < 2 ^ 32 → accepted_of (big_bytes 4 seq) ≡ Some (Accepted seq)
unfolding accepted_of
accepted_again seq is =
    ap (λ (r : Option (ℕ × List ℕ)). r >>= λ x. at_end (Accepted x.0) x.1) (last_again seq is)

listing_again : (entries : List (Label × Content)) → length entries ≤ MOST_ENTRIES
    → AllByRecursion IsEntry entries
    → entries_of (length entries ∷ flat_map entry_bytes entries) ≡ Some (Listing entries)
unfolding entries_of
listing_again entries few is =
    let read : Option (List (Label × Content) × List ℕ) =
    entries_at (length entries) (flat_map entry_bytes entries) in
    let all : read ≡ Some (entries, []) =
    ap (entries_at (length entries)) (sym (append-nil (flat_map entry_bytes entries)))
    ∙ entries_again entries [] is in
    ap (λ (b : Bool). cond b None read >>= λ x. at_end (Listing x.0) x.1)
    (le-ltb MOST_ENTRIES (length entries) few)
    ∙ ap (λ (r : Option (List (Label × Content) × List ℕ)). r >>= λ x. at_end (Listing x.0) x.1) all

status_again : (s : NodeState) (own logged : ℕ) → own < 2 ^ 32 → logged < 2 ^ 32
    → status_of (state_byte s ∷ (big_bytes 4 own ++ big_bytes 4 logged)) ≡ Some
    (Status s own logged)
unfolding status_of
status_again s own logged own_fits logged_fits =
    ap (λ (r : Option NodeState). r >>= λ s.
    number_at 4 (big_bytes 4 own ++ big_bytes 4 logged) >>= λ x. number_at 4 x.1 >>= λ y.
    at_end (Status s x.0 y.0) y.1) (state_again s)
    ∙ ap (λ (r : Option (ℕ × List ℕ)). r >>= λ x. number_at 4 x.1 >>= λ y.
    at_end (Status s x.0 y.0) y.1)
    (number_again 4 (2 ^ 32) four own (big_bytes 4 logged) own_fits)
    ∙ ap (λ (r : Option (ℕ × List ℕ)). r >>= λ y. at_end (Status s own y.0) y.1)
    (last_again logged logged_fits)

refused_again : (number detail : ℕ) → detail < 2 ^ 32
    → refused_of (number ∷ big_bytes 4 detail) ≡ Some (Refused number detail)
unfolding refused_of
refused_again number detail is =
    ap (λ (r : Option (ℕ × List ℕ)). r >>= λ x. at_end (Refused number x.0) x.1)
    (last_again detail is)

-- the encoding of a response is read as that response
pub said_again : (said : Said) → IsSaid said → said_of (response_body said) ≡ Some said
said_again (Accepted seq) is = accepted_again seq is
said_again (Listing entries) is = listing_again entries is.0 is.1
said_again (Status state own logged) is = status_again state own logged is.0 is.1
said_again Done is = refl
said_again (Refused number detail) is = refused_again number detail is.1

-- a response that a call returns has these bytes as its encoding, and values within their limits
pub is_found : {A E : Type 0} (view : A → Said) (bytes : List ℕ) (read : Result (Option A) E)
    → length bytes ≤ LONGEST_FRAME → IsBytes bytes
    → IfOk read (λ r. option_map view r ≡ said_of bytes)
    → IfOk read (λ r. IfSome r (λ response. IsSaid (view response)
    × (bytes ≡ response_body (view response))))
is_found view bytes (Ok None) short fits e = tt
is_found view bytes (Ok (Some response)) short fits e =
    said_takes bytes (view response) short fits (sym e)
is_found view bytes (Err fault) short fits e = tt

-- a call finds each response whose encoding the bytes are
pub is_only : {A E : Type 0} (view : A → Said) (bytes : List ℕ) (read : Result (Option A) E)
    → IfOk read (λ r. option_map view r ≡ said_of bytes)
    → IfOk read (λ r. (said : Said) → IsSaid said → bytes ≡ response_body said
    → option_map view r ≡ Some said)
is_only view bytes (Ok r) e = λ said is spelled. e ∙ ap said_of spelled ∙ said_again said is
is_only view bytes (Err fault) e = tt
