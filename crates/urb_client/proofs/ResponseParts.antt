-- Parts of a frame: bytes are read as a part exactly if they are its encoding.
use Rattle.urb_client.proofs.Common.{Bool, Content, IsEntry, Label, List, None, Option, Some, []}
use Rattle.urb_client.proofs.Common.{ap, append_assoc, arith, big_bytes, big_number, byte_at}
use Rattle.urb_client.proofs.Common.{cases_lt, cond, cond_some, drop, entry_at, entry_bytes, false}
use Rattle.urb_client.proofs.Common.{get_or, inl, inr, le-ltb, length, ltb-false, nat_le, nat_lt}
use Rattle.urb_client.proofs.Common.{number_at, refl, subst, suc, sym, take, take-append-drop, true}
use Rattle.urb_client.proofs.Common.{ℕ, ◌&&◌, ◌++◌, ◌+◌, ◌<◌, ◌>>=◌, ◌^◌, ◌∙◌, ◌∷◌, ◌≡◌, ◌≤◌}
use Rattle.std.proofs.lemmas.Bool.{and_from, and_parts, le-leb, leb-true, lt-ltb, ltb-true}
use Rattle.std.proofs.lemmas.List.{drop_at, get_or-drop, get_or-take, get_or_past, length-append}
use Rattle.std.proofs.lemmas.List.{length-take, take_at}
use Rattle.std.proofs.lemmas.Nat.{be_bytes_2, be_bytes_4}
use Rattle.byteorder.specs.Numbers.{big_from-lt, big_number-reads_back}
use Rattle.urb_names.specs.LabelsAndContents.{IsContent, IsLabel}
use Rattle.urb_names.specs.Nodes.{is_node}
use Rattle.urb_names.specs.declared.limits.TheConstants.{MAX_NODES, MAX_PAYLOAD}
use Rattle.urb_client.specs.internal.ParsedResponses.{message_at, name_at}

-- a list of bytes
abbrev pub IsBytes : List ℕ → Type 0
IsBytes bytes = (i : ℕ) → get_or bytes i 0 < 256

-- if numbers are bytes, those after the first n are bytes
pub IsBytes-drop : (n : ℕ) (bytes : List ℕ) → IsBytes bytes → IsBytes (drop n bytes)
IsBytes-drop n bytes h i = rw get_or-drop (h (n + i))

IsBytes-take : (n : ℕ) (bytes : List ℕ) → IsBytes bytes → IsBytes (take n bytes)
IsBytes-take n bytes h i =
    elim (cases_lt i n) [
      | inl lt ↦ rw (get_or-take n bytes i 0 lt) (h i)
      | inr le ↦ rw (get_or_past (take n bytes) i 0 (omega (arith, length-take n bytes)))
          (omega arith)
    ]

-- if numbers are bytes, those after the first are bytes
pub IsBytes-rest : (b : ℕ) (bytes : List ℕ) → IsBytes (b ∷ bytes) → IsBytes bytes
IsBytes-rest b bytes h i = h (suc i)

-- if two parts were read one after the other, the first was read, and then the second
pub bind_some : {A B : Type 0} (r : Option A) (f : A → Option B) (y : B) → (r >>= f) ≡ Some y
    → (x : A) × (r ≡ Some x) × (f x ≡ Some y)
bind_some (Some x) f y e = (x, refl, e)
bind_some None f y e = absurd cc

-- if a test didn't stop the reading, it is false, and the value was read
pub guard_some : {A : Type 0} (b : Bool) (x y : A) → cond b None (Some x) ≡ Some y
    → (b ≡ false) × (x ≡ y)
guard_some true x y e = absurd cc
guard_some false x y e = (refl, cc)

-- what follows from each of two values follows from the one that a test chooses
pub by_test : {X : Type 0} (b : Bool) (x y z : X) (P : Type 0) → cond b x y ≡ z
    → (b ≡ true → x ≡ z → P) → (y ≡ z → P) → P
by_test true x y z P e first second = first refl e
by_test false x y z P e first second = second e

-- what was taken from the front
pub record Takes (bytes text rest : List ℕ) : Type 0 where
  -- the bytes are what was taken, then the rest
  pub parts : bytes ≡ text ++ rest
  -- each number of the rest is a byte
  pub rest_fits : IsBytes rest

-- two texts that are taken one after the other are taken together
pub Takes-then : (a x b y c : List ℕ) → Takes a x b → Takes b y c → Takes a (x ++ y) c
Takes-then a x b y c p q = record {
  parts = p.parts ∙ ap (λ (t : List ℕ). x ++ t) q.parts ∙ sym (append_assoc x y c);
  rest_fits =
      q.rest_fits;
}

-- ---- numbers

-- a number that is read from n bytes is encoded as these bytes
pub record IsWide (n limit : ℕ) : Type 0 where
  -- bytes that are read as a number are its encoding
  pub back : (bytes : List ℕ) → n ≤ length bytes → IsBytes bytes
      → big_bytes n (big_number n bytes) ++ drop n bytes ≡ bytes
  -- the encoding of a number is read as that number
  pub again : (x : ℕ) (rest : List ℕ) → x < limit → big_number n (big_bytes n x ++ rest) ≡ x
  -- what is read is below the limit
  pub below : (bytes : List ℕ) → IsBytes bytes → big_number n bytes < limit
  -- the encoding has n bytes
  pub len : (x : ℕ) → length (big_bytes n x) ≡ n

back_two : (bytes : List ℕ) → 2 ≤ length bytes → IsBytes bytes
    → big_bytes 2 (big_number 2 bytes) ++ drop 2 bytes ≡ bytes
back_two [] long fits = absurd (omega (arith, long))
back_two (a ∷ []) long fits = absurd (omega (arith, long))
back_two (a ∷ b ∷ rest) long fits =
    ap (λ (front : List ℕ). front ++ rest)
    (be_bytes_2 (a ∷ b ∷ []) (big_number 2 (a ∷ b ∷ rest)) refl
    (IsBytes-take 2 (a ∷ b ∷ rest) fits) (omega arith))

back_four : (bytes : List ℕ) → 4 ≤ length bytes → IsBytes bytes
    → big_bytes 4 (big_number 4 bytes) ++ drop 4 bytes ≡ bytes
back_four [] long fits = absurd (omega (arith, long))
back_four (a ∷ []) long fits = absurd (omega (arith, long))
back_four (a ∷ b ∷ []) long fits = absurd (omega (arith, long))
back_four (a ∷ b ∷ c ∷ []) long fits = absurd (omega (arith, long))
back_four (a ∷ b ∷ c ∷ d ∷ rest) long fits =
    ap (λ (front : List ℕ). front ++ rest)
    (be_bytes_4 (a ∷ b ∷ c ∷ d ∷ []) (big_number 4 (a ∷ b ∷ c ∷ d ∷ rest)) refl
    (IsBytes-take 4 (a ∷ b ∷ c ∷ d ∷ rest) fits) (omega arith))

-- two bytes are read as a number below 2^16, and encoded again, and the other way round
pub two : IsWide 2 (2 ^ 16)
two = record {
  back = back_two;
  again = λ x rest lt. big_number-reads_back 2 x rest lt;
  below =
      λ bytes fits. big_from-lt 0 2 bytes fits;
  len = λ x. refl;
}

-- four bytes are read as a number below 2^32, and encoded again, and the other way round
pub four : IsWide 4 (2 ^ 32)
four = record {
  back = back_four;
  again = λ x rest lt. big_number-reads_back 4 x rest lt;
  below =
      λ bytes fits. big_from-lt 0 4 bytes fits;
  len = λ x. refl;
}

-- a number that is read is below the limit, and its encoding was taken
pub number_takes : (n limit : ℕ) (wide : IsWide n limit) (bytes : List ℕ) (x : ℕ × List ℕ)
    → IsBytes bytes → number_at n bytes ≡ Some x → Takes bytes (big_bytes n x.0) x.1 × (x.0 < limit)
number_takes n limit wide bytes x fits e =
    let g = guard_some (nat_lt (length bytes) n) (big_number n bytes, drop n bytes) x e in
    let long : n ≤ length bytes = ltb-false _ _ g.0 in
    subst (λ (y : ℕ × List ℕ). Takes bytes (big_bytes n y.0) y.1 × (y.0 < limit)) g.1 (
      record { parts = sym (wide.back bytes long fits); rest_fits = IsBytes-drop n bytes fits },
      wide.below bytes fits,
    )

-- the encoding of a number below the limit is read as that number
pub number_again : (n limit : ℕ) (wide : IsWide n limit) (x : ℕ) (rest : List ℕ) → x < limit
    → number_at n (big_bytes n x ++ rest) ≡ Some (x, rest)
number_again n limit wide x rest lt =
    let len = wide.len x in
    let long : nat_lt (length (big_bytes n x ++ rest)) n ≡ false =
    le-ltb _ _ (omega (arith, length-append (big_bytes n x) rest)) in
    rw (long, wide.again x rest lt, drop_at (big_bytes n x) rest n len) refl

-- a byte that is read was taken from the front, and is below 256
pub byte_takes : (bytes : List ℕ) (x : ℕ × List ℕ) → IsBytes bytes → byte_at bytes ≡ Some x
    → Takes bytes (x.0 ∷ []) x.1 × (x.0 < 256)
byte_takes [] x fits e = absurd cc
byte_takes (b ∷ bytes) x fits e =
    let same : (b, bytes) ≡ x = cc in
    subst (λ (y : ℕ × List ℕ). Takes (b ∷ bytes) (y.0 ∷ []) y.1 × (y.0 < 256)) same
    (record { parts = refl; rest_fits = IsBytes-rest b bytes fits }, fits 0)

-- ---- names

abbrev name_bytes : Label → List ℕ
name_bytes name = name.sender ∷ big_bytes 4 name.seq

name_takes : (bytes : List ℕ) (x : Label × List ℕ) → IsBytes bytes → name_at bytes ≡ Some x
    → Takes bytes (name_bytes x.0) x.1 × IsLabel x.0
unfolding name_at
name_takes bytes x fits e =
    let a =
    bind_some (byte_at bytes) (λ sender. number_at 4 sender.1 >>= λ seq.
    cond (is_node MAX_NODES sender.0 && nat_lt 0 seq.0)
    (Some (record { sender = sender.0; seq = seq.0 }, seq.1)) None) x e in
    let b =
    bind_some (number_at 4 a.0.1)
    (λ seq. cond (is_node MAX_NODES a.0.0 && nat_lt 0 seq.0)
    (Some (record { sender = a.0.0; seq = seq.0 }, seq.1)) None) x a.2 in
    let made : Label × List ℕ = (record { sender = a.0.0; seq = b.0.0 }, b.0.1) in
    let g = cond_some (is_node MAX_NODES a.0.0 && nat_lt 0 b.0.0) made x b.2 in
    let tests = and_parts _ _ g.0 in
    let node = and_parts _ _ tests.0 in
    let sender = byte_takes bytes a.0 fits a.1 in
    let seq = number_takes 4 (2 ^ 32) four a.0.1 b.0 sender.0.rest_fits b.1 in
    subst (λ (y : Label × List ℕ). Takes bytes (name_bytes y.0) y.1 × IsLabel y.0) g.1 (
      Takes-then bytes (a.0.0 ∷ []) a.0.1 (big_bytes 4 b.0.0) b.0.1 sender.0 seq.0,
      record {
        sender = (ltb-true _ _ node.0, omega (arith, ltb-true _ _ node.1));
        seq =
            (ltb-true _ _ tests.1, seq.1);
      },
    )

name_again : (name : Label) (rest : List ℕ) → IsLabel name
    → name_at (name_bytes name ++ rest) ≡ Some (name, rest)
unfolding name_at
name_again name rest is =
    let seq = number_again 4 (2 ^ 32) four name.seq rest is.seq.1 in
    let tests : (is_node MAX_NODES name.sender && nat_lt 0 name.seq) ≡ true =
    and_from _ _ (and_from _ _ (lt-ltb _ _ is.sender.0)
    (lt-ltb _ _ (omega (arith, is.sender.1)))) (lt-ltb _ _ is.seq.0) in
    rw (seq, tests) refl

-- ---- messages

abbrev message_bytes : Content → List ℕ
message_bytes m =
    big_bytes 2 m.client ++ (big_bytes 4 m.number ++ (big_bytes 2 (length m.payload) ++ m.payload))

message_takes : (bytes : List ℕ) (x : Content × List ℕ) → IsBytes bytes → message_at bytes ≡ Some x
    → Takes bytes (message_bytes x.0) x.1 × IsContent x.0
unfolding message_at
message_takes bytes x fits e =
    let test : ℕ → ℕ → ℕ → List ℕ → Bool =
    λ client number size rest. (nat_lt 0 client && nat_lt 0 number)
    && (nat_le size MAX_PAYLOAD && nat_le size (length rest)) in
    let made : ℕ → ℕ → ℕ → List ℕ → Content × List ℕ =
    λ client number size rest. (
      record
          { client = client; number = number; payload = take size rest },
      drop size rest,
    ) in
    let a =
    bind_some (number_at 2 bytes)
    (λ client. number_at 4 client.1 >>= λ number. number_at 2 number.1 >>= λ size.
    cond (test client.0 number.0 size.0 size.1)
    (Some (made client.0 number.0 size.0 size.1)) None) x e in
    let b =
    bind_some (number_at 4 a.0.1)
    (λ number. number_at 2 number.1 >>= λ size.
    cond (test a.0.0 number.0 size.0 size.1) (Some (made a.0.0 number.0 size.0 size.1)) None)
    x a.2 in
    let c =
    bind_some (number_at 2 b.0.1)
    (λ size. cond (test a.0.0 b.0.0 size.0 size.1) (Some (made a.0.0 b.0.0 size.0 size.1)) None)
    x b.2 in
    let size = c.0.0 in
    let left = c.0.1 in
    let g = cond_some (test a.0.0 b.0.0 size left) (made a.0.0 b.0.0 size left) x c.2 in
    let halves = and_parts _ _ g.0 in
    let numbers = and_parts _ _ halves.0 in
    let sizes = and_parts _ _ halves.1 in
    let t0 = number_takes 2 (2 ^ 16) two bytes a.0 fits a.1 in
    let t1 = number_takes 4 (2 ^ 32) four a.0.1 b.0 t0.0.rest_fits b.1 in
    let t2 = number_takes 2 (2 ^ 16) two b.0.1 c.0 t1.0.rest_fits c.1 in
    let within : size ≤ length left = leb-true _ _ sizes.1 in
    let len : length (take size left) ≡ size = omega (arith, length-take size left) in
    let t3 : Takes left (take size left) (drop size left) =
    record {
      parts = sym (take-append-drop size left);
      rest_fits =
          IsBytes-drop size left t2.0.rest_fits;
    } in
    let e23 : Takes b.0.1 (big_bytes 2 (length (take size left)) ++ take size left)
    (drop size left) =
    subst (λ (k : ℕ). Takes b.0.1 (big_bytes 2 k ++ take size left) (drop size left)) (sym len)
    (Takes-then b.0.1 (big_bytes 2 size) left (take size left) (drop size left) t2.0 t3) in
    let e13 =
    Takes-then a.0.1 (big_bytes 4 b.0.0) b.0.1
    (big_bytes 2 (length (take size left)) ++ take size left) (drop size left) t1.0 e23 in
    let e03 =
    Takes-then bytes (big_bytes 2 a.0.0) a.0.1
    (big_bytes 4 b.0.0 ++ (big_bytes 2 (length (take size left)) ++ take size left))
    (drop size left) t0.0 e13 in
    subst (λ (y : Content × List ℕ). Takes bytes (message_bytes y.0) y.1 × IsContent y.0) g.1 (
      e03,
      record {
        client = (ltb-true _ _ numbers.0, t0.1);
        number =
            (ltb-true _ _ numbers.1, t1.1);
        payload = omega (arith, len, leb-true _ _ sizes.0);
      },
    )

message_again : (m : Content) (rest : List ℕ) → IsContent m
    → message_at (message_bytes m ++ rest) ≡ Some (m, rest)
unfolding message_at
message_again m rest is =
    let client =
    number_again 2 (2 ^ 16) two m.client
    (big_bytes 4 m.number ++ (big_bytes 2 (length m.payload) ++ (m.payload ++ rest)))
    is.client.1 in
    let number =
    number_again 4 (2 ^ 32) four m.number
    (big_bytes 2 (length m.payload) ++ (m.payload ++ rest)) is.number.1 in
    let size =
    number_again 2 (2 ^ 16) two (length m.payload) (m.payload ++ rest)
    (omega (arith, is.payload)) in
    let tests : ((nat_lt 0 m.client && nat_lt 0 m.number)
    && (nat_le (length m.payload) MAX_PAYLOAD
    && nat_le (length m.payload) (length (m.payload ++ rest)))) ≡ true =
    and_from _ _ (and_from _ _ (lt-ltb _ _ is.client.0) (lt-ltb _ _ is.number.0))
    (and_from _ _ (le-leb _ _ is.payload)
    (le-leb _ _ (omega (arith, length-append m.payload rest)))) in
    rw (
      client,
      number,
      size,
      tests,
      take_at m.payload rest (length m.payload) refl,
      drop_at m.payload rest (length m.payload) refl,
    ) refl

-- ---- entries

-- an entry that is read is within its limits, and its encoding was taken
pub entry_takes : (bytes : List ℕ) (x : (Label × Content) × List ℕ) → IsBytes bytes
    → entry_at bytes ≡ Some x → Takes bytes (entry_bytes x.0) x.1 × IsEntry x.0
unfolding entry_at
entry_takes bytes x fits e =
    let a =
    bind_some (name_at bytes) (λ name. message_at name.1 >>= λ message.
    Some ((name.0, message.0), message.1)) x e in
    let b = bind_some (message_at a.0.1) (λ message. Some ((a.0.0, message.0), message.1)) x a.2 in
    let made : (Label × Content) × List ℕ = ((a.0.0, b.0.0), b.0.1) in
    let same : made ≡ x = cc (b.2) in
    let name = name_takes bytes a.0 fits a.1 in
    let message = message_takes a.0.1 b.0 name.0.rest_fits b.1 in
    subst (λ (y : (Label × Content) × List ℕ). Takes bytes (entry_bytes y.0) y.1 × IsEntry y.0) same (
      Takes-then bytes (name_bytes a.0.0) a.0.1 (message_bytes b.0.0) b.0.1 name.0 message.0,
      (name.1, message.1),
    )

-- the encoding of an entry is read as that entry
pub entry_again : (entry : Label × Content) (rest : List ℕ) → IsEntry entry
    → entry_at (entry_bytes entry ++ rest) ≡ Some (entry, rest)
unfolding entry_at
entry_again entry rest is =
    rw (name_again entry.0 (message_bytes entry.1 ++ rest) is.0, message_again entry.1 rest is.1)
    refl
