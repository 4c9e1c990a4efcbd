-- Reading row by row gives the records of the rows, or the first row that is no record.
use Rattle.urb_sqlite.proofs.Common.{All-from_recursion, AllByRecursion, Bool, Cert, Content, Entry}
use Rattle.urb_sqlite.proofs.Common.{Err, Int, IsFirstBad, IsWithin, Label, List, MAX_NODES}
use Rattle.urb_sqlite.proofs.Common.{MAX_PAYLOAD, None, Null, Ok, Option, Pend, PendCert, Result}
use Rattle.urb_sqlite.proofs.Common.{Row, Some, Spells, Text, Value, [], ap, ap₂, arith, column}
use Rattle.urb_sqlite.proofs.Common.{columns_of, cond, eq-eqb, eqb-true, false, joined, length, map}
use Rattle.urb_sqlite.proofs.Common.{nat_le, nat_lt, negsuc, option_and_then, option_map, pos}
use Rattle.urb_sqlite.proofs.Common.{read_from, record_at, recursion_from_All, refl, row_of, subst}
use Rattle.urb_sqlite.proofs.Common.{suc, sym, true, ℕ, ℤ, ◌&&◌, ◌+◌, ◌<◌, ◌==◌, ◌^◌, ◌∙◌, ◌∷◌, ◌≡◌}
use Rattle.urb_sqlite.proofs.Common.{◌≤◌}
use Rattle.std.proofs.lemmas.Bool.{lt-ltb, ltb-true}
use Rattle.sqlite.specs.declared.types.Value.TheVariants.{Blob, Real}
use Rattle.urb_names.specs.LabelsAndContents.{IsContent, IsLabel}
use Rattle.urb_sqlite.specs.declared.rows.Columns.{Columns}
use Rattle.urb_sqlite.specs.RecordRows.{columns_in, rows_of}
use Rattle.urb_sqlite.specs.RowReadings.{bytes_in, is_bare, is_message, is_name, message_in}
use Rattle.urb_sqlite.specs.RowReadings.{name_in, number_in, numbers_in, record_by, record_in}
use Rattle.urb_sqlite.specs.RowReadings.{word_in}

-- ---- the columns of a row

-- the value is this number of 32 bits
abbrev pub IsNumber : Value → ℕ → Type 0
IsNumber v n = (v ≡ Int (pos n)) × (n < 2 ^ 32)

word_is : (z : ℤ) (n : ℕ) → word_in z ≡ Some n → (z ≡ pos n) × (n < 2 ^ 32)
word_is (pos m) n h = split (nat_lt m (2 ^ 32)) refl h
  where
    split : (b : Bool) → nat_lt m (2 ^ 32) ≡ b → cond b (Some m) None ≡ Some n
        → (pos m ≡ pos n) × (n < 2 ^ 32)
    split true e h =
        let same : m ≡ n = cc in (ap pos same, subst (λ k. k < 2 ^ 32) same (ltb-true m (2 ^ 32) e))
    split false e h = absurd (let n = h in cc)
word_is (negsuc m) n h = absurd (let e = h in cc)

number_is : (v : Value) (n : ℕ) → number_in v ≡ Some n → IsNumber v n
number_is Null n h = absurd (let e = h in cc)
number_is (Int z) n h = let it = word_is z n h in (ap Int it.0, it.1)
number_is (Real x) n h = absurd (let e = h in cc)
number_is (Text t) n h = absurd (let e = h in cc)
number_is (Blob b) n h = absurd (let e = h in cc)

bytes_are : (v : Value) (bytes : List ℕ) → bytes_in v ≡ Some bytes → v ≡ Blob bytes
bytes_are Null bytes h = absurd (let e = h in cc)
bytes_are (Int z) bytes h = absurd (let e = h in cc)
bytes_are (Real x) bytes h = absurd (let e = h in cc)
bytes_are (Text t) bytes h = absurd (let e = h in cc)
bytes_are (Blob b) bytes h = let same : b ≡ bytes = cc in ap Blob same

-- the numbers of a row are in its columns
pub record Numbers (row : Row) (c : Columns) : Type 0 where
  pub pos : IsNumber (column row 0) c.pos
  pub kind : IsNumber (column row 1) c.kind
  pub sender : IsNumber (column row 2) c.sender
  pub seq : IsNumber (column row 3) c.seq
  pub client : IsNumber (column row 4) c.client
  pub number : IsNumber (column row 5) c.number

-- the numbers that are read from a row are in its columns
pub numbers_are : (row : Row) (c : Columns) → numbers_in row ≡ Some c → Numbers row c
numbers_are row c h =
    let it =
    go (number_in (column row 0)) (number_in (column row 1)) (number_in (column row 2))
    (number_in (column row 3)) (number_in (column row 4)) (number_in (column row 5)) h in
    record {
      pos = number_is _ _ it.0;
      kind = number_is _ _ it.1;
      sender = number_is _ _ it.2;
      seq = number_is _ _ it.3;
      client = number_is _ _ it.4;
      number = number_is _ _ it.5;
    }
  where
    go : (a b d e f g : Option ℕ)
        → option_and_then (λ place. option_and_then
        (λ kind. option_and_then (λ sender.
        option_and_then (λ seq. option_and_then (λ client. option_map (λ number.
        record {
          pos = place;
          kind = kind;
          sender = sender;
          seq = seq;
          client = client;
          number =
              number;
        }) g) f) e) d) b) a ≡ Some c
        → (a ≡ Some c.pos) × (b ≡ Some c.kind) × (d ≡ Some c.sender) × (e ≡ Some c.seq)
        × (f ≡ Some c.client) × (g ≡ Some c.number)
    go None b d e f g h = absurd (let n = h in cc)
    go (Some a) None d e f g h = absurd (let n = h in cc)
    go (Some a) (Some b) None e f g h = absurd (let n = h in cc)
    go (Some a) (Some b) (Some d) None f g h = absurd (let n = h in cc)
    go (Some a) (Some b) (Some d) (Some e) None g h = absurd (let n = h in cc)
    go (Some a) (Some b) (Some d) (Some e) (Some f) None h = absurd (let n = h in cc)
    go (Some a) (Some b) (Some d) (Some e) (Some f) (Some g) h =
        let same : record { pos = a; kind = b; sender = d; seq = e; client = f; number = g } ≡ c =
        cc in (
          ap (λ (x : Columns). Some x.pos) same,
          ap (λ (x : Columns). Some x.kind) same,
          ap (λ (x : Columns). Some x.sender) same,
          ap (λ (x : Columns). Some x.seq) same,
          ap (λ (x : Columns). Some x.client) same,
          ap (λ (x : Columns). Some x.number) same,
        )

-- ---- a row that is read as a record

three : (a b d : Bool) (x : Option Entry) (r : Entry) → cond (a && b && d) x None ≡ Some r
    → (a ≡ true) × (b ≡ true) × (d ≡ true) × (x ≡ Some r)
three true true true x r h = (refl, refl, refl, h)
three true true false x r h = absurd (let n = h in cc)
three true false d x r h = absurd (let n = h in cc)
three false b d x r h = absurd (let n = h in cc)

-- the parts that a row was read by
pub record FoundRow (limit place : ℕ) (row : Row) (r : Entry) : Type 0 where
  pub c : Columns
  pub payload : List ℕ
  pub numbers : Numbers row c
  pub bytes : column row 6 ≡ Blob payload
  pub pos : c.pos ≡ place
  pub low : place < 4294967295
  pub name : is_name c.sender c.seq ≡ true
  pub kind : record_by limit c payload ≡ Some r

-- a row that is read as a record has its place, a name, and the other parts of the record
pub found_in : (limit place : ℕ) (row : Row) (r : Entry) → record_at limit place row ≡ Some r
    → FoundRow limit place row r
found_in limit place row r h = go (numbers_in row) (bytes_in (column row 6)) refl refl h
  where
    go : (o : Option Columns) (b : Option (List ℕ)) → numbers_in row ≡ o
        → bytes_in (column row 6) ≡ b
        → option_and_then (λ c. option_and_then (record_in limit place c) b) o ≡ Some r
        → FoundRow limit place row r
    go None b is at h = absurd (let n = h in cc)
    go (Some c) None is at h = absurd (let n = h in cc)
    go (Some c) (Some payload) is at h =
        let passed = three _ _ _ _ r h in
        record {
          c = c;
          payload = payload;
          numbers = numbers_are row c is;
          bytes = bytes_are _ _ at;
          pos = eqb-true _ _ passed.0;
          low = ltb-true _ _ passed.1;
          name = passed.2;
          kind = passed.3;
        }

-- the first column of a row that is read as a record is its place
pub at_place : (limit place : ℕ) (row : Row) (r : Entry) → record_at limit place row ≡ Some r
    → column row 0 ≡ Int (pos place)
at_place limit place row r h =
    let it = found_in limit place row r h in it.numbers.pos.0 ∙ ap (λ n. Int (pos n)) it.pos

both_true : (a b : Bool) → a && b ≡ true → (a ≡ true) × (b ≡ true)
both_true true b h = (refl, h)
both_true false b h = absurd (let n = h in cc)

named : (c : Columns) → c.seq < 2 ^ 32 → is_name c.sender c.seq ≡ true → IsLabel (name_in c)
named c low h =
    let parts = both_true _ _ h in
    let node = both_true _ _ parts.0 in
    let above = ltb-true _ _ node.0 in
    let below = ltb-true _ _ node.1 in
    record { sender = (above, omega (arith, below)); seq = (ltb-true _ _ parts.1, low) }

le-true : (m n : ℕ) → nat_le m n ≡ true → m ≤ n
le-true m n h = omega (arith, h, Rattle.std.proofs.lemmas.Bool.leb-true)

contained : (limit : ℕ) (c : Columns) (payload : List ℕ) → limit ≤ MAX_PAYLOAD → c.number < 2 ^ 32
    → is_message limit c.client c.number payload ≡ true
    → IsContent (message_in c payload) × (length payload ≤ limit)
contained limit c payload most low h =
    let last = both_true _ _ h in
    let third = both_true _ _ last.0 in
    let first = both_true _ _ third.0 in
    let short = le-true _ _ last.1 in
    let word = ltb-true _ _ first.1 in (
      record {
        client = (ltb-true _ _ first.0, omega (arith, word));
        number =
            (ltb-true _ _ third.1, low);
        payload = omega (arith, short, most);
      },
      short,
    )

no_bytes : (payload : List ℕ) → (length payload == 0) ≡ true → payload ≡ []
no_bytes [] h = refl
no_bytes (b ∷ bs) h = absurd (omega (arith, eqb-true _ _ h))

bare_columns : (place kind sender seq client number : ℕ) (payload : List ℕ) → kind ≡ 3 → client ≡ 0
    → number ≡ 0 → payload ≡ []
    → columns_of place kind sender seq client number payload ≡ columns_of place 3 sender seq 0 0 []
bare_columns place kind sender seq client number payload p q r s =
    ap (λ k. columns_of place k sender seq client number payload) p
    ∙ ap (λ k. columns_of place 3 sender seq k number payload) q
    ∙ ap (λ k. columns_of place 3 sender seq 0 k payload) r
    ∙ ap (λ k. columns_of place 3 sender seq 0 0 k) s

-- the record as which a row with these columns is read
abbrev IsReadAs : ℕ → ℕ → Columns → List ℕ → Entry → Type 0
IsReadAs limit place c payload r =
    (columns_of place c.kind c.sender c.seq c.client c.number payload ≡ row_of place r)
    × IsWithin limit r

by_kind : (limit place : ℕ) (c : Columns) (payload : List ℕ) (r : Entry) → limit ≤ MAX_PAYLOAD
    → c.seq < 2 ^ 32 → c.number < 2 ^ 32 → is_name c.sender c.seq ≡ true
    → record_by limit c payload ≡ Some r → IsReadAs limit place c payload r
by_kind limit place c payload r most low_seq low name h =
    go (c.kind == 1) (c.kind == 2) (c.kind == 3) (is_message limit c.client c.number payload)
    (is_bare c payload) refl refl refl refl refl h
  where
    go : (one two third m bare : Bool) → (c.kind == 1) ≡ one → (c.kind == 2) ≡ two
        → (c.kind == 3) ≡ third → is_message limit c.client c.number payload ≡ m
        → is_bare c payload ≡ bare
        → cond one (cond m (Some (Pend (name_in c) (message_in c payload))) None)
        (cond two (cond m (Some (PendCert (name_in c) (message_in c payload))) None)
        (cond (third && bare) (Some (Cert (name_in c))) None)) ≡ Some r
        → IsReadAs limit place c payload r
    go true two third true bare is_one is_two is_third is_m is_b h =
        let is : Pend (name_in c) (message_in c payload) ≡ r = cc in
        let parts = contained limit c payload most low is_m in
        subst (IsReadAs limit place c payload) is (
          ap (λ k. columns_of place k c.sender c.seq c.client c.number payload)
              (eqb-true _ _ is_one),
          record
              { entry = (named c low_seq name, parts.0); payload = parts.1 },
        )
    go true two third false bare is_one is_two is_third is_m is_b h = absurd (let n = h in cc)
    go false true third true bare is_one is_two is_third is_m is_b h =
        let is : PendCert (name_in c) (message_in c payload) ≡ r = cc in
        let parts = contained limit c payload most low is_m in
        subst (IsReadAs limit place c payload) is (
          ap (λ k. columns_of place k c.sender c.seq c.client c.number payload)
              (eqb-true _ _ is_two),
          record
              { entry = (named c low_seq name, parts.0); payload = parts.1 },
        )
    go false true third false bare is_one is_two is_third is_m is_b h = absurd (let n = h in cc)
    go false false true m true is_one is_two is_third is_m is_b h =
        let is : Cert (name_in c) ≡ r = cc in
        let last = both_true _ _ is_b in
        let first = both_true _ _ last.0 in
        let same =
        bare_columns place c.kind c.sender c.seq c.client c.number payload
        (eqb-true _ _ is_third) (eqb-true _ _ first.0) (eqb-true _ _ first.1)
        (no_bytes payload last.1) in
        subst (IsReadAs limit place c payload) is
        (same, record { entry = named c low_seq name; payload = omega arith })
    go false false true m false is_one is_two is_third is_m is_b h = absurd (let n = h in cc)
    go false false false m bare is_one is_two is_third is_m is_b h = absurd (let n = h in cc)

same_columns : (a b d e f g h a' b' d' e' f' g' h' : Value) → a ≡ a' → b ≡ b' → d ≡ d' → e ≡ e'
    → f ≡ f' → g ≡ g' → h ≡ h' → a ∷ b ∷ d ∷ e ∷ f ∷ g ∷ h ∷ []
    ≡ a' ∷ b' ∷ d' ∷ e' ∷ f' ∷ g' ∷ h' ∷ []
same_columns a b d e f g h a' b' d' e' f' g' h' p q r s t u v = cc

-- A row that is read as a record is the row of that record.
pub is_row_of : (limit place : ℕ) (row : Row) (r : Entry) → limit ≤ MAX_PAYLOAD
    → record_at limit place row ≡ Some r → (columns_in row ≡ row_of place r) × IsWithin limit r
is_row_of limit place row r most h =
    let it = found_in limit place row r h in
    let n = it.numbers in
    let read = by_kind limit place it.c it.payload r most n.seq.1 n.number.1 it.name it.kind in (
      same_columns _ _ _ _ _ _ _ _ _ _ _ _ _ _
          (n.pos.0 ∙ ap (λ n. Int (pos n)) it.pos)
          n.kind.0 n.sender.0 n.seq.0 n.client.0 n.number.0 it.bytes ∙ read.0,
      read.1,
    )

-- ---- the row of a record is read as that record

word_from : (n : ℕ) → n < 2 ^ 32 → word_in (pos n) ≡ Some n
word_from n low = rw (lt-ltb n (2 ^ 32) low) refl

name_passes : (name : Label) → IsLabel name → is_name name.sender name.seq ≡ true
name_passes name h =
    rw (
      lt-ltb 0 name.sender h.sender.0,
      lt-ltb name.sender (suc MAX_NODES) (omega (arith, h.sender.1)),
      lt-ltb 0 name.seq h.seq.0,
    ) refl

le-leb : (m n : ℕ) → m ≤ n → nat_le m n ≡ true
le-leb m n h = Rattle.std.proofs.lemmas.Bool.le-leb m n h

message_passes : (limit : ℕ) (m : Content) → IsContent m → length m.payload ≤ limit
    → is_message limit m.client m.number m.payload ≡ true
message_passes limit m h short =
    rw (
      lt-ltb 0 m.client h.client.0,
      lt-ltb m.client 65536 (omega (arith, h.client.1)),
      lt-ltb 0 m.number h.number.0,
      le-leb (length m.payload) limit short,
    ) refl

abbrev numbers_of : ℕ → ℕ → Label → ℕ → ℕ → Columns
numbers_of place kind name client number =
    record {
      pos = place;
      kind = kind;
      sender = name.sender;
      seq = name.seq;
      client =
          client;
      number = number;
    }

columns_are : (limit place kind : ℕ) (name : Label) (client number : ℕ) (payload : List ℕ)
    → place < 2 ^ 32 → kind < 2 ^ 32 → IsLabel name → client < 2 ^ 32 → number < 2 ^ 32
    → record_at limit place (columns_of place kind name.sender name.seq client number payload)
    ≡ record_in limit place (numbers_of place kind name client number) payload
columns_are limit place kind name client number payload low kind_low h client_low number_low =
    rw (
      word_from place low,
      word_from kind kind_low,
      word_from name.sender (omega (arith, h.sender.1)),
      word_from name.seq h.seq.1,
      word_from client client_low,
      word_from number number_low,
    ) refl

record_is : (limit place : ℕ) (r : Entry) → place < 4294967295 → IsWithin limit r
    → record_at limit place (row_of place r) ≡ Some r
record_is limit place (Pend name m) low h =
    columns_are limit place 1 name m.client m.number m.payload (omega arith) (omega arith) h.entry.0
    (omega (arith, h.entry.1.client.1)) h.entry.1.number.1
    ∙ rw (
      eq-eqb place place refl,
      lt-ltb place 4294967295 low,
      name_passes name h.entry.0,
      message_passes limit m h.entry.1 h.payload,
    ) refl
record_is limit place (PendCert name m) low h =
    columns_are limit place 2 name m.client m.number m.payload (omega arith) (omega arith) h.entry.0
    (omega (arith, h.entry.1.client.1)) h.entry.1.number.1
    ∙ rw (
      eq-eqb place place refl,
      lt-ltb place 4294967295 low,
      name_passes name h.entry.0,
      message_passes limit m h.entry.1 h.payload,
    ) refl
record_is limit place (Cert name) low h =
    columns_are limit place 3 name 0 0 [] (omega arith) (omega arith) h.entry (omega arith)
    (omega arith) ∙ rw (
      eq-eqb place place refl,
      lt-ltb place 4294967295 low,
      name_passes name h.entry,
    ) refl

-- If a row has the columns of a record within its limits, it is read as that record.
pub is_read_as : (limit place : ℕ) (row : Row) (r : Entry) → place < 4294967295 → IsWithin limit r
    → columns_in row ≡ row_of place r → record_at limit place row ≡ Some r
is_read_as limit place row r low within is =
    ap (record_at limit place) is ∙ record_is limit place r low within

-- ---- all rows

-- if rows are read as records, the first row is the first record, and the others are the rest
pub went_on : (place : ℕ) (found : Option Entry) (rest : Result (List Entry) ℕ) (rs : List Entry)
    → joined place found rest ≡ Ok rs
    → (r : Entry) × (found ≡ Some r) × (more : List Entry) × (rest ≡ Ok more) × (rs ≡ r ∷ more)
went_on place None rest rs h = absurd (let e = h in cc)
went_on place (Some r) (Ok more) rs h = (r, refl, more, refl, let e : rs ≡ r ∷ more = cc in e)
went_on place (Some r) (Err bad) rs h = absurd (let e = h in cc)

module _ (limit : ℕ) (most : limit ≤ MAX_PAYLOAD) where
  -- the three facts that make rows the rows of records
  abbrev Spelling : ℕ → List Row → List Entry → Type 0
  Spelling first rows records =
      (map columns_in rows ≡ rows_of first records) × AllByRecursion (IsWithin limit) records
      × (first + length records ≤ 4294967295)

  spelling_of : (first : ℕ) (rows : List Row) (records : List Entry) → first ≤ 4294967295
      → read_from limit first rows ≡ Ok records → Spelling first rows records
  unfolding read_from
  spelling_of first [] records low h =
      let e : [] ≡ records = cc in subst (Spelling first []) e (refl, tt, omega (arith, low))
  spelling_of first (row ∷ rows) records low h =
      let on =
      went_on first (record_at limit first row) (read_from limit (first + 1) rows) records h in
      let here = is_row_of limit first row on.0 most on.1 in
      let at = (found_in limit first row on.0 on.1).low in
      let later = spelling_of (first + 1) rows on.2 (omega (arith, at)) on.3 in
      subst (Spelling first (row ∷ rows)) (sym on.4)
      (ap₂ ◌∷◌ here.0 later.0, (here.1, later.1), omega (arith, later.2))

  -- Rows that are read as records are the rows of these records.
  pub spells_if_read : (first : ℕ) (rows : List Row) (records : List Entry) → first ≤ 4294967295
      → read_from limit first rows ≡ Ok records → Spells limit first rows records
  spells_if_read first rows records low h =
      let it =
      spelling_of first rows records low h in
      record { spelled = it.0; limits = All-from_recursion _ _ it.1; places = it.2 }

  abbrev Bad : ℕ → List Row → ℕ → Type 0
  Bad = IsFirstBad limit

  bad_from : (first : ℕ) (rows : List Row) (place : ℕ) → first ≤ 4294967295
      → read_from limit first rows ≡ Err place → Bad first rows place
  unfolding read_from
  bad_from first [] place low h = absurd (let e = h in cc)
  bad_from first (row ∷ rows) place low h =
      go (bad_from (first + 1) rows place) (record_at limit first row)
      (read_from limit (first + 1) rows) refl refl h
    where
      go : (first + 1 ≤ 4294967295 → read_from limit (first + 1) rows ≡ Err place
          → Bad (first + 1) rows place) → (found : Option Entry) (rest : Result (List Entry) ℕ)
          → record_at limit first row ≡ found → read_from limit (first + 1) rows ≡ rest
          → joined first found rest ≡ Err place → Bad first (row ∷ rows) place
      go more None rest none is h =
          let here : first ≡ place = cc in
          subst (Bad first (row ∷ rows)) here (record {
            good = [];
            records = [];
            row = row;
            rest = rows;
            parts = refl;
            before = record {
              spelled = refl;
              limits =
                  All-from_recursion (IsWithin limit) [] tt;
              places = omega (arith, low);
            };
            here = omega arith;
            bad =
                λ r within below is. absurd (let some : Some r ≡ None =
                sym (is_read_as limit first row r below within is) ∙ none in cc);
          })
      go further (Some r) (Ok more) found is h = absurd (let e = h in cc)
      go further (Some r) (Err bad) found is h =
          let same : bad ≡ place = cc in
          let here = is_row_of limit first row r most found in
          let at = (found_in limit first row r found).low in
          let later = further (omega (arith, at)) (is ∙ ap Err same) in
          record {
            good = row ∷ later.good;
            records = r ∷ later.records;
            row = later.row;
            rest = later.rest;
            parts = ap (λ rs. row ∷ rs) later.parts;
            before = record {
              spelled = ap₂ ◌∷◌ here.0 later.before.spelled;
              limits =
                  All-from_recursion (IsWithin limit) (r ∷ later.records)
                  (here.1, recursion_from_All _ _ later.before.limits);
              places = omega (arith, later.before.places);
            };
            here = omega (arith, later.here);
            bad = later.bad;
          }

  -- If a reading ends at a place, the row there is the first one that is no record.
  pub first_bad : (first : ℕ) (rows : List Row) (place : ℕ) → first ≤ 4294967295
      → read_from limit first rows ≡ Err place → IsFirstBad limit first rows place
  first_bad = bad_from

module _ (limit : ℕ) where
  reads : (first : ℕ) (rows : List Row) (records : List Entry)
      → map columns_in rows ≡ rows_of first records → AllByRecursion (IsWithin limit) records
      → first + length records ≤ 4294967295 → read_from limit first rows ≡ Ok records
  unfolding read_from
  reads first [] [] is all low = refl
  reads first [] (r ∷ records) is all low = absurd (let e = is in cc)
  reads first (row ∷ rows) [] is all low = absurd (let e = is in cc)
  reads first (row ∷ rows) (r ∷ records) is all low =
      let head : columns_in row ≡ row_of first r = let e = is in cc in
      let tail : map columns_in rows ≡ rows_of (first + 1) records = let e = is in cc in
      let here = is_read_as limit first row r (omega (arith, low)) all.0 head in
      let later = reads (first + 1) rows records tail all.1 (omega (arith, low)) in
      rw (here, later) refl

  -- The rows of records are read as these records.
  pub read_if_spelled : (first : ℕ) (rows : List Row) (records : List Entry)
      → Spells limit first rows records → read_from limit first rows ≡ Ok records
  read_if_spelled first rows records h =
      reads first rows records h.spelled (recursion_from_All _ _ h.limits) h.places
