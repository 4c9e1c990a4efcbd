-- How many bytes the prefixes of a page take, and which entries of a log a reader gets.
use Rattle.urb_client.proofs.Common.{Content, ENTRY_HEAD, LISTING_HEAD, LONGEST_FRAME, Label, List}
use Rattle.urb_client.proofs.Common.{ListsPage, [], ap, append_assoc, arith, cases_lt, drop}
use Rattle.urb_client.proofs.Common.{entry_bytes, entry_head, flat_map, flat_map-cons, get_or, inl}
use Rattle.urb_client.proofs.Common.{inr, length, listing_body, nil_from_length, refl, sym, take}
use Rattle.urb_client.proofs.Common.{take-append-drop, take_more, ℕ, ◌++◌, ◌+◌, ◌<◌, ◌∙◌, ◌∷◌, ◌≡◌}
use Rattle.urb_client.proofs.Common.{◌≤◌}
use Rattle.std.proofs.Common.{drop_at, length-append, length-take, take_at}
use Rattle.std.proofs.lemmas.List.{append-nil, length-take-le, take-take, take_all}
use Rattle.std.proofs.lemmas.List.Concat.{flat_map-append}
use Rattle.urb_client.specs.Pages.{IsReadWhole}

-- the bytes of entries
abbrev pub size : List (Label × Content) → ℕ
size entries = length (flat_map entry_bytes entries)

size-append : (xs ys : List (Label × Content)) → size (xs ++ ys) ≡ size xs + size ys
size-append xs ys =
    ap length (flat_map-append entry_bytes xs ys)
    ∙ length-append (flat_map entry_bytes xs) (flat_map entry_bytes ys)

size-one : (entry : Label × Content) → size (entry ∷ []) ≡ ENTRY_HEAD + length entry.1.payload
size-one entry =
    let head : length (entry_head entry.0 entry.1) ≡ ENTRY_HEAD = refl in
    ap length (append-nil (entry_bytes entry))
    ∙ length-append (entry_head entry.0 entry.1) entry.1.payload
    ∙ ap (λ (n : ℕ). n + length entry.1.payload) head

-- a prefix with one more entry takes the bytes of that entry more
pub size-more : (entries : List (Label × Content)) (i : ℕ) (entry : Label × Content)
    → i < length entries → entry ≡ get_or entries i entry
    → size (take (i + 1) entries) ≡ size (take i entries) + (ENTRY_HEAD + length entry.1.payload)
size-more entries i entry within here =
    ap size (take_more entries i entry within
    ∙ ap (λ (e : Label × Content). take i entries ++ e ∷ []) (sym here))
    ∙ size-append (take i entries) (entry ∷ [])
    ∙ ap (λ (n : ℕ). size (take i entries) + n) (size-one entry)

-- a longer prefix takes as many bytes or more
size-beginning : (xs ys : List (Label × Content)) → size xs ≤ size (xs ++ ys)
size-beginning xs ys = omega (arith, size-append xs ys)

-- a longer prefix of entries takes at least as many bytes
pub size-longer : (entries : List (Label × Content)) (i k : ℕ) → i ≤ k
    → size (take i entries) ≤ size (take k entries)
size-longer entries i k below =
    let split : take i (take k entries) ++ drop i (take k entries) ≡ take k entries =
    take-append-drop i (take k entries) in
    omega (
      arith,
      size-beginning (take i (take k entries)) (drop i (take k entries)),
      ap size split,
      ap size (take-take i k entries below),
    )

-- if there is no room for one more entry, there is no room for any longer prefix
pub no_more : (entries : List (Label × Content)) (i used more : ℕ)
    → LISTING_HEAD + size (take i entries) ≡ used
    → size (take (i + 1) entries) ≡ size (take i entries) + more → LONGEST_FRAME < used + more
    → (count : ℕ) → length (listing_body (take count entries)) ≤ LONGEST_FRAME → count ≤ i
no_more entries i used more is next over count fits = elim (cases_lt i count) [
  | inl longer ↦ absurd (omega (
    arith,
    is,
    next,
    over,
    fits,
    size-longer entries (i + 1) count (omega (arith, longer)),
  ))
  | inr le ↦ le
]

-- if there is room for all entries, the longest prefix is all of them
pub fits_whole : (entries : List (Label × Content)) (count bytes : ℕ) → count ≤ length entries
    → length (listing_body (take count entries)) ≡ bytes
    → ((k : ℕ) → k ≤ length entries → length (listing_body (take k entries)) ≤ LONGEST_FRAME
    → k ≤ count)
    → length (listing_body entries) ≤ LONGEST_FRAME → bytes ≡ length (listing_body entries)
fits_whole entries count bytes within is longest room =
    let all : take (length entries) entries ≡ entries =
    take_all (length entries) entries (omega arith) in
    let whole = longest (length entries) (omega arith) (omega (arith, ap size all, room)) in
    omega (arith, is, ap size (take_all count entries whole))

-- the longest prefix is a page's list
pub lists_page : (page : List (Label × Content)) (count : ℕ) → count ≤ length page
    → length (listing_body (take count page)) ≤ LONGEST_FRAME
    → ((k : ℕ) → k ≤ length page → length (listing_body (take k page)) ≤ LONGEST_FRAME → k ≤ count)
    → (count ≡ 0 → page ≡ []) → ListsPage page (take count page)
lists_page page count within fits longest some = record {
  begins = (drop count page, sym (take-append-drop count page));
  fits = fits;
  longest = λ other rest is room.
      let same : take (length other) page ≡ other =
      ap (take (length other)) is ∙ take_at other rest (length other) refl in
      let few : length other ≤ length page =
      omega (arith, ap length is, length-append other rest) in
      let below : length other ≤ count =
      longest (length other) few (omega (arith, room, ap size same)) in
      omega (arith, below, length-take-le count page within);
  some = λ none. some (omega (arith, ap length none, length-take-le count page within));
}

-- a reader gets the whole log
nothing_left : (max : ℕ) (log : List (Label × Content)) → 0 < max → take max log ≡ [] → log ≡ []
nothing_left max log some none =
    nil_from_length log (omega (arith, some, ap length none, length-take max log))

front_and_rest : (max : ℕ) (log listed rest : List (Label × Content))
    → take max log ≡ listed ++ rest → listed ++ drop (length listed) log ≡ log
front_and_rest max log listed rest is =
    let all : log ≡ listed ++ (rest ++ drop max log) =
    sym (take-append-drop max log)
    ∙ ap (λ (front : List (Label × Content)). front ++ drop max log) is
    ∙ append_assoc listed rest (drop max log) in
    ap (λ (behind : List (Label × Content)). listed ++ behind)
    (ap (drop (length listed)) all ∙ drop_at listed (rest ++ drop max log) (length listed) refl)
    ∙ sym all

-- a reader that asks on gets every entry of the log once, in order
pub is_read_whole : IsReadWhole
is_read_whole max log [] some reads = sym (nothing_left max log some (reads.some refl))
is_read_whole max log (listed ∷ lists) some reads =
    flat_map-cons (λ listed. listed) listed lists
    ∙ ap (λ (behind : List (Label × Content)). listed ++ behind)
    (is_read_whole max (drop (length listed) log) lists some reads.1)
    ∙ front_and_rest max log listed reads.0.begins.0 reads.0.begins.1
