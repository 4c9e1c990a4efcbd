-- Pages: the entries that a read asks for. A response lists as many of them as a frame has room
-- for.
use Rattle.std.specs.Prelude.{◌≡◌, ◌<◌, ◌≤◌, ◌++◌, ℕ, List, [], ◌∷◌, length, take, drop}
use Rattle.std.specs.List.{flat_map}
use Rattle.urb_names.specs.LabelsAndContents.{Label, Content}
use Rattle.urb_client.specs.declared.format.TheConstants.{LONGEST_FRAME}
use Rattle.urb_client.specs.Listings.{listing_body}
use Rattle.urb_client.specs.Responses.{Said, Listing}

-- A list of entries is the longest prefix of a page that a frame has room for. It is empty only if
-- the page is empty.
pub record ListsPage (page listed : List (Label × Content)) : Type 0 where
  pub begins : (rest : List (Label × Content)) × (page ≡ listed ++ rest)
  pub fits : length (listing_body listed) ≤ LONGEST_FRAME
  pub longest : (other rest : List (Label × Content)) → page ≡ other ++ rest
      → length (listing_body other) ≤ LONGEST_FRAME → length other ≤ length listed
  pub some : listed ≡ [] → page ≡ []

-- a response lists a page in this way
abbrev pub SaysPage : List (Label × Content) → Said → Type 0
SaysPage page said =
    (listed : List (Label × Content)) × (said ≡ Listing listed) × ListsPage page listed

-- A reader asks again and again for the entries after those that it has, until a response has no
-- entries. These are the lists that it gets. Each lists the page of at most `max` entries from
-- there on.
abbrev pub ReadsOn : ℕ → List (Label × Content) → List (List (Label × Content)) → Type 0
ReadsOn max left [] = ListsPage (take max left) []
ReadsOn max left (listed ∷ lists) =
    ListsPage (take max left) listed × ReadsOn max (drop (length listed) left) lists

-- such a reader gets every entry of the log once, in order
abbrev pub IsReadWhole : Type 0
IsReadWhole =
    (max : ℕ) (log : List (Label × Content)) (lists : List (List (Label × Content))) → 0 < max
    → ReadsOn max log lists → flat_map (λ listed. listed) lists ≡ log
