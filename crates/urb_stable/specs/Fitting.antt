-- Which images of the nodes' storages fit together: the rules A to D, and the misfits.
use Rattle.std.specs.Prelude.{Bool, List, None, Option, Some, [], false, filter, flat_map}
use Rattle.std.specs.Prelude.{if◌then◌else◌, is_none, is_some, length, map, nat_lt, not, suc, true}
use Rattle.std.specs.Prelude.{ℕ, ◌&&◌, ◌++◌, ◌==◌, ◌∷◌, ◌≡◌}
use Rattle.urb_names.specs.Names.{has_name}
use Rattle.urb_names.specs.LabelsAndContents.{Content, Label, Limits}
use Rattle.urb_names.specs.Nodes.{majority_passes, nodes}
use Rattle.urb_names.specs.Pairs.{has_pair, message_of, next_number, own}
use Rattle.urb_names.specs.declared.refusal.Rule.{Rule}
use Rattle.urb_names.specs.declared.refusal.Rule.TheVariants.{A, B, C, D}
use Rattle.urb_stable.specs.Entries.{Entry, name_of}
use Rattle.urb_stable.specs.Records.{cert, pend}
use Rattle.urb_stable.specs.declared.fitting.Misfit.{Misfit}
use Rattle.urb_stable.specs.declared.record.Record.TheVariants.{Cert, Pend, PendCert}

-- whether a group with these limits may have the name
abbrev pub in_range : Limits → Label → Bool
in_range size x = nat_lt x.sender (suc size.n) && nat_lt x.seq (suc size.cap)

-- Whether a record is new to these pairs and certified names. Its name is in range. A pair's name
-- is not pending yet. A certificate is for a pending name that is not certified yet.
abbrev pub is_new_to : Limits → List (Label × Content) → List Label → Entry → Bool
is_new_to size pairs certified (Pend x m) = in_range size x && is_none (message_of pairs x)
is_new_to size pairs certified (PendCert x m) = in_range size x && is_none (message_of pairs x)
is_new_to size pairs certified (Cert x) =
    in_range size x && (is_some (message_of pairs x) && not (has_name certified x))

-- A: each record is new to the pairs and certified names of the earlier ones
abbrev pub keeps_a : Limits → List Entry → Entry → Bool
keeps_a size earlier r = is_new_to size (pend earlier) (cert earlier) r

-- whether a pair has the next number of the node's own messages, and its message the next number of
-- its client
abbrev pub is_next_own : List Content → Label → Content → Bool
is_next_own before x m = (x.seq == suc (length before)) && (m.number == next_number m.client before)

-- whether a record of node p comes in its turn: if it holds a pair of p's own, that is p's next
-- pair
abbrev pub is_in_turn : ℕ → List Content → Entry → Bool
is_in_turn p before (Pend x m) = if x.sender == p then is_next_own before x m else true
is_in_turn p before (PendCert x m) = if x.sender == p then is_next_own before x m else true
is_in_turn p before (Cert x) = true

-- B: each pair of the node's own comes in its turn after its earlier own pairs
abbrev pub keeps_b : ℕ → List Entry → Entry → Bool
keeps_b p earlier r = is_in_turn p (own p (pend earlier)) r

-- C: a pair of another sender is also in that sender's image
abbrev pub keeps_c : (ℕ → List Entry) → ℕ → Entry → Bool
keeps_c images p (Pend x m) = if x.sender == p then true else has_pair (pend (images x.sender)) x m
keeps_c images p (PendCert x m) =
    if x.sender == p then true else has_pair (pend (images x.sender)) x m
keeps_c images p (Cert x) = true

-- whether the images of a majority have the pair
abbrev pub held_by_majority : ℕ → (ℕ → List Entry) → Label → Content → Bool
held_by_majority n images x m = majority_passes n (λ q. has_pair (pend (images q)) x m)

-- whether there is a message, and the images of a majority have it under this name
abbrev pub known_held : ℕ → (ℕ → List Entry) → Label → Option Content → Bool
known_held n images x None = false
known_held n images x (Some m) = held_by_majority n images x m

-- D: the images of a majority have each certified pair
abbrev pub keeps_d : ℕ → (ℕ → List Entry) → List Entry → Entry → Bool
keeps_d n images earlier (Pend x m) = true
keeps_d n images earlier (PendCert x m) = held_by_majority n images x m
keeps_d n images earlier (Cert x) = known_held n images x (message_of (pend earlier) x)

-- whether a record of node p, after these earlier ones, keeps the rule
abbrev pub keeps : Limits → (ℕ → List Entry) → ℕ → List Entry → Entry → Rule → Bool
keeps size images p earlier r A = keeps_a size earlier r
keeps size images p earlier r B = keeps_b p earlier r
keeps size images p earlier r C = keeps_c images p r
keeps size images p earlier r D = keeps_d size.n images earlier r

-- the rules that a record breaks, in order
abbrev pub broken : Limits → (ℕ → List Entry) → ℕ → List Entry → Entry → List Misfit
broken size images p earlier r =
    map (λ rule. record { rule = rule; node = p; name = name_of r })
    (filter (λ rule. not (keeps size images p earlier r rule)) (A ∷ B ∷ C ∷ D ∷ []))

-- the misfits of a node's records after the earlier ones
abbrev pub misfits_behind : Limits → (ℕ → List Entry) → ℕ → List Entry → List Entry → List Misfit
misfits_behind size images p earlier [] = []
misfits_behind size images p earlier (r ∷ records) =
    broken size images p earlier r ++ misfits_behind size images p (earlier ++ r ∷ []) records

-- all misfits of the images, in order of node, position and rule
abbrev pub misfits : Limits → (ℕ → List Entry) → List Misfit
misfits size images = flat_map (λ p. misfits_behind size images p [] (images p)) (nodes size.n)

-- the images have no misfit
abbrev pub Fits : Limits → (ℕ → List Entry) → Type 0
Fits size images = misfits size images ≡ []

-- the first misfit of a list, if there is one
abbrev pub first_of_all : List Misfit → Option Misfit
first_of_all [] = None
first_of_all (misfit ∷ rest) = Some misfit

-- the misfit reported for images that don't fit together
abbrev pub first_misfit : Limits → (ℕ → List Entry) → Option Misfit
first_misfit size images = first_of_all (misfits size images)

-- the record keeps the four rules
pub record Rules (size : Limits) (images : ℕ → List Entry) (p : ℕ) (earlier : List Entry)
    (r : Entry) : Type 0 where
  pub a : keeps_a size earlier r ≡ true
  pub b : keeps_b p earlier r ≡ true
  pub c : keeps_c images p r ≡ true
  pub d : keeps_d size.n images earlier r ≡ true

-- each of these records keeps the four rules
abbrev pub Kept : Limits → (ℕ → List Entry) → ℕ → List Entry → List Entry → Type 0
Kept size images p earlier [] = Unit {0}
Kept size images p earlier (r ∷ rs) =
    Rules size images p earlier r × Kept size images p (earlier ++ r ∷ []) rs

-- each record keeps the rules that concern its own image alone
abbrev pub KeepsOwn : Limits → ℕ → List Entry → List Entry → Type 0
KeepsOwn size p earlier [] = Unit {0}
KeepsOwn size p earlier (r ∷ rs) =
    (keeps_a size earlier r ≡ true) × (keeps_b p earlier r ≡ true)
    × KeepsOwn size p (earlier ++ r ∷ []) rs
