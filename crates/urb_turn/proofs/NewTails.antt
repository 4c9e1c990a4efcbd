-- Records of a new node that are to follow, for the worked examples.
use Rattle.urb_turn.proofs.Common.{Entry, List, [], ap, arith, empty_memory, false≢true, four}
use Rattle.urb_turn.proofs.Common.{inl, inr, length, limits, map, name, pending, refl, subst, sym}
use Rattle.urb_turn.proofs.Common.{ℕ, ⊎_elim, ◌∷◌, ◌≡◌, ◌≤◌}
use Rattle.urb_names.proofs.OrderedPairs.{has_pair-first}
use Rattle.urb_names.specs.LabelsAndContents.{Content}
use Rattle.urb_names.specs.declared.limits.TheConstants.{MAX_PAYLOAD}
use Rattle.urb_stable.specs.Entries.{name_of}
use Rattle.urb_stable.specs.Records.{pend}
use Rattle.urb_turn.specs.NodeStores.{MayHaveTail}
use Rattle.urb_turn.specs.internal.TurnExamples.{ahead_of}
use Rattle.urb_world.specs.RunInvariant.{AreShort}
use Rattle.urb_world.specs.StoresAhead.{MayFollow}
use Rattle.urb_world.specs.World.{stored}
use Rattle.urb_world.specs.internal.Scripts.{message}

-- pairs of node 1 have no payload
pub pending-short : (numbers : List ℕ) → AreShort (pend (map (pending 1) numbers))
pending-short [] x m e = absurd (false≢true e)
pending-short (number ∷ numbers) x m e =
    ⊎_elim
    (λ f. subst (λ (v : Content). length v.payload ≤ MAX_PAYLOAD) f.1 (omega arith))
    (λ f. pending-short numbers x m f)
    (has_pair-first (name 1 number, message 7 number "") (pend (map (pending 1) numbers)) x m e)

-- the first pair of node 1 may follow nothing
pub may-first : MayFollow (limits 4 10) (stored four) 1 [] (pending 1 1 ∷ [])
may-first = (record { a = refl; b = refl; c = refl; d = refl }, tt)

-- the second one may follow it
pub may-both : MayFollow (limits 4 10) (stored four) 1 [] (pending 1 1 ∷ pending 1 2 ∷ [])
may-both = (
  record { a = refl; b = refl; c = refl; d = refl },
  (record { a = refl; b = refl; c = refl; d = refl }, tt),
)

-- the third pair can't follow the first
pub no-third : (tail : List Entry) → pending 1 1 ∷ pending 1 3 ∷ [] ≡ tail
    → MayFollow (limits 4 10) (stored four) 1 [] tail → ⊥
no-third tail e may =
    false≢true (subst (λ (t : List Entry). MayFollow (limits 4 10) (stored four) 1 [] t) (sym e)
    may).1.0.b

-- nor the second pair nothing
no-second : (tail : List Entry) → pending 1 2 ∷ [] ≡ tail
    → MayFollow (limits 4 10) (stored four) 1 [] tail → ⊥
no-second tail e may =
    false≢true (subst (λ (t : List Entry). MayFollow (limits 4 10) (stored four) 1 [] t) (sym e)
    may).0.b

-- the number in the name of the first record
abbrev pub first-number : List Entry → ℕ
first-number [] = 0
first-number (r ∷ records) = (name_of r).seq

-- the second pair isn't the first of any records that begin with the first pair
pub no-other : (tail : List Entry) → pending 1 2 ∷ [] ≡ pending 1 1 ∷ tail → ⊥
no-other tail e = let two_is_one : 2 ≡ 1 = ap first-number e in absurd (omega (arith, two_is_one))

some-none : {A : Type 0} (x : A) (xs : List A) → x ∷ xs ≡ [] → ⊥
some-none x xs e = cc

-- so an empty store doesn't hold the second pair ahead
pub no-gap : MayHaveTail (ahead_of [] (pending 1 2 ∷ [])) four 1 empty_memory → ⊥
no-gap (inl none) = some-none (pending 1 2) [] none
no-gap (inr h) = no-second h.tail h.all h.may
