-- Places that are opened in their order. The lemmas on the arithmetic of a loop over places are
-- over plain variables, because `omega` looks at all that is in reach.
use Rattle.std.proofs.Common.{Err, IfErr, IfOk, List, MatchOption, MatchResult, None, Ok, Option}
use Rattle.std.proofs.Common.{Result, Some, [], arith, inl}
use Rattle.std.proofs.Common.{inr, length, refl, slice_get, slice_index_or, slice_set, subst, suc}
use Rattle.std.proofs.Common.{sym, zero, ℕ, ◌++◌, ◌+◌, ◌<◌, ◌∷◌, ◌≡◌, ◌≤◌}
use Rattle.std.proofs.lemmas.List.{length-append}
use Rattle.urb_names.specs.declared.limits.TheConstants.{MAX_NODES}
use Rattle.urb_folder.specs.internal.OpenedPlaces.{AreFound, AreOpened, IsFoundAt, IsGiven}
use Rattle.urb_stable.proofs.IndexGrowth.{read_more}

-- what is after a place stays there when that place is set
pub unset : {X : Type 0} (xs : List X) (i at : ℕ) (y it : X) → i < at
    → slice_get (slice_set xs i y) at ≡ Some it → slice_get xs at ≡ Some it
unset [] i at y it less there = there
unset (x ∷ xs) i zero y it less there = absurd (omega (arith, less))
unset (x ∷ xs) zero (suc at) y it less there = there
unset (x ∷ xs) (suc i) (suc at) y it less there = unset xs i at y it (omega (arith, less)) there

-- the place after those that are open was opened too
pub one_more : {J E : Type 0} (opens : ℕ → Result J E → Type 0) (all : List J) (it : J) (place : ℕ)
    → AreOpened opens place all → opens place (Ok it) → AreOpened opens (place + 1) (all ++ it ∷ [])
one_more opens all it place opened next = record {
  whole = let a = opened.whole in omega (arith, length-append all (it ∷ []));
  each = λ at more there. elim (read_more all it more at there) [
    | inl before ↦ opened.each at more before
    | inr last ↦ subst (λ n. opens n (Ok more))
        (let a = opened.whole in omega (arith, last.0))
        (subst (λ o. opens place (Ok o)) (sym last.1) next)
  ];
}

-- no place is open yet
pub none_yet : {J E : Type 0} (opens : ℕ → Result J E → Type 0) (all : List J)
    → length all ≡ 0 → AreOpened opens 0 all
none_yet opens [] none =
    record { whole = refl; each = λ at more there. absurd (let e = there in cc) }
none_yet opens (x ∷ all) none = absurd (let e = none in cc)

-- If a list has this value at a place, the place is within the list. Reading the place with any
-- default gives this value.
pub read_there : {X : Type 0} (xs : List X) (i : ℕ) (d it : X) → slice_get xs i ≡ Some it
    → (i < length xs) × (slice_index_or xs i d ≡ it)
read_there [] i d it e = absurd (let f = e in cc)
read_there (x ∷ xs) zero d it e = (omega (arith), let f = e in cc)
read_there (x ∷ xs) (suc i) d it e =
    let rest = read_there xs i d it e in (omega (arith, rest.0), rest.1)

-- a place within a list holds what reading it with any default gives
pub get_there : {X : Type 0} (xs : List X) (i : ℕ) (d : X) → i < length xs
    → slice_get xs i ≡ Some (slice_index_or xs i d)
get_there [] i d less = absurd (omega (arith, less))
get_there (x ∷ xs) zero d less = refl
get_there (x ∷ xs) (suc i) d less = get_there xs i d (omega (arith, less))

-- an empty list has no place
pub none_there : {X : Type 0} (xs : List X) (i : ℕ) (it : X) → length xs ≡ 0
    → slice_get xs i ≡ Some it → ⊥
none_there [] i it none there = let e = there in cc
none_there (x ∷ xs) i it none there = let e = none in cc

-- what is known of both outcomes
pub outcome_of : {J E : Type 0} (P Q : J → Type 0) (R : E → Type 0) (outcome : Result J E)
    → IfOk outcome P → IfOk outcome Q → IfErr outcome R → MatchResult outcome (λ j. P j × Q j) R
outcome_of P Q R (Ok it) p q r = (p, q)
outcome_of P Q R (Err fault) p q r = r

-- a claim that is still at a place is that of the place's node
pub claim_at : {J E : Type 0} (opens : ℕ → Result J E → Type 0) (place : ℕ)
    (it : Result (Result J E) ℕ) (claim : ℕ) → it ≡ Err claim → IsFoundAt opens place it
    → claim ≡ suc place
claim_at opens place it claim is there = subst (IsFoundAt opens place) is there

-- The next claim is that of the next node. Behind the greatest node the place has a fault.
pub claimed : {J E : Type 0} (opens : ℕ → Result J E → Type 0) (claim : Option ℕ) (old new : ℕ)
    (fault : E) → MatchOption claim ((new ≡ old) × (MAX_NODES ≤ old))
    (λ c. (old < MAX_NODES) × (c ≡ suc old) × (new ≡ suc old))
    → ((place : ℕ) → opens place (Err fault)) → (place : ℕ) → IsGiven place old
    → MatchOption claim (IsFoundAt opens place (Ok (Err fault))) (λ c. IsFoundAt opens place (Err c))
    × IsGiven (place + 1) new
claimed opens None old new fault taken refused place (inl same) =
    (refused place, inr (omega (arith, taken.0, taken.1)))
claimed opens None old new fault taken refused place (inr behind) =
    (refused place, inr (omega (arith, taken.0, taken.1)))
claimed opens (Some claim) old new fault taken refused place (inl same) =
    (omega (arith, taken.1, same), inl (omega (arith, taken.2, same)))
claimed opens (Some claim) old new fault taken refused place (inr behind) =
    absurd (omega (arith, taken.0, behind))

-- the places so far hold what belongs there, and so does one more
pub found_more : {J E : Type 0} (opens : ℕ → Result J E → Type 0) (all grown : List (Result (Result J E) ℕ))
    (it : Result (Result J E) ℕ) (place : ℕ) → AreFound opens all → length all ≡ place
    → grown ≡ all ++ it ∷ [] → IsFoundAt opens place it → AreFound opens grown
found_more opens all grown it place found counted is next =
    λ at more there. elim (read_more all it more at (subst (λ them. slice_get them at ≡ Some more) is there)) [
      | inl before ↦ found at more before
      | inr last ↦ subst (λ n. IsFoundAt opens n more) (omega (arith, last.0, counted))
          (subst (IsFoundAt opens place) (sym last.1) next)
    ]

-- if there is room for all places, and not all are there yet, there is room for one more
pub has_room : (held place count room : ℕ) → held ≡ place → place < count → count ≤ room
    → held < room
has_room held place count room same less fits = omega (arith, same, less, fits)

-- a place that is neither below the count nor above it is the count
pub ended : (place count : ℕ) → count ≤ place → place ≤ count → place ≡ count
ended place count behind within = omega (arith, behind, within)

-- what is not before the next place is not before this one
pub earlier : (place at : ℕ) → place + 1 ≤ at → place ≤ at
earlier place at behind = omega (arith, behind)

-- what is not before the next place is after this one
pub before : (place at : ℕ) → place + 1 ≤ at → place < at
before place at behind = omega (arith, behind)
