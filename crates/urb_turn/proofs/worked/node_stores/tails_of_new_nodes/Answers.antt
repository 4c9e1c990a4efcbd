-- Which records a store may hold ahead of a new node, or of one that has stored a pair.
use Rattle.urb_turn.proofs.Common.{Entry, List, None, Option, Some, [], ap, arith, empty_memory}
use Rattle.urb_turn.proofs.Common.{false≢true, four, inl, inr, length, limits, map, name, pending}
use Rattle.urb_turn.proofs.Common.{refl, replicate, subst, suc, sym, zero, ℕ, ⊎_elim, ◌∷◌, ◌≡◌, ◌≤◌}
use Rattle.urb_turn.proofs.Common.{◌⊎◌}
use Rattle.urb_names.proofs.OrderedPairs.{has_pair-first, has_pair-head}
use Rattle.urb_names.specs.LabelsAndContents.{Content}
use Rattle.urb_names.specs.declared.limits.TheConstants.{MAX_PAYLOAD}
use Rattle.urb_stable.specs.Entries.{name_of}
use Rattle.urb_stable.specs.Records.{pend}
use Rattle.urb_stable.specs.declared.record.Record.TheVariants.{Pend}
use Rattle.urb_turn.specs.NodeStores.{MayHaveTail}
use Rattle.urb_turn.specs.internal.TurnExamples.{ahead_of}
use Rattle.urb_world.specs.RunInvariant.{AreShort}
use Rattle.urb_world.specs.StoresAhead.{MayFollow}
use Rattle.urb_world.specs.World.{stored}
use Rattle.urb_world.specs.internal.Examples.{filled}
use Rattle.urb_world.specs.internal.Scripts.{message}
use Rattle.urb_turn.proofs.worked.node_stores.tails_of_new_nodes.Goals as goal

some-none : {A : Type 0} (x : A) (xs : List A) → x ∷ xs ≡ [] → ⊥
some-none x xs e = cc

in-doubt : (r : Entry) → ◌≡◌ {A = Option Entry} (Some r) None → ⊥
in-doubt r e = cc

-- pairs of node 1 have no payload
pending-short : (numbers : List ℕ) → AreShort (pend (map (pending 1) numbers))
pending-short [] x m e = absurd (false≢true e)
pending-short (number ∷ numbers) x m e =
    ⊎_elim
    (λ f. subst (λ (v : Content). length v.payload ≤ MAX_PAYLOAD) f.1 (omega arith))
    (λ f. pending-short numbers x m f)
    (has_pair-first (name 1 number, message 7 number "") (pend (map (pending 1) numbers)) x m e)

-- the first two pairs of node 1 may follow nothing
may-both : MayFollow (limits 4 10) (stored four) 1 [] (pending 1 1 ∷ pending 1 2 ∷ [])
may-both = (
  record { a = refl; b = refl; c = refl; d = refl },
  (record { a = refl; b = refl; c = refl; d = refl }, tt),
)

-- the third pair can't follow the first
no-third : (tail : List Entry) → pending 1 1 ∷ pending 1 3 ∷ [] ≡ tail
    → MayFollow (limits 4 10) (stored four) 1 [] tail → ⊥
no-third tail e may =
    false≢true (subst (λ (t : List Entry). MayFollow (limits 4 10) (stored four) 1 [] t) (sym e)
    may).1.0.b

-- nor the second pair nothing
no-second : (tail : List Entry) → pending 1 2 ∷ [] ≡ tail
    → MayFollow (limits 4 10) (stored four) 1 [] tail → ⊥
no-second tail e may =
    false≢true (subst (λ (t : List Entry). MayFollow (limits 4 10) (stored four) 1 [] t) (sym e)
    may).0.b

-- the number in the name of the first record
abbrev first-number : List Entry → ℕ
first-number [] = 0
first-number (r ∷ records) = (name_of r).seq

-- the second pair isn't the first of any records that begin with the first pair
no-other : (tail : List Entry) → pending 1 2 ∷ [] ≡ pending 1 1 ∷ tail → ⊥
no-other tail e = let two_is_one : 2 ≡ 1 = ap first-number e in absurd (omega (arith, two_is_one))

-- so an empty store doesn't hold the second pair ahead
no-gap : MayHaveTail (ahead_of [] (pending 1 2 ∷ [])) four 1 empty_memory → ⊥
no-gap (inl none) = some-none (pending 1 2) [] none
no-gap (inr h) = no-second h.tail h.all h.may

count-replicated : (count : ℕ) (byte : ℕ) → length (replicate count byte) ≡ count
count-replicated zero byte = refl
count-replicated (suc count) byte = ap suc (count-replicated count byte)

-- a message whose payload is too long by a byte
abbrev long : Content
long = filled 7 1 (suc MAX_PAYLOAD)

-- no tail is short that has it
too-long : (tail : List Entry) → Pend (name 1 1) long ∷ [] ≡ tail → AreShort (pend tail) → ⊥
too-long tail e short =
    let count : suc MAX_PAYLOAD ≤ MAX_PAYLOAD =
    subst (λ (count : ℕ). count ≤ MAX_PAYLOAD) (count-replicated (suc MAX_PAYLOAD) 120)
    (subst (λ (records : List Entry). AreShort (pend records)) (sym e) short (name 1 1) long
    (has_pair-head (name 1 1, long) [])) in
    absurd (omega (arith, count))

pub returns-clause-two_records : goal.returns-clause-two_records
returns-clause-two_records c = record {
  tail = pending 1 1 ∷ pending 1 2 ∷ [];
  all = refl;
  may = may-both;
  short = pending-short (1 ∷ 2 ∷ []);
  based = λ honest. refl;
  sure = inl refl;
}

pub returns-clause-the_second_of_two : goal.returns-clause-the_second_of_two
returns-clause-the_second_of_two c = record {
  tail = pending 1 1 ∷ pending 1 2 ∷ [];
  all = refl;
  may = may-both;
  short = pending-short (1 ∷ 2 ∷ []);
  based = λ honest. refl;
  sure = inl refl;
}

pub returns-clause-a_gap : goal.returns-clause-a_gap
returns-clause-a_gap c h = no-third h.tail h.all h.may

pub returns-clause-behind_a_lost_record : goal.returns-clause-behind_a_lost_record
returns-clause-behind_a_lost_record c h = no-other h.tail h.all

pub returns-clause-behind_a_record_that_is_not_certain :
    goal.returns-clause-behind_a_record_that_is_not_certain
returns-clause-behind_a_record_that_is_not_certain c h = some-none (pending 1 1) [] (h.based tt)

pub returns-clause-behind_a_doubtful_record : goal.returns-clause-behind_a_doubtful_record
returns-clause-behind_a_doubtful_record c h = at h.sure
  where
    at : (◌≡◌ {A = Option Entry} (Some (pending 1 1)) None) ⊎ ⊥ → ⊥
    at (inl e) = in-doubt (pending 1 1) e
    at (inr shut) = shut

pub returns-clause-none : goal.returns-clause-none
returns-clause-none c = inl refl

pub returns-clause-not_a_gap : goal.returns-clause-not_a_gap
returns-clause-not_a_gap c h = no-gap h

pub returns-clause-a_gap_at_a_store_that_lies : goal.returns-clause-a_gap_at_a_store_that_lies
returns-clause-a_gap_at_a_store_that_lies c lied = absurd lied

pub returns-clause-no_gap_at_a_clean_store : goal.returns-clause-no_gap_at_a_clean_store
returns-clause-no_gap_at_a_clean_store c h = no-gap (h tt)

pub returns-clause-a_long_payload : goal.returns-clause-a_long_payload
returns-clause-a_long_payload c h = too-long h.tail h.all h.short
