-- What a stop doesn't leave of all stores: less than a node's records, or those of another node.
use Rattle.urb_ahead_examples.proofs.Common.{AreShort, Content, Entry, IsOrStandsFor, Label}
use Rattle.urb_ahead_examples.proofs.Common.{LeavesAhead, List, MAX_PAYLOAD, MayLeave, Node, None}
use Rattle.urb_ahead_examples.proofs.Common.{Some, [], ap, append-nil, arith, empty_memory}
use Rattle.urb_ahead_examples.proofs.Common.{false≢true, has_pair-first, image_of, in_memory, inl}
use Rattle.urb_ahead_examples.proofs.Common.{inr, length, limits, message, name, opened, pend}
use Rattle.urb_ahead_examples.proofs.Common.{pending, refl, slice_get, started, subst, suc, sym}
use Rattle.urb_ahead_examples.proofs.Common.{true≢false, with_record, zero, ℕ, ⊎_elim, ◌++◌, ◌==◌}
use Rattle.urb_ahead_examples.proofs.Common.{◌∙◌, ◌∷◌, ◌≡◌, ◌≤◌}
use Rattle.urb_names.specs.LabelsAndContents.{Limits}
use Rattle.urb_stable.specs.Entries.{name_of}
use Rattle.urb_stable.specs.MemoryStores.{Memory}
use Rattle.urb_stable.specs.internal.MemoryCalls.{with_records}
use Rattle.urb_ahead_examples.proofs.worked.stores_ahead.stops_of_all_stores.Goals as goal

none-some : (r : Entry) (rs : List Entry) → [] ≡ r ∷ rs → ⊥
none-some r rs e = cc

first-same : (r s : Entry) (rs ss : List Entry) → r ∷ rs ≡ s ∷ ss → r ≡ s
first-same r s rs ss e = cc

other-first : (rs ss : List Entry) → pending 2 1 ∷ rs ≡ pending 1 1 ∷ ss → ⊥
other-first rs ss e =
    true≢false (ap (λ (r : Entry). (name_of r).sender == 2)
    (first-same (pending 2 1) (pending 1 1) rs ss e))

-- two records of node 1
abbrev two : List Entry
two = pending 1 1 ∷ pending 1 2 ∷ []

zero-short : 0 ≤ MAX_PAYLOAD
zero-short = omega (arith)

-- a pair with a short payload before others
one-more : (y : Label) (o : Content) (pairs : List (Label × Content))
    → length o.payload ≤ MAX_PAYLOAD → AreShort pairs → AreShort ((y, o) ∷ pairs)
one-more y o pairs h k x m e =
    ⊎_elim (λ f. subst (λ (v : Content). length v.payload ≤ MAX_PAYLOAD) f.1 h) (λ f. k x m f)
    (has_pair-first (y, o) pairs x m e)

short-none : AreShort []
short-none x m e = absurd (false≢true e)

short-one : (p : ℕ) → AreShort (pend (pending p 1 ∷ []))
short-one p = one-more (name p 1) (message 7 1 "") [] zero-short short-none

short-two : AreShort (pend two)
short-two =
    one-more (name 1 1) (message 7 1 "") ((name 1 2, message 7 2 "") ∷ []) zero-short
    (one-more (name 1 2) (message 7 2 "") [] zero-short short-none)

some-same : (s t : Memory) → Some s ≡ Some t → s ≡ t
some-same s t e = cc

no-some : (t : Memory) → None ≡ Some t → ⊥
no-some t e = cc

-- what a stop leaves of a store in memory of a node of four
abbrev Leaves : ℕ → Memory → Type 0
Leaves p store = LeavesAhead (in_memory (Unit {0})) (started (limits 4 10)) p store

one-of : Leaves 1 (with_record (pending 1 1) empty_memory)
one-of =
    inl record {
      is = refl;
      tail = pending 1 1 ∷ [];
      may = search;
      short = short-one 1;
      only = λ records e. inr e;
    }

two-of : Leaves 1 (with_records two empty_memory)
two-of =
    inl record { is = refl; tail = two; may = search; short = short-two; only = λ records e. inr e }

second-of : Leaves 2 (with_record (pending 2 1) empty_memory)
second-of =
    inl record {
      is = refl;
      tail = pending 2 1 ∷ [];
      may = search;
      short = short-one 2;
      only = λ records e. inr e;
    }

-- the only store, or one of two
of-one : (i : ℕ) (store : Memory)
    → slice_get (with_record (pending 1 1) empty_memory ∷ []) i ≡ Some store → Leaves (suc i) store
of-one zero store at =
    subst (λ (s : Memory). Leaves 1 s)
    (some-same (with_record (pending 1 1) empty_memory) store at) one-of
of-one (suc i) store at = absurd (no-some store at)

of-two : (i : ℕ) (store : Memory)
    → slice_get (with_records two empty_memory ∷ with_record (pending 2 1) empty_memory ∷ []) i
    ≡ Some store → Leaves (suc i) store
of-two zero store at =
    subst (λ (s : Memory). Leaves 1 s) (some-same (with_records two empty_memory) store at) two-of
of-two (suc zero) store at =
    subst (λ (s : Memory). Leaves 2 s)
    (some-same (with_record (pending 2 1) empty_memory) store at) second-of
of-two (suc (suc i)) store at = absurd (no-some store at)

-- a store whose list doesn't begin with the records of an opened group's node
module _ (size : Limits) (images : ℕ → List Entry) (p : ℕ) (image : List Entry)
    (not : (tail : List Entry) → image ≡ images p ++ tail → ⊥) where
  no-node : (node : Node) → IsOrStandsFor (opened size images) p node → MayLeave node image → ⊥
  no-node node (inl e) left =
      not [] (subst (λ (v : Node). MayLeave v image) e left ∙ sym (append-nil (images p)))
  no-node node (inr s) left =
      not s.tail (subst (λ (v : Node). MayLeave v image) s.opened left)

  not-left : LeavesAhead (in_memory (Unit {0})) (opened size images) p
      (with_records image empty_memory) → ⊥
  not-left (inl t) =
      ⊎_elim (λ e. not [] (e ∙ sym (append-nil (images p)))) (λ e. not t.tail e)
      (t.only image refl)
  not-left (inr (node, is, left)) = no-node node is (left.may image (left.only image refl))

fifth-node : (node : Node) → IsOrStandsFor (started (limits 4 10)) 5 node
    → MayLeave node (pending 5 1 ∷ []) → ⊥
fifth-node node (inl e) left =
    none-some (pending 5 1) [] (sym (subst (λ (v : Node). MayLeave v (pending 5 1 ∷ [])) e left))
fifth-node node (inr s) left = false≢true s.is

fifth : LeavesAhead (in_memory (Unit {0})) (started (limits 4 10)) 5
    (with_record (pending 5 1) empty_memory) → ⊥
fifth (inl t) = false≢true t.is
fifth (inr (node, is, left)) =
    fifth-node node is (left.may (pending 5 1 ∷ []) (left.only (pending 5 1 ∷ []) refl))

pub returns-clause-one_ahead_of_four : goal.returns-clause-one_ahead_of_four
returns-clause-one_ahead_of_four c i store at clean = of-one i store at

pub returns-clause-two_ahead_of_four : goal.returns-clause-two_ahead_of_four
returns-clause-two_ahead_of_four c i store at clean = of-two i store at

pub returns-clause-less_than_a_record_of_seven : goal.returns-clause-less_than_a_record_of_seven
returns-clause-less_than_a_record_of_seven c would =
    not-left (limits 7 10) (image_of ((pending 1 1 ∷ []) ∷ [])) 1 []
    (λ tail e. none-some (pending 1 1) tail e) (would 0 empty_memory refl tt)

pub returns-clause-exchanged_in_three : goal.returns-clause-exchanged_in_three
returns-clause-exchanged_in_three c would =
    not-left (limits 3 10) (image_of ((pending 1 1 ∷ []) ∷ (pending 2 1 ∷ []) ∷ [])) 1
    (pending 2 1 ∷ []) (λ tail e. other-first [] tail e)
    (would 0 (with_record (pending 2 1) empty_memory) refl tt)

pub returns-clause-a_fifth_of_four : goal.returns-clause-a_fifth_of_four
returns-clause-a_fifth_of_four c would =
    fifth (would 4 (with_record (pending 5 1) empty_memory) refl tt)
