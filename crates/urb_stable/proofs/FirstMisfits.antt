-- The first misfit of images, as a loop over nodes and records finds it.
use Rattle.urb_stable.proofs.Common.{Bool, Cert, Content, Entry, Label, Limits, List, Misfit, None}
use Rattle.urb_stable.proofs.Common.{Option, Pend, PendCert, Rule, Some, [], ap, arith, broken}
use Rattle.urb_stable.proofs.Common.{cert, cond, drop, drop-cons, false, filter, find, first_of_all}
use Rattle.urb_stable.proofs.Common.{flat_map, has_name, image_of, in_range, is_next_own, is_some}
use Rattle.urb_stable.proofs.Common.{keeps_a, keeps_b, length, map, message_of, misfits_behind}
use Rattle.urb_stable.proofs.Common.{name_of, not, numbers_from, option_map, option_or, own, pend}
use Rattle.urb_stable.proofs.Common.{refl, same_client, slice_get, slice_index_or, subst, suc}
use Rattle.urb_stable.proofs.Common.{suc-eq-add-one, sym, take, take-suc, true, zero, ℕ, ⊎_elim}
use Rattle.urb_stable.proofs.Common.{◌&&◌, ◌++◌, ◌+◌, ◌-◌, ◌<◌, ◌==◌, ◌∙◌, ◌∷◌, ◌≡◌, ◌≤◌, ◌⊎◌}
use Rattle.std.proofs.lemmas.List.{drop_all}
use Rattle.std.specs.Option.{SomeIff}
use Rattle.urb_names.specs.declared.refusal.Rule.TheVariants.{A, B, C, D}
use Rattle.urb_stable.specs.internal.EarlierRecords.{client_count}
use Rattle.urb_stable.specs.Fitting.{keeps}
use Rattle.urb_stable.specs.internal.BrokenRules.{first_broken}

-- ---- continuing a search

-- the search ends with what was found
pub found : {A : Type 0} (here first rest all : Option A) (x : A) → here ≡ option_or first rest
    → first ≡ Some x → here ≡ all → Some x ≡ all
found here first rest all x e f h = sym (ap (λ o. option_or o rest) f) ∙ (sym e ∙ h)

-- the search continues if nothing was found
pub passed : {A : Type 0} (here first rest all : Option A) → here ≡ option_or first rest
    → first ≡ None → here ≡ all → rest ≡ all
passed here first rest all e f h = sym (ap (λ o. option_or o rest) f) ∙ (sym e ∙ h)

-- the records from this place on
from_here : (records : List Entry) (i : ℕ) (r : Entry) → i < length records
    → r ≡ slice_index_or records i r → drop i records ≡ r ∷ drop (suc i) records
from_here records i r l e = drop-cons records i r l ∙ ap (λ x. x ∷ drop (suc i) records) (sym e)

-- ---- rule B

-- a pair of the node's own is in its turn if it is the next one
pub own-turn : (p : ℕ) (earlier : List Entry) (r : Entry) (x : Label) (m : Content) (b : Bool)
    → (r ≡ Pend x m) ⊎ (r ≡ PendCert x m) → false ≡ not (x.sender == p)
    → b ≡ is_next_own (own p (pend earlier)) x m
    → b ≡ keeps_b p earlier r
own-turn p earlier r x m b is mine e =
    e ∙ (at (x.sender == p) mine ∙ sym
    (⊎_elim (λ f. ap (keeps_b p earlier) f) (λ f. ap (keeps_b p earlier) f) is))
  where
    at : (c : Bool) → false ≡ not c
        → is_next_own (own p (pend earlier)) x m ≡ cond c
        (is_next_own (own p (pend earlier)) x m) true
    at true f = refl
    at false f = absurd (cc)

-- ---- rules

first-filtered : (f : Rule → Misfit) (test : Rule → Bool) (rules : List Rule)
    → first_of_all (map f (filter test rules)) ≡ option_map f (find test rules)
first-filtered f test [] = refl
first-filtered f test (rule ∷ rules) = at (first-filtered f test rules) (test rule)
  where
    at : first_of_all (map f (filter test rules)) ≡ option_map f (find test rules) → (b : Bool)
        → first_of_all (map f (cond b (rule ∷ filter test rules) (filter test rules)))
        ≡ option_map f (cond b (Some rule) (find test rules))
    at ih true = refl
    at ih false = ih

-- a record's first misfit is for the first rule that it breaks
pub broken-first : (size : Limits) (images : ℕ → List Entry) (p : ℕ) (earlier : List Entry)
    (r : Entry) (o : Option Rule) → o ≡ first_broken size images p earlier r
    → first_of_all (broken size images p earlier r) ≡ option_map
    (λ rule. record { rule = rule; node = p; name = name_of r }) o
broken-first size images p earlier r o e =
    first-filtered (λ rule. record { rule = rule; node = p; name = name_of r })
    (λ rule. not (keeps size images p earlier r rule)) (A ∷ B ∷ C ∷ D ∷ [])
    ∙ ap (λ found. option_map (λ rule. record { rule = rule; node = p; name = name_of r }) found)
    (sym e)

-- ---- misfits

first-append : (xs ys : List Misfit)
    → first_of_all (xs ++ ys) ≡ option_or (first_of_all xs) (first_of_all ys)
first-append [] ys = refl
first-append (x ∷ xs) ys = refl

-- the first misfit from a record on is that record's first, or else the first of the later records
pub record-step : (size : Limits) (images : ℕ → List Entry) (p : ℕ) (image : List Entry) (i : ℕ)
    (r : Entry) → i < length image → r ≡ slice_index_or image i r
    → first_of_all (misfits_behind size images p (take i image) (drop i image)) ≡ option_or
    (first_of_all (broken size images p (take i image) r))
    (first_of_all (misfits_behind size images p (take (i + 1) image) (drop (i + 1) image)))
record-step size images p image i r l e =
    ap (λ rs. first_of_all (misfits_behind size images p (take i image) rs))
    (from_here image i r l e)
    ∙ (first-append (broken size images p (take i image) r) _
    ∙ (ap (λ rs. option_or (first_of_all (broken size images p (take i image) r))
    (first_of_all (misfits_behind size images p rs (drop (suc i) image)))) (sym taken)
    ∙ ap (λ j. option_or (first_of_all (broken size images p (take i image) r))
    (first_of_all (misfits_behind size images p (take j image) (drop j image)))) (suc-eq-add-one i)))
  where
    taken : take (suc i) image ≡ take i image ++ r ∷ []
    taken = take-suc image i r l ∙ ap (λ x. take i image ++ x ∷ []) (sym e)

-- past the last record there is no misfit
pub record-none : (size : Limits) (images : ℕ → List Entry) (p : ℕ) (image : List Entry) (i : ℕ)
    → length image ≤ i
    → first_of_all (misfits_behind size images p (take i image) (drop i image)) ≡ None
record-none size images p image i l =
    ap (λ rs. first_of_all (misfits_behind size images p (take i image) rs)) (drop_all i image l)

-- the first misfit from a node on is that node's first, or else the first of the later nodes
pub node-step : (f : ℕ → List Misfit) (i n : ℕ) → i < n
    → first_of_all (flat_map f (numbers_from (suc i) (n - i))) ≡ option_or
    (first_of_all (f (suc i))) (first_of_all
    (flat_map f (numbers_from (suc (i + 1)) (n - (i + 1)))))
node-step f i n l =
    ap (λ k. first_of_all (flat_map f (numbers_from (suc i) k))) left
    ∙ (first-append (f (suc i)) (flat_map f (numbers_from (suc (suc i)) (n - (i + 1))))
    ∙ ap (λ j. option_or (first_of_all (f (suc i)))
    (first_of_all (flat_map f (numbers_from (suc j) (n - (i + 1)))))) (suc-eq-add-one i))
  where
    left : n - i ≡ suc (n - (i + 1))
    left = omega arith

-- past the last node there is no misfit
pub node-none : (f : ℕ → List Misfit) (i n : ℕ) → n ≤ i
    → first_of_all (flat_map f (numbers_from (suc i) (n - i))) ≡ None
node-none f i n l = ap (λ k. first_of_all (flat_map f (numbers_from (suc i) k))) left
  where
    left : n - i ≡ 0
    left = omega arith

-- the image of a node is at the node's place
pub image-at : {X : Type 0} (items : X → List Entry) (images : List X) (i : ℕ) (x : X)
    → slice_get images i ≡ Some x → slice_index_or (map items images) i [] ≡ items x
image-at items [] i x e = absurd (cc)
image-at items (image ∷ images) zero x e = ap items (first_is e)
  where
    first_is : Some image ≡ Some x → image ≡ x
    first_is f = cc
image-at items (image ∷ images) (suc i) x e = image-at items images i x e

-- a node's image is the one at its place in the list
pub image-of : {X : Type 0} (items : X → List Entry) (images : List X) (q i : ℕ) (x : X) → i ≡ q - 1
    → 0 < q → slice_get images i ≡ Some x → image_of (map items images) q ≡ items x
image-of items images zero i x e l f = absurd (omega arith)
image-of items images (suc q) i x e l f =
    let same : i ≡ q = omega arith in
    image-at items images q x (ap (λ j. slice_get images j) (sym same) ∙ f)

-- what the search finds in a node's image is what the definition says about the node
pub node-told : (size : Limits) (images : ℕ → List Entry) (i node : ℕ) (image : List Entry)
    (o : Option Misfit) → node ≡ i + 1 → image ≡ images (suc i)
    → o ≡ first_of_all (misfits_behind size images node [] image)
    → first_of_all (misfits_behind size images (suc i) [] (images (suc i))) ≡ o
node-told size images i node image o e f h =
    ap (λ k. first_of_all (misfits_behind size images k [] (images (suc i)))) (suc-eq-add-one i ∙ sym e)
    ∙ (ap (λ rs. first_of_all (misfits_behind size images node [] rs)) (sym f) ∙ sym h)

-- if a number was found for a node, the node is that number
pub node-is : (P : Type 0) (o : Option ℕ) (node number : ℕ) → SomeIff o P number → o ≡ Some node
    → node ≡ number
node-is P o node number h e = (subst (λ (r : Option ℕ). SomeIff r P number) e h).1

-- what is counted for a record with a message is how many messages come from its client
pub turn-clients : (r : Entry) (x : Label) (m : Content) (messages : List Content)
    → (r ≡ Pend x m) ⊎ (r ≡ PendCert x m) → same_client r messages ≡ client_count m.client messages
turn-clients r x m messages is =
    ⊎_elim (λ f. ap (λ s. same_client s messages) f) (λ f. ap (λ s. same_client s messages) f) is

-- a certificate for a pending name is new if the name is not certified yet
pub certificate-new : (size : Limits) (earlier : List Entry) (r : Entry) (x : Label)
    (certified : Bool) → r ≡ Cert x → true ≡ in_range size x
    → true ≡ is_some (message_of (pend earlier) x) → certified ≡ has_name (cert earlier) (name_of r)
    → not certified ≡ keeps_a size earlier r
certificate-new size earlier r x certified is range pending e =
    ap not (e ∙ ap (λ s. has_name (cert earlier) (name_of s)) is)
    ∙ (ap (λ b. b && not (has_name (cert earlier) x)) pending
    ∙ (ap (λ b. b && (is_some (message_of (pend earlier) x) && not (has_name (cert earlier) x)))
    range ∙ sym (ap (keeps_a size earlier) is)))
