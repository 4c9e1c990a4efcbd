-- The packets of a broadcast and of a tick carry the sender's pairs.
use Rattle.std.proofs.Common.{Bool, List, Option, Some, [], false, filter, flat_map, map, not, refl}
use Rattle.std.proofs.Common.{suc, take, true, zero, ℕ, ◌++◌, ◌∷◌, ◌≡◌}
use Rattle.std.proofs.lemmas.Bool.{cond_both}
use Rattle.std.specs.List.{AllByRecursion}
use Rattle.urb_names.proofs.OrderedPairs.{has_pair-behind, has_pair-head}
use Rattle.urb_names.specs.Acknowledgements.{acked}
use Rattle.urb_names.specs.CarriedPackets.{AreFrom, IsFrom, due_of, is_due, is_heard_of, others}
use Rattle.urb_names.specs.CarriedPackets.{packets_to, to_others, to_unheard}
use Rattle.urb_names.specs.CyclicOrder.{cyclic, inserted, is_after, resent, rising}
use Rattle.urb_names.specs.Names.{has_name, name_lt}
use Rattle.urb_names.specs.LabelsAndContents.{Content, Label}
use Rattle.urb_names.specs.Pairs.{has_pair}
use Rattle.urb_names.specs.declared.flags.Flags.{Flags}

-- ---- facts about each element

-- what holds for each element of two lists holds for each element of both together
pub all_append : {X : Type 0} (P : X → Type 0) (xs ys : List X) → AllByRecursion P xs
    → AllByRecursion P ys → AllByRecursion P (xs ++ ys)
all_append P [] ys h k = k
all_append P (x ∷ xs) ys h k = (h.0, all_append P xs ys h.1 k)

-- if something holds for each element of a list, whatever follows from it does too
pub all_weaker : {X : Type 0} (P Q : X → Type 0) (xs : List X) → ((x : X) → P x → Q x)
    → AllByRecursion P xs → AllByRecursion Q xs
all_weaker P Q [] f h = tt
all_weaker P Q (x ∷ xs) f h = (f x h.0, all_weaker P Q xs f h.1)

all_map : {X Y : Type 0} (P : Y → Type 0) (f : X → Y) (xs : List X) → ((x : X) → P (f x))
    → AllByRecursion P (map f xs)
all_map P f [] h = tt
all_map P f (x ∷ xs) h = (h x, all_map P f xs h)

-- what holds of all elements holds of those that pass a test
pub all_kept_filter : {X : Type 0} (P : X → Type 0) (test : X → Bool) (xs : List X)
    → AllByRecursion P xs → AllByRecursion P (filter test xs)
all_kept_filter P test [] h = tt
all_kept_filter P test (x ∷ xs) h =
    cond_both (test x) (x ∷ filter test xs) (filter test xs) (AllByRecursion P)
    (λ _. (h.0, all_kept_filter P test xs h.1)) (λ _. all_kept_filter P test xs h.1)

all_take : {X : Type 0} (P : X → Type 0) (n : ℕ) (xs : List X) → AllByRecursion P xs
    → AllByRecursion P (take n xs)
all_take P zero xs h = tt
all_take P (suc n) [] h = tt
all_take P (suc n) (x ∷ xs) h = (h.0, all_take P n xs h.1)

-- ---- pairs of a list

-- each pair of the second list is in the first list
abbrev pub AllIn : List (Label × Content) → List (Label × Content) → Type 0
AllIn all ps = AllByRecursion (λ pair. has_pair all pair.0 pair.1 ≡ true) ps

in_more : (p : Label × Content) (all ps : List (Label × Content)) → AllIn all ps
    → AllIn (p ∷ all) ps
in_more p all [] h = tt
in_more p all (q ∷ ps) h = (has_pair-behind p all q.0 q.1 h.0, in_more p all ps h.1)

-- each pair of a list is in that list
pub in_itself : (ps : List (Label × Content)) → AllIn ps ps
in_itself [] = tt
in_itself (p ∷ ps) = (has_pair-head p ps, in_more p ps ps (in_itself ps))

in_inserted : (all : List (Label × Content)) (p : Label × Content) (ps : List (Label × Content))
    → has_pair all p.0 p.1 ≡ true → AllIn all ps → AllIn all (inserted p ps)
in_inserted all p [] h k = (h, tt)
in_inserted all p (q ∷ ps) h k =
    cond_both (name_lt q.0 p.0) (q ∷ inserted p ps) (p ∷ q ∷ ps) (AllIn all)
    (λ _. (k.0, in_inserted all p ps h k.1)) (λ _. (h, (k.0, k.1)))

-- if each pair of a list is in a second one, so is each pair of the sorted list
pub in_rising : (all ps : List (Label × Content)) → AllIn all ps → AllIn all (rising ps)
in_rising all [] h = tt
in_rising all (p ∷ ps) h = in_inserted all p (rising ps) h.0 (in_rising all ps h.1)

-- if each pair of a list is in a second one, so is each pair of it that a tick resends
pub in_resent : (all : List (Label × Content)) (cursor : Option Label) (ps : List (Label × Content))
    → AllIn all ps → AllIn all (resent cursor ps)
in_resent all cursor ps h =
    all_take _ 16 (cyclic cursor ps)
    (all_append _ (filter (λ pair. is_after cursor pair.0) ps)
    (filter (λ pair. not (is_after cursor pair.0)) ps)
    (all_kept_filter _ (λ pair. is_after cursor pair.0) ps h)
    (all_kept_filter _ (λ pair. not (is_after cursor pair.0)) ps h))

-- if each pair of a list is in a second one, so is each pair of it that is due
pub in_due : (all : List (Label × Content)) (n p : ℕ) (heard : List (Label × ℕ))
    (ps : List (Label × Content)) → AllIn all ps → AllIn all (due_of n p heard ps)
in_due all n p heard ps h = all_kept_filter _ (λ pair. is_due n p heard pair.0) ps h

-- ---- packets

-- the packets of a node's pair are from that node, if their flags claim a certificate only when
-- there is one
pub packets_to-from : (p : ℕ) (flags : ℕ → Flags) (targets : List ℕ)
    (pairs : List (Label × Content)) (certified : List Label) (pair : Label × Content) →
    has_pair pairs pair.0 pair.1 ≡ true
    → ((q : ℕ) → (flags q).certified ≡ true → has_name certified pair.0 ≡ true)
    → AreFrom p pairs certified (packets_to p flags targets pair)
packets_to-from p flags targets pairs certified pair h k =
    all_map (IsFrom p pairs certified)
    (λ q. record {
      source = p;
      target = q;
      name = pair.0;
      message = pair.1;
      flags =
          Some (flags q);
    }) targets
    (λ q. record { source = refl; pair = h; certificate = k q })

-- the packets of a stored pair to the other nodes are from the node that stored it
pub to_others-from : (n p : ℕ) (pairs : List (Label × Content)) (certified : List Label)
    (is_certified : Bool) (heard : Option ℕ) (pair : Label × Content) →
    has_pair pairs pair.0 pair.1 ≡ true → (is_certified ≡ true → has_name certified pair.0 ≡ true)
    → AreFrom p pairs certified (to_others n p is_certified heard pair)
to_others-from n p pairs certified is_certified heard pair h k =
    packets_to-from p (λ q. record { certified = is_certified; heard = is_heard_of heard q })
    (others n p) pairs certified pair h (λ q. k)

-- the packets of a node's pair to the nodes that it hasn't heard are from that node
pub to_unheard-from : (n p : ℕ) (pairs : List (Label × Content)) (certified : List Label)
    (heard : List (Label × ℕ)) (pair : Label × Content) →
    has_pair pairs pair.0 pair.1 ≡ true
    → AreFrom p pairs certified (to_unheard n p certified heard pair)
to_unheard-from n p pairs certified heard pair h =
    packets_to-from p (λ q. record { certified = has_name certified pair.0; heard = false })
    (filter (λ q. not (acked heard pair.0 q)) (others n p)) pairs certified pair h (λ q k. k)

-- the packets of several of a node's pairs to nodes that it hasn't heard are from that node
pub all-from : (n p : ℕ) (pairs : List (Label × Content)) (certified : List Label)
    (heard : List (Label × ℕ)) (ps : List (Label × Content)) →
    AllIn pairs ps → AreFrom p pairs certified (flat_map (to_unheard n p certified heard) ps)
all-from n p pairs certified heard [] h = tt
all-from n p pairs certified heard (pair ∷ ps) h =
    all_append (IsFrom p pairs certified) (to_unheard n p certified heard pair)
    (flat_map (to_unheard n p certified heard) ps)
    (to_unheard-from n p pairs certified heard pair h.0) (all-from n p pairs certified heard ps h.1)

-- the packets of a tick are from the node that ticks: they carry its pairs and its certificates
pub resent-from : (n p : ℕ) (cursor : Option Label) (pairs : List (Label × Content))
    (certified : List Label) (heard : List (Label × ℕ)) →
    AreFrom p pairs certified (flat_map (to_unheard n p certified heard)
    (resent cursor (due_of n p heard pairs)))
resent-from n p cursor pairs certified heard =
    all-from n p pairs certified heard (resent cursor (due_of n p heard pairs))
    (in_resent pairs cursor (due_of n p heard pairs)
    (in_due pairs n p heard pairs (in_itself pairs)))
