-- Records and pairs: what an image says about pairs, record by record.
use Rattle.urb_node.proofs.Common.{Bool, Cert, Content, Entry, Label, List, None, Pend, PendCert}
use Rattle.urb_node.proofs.Common.{Some, [], acked, add-one, ap, cert, cert-append, counted_with}
use Rattle.urb_node.proofs.Common.{drop, false, has_name, has_pair, length, list_all}
use Rattle.urb_node.proofs.Common.{list_any-append, or_left, pend, refl, reverse, same_message}
use Rattle.urb_node.proofs.Common.{same_name, same_name-same, self_acks, slice_get, suc, sym, take}
use Rattle.urb_node.proofs.Common.{true, zero, ℕ, ◌&&◌, ◌++◌, ◌+◌, ◌<◌, ◌==◌, ◌||◌, ◌∙◌, ◌∷◌, ◌≡◌}
use Rattle.std.proofs.lemmas.List.{map-append, reverse-append, take-append-drop}
use Rattle.std.proofs.lemmas.List.Folds.{list_all-append}
use Rattle.urb_names.proofs.SameNames.{any_left, any_right}
use Rattle.urb_names.proofs.Places.{drop_get, get_some}
use Rattle.urb_node.proofs.ArrivalOutcomes.{counted-with}
use Rattle.urb_node.proofs.ShownNodes.{acked-with}

-- a pair is in the memory or in a doubtful record
pub pair_with : (pairs : List (Label × Content)) (r : Entry) (x : Label) (m : Content)
    → has_pair (pairs ++ pend (r ∷ [])) x m ≡ (has_pair pairs x m || has_pair (pend (r ∷ [])) x m)
pair_with pairs r x m =
    list_any-append (λ pair. same_name pair.0 x && same_message pair.1 m) pairs (pend (r ∷ []))

and_nothing : (a b : Bool) → ((a && true) && b) ≡ (a && b)
and_nothing true b = refl
and_nothing false b = refl

-- all pairs of an image pass if those of its first record and of the others pass
pub record_all : (test : Label × Content → Bool) (r : Entry) (image : List Entry)
    → list_all test (pend (r ∷ image))
    ≡ (list_all test (pend (r ∷ [])) && list_all test (pend image))
record_all test (Pend y o) image = sym (and_nothing (test (y, o)) _)
record_all test (PendCert y o) image = sym (and_nothing (test (y, o)) _)
record_all test (Cert y) image = refl

-- the same for the pairs of a memory and of a doubtful record
pub all_with : (test : Label × Content → Bool) (pairs : List (Label × Content)) (r : Entry)
    → list_all test (pairs ++ pend (r ∷ []))
    ≡ (list_all test pairs && list_all test (pend (r ∷ [])))
all_with test pairs r = list_all-append test pairs (pend (r ∷ []))

-- ---- whether all of a list pass, place by place

-- all elements from a place on pass if the one at that place and all behind it do
pub all_from : {X : Type 0} (test : X → Bool) (xs : List X) (i : ℕ) (x : X)
    → slice_get xs i ≡ Some x → list_all test (drop i xs)
    ≡ (test x && list_all test (drop (suc i) xs))
all_from test xs i x e = ap (list_all test) (drop_get xs i x e)

-- if those from a place on decide whether all pass, and the one there passes, those behind it
-- decide
pub one_more : {X : Type 0} (test : X → Bool) (xs : List X) (i : ℕ) (x : X)
    → slice_get xs i ≡ Some x → test x ≡ true → list_all test (drop i xs) ≡ list_all test xs
    → list_all test (drop (i + 1) xs) ≡ list_all test xs
one_more test xs i x e passes so_far =
    ap (λ j. list_all test (drop j xs)) (add-one i)
    ∙ sym (ap (λ b. b && list_all test (drop (suc i) xs)) passes)
    ∙ (sym (all_from test xs i x e) ∙ so_far)

-- if the element at a place fails, not all elements pass
pub one_not : {X : Type 0} (test : X → Bool) (xs : List X) (i : ℕ) (x : X) → slice_get xs i ≡ Some x
    → test x ≡ false → list_all test (drop i xs) ≡ list_all test xs → false ≡ list_all test xs
one_not test xs i x e fails so_far =
    sym (ap (λ b. b && list_all test (drop (suc i) xs)) fails)
    ∙ (sym (all_from test xs i x e) ∙ so_far)

-- every place within the length has an element
pub none_left : {X : Type 0} (test : X → Bool) (xs : List X) (i : ℕ) → i < length xs
    → slice_get xs i ≡ None → ⊥
none_left test xs i less e = let there = get_some xs i less in some_not there.0 (sym there.1 ∙ e)
  where
    some_not : {Y : Type 0} (y : Y) → Some y ≡ None → ⊥
    some_not y f = cc

-- ---- certificates

-- a record's certificate is among the image's
pub certified_at : (image : List Entry) (i : ℕ) (r : Entry) (x : Label) → slice_get image i ≡ Some r
    → cert (r ∷ []) ≡ x ∷ [] → has_name (cert image) x ≡ true
certified_at image i r x got one =
    ap (λ records. has_name (cert records) x) (sym (take-append-drop i image))
    ∙ (ap (λ names. has_name names x) (cert-append (take i image) (drop i image))
    ∙ any_right (λ y. same_name y x) (cert (take i image)) (cert (drop i image)) here)
  where
    here : has_name (cert (drop i image)) x ≡ true
    here =
        ap (λ records. has_name (cert records) x) (drop_get image i r got)
        ∙ (ap (λ names. has_name names x) (cert-append (r ∷ []) (drop (suc i) image))
        ∙ any_left (λ y. same_name y x) (cert (r ∷ [])) (cert (drop (suc i) image))
        (ap (λ names. has_name names x) one ∙ or_left (same_name x x) false (same_name-same x)))

-- the elements up to a place are those before it, followed by the one at it
pub take_get : {X : Type 0} (xs : List X) (i : ℕ) (x : X) → slice_get xs i ≡ Some x
    → take (suc i) xs ≡ take i xs ++ x ∷ []
take_get [] i x e = cc
take_get (y ∷ xs) zero x e = let f : y ≡ x = cc in ap (λ z. z ∷ []) f
take_get (y ∷ xs) (suc i) x e = ap (λ zs. y ∷ zs) (take_get xs i x e)

few : (r : Entry) → reverse (cert (r ∷ [])) ≡ cert (r ∷ [])
few (Pend x m) = refl
few (PendCert x m) = refl
few (Cert x) = refl

-- the certificates up to a record, newest first, are the record's, followed by those before it
pub certified_to : (image : List Entry) (i : ℕ) (r : Entry) → slice_get image i ≡ Some r
    → reverse (cert (take (i + 1) image)) ≡ cert (r ∷ []) ++ reverse (cert (take i image))
certified_to image i r got =
    ap (λ records. reverse (cert records))
    (ap (λ j. take j image) (add-one i) ∙ take_get image i r got)
    ∙ (ap reverse (cert-append (take i image) (r ∷ []))
    ∙ (reverse-append (cert (take i image)) (cert (r ∷ []))
    ∙ ap (λ names. names ++ reverse (cert (take i image))) (few r)))

-- ---- acknowledgements

-- one more pair adds one of the node's own acknowledgements
pub counted_more : (acks new : List (Label × ℕ)) (p : ℕ) (pairs : List (Label × Content)) (i : ℕ)
    (pair : Label × Content) (before : Label → ℕ → Bool) → slice_get pairs i ≡ Some pair
    → new ≡ counted_with acks pair.0 p
    → ((x : Label) (q : ℕ) → acked acks x q
    ≡ (acked (self_acks p (take i pairs)) x q || before x q)) → (x : Label) (q : ℕ)
    → acked new x q ≡ (acked (self_acks p (take (i + 1) pairs)) x q || before x q)
counted_more acks new p pairs i pair before got is so_far x q =
    ap (λ counted. acked counted x q) is
    ∙ (counted-with acks pair.0 p x q
    ∙ (acked-with acks pair.0 p x q
    ∙ (ap (λ b. (same_name pair.0 x && (p == q)) || b) (so_far x q)
    ∙ (turned (same_name pair.0 x && (p == q)) (acked (self_acks p (take i pairs)) x q) (before x q)
    ∙ ap (λ b. b || before x q) (sym last)))))
  where
    turned : (a b c : Bool) → (a || (b || c)) ≡ ((b || (a || false)) || c)
    turned true true c = refl
    turned true false c = refl
    turned false true c = refl
    turned false false c = refl

    last : acked (self_acks p (take (i + 1) pairs)) x q
        ≡ (acked (self_acks p (take i pairs)) x q || ((same_name pair.0 x && (p == q)) || false))
    last =
        ap (λ ps. acked (self_acks p ps) x q)
        (ap (λ j. take j pairs) (add-one i) ∙ take_get pairs i pair got)
        ∙ (ap (λ counted. acked counted x q)
        (map-append (λ (w : Label × Content). (w.0, p)) (take i pairs) (pair ∷ []))
        ∙ list_any-append (λ ack. same_name ack.0 x && (ack.1 == q)) (self_acks p (take i pairs))
        ((pair.0, p) ∷ []))
