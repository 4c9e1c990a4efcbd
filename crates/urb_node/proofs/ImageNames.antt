-- Certified names and logs: what an image says about them, given what its certificates release.
use Rattle.urb_node.proofs.Common.{Bool, Content, Delivery, Entry, IsDelivery, IsReleaseOf, Label}
use Rattle.urb_node.proofs.Common.{List, [], and_from, and_parts, ap, ap₂, both_ways, cert, false}
use Rattle.urb_node.proofs.Common.{false≢true, has_name, has_pair, is_rising, list_all, log, map}
use Rattle.urb_node.proofs.Common.{name_lt, refl, reverse, same_list, same_message, same_name}
use Rattle.urb_node.proofs.Common.{same_name-same, same_name-true, same_names, subst, sym, true}
use Rattle.urb_node.proofs.Common.{◌&&◌, ◌||◌, ◌∙◌, ◌∷◌, ◌≡◌}
use Rattle.std.specs.Bool.{Decides}
use Rattle.urb_names.proofs.OrderedPairs.{rises-same, rising-rises}
use Rattle.urb_names.proofs.CertificateReaches.{reversed-back, reversed-same}
use Rattle.urb_node.proofs.ShownNodes.{all_named, from_named}
use Rattle.urb_node.proofs.HoldableDrafts.{paired_rising}

-- ---- lists of names

same_list-true : (xs ys : List Label) → same_list xs ys ≡ true → xs ≡ ys
same_list-true [] [] h = refl
same_list-true [] (y ∷ ys) h = absurd (false≢true h)
same_list-true (x ∷ xs) [] h = absurd (false≢true h)
same_list-true (x ∷ xs) (y ∷ ys) h =
    let parts = and_parts (same_name x y) (same_list xs ys) h in
    ap₂ (λ z zs. z ∷ zs) (same_name-true x y parts.0) (same_list-true xs ys parts.1)

-- each list of names is the same as itself
pub same_list-same : (xs : List Label) → same_list xs xs ≡ true
same_list-same [] = refl
same_list-same (x ∷ xs) =
    and_from (same_name x x) (same_list xs xs) (same_name-same x) (same_list-same xs)

-- ---- rising lists of the same names

abbrev nothing : Content
nothing = record { client = 0; number = 0; payload = [] }

either : (a b c : Bool) → ((a && c) || (b && c)) ≡ ((a || b) && c)
either true true true = refl
either true true false = refl
either true false true = refl
either true false false = refl
either false b c = refl

abbrev paired : List Label → List (Label × Content)
paired xs = map (λ x. (x, nothing)) xs

paired_has : (xs : List Label) (x : Label) (m : Content)
    → has_pair (paired xs) x m ≡ (has_name xs x && same_message nothing m)
paired_has [] x m = refl
paired_has (y ∷ xs) x m =
    ap (λ b. (same_name y x && same_message nothing m) || b) (paired_has xs x m)
    ∙ either (same_name y x) (has_name xs x) (same_message nothing m)

unpaired : (xs : List Label) → map (λ (pair : Label × Content). pair.0) (paired xs) ≡ xs
unpaired [] = refl
unpaired (x ∷ xs) = ap (λ zs. x ∷ zs) (unpaired xs)

-- two rising lists with the same names are the same list
rising_same : (xs ys : List Label) → is_rising name_lt xs ≡ true → is_rising name_lt ys ≡ true
    → ((x : Label) → has_name xs x ≡ has_name ys x) → xs ≡ ys
rising_same xs ys up down h =
    sym (unpaired xs)
    ∙ (ap (map (λ (pair : Label × Content). pair.0))
    (rises-same (paired xs) (paired ys) (rising-rises (paired xs) (paired_rising nothing xs up))
    (rising-rises (paired ys) (paired_rising nothing ys down)) each)
    ∙ unpaired ys)
  where
    each : (x : Label) (m : Content) → has_pair (paired xs) x m ≡ has_pair (paired ys) x m
    each x m =
        paired_has xs x m ∙ (ap (λ b. b && same_message nothing m) (h x) ∙ sym (paired_has ys x m))

-- ---- what is certified and delivered

-- the release of an image's certificates decides whether the image has the same certified names and
-- log
pub names_judged : (image : List Entry) (its other : Delivery) (r : Bool) → IsDelivery its
    → IsDelivery other → IsReleaseOf (reverse (cert image)) its
    → Decides r ((its.certified ≡ other.certified) × (its.log ≡ other.log))
    → r ≡ (same_names (cert image) other.certified && same_list (log image) other.log)
names_judged image its other r kept held rel decides =
    both_ways r (same_names (cert image) other.certified && same_list (log image) other.log) to from
  where
    member : (x : Label) → has_name its.certified x ≡ has_name (cert image) x
    member x =
        rel.certified x ∙ both_ways (has_name (reverse (cert image)) x) (has_name (cert image) x)
        (reversed-same (cert image) x) (reversed-back (cert image) x)

    to : r ≡ true → (same_names (cert image) other.certified && same_list (log image) other.log)
        ≡ true
    to e =
        let same = decides.0 e in
        let names : (x : Label) → has_name (cert image) x ≡ has_name other.certified x =
        λ x. sym (member x) ∙ ap (λ xs. has_name xs x) same.0 in
        and_from (same_names (cert image) other.certified) _
        (and_from (list_all (has_name other.certified) (cert image)) _
        (from_named (cert image) other.certified (λ x k. sym (names x) ∙ k))
        (from_named other.certified (cert image) (λ x k. names x ∙ k)))
        (subst (λ (xs : List Label). same_list (log image) xs ≡ true) (sym rel.log ∙ same.1)
        (same_list-same (log image)))

    from : (same_names (cert image) other.certified && same_list (log image) other.log) ≡ true
        → r ≡ true
    from e =
        let parts =
        and_parts (same_names (cert image) other.certified)
        (same_list (log image) other.log) e in
        let all =
        and_parts (list_all (has_name other.certified) (cert image))
        (list_all (has_name (cert image)) other.certified) parts.0 in
        decides.1 (
          rising_same its.certified other.certified kept.order held.order
              (λ x. member x ∙ both_ways (has_name (cert image) x) (has_name other.certified x)
              (all_named (cert image) other.certified all.0 x)
              (all_named other.certified (cert image) all.1 x)),
          rel.log ∙ same_list-true (log image) other.log parts.1,
        )

-- the parts of what an image says
pub parts_tell : (a b c d n : Bool) → n ≡ (b && c) → ((a && n) && d) ≡ (a && (b && (c && d)))
parts_tell true true c d n e = ap (λ m. m && d) e
parts_tell true false c d n e = ap (λ m. m && d) e
parts_tell false b c d n e = refl
