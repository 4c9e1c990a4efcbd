-- What a node's memory says about the node that it shows.
use Rattle.urb_node.proofs.Common.{Bool, Content, Entry, Label, Limits, List, Node, NodeView}
use Rattle.urb_node.proofs.Common.{ShowsNode, Some, [], acked, and_from, and_parts, ap, ap₂}
use Rattle.urb_node.proofs.Common.{are_rising, both_ways, cert, cond, eqb-true, false, false≢true}
use Rattle.urb_node.proofs.Common.{fun_ext, has_name, has_pair, has_pair-found, has_pair-head}
use Rattle.urb_node.proofs.Common.{is_some, length, list_all, log, majority_passes, message_of}
use Rattle.urb_node.proofs.Common.{or_cases, or_left, or_right, own, own_acks, pend, refl}
use Rattle.urb_node.proofs.Common.{same_list, same_message, same_name, same_name-same}
use Rattle.urb_node.proofs.Common.{same_name-true, same_names, same_pairs, says, self_acks, subst}
use Rattle.urb_node.proofs.Common.{sym, tells, true, with_ack, ℕ, ⊎_elim, ◌&&◌, ◌==◌, ◌||◌}
use Rattle.urb_node.proofs.Common.{◌∙◌, ◌∷◌, ◌≡◌}
use Rattle.urb_names.proofs.FoundPairs.{Unique, same_found}
use Rattle.urb_names.proofs.OrderedPairs.{has_pair-behind, has_pair-first}
use Rattle.urb_names.specs.CyclicOrder.{rising}
use Rattle.urb_stable.proofs.OwnRules.{own-unique}
use Rattle.urb_stable.proofs.RisingRecords.{own-records, rising-records}

-- ---- pairs

found-some : (ps : List (Label × Content)) (x : Label) (m : Content) → has_pair ps x m ≡ true
    → (o : Content) × (message_of ps x ≡ Some o)
found-some [] x m h = absurd (false≢true h)
found-some (p ∷ ps) x m h = at (found-some ps x m) (same_name p.0 x) h
  where
    at : (has_pair ps x m ≡ true → (o : Content) × (message_of ps x ≡ Some o)) → (b : Bool)
        → ((b && same_message p.1 m) || has_pair ps x m) ≡ true
        → (o : Content) × (cond b (Some p.1) (message_of ps x) ≡ Some o)
    at ih true h = (p.1, refl)
    at ih false h = ih h

-- a list has one message per name if it has the same pairs as such a list
pub unique-same : (ps qs : List (Label × Content))
    → ((x : Label) (m : Content) → has_pair ps x m ≡ has_pair qs x m) → Unique qs → Unique ps
unique-same ps qs same u x m h =
    let f = found-some ps x m h in
    let e : Some m ≡ Some f.0 =
    sym (u x m (sym (same x m) ∙ h))
    ∙ u x f.0 (sym (same x f.0) ∙ has_pair-found ps x f.0 f.1) in
    f.1 ∙ sym e

-- a memory that shows a node has one message for each name
pub shown-unique : (size : Limits) (p : ℕ) (view : NodeView) (node : Node)
    → ShowsNode size p view node → Unique view.pairs
shown-unique size p view node s =
    unique-same view.pairs (pend node.records) s.pairs (own-unique size p node.records s.rules)

-- the records have what the memory finds under a name
pub shown-found : (size : Limits) (p : ℕ) (view : NodeView) (node : Node)
    → ShowsNode size p view node → (x : Label)
    → message_of view.pairs x ≡ message_of (pend node.records) x
shown-found size p view node s =
    same_found view.pairs (pend node.records) s.pairs (shown-unique size p view node s)
    (own-unique size p node.records s.rules)

-- the pairs of a memory that keeps them in order are those of the records, sorted
pub shown-rising : (size : Limits) (p : ℕ) (view : NodeView) (node : Node)
    → ShowsNode size p view node → are_rising view.pairs ≡ true
    → rising (pend node.records) ≡ view.pairs
shown-rising size p view node s r = rising-records size p node.records view.pairs s.rules r s.pairs

-- the node's own messages among these pairs are what it has broadcast
pub shown-broadcast : (size : Limits) (p : ℕ) (view : NodeView) (node : Node)
    → ShowsNode size p view node → are_rising view.pairs ≡ true → node.broadcast ≡ own p view.pairs
shown-broadcast size p view node s r =
    s.broadcast ∙ sym (own-records size p node.records view.pairs s.rules r s.pairs)

-- ---- acknowledgements

-- after one more acknowledgement, that one is counted, and those counted before are
pub acked-with : (acks : List (Label × ℕ)) (y : Label) (z : ℕ) (x : Label) (q : ℕ)
    → acked (with_ack acks y z) x q ≡ ((same_name y x && (z == q)) || acked acks x q)
acked-with acks y z x q = at (acked acks y z) refl (same_name y x) refl (z == q) refl
  where
    at : (b : Bool) → acked acks y z ≡ b → (c : Bool) → same_name y x ≡ c → (d : Bool)
        → (z == q) ≡ d → acked (cond b acks ((y, z) ∷ acks)) x q
        ≡ ((same_name y x && (z == q)) || acked acks x q)
    at false e c f d g = refl
    at true e true f true g =
        (subst (λ (w : Label). acked acks w q ≡ true) (same_name-true y x f)
        (subst (λ (i : ℕ). acked acks y i ≡ true) (eqb-true z q g) e))
        ∙ sym (ap₂ (λ s t. (s && t) || acked acks x q) f g)
    at true e true f false g = sym (ap₂ (λ s t. (s && t) || acked acks x q) f g)
    at true e false f d g = sym (ap (λ s. (s && (z == q)) || acked acks x q) f)

-- the result doesn't depend on the order of the list
pub with-same : (a b : List (Label × ℕ)) (y : Label) (z : ℕ) (x : Label) (q : ℕ)
    → acked a x q ≡ acked b x q → acked (with_ack a y z) x q ≡ acked (with_ack b y z) x q
with-same a b y z x q e =
    acked-with a y z x q ∙ (ap (λ c. (same_name y x && (z == q)) || c) e
    ∙ sym (acked-with b y z x q))

-- the memory decides whether a node's acknowledgement completes a majority for a name
pub shown-majority : (size : Limits) (p : ℕ) (view : NodeView) (node : Node)
    → ShowsNode size p view node → (x : Label) (q : ℕ) → has_name view.certified x ≡ false
    → majority_passes size.n (acked (with_ack view.acks x q) x) ≡ majority_passes size.n
    (acked (with_ack node.acks x q) x)
shown-majority size p view node s x q c =
    ap (majority_passes size.n) (fun_ext
    (λ z. with-same view.acks node.acks x q x z (s.acks x z (sym (s.certified x) ∙ c))))

-- a node's own acknowledgements are those of its pending names
pub acked-self : (p : ℕ) (ps : List (Label × Content)) (x : Label) (q : ℕ)
    → acked (self_acks p ps) x q ≡ (is_some (message_of ps x) && (p == q))
acked-self p [] x q = refl
acked-self p (pair ∷ ps) x q = at (acked-self p ps x q) (same_name pair.0 x)
  where
    both : (a b c : Bool) → c ≡ (b && a) → (a || c) ≡ a
    both true b c h = refl
    both false true c h = h
    both false false c h = h

    at : acked (self_acks p ps) x q ≡ (is_some (message_of ps x) && (p == q)) → (b : Bool)
        → ((b && (p == q)) || acked (self_acks p ps) x q)
        ≡ (is_some (cond b (Some pair.1) (message_of ps x)) && (p == q))
    at ih true = both (p == q) (is_some (message_of ps x)) (acked (self_acks p ps) x q) ih
    at ih false = ih

-- a node that comes up counts itself for the pairs in its memory
pub shown-self : (size : Limits) (p : ℕ) (view : NodeView) (node : Node)
    → ShowsNode size p view node → (x : Label) (q : ℕ)
    → acked (self_acks p view.pairs) x q ≡ acked (own_acks p node.records) x q
shown-self size p view node s x q =
    acked-self p view.pairs x q ∙ (ap (λ o. is_some o && (p == q))
    (shown-found size p view node s x) ∙ sym (acked-self p (pend node.records) x q))

-- ---- images

all_in : (ps qs : List (Label × Content)) → list_all (λ pair. has_pair qs pair.0 pair.1) ps ≡ true
    → (x : Label) (m : Content) → has_pair ps x m ≡ true → has_pair qs x m ≡ true
all_in [] qs h x m k = absurd (false≢true k)
all_in (p ∷ ps) qs h x m k =
    let parts =
    and_parts (has_pair qs p.0 p.1) (list_all (λ pair. has_pair qs pair.0 pair.1) ps) h in
    ⊎_elim (λ e. subst (λ (y : Label). has_pair qs y m ≡ true) e.0
    (subst (λ (o : Content). has_pair qs p.0 o ≡ true) e.1 parts.0))
    (λ e. all_in ps qs parts.1 x m e) (has_pair-first p ps x m k)

from_in : (ps qs : List (Label × Content))
    → ((x : Label) (m : Content) → has_pair ps x m ≡ true → has_pair qs x m ≡ true)
    → list_all (λ pair. has_pair qs pair.0 pair.1) ps ≡ true
from_in [] qs h = refl
from_in (p ∷ ps) qs h =
    and_from (has_pair qs p.0 p.1) _ (h p.0 p.1 (has_pair-head p ps))
    (from_in ps qs (λ x m k. h x m (has_pair-behind p ps x m k)))

-- whether a list has the same pairs as another depends only on which pairs that one has
pub pairs-told : (xs ps qs : List (Label × Content))
    → ((x : Label) (m : Content) → has_pair ps x m ≡ has_pair qs x m)
    → same_pairs xs ps ≡ same_pairs xs qs
pairs-told xs ps qs h =
    both_ways (same_pairs xs ps) (same_pairs xs qs) (λ e. to ps qs h e)
    (λ e. to qs ps (λ x m. sym (h x m)) e)
  where
    to : (ps qs : List (Label × Content))
        → ((x : Label) (m : Content) → has_pair ps x m ≡ has_pair qs x m) → same_pairs xs ps ≡ true
        → same_pairs xs qs ≡ true
    to ps qs h e =
        let parts =
        and_parts (list_all (λ pair. has_pair ps pair.0 pair.1) xs)
        (list_all (λ pair. has_pair xs pair.0 pair.1) ps) e in
        and_from (list_all (λ pair. has_pair qs pair.0 pair.1) xs) _
        (from_in xs qs (λ x m k. sym (h x m) ∙ all_in xs ps parts.0 x m k))
        (from_in qs xs (λ x m k. all_in ps xs parts.1 x m (h x m ∙ k)))

-- if all names of one list are in another by the test, each of them is
pub all_named : (xs ys : List Label) → list_all (has_name ys) xs ≡ true → (x : Label)
    → has_name xs x ≡ true → has_name ys x ≡ true
all_named [] ys h x k = absurd (false≢true k)
all_named (y ∷ xs) ys h x k =
    let parts = and_parts (has_name ys y) (list_all (has_name ys) xs) h in
    ⊎_elim (λ e. subst (λ (z : Label). has_name ys z ≡ true) (same_name-true y x e) parts.0)
    (λ e. all_named xs ys parts.1 x e) (or_cases (same_name y x) (has_name xs x) k)

-- if each name of one list is in another, all of them are by the test
pub from_named : (xs ys : List Label) → ((x : Label) → has_name xs x ≡ true → has_name ys x ≡ true)
    → list_all (has_name ys) xs ≡ true
from_named [] ys h = refl
from_named (x ∷ xs) ys h =
    and_from (has_name ys x) _ (h x (or_left (same_name x x) _ (same_name-same x)))
    (from_named xs ys (λ y k. h y (or_right (same_name x y) _ k)))

names-told : (zs xs ys : List Label) → ((x : Label) → has_name xs x ≡ has_name ys x)
    → same_names zs xs ≡ same_names zs ys
names-told zs xs ys h =
    both_ways (same_names zs xs) (same_names zs ys) (λ e. to xs ys h e)
    (λ e. to ys xs (λ x. sym (h x)) e)
  where
    to : (xs ys : List Label) → ((x : Label) → has_name xs x ≡ has_name ys x)
        → same_names zs xs ≡ true → same_names zs ys ≡ true
    to xs ys h e =
        let parts = and_parts (list_all (has_name xs) zs) (list_all (has_name zs) xs) e in
        and_from (list_all (has_name ys) zs) _
        (from_named zs ys (λ x k. sym (h x) ∙ all_named zs xs parts.0 x k))
        (from_named ys zs (λ x k. all_named xs zs parts.1 x (h x ∙ k)))

-- the memory decides whether an image says what is stored
pub shown-told : (size : Limits) (p : ℕ) (view : NodeView) (node : Node)
    → ShowsNode size p view node → (image : List Entry)
    → tells image view.pairs view.certified view.log view.count ≡ says image node.records
shown-told size p view node s image =
    ap₂ (λ a b. a && (b && (same_list (log image) view.log && (length image == view.count))))
    (pairs-told (pend image) view.pairs (pend node.records) s.pairs)
    (names-told (cert image) view.certified (cert node.records) s.certified)
    ∙ ap₂ (λ a b. same_pairs (pend image) (pend node.records)
    && (same_names (cert image) (cert node.records)
    && (same_list (log image) a && (length image == b)))) s.log s.count
