-- Which nodes hold a pair, and how many would if one more did.
use Rattle.urb_group.proofs.Common.{Bool, Content, Entry, IsGroup, Label, Limits, List, NodeView}
use Rattle.urb_group.proofs.Common.{SenderHolds, Shows, ShowsAt, Some, World, [], ap, arith, cond}
use Rattle.urb_group.proofs.Common.{count_by, eq-eqb, false, has_pair, has_pair-found}
use Rattle.urb_group.proofs.Common.{has_pair-left, held_by_majority, length, length-map, map}
use Rattle.urb_group.proofs.Common.{memory_in, message_of, ne_eqb, no_view, numbers_from, pend}
use Rattle.urb_group.proofs.Common.{pend-append, refl, shown, slice_index_or, stored, suc}
use Rattle.urb_group.proofs.Common.{sum_by-append, sym, true, updated, view_at, would_hold, zero, ℕ}
use Rattle.urb_group.proofs.Common.{◌++◌, ◌+◌, ◌<◌, ◌==◌, ◌||◌, ◌∙◌, ◌∷◌, ◌≡◌, ◌≤◌}
use Rattle.std.proofs.lemmas.List.Sums.{sum_by-cons}
use Rattle.urb_names.proofs.FoundPairs.{has_pair-itself}
use Rattle.urb_names.proofs.SameNames.{majority_grows}
use Rattle.urb_names.specs.Nodes.{majority_passes}
use Rattle.urb_node.specs.CallEffects.{Holds}
use Rattle.urb_names.proofs.TruthValues.{both_ways}
use Rattle.urb_group.proofs.shown.NodeAnswers.{was_read}
use Rattle.urb_group.proofs.shown.NodeMoves.{place_shows}
use Rattle.urb_group.specs.declared.node_moves.Node.{Node as Place}
use Rattle.urb_group.specs.internal.TailChecks.{WouldHold}
use Rattle.urb_names.proofs.Places.{numbers_more}

-- ---- one node

module _ {A : Type 0} {size : Limits} {places : List (Place A)} (group : IsGroup size places) where
  -- the node that was read from a place shows the world's node
  pub shows-read : (at : ℕ) (node : Place A) → node ≡ slice_index_or places at node → at < size.n
      → (w : World) → Shows (shown size places) w → ShowsAt node (w.node (suc at))
  shows-read at node is low w s =
      place_shows size places group at node node
      (was_read places at size.n node group.placed.count low is) w s

  -- it has the number of its place
  pub number-read : (at : ℕ) (node : Place A) → node ≡ slice_index_or places at node → at < size.n
      → (memory_in node).node ≡ suc at
  number-read at node is low =
      (group.placed.each at node
      (was_read places at size.n node group.placed.count low is)).number

  -- a sender that is one of the nodes
  pub sender-holds : (x : Label) (m : Content) (at : ℕ) (node : Place A) (result : Bool)
      → node ≡ slice_index_or places at node → at < size.n → x.sender ≡ suc at
      → Holds (ShowsAt node) x m result → SenderHolds size places x m result
  sender-holds x m at node result is low own holds w s =
      holds (w.node (suc at)) (shows-read at node is low w s)
      ∙ ap (λ (q : ℕ). has_pair (pend (stored w q)) x m) (sym own)

  past : (views : List NodeView) (i : ℕ) → length views ≤ i
      → slice_index_or views i no_view ≡ no_view
  past [] i l = refl
  past (v ∷ views) zero l = absurd (omega arith)
  past (v ∷ views) (suc i) l = past views i (omega arith)

  nothing : (w : World) → Shows (shown size places) w → (q : ℕ) → size.n < q → (x : Label)
      (m : Content) → false ≡ has_pair (pend (stored w q)) x m
  nothing w s zero l x m = absurd (omega arith)
  nothing w s (suc i) l x m =
      let count = length-map places view_at in
      let high : length (map view_at places) ≤ i =
      (let c = group.placed.count in omega (arith, count, c, l)) in
      ap (λ (v : NodeView). has_pair v.pairs x m) (sym (past (map view_at places) i high))
      ∙ (s.nodes (suc i)).pairs x m

  -- no node of this number holds anything
  pub sender-missing : (x : Label) (m : Content) → size.n < x.sender
      → SenderHolds size places x m false
  sender-missing x m past w s = nothing w s x.sender past x m

  -- the node in this place would hold the pair if it is the one that is to
  pub would-itself : (at place : ℕ) (x : Label) (m : Content) → place ≡ at
      → WouldHold size places (suc at) place x m true
  would-itself at place x m e w s =
      ap (λ b. b || has_pair (pend (stored w (suc place))) x m)
      (sym (eq-eqb (suc place) (suc at) (ap suc e)))

  -- or else if it holds the pair
  pub would-other : (at place : ℕ) (x : Label) (m : Content) (node : Place A) (result : Bool)
      → (place ≡ at → ⊥) → node ≡ slice_index_or places place node → place < size.n
      → Holds (ShowsAt node) x m result → WouldHold size places (suc at) place x m result
  would-other at place x m node result not is low holds w s =
      holds (w.node (suc place)) (shows-read place node is low w s)
      ∙ ap (λ b. b || has_pair (pend (stored w (suc place))) x m)
      (sym (ne_eqb (suc place) (suc at) (λ e. not (omega (arith, e)))))

-- ---- a count over the nodes

count-first : (test : ℕ → Bool) (x : ℕ) (xs : List ℕ)
    → count_by test (x ∷ xs) ≡ cond (test x) 1 0 + count_by test xs
count-first test x xs = sum_by-cons (λ y. cond (test y) 1 0) x xs

-- one more node is counted
pub counted-more : (test : ℕ → Bool) (i count one : ℕ)
    → ◌≡◌ {A = ℕ} one (cond (test (suc i)) 1 0) → count ≡ count_by test (numbers_from 1 i)
    → count + one ≡ count_by test (numbers_from 1 (i + 1))
counted-more test i count one e h =
    let all = ap (λ (k : ℕ). count_by test (numbers_from 1 k)) (more i)
    ∙ (ap (count_by test) (numbers_more 1 i)
    ∙ sum_by-append (λ (q : ℕ). cond (test q) 1 0) (numbers_from 1 i) ((1 + i) ∷ [])) in
    let last = count-first test (1 + i) [] in
    let same : ◌≡◌ {A = ℕ} one (cond (test (1 + i)) 1 0) =
    e ∙ ap (λ (k : ℕ). cond (test k) 1 0) (at i) in
    omega (arith, all, last, same, h)
  where
    at : (n : ℕ) → suc n ≡ 1 + n
    at n = omega arith

    more : (n : ℕ) → n + 1 ≡ suc n
    more n = omega arith

-- ---- a majority that holds the pair

module _ (w : World) (p n : ℕ) (records : List Entry) (x : Label) (m : Content)
    (has : has_pair (pend records) x m ≡ true) where
  each : (q : ℕ) → would_hold w p x m q
      ≡ has_pair (pend (updated (stored w) p records q)) x m
  each q = at (q == p)
    where
      at : (b : Bool) → (b || has_pair (pend (stored w q)) x m)
          ≡ has_pair (pend (cond b records (stored w q))) x m
      at true = sym has
      at false = refl

  -- with these records of node p, a majority holds the pair if it would hold it
  pub majority-same : majority_passes n (would_hold w p x m)
      ≡ held_by_majority n (updated (stored w) p records) x m
  majority-same =
      both_ways _ _
      (majority_grows n (would_hold w p x m)
      (λ q. has_pair (pend (updated (stored w) p records q)) x m) (λ q h. sym (each q) ∙ h))
      (majority_grows n (λ q. has_pair (pend (updated (stored w) p records q)) x m)
      (would_hold w p x m) (λ q h. each q ∙ h))

-- records that end with a pair have it
pub pair-last : (rs : List Entry) (r : Entry) (x : Label) (m : Content)
    → pend (r ∷ []) ≡ (x, m) ∷ [] → has_pair (pend (rs ++ r ∷ [])) x m ≡ true
pair-last rs r x m e =
    ap (λ ps. has_pair ps x m) (pend-append rs (r ∷ []) ∙ ap (λ ps. pend rs ++ ps) e)
    ∙ has_pair-itself (pend rs) x m

-- records with one more have the pairs that were found before
pub pair-found : (rs : List Entry) (r : Entry) (x : Label) (m : Content)
    → message_of (pend rs) x ≡ Some m → has_pair (pend (rs ++ r ∷ [])) x m ≡ true
pair-found rs r x m e =
    ap (λ ps. has_pair ps x m) (pend-append rs (r ∷ []))
    ∙ has_pair-left (pend rs) (pend (r ∷ [])) x m (has_pair-found (pend rs) x m e)
