-- What the parts of a check say of one record, together.
use Rattle.urb_group.proofs.Common.{Bool, Cert, Content, Entry, FindsMessage, IsGroup, Joins, Label}
use Rattle.urb_group.proofs.Common.{Limits, List, Node, None, Option, Pend, PendCert, SenderHolds}
use Rattle.urb_group.proofs.Common.{Shows, ShowsAt, Some, World, [], ap, arith, cert, cond}
use Rattle.urb_group.proofs.Common.{cond-false, cond-true, eq-eqb, false, false≢true, has_name}
use Rattle.urb_group.proofs.Common.{has_pair, in_range, is_next_own, is_none, is_some, keeps_a}
use Rattle.urb_group.proofs.Common.{keeps_b, keeps_c, known_held, length, memory_in, message_of}
use Rattle.urb_group.proofs.Common.{name_of, ne_eqb, not, of_client, option_or, own, pend, refl}
use Rattle.urb_group.proofs.Common.{shown, slice_index_or, stored, subst, suc, sym, true, updated}
use Rattle.urb_group.proofs.Common.{ℕ, ⊎_elim, ◌&&◌, ◌++◌, ◌+◌, ◌-◌, ◌<◌, ◌==◌, ◌||◌, ◌∙◌, ◌∷◌, ◌≡◌}
use Rattle.urb_group.proofs.Common.{◌⊎◌}
use Rattle.std.proofs.Common.{length-append}
use Rattle.std.specs.Bool.{MatchBool}
use Rattle.urb_node.specs.CallEffects.{CountsOwn, IsCertified}
use Rattle.urb_stable.specs.Fitting.{keeps_d}
use Rattle.urb_group.proofs.tails.TailHolders.{majority-same, pair-found, pair-last, shows-read}
use Rattle.urb_group.proofs.tails.TailRecords.{client-append, found-behind, named-behind}
use Rattle.urb_group.proofs.tails.TailRecords.{own-behind}
use Rattle.urb_group.specs.declared.node_moves.Node.{Node as Place}
use Rattle.urb_group.specs.internal.TailChecks.{CountsClient, FindsBehind, IsNamedBehind}
use Rattle.urb_group.specs.internal.TailChecks.{IsNextBehind, KeepsA, KeepsB, KeepsC, KeepsD}
use Rattle.urb_group.specs.internal.TailChecks.{WouldPass}

-- the record holds a pair
abbrev pub HoldsPair : Entry → Type 0
HoldsPair r =
    ((x : Label) × (m : Content) × (r ≡ Pend x m))
    ⊎ ((x : Label) × (m : Content) × (r ≡ PendCert x m))

-- the record holds this pair
abbrev pub HasPair : Entry → Label → Content → Type 0
HasPair r x m = (r ≡ Pend x m) ⊎ (r ≡ PendCert x m)

-- ---- options that were found

none-is : {X : Type 0} (b : Bool) (o : Option X) → is_some o ≡ not b → b ≡ is_none o
none-is true None e = refl
none-is false None e = absurd (false≢true e)
none-is true (Some x) e = absurd (false≢true (sym e))
none-is false (Some x) e = refl

-- ---- the parts of rule A

module _ {A : Type 0} (place : Place A) (before : List Entry) (x : Label) where
  -- a stored message is found
  pub finds-stored : (m : Content) → FindsMessage (ShowsAt place) x (Some m)
      → FindsBehind place before x (Some m)
  finds-stored m h n s =
      ap (λ o. option_or o (message_of (pend before) x)) (h n s)
      ∙ sym (found-behind n.records before x)

  -- else one among the records before
  pub finds-later : (o : Option Content) → FindsMessage (ShowsAt place) x None
      → o ≡ message_of (pend before) x → FindsBehind place before x o
  finds-later o h e n s =
      e ∙ (ap (λ q. option_or q (message_of (pend before) x)) (h n s)
      ∙ sym (found-behind n.records before x))

  -- a stored certificate certifies the name
  pub names-stored : IsCertified (ShowsAt place) x true → IsNamedBehind place before x true
  names-stored h n s =
      ap (λ b. b || has_name (cert before) x) (h n s) ∙ sym (named-behind n.records before x)

  -- else one among the records before
  pub names-later : (b : Bool) → IsCertified (ShowsAt place) x false
      → b ≡ has_name (cert before) x → IsNamedBehind place before x b
  names-later b h e n s =
      e ∙ (ap (λ c. c || has_name (cert before) x) (h n s)
      ∙ sym (named-behind n.records before x))

module _ {A : Type 0} (size : Limits) (place : Place A) (before : List Entry) (r : Entry) where
  a-range : (b : Bool) → false ≡ in_range size (name_of r) → (rs : List Entry)
      → false ≡ keeps_a size rs r
  a-range b e rs = at r e
    where
      at : (q : Entry) → false ≡ in_range size (name_of q) → false ≡ keeps_a size rs q
      at (Pend x m) f = ap (λ c. c && is_none (message_of (pend rs) x)) f
      at (PendCert x m) f = ap (λ c. c && is_none (message_of (pend rs) x)) f
      at (Cert x) f =
          ap (λ c. c && (is_some (message_of (pend rs) x) && not (has_name (cert rs) x))) f

  -- a name out of range
  pub not-in-range : false ≡ in_range size (name_of r) → KeepsA size place before r false
  not-in-range e n s = a-range false e (n.records ++ before)

  -- a pair is new if its name is not pending
  pub pair-new : (o : Option Content) (b : Bool) → HoldsPair r
      → true ≡ in_range size (name_of r) → FindsBehind place before (name_of r) o
      → is_some o ≡ not b → KeepsA size place before r b
  pair-new o b is range finds none n s =
      none-is b o none
      ∙ ⊎_elim (λ e. of_pend e.0 e.1 e.2) (λ e. of_both e.0 e.1 e.2) is
    where
      of_pend : (x : Label) (m : Content) → r ≡ Pend x m
          → is_none o ≡ keeps_a size (n.records ++ before) r
      of_pend x m e =
          ap is_none (finds n s ∙ ap (λ (q : Entry). message_of (pend (n.records ++ before))
          (name_of q)) e)
          ∙ (ap (λ c. c && is_none (message_of (pend (n.records ++ before)) x))
          (range ∙ ap (λ (q : Entry). in_range size (name_of q)) e)
          ∙ sym (ap (keeps_a size (n.records ++ before)) e))

      of_both : (x : Label) (m : Content) → r ≡ PendCert x m
          → is_none o ≡ keeps_a size (n.records ++ before) r
      of_both x m e =
          ap is_none (finds n s ∙ ap (λ (q : Entry). message_of (pend (n.records ++ before))
          (name_of q)) e)
          ∙ (ap (λ c. c && is_none (message_of (pend (n.records ++ before)) x))
          (range ∙ ap (λ (q : Entry). in_range size (name_of q)) e)
          ∙ sym (ap (keeps_a size (n.records ++ before)) e))

  cert-a : (x : Label) → r ≡ Cert x → true ≡ in_range size (name_of r) → (rs : List Entry)
      → (is_some (message_of (pend rs) x) && not (has_name (cert rs) x)) ≡ keeps_a size rs r
  cert-a x e range rs =
      ap (λ c. c && (is_some (message_of (pend rs) x) && not (has_name (cert rs) x)))
      (range ∙ ap (λ (q : Entry). in_range size (name_of q)) e)
      ∙ sym (ap (keeps_a size rs) e)

  -- a certificate without its pair
  pub certificate-early : (x : Label) (o : Option Content) → r ≡ Cert x
      → true ≡ in_range size (name_of r) → FindsBehind place before (name_of r) o
      → false ≡ is_some o → KeepsA size place before r false
  certificate-early x o e range finds none n s =
      ap (λ c. c && not (has_name (cert (n.records ++ before)) x))
      (none ∙ ap is_some (finds n s ∙ ap (λ (q : Entry). message_of (pend (n.records ++ before))
      (name_of q)) e))
      ∙ cert-a x e range (n.records ++ before)

  -- a certificate of a pending name is new if the name is not certified
  pub certificate-new : (x : Label) (o : Option Content) (b : Bool) → r ≡ Cert x
      → true ≡ in_range size (name_of r) → FindsBehind place before (name_of r) o
      → true ≡ is_some o → IsNamedBehind place before (name_of r) b
      → KeepsA size place before r (not b)
  certificate-new x o b e range finds some named n s =
      ap not (named n s ∙ ap (λ (q : Entry). has_name (cert (n.records ++ before)) (name_of q)) e)
      ∙ (ap (λ c. c && not (has_name (cert (n.records ++ before)) x))
      (some ∙ ap is_some (finds n s ∙ ap (λ (q : Entry). message_of (pend (n.records ++ before))
      (name_of q)) e))
      ∙ cert-a x e range (n.records ++ before))

-- ---- the parts of rule B

-- a sum that is one less than a number
sum-is : (b : Bool) (a k s : ℕ) → MatchBool b (a + k ≡ s - 1) (¬ (a + k ≡ s - 1)) → 0 < s
    → b ≡ (s == suc (a + k))
sum-is true a k s h low = sym (eq-eqb s (suc (a + k)) (omega (arith, h, low)))
sum-is false a k s h low = sym (ne_eqb s (suc (a + k)) (λ e. h (omega (arith, e, low))))

module _ {A : Type 0} (place : Place A) (p : ℕ) (is : (memory_in place).node ≡ p)
    (before : List Entry) (x : Label) (m : Content) (stored_own before_own : ℕ)
    (counts : CountsOwn (ShowsAt place) stored_own)
    (more : before_own ≡ length (own p (pend before))) (low : 0 < x.seq) where
  own-is : (n : Node) → ShowsAt place n
      → own p (pend (n.records ++ before)) ≡ n.broadcast ++ own p (pend before)
  own-is n s =
      own-behind p n.records before
      ∙ ap (λ ms. ms ++ own p (pend before)) (sym (s.broadcast
      ∙ ap (λ (q : ℕ). own q (pend n.records)) is))

  seq-is : (b : Bool)
      → MatchBool b (stored_own + before_own ≡ x.seq - 1) (¬ (stored_own + before_own ≡ x.seq - 1))
      → (n : Node) → ShowsAt place n
      → b ≡ (x.seq == suc (length (own p (pend (n.records ++ before)))))
  seq-is b h n s =
      sum-is b stored_own before_own x.seq h low
      ∙ ap (λ (k : ℕ). x.seq == suc k) (sym (
      ap length (own-is n s) ∙ (length-append n.broadcast (own p (pend before))
      ∙ both (length n.broadcast) (length (own p (pend before))) (counts n s) more)))
    where
      both : (a k : ℕ) → stored_own ≡ a → before_own ≡ k → a + k ≡ stored_own + before_own
      both a k e f = omega (arith, e, f)

  -- another number than the next
  pub next-not : MatchBool false (stored_own + before_own ≡ x.seq - 1)
      (¬ (stored_own + before_own ≡ x.seq - 1)) → IsNextBehind place p before x m false
  next-not h n s =
      ap (λ b. b && (m.number
      == suc (of_client m.client (own p (pend (n.records ++ before)))))) (seq-is false h n s)

  -- the next number, and perhaps its client's next one
  pub next-is : (b : Bool) (stored_client before_client : ℕ)
      → MatchBool true (stored_own + before_own ≡ x.seq - 1)
      (¬ (stored_own + before_own ≡ x.seq - 1))
      → CountsClient place m.client stored_client
      → before_client ≡ of_client m.client (own p (pend before)) → 0 < m.number
      → MatchBool b (stored_client + before_client ≡ m.number - 1)
      (¬ (stored_client + before_client ≡ m.number - 1))
      → IsNextBehind place p before x m b
  next-is b stored_client before_client h clients later positive match n s =
      sum-is b stored_client before_client m.number match positive
      ∙ (ap (λ (k : ℕ). m.number == suc k) (sym (
      ap (of_client m.client) (own-is n s)
      ∙ (client-append m.client n.broadcast (own p (pend before))
      ∙ both (of_client m.client n.broadcast) (of_client m.client (own p (pend before)))
      (clients n s) later)))
      ∙ ap (λ c. c && (m.number
      == suc (of_client m.client (own p (pend (n.records ++ before)))))) (seq-is true h n s))
    where
      both : (a k : ℕ) → stored_client ≡ a → before_client ≡ k
          → a + k ≡ stored_client + before_client
      both a k e f = omega (arith, e, f)

module _ {A : Type 0} (place : Place A) (p : ℕ) (before : List Entry) (r : Entry) (x : Label)
    (m : Content) (is : HasPair r x m) where
  b-is : (rs : List Entry)
      → cond (x.sender == p) (is_next_own (own p (pend rs)) x m) true ≡ keeps_b p rs r
  b-is rs =
      ⊎_elim (λ e. sym (ap (keeps_b p rs) e)) (λ e. sym (ap (keeps_b p rs) e)) is

  -- another sender's pair
  pub turn-of-other : (x.sender == p) ≡ false → KeepsB p place before r true
  turn-of-other e n s =
      sym (cond-false (x.sender == p) (is_next_own (own p (pend (n.records ++ before))) x m) true e)
      ∙ b-is (n.records ++ before)

  -- the node's own pair
  pub turn-of-own : (b : Bool) → (x.sender == p) ≡ true → IsNextBehind place p before x m b
      → KeepsB p place before r b
  turn-of-own b e next n s =
      next n s
      ∙ (sym (cond-true (x.sender == p) (is_next_own (own p (pend (n.records ++ before))) x m) true
      e) ∙ b-is (n.records ++ before))

-- ---- the parts of rule C

module _ {A : Type 0} (size : Limits) (places : List (Place A)) (p : ℕ) (r : Entry) (x : Label)
    (m : Content) (is : HasPair r x m) where
  c-is : (w : World)
      → cond (x.sender == p) true (has_pair (pend (stored w x.sender)) x m) ≡ keeps_c (stored w) p r
  c-is w =
      ⊎_elim (λ e. sym (ap (keeps_c (stored w) p) e)) (λ e. sym (ap (keeps_c (stored w) p) e)) is

  -- the node's own pair
  pub own-at-sender : (x.sender == p) ≡ true → KeepsC size places p r true
  own-at-sender e w s =
      sym (cond-true (x.sender == p) true (has_pair (pend (stored w x.sender)) x m) e) ∙ c-is w

  -- another sender's pair
  pub other-at-sender : (b : Bool) → (x.sender == p) ≡ false → SenderHolds size places x m b
      → KeepsC size places p r b
  other-at-sender b e holds w s =
      holds w s
      ∙ (sym (cond-false (x.sender == p) true (has_pair (pend (stored w x.sender)) x m) e)
      ∙ c-is w)

-- ---- the parts of rule D

module _ {A : Type 0} {size : Limits} {places : List (Place A)} (group : IsGroup size places)
    (at : ℕ) (node : Place A) (is : node ≡ slice_index_or places at node) (low : at < size.n)
    (before : List Entry) (r : Entry) (x : Label) where
  abbrev images : World → ℕ → List Entry
  images w = updated (stored w) (suc at) ((stored w (suc at) ++ before) ++ r ∷ [])

  -- a certificate of a name that is pending
  pub passes-later : (m : Content) (b : Bool) → r ≡ Cert x → FindsBehind node before x (Some m)
      → WouldPass size places (suc at) x m b → KeepsD size places (suc at) before r b
  passes-later m b e finds pass w s =
      let found : Some m ≡ message_of (pend (stored w (suc at) ++ before)) x =
      finds (w.node (suc at)) (shows-read group at node is low w s) in
      pass w s
      ∙ (majority-same w (suc at) size.n ((stored w (suc at) ++ before) ++ r ∷ []) x m
      (pair-found (stored w (suc at) ++ before) r x m (sym found))
      ∙ (ap (known_held size.n (images w) x) found
      ∙ sym (ap (λ (q : Entry). keeps_d size.n (images w) (stored w (suc at) ++ before) q) e)))

  -- a certificate of another name
  pub passes-never : r ≡ Cert x → FindsBehind node before x None
      → KeepsD size places (suc at) before r false
  passes-never e finds w s =
      let found : None ≡ message_of (pend (stored w (suc at) ++ before)) x =
      finds (w.node (suc at)) (shows-read group at node is low w s) in
      ap (known_held size.n (images w) x) found
      ∙ sym (ap (λ (q : Entry). keeps_d size.n (images w) (stored w (suc at) ++ before) q) e)

-- a pair that is certified at once
pub passes-at-once : {A : Type 0} (size : Limits) (places : List (Place A)) (p : ℕ)
    (before : List Entry) (r : Entry) (x : Label) (m : Content) (b : Bool) → r ≡ PendCert x m
    → WouldPass size places p x m b → KeepsD size places p before r b
passes-at-once size places p before r x m b e pass w s =
    pass w s
    ∙ (majority-same w p size.n ((stored w p ++ before) ++ r ∷ []) x m
    (pair-last (stored w p ++ before) r x m (ap (λ (q : Entry). pend (q ∷ [])) e))
    ∙ sym (ap (λ (q : Entry). keeps_d size.n
    (updated (stored w) p ((stored w p ++ before) ++ r ∷ [])) (stored w p ++ before) q) e))

-- a pair that is not certified
pub passes-anyway : {A : Type 0} (size : Limits) (places : List (Place A)) (p : ℕ)
    (before : List Entry) (r : Entry) (x : Label) (m : Content) → r ≡ Pend x m
    → KeepsD size places p before r true
passes-anyway size places p before r x m e w s =
    sym (ap (λ (q : Entry). keeps_d size.n
    (updated (stored w) p ((stored w p ++ before) ++ r ∷ [])) (stored w p ++ before) q) e)

-- ---- all rules

module _ {A : Type 0} {size : Limits} {places : List (Place A)} (group : IsGroup size places)
    (at p : ℕ) (own : p ≡ suc at) (node : Place A) (is : node ≡ slice_index_or places at node)
    (low : at < size.n) (before : List Entry) (r : Entry) where
  abbrev b_of : World → Bool
  b_of w = keeps_b p (stored w p ++ before) r

  abbrev c_of : World → Bool
  c_of w = keeps_c (stored w) p r

  abbrev d_of : World → Bool
  d_of w =
      keeps_d size.n (updated (stored w) p ((stored w p ++ before) ++ r ∷ []))
      (stored w p ++ before) r

  shows-own : (w : World) → Shows (shown size places) w → ShowsAt node (w.node p)
  shows-own w s =
      subst (λ (q : ℕ). ShowsAt node (w.node q)) (sym own) (shows-read group at node is low w s)

  -- rule A is broken
  pub joins-not-a : KeepsA size node before r false → Joins size places p before r false
  joins-not-a a w s =
      ap (λ x. x && (b_of w && (c_of w && d_of w))) (a (w.node p) (shows-own w s))

  module _ (a : KeepsA size node before r true) where
    -- rule B is broken
    pub joins-not-b : KeepsB p node before r false → Joins size places p before r false
    joins-not-b b w s =
        ap (λ x. x && (c_of w && d_of w)) (b (w.node p) (shows-own w s))
        ∙ ap (λ x. x && (b_of w && (c_of w && d_of w))) (a (w.node p) (shows-own w s))

    module _ (b : KeepsB p node before r true) where
      -- rule C is broken
      pub joins-not-c : KeepsC size places p r false → Joins size places p before r false
      joins-not-c c w s =
          ap (λ x. x && d_of w) (c w s)
          ∙ (ap (λ x. x && (c_of w && d_of w)) (b (w.node p) (shows-own w s))
          ∙ ap (λ x. x && (b_of w && (c_of w && d_of w))) (a (w.node p) (shows-own w s)))

      -- rule D decides
      pub joins-d : KeepsC size places p r true → (d : Bool)
          → KeepsD size places (suc at) before r d → Joins size places p before r d
      joins-d c d by w s =
          subst (λ (q : ℕ). KeepsD size places q before r d) (sym own) by w s
          ∙ (ap (λ x. x && d_of w) (c w s)
          ∙ (ap (λ x. x && (c_of w && d_of w)) (b (w.node p) (shows-own w s))
          ∙ ap (λ x. x && (b_of w && (c_of w && d_of w))) (a (w.node p) (shows-own w s))))
