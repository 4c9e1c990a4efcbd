-- A node has no more names pending than the storages of all nodes took messages.
use Rattle.urb_world.proofs.Common.{Bool, Content, Entry, Kept, Label, Limits, List, World, []}
use Rattle.urb_world.proofs.Common.{and_parts, ap, are_rising, arith, cases_Bool, eq-eqb, eqb-true}
use Rattle.urb_world.proofs.Common.{false≢true, flat_map, fun_ext, has_pair, has_pair-last, inl}
use Rattle.urb_world.proofs.Common.{inr, length, list_all, map, name, name_lt, name_lt-strict}
use Rattle.urb_world.proofs.Common.{names, nodes, numbers_from, own, own-other, own-push, pairs-all}
use Rattle.urb_world.proofs.Common.{pend, refl, rising, subst, suc, sym, taken, true, zero, ℕ}
use Rattle.urb_world.proofs.Common.{⊎_elim, ◌++◌, ◌==◌, ◌∙◌, ◌∷◌, ◌≡◌, ◌≤◌}
use Rattle.std.proofs.lemmas.List.Concat.{length-flat_map}
use Rattle.std.proofs.lemmas.List.{length-append}
use Rattle.std.specs.List.{sum_by}
use Rattle.urb_world.proofs.ticks.DueTurns.{in-has}
use Rattle.urb_world.proofs.ticks.DuePairs.{has_pair-rising, length-rising, rises-records}
use Rattle.urb_world.proofs.ticks.DuePairs.{rises-rising}
use Rattle.urb_world.proofs.recovery.NodeLists.{in-nodes, in-numbers, sender-node}
use Rattle.urb_world.proofs.recovery.ContinuedWorlds.{Sound, known-pair, known-sender, knows-pair}
use Rattle.urb_world.proofs.recovery.CountedArrivals.{knows}
use Rattle.urb_world.proofs.ticks.Membership.{IsIn, in-flat_map, in-map, in-split}
use Rattle.urb_world.specs.World.{stored}
use Rattle.urb_stable.proofs.KeptRules.{PairRules}

abbrev Pairs : Type 0
Pairs = List (Label × Content)

-- ---- rising names are no more than the list that has all of them

-- if all elements of a list pass a test, each element passes it
pub in-list_all : {A : Type 0} (test : A → Bool) (x : A) (xs : List A) → list_all test xs ≡ true
    → IsIn x xs → test x ≡ true
in-list_all test x [] h k = absurd k
in-list_all test x (y ∷ xs) h k =
    let parts = and_parts (test y) (list_all test xs) h in
    ⊎_elim (λ e. sym (ap test e) ∙ parts.0) (λ e. in-list_all test x xs parts.1 e) k

-- a name that is in a list stays in it if another name is taken out
pub in-without : (x y : Label) (us vs : List Label) → (y ≡ x → ⊥) → IsIn x (us ++ y ∷ vs)
    → IsIn x (us ++ vs)
in-without x y [] vs differs h = ⊎_elim (λ e. absurd (differs e)) (λ k. k) h
in-without x y (u ∷ us) vs differs h =
    ⊎_elim (λ e. inl e) (λ k. inr (in-without x y us vs differs k)) h

fits-in : (ps : Pairs) (ys : List Label) → are_rising ps ≡ true
    → ((d : Label × Content) → IsIn d ps → IsIn d.0 ys) → length ps ≤ length ys
fits-in [] ys rises all = omega arith
fits-in (p ∷ ps) ys rises all =
    let parts = and_parts (list_all (λ later. name_lt p.0 later.0) ps) (are_rising ps) rises in
    let split = in-split p.0 ys (all p (inl refl)) in
    let fewer =
    fits-in ps (split.0 ++ split.1) parts.1
    (λ d h. in-without d.0 p.0 split.0 split.1 (differs parts.0 d h)
    (subst (IsIn d.0) split.2 (all d (inr h)))) in
    omega (
      arith,
      fewer,
      length-append split.0 split.1,
      length-append split.0 (p.0 ∷ split.1),
      ap length split.2,
    )
  where
    differs : list_all (λ later. name_lt p.0 later.0) ps ≡ true → (d : Label × Content) → IsIn d ps
        → p.0 ≡ d.0 → ⊥
    differs h d k e =
        false≢true (sym (name_lt-strict p.0)
        ∙ subst (λ (y : Label). name_lt p.0 y ≡ true) (sym e)
        (in-list_all (λ (later : Label × Content). name_lt p.0 later.0) d ps h k))

-- ---- own names are numbered

abbrev Numbered : ℕ → Pairs → Type 0
Numbered p ps =
    (x : Label) (m : Content) → has_pair ps x m ≡ true → x.sender ≡ p
    → (1 ≤ x.seq) × (x.seq ≤ length (own p ps))

numbered : (size : Limits) (images : ℕ → List Entry) (p : ℕ) (rs : List Entry)
    → Kept size images p [] rs → Numbered p (pend rs)
numbered size images p rs h =
    pairs-all size images p (Numbered p) (λ x m k e. absurd (false≢true k)) more rs h
  where
    grown : (ps : Pairs) (x : Label) (m : Content)
        → length (own p ps) ≤ length (own p (ps ++ (x, m) ∷ []))
    grown ps x m =
        ⊎_elim (λ e. let l = ap length (own-push p ps x m e) in
        omega (arith, l, length-append (own p ps) (m ∷ [])))
        (λ e. let l = ap length (own-other p ps x m e) in omega (arith, l))
        (cases_Bool (x.sender == p))

    more : (e : List Entry) (x : Label) (m : Content) → Numbered p (pend e)
        → PairRules size images p e x m → Numbered p (pend e ++ (x, m) ∷ [])
    more e x m before rules y o k s = ⊎_elim old new (has_pair-last (pend e) x y m o k)
      where
        old : has_pair (pend e) y o ≡ true
            → (1 ≤ y.seq) × (y.seq ≤ length (own p (pend e ++ (x, m) ∷ [])))
        old f =
            let b = before y o f s in let high = b.1 in
            (b.0, omega (arith, high, grown (pend e) x m))

        new : (x ≡ y) × (m ≡ o) → (1 ≤ y.seq) × (y.seq ≤ length (own p (pend e ++ (x, m) ∷ [])))
        new f =
            let is : (x.sender == p) ≡ true =
            eq-eqb x.sender p (ap (λ (z : Label). z.sender) f.0 ∙ s) in
            let next : x.seq ≡ suc (length (own p (pend e))) =
            eqb-true x.seq _ (and_parts (x.seq == suc (length (own p (pend e)))) _
            (rules.next is)).0 in
            let same : x.seq ≡ y.seq = ap (λ (z : Label). z.seq) f.0 in
            let longer = ap length (own-push p (pend e) x m is) in (
              omega (arith, next, same),
              omega
                  (arith, next, same, longer, length-append (own p (pend e)) (m ∷ [])),
            )

-- ---- how many are taken

-- there are as many names as their numbers
pub length-names : (s first count : ℕ) → length (map (name s) (numbers_from first count)) ≡ count
length-names s first zero = refl
length-names s first (suc count) = ap suc (length-names s (suc first) count)

module _ (w : World) (sound : Sound w) where
  -- the names of all messages that storages took
  abbrev all : List Label
  all = flat_map (λ s. names s (length (w.node s).broadcast)) (nodes w.size.n)

  counted : sum_by (λ s. length (names s (length (w.node s).broadcast))) (nodes w.size.n) ≡ taken w
  counted =
      ap (λ (f : ℕ → ℕ). sum_by f (nodes w.size.n))
      (fun_ext (λ s. length-names s 1 (length (w.node s).broadcast)))

  known-in : (x : Label) → knows (stored w x.sender) x ≡ true → IsIn x all
  known-in x k =
      in-flat_map (λ s. names s (length (w.node s).broadcast)) x.sender (nodes w.size.n) x
      (in-nodes w.size.n x.sender (sender-node w sound x.sender x k))
      (in-map (name x.sender) x.seq (numbers_from 1 (length (w.node x.sender).broadcast))
      (in-numbers 1 (length (w.node x.sender).broadcast) x.seq number.0
      (let high = number.1 in omega (arith, high))))
    where
      theirs : (m : Content) × (has_pair (pend (stored w x.sender)) x m ≡ true)
      theirs = known-pair (stored w x.sender) x k

      number : (1 ≤ x.seq) × (x.seq ≤ length (w.node x.sender).broadcast)
      number =
          let kept = sound.kept.nodes x.sender in
          subst (λ (ms : List Content). (1 ≤ x.seq) × (x.seq ≤ length ms)) (sym kept.broadcast)
          (numbered w.size (stored w) x.sender
          (stored w x.sender) kept.kept x theirs.0 theirs.1 refl)

  -- if each sender knows the names of these records' pairs, there are no more pairs than messages
  pub names-taken : (size : Limits) (images : ℕ → List Entry) (p : ℕ) (rs : List Entry)
      → Kept size images p [] rs
      → ((x : Label) → knows rs x ≡ true → knows (stored w x.sender) x ≡ true)
      → length (pend rs) ≤ taken w
  names-taken size images p rs kept known =
      let few =
      fits-in (rising (pend rs)) all
      (rises-rising (rising (pend rs)) (rises-records size images p rs kept)) stand in
      omega (
        arith,
        few,
        length-rising (pend rs),
        length-flat_map (λ s. names s (length (w.node s).broadcast)) (nodes w.size.n),
        counted,
      )
    where
      stand : (d : Label × Content) → IsIn d (rising (pend rs)) → IsIn d.0 all
      stand d h =
          known-in d.0 (known d.0 (knows-pair rs d.0 d.1
          (sym (has_pair-rising (pend rs) d.0 d.1) ∙ in-has d (rising (pend rs)) h)))

  -- a node has at most as many names pending as the storages of all nodes took messages
  pub pending-taken : (p : ℕ) → length (pend (stored w p)) ≤ taken w
  pending-taken p =
      names-taken w.size (stored w) p (stored w p) (sound.kept.nodes p).kept
      (λ x k. known-sender w sound p x k)
