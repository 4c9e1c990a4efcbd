-- The four rules of one record after another are what makes records follow.
use Rattle.urb_group.proofs.Common.{Bool, Cert, Content, Entry, GroupView, Joins, Label, Limits}
use Rattle.urb_group.proofs.Common.{List, MayFollow, MayJoin, Pend, PendCert, Shows, World, []}
use Rattle.urb_group.proofs.Common.{and_from, and_parts, ap, append-nil, append_assoc, arith, cond}
use Rattle.urb_group.proofs.Common.{cond-false, drop, drop_all, false, false≢true, has_pair}
use Rattle.urb_group.proofs.Common.{is_node, keeps_a, keeps_b, keeps_c, length, pend, refl, shown}
use Rattle.urb_group.proofs.Common.{slice_index_or, stored, subst, suc, sym, take, true, updated, ℕ}
use Rattle.urb_group.proofs.Common.{◌&&◌, ◌++◌, ◌+◌, ◌<◌, ◌==◌, ◌∙◌, ◌∷◌, ◌≡◌, ◌≤◌}
use Rattle.std.proofs.Math.Seq.{take-suc}
use Rattle.urb_group.proofs.shown.ShownWorlds.{is-node, no-node}
use Rattle.urb_group.proofs.tails.TailRecords.{from-here}
use Rattle.urb_group.specs.TailQuestions.{TellsTail}
use Rattle.urb_group.specs.declared.node_moves.Node.{Node as Place}
use Rattle.urb_group.specs.internal.TailChecks.{may_follow, may_join}

-- ---- one record

-- rule C asks only other nodes' records
pair-same : (images : ℕ → List Entry) (p : ℕ) (rs : List Entry) (x : Label) (m : Content) (b : Bool)
    → (x.sender == p) ≡ b
    → cond b true (has_pair (pend (updated images p rs x.sender)) x m)
    ≡ cond b true (has_pair (pend (images x.sender)) x m)
pair-same images p rs x m true e = refl
pair-same images p rs x m false e =
    ap (λ (ss : List Entry). has_pair (pend ss) x m)
    (cond-false (x.sender == p) rs (images x.sender) e)

c-same : (images : ℕ → List Entry) (p : ℕ) (rs : List Entry) (r : Entry)
    → keeps_c (updated images p rs) p r ≡ keeps_c images p r
c-same images p rs (Pend x m) = pair-same images p rs x m (x.sender == p) refl
c-same images p rs (PendCert x m) = pair-same images p rs x m (x.sender == p) refl
c-same images p rs (Cert x) = refl

join-from : (size : Limits) (images : ℕ → List Entry) (p : ℕ) (records : List Entry) (r : Entry)
    → MayJoin size images p records r → may_join size images p records r ≡ true
join-from size images p records r h =
    and_from (keeps_a size records r) _ h.a
    (and_from (keeps_b p records r) _ h.b
    (and_from (keeps_c images p r) _ (sym (c-same images p (records ++ r ∷ []) r) ∙ h.c) h.d))

join-to : (size : Limits) (images : ℕ → List Entry) (p : ℕ) (records : List Entry) (r : Entry)
    → may_join size images p records r ≡ true → MayJoin size images p records r
join-to size images p records r h =
    let a = and_parts (keeps_a size records r) _ h in
    let b = and_parts (keeps_b p records r) _ a.1 in
    let c = and_parts (keeps_c images p r) _ b.1 in
    record { a = a.0; b = b.0; c = c-same images p (records ++ r ∷ []) r ∙ c.0; d = c.1 }

-- ---- a tail

follow-from : (size : Limits) (images : ℕ → List Entry) (p : ℕ) (records tail : List Entry)
    → MayFollow size images p records tail → may_follow size images p records tail ≡ true
follow-from size images p records [] h = refl
follow-from size images p records (r ∷ tail) h =
    and_from (may_join size images p records r) _ (join-from size images p records r h.0)
    (follow-from size images p (records ++ r ∷ []) tail h.1)

follow-to : (size : Limits) (images : ℕ → List Entry) (p : ℕ) (records tail : List Entry)
    → may_follow size images p records tail ≡ true → MayFollow size images p records tail
follow-to size images p records [] h = tt
follow-to size images p records (r ∷ tail) h =
    let parts = and_parts (may_join size images p records r) _ h in (
      join-to size images p records r parts.0,
      follow-to size images p (records ++ r ∷ []) tail parts.1,
    )

-- ---- the walk over a tail

module _ (size : Limits) (images : ℕ → List Entry) (p : ℕ) (records tail : List Entry) where
  -- from this place on it is as for the whole tail
  abbrev pub FollowsFrom : ℕ → Type 0
  FollowsFrom i =
      may_follow size images p (records ++ take i tail) (drop i tail)
      ≡ may_follow size images p records tail

  -- from the first place on
  pub follows-first : FollowsFrom 0
  follows-first =
      ap (λ (rs : List Entry). may_follow size images p rs tail) (append-nil records)

  step-is : (i : ℕ) (r : Entry) → i < length tail → r ≡ slice_index_or tail i r → FollowsFrom i
      → (may_join size images p (records ++ take i tail) r
      && may_follow size images p ((records ++ take i tail) ++ r ∷ []) (drop (i + 1) tail))
      ≡ may_follow size images p records tail
  step-is i r l e h =
      ap (λ (rs : List Entry). may_follow size images p (records ++ take i tail) rs)
      (sym (from-here tail i r l e)) ∙ h

  -- a record that may not join ends the walk
  pub follows-not : (i : ℕ) (r : Entry) → i < length tail → r ≡ slice_index_or tail i r
      → FollowsFrom i → false ≡ may_join size images p (records ++ take i tail) r
      → false ≡ may_follow size images p records tail
  follows-not i r l e h f =
      ap (λ (b : Bool). b && may_follow size images p ((records ++ take i tail) ++ r ∷ [])
      (drop (i + 1) tail)) f ∙ step-is i r l e h

  -- the walk goes on behind one that may
  pub follows-next : (i : ℕ) (r : Entry) → i < length tail → r ≡ slice_index_or tail i r
      → FollowsFrom i → true ≡ may_join size images p (records ++ take i tail) r
      → FollowsFrom (i + 1)
  follows-next i r l e h f =
      ap (λ (rs : List Entry). may_follow size images p rs (drop (i + 1) tail)) behind
      ∙ (ap (λ (b : Bool). b && may_follow size images p ((records ++ take i tail) ++ r ∷ [])
      (drop (i + 1) tail)) f ∙ step-is i r l e h)
    where
      one_more : (k : ℕ) → suc k ≡ k + 1
      one_more k = omega arith

      taken : take (i + 1) tail ≡ take i tail ++ r ∷ []
      taken =
          ap (λ (k : ℕ). take k tail) (sym (one_more i))
          ∙ (take-suc tail i r l ∙ ap (λ (q : Entry). take i tail ++ q ∷ []) (sym e))

      behind : records ++ take (i + 1) tail ≡ (records ++ take i tail) ++ r ∷ []
      behind =
          ap (λ (rs : List Entry). records ++ rs) taken
          ∙ sym (append_assoc records (take i tail) (r ∷ []))

  -- past the last record all may
  pub follows-all : (i : ℕ) → length tail ≤ i → FollowsFrom i
      → true ≡ may_follow size images p records tail
  follows-all i l h =
      ap (λ (rs : List Entry). may_follow size images p (records ++ take i tail) rs)
      (sym (drop_all i tail l)) ∙ h

-- ---- the places of a group

module _ {A : Type 0} (size : Limits) (places : List (Place A)) {group : GroupView}
    (e : shown size places ≡ group) where
  -- what is said of a record's places is so in each world that the group shows
  pub joined : (others : List (Place A)) → others ≡ places → (p : ℕ) (before : List Entry)
      (r : Entry) (b : Bool) → Joins size others p before r b → (w : World) → Shows group w
      → b ≡ may_join group.size (stored w) p (stored w p ++ before) r
  joined others f p before r b h w s =
      subst (λ (g : GroupView). b ≡ may_join g.size (stored w) p (stored w p ++ before) r) e
      (subst (λ (os : List (Place A)). Joins size os p before r b) f h w
      (subst (λ (g : GroupView). Shows g w) (sym e) s))

  size-is : (w : World) → Shows group w → size ≡ w.size
  size-is w s = ap (λ (g : GroupView). g.size) e ∙ s.size

  -- the node of a place is one of the group's
  pub is-there : (at p : ℕ) → at < size.n → p ≡ suc at → (w : World) → Shows group w
      → is_node w.size.n p ≡ true
  is-there at p low own w s =
      subst (λ (q : ℕ). is_node w.size.n q ≡ true) (sym own)
      (is-node w.size.n at (subst (λ (l : Limits). at < l.n) (size-is w s) low))

  -- a greater number is no node's
  pub is-nowhere : (p : ℕ) → size.n < p → (w : World) → Shows group w
      → is_node w.size.n p ≡ false
  is-nowhere p past w s =
      no-node w.size.n p (subst (λ (l : Limits). l.n < p) (size-is w s) past)

-- ---- the answer

-- the answer for a node of the group is whether the tail passes in every world
pub follows-is : (group : GroupView) (p : ℕ) (tail : List Entry) (result : Bool)
    → ((w : World) → Shows group w → is_node w.size.n p ≡ true)
    → ((w : World) → Shows group w
    → result ≡ may_follow group.size (stored w) p (stored w p) tail)
    → TellsTail group p tail result
follows-is group p tail result there is w s =
    let same : result ≡ may_follow w.size (stored w) p (stored w p) tail =
    is w s ∙ ap (λ (l : Limits). may_follow l (stored w) p (stored w p) tail) s.size in (
      λ yes. (there w s, follow-to w.size (stored w) p (stored w p) tail (sym same ∙ yes)),
      λ may. same ∙ follow-from w.size (stored w) p (stored w p) tail may.1,
    )

-- no tail may follow at a number that is no node's
pub follows-nowhere : (group : GroupView) (p : ℕ) (tail : List Entry)
    → ((w : World) → Shows group w → is_node w.size.n p ≡ false) → TellsTail group p tail false
follows-nowhere group p tail none w s = (
  λ yes. absurd (false≢true yes),
  λ may. absurd (false≢true (sym (none w s) ∙ may.0)),
)
