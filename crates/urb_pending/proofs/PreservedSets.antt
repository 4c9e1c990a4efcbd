-- A pending set preserves its invariant when a pair is added.
use Rattle.urb_pending.proofs.Common.{Content, IsLabel, IsPendingSet, Label, Limits, List, None}
use Rattle.urb_pending.proofs.Common.{PendingSet, [], and_from, ap, arith, eq-eqb, false, inserted}
use Rattle.urb_pending.proofs.Common.{is_node, is_within, length, length-append, list_all, lt-ltb}
use Rattle.urb_pending.proofs.Common.{map, map-append, message_of, name, name_lt, names, nat_le}
use Rattle.urb_pending.proofs.Common.{nat_lt, next_number, own, part_of, subst, suc, sym, true, ℕ}
use Rattle.urb_pending.proofs.Common.{⊎_elim, ◌++◌, ◌+◌, ◌==◌, ◌∙◌, ◌∷◌, ◌≡◌, ◌≤◌}
use Rattle.std.proofs.Common.{eqb-true}
use Rattle.std.proofs.lemmas.Bool.{cases_Bool, le-leb}
use Rattle.urb_pending.specs.PendingSet.{added}
use Rattle.urb_pending.proofs.InsertedPairs.{all_inserted, rising_inserted}
use Rattle.urb_pending.proofs.OwnPairs.{mine, mine_before, mine_inserted, mine_other, names_more}
use Rattle.urb_pending.proofs.OwnPairs.{own_mine, part_mine}

within : (limits : Limits) (x : Label) → IsLabel x → x.sender ≤ limits.n → x.seq ≤ limits.cap
    → is_within limits x ≡ true
within limits x h low high =
    and_from (is_node limits.n x.sender) _
    (and_from (nat_lt 0 x.sender) (nat_lt x.sender (suc limits.n)) (lt-ltb 0 x.sender h.sender.0)
    (lt-ltb x.sender (suc limits.n) (omega (arith, low))))
    (and_from (nat_le 1 x.seq) (nat_le x.seq limits.cap) (le-leb 1 x.seq (omega (arith, h.seq.0)))
    (le-leb x.seq limits.cap high))

-- all of the node's names come before its next one
own_before : (set : PendingSet) → IsPendingSet set
    → list_all (λ q. name_lt q.0 (name set.node (length (own set.node set.pairs) + 1)))
    (mine set.node set.pairs) ≡ true
own_before set h =
    mine_before set.node set.pairs (length (own set.node set.pairs) + 1) h.numbered (omega arith)

next_name : (set : PendingSet) (x : Label) → x.sender ≡ set.node
    → x.seq ≡ length (own set.node set.pairs) + 1
    → name set.node (length (own set.node set.pairs) + 1) ≡ x
next_name set x e f =
    ap (λ s. name s (length (own set.node set.pairs) + 1)) (sym e) ∙ ap (name x.sender) (sym f)

mine_next : (set : PendingSet) → IsPendingSet set → (x : Label) (m : Content) → x.sender ≡ set.node
    → x.seq ≡ length (own set.node set.pairs) + 1
    → mine set.node (inserted (x, m) set.pairs) ≡ mine set.node set.pairs ++ (x, m) ∷ []
mine_next set h x m e f =
    mine_inserted set.node (x, m) set.pairs (eq-eqb x.sender set.node e) h.rising
    (subst (λ y. list_all (λ q. name_lt q.0 y) (mine set.node set.pairs) ≡ true)
    (next_name set x e f) (own_before set h))

-- the node's next message becomes the last of its own
pub own_next : (set : PendingSet) → IsPendingSet set → (x : Label) (m : Content)
    → x.sender ≡ set.node → x.seq ≡ length (own set.node set.pairs) + 1
    → own set.node (inserted (x, m) set.pairs) ≡ own set.node set.pairs ++ m ∷ []
own_next set h x m e f =
    own_mine set.node (inserted (x, m) set.pairs)
    ∙ (ap (map (λ (q : Label × Content). q.1)) (mine_next set h x m e f)
    ∙ (map-append (λ (q : Label × Content). q.1) (mine set.node set.pairs) ((x, m) ∷ [])
    ∙ ap (λ ms. ms ++ m ∷ []) (sym (own_mine set.node set.pairs))))

-- inserting another sender's pair leaves the node's own messages as they are
pub own_kept : (node : ℕ) (x : Label) (m : Content) (ps : List (Label × Content))
    → (x.sender == node) ≡ false → own node (inserted (x, m) ps) ≡ own node ps
own_kept node x m ps e =
    own_mine node (inserted (x, m) ps)
    ∙ (ap (map (λ (q : Label × Content). q.1)) (mine_other node (x, m) ps e)
    ∙ sym (own_mine node ps))

part_next : (set : PendingSet) → IsPendingSet set → (x : Label) (m : Content) → x.sender ≡ set.node
    → x.seq ≡ length (own set.node set.pairs) + 1
    → part_of set.node (map (λ pair. pair.0) (inserted (x, m) set.pairs)) ≡ names set.node
    (length (own set.node set.pairs) + 1)
part_next set h x m e f =
    part_mine set.node (inserted (x, m) set.pairs)
    ∙ (ap (map (λ (q : Label × Content). q.0)) (mine_next set h x m e f)
    ∙ (map-append (λ (q : Label × Content). q.0) (mine set.node set.pairs) ((x, m) ∷ [])
    ∙ (ap (λ xs. xs ++ x ∷ []) (sym (part_mine set.node set.pairs) ∙ h.numbered)
    ∙ (ap (λ y. names set.node (length (own set.node set.pairs)) ++ y ∷ [])
    (sym (next_name set x e f)) ∙ sym
    (names_more set.node (length (own set.node set.pairs)))))))

part_kept : (node : ℕ) (x : Label) (m : Content) (ps : List (Label × Content))
    → (x.sender == node) ≡ false → part_of node (map (λ pair. pair.0) (inserted (x, m) ps))
    ≡ part_of node (map (λ pair. pair.0) ps)
part_kept node x m ps e =
    part_mine node (inserted (x, m) ps)
    ∙ (ap (map (λ (q : Label × Content). q.0)) (mine_other node (x, m) ps e)
    ∙ sym (part_mine node ps))

-- the numbers of the node's own names, and how many there are
record IsNumbered (set : PendingSet) (ps : List (Label × Content)) : Type 0 where
  numbered : part_of set.node (map (λ pair. pair.0) ps) ≡ names set.node (length (own set.node ps))
  capped : length (own set.node ps) ≤ set.limits.cap

still_numbered : (set : PendingSet) → IsPendingSet set → (x : Label) (m : Content)
    → x.seq ≤ set.limits.cap → (x.sender ≡ set.node → x.seq ≡ length (own set.node set.pairs) + 1)
    → IsNumbered set (inserted (x, m) set.pairs)
still_numbered set h x m high next = ⊎_elim mine_now others (cases_Bool (x.sender == set.node))
  where
    mine_now : (x.sender == set.node) ≡ true → IsNumbered set (inserted (x, m) set.pairs)
    mine_now e =
        let same : x.sender ≡ set.node = eqb-true x.sender set.node e in
        let seq : x.seq ≡ length (own set.node set.pairs) + 1 = next same in
        let more : length (own set.node (inserted (x, m) set.pairs)) ≡ length
        (own set.node set.pairs) + 1 =
        ap length (own_next set h x m same seq)
        ∙ length-append (own set.node set.pairs) (m ∷ []) in
        record {
          numbered = part_next set h x m same seq ∙ ap (names set.node) (sym more);
          capped =
              omega (arith, more, seq, high);
        }

    others : (x.sender == set.node) ≡ false → IsNumbered set (inserted (x, m) set.pairs)
    others e =
        let same : own set.node (inserted (x, m) set.pairs) ≡ own set.node set.pairs =
        own_kept set.node x m set.pairs e in
        record {
          numbered =
              part_kept set.node x m set.pairs e
              ∙ (h.numbered ∙ ap (λ ms. names set.node (length ms)) (sym same));
          capped = subst (λ (ms : List Content). length ms ≤ set.limits.cap) (sym same) h.capped;
        }

-- adding a pair with a new name gives a pending set
pub still_pending_set : (set : PendingSet) → IsPendingSet set → (x : Label) (m : Content)
    → IsLabel x → message_of set.pairs x ≡ None → x.sender ≤ set.limits.n → x.seq ≤ set.limits.cap
    → (x.sender ≡ set.node → (x.seq ≡ length (own set.node set.pairs) + 1)
    × (m.number ≡ next_number m.client (own set.node set.pairs))) → IsPendingSet (added x m set)
still_pending_set set h x m label absent low high next =
    let still = still_numbered set h x m high (λ e. (next e).0) in
    record {
      limits = h.limits;
      rising = rising_inserted (x, m) set.pairs h.rising absent;
      within =
          all_inserted (λ pair. is_within set.limits pair.0) (x, m) set.pairs
          (within set.limits x label low high) h.within;
      numbered = still.numbered;
      capped = still.capped;
    }
