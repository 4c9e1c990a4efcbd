-- Lists that are prefixes of others, node by node.
use Rattle.urb_show.proofs.Common.{Addition, Agree, AreDeliveredBy, Event, GroupView, IsPrefix}
use Rattle.urb_show.proofs.Common.{Learns, List, Lists, OneBeginsAll, ReaderView, [], add_at, ap}
use Rattle.urb_show.proofs.Common.{fold-append, inl, inr, lists_of, refl, subst, suc, sym, zero, ℕ}
use Rattle.urb_show.proofs.Common.{◌++◌, ◌∙◌, ◌∷◌, ◌≡◌, ◌⊎◌}
use Rattle.urb_show.specs.declared.entry.Entry.{Entry}
use Rattle.urb_show.specs.Lists.{Begins}
use Rattle.urb_show.specs.Readers.{Takes}
use Rattle.urb_show.proofs.Prefixes.{prefix_self, prefix_trans}

-- lists are prefixes of themselves, node by node
pub begins_self : (xs : Lists) → Begins xs xs
begins_self [] = tt
begins_self (x ∷ xs) = (prefix_self x, begins_self xs)

-- prefixes of prefixes of lists are prefixes of these lists, node by node
pub begins_trans : (xs ys zs : Lists) → Begins xs ys → Begins ys zs → Begins xs zs
begins_trans [] ys zs p q = tt
begins_trans (x ∷ xs) [] zs p q = absurd p
begins_trans (x ∷ xs) (y ∷ ys) [] p q = absurd q
begins_trans (x ∷ xs) (y ∷ ys) (z ∷ zs) p q =
    (prefix_trans x y z p.0 q.0, begins_trans xs ys zs p.1 q.1)

-- lists are prefixes of these lists with one more entry, node by node
pub begins_add : (xs : Lists) (p : ℕ) (e : Entry) → Begins xs (add_at xs p e)
begins_add [] p e = tt
begins_add (x ∷ xs) zero e =
    let one : IsPrefix x (x ++ e ∷ []) = (e ∷ [], refl) in (one, begins_self xs)
begins_add (x ∷ xs) (suc p) e = (prefix_self x, begins_add xs p e)

-- lists are prefixes of these lists after any additions, node by node
pub begins_all : (lists : Lists) (log : List Addition) → Begins lists (lists_of lists log)
begins_all lists [] = begins_self lists
begins_all lists (a ∷ log) =
    begins_trans lists (add_at lists a.place a.entry) _ (begins_add lists a.place a.entry)
    (begins_all (add_at lists a.place a.entry) log)

-- if a history is a prefix of another one, its lists are prefixes of the other's lists
pub begins_later : (base : Lists) (log later : List Addition) → IsPrefix log later
    → Begins (lists_of base log) (lists_of base later)
begins_later base log later pre =
    let e : lists_of base later ≡ lists_of (lists_of base log) pre.0 =
    ap (lists_of base) (sym pre.1)
    ∙ fold-append (λ lists (x : Addition). add_at lists x.place x.entry) base log pre.0 in
    subst (λ (w : Lists). Begins (lists_of base log) w) (sym e)
    (begins_all (lists_of base log) pre.0)

-- If both of two histories are prefixes of the longer one, the lists of one are prefixes of the
-- lists of the other.
pub longer_begins : (base : Lists) (one other longest : List Addition)
    → (longest ≡ one) ⊎ (longest ≡ other) → IsPrefix one longest → IsPrefix other longest
    → OneBeginsAll (lists_of base one) (lists_of base other)
longer_begins base one other longest (inl same) p q =
    inr (begins_later base other one (subst (λ (w : List Addition). IsPrefix other w) same q))
longer_begins base one other longest (inr same) p q =
    inl (begins_later base one other (subst (λ (w : List Addition). IsPrefix one w) same p))

-- what a reader takes begins with what it knew, if the histories do
pub takes : (opened : GroupView) (base : Lists) (seen told now : List Addition)
    (past later : List Event) (before : ReaderView)
    → record { seen = lists_of base seen; told = lists_of base told; past = past } ≡ before
    → IsPrefix seen now → IsPrefix told now → Agree (lists_of base now) → IsPrefix past later
    → AreDeliveredBy opened later (lists_of base now)
    → Takes opened before
    (record { seen = lists_of base now; told = lists_of base told; past = later })
takes opened base seen told now past later before is p q agree grows delivered = record {
  agree = agree;
  seen =
      subst (λ (k : ReaderView). Begins k.seen (lists_of base now)) is
      (begins_later base seen now p);
  told =
      subst (λ (k : ReaderView). Begins k.told (lists_of base now)) is
      (begins_later base told now q);
  kept = ap (λ (k : ReaderView). k.told) is;
  past = subst (λ (k : ReaderView). IsPrefix k.past later) is grows;
  delivered = delivered;
}

-- A reader that learnt what a position has seen, and what it has learnt, takes lists that begin
-- with both, at a place behind the position's moment.
pub takes_through : (opened : GroupView) (position first second third last : ReaderView)
    → Learns (record { lists = position.seen; past = position.past }) first second
    → Learns (record { lists = position.told; past = position.past }) second third
    → Takes opened third last
    → Takes opened position
    (record { seen = last.seen; told = position.told; past = last.past })
takes_through opened position first second third last one two three = record {
  agree = three.agree;
  seen =
      begins_trans position.seen second.told last.seen one.told
      (begins_trans second.told third.told last.seen two.earlier three.told);
  told = begins_trans position.told third.told last.seen two.told three.told;
  kept = refl;
  past = prefix_trans position.past third.past last.past two.past.told three.past;
  delivered = three.delivered;
}
