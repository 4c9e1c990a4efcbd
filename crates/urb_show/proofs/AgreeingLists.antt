-- Prefixes of lists that agree also agree; and lists with one more entry.
use Rattle.urb_show.proofs.Common.{Agree, AgreeAcross, AreOfOneHistory, Delivery, GoesOn, GroupView}
use Rattle.urb_show.proofs.Common.{IsPrefix, Learns, List, Lists, OneBeginsAll, ReaderView}
use Rattle.urb_show.proofs.Common.{ToldView, [], add_at, ap, arith, delivery_of, filter-append, inl}
use Rattle.urb_show.proofs.Common.{inr, length, list_at, map, numbers_from, refl, sent_by}
use Rattle.urb_show.proofs.Common.{slice_index_or, subst, suc, sym, zero, ℕ, ⊎_elim, ◌++◌, ◌<◌}
use Rattle.urb_show.proofs.Common.{◌==◌, ◌∙◌, ◌∷◌, ◌≡◌, ◌⊎◌}
use Rattle.urb_show.proofs.Prefixes.{prefix_length, prefix_self, prefix_trans}
use Rattle.urb_show.proofs.ListBeginnings.{begins_self, begins_trans}
use Rattle.urb_show.specs.Readers.{HasLearnt, HasRead, Rests, Takes}
use Rattle.urb_show.specs.Lists.{Begins}
use Rattle.urb_show.specs.declared.entry.Entry.{Entry}

sent_prefix : (s : ℕ) (xs ys : List Delivery) → IsPrefix xs ys
    → IsPrefix (sent_by s xs) (sent_by s ys)
sent_prefix s xs ys pre = (
  sent_by s pre.0,
  sym (filter-append (λ delivery. delivery.0.sender == s) xs pre.0)
      ∙ ap (sent_by s) pre.1,
)

-- a mapped prefix of a list is a prefix of the mapped list
pub map_prefix : {A B : Type 0} (f : A → B) (xs ys : List A) → IsPrefix xs ys
    → IsPrefix (map f xs) (map f ys)
map_prefix f [] ys pre = (map f ys, refl)
map_prefix f (x ∷ xs) [] pre = absurd (cc (pre.1))
map_prefix f (x ∷ xs) (y ∷ ys) pre =
    let same : x ≡ y = cc (pre.1) in
    let rest = map_prefix f xs ys (pre.0, cc (pre.1)) in
    let head = ap f same in
    let all = rest.1 in
    (rest.0, cc)

numbers_prefix : {A : Type 0} (f : A → ℕ) (first : ℕ) (xs ys : List A) → IsPrefix xs ys
    → map f ys ≡ numbers_from first (length ys) → map f xs ≡ numbers_from first (length xs)
numbers_prefix f first [] ys pre is = refl
numbers_prefix f first (x ∷ xs) [] pre is = absurd (cc (pre.1))
numbers_prefix f first (x ∷ xs) (y ∷ ys) pre is =
    let same : x ≡ y = cc (pre.1) in
    let head : f y ≡ first = cc (is) in
    let here = ap f same in
    let rest = numbers_prefix f (suc first) xs ys (pre.0, cc (pre.1)) (cc (is)) in
    cc

-- of two prefixes of one list, one is a prefix of the other
pub either_prefix : {A : Type 0} (xs ys zs : List A) → IsPrefix xs zs → IsPrefix ys zs
    → IsPrefix xs ys ⊎ IsPrefix ys xs
either_prefix [] ys zs p q = let none : IsPrefix [] ys = (ys, refl) in inl none
either_prefix (x ∷ xs) [] zs p q = let none : IsPrefix [] (x ∷ xs) = (x ∷ xs, refl) in inr none
either_prefix (x ∷ xs) (y ∷ ys) [] p q = absurd (cc (p.1))
either_prefix (x ∷ xs) (y ∷ ys) (z ∷ zs) p q =
    let heads : x ≡ y = cc (p.1, q.1) in
    ⊎_elim (λ (t : IsPrefix xs ys). inl (t.0, cc (heads, t.1)))
    (λ (t : IsPrefix ys xs). inr (t.0, cc (heads, t.1)))
    (either_prefix xs ys zs (p.0, cc (p.1)) (q.0, cc (q.1)))

-- if lists are prefixes of others, node by node, so is the list at each place
pub begins_at : (xs ys : Lists) (p : ℕ) → Begins xs ys → IsPrefix (list_at xs p) (list_at ys p)
begins_at [] ys p b = let none : IsPrefix [] (list_at ys p) = (list_at ys p, refl) in none
begins_at (x ∷ xs) [] p b = absurd b
begins_at (x ∷ xs) (y ∷ ys) zero b = b.0
begins_at (x ∷ xs) (y ∷ ys) (suc p) b = begins_at xs ys p b.1

-- lists that are prefixes of lists that agree, node by node, agree
pub agree_begins : (xs ys : Lists) → Begins xs ys → Agree ys → Agree xs
agree_begins xs ys b agree = record {
  numbers =
      λ p s. numbers_prefix (λ (d : Delivery). d.0.seq) 1 _ _ (sent_prefix s _ _ (at p))
      (agree.numbers p s);
  one_begins = λ p q s. ⊎_elim
      (λ t. either_prefix _ _ _ (prefix_trans _ _ _ (sent_prefix s _ _ (at p)) t)
      (sent_prefix s _ _ (at q)))
      (λ t. either_prefix _ _ _ (sent_prefix s _ _ (at p))
      (prefix_trans _ _ _ (sent_prefix s _ _ (at q)) t))
      (agree.one_begins p q s);
  short = λ p. let le = prefix_length _ _ (at p) in let lt = agree.short p in omega arith;
}
  where
    at : (p : ℕ) → IsPrefix (map delivery_of (list_at xs p)) (map delivery_of (list_at ys p))
    at p = map_prefix delivery_of _ _ (begins_at xs ys p b)

-- a prefix of one of some lists that agree, compared with any of these lists
pub begins_across : (xs ys : Lists) → Begins xs ys → Agree ys → AgreeAcross xs ys
begins_across xs ys b agree p q s =
    let at = sent_prefix s _ _ (map_prefix delivery_of _ _ (begins_at xs ys p b)) in
    ⊎_elim (λ t. inl (prefix_trans _ _ _ at t)) (λ t. either_prefix _ _ _ at t)
    (agree.one_begins p q s)

-- if one of two lists of lists begins the other, and each agrees, then they agree across
pub one_begins_across : (xs ys : Lists) → OneBeginsAll xs ys → Agree xs → Agree ys
    → AgreeAcross xs ys
one_begins_across xs ys (inl b) left right p q s = begins_across xs ys b right p q s
one_begins_across xs ys (inr b) left right p q s =
    ⊎_elim (λ t. inr t) (λ t. inl t) (begins_across ys xs b left q p s)

-- if one of two lists of lists begins the other, and each agrees, then they are of one history
pub of_one_history : (xs ys : Lists) → OneBeginsAll xs ys → Agree xs → Agree ys
    → AreOfOneHistory xs ys
of_one_history xs ys one left right =
    record {
      these_agree = left;
      those_agree = right;
      one_begins = one;
      across =
          one_begins_across xs ys one left right;
    }

module _ (opened : GroupView) where
  -- what a reader saw first is, node by node, a prefix of what it saw last
  pub goes_on_begins : (first last : ReaderView) → GoesOn opened first last
      → Begins first.seen last.seen
  goes_on_begins first last Rests = begins_self first.seen
  goes_on_begins first last (HasRead before after runs takes) =
      begins_trans first.seen before.seen last.seen (goes_on_begins first before runs) takes.seen
  goes_on_begins first last (HasLearnt token before after runs learns) =
      subst (λ (w : Lists). Begins first.seen w) (sym learns.seen)
      (goes_on_begins first before runs)

  -- what a reader saw first and what it sees in one more read are of one history
  pub goes_on_agrees : (first before last : ReaderView) → GoesOn opened first before
      → Takes opened before last → AreOfOneHistory first.seen last.seen
  goes_on_agrees first before last runs then =
      let seen =
      begins_trans first.seen before.seen last.seen
      (goes_on_begins first before runs) then.seen in
      of_one_history first.seen last.seen (inl seen)
      (agree_begins first.seen last.seen seen then.agree) then.agree

  -- what a reader had learnt first is, node by node, a prefix of what it had learnt last
  pub goes_on_told : (first last : ReaderView) → GoesOn opened first last
      → Begins first.told last.told
  goes_on_told first last Rests = begins_self first.told
  goes_on_told first last (HasRead before after runs takes) =
      subst (λ (w : Lists). Begins first.told w) (sym takes.kept) (goes_on_told first before runs)
  goes_on_told first last (HasLearnt token before after runs learns) =
      begins_trans first.told before.told last.told (goes_on_told first before runs) learns.earlier

  -- the events that a reader knew first are a prefix of those that it knows last
  pub goes_on_past : (first last : ReaderView) → GoesOn opened first last
      → IsPrefix first.past last.past
  goes_on_past first last Rests = prefix_self first.past
  goes_on_past first last (HasRead before after runs takes) =
      prefix_trans first.past before.past last.past (goes_on_past first before runs) takes.past
  goes_on_past first last (HasLearnt token before after runs learns) =
      prefix_trans first.past before.past last.past (goes_on_past first before runs)
      learns.past.earlier

  -- a reader that learnt a token takes lists that begin with the token's lists
  pub learnt_agrees : (token : ToldView) (start first before last : ReaderView)
      → Learns token start first → GoesOn opened first before → Takes opened before last
      → AreOfOneHistory token.lists last.seen
  learnt_agrees token start first before last learns runs then =
      let told =
      begins_trans token.lists first.told before.told learns.told
      (goes_on_told first before runs) in
      let seen = begins_trans token.lists before.told last.seen told then.told in
      of_one_history token.lists last.seen (inl seen)
      (agree_begins token.lists last.seen seen then.agree) then.agree

-- prefixes, node by node, of two values of one history agree across
pub earlier_across : (xs us ys vs : Lists) → Begins xs us → Begins ys vs → AreOfOneHistory us vs
    → AgreeAcross xs ys
earlier_across xs us ys vs b c one p q s =
    let left = sent_prefix s _ _ (map_prefix delivery_of _ _ (begins_at xs us p b)) in
    let right = sent_prefix s _ _ (map_prefix delivery_of _ _ (begins_at ys vs q c)) in
    ⊎_elim (λ t. either_prefix _ _ _ (prefix_trans _ _ _ left t) right)
    (λ t. either_prefix _ _ _ left (prefix_trans _ _ _ right t)) (one.across p q s)

-- the next entry goes after a prefix
pub prefix_next : (xs ys : List Entry) (e : Entry) → IsPrefix xs ys → length xs < length ys
    → e ≡ slice_index_or ys (length xs) e → IsPrefix (xs ++ e ∷ []) ys
prefix_next [] [] e pre low is = absurd (omega arith)
prefix_next [] (y ∷ ys) e pre low is = (ys, ap (λ z. z ∷ ys) is)
prefix_next (x ∷ xs) [] e pre low is = absurd (omega arith)
prefix_next (x ∷ xs) (y ∷ ys) e pre low is =
    let heads : x ≡ y = cc (pre.1) in
    let rest = prefix_next xs ys e (pre.0, cc (pre.1)) (omega arith) is in
    (rest.0, cc (heads, rest.1))

-- prefixes of other lists stay prefixes if the other list's next entry is added at one place
pub begins_next : (xs ys : Lists) (p : ℕ) (e : Entry) → Begins xs ys
    → length (list_at xs p) < length (list_at ys p)
    → e ≡ slice_index_or (list_at ys p) (length (list_at xs p)) e → Begins (add_at xs p e) ys
begins_next [] ys p e b low is = tt
begins_next (x ∷ xs) [] p e b low is = absurd b
begins_next (x ∷ xs) (y ∷ ys) zero e b low is = (prefix_next x y e b.0 low is, b.1)
begins_next (x ∷ xs) (y ∷ ys) (suc p) e b low is = (b.0, begins_next xs ys p e b.1 low is)

-- the list at the place ends with the entry that was added
pub at_added : (xs : Lists) (p : ℕ) (e : Entry) → p < length xs
    → list_at (add_at xs p e) p ≡ list_at xs p ++ e ∷ []
at_added [] p e low = absurd (omega arith)
at_added (x ∷ xs) zero e low = refl
at_added (x ∷ xs) (suc p) e low = at_added xs p e (omega arith)

-- the list at another place stays
pub at_other : (xs : Lists) (p q : ℕ) (e : Entry) → (p ≡ q → ⊥)
    → list_at (add_at xs p e) q ≡ list_at xs q
at_other [] p q e apart = refl
at_other (x ∷ xs) zero zero e apart = absurd (apart refl)
at_other (x ∷ xs) zero (suc q) e apart = refl
at_other (x ∷ xs) (suc p) zero e apart = refl
at_other (x ∷ xs) (suc p) (suc q) e apart = at_other xs p q e (λ is. apart (ap suc is))

-- an entry that is added leaves the number of lists
pub length_added : (xs : Lists) (p : ℕ) (e : Entry) → length (add_at xs p e) ≡ length xs
length_added [] p e = refl
length_added (x ∷ xs) zero e = refl
length_added (x ∷ xs) (suc p) e = ap suc (length_added xs p e)
