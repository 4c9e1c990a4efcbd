-- Stores that are asked for their records one after the other.
use Rattle.urb_group.proofs.Common.{AllGive, Entry, Err, FirstFails, Ghosts, Gives, List, Ok}
use Rattle.urb_group.proofs.Common.{StoreFault, [], ap, append_assoc, arith, drop, length}
use Rattle.urb_group.proofs.Common.{one_longer, refl, slice_index_or, slice_set, subst, suc, sym}
use Rattle.urb_group.proofs.Common.{take, ℕ, ◌++◌, ◌<◌, ◌∙◌, ◌∷◌, ◌≡◌}
use Rattle.std.proofs.Math.Seq.{drop-length, take-append_seam}
use Rattle.urb_group.proofs.stops.OpenedClusters.{give-more}

-- the first stores gave these lists, and the others are as they were
pub record HasAsked {S A : Type 0} (g : Ghosts S A) (stores now : List S)
    (images : List (List Entry)) (index : ℕ) : Type 0 where
  -- the stores that were asked
  pub earlier : List S
  -- these stores after that
  pub gave : List S
  -- the stores that were not asked
  pub later : List S
  -- each store that was asked gave its list
  pub given : AllGive g earlier images gave
  -- as many stores were asked as the index says
  pub count : length gave ≡ index
  -- all stores at the beginning
  pub were : stores ≡ earlier ++ later
  -- all stores now
  pub are : now ≡ gave ++ later

-- at the beginning no store was asked
pub none-asked : {S A : Type 0} (g : Ghosts S A) (stores : List S) → HasAsked g stores stores [] 0
none-asked g stores = record {
  earlier = [];
  gave = [];
  later = stores;
  given = tt;
  count =
      refl;
  were = refl;
  are = refl;
}

-- the item after some elements, and the item that is put there
read-behind : {S : Type 0} (xs ys : List S) (y d : S)
    → slice_index_or (xs ++ y ∷ ys) (length xs) d ≡ y
read-behind [] ys y d = refl
read-behind (x ∷ xs) ys y d = read-behind xs ys y d

put-behind : {S : Type 0} (xs ys : List S) (y z : S)
    → slice_set (xs ++ y ∷ ys) (length xs) z ≡ xs ++ z ∷ ys
put-behind [] ys y z = refl
put-behind (x ∷ xs) ys y z = ap (λ zs. x ∷ zs) (put-behind xs ys y z)

-- the next of some more elements
record HasNext {S : Type 0} (later : List S) : Type 0 where
  -- the next element
  pub next : S
  -- the elements behind it
  pub rest : List S
  -- the list is made of these
  pub is : later ≡ next ∷ rest

next-of : {S : Type 0} (gave later : List S) → length gave < length (gave ++ later) → HasNext later
next-of [] [] less = absurd (omega arith)
next-of [] (y ∷ ys) less = record { next = y; rest = ys; is = refl }
next-of (x ∷ gave) later less = next-of gave later (omega (arith, less))

module _ {S A : Type 0} (g : Ghosts S A) (stores now : List S) (images : List (List Entry))
    (index : ℕ) (h : HasAsked g stores now images index) where
  within : index < length now → length h.gave < length (h.gave ++ h.later)
  within less =
      subst (λ (n : ℕ). n < length (h.gave ++ h.later)) (sym h.count)
      (subst (λ (xs : List S). index < length xs) h.are less)

  -- the place of the next store, and what is read there
  is-next : (before : S) → index < length now → before ≡ slice_index_or now index before
      → (rest : List S) × (h.later ≡ before ∷ rest)
  is-next before less read =
      let next = next-of h.gave h.later (within less) in
      let all : now ≡ h.gave ++ next.next ∷ next.rest = h.are ∙ ap (λ ys. h.gave ++ ys) next.is in
      let there : before ≡ next.next =
      read ∙ (ap (λ xs. slice_index_or xs index before) all
      ∙ (ap (λ (i : ℕ). slice_index_or (h.gave ++ next.next ∷ next.rest) i before) (sym h.count)
      ∙ read-behind h.gave next.rest next.next before)) in
      (next.rest, next.is ∙ ap (λ y. y ∷ next.rest) (sym there))

  put-next : (before after : S) (rest : List S) → h.later ≡ before ∷ rest
      → slice_set now index after ≡ h.gave ++ after ∷ rest
  put-next before after rest e =
      ap (λ xs. slice_set xs index after) (h.are ∙ ap (λ ys. h.gave ++ ys) e)
      ∙ (ap (λ (i : ℕ). slice_set (h.gave ++ before ∷ rest) i after) (sym h.count)
      ∙ put-behind h.gave rest before after)

  -- the next store gave its list
  pub next-asked : (before after : S) (image : List Entry) → index < length now
      → before ≡ slice_index_or now index before
      → Gives g (slice_index_or now index before) (Ok image) after
      → HasAsked g stores (slice_set now index after) (images ++ image ∷ []) (suc index)
  next-asked before after image less read gives =
      let next = is-next before less read in
      record {
        earlier = h.earlier ++ before ∷ [];
        gave = h.gave ++ after ∷ [];
        later = next.0;
        given =
            give-more g h.earlier images h.gave before after image h.given
            (subst (λ (s : S). Gives g s (Ok image) after) (sym read) gives);
        count = one_longer h.gave after ∙ ap suc h.count;
        were = h.were ∙ (ap (λ ys. h.earlier ++ ys) next.1
            ∙ sym (append_assoc h.earlier (before ∷ []) next.0));
        are = put-next before after next.0 next.1 ∙ sym (append_assoc h.gave (after ∷ []) next.0);
      }

  -- the next store answered with a fault
  pub next-fails : (before after : S) (fault : StoreFault) → index < length now
      → before ≡ slice_index_or now index before
      → Gives g (slice_index_or now index before) (Err fault) after
      → FirstFails g stores fault (slice_set now index after)
  next-fails before after fault less read gives =
      let next = is-next before less read in
      record {
        earlier = h.earlier;
        images = images;
        gave = h.gave;
        given = h.given;
        before = before;
        after = after;
        failed = subst (λ (s : S). Gives g s (Err fault) after) (sym read) gives;
        later = next.0;
        were = h.were ∙ ap (λ ys. h.earlier ++ ys) next.1;
        are = put-next before after next.0 next.1;
      }

-- a list after all its elements were written
pub written-back : {S : Type 0} (items now new : List S) (n : ℕ) → n ≡ length items → now ≡ items
    → length new ≡ length now → take n (new ++ drop (length new) items) ≡ new
written-back {S} items now new n count same many =
    let all : length new ≡ length items = many ∙ ap length same in
    let none : drop (length new) items ≡ [] =
    ap (λ (k : ℕ). drop k items) all ∙ drop-length items in
    ap (λ (ys : List S). take n (new ++ ys)) none
    ∙ (ap (λ (k : ℕ). take k (new ++ [])) (count ∙ sym all) ∙ take-append_seam new [])
