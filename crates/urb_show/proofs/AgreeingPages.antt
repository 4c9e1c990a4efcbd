-- Pages of lists of one history never show two different entries under one name.
use Rattle.urb_show.proofs.Common.{Agree, AgreeAcross, AreOfOneHistory, Bool, Contains, Delivery}
use Rattle.urb_show.proofs.Common.{GoesOn, GroupView, IsPageOf, IsPrefix, List, Lists, ReaderView}
use Rattle.urb_show.proofs.Common.{[], ap, arith, delivery_of, drop, entry_of, false, length}
use Rattle.urb_show.proofs.Common.{list_at, map, nat_tests, numbers_from, refl, sent_by}
use Rattle.urb_show.proofs.Common.{slice_index_or, subst, suc, sym, take, true, zero, ℕ, ⊎_elim}
use Rattle.urb_show.proofs.Common.{◌+◌, ◌-◌, ◌<◌, ◌==◌, ◌∙◌, ◌∷◌, ◌≡◌}
use Rattle.std.proofs.lemmas.List.{take-append-drop}
use Rattle.std.proofs.lemmas.List.Elements.{Contains-append_left, Contains-append_right}
use Rattle.urb_show.proofs.AgreeingLists.{agree_begins, earlier_across, goes_on_begins}
use Rattle.urb_show.specs.Pages.{NeverContradict}
use Rattle.urb_show.specs.declared.entry.Entry.{Entry}
use Rattle.urb_show.specs.declared.entry.Page.{Page}

module _ {A : Type 0} where
  -- what is in a prefix of a list is in the list
  pub in_prefix : (xs ys : List A) (x : A) → IsPrefix xs ys → Contains xs x → Contains ys x
  in_prefix xs ys x p h = subst (λ (l : List A). Contains l x) p.1 (Contains-append_left xs p.0 x h)

  in_take : (n : ℕ) (xs : List A) (x : A) → Contains (take n xs) x → Contains xs x
  in_take n xs x h =
      subst (λ (l : List A). Contains l x) (take-append-drop n xs)
      (Contains-append_left (take n xs) (drop n xs) x h)

  in_drop : (n : ℕ) (xs : List A) (x : A) → Contains (drop n xs) x → Contains xs x
  in_drop n xs x h =
      subst (λ (l : List A). Contains l x) (take-append-drop n xs)
      (Contains-append_right (take n xs) (drop n xs) x h)

  -- what is in a list is, mapped, in the mapped list
  pub in_map : {B : Type 0} (f : A → B) (xs : List A) (x : A) (k : ℕ) → k < length xs
      → slice_index_or xs k x ≡ x → Contains (map f xs) (f x)
  in_map f [] x k low is = absurd (omega (arith, low))
  in_map f (y ∷ xs) x zero low is = (zero, omega arith, ap f is)
  in_map f (y ∷ xs) x (suc k) low is =
      let r = in_map f xs x k (omega (arith, low)) is in let lt = r.1 in
      (suc r.0, omega (arith, lt), r.2)

  -- if two places have the same number, counted from the first one on, they are one place
  numbered_at : (f : A → ℕ) (first : ℕ) (xs : List A) (k : ℕ) (d : A)
      → map f xs ≡ numbers_from first (length xs) → k < length xs
      → f (slice_index_or xs k d) ≡ first + k
  numbered_at f first [] k d is low = absurd (omega (arith, low))
  numbered_at f first (x ∷ xs) zero d is low =
      let head : f x ≡ first = cc (is) in omega (arith, head)
  numbered_at f first (x ∷ xs) (suc k) d is low =
      let rest = numbered_at f (suc first) xs k d (cc (is)) (omega (arith, low)) in
      omega (arith, rest)

  or_same : (xs : List A) (k : ℕ) (d e : A) → k < length xs
      → slice_index_or xs k d ≡ slice_index_or xs k e
  or_same [] k d e low = absurd (omega (arith, low))
  or_same (x ∷ xs) zero d e low = refl
  or_same (x ∷ xs) (suc k) d e low = or_same xs k d e (omega (arith, low))

  numbered_same : (f : A → ℕ) (xs : List A) (d e : A) → map f xs ≡ numbers_from 1 (length xs)
      → Contains xs d → Contains xs e → f d ≡ f e → d ≡ e
  numbered_same f xs d e is h i same =
      let low = h.1 in
      let at_d : f d ≡ 1 + h.0 = ap f (sym h.2) ∙ numbered_at f 1 xs h.0 d is low in
      let at_e : f e ≡ 1 + i.0 = ap f (sym i.2) ∙ numbered_at f 1 xs i.0 e is i.1 in
      let place : h.0 ≡ i.0 = omega (arith, at_d, at_e, same) in
      sym h.2 ∙ (or_same xs h.0 d e low ∙ (ap (λ (k : ℕ). slice_index_or xs k e) place ∙ i.2))

in_sent : (s : ℕ) (ds : List Delivery) (d : Delivery) (k : ℕ) → (d.0.sender == s) ≡ true
    → k < length ds → slice_index_or ds k d ≡ d → Contains (sent_by s ds) d
in_sent s [] d k his low is = absurd (omega (arith, low))
in_sent s (y ∷ ds) d zero his low is =
    let test : (y.0.sender == s) ≡ true = ap (λ (z : Delivery). z.0.sender == s) is ∙ his in
    rw test (zero, omega arith, is)
in_sent s (y ∷ ds) d (suc k) his low is =
    by (y.0.sender == s) refl (in_sent s ds d k his (omega (arith, low)) is)
  where
    by : (b : Bool) → (y.0.sender == s) ≡ b → Contains (sent_by s ds) d
        → Contains (sent_by s (y ∷ ds)) d
    by true test rest = let lt = rest.1 in rw test (suc rest.0, omega (arith, lt), rest.2)
    by false test rest = rw test rest

-- an entry of a page is in the list
pub in_page : {A : Type 0} (list : List Entry) (first max : ℕ) (page : Page A) (e : Entry)
    → IsPageOf list first max page → Contains page.entries.items e → Contains list e
in_page list first max page e is h =
    let part : Contains (take max (drop (first - 1) list)) e =
    subst (λ (l : List Entry). Contains l e) is.entries h in
    in_drop (first - 1) list e (in_take max (drop (first - 1) list) e part)

-- an entry of a page is in its sender's part of the list
in_list : {A : Type 0} (list : List Entry) (first max : ℕ) (page : Page A) (e : Entry)
    → IsPageOf list first max page → Contains page.entries.items e
    → (e.name.sender == e.name.sender) ≡ true
    → Contains (sent_by e.name.sender (map delivery_of list)) (delivery_of e)
in_list list first max page e is h his =
    let whole : Contains list e = in_page list first max page e is h in
    let told : Contains (map delivery_of list) (delivery_of e) =
    in_map delivery_of list e whole.0 whole.1 whole.2 in
    in_sent e.name.sender (map delivery_of list) (delivery_of e) told.0 his told.1 told.2

-- two pages of lists that agree never have different entries with one name
pub never_contradict : {A B : Type 0} (xs ys : Lists) (p q first second most more : ℕ) (a : Page A)
    (b : Page B) → Agree xs → Agree ys → AgreeAcross xs ys
    → IsPageOf (list_at xs p) first most a → IsPageOf (list_at ys q) second more b
    → NeverContradict a b
never_contradict xs ys p q first second most more a b left right across page_a page_b e f in_a in_b
    names =
    let s = e.name.sender in
    let self : (e.name.sender == e.name.sender) ≡ true = grind (arith, nat_tests) in
    let self_f : (f.name.sender == f.name.sender) ≡ true = grind (arith, nat_tests) in
    let here = in_list (list_at xs p) first most a e page_a in_a self in
    let there : Contains (sent_by s (map delivery_of (list_at ys q))) (delivery_of f) =
    subst (λ (n : ℕ). Contains (sent_by n (map delivery_of (list_at ys q))) (delivery_of f))
    (sym (ap (λ n. n.sender) names))
    (in_list (list_at ys q) second more b f page_b in_b self_f) in
    let number : (delivery_of e).0.seq ≡ (delivery_of f).0.seq = ap (λ n. n.seq) names in
    let same : delivery_of e ≡ delivery_of f = ⊎_elim
    (λ h. numbered_same (λ (d : Delivery). d.0.seq) _ _ _ (right.numbers q s)
    (in_prefix _ _ _ h here) there number)
    (λ h. numbered_same (λ (d : Delivery). d.0.seq) _ _ _ (left.numbers p s) here
    (in_prefix _ _ _ h there) number)
    (across p q s) in
    ap entry_of same

-- pages that two readers of one history saw, at any moments, never have different entries with one
-- name
pub readers_never_contradict : {A B : Type 0} (opened : GroupView)
    (first last other latest : ReaderView)
    (p q place spot most more : ℕ) (a : Page A) (b : Page B)
    → GoesOn opened first last → GoesOn opened other latest
    → AreOfOneHistory last.seen latest.seen → IsPageOf (list_at first.seen p) place most a
    → IsPageOf (list_at other.seen q) spot more b → NeverContradict a b
readers_never_contradict opened first last other latest p q place spot most more a b runs goes one =
    let begins = goes_on_begins opened first last runs in
    let begin = goes_on_begins opened other latest goes in
    never_contradict first.seen other.seen p q place spot most more a b
    (agree_begins _ _ begins one.these_agree) (agree_begins _ _ begin one.those_agree)
    (earlier_across _ _ _ _ begins begin one)
