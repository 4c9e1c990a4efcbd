-- Two pages of one entry each.
use Rattle.urb_show.proofs.Common.{Contains, Label, List, [], ap, arith, refl, slice_index_or}
use Rattle.urb_show.proofs.Common.{subst, suc, sym, told, zero, ◌∙◌, ◌∷◌, ◌≡◌}
use Rattle.urb_show.specs.declared.entry.Entry.{Entry}
use Rattle.urb_show.proofs.worked.pages.pages_of_two_readers.Goals as goal

-- one letter is not another
apart : told 1 1 "a" ≡ told 1 1 "b" → ⊥
apart same =
    let first : 97 ≡ 98 = ap (λ (e : Entry). slice_index_or e.message.payload 0 0) same in
    omega (arith, first)

-- the only entry of a list
sole : (x y : Entry) → Contains (x ∷ []) y → x ≡ y
sole x y (zero, low, is) = is
sole x y (suc k, low, is) = absurd (omega (arith, low))

-- the only entry of a page
shown : (items : List Entry) (x y : Entry) → items ≡ x ∷ [] → Contains items y → x ≡ y
shown items x y is there = sole x y (subst (λ (l : List Entry). Contains l y) is there)

shows : (items : List Entry) (x : Entry) → items ≡ x ∷ [] → Contains items x
shows items x is = subst (λ (l : List Entry). Contains l x) (sym is) (0, omega arith, refl)

pub returns-clause-two_messages : goal.returns-clause-two_messages
returns-clause-two_messages c a b one other never =
    apart (never (told 1 1 "a") (told 1 1 "b") (shows a.entries.items _ one)
    (shows b.entries.items _ other) refl)

pub returns-clause-the_same_message : goal.returns-clause-the_same_message
returns-clause-the_same_message c a b one other e f in_one in_other same =
    sym (shown a.entries.items _ e one in_one) ∙ shown b.entries.items _ f other in_other

pub returns-clause-two_names : goal.returns-clause-two_names
returns-clause-two_names c a b one other e f in_one in_other same =
    let first : 1 ≡ e.name.seq =
    ap (λ (it : Entry). it.name.seq) (shown a.entries.items _ e one in_one) in
    let second : 2 ≡ f.name.seq =
    ap (λ (it : Entry). it.name.seq) (shown b.entries.items _ f other in_other) in
    let both : e.name.seq ≡ f.name.seq = ap (λ (x : Label). x.seq) same in
    absurd (omega (arith, first, second, both))
