use Rattle.urb_window.proofs.Common.{IsRow, IsSome, ap, entries_from, length, numbered, pairs_of}
use Rattle.urb_window.proofs.Common.{refl, rules, slice_set, subst, sym, value_of, with_value, ◌<◌}
use Rattle.urb_window.proofs.Common.{◌∙◌, ◌≡◌}
use Rattle.urb_window.proofs.PreservedWindows.{found_here, kept_set, present_within, replaced_here}
use Rattle.urb_window.proofs.windows.Windows.replace.Goals as goal

pub index_mut-row-requires : goal.index_mut-row-requires
index_mut-row-requires g c =
    let rows = c.self.inside.rows.items in
    let some : IsSome (value_of (entries_from 1 rows) c.args.name) =
    subst (λ set. IsSome (value_of set.entries c.args.name)) (sym c.self.view_is) c.requires in
    let within : c.index_of.result < length rows =
    present_within rows c.args.name c.index_of.result
    (c.index_of.ensures.place ∙ ap (λ y. y.sender) c.name.view_is) some in
    search rules

pub replace-old-requires-clause-present : goal.replace-old-requires-clause-present
replace-old-requires-clause-present g c =
    let rows = c.self.inside.rows.items in
    let x = c.name.inside in
    let row = c.index_mut-row.result.now in
    let some : IsSome (value_of (entries_from 1 rows) c.args.name) =
    subst (λ set. IsSome (value_of set.entries c.args.name)) (sym c.self.view_is) c.requires in
    let within : c.index_of.result < length rows =
    present_within rows c.args.name c.index_of.result
    (c.index_of.ensures.place ∙ ap (λ y. y.sender) c.name.view_is) some in
    let there : numbered (pairs_of row) x.seq ≡ value_of (entries_from 1 rows) c.args.name =
    found_here rows (record { sender = x.sender; seq = x.seq })
    c.index_of.result row c.index_of.ensures.place within c.index_mut-row.ensures.value
    ∙ ap (λ y. value_of (entries_from 1 rows) y) c.name.view_is in
    subst (λ o. IsSome o) (sym there) some

pub invariant_of-self : goal.invariant_of-self
invariant_of-self g c =
    let rows = c.self.inside.rows.items in
    let row = c.index_mut-row.result.now in
    let new = c.replace-old.new.self in
    let some : IsSome (value_of (entries_from 1 rows) c.args.name) =
    subst (λ set. IsSome (value_of set.entries c.args.name)) (sym c.self.view_is) c.requires in
    let within : c.index_of.result < length rows =
    present_within rows c.args.name c.index_of.result
    (c.index_of.ensures.place ∙ ap (λ y. y.sender) c.name.view_is) some in
    let is : IsRow new = c.recall-2.ensures in
    kept_set c.self.inside _ c.index_of.result row new refl refl within
    c.index_mut-row.ensures.value c.replace-old.ensures.new.reserved is c.self.invariant

pub returns-clause-old : goal.returns-clause-old
returns-clause-old g c =
    let rows = c.self.inside.rows.items in
    let x = c.name.inside in
    let row = c.index_mut-row.result.now in
    let some : IsSome (value_of (entries_from 1 rows) c.args.name) =
    subst (λ set. IsSome (value_of set.entries c.args.name)) (sym c.self.view_is) c.requires in
    let within : c.index_of.result < length rows =
    present_within rows c.args.name c.index_of.result
    (c.index_of.ensures.place ∙ ap (λ y. y.sender) c.name.view_is) some in
    let there : numbered (pairs_of row) x.seq ≡ value_of (entries_from 1 rows) c.args.name =
    found_here rows (record { sender = x.sender; seq = x.seq })
    c.index_of.result row c.index_of.ensures.place within c.index_mut-row.ensures.value
    ∙ ap (λ y. value_of (entries_from 1 rows) y) c.name.view_is in
    sym (there ∙ ap (λ set. value_of set.entries c.args.name) c.self.view_is)
    ∙ c.replace-old.ensures.old

pub returns-clause-new : goal.returns-clause-new
returns-clause-new g c =
    let rows = c.self.inside.rows.items in
    let x = c.name.inside in
    let v = c.args.value in
    let row = c.index_mut-row.result.now in
    let new = c.replace-old.new.self in
    let some : IsSome (value_of (entries_from 1 rows) c.args.name) =
    subst (λ set. IsSome (value_of set.entries c.args.name)) (sym c.self.view_is) c.requires in
    let within : c.index_of.result < length rows =
    present_within rows c.args.name c.index_of.result
    (c.index_of.ensures.place ∙ ap (λ y. y.sender) c.name.view_is) some in
    let made : entries_from 1 (slice_set rows c.index_of.result new) ≡ with_value
    (entries_from 1 rows) (record { sender = x.sender; seq = x.seq }) v =
    replaced_here rows (record { sender = x.sender; seq = x.seq })
    v c.index_of.result row new c.index_of.ensures.place within c.index_mut-row.ensures.value
    c.replace-old.ensures.new in
    ap (λ es. record { entries = es; reserved = c.self.inside.reserved })
    (made ∙ ap (λ y. with_value (entries_from 1 rows) y v) c.name.view_is)
    ∙ ap (λ set. record { entries = with_value set.entries c.args.name v; reserved = set.reserved })
    c.self.view_is
