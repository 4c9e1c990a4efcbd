use Rattle.urb_window.proofs.Common.{AllByRecursion, HasRow, IsInserted, IsRow, MAX_SENDERS, None}
use Rattle.urb_window.proofs.Common.{Some, ap, arith, entries_from, entry_lt, length, length-set}
use Rattle.urb_window.proofs.Common.{placed, refl, row_at, rules, set-get_or, slice_set, subst, sym}
use Rattle.urb_window.proofs.Common.{value_of, ◌<◌, ◌∙◌, ◌≡◌, ◌≤◌}
use Rattle.urb_window.proofs.RowChanges.{all_set}
use Rattle.urb_window.proofs.PreservedWindows.{found_here, inserted_here, kept_filled}
use Rattle.urb_window.proofs.PreservedWindows.{kept_unreserved, row_here}
use Rattle.urb_window.proofs.windows.Windows.insert.Goals as goal

-- the allocation of rows was refused
pub invariant_of-self : goal.invariant_of-self
invariant_of-self g c =
    kept_filled c.self.inside _ refl c.fill.ensures.most c.fill.ensures.rows
    (λ e. (c.fill.ensures.full e).0) c.self.invariant

pub returns-in-Err-clause-reserved : goal.returns-in-Err-clause-reserved
returns-in-Err-clause-reserved g c =
    λ same.
    let a = c.self.inside in
    let reserved : a.reserved ≡ Some c.args.name = ap (λ set. set.reserved) c.self.view_is ∙ same in
    let room : HasRow a c.args.name = c.self.invariant.room c.args.name reserved in
    let ok = (c.fill.ensures.full room.senders).1 in
    search rules

pub insert-requires-clause-absent : goal.insert-requires-clause-absent
insert-requires-clause-absent g c =
    let rows = c.fill.new.rows.items in
    let x = c.name.inside in
    let row = c.index_mut-row.result.now in
    let within : c.index_of.result < length rows = search rules in
    found_here rows (record { sender = x.sender; seq = x.seq })
    c.index_of.result row c.index_of.ensures.place within c.index_mut-row.ensures.value
    ∙ (ap (λ y. value_of (entries_from 1 rows) y) c.name.view_is
    ∙ (ap (λ es. value_of es c.args.name)
    (c.fill.ensures.entries ∙ ap (λ set. set.entries) c.self.view_is) ∙ c.requires.absent))

-- the row's own allocation was refused
pub invariant_of-self-in-Err-insert : goal.invariant_of-self-in-Err-insert
invariant_of-self-in-Err-insert g c =
    let rows = c.fill.new.rows.items in
    let i = c.index_of.result in
    let row = c.index_mut-row.result.now in
    let unchanged : c.insert.new.self ≡ row = search rules in
    let same : slice_set rows i c.insert.new.self ≡ rows =
    ap (slice_set rows i) (unchanged ∙ c.index_mut-row.ensures.value) ∙ set-get_or rows i row in
    let most : length (slice_set rows i c.insert.new.self) ≤ MAX_SENDERS =
    subst (λ rs. length rs ≤ MAX_SENDERS) (sym same) c.fill.ensures.most in
    kept_filled c.self.inside _ refl most
    (λ h. subst (AllByRecursion IsRow) (sym same) (c.fill.ensures.rows h))
    (λ e. same ∙ (c.fill.ensures.full e).0) c.self.invariant

pub returns-in-Err-insert-clause-reserved : goal.returns-in-Err-insert-clause-reserved
returns-in-Err-insert-clause-reserved g c =
    λ same.
    let a = c.self.inside in
    let rows = c.fill.new.rows.items in
    let x = c.name.inside in
    let row = c.index_mut-row.result.now in
    let within : c.index_of.result < length rows = search rules in
    let reserved : a.reserved ≡ Some c.args.name = ap (λ set. set.reserved) c.self.view_is ∙ same in
    let room : HasRow a c.args.name = c.self.invariant.room c.args.name reserved in
    let filled : rows ≡ a.rows.items = (c.fill.ensures.full room.senders).0 in
    let promise : row.reserved ≡ Some x.seq =
    sym (ap (λ r. r.reserved) (row_here rows x.sender c.index_of.result row c.index_of.ensures.place
    within c.index_mut-row.ensures.value))
    ∙ (ap (λ y. (row_at rows y.sender).reserved) c.name.view_is
    ∙ (ap (λ rs. (row_at rs c.args.name.sender).reserved) filled
    ∙ (room.room ∙ ap (λ y. Some y.seq) (sym c.name.view_is)))) in
    let ok = c.insert.ensures.reserved promise in
    search rules

pub invariant_of-self-2 : goal.invariant_of-self-2
invariant_of-self-2 g c =
    let rows = c.fill.new.rows.items in
    let i = c.index_of.result in
    let new = c.insert.new.self in
    let long : length (slice_set rows i new) ≡ length rows = length-set rows i new in
    let most : length rows ≤ MAX_SENDERS = c.fill.ensures.most in
    let is : IsRow new = c.recall-2.ensures in
    kept_unreserved _ (omega arith)
    (all_set rows i new (c.fill.ensures.rows c.self.invariant.rows) is) refl

pub returns-clause-ok : goal.returns-clause-ok
returns-clause-ok g c =
    let rows = c.fill.new.rows.items in
    let i = c.index_of.result in
    let x = c.name.inside in
    let v = c.args.value in
    let row = c.index_mut-row.result.now in
    let new = c.insert.new.self in
    let within : i < length rows = search rules in
    let put : IsInserted row x.seq v new = search rules in
    let made : entries_from 1 (slice_set rows i new) ≡ placed entry_lt (entries_from 1 rows)
    (record { sender = x.sender; seq = x.seq }, v) =
    inserted_here rows (record { sender = x.sender; seq = x.seq })
    v i row new c.index_of.ensures.place within c.index_mut-row.ensures.value put in
    ap (λ es. record { entries = es; reserved = None })
    (made
    ∙ (ap (λ y. placed entry_lt (entries_from 1 rows) (y, v)) c.name.view_is
    ∙ ap (λ es. placed entry_lt es (c.args.name, v))
    (c.fill.ensures.entries ∙ ap (λ set. set.entries) c.self.view_is)))
