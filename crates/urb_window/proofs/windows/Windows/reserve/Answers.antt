use Rattle.urb_window.proofs.Common.{AllByRecursion, IsRow, MAX_SENDERS, Some, ap, entries_from}
use Rattle.urb_window.proofs.Common.{length, pairs_of, refl, rules, set-get_or, slice_set, subst}
use Rattle.urb_window.proofs.Common.{sym, ◌<◌, ◌∙◌, ◌≡◌, ◌≤◌}
use Rattle.urb_window.proofs.PreservedWindows.{kept_filled, kept_reserved, same_here}
use Rattle.urb_window.proofs.windows.Windows.reserve.Goals as goal

-- the allocation of rows was refused
pub invariant_of-self : goal.invariant_of-self
invariant_of-self g c =
    kept_filled c.self.inside _ refl c.fill.ensures.most c.fill.ensures.rows
    (λ e. (c.fill.ensures.full e).0) c.self.invariant

-- the row's own allocation was refused
pub invariant_of-self-in_err-reserve : goal.invariant_of-self-in_err-reserve
invariant_of-self-in_err-reserve g c =
    let rows = c.fill.new.rows.items in
    let i = c.index_of.result in
    let row = c.index_mut-row.result.now in
    let unchanged : c.reserve.new.self ≡ row = search rules in
    let same : slice_set rows i c.reserve.new.self ≡ rows =
    ap (slice_set rows i) (unchanged ∙ c.index_mut-row.ensures.value) ∙ set-get_or rows i row in
    let most : length (slice_set rows i c.reserve.new.self) ≤ MAX_SENDERS =
    subst (λ rs. length rs ≤ MAX_SENDERS) (sym same) c.fill.ensures.most in
    kept_filled c.self.inside _ refl most
    (λ h. subst (AllByRecursion IsRow) (sym same) (c.fill.ensures.rows h))
    (λ e. same ∙ (c.fill.ensures.full e).0) c.self.invariant

pub invariant_of-self-2 : goal.invariant_of-self-2
invariant_of-self-2 g c =
    let rows = c.fill.new.rows.items in
    let i = c.index_of.result in
    let new = c.reserve.new.self in
    let senders : length rows ≡ MAX_SENDERS = search rules in
    let within : i < length rows = search rules in
    let promise : new.reserved ≡ Some c.name.inside.seq = search rules in
    let is : IsRow new = c.recall-2.ensures in
    kept_reserved _ rows i new c.args.name refl senders
    (c.fill.ensures.rows c.self.invariant.rows) refl
    (c.index_of.ensures.place ∙ ap (λ y. y.sender) c.name.view_is) within
    (promise ∙ ap (λ y. Some y.seq) c.name.view_is) is

pub returns-clause-ok : goal.returns-clause-ok
returns-clause-ok g c =
    let rows = c.fill.new.rows.items in
    let i = c.index_of.result in
    let row = c.index_mut-row.result.now in
    let new = c.reserve.new.self in
    let within : i < length rows = search rules in
    let pairs : pairs_of new ≡ pairs_of row = search rules in
    let same : entries_from 1 (slice_set rows i new) ≡ entries_from 1 rows =
    same_here rows i row new within c.index_mut-row.ensures.value pairs in
    ap (λ es. record { entries = es; reserved = Some c.args.name })
    (same ∙ (c.fill.ensures.entries ∙ ap (λ set. set.entries) c.self.view_is))
