use Rattle.urb_fifo.proofs.Common.{Delivery, IsNameOf, Label, Some, ap, ap₂, arith, cond-false}
use Rattle.urb_fifo.proofs.Common.{false, has_name, length, map, name, name_lt, newly_released}
use Rattle.urb_fifo.proofs.Common.{numbers_from, placed, refl, rules, suc, sym, vec_capacity}
use Rattle.urb_fifo.proofs.Common.{vec_len, view_of, ◌++◌, ◌+◌, ◌-◌, ◌∙◌, ◌≡◌, ◌≤◌}
use Rattle.urb_fifo.proofs.LogReleases.{certifying_new}
use Rattle.urb_fifo.proofs.PromisedSpace.{kept_bigger, kept_certified, newly_count}
use Rattle.urb_fifo.proofs.fifo.Fifo.certify_new.Goals.{After-self-1}
use Rattle.urb_fifo.proofs.fifo.Fifo.certify_new.Goals as goal

pub returns-in_err-reserve-clause-roomy : goal.returns-in_err-reserve-clause-roomy
returns-in_err-reserve-clause-roomy g c =
    λ same.
    let a = c.self.inside in
    let reserved : a.reserved ≡ Some c.args.name =
    ap (λ (d : Delivery). d.reserved) c.self.view_is ∙ same in
    let none : has_name a.certified.names c.args.name ≡ false =
    ap (λ (d : Delivery). has_name d.certified c.args.name) c.self.view_is ∙ c.requires.new in
    let from = c.range_released_by-from.result.0 in
    let end = c.range_released_by-from.result.1 in
    let names : newly_released a.log.items a.certified.names c.args.name ≡ map
    (name c.args.name.sender) (numbers_from (suc from) (end - from)) =
    ap (λ (d : Delivery). newly_released d.log d.certified c.args.name) c.self.view_is
    ∙ c.range_released_by-from.ensures.names in
    let count : length (newly_released a.log.items a.certified.names c.args.name) ≡ end - from =
    newly_count (view_of a) c.args.name from end names in
    let room : vec_len a.log + length
    (newly_released a.log.items a.certified.names c.args.name) ≤ vec_capacity a.log =
    (c.self.invariant.room c.args.name reserved).log none in
    let fits : vec_len a.log + (end - from) ≤ vec_capacity a.log = omega arith in
    let ok = c.reserve.ensures.succeeds fits in
    search rules

pub returns-in_err-add-clause-roomy : goal.returns-in_err-add-clause-roomy
returns-in_err-add-clause-roomy g c =
    λ same.
    let a = c.self.inside in
    let reserved : a.reserved ≡ Some c.args.name =
    ap (λ (d : Delivery). d.reserved) c.self.view_is ∙ same in
    let none : has_name a.certified.names c.args.name ≡ false =
    ap (λ (d : Delivery). has_name d.certified c.args.name) c.self.view_is ∙ c.requires.new in
    let ok = c.add.ensures.roomy ((c.self.invariant.room c.args.name reserved).certified none) in
    search rules

none_before : (g : _) (c : After-self-1 g)
    → has_name c.self.inside.certified.names c.args.name ≡ false
none_before g c =
    ap (λ (d : Delivery). has_name d.certified c.args.name) c.self.view_is ∙ c.requires.new

-- the name is at its place
certified_is : (g : _) (c : After-self-1 g)
    → c.add.new.self.names ≡ placed name_lt c.self.inside.certified.names c.args.name
certified_is g c =
    let old = c.self.inside.certified.names in
    let x = c.args.name in
    c.in_ok-add.ensures.ok ∙ cond-false (has_name old x) old (placed name_lt old x)
    (none_before g c)

-- the released names are appended to the log
log_is : (g : _) (c : After-self-1 g)
    → c.release.new.log.items ≡ c.self.inside.log.items
    ++ newly_released c.self.inside.log.items c.self.inside.certified.names c.args.name
log_is g c =
    let names =
    ap (λ (d : Delivery). newly_released d.log d.certified c.args.name) c.self.view_is
    ∙ c.range_released_by-from.ensures.names in
    let from = c.range_released_by-from.result.0 in
    let end = c.range_released_by-from.result.1 in
    let sender = ap (λ (x : Label). x.sender) c.name.view_is in
    c.release.ensures.log
    ∙ (ap (λ s. c.reserve.new.self.items ++ map (name s) (numbers_from (suc from) (end - from)))
    sender
    ∙ ap₂ (λ xs ys. xs ++ ys) c.in_ok-reserve.ensures.items (sym names))

pub invariant_of-self-2 : goal.invariant_of-self-2
invariant_of-self-2 g c =
    let is : IsNameOf c.self.inside.config c.args.name =
    record {
      label = c.range_released_by-from.ensures.label;
      sender = search rules;
      seq =
          search rules;
    } in
    kept_certified c.self.inside _ c.args.name is
    (none_before g c) refl c.reservation_after-self-inside.ensures (certified_is g c)
    (log_is g c) c.self.invariant

pub returns-clause-ok : goal.returns-clause-ok
returns-clause-ok g c =
    rw (← c.self.view_is) (certifying_new (view_of c.self.inside) _ c.args.name
    (none_before g c) refl (certified_is g c) (log_is g c) c.reservation_after-self-inside.ensures)

-- the allocation for the log was refused
pub invariant_of-self : goal.invariant_of-self
invariant_of-self g c =
    let grown = c.reserve.ensures in
    kept_bigger c.self.inside _ refl refl refl
    (λ room. room) grown.items grown.len grown.capacity c.self.invariant

-- the allocation for the certificates was refused
pub invariant_of-self-in_err-add : goal.invariant_of-self-in_err-add
invariant_of-self-in_err-add g c =
    let log = c.reserve.ensures in
    kept_bigger c.self.inside _ refl refl c.in_err-add.ensures.err.0 c.in_err-add.ensures.err.1
    log.items log.len log.capacity c.self.invariant
