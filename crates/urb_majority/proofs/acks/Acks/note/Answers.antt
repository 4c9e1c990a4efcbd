use Rattle.std.proofs.Common.{rules, refl, ap, ◌∙◌, ◌≡◌, Some}
use Rattle.urb_majority.specs.Acks.{AckSet}
use Rattle.urb_names.specs.Names.{has_name}
use Rattle.urb_window.specs.Marks.{MarkSet}
use Rattle.urb_window.proofs.MaskClearings.{roomy_with}
use Rattle.urb_majority.proofs.PromisedSpace.{kept_bigger, kept_noted}
use Rattle.urb_majority.proofs.acks.Acks.note.Goals as goal

-- the allocation was refused
pub invariant_of-self : goal.invariant_of-self
invariant_of-self g c =
    kept_bigger c.self.inside _ refl c.in_err-add.ensures.err refl (λ room. room) c.self.invariant

pub returns-in_err-add-clause-roomy : goal.returns-in_err-add-clause-roomy
returns-in_err-add-clause-roomy g c =
    λ same.
    let reserved : c.self.inside.reserved ≡ Some c.args.name =
    ap (λ (a : AckSet). a.reserved) c.self.view_is ∙ same in
    let ok = c.add.ensures.roomy (c.self.invariant c.args.name reserved).counted in
    search rules

pub invariant_of-self-2 : goal.invariant_of-self-2
invariant_of-self-2 g c =
    kept_noted c.self.inside _ c.args.name
    (ap (λ (s : MarkSet). has_name s.roomy c.args.name) c.in_ok-add.ensures.ok
    ∙ roomy_with c.self.inside.counted c.args.name)
    c.reservation_after-self-inside.ensures refl c.self.invariant
