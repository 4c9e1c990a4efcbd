use Rattle.std.proofs.Common.{rules, refl, sym, ap, ◌∙◌, ◌≡◌, false, Some}
use Rattle.std.proofs.lemmas.Bool.{cond-false}
use Rattle.urb_names.specs.Names.{has_name, name_lt}
use Rattle.urb_names.specs.RisingLists.{placed}
use Rattle.urb_majority.specs.Acks.{AckSet}
use Rattle.urb_majority.proofs.PromisedSpace.{kept_bigger, kept_certified}
use Rattle.urb_majority.proofs.acks.Acks.certify.Goals as goal

-- the allocation was refused
pub invariant_of-self : goal.invariant_of-self
invariant_of-self g c =
    let same = c.in_err-add.ensures.err in
    kept_bigger c.self.inside _ refl refl same.0 same.1 c.self.invariant

pub invariant_of-self-2 : goal.invariant_of-self-2
invariant_of-self-2 g c =
    let old = c.self.inside.certified.names in
    let x = c.args.name in
    let none : has_name old x ≡ false =
    ap (λ (a : AckSet). has_name a.certified x) c.self.view_is
    ∙ (sym c.certified.ensures ∙ c.if-certified.false) in
    kept_certified c.self.inside _ x c.reservation_after-self-inside.ensures
    (c.in_ok-add.ensures.ok ∙ cond-false (has_name old x) old (placed name_lt old x) none)
    refl c.self.invariant

pub returns-in_err-add-clause-roomy : goal.returns-in_err-add-clause-roomy
returns-in_err-add-clause-roomy g c =
    λ same.
    let a = c.self.inside in
    let reserved : a.reserved ≡ Some c.args.name =
    ap (λ (d : AckSet). d.reserved) c.self.view_is ∙ same in
    let none : has_name a.certified.names c.args.name ≡ false = search rules in
    let ok = c.add.ensures.roomy ((c.self.invariant c.args.name reserved).certified none) in
    search rules
