use Rattle.urb_certified.proofs.Common.{Certificates, IsJoined, all_names, ap, false, has_name}
use Rattle.urb_certified.proofs.Common.{name_lt, placed, rules, same_name, sym, vec_capacity}
use Rattle.urb_certified.proofs.Common.{vec_len, ◌<◌, ◌∙◌, ◌≡◌}
use Rattle.std.proofs.lemmas.Bool.{cond-false, ltb-true}
use Rattle.urb_certified.proofs.RisingSets.{set_with}
use Rattle.urb_certified.proofs.NameOrder.{names_in_order}
use Rattle.urb_certified.proofs.SenderReaches.{held_has}
use Rattle.urb_certified.proofs.certified.Certified.add.Goals as goal

pub join-requires-clause-absent : goal.join-requires-clause-absent
join-requires-clause-absent g c =
    sym (held_has c.self.inside.low c.self.inside.above.items c.args.name)
    ∙ (ap (λ (d : Certificates). has_name d.names c.args.name) c.self.view_is
    ∙ (sym c.has.ensures ∙ c.if-has.false))

pub returns-in_err-join-clause-roomy : goal.returns-in_err-join-clause-roomy
returns-in_err-join-clause-roomy g c =
    λ same.
    let room : vec_len c.self.inside.above < vec_capacity c.self.inside.above =
    ltb-true _ _ (ap (λ (d : Certificates). d.room) c.self.view_is ∙ same) in
    let ok = c.join.ensures.roomy room in
    search rules

pub returns-clause-ok : goal.returns-clause-ok
returns-clause-ok g c =
    let a = c.self.inside in
    let x = c.args.name in
    let old = c.args.self.now in
    let none : has_name old.names x ≡ false = sym c.has.ensures ∙ c.if-has.false in
    let absent : has_name (all_names a.low a.above.items) x ≡ false =
    sym (held_has a.low a.above.items x)
    ∙ (ap (λ (d : Certificates). has_name d.names x) c.self.view_is ∙ none) in
    let joined : IsJoined a.low a.above.items x c.join.new.low c.join.new.above.items =
    c.in_ok-join.ensures.ok in
    set_with name_lt same_name names_in_order (all_names a.low a.above.items)
    (all_names c.join.new.low c.join.new.above.items) x absent joined.has
    ∙ (ap (λ (d : Certificates). placed name_lt d.names x) c.self.view_is
    ∙ sym (cond-false (has_name old.names x) old.names (placed name_lt old.names x) none))
