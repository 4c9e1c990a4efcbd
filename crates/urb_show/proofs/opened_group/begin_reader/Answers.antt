use Rattle.urb_show.proofs.Common.{AreDeliveredBy, Event, List, MarkView, [], ap, subst, sym, ◌∙◌}
use Rattle.urb_show.proofs.Common.{◌≡◌}
use Rattle.urb_show.proofs.opened_group.begin_reader.Goals as goal

pub new-requires-clause-delivered : goal.new-requires-clause-delivered
new-requires-clause-delivered g c =
    let none : c.new-moment.result ≡ [] =
    c.new-moment.ensures ∙ (c.token-3.ensures ∙ ap (λ (m : MarkView Event). m.log)
    c.mark-2.ensures) in
    subst (λ (p : List Event). AreDeliveredBy g.K.HouseName.origin p g.K.HouseName.base) (sym none)
    c.requires.delivered

pub returns : goal.returns
returns g c =
    let none : c.new-moment.result ≡ [] =
    c.new-moment.ensures ∙ (c.token-3.ensures ∙ ap (λ (m : MarkView Event). m.log)
    c.mark-2.ensures) in
    c.new.ensures ∙ ap (λ (p : List Event). record {
      seen = g.K.HouseName.base;
      told = g.K.HouseName.base;
      past = p;
    }) none
