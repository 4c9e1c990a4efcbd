use Rattle.urb_show.proofs.Common.{Addition, Agree, Event, IsSound, Lists, MarkView, NameView, []}
use Rattle.urb_show.proofs.Common.{ap, issue_of, refl, subst, ◌∙◌, ◌≡◌}
use Rattle.urb_show.proofs.DeliveredPlaces.{opened_delivered}
use Rattle.urb_show.proofs.GroupLists.{lists_agree}
use Rattle.urb_show.proofs.PublishingSteps.{first_issue}
use Rattle.urb_show.proofs.TimelyAdditions.{timely_none}
use Rattle.urb_show.proofs.opened_group.make_writer.Goals as goal

pub new-requires-clause-rule : goal.new-requires-clause-rule
new-requires-clause-rule g c =
    let names : NameView = record {
      book = g.K.HouseName.book;
      history = g.K.HouseName.history;
      origin = g.K.HouseName.origin;
      base = g.K.HouseName.base;
    } in
    let base = g.K.HouseName.base in
    let lists = c.in_ok-first.ensures.0 ∙ c.requires.names.3 in
    let book = c.mark.ensures ∙ ap (λ b. record { book = b; log = [] }) c.requires.names.0 in
    let history = c.mark-2.ensures ∙ ap (λ b. record { book = b; log = [] }) c.requires.names.1 in
    let is : c.new-first.result ≡ issue_of g.K.HouseName.book g.K.HouseName.history base [] =
    c.new-first.ensures
    ∙ (ap (λ (ls : Lists).
    record { lists = ls; mark = c.mark.result; events = c.mark-2.result }) lists
    ∙ (ap (λ (m : MarkView Addition).
    record { lists = base; mark = m; events = c.mark-2.result }) book
    ∙ ap (λ (m : MarkView Event). record {
      lists = base;
      mark = record { book = g.K.HouseName.book; log = [] };
      events = m;
    }) history)) in
    first_issue names c.new-first.result is
    (subst Agree c.requires.names.3
    (lists_agree c.args.group.now c.recall_deliveries.ensures.agree))
    (subst IsSound c.requires.names.2 c.recall_deliveries.ensures.sound)
    (timely_none names (opened_delivered g.K.HouseName.origin c.args.group.now [] base refl
    c.requires.names.2 c.requires.names.3 c.recall_deliveries.ensures.sound))
