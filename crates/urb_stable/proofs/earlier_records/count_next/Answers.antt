use Rattle.urb_stable.proofs.Common.{Label, ap, arith, own, pend, sym, take, ◌∙◌, ◌≡◌}
use Rattle.urb_stable.proofs.EarlierFacts.{count-certificate, count-other, count-own, own-room}
use Rattle.urb_stable.proofs.earlier_records.count_next.Goals as goal

pub count_message-requires-clause-room : goal.count_message-requires-clause-room
count_message-requires-clause-room g c =
    let few =
    own-room c.args.number c.args.image.now c.args.place c.args.counts.now c.requires.within
    c.requires.counted in
    let within = c.requires.within in
    let short = c.requires.short in
    omega (arith, few, within, short)

pub returns-in-Cert : goal.returns-in-Cert
returns-in-Cert g c =
    count-certificate c.args.number c.args.image.now c.args.place c.index-image-place.result
    c.in-Cert.field-0 c.args.counts.now c.requires.within c.index-image-place.is c.in-Cert.is
    c.requires.counted

pub returns-in_ok-count_message-in-Pend : goal.returns-in_ok-count_message-in-Pend
returns-in_ok-count_message-in-Pend g c =
    let mine : c.in-Pend.name.sender ≡ c.args.number =
    ap (λ (x : Label). x.sender) (sym c.name.view_is)
    ∙ (sym c.number.ensures.number ∙ (sym c.from.ensures ∙ c.if-from-number.true)) in
    count-own c.args.number c.args.image.now c.args.place c.index-image-place.result c.in-Pend.name
    c.in-Pend.message _ c.requires.within c.index-image-place.is c.in-Pend.is mine
    (c.in_ok-count_message-in-Pend.ensures
    (own c.args.number (pend (take c.args.place c.args.image.now))) c.in-Pend.message
    (sym c.client.ensures) c.requires.counted)

pub returns-else-from-number : goal.returns-else-from-number
returns-else-from-number g c =
    count-other c.args.number c.args.image.now c.args.place c.index-image-place.result
    c.in-Pend.name c.in-Pend.message c.args.counts.now c.requires.within c.index-image-place.is
    c.in-Pend.is
    (λ f. c.if-from-number.false (c.from.ensures
    ∙ (c.number.ensures.number ∙ (ap (λ (x : Label). x.sender) c.name.view_is ∙ f))))
    c.requires.counted
