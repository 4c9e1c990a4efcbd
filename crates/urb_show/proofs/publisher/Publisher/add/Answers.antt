use Rattle.urb_show.proofs.Common.{Addition, Agree, AreDeliveredBy, AreTimely, List, NameView}
use Rattle.urb_show.proofs.Common.{PublisherView, [], ap, lists_of, subst, sym, ◌++◌, ◌∙◌, ◌∷◌, ◌≡◌}
use Rattle.urb_show.proofs.Prefixes.{prefix_equal}
use Rattle.urb_show.proofs.TimelyAdditions.{timely_more}
use Rattle.urb_show.proofs.publisher.Publisher.add.Goals as goal

pub invariant_of-self-2 : goal.invariant_of-self-2
invariant_of-self-2 g c =
    let base = g.K.HouseName.base in
    let names : NameView = record {
      book = g.K.HouseName.book;
      history = g.K.HouseName.history;
      origin = g.K.HouseName.origin;
      base = base;
    } in
    let a : Addition = c.args.addition in
    let all : List Addition = c.self.inside.all in
    let now : c.add-added.new.self ≡ all ++ a ∷ [] =
    c.if-not-added.ensures.added ∙ ap (λ (l : List Addition). l ++ a ∷ []) c.copy-all.ensures in
    let before : all ≡ c.args.self.now.all = ap (λ (p : PublisherView). p.all) c.self.view_is in
    let flushed : c.self.inside.queued ≡ all =
    ap (λ (p : PublisherView). p.queued) c.self.view_is
    ∙ (c.requires.flushed ∙ sym before) in
    let agree : Agree (lists_of base (all ++ a ∷ [])) =
    subst (λ (l : List Addition). Agree (lists_of base (l ++ a ∷ []))) (sym before)
    c.requires.agree in
    let delivered : AreDeliveredBy g.K.HouseName.origin a.events.log
    (lists_of base (all ++ a ∷ [])) =
    subst (λ (l : List Addition).
    AreDeliveredBy g.K.HouseName.origin a.events.log (lists_of base (l ++ a ∷ []))) (sym before)
    c.requires.delivered in (
      c.self.invariant.0,
      subst (λ (l : List Addition). Agree (lists_of base l)) (sym now) agree,
      (
        now ∙ ap (λ (l : List Addition). l ++ a ∷ []) (sym flushed),
        c.mark.ensures,
      ),
      c.self.invariant.3,
      prefix_equal _ _ (sym c.copy.ensures),
      c.self.invariant.5,
      subst (AreTimely names) (sym now)
          (timely_more names all a c.self.invariant.6 c.requires.named delivered),
    )
