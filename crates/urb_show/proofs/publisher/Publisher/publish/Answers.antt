use Rattle.urb_show.proofs.Common.{Addition, Agree, AreTimely, IsPrefix, List, NameView}
use Rattle.urb_show.proofs.Common.{PublisherView, Some, ap, drop, lists_of, subst, sym, ◌∙◌, ◌≡◌}
use Rattle.urb_show.proofs.Prefixes.{prefix_self}
use Rattle.urb_show.proofs.PublishingSteps.{now_published, turns}
use Rattle.urb_show.proofs.publisher.Publisher.publish.Goals as goal

pub publish_as-writer-requires : goal.publish_as-writer-requires
publish_as-writer-requires g c next is =
    let names : NameView = record {
      book = g.K.HouseName.book;
      history = g.K.HouseName.history;
      origin = g.K.HouseName.origin;
      base = g.K.HouseName.base;
    } in
    let e : c.self.inside.writer ≡ Some c.in-Some.writer =
    sym c.take.ensures.value ∙ c.in-Some.is in
    let has = rw e at c.self.invariant.3 in
    let flushed : c.self.inside.queued ≡ c.self.inside.all =
    ap (λ (p : PublisherView). p.queued) c.self.view_is
    ∙ (c.requires.flushed ∙ sym (ap (λ (p : PublisherView). p.all) c.self.view_is)) in
    let agree : Agree (lists_of g.K.HouseName.base c.self.inside.queued) =
    rw flushed c.self.invariant.1 in
    let timely : AreTimely names c.self.inside.queued = rw flushed c.self.invariant.6 in
    turns names c.self.inside.shown c.self.inside.queued
    c.in-Some.writer.desk.shown.value next
    (drop c.in-Some.writer.behind c.in-Some.writer.log.items)
    _ _ has.0 has.1 c.self.invariant.0 agree c.self.invariant.5 timely is

pub invariant_of-self : goal.invariant_of-self
invariant_of-self g c =
    let names : NameView = record {
      book = g.K.HouseName.book;
      history = g.K.HouseName.history;
      origin = g.K.HouseName.origin;
      base = g.K.HouseName.base;
    } in
    let e : c.self.inside.writer ≡ Some c.in-Some.writer =
    sym c.take.ensures.value ∙ c.in-Some.is in
    let has = rw e at c.self.invariant.3 in
    let flushed : c.self.inside.queued ≡ c.self.inside.all =
    ap (λ (p : PublisherView). p.queued) c.self.view_is
    ∙ (c.requires.flushed ∙ sym (ap (λ (p : PublisherView). p.all) c.self.view_is)) in
    let done = rw c.in-Ok.is at c.publish_as-writer.ensures.values in
    let writer =
    now_published names c.self.inside.shown c.self.inside.queued
    c.self.inside.all c.copy.result c.in-Some.writer.desk.shown.value
    c.publish_as-writer.result.0.desk.shown.value
    (drop c.in-Some.writer.behind c.in-Some.writer.log.items)
    _ has.0 has.1 flushed c.copy.ensures done in
    let whole : IsPrefix c.copy.result c.self.inside.queued =
    subst (λ (w : List Addition). IsPrefix w c.self.inside.queued)
    (flushed ∙ sym c.copy.ensures) (prefix_self c.self.inside.queued) in (
      whole,
      c.self.invariant.1,
      c.self.invariant.2,
      rw c.replace.ensures.after writer,
      c.self.invariant.4,
      c.self.invariant.5,
      c.self.invariant.6,
    )
