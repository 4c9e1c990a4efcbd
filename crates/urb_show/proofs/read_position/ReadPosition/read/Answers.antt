use Rattle.urb_show.proofs.Common.{AreDeliveredBy, Event, IsPageOf, Learns, List, Lists, ReaderView}
use Rattle.urb_show.proofs.Common.{ToldView, ap, ap₂, list_at, lists_of, subst, sym, ◌-◌, ◌∙◌, ◌≡◌}
use Rattle.urb_show.specs.Readers.{Takes}
use Rattle.urb_show.proofs.ListBeginnings.{takes_through}
use Rattle.urb_show.proofs.read_position.ReadPosition.read.Goals as goal

pub returns-clause-page : goal.returns-clause-page
returns-clause-page g c =
    let base = g.K.HouseName.base in
    let origin = g.K.HouseName.origin in
    let position : ReaderView = record {
      seen = lists_of base c.self.inside.seen;
      told = lists_of base c.self.inside.told;
      past = c.self.inside.moment;
    } in
    let one : Learns (record { lists = position.seen; past = position.past })
    c.args.reader.now c.learn.new.self =
    subst (λ (w : ToldView). Learns w c.args.reader.now c.learn.new.self)
    (c.new.ensures ∙ ap₂ (λ (l : Lists) (p : List Event). record { lists = l; past = p })
    (ap (lists_of base) c.copy.ensures) c.copy-2.ensures) c.learn.ensures in
    let two : Learns (record { lists = position.told; past = position.past })
    c.learn.new.self c.learn-2.new.self =
    subst (λ (w : ToldView). Learns w c.learn.new.self c.learn-2.new.self)
    (c.new-2.ensures ∙ ap₂ (λ (l : Lists) (p : List Event). record { lists = l; past = p })
    (ap (lists_of base) c.copy-3.ensures) c.copy-4.ensures) c.learn-2.ensures in
    let read = c.in_ok-page.ensures.page in
    let through = takes_through origin position _ _ _ _ one two read.0 in
    let last : c.read.new.self.seen ≡ lists_of base c.tokens-seen.result.0 =
    c.tokens-seen.ensures.seen in
    let moment : c.read.new.self.past ≡ c.copy-5.result =
    sym (c.copy-5.ensures ∙ c.moment.ensures) in (
      subst (λ (k : ReaderView). Takes origin k (record {
        seen = lists_of base c.tokens-seen.result.0;
        told = lists_of base c.self.inside.told;
        past = c.copy-5.result;
      })) c.self.view_is
          (subst (λ (p : List Event). Takes origin position (record {
            seen = lists_of base c.tokens-seen.result.0;
            told = lists_of base c.self.inside.told;
            past = p;
          })) moment
          (subst (λ (s : Lists). Takes origin position (record {
            seen = s;
            told = lists_of base c.self.inside.told;
            past = c.read.new.self.past;
          })) last through)),
      subst (λ (s : Lists). IsPageOf (list_at s (c.args.node - 1))
          c.args.first c.args.max c.in_ok-page.page) last read.1,
    )

pub invariant_of-self : goal.invariant_of-self
invariant_of-self g c =
    let base = g.K.HouseName.base in
    let last : c.read.new.self.seen ≡ lists_of base c.tokens-seen.result.0 =
    c.tokens-seen.ensures.seen in
    let moment : c.read.new.self.past ≡ c.copy-5.result =
    sym (c.copy-5.ensures ∙ c.moment.ensures) in (
      c.tokens-seen.ensures.agree,
      c.self.invariant.1,
      subst (λ (s : Lists). AreDeliveredBy g.K.HouseName.origin c.copy-5.result s) last
          (subst (λ (p : List Event).
          AreDeliveredBy g.K.HouseName.origin p c.read.new.self.seen) moment
          c.recall.ensures.delivered),
    )
