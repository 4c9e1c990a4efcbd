use Rattle.urb_show.proofs.Common.{Addition, Event, IsIssue, IsPageOf, IsPrefix, List, Lists}
use Rattle.urb_show.proofs.Common.{MarkView, NameView, ap, arith, inr, le_refl, list_at, lists_of}
use Rattle.urb_show.proofs.Common.{rules, subst, sym, ℕ, ◌-◌, ◌∙◌, ◌≡◌}
use Rattle.urb_show.proofs.PublishingSteps.{rises}
use Rattle.urb_show.proofs.TakenLists.{taken, taken_agree, taken_delivered}
use Rattle.urb_show.proofs.reader.LogReader.read.Goals as goal

pub enter_as-requires : goal.enter_as-requires
enter_as-requires g c x =
    rises (record {
      book = g.K.HouseName.book;
      history = g.K.HouseName.history;
      origin = g.K.HouseName.origin;
      base = g.K.HouseName.base;
    }) _ _ x x (le_refl _) (λ good. good)

pub invariant_of-self-in-Ok-page : goal.invariant_of-self-in-Ok-page
invariant_of-self-in-Ok-page g c =
    let names : NameView = record {
      book = g.K.HouseName.book;
      history = g.K.HouseName.history;
      origin = g.K.HouseName.origin;
      base = g.K.HouseName.base;
    } in
    let one = c.copy_after-token.ensures in
    let two = c.copy_after-token-2.ensures in
    let good : IsIssue names c.get-published.result.now =
    subst (IsIssue names) (sym c.get-published.ensures) c.in-Ok.ensures.1.0 in
    let log : c.get-published.result.now.mark.log ≡ c.copy_after-token-2.result =
    ap (λ (m : MarkView Addition). m.log) (sym c.mark.ensures)
    ∙ (sym c.token.ensures ∙ (sym one.same ∙ sym two.same)) in
    let events : IsPrefix c.get-published.result.now.events.log c.learn.new.self =
    subst (λ (l : List Event). IsPrefix l c.learn.new.self)
    (c.new-moment.ensures ∙ (c.token-3.ensures
    ∙ ap (λ (m : MarkView Event). m.log) c.events.ensures)) c.learn.ensures.earlier in (
      search rules,
      taken_agree names c.get-published.result.now c.copy_after-token-2.result c.learn.new.self good
          log events,
      c.self.invariant.2,
      taken_delivered names c.get-published.result.now c.copy_after-token-2.result
          c.learn.new.self good log events,
    )

pub invariant_of-self-2 : goal.invariant_of-self-2
invariant_of-self-2 g c =
    let names : NameView = record {
      book = g.K.HouseName.book;
      history = g.K.HouseName.history;
      origin = g.K.HouseName.origin;
      base = g.K.HouseName.base;
    } in
    let one = c.copy_after-token.ensures in
    let two = c.copy_after-token-2.ensures in
    let good : IsIssue names c.get-published.result.now =
    subst (IsIssue names) (sym c.get-published.ensures) c.in-Ok.ensures.1.0 in
    let log : c.get-published.result.now.mark.log ≡ c.copy_after-token-2.result =
    ap (λ (m : MarkView Addition). m.log) (sym c.mark.ensures)
    ∙ (sym c.token.ensures ∙ (sym one.same ∙ sym two.same)) in
    let events : IsPrefix c.get-published.result.now.events.log c.learn.new.self =
    subst (λ (l : List Event). IsPrefix l c.learn.new.self)
    (c.new-moment.ensures ∙ (c.token-3.ensures
    ∙ ap (λ (m : MarkView Event). m.log) c.events.ensures)) c.learn.ensures.earlier in (
      search rules,
      taken_agree names c.get-published.result.now c.copy_after-token-2.result c.learn.new.self good
          log events,
      c.self.invariant.2,
      taken_delivered names c.get-published.result.now c.copy_after-token-2.result
          c.learn.new.self good log events,
    )

pub returns-in-Ok-page-clause-page : goal.returns-in-Ok-page-clause-page
returns-in-Ok-page-clause-page g c =
    let names : NameView = record {
      book = g.K.HouseName.book;
      history = g.K.HouseName.history;
      origin = g.K.HouseName.origin;
      base = g.K.HouseName.base;
    } in
    let one = c.copy_after-token.ensures in
    let two = c.copy_after-token-2.ensures in
    let good : IsIssue names c.get-published.result.now =
    subst (IsIssue names) (sym c.get-published.ensures) c.in-Ok.ensures.1.0 in
    let log : c.get-published.result.now.mark.log ≡ c.copy_after-token-2.result =
    ap (λ (m : MarkView Addition). m.log) (sym c.mark.ensures)
    ∙ (sym c.token.ensures ∙ (sym one.same ∙ sym two.same)) in
    let events : IsPrefix c.get-published.result.now.events.log c.learn.new.self =
    subst (λ (l : List Event). IsPrefix l c.learn.new.self)
    (c.new-moment.ensures ∙ (c.token-3.ensures
    ∙ ap (λ (m : MarkView Event). m.log) c.events.ensures)) c.learn.ensures.earlier in
    let seen : IsPrefix c.self.inside.seen c.copy_after-token-2.result =
    subst (λ (w : List Addition). IsPrefix c.self.inside.seen w)
    (sym (two.same ∙ one.same)) one.begins in
    let told : IsPrefix c.self.inside.told c.copy_after-token-2.result =
    subst (λ (w : List Addition). IsPrefix c.self.inside.told w) (sym two.same) two.begins in
    let takes =
    taken names c.get-published.result.now c.copy_after-token-2.result c.learn.new.self good log
    events c.self.inside.seen c.self.inside.told c.self.inside.moment c.args.self.now
    c.self.view_is seen told c.learn.ensures.told in
    let base = g.K.HouseName.base in
    let lists : c.get-published.result.now.lists ≡ lists_of base c.copy_after-token-2.result =
    good.lists ∙ ap (lists_of base) log in
    let place : c.from.result ≡ c.args.node - 1 =
    omega (arith, c.from.ensures, c.number.ensures.number) in
    let there =
    subst (λ (k : ℕ). IsPageOf (list_at c.get-published.result.now.lists k)
    c.args.first c.args.max c.in-Ok-page.page) place c.in-Ok-page.ensures in
    let page =
    subst (λ (w : Lists). IsPageOf
    (list_at w (c.args.node - 1)) c.args.first c.args.max c.in-Ok-page.page) lists there in
    (takes, page)

pub returns-clause-refused : goal.returns-clause-refused
returns-clause-refused g c =
    let names : NameView = record {
      book = g.K.HouseName.book;
      history = g.K.HouseName.history;
      origin = g.K.HouseName.origin;
      base = g.K.HouseName.base;
    } in
    let one = c.copy_after-token.ensures in
    let two = c.copy_after-token-2.ensures in
    let good : IsIssue names c.get-published.result.now =
    subst (IsIssue names) (sym c.get-published.ensures) c.in-Ok.ensures.1.0 in
    let log : c.get-published.result.now.mark.log ≡ c.copy_after-token-2.result =
    ap (λ (m : MarkView Addition). m.log) (sym c.mark.ensures)
    ∙ (sym c.token.ensures ∙ (sym one.same ∙ sym two.same)) in
    let events : IsPrefix c.get-published.result.now.events.log c.learn.new.self =
    subst (λ (l : List Event). IsPrefix l c.learn.new.self)
    (c.new-moment.ensures ∙ (c.token-3.ensures
    ∙ ap (λ (m : MarkView Event). m.log) c.events.ensures)) c.learn.ensures.earlier in
    let seen : IsPrefix c.self.inside.seen c.copy_after-token-2.result =
    subst (λ (w : List Addition). IsPrefix c.self.inside.seen w)
    (sym (two.same ∙ one.same)) one.begins in
    let told : IsPrefix c.self.inside.told c.copy_after-token-2.result =
    subst (λ (w : List Addition). IsPrefix c.self.inside.told w) (sym two.same) two.begins in
    let takes =
    taken names c.get-published.result.now c.copy_after-token-2.result c.learn.new.self good log
    events c.self.inside.seen c.self.inside.told c.self.inside.moment c.args.self.now
    c.self.view_is seen told c.learn.ensures.told in
    inr takes
