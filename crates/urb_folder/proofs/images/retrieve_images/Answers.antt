use Rattle.urb_folder.proofs.Common.{AllAnswer, Ok, ap, inl, inr, map, refusal_of, rules, subst}
use Rattle.urb_folder.proofs.Common.{sym, written-back, ◌∙◌, ◌≡◌}
use Rattle.urb_folder.proofs.AnswerLists.{all_give}
use Rattle.urb_folder.proofs.images.retrieve_images.Goals as goal

pub returns-in-Ok-collect_opened-clause-gives : goal.returns-in-Ok-collect_opened-clause-gives
returns-in-Ok-collect_opened-clause-gives g c =
    let back =
    written-back c.in-Ok-prepare_askings.askings.items c.as_mut_slice.result.now
    c.ask_all.new.askings c.in-Ok-prepare_askings.askings.len
    c.in-Ok-prepare_askings.askings.ok.0 c.as_mut_slice.ensures.value c.ask_all.auto.askings in
    let stores : map (λ it. it.store) c.as_mut_slice.result.now ≡ c.args.stores.items =
    search rules in
    let asked : c.split_askings-stores.result.0.items ≡ map (λ it. it.store) c.ask_all.new.askings =
    c.split_askings-stores.ensures.stores ∙ ap (map (λ it. it.store)) back in
    let answers : map Ok c.in-Ok-collect_opened.images.items ≡ map
    (λ it. it.answer) c.ask_all.new.askings =
    c.in-Ok-collect_opened.ensures.all
    ∙ (c.split_askings-stores.ensures.answers ∙ ap (map (λ it. it.answer)) back) in
    all_give g.S.Stable c.args.stores.items c.in-Ok-collect_opened.images.items
    c.split_askings-stores.result.0.items
    (subst (λ before. AllAnswer g.S.Stable before
    (map Ok c.in-Ok-collect_opened.images.items) c.split_askings-stores.result.0.items) stores
    (subst (λ after. AllAnswer g.S.Stable (map (λ it. it.store) c.as_mut_slice.result.now)
    (map Ok c.in-Ok-collect_opened.images.items) after) (sym asked)
    (subst (λ them. AllAnswer g.S.Stable (map (λ it. it.store) c.as_mut_slice.result.now) them
    (map (λ it. it.store) c.ask_all.new.askings)) (sym answers) c.ask_all.ensures)))

pub returns-clause-gives : goal.returns-clause-gives
returns-clause-gives g c =
    let back =
    written-back c.in-Ok-prepare_askings.askings.items c.as_mut_slice.result.now
    c.ask_all.new.askings c.in-Ok-prepare_askings.askings.len
    c.in-Ok-prepare_askings.askings.ok.0 c.as_mut_slice.ensures.value c.ask_all.auto.askings in
    let stores : map (λ it. it.store) c.as_mut_slice.result.now ≡ c.args.stores.items =
    search rules in
    let asked : c.split_askings-stores.result.0.items ≡ map (λ it. it.store) c.ask_all.new.askings =
    c.split_askings-stores.ensures.stores ∙ ap (map (λ it. it.store)) back in
    let answers : c.split_askings-stores.result.1.items ≡ map
    (λ it. it.answer) c.ask_all.new.askings =
    c.split_askings-stores.ensures.answers ∙ ap (map (λ it. it.answer)) back in
    inl (record {
      answers = c.split_askings-stores.result.1.items;
      answered =
          subst (λ before. AllAnswer g.S.Stable before c.split_askings-stores.result.1.items
          c.split_askings-stores.result.0.items) stores
          (subst (λ after. AllAnswer g.S.Stable
          (map (λ it. it.store) c.as_mut_slice.result.now)
          c.split_askings-stores.result.1.items after) (sym asked)
          (subst (λ them. AllAnswer g.S.Stable (map (λ it. it.store) c.as_mut_slice.result.now) them
          (map (λ it. it.store) c.ask_all.new.askings)) (sym answers) c.ask_all.ensures));
      told = elim c.in-Err-collect_opened.ensures.fault [
        | inl fails ↦ inl (c.in-Err-collect_opened.fault, fails, c.refusal.ensures)
        | inr none ↦ inr (c.refusal.ensures ∙ ap refusal_of none.1)
      ];
    })
